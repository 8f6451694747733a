use native.Mathlib.Omega.{arith}
use mathlib.Core.Path.{◌≡◌, ◌∙◌}
use mathlib.Core.Bool.{◌||◌}
use lib.Dec.{eqb}
use Rattle.definition.specs.Words.{word}
use Prim.Native.Nat.{◌+◌, ◌*◌}
use Rattle.templates.proofs.Walking.{or_yes, or_no, below_start, below_done, below_out, below_next}
use Rattle.templates.proofs.pass_below.Goals as goal
use Rattle.templates.proofs.pass_below.Goals.{then-nested, else-nested}

pub loop-next-init : goal.loop-next-init
loop-next-init c = below_start _ _ _ _ _ _ c.requires.2 c.requires.3 (omega arith)

pub returns-then-owed-eq0 : goal.returns-then-owed-eq0
returns-then-owed-eq0 c = below_done _ _ _ _ _ _ _ _ _ _ c.loop-next.invariant c.if-owed-eq0.true

pub overflow_mul-first : goal.overflow_mul-first
overflow_mul-first c = let l = c.loop-next.invariant.before_end in let s = c.requires.0.1 in omega arith

pub bounds-words-first : goal.bounds-words-first
bounds-words-first c = let l = c.loop-next-test.true in let s = c.requires.0.0 in omega arith

pub bounds-words-first-in-loop-next : goal.bounds-words-first-in-loop-next
bounds-words-first-in-loop-next c = let l = c.loop-next-test.true in let s = c.requires.0.0 in omega arith

pub overflow_cast-size : goal.overflow_cast-size
overflow_cast-size c = omega (arith, c.type_inv.words (c.loop-next.next * 8 + 2))

pub bounds-words-first-in-loop-next-2 : goal.bounds-words-first-in-loop-next-2
bounds-words-first-in-loop-next-2 c = let l = c.loop-next-test.true in let s = c.requires.0.0 in omega arith

pub overflow_cast-more : goal.overflow_cast-more
overflow_cast-more c = omega (arith, c.type_inv.words (c.loop-next.next * 8 + 6))

pub text_end-to-requires : goal.text_end-to-requires
text_end-to-requires c = c.loop-next.invariant.within

pub overflow_add-owed : goal.overflow_add-owed
overflow_add-owed c = let k = c.loop-next.invariant.few in let l = c.loop-next-test.true in let s = c.requires.0.1 in let f = c.requires.1 in let w = c.type_inv.words (c.loop-next.next * 8 + 6) in omega arith

pub loop-next-preserved : goal.loop-next-preserved
loop-next-preserved c =
    let f : c.if-nested.nested ≡ (c.loop-next.nested || eqb (word c.args.words.now (c.loop-next.next * 8)) 2) =
    elim c.if-nested.branch [ then-nested w ↦ w.nested-is ∙ or_yes _ w.if-nested.true | else-nested w ↦ w.nested-is ∙ or_no _ w.if-nested.false ] in
    below_next _ _ _ _ _ _ _ _ _ _ c.loop-next.invariant c.loop-next-test.true c.if-owed-eq0.false f c.text_end-to.ensures (omega (arith, c.type_inv.words (c.loop-next.next * 8 + 6)))

pub returns : goal.returns
returns c =
    let b = c.loop-next.invariant.before_end in
    let e : c.loop-next.next ≡ c.args.count = omega arith in
    rw e at (below_out _ _ _ _ _ _ _ _ _ _ c.loop-next.invariant c.loop-next-test.false)
