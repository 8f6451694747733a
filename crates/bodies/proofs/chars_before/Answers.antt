use native.Mathlib.Omega.{arith}
use native.Mathlib.Nat.{sub-zero}
use Prim.Native.Nat.{◌+◌, ◌≤◌}
use mathlib.Core.Path.{◌≡◌, sym, ◌∙◌}
use lib.ListN.{length}
use Rattle.definition.specs.Counts.{counted}
use Rattle.definition.specs.Entry.{body}
use Rattle.prefixes.proofs.FirstBytes.{whole_chars}
use Rattle.entry.specs.Answers.{described}
use Rattle.entry.specs.Literals.{literal_at, literals}
use Rattle.entry.proofs.Literals.{chars_turn, chars_none, chars_most}
use Rattle.entry.proofs.Passed.{Good}
use Rattle.bodies.proofs.chars_before.Goals as goal
use Rattle.bodies.proofs.chars_before.Goals.{After-heads, After-literal_at-l}

-- the literal is good
good : (c : After-literal_at-l) → Good c.args.script.now (described c.literal_at-l.result)
good c = rw c.literal_at-l.ensures (c.requires.good c.loop-i.i c.loop-i-test.true)

-- the characters of its body
chars_are : (c : After-heads) → let s = body c.args.script.now (literal_at c.args.numbers.now c.loop-i.i) in c.heads.result ≡ (counted s (length s)).chars
unfolding described body
chars_are c =
    let h = c.requires.formed c.loop-i.i c.loop-i-test.true in
    rw (← c.literal_at-l.ensures) (c.heads.ensures ∙ sym (whole_chars _ (rw (← c.literal_at-l.ensures) at h)))

-- with all that follow they are not too many
few : (c : After-heads) → c.loop-i.chars + c.heads.result ≤ 1048576
few c =
    let a = c.args in
    omega (arith, c.loop-i.invariant, chars_are c, chars_turn a.numbers.now a.count a.script.now c.loop-i.i c.loop-i-test.true, chars_most a.script.now (literals a.numbers.now 0 a.count), c.requires.short)

pub loop-i-init : goal.loop-i-init
unfolding described
loop-i-init c = rw sub-zero (omega arith)

pub slice_bounds-heads-end : goal.slice_bounds-heads-end
unfolding described
slice_bounds-heads-end c = let g = (good (goal.at.slice_bounds-heads-end c).After-literal_at-l).inside in omega arith

pub overflow_cast-chars : goal.overflow_cast-chars
unfolding described
overflow_cast-chars c = let f = few (goal.at.overflow_cast-chars c).After-heads in omega arith

pub overflow_add-chars : goal.overflow_add-chars
unfolding described
overflow_add-chars c = let f = few (goal.at.overflow_add-chars c).After-heads in omega arith

pub loop-i-preserved : goal.loop-i-preserved
unfolding described
loop-i-preserved c = let a = c.args in omega (arith, c.loop-i.invariant, chars_are (goal.at.loop-i-preserved c).After-heads, chars_turn a.numbers.now a.count a.script.now c.loop-i.i c.loop-i-test.true)

pub returns : goal.returns
unfolding described
returns c = let a = c.args in omega (arith, c.loop-i.invariant, chars_none a.numbers.now a.count a.script.now c.loop-i.i c.loop-i-test.false)
