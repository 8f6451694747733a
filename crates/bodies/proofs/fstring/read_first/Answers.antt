use borrow.Author.Rules.{rules}
use native.Mathlib.Omega.{arith}
use mathlib.Core.Path.{◌≡◌, refl, sym, ◌∙◌}
use lib.ListN.{length}
use Rattle.marks.proofs.Braces.{first_here, first_on, first_end_lem}
use Rattle.bodies.proofs.PieceLaws.{piece_more, piece_none}
use Rattle.bodies.proofs.fstring.read_first.Goals as goal

pub loop-i-init : goal.loop-i-init
loop-i-init c = let a = c.args in (search rules, search rules, search rules, search rules, piece_none a.s.now _ _ a.from.at, refl)

pub returns-then-is_brace : goal.returns-then-is_brace
returns-then-is_brace c = let I = c.loop-i.invariant in (first_here _ _ c.loop-i-test.true (sym c.is_brace.ensures ∙ c.if-is_brace.true) ∙ sym I.5, I.2, I.4)

pub overflow_add-to : goal.overflow_add-to
overflow_add-to c = let I = c.loop-i.invariant in search rules

pub loop-i-preserved : goal.loop-i-preserved
loop-i-preserved c =
    let I = c.loop-i.invariant in
    let t = c.loop-i-test.true in
    let a = c.args in
    (omega (arith, I.0), omega (arith, t), omega (arith, I.2), c.text-1.given ∙ I.3, c.put.ensures ∙ rw I.4 (piece_more a.s.now _ _ a.from.at _ _ I.0 t I.2), I.5 ∙ first_on _ _ t (sym c.is_brace.ensures ∙ c.if-is_brace.false))

pub returns : goal.returns
returns c =
    let I = c.loop-i.invariant in
    let e : c.loop-i.i ≡ length c.args.s.now = omega (arith, I.1, c.loop-i-test.false) in
    (sym e ∙ first_end_lem _ _ c.loop-i-test.false ∙ sym I.5, omega (arith, I.2, e), rw e at I.4)
