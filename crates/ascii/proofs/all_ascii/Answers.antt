use native.Mathlib.Omega.{arith}
use borrow.Author.Tests.{le-leb, lt-leb, ltb-true, ltb-false}
use lib.Dec.{ltb}
use lib.ListN.{length}
use Rattle.definition.proofs.Moves.CharLaws.{cases}
use Rattle.ascii.proofs.Runs.{all_below, not_all}
use Rattle.ascii.proofs.all_ascii.Goals as goal

pub returns : goal.returns
returns c =
    let s = c.args.s.now in
    let e = c.ascii_end.ensures in
    cases (ltb c.ascii_end.result (length s))
    (λ t. let h = ltb-true c.ascii_end.result (length s) t in rw (lt-leb _ _ h, not_all s _ h (e.ends h)))
    (λ t. let h = ltb-false c.ascii_end.result (length s) t in rw (le-leb _ _ h, all_below s (λ k l m. e.upto.all k l (omega (arith, h)))))
