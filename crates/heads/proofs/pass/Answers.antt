use borrow.Author.Tests.{not-false, leb-true, leb-false, eq-eqb, ne_eqb, le-ltb}
use native.Mathlib.Omega.{arith}
use mathlib.Core.Path.{refl, ◌∙◌}
use mathlib.Core.Bool.{not}
use mathlib.Core.List.{List}
use Prim.Native.Nat.{ℕ, ◌<◌}
use lib.Dec.{leb}
use lib.ListN.{length}
use Rattle.definition.proofs.Moves.CharLaws.{cases, before_end, before_in, first_fails}
use Rattle.marks.specs.Marks.{passing}
use Rattle.heads.specs.declared.State.{State}
use Rattle.heads.specs.FieldTurns.{Passed}
use Rattle.heads.proofs.FieldLaws.{and_false, and_true}
use Rattle.heads.proofs.pass.Goals as goal

-- over nothing
nothing : (s : List ℕ) (f : State) → Passed s f f
nothing s f =
    record {
      end = f.at;
      on = omega arith;
      within = λ a. absurd (omega arith);
      all = λ k a b. absurd (omega arith);
      undocumented = λ a. absurd (omega arith);
      is = rw (eq-eqb f.at f.at refl, and_true f.blank);
    }

pub returns-then-f-gt0 : goal.returns-then-f-gt0
returns-then-f-gt0 c = nothing _ _

pub returns-then-end-f : goal.returns-then-end-f
returns-then-end-f c = nothing _ _

pub returns : goal.returns
returns c =
    let f = c.args.f in
    let s = c.args.s.now in
    let e = c.passing_end-end.ensures in
    record {
      end = c.passing_end-end.result;
      on = omega (arith, e);
      within = λ a. cases (leb (length s) f.at) (λ t. absurd (omega (arith, e, before_end (λ b. not (passing b)) s f.at 0 (leb-true _ _ t)))) (λ t. let l : f.at < length s = leb-false _ _ t in omega (arith, e, before_in (λ b. not (passing b)) s f.at (omega arith)));
      all = λ k a b. not-false _ (first_fails (λ b. not (passing b)) s f.at k a (omega (arith, e)));
      undocumented = λ _. le-ltb _ _ c.if-f-gt0.false;
      is = c.kept.ensures ∙ rw (ne_eqb _ f.at c.if-end-f.false, and_false f.blank);
    }
