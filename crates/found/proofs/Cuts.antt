-- The cut of a script, move by move, as the code goes over it. Assumes nothing.
use Rattle.std.specs.Prelude.{Option, Some, None, Result, Ok, Err}
use mathlib.Core.Path.{◌≡◌, sym, ◌∙◌}
use mathlib.Core.Bool.{true, false}
use mathlib.Core.List.{List, []}
use Prim.Native.Nat.{ℕ, ◌-◌, ◌≤◌, ◌<◌}
use native.Mathlib.Omega.{arith}
use borrow.Author.Tests.{ne_eqb}
use lib.ListN.{length, get_or}
use Rattle.definition.specs.Chars.{byte}
use Rattle.definition_scripts.specs.Opening.{opens, is_sign}
use Rattle.definition.specs.Entry.{refusal}
use Rattle.definition.specs.Reading.{accepts, refuses}
use Rattle.definition_scripts.specs.IsCut.{reaches_end, breaks_off}
use Rattle.definition_scripts.specs.Literals.{literal_at}
use Rattle.definition_scripts.specs.Cut.{begins, comment_end, first_cut, cut_from}
use Rattle.definition.proofs.Moves.CharLaws.{byte_is}
use Rattle.definition_scripts_laws.proofs.Cut.CutLaws.{comment_past, begins_known, cut_facts}
use Rattle.definition_scripts_laws.proofs.Cut.CutSteps.{cut_over, cut_comment, cut_breaks, cut_goes}
use Rattle.gaps.specs.Gaps.{Skips, Reaches}
use Rattle.gaps.proofs.Gaps.{case_over, case_comment, case_literal}
use Rattle.found.specs.declared.Literal.{Literal}
use Rattle.found.specs.declared.Refusal.{Refusal}
use Rattle.found.specs.declared.Broken.{Broken}
use Rattle.found.specs.declared.Broken.TheVariants as broken
use Rattle.found.specs.Found.{literal_of, refusal_of, HereIs, NextIs}

-- A cut that has come from `from` to `at`, and goes on at `here`
module _ (s : List ℕ) (from at here : ℕ) (p : Skips s from at) (q : Reaches s at here) where
  on : cut_from s from ≡ cut_from s here
  on = p.same ∙ q.skips.same

  pub cutting_over : length s ≤ here → cut_from s from ≡ record { literals = []; ending = reaches_end }
  cutting_over h = on ∙ cut_over s here (case_over s here h)

  pub cutting_comment : (end : ℕ) → end ≡ comment_end s here → here < length s → get_or s here 0 ≡ 35 → (length s - end < length s - at) × Skips s from end
  cutting_comment end f l e =
      let c = case_comment s here l e in
      let a = comment_past s here (rw c at (cut_facts s here)) in
      (omega (arith, q.skips.ahead), record { ahead = omega (arith, p.ahead, q.skips.ahead); same = on ∙ cut_comment s here c ∙ rw f })

  -- a literal
  module _ (l : here < length s) (n : get_or s here 0 ≡ 35 → ⊥) where
    unsigned : is_sign (byte s here) ≡ false
    unsigned = rw (← byte_is s here l) (ne_eqb (get_or s here 0) 35 n)

    begun : begins s here ≡ true
    begun = q.stands l unsigned

    pub cutting_known : opens s here ≤ 6
    cutting_known = begins_known s here begun

    pub cutting_breaks : (r : Refusal) → refuses (refusal_of r) ≡ literal_at s here → cut_from s from ≡ record { literals = []; ending = breaks_off r.number r.place }
    unfolding refusal
    cutting_breaks r f = on ∙ cut_breaks s here (refusal_of r) (case_literal s here l unsigned begun) (sym f)

    pub cutting_goes : (x : Literal) → accepts (literal_of x) ≡ literal_at s here → cut_from s from ≡ first_cut (literal_of x) (cut_from s x.end)
    cutting_goes x f = on ∙ cut_goes s here (literal_of x) (case_literal s here l unsigned begun) (sym f)

    -- what opens there is what the cut has next
    pub next_here : (r : Result (Option Literal) Broken) → HereIs s here r → NextIs s from r
    next_here (Ok (Some x)) h = (h.0, cutting_goes x h.2)
    next_here (Ok None) h = absurd (omega (arith, h.1, cutting_known))
    next_here (Err (broken.Literal r)) h = (h.0, cutting_breaks r h.2)
    next_here (Err broken.TooLong) h = h
