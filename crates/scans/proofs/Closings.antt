-- The loop over a body: what there is from here on is what there is from the start. Assumes nothing.
use Rattle.std.specs.Prelude.{if◌then◌else◌}
use mathlib.Core.Path.{◌≡◌, refl, sym, ◌∙◌, ap}
use mathlib.Core.Bool.{Bool, true, false, ◌&&◌, not, ◌||◌}
use mathlib.Core.List.{List}
use Prim.Native.Nat.{ℕ, zero, suc, ◌+◌, ◌-◌, ◌≤◌, ◌<◌}
use native.Mathlib.Omega.{arith}
use borrow.Author.Tests.{le-leb, lt-leb, leb-true, leb-false}
use lib.Dec.{leb, eqb}
use lib.ListN.{length, drop}
use Rattle.definition.specs.Numbers.{never_closed, newline_in_literal}
use Rattle.definition.specs.Chars.{◌is◌, byte, before}
use Rattle.definition_scripts.specs.Opening.{quotes_at}
use Rattle.definition_scripts.specs.Literals.{over, takes, closes, breaks, plain, body_case, closed, fails, closing}
use Rattle.definition.proofs.Moves.CharLaws.{cases, before_end, before_here, before_next}
use Rattle.definition_laws.proofs.Formed.Accepted.{neither}
use Rattle.definition_scripts_laws.proofs.Literals.LiteralLaws.{facts}
use Rattle.definition_scripts_laws.proofs.Literals.LiteralSteps.{closing_over, closing_closes, closing_breaks, closing_takes, closing_plain}
use Rattle.scans.specs.Scans.{mark, third_of}

-- A BODY, scanned up to the first byte that may matter
module _ (s : List ℕ) (quote flag : ℕ) where
  abbrev scanned : ℕ → ℕ
  scanned i = i + before (mark quote (third_of quote flag)) (drop i s)

  plain_case_lem : (i : ℕ) → i < length s → mark quote (third_of quote flag) (byte s i) ≡ false → body_case s quote flag i ≡ plain
  unfolding body_case quotes_at
  plain_case_lem i h e =
      let b = byte s i in
      let p = neither (eqb b quote) (eqb b 92 || eqb b (third_of quote flag)) e in
      let q = neither (eqb b 92) (eqb b (third_of quote flag)) p.1 in
      rw (lt-leb (length s) i h, q.0, p.0) (last (eqb flag 1) q.1)
    where
      last : (t : Bool) → eqb (byte s i) (if t then quote else 10) ≡ false → (if byte s i is "\n" && not t then breaks else plain) ≡ plain
      last true e = cases (byte s i is "\n") (λ f. rw f) (λ f. rw f)
      last false e = rw e

  closing_scanned : (n i : ℕ) → length s - i ≤ n → closing s quote flag i ≡ closing s quote flag (scanned i)
  closing_scanned zero i h = rw (before_end (mark quote (third_of quote flag)) s i 256 (omega arith))
  closing_scanned (suc n) i h =
      cases (leb (length s) i) (λ t. rw (before_end marks s i 256 (leb-true _ _ t)))
      (λ t. inside (leb-false _ _ t) (closing_scanned n (i + 1) (omega arith)))
    where
      marks : ℕ → Bool
      marks = mark quote (third_of quote flag)

      inside : i < length s → closing s quote flag (i + 1) ≡ closing s quote flag (scanned (i + 1)) → closing s quote flag i ≡ closing s quote flag (scanned i)
      inside l ih =
          cases (marks (byte s i)) (λ t. rw (before_here marks s i 256 l t))
          (λ t. closing_plain s quote flag i (plain_case_lem i l t) ∙ ih ∙ ap (closing s quote flag) (sym (before_next marks s i 256 l t)))

  -- past the end it never closes
  pub past_fails : (from : ℕ) → length s < from → fails never_closed ≡ closing s quote flag from
  unfolding body_case
  past_fails from h = sym (closing_over s quote flag from (rw (le-leb (length s) from (omega arith))))

  pub record Going (from at : ℕ) : Type 0 where
    pub within : at ≤ length s + 1
    pub same : closing s quote flag from ≡ closing s quote flag at

  pub going_starts : (from : ℕ) → from ≤ length s → Going from from
  going_starts from h = record { within = omega arith; same = refl }

  -- one turn: scanned up to `to`, by what stands there
  module _ (from at to third : ℕ) (g : Going from at) (t : third ≡ third_of quote flag) (e : to ≡ at + before (mark quote third) (drop at s)) where
    reached : closing s quote flag from ≡ closing s quote flag to
    reached = g.same ∙ closing_scanned (length s - at) at (omega arith) ∙ ap (closing s quote flag) (sym (rw t at e))

    pub ends_over : over ≡ body_case s quote flag to → fails never_closed ≡ closing s quote flag from
    ends_over c = sym (reached ∙ closing_over s quote flag to (sym c))

    pub ends_closes : closes ≡ body_case s quote flag to → closed to ≡ closing s quote flag from
    ends_closes c = sym (reached ∙ closing_closes s quote flag to (sym c))

    pub ends_breaks : breaks ≡ body_case s quote flag to → fails newline_in_literal ≡ closing s quote flag from
    ends_breaks c = sym (reached ∙ closing_breaks s quote flag to (sym c))

    pub goes_takes : takes ≡ body_case s quote flag to → (to < length s) × Going from (to + 2)
    goes_takes c =
        let l = (rw (← c) at (facts s quote flag to)).0 in
        (l, record { within = omega arith; same = reached ∙ closing_takes s quote flag to (sym c) })

    pub goes_plain : plain ≡ body_case s quote flag to → (to < length s) × Going from (to + 1)
    goes_plain c =
        let l = (rw (← c) at (facts s quote flag to)).0 in
        (l, record { within = omega arith; same = reached ∙ closing_plain s quote flag to (sym c) })
