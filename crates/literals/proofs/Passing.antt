-- The loop over what is passed over: what there is from here on is what there is from the start. Assumes nothing.
use mathlib.Core.Path.{◌≡◌, sym, ◌∙◌}
use mathlib.Core.List.{List}
use Prim.Native.Nat.{ℕ, ◌+◌, ◌≤◌, ◌<◌}
use native.Mathlib.Omega.{arith}
use lib.ListN.{length}
use Rattle.definition.specs.Chars.{◌is◌}
use Rattle.definition_scripts.specs.Opening.{line_end}
use Rattle.definition_scripts.specs.Literals.{space, comment, other, blank_case, passed}
use Rattle.definition.proofs.Moves.CharLaws.{before_in}
use Rattle.definition_scripts_laws.proofs.Literals.RunLaws.{blank_facts, space_in, comment_ahead}
use Rattle.definition_scripts_laws.proofs.Literals.LiteralSteps.{passed_other, passed_space, passed_comment}

module _ (s : List ℕ) where
  pub record Passing (from at : ℕ) : Type 0 where
    pub within : at ≤ length s
    pub same : passed s from ≡ passed s at

  module _ (from at : ℕ) (p : Passing from at) where
    pub ends_other : other ≡ blank_case s at → at ≡ passed s from
    ends_other c = sym (p.same ∙ passed_other s at (sym c))

    pub goes_space : space ≡ blank_case s at → (at < length s) × Passing from (at + 1)
    goes_space c =
        let l = space_in s at (rw (← c) at (blank_facts s at)) in
        (l, record { within = omega arith; same = p.same ∙ passed_space s at (sym c) })

    pub goes_comment : (to : ℕ) → to ≡ line_end s at → comment ≡ blank_case s at → (at < to) × Passing from to
    goes_comment to e c =
        let f = rw (← c) at (blank_facts s at) in
        rw e (comment_ahead s at f, record { within = before_in (λ b. b is "\n") s at p.within; same = p.same ∙ passed_comment s at (sym c) })
