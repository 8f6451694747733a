-- WHAT A CALL TELLS OF A FORMAT SPECIFICATION: twelve numbers.
use Rattle.std.specs.Prelude.{ℕ, ◌+◌, min, List, [], ◌∷◌, eqb, replicate, if◌then◌else◌}
use Rattle.std.proofs.Math.Option.{none, some}
use Rattle.definition.specs.Numbers.{not_of_grammar}
use Rattle.definition_replay.specs.Spec.{fill_code, spec_of, rounds}
use Rattle.definition_replay.specs.Integers.{decimal}

-- of digits: 0 for none, else 1 more than their value, at most 4,294,967,295
unfoldable pub told_of : List ℕ → ℕ
told_of [] = 0
told_of (d ∷ ds) = min (decimal (d ∷ ds) + 1) 0xFFFFFFFF

-- of a mark: whether it is there
abbrev pub flag_of : ℕ → ℕ
flag_of c = if eqb c 0 then 0 else 1

-- 68; or 0, fill, align, sign, z, #, 0, width, grouping, precision, type, and 1 if it rounds
unfoldable pub spec_numbers : List ℕ → List ℕ
spec_numbers s =
    elim (spec_of s) [
      | none ↦ not_of_grammar ∷ replicate 11 0
      | some p ↦
          0
          ∷ fill_code s
          ∷ p.align
          ∷ p.sign
          ∷ flag_of p.z
          ∷ flag_of p.alternate
          ∷ flag_of p.nought
          ∷ told_of p.width
          ∷ p.grouping
          ∷ told_of p.precision
          ∷ p.type
          ∷ (if rounds p then 1 else 0)
          ∷ []
    ]
