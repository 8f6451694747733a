-- The plan in one pass over a body's tokens: what the code does, shown to be the definition of definition_cuts.
use Rattle.std.specs.Prelude.{ℕ, zero, suc, ◌+◌, true, false, ◌||◌, List, [], ltb, leb, length, if◌then◌else◌}
use Rattle.std.proofs.Math.Option.{Option, none, some}
use Rattle.definition.specs.Chars.{at_end, well_formed}
use Rattle.definition_cuts.specs.Tokens.{token_end, with_first}

-- a piece began at `start`, and tokens were read up to i; n bounds the tokens
unfoldable pub plan_loop : ℕ → (s : List ℕ) (limit start i : ℕ) → Option (List ℕ)
plan_loop zero s limit start i = none
plan_loop (suc n) s limit start i =
    elim (at_end s i) [
      | true ↦ some []
      | false ↦ elim (token_end s i) [
        | none ↦ none
        | some j ↦ elim (leb j (start + limit)) [
          | true ↦ plan_loop n s limit start j
          | false ↦ elim (leb j (i + limit)) [ true ↦ with_first i (plan_loop n s limit i j) | false ↦ none ]
        ]
      ]
    ]

unfoldable pub planned : List ℕ → (limit : ℕ) → Option (List ℕ)
planned s limit =
    if ltb 1048576 (length s) || ltb (well_formed s) (length s) then none else plan_loop (suc (length s)) s limit 0 0

-- with the one number of tokens that serves every place of a body
abbrev pub plan_at : (s : List ℕ) (limit start i : ℕ) → Option (List ℕ)
plan_at s limit start i = plan_loop (suc (length s)) s limit start i
