-- WHERE A CUT STANDS among a body's tokens, and by that the number that a check gives. The check does not use it.
use Rattle.std.specs.Prelude.{ℕ, zero, suc, ◌+◌, Bool, true, false, ◌&&◌, not, List, [], ◌∷◌, ltb, leb, eqb, length, if◌then◌else◌}
use Rattle.std.proofs.Math.Option.{Option, none, some}
use Rattle.definition.specs.Numbers.{piece_refused, readings_differ}
use Rattle.definition.specs.Chars.{◌is◌, code, next, well_formed}
use Rattle.definition_cuts.specs.Cuts.{pieces, all_short}
use Rattle.definition_cuts.specs.Tokens.{token_end, boundaries_n}

-- At a boundary; among the digits of an octal escape, one of them before it; within another token
pub data Standing : Type 0 where
  between among_digits within : Standing

unfoldable pub octal_at : List ℕ → ℕ → Bool
octal_at s i = code s i is "\\" && code s (next s i) is "01234567"

-- by the tokens from the boundary i on; n bounds them
unfoldable pub standing_n : ℕ → List ℕ → (i c : ℕ) → Standing
standing_n zero s i c = within
standing_n (suc n) s i c =
    elim (eqb i c) [
      | true ↦ between
      | false ↦ elim (token_end s i) [
        | none ↦ within
        | some j ↦ elim (ltb c j) [ true ↦ if octal_at s i && leb (i + 2) c then among_digits else within | false ↦ standing_n n s j c ]
      ]
    ]

unfoldable pub standing : List ℕ → ℕ → Standing
standing s c = standing_n (suc (length s)) s 0 c

-- none of the cuts stands within a token; each stands at a boundary
unfoldable pub none_within : List ℕ → List ℕ → Bool
none_within s [] = true
none_within s (c ∷ cs) = elim (standing s c) [ between ↦ none_within s cs | among_digits ↦ none_within s cs | within ↦ false ]

unfoldable pub all_between : List ℕ → List ℕ → Bool
all_between s [] = true
all_between s (c ∷ cs) = elim (standing s c) [ between ↦ all_between s cs | among_digits ↦ false | within ↦ false ]

unfoldable pub is_some : Option (List ℕ) → Bool
is_some none = false
is_some (some ms) = true

-- THE CHECK BY TOKENS, of cuts that rise and whose pieces keep to the limit: one pass over the body, whatever its length
unfoldable pub checked_by_tokens : (s cuts : List ℕ) → ℕ
checked_by_tokens s cuts =
    if not (leb (length s) (well_formed s) && is_some (boundaries_n (suc (length s)) s 0) && none_within s cuts && all_short 1048576 (pieces s 0 cuts)) then piece_refused else
    if not (all_between s cuts && leb (length s) 1048576) then readings_differ else 0
