-- The check of cuts in one pass over a body's tokens: what the code does, shown to be the definition of definition_cuts.
use Rattle.std.specs.Prelude.{ℕ, zero, suc, ◌+◌, Bool, true, false, ◌&&◌, ◌||◌, not, List, [], ◌∷◌, ltb, leb, eqb, length, if◌then◌else◌}
use Rattle.std.proofs.Math.Option.{Option, none, some}
use Rattle.definition.specs.Numbers.{piece_refused, readings_differ}
use Rattle.definition.specs.Chars.{at_end, well_formed}
use Rattle.definition_cuts.specs.Cuts.{pieces, all_short}
use Rattle.definition_cuts.specs.Tokens.{token_end}
use Rattle.definition_cuts_laws.specs.Standing.{octal_at}

-- the cuts that are left, and whether one stood among octal digits
pub record Cursor : Type 0 where
  pub left : List ℕ
  pub differs : Bool

-- the cuts before j, in the token from i up to j: at i, among its octal digits, or refused
unfoldable pub in_token : (s : List ℕ) (i j : ℕ) → List ℕ → Bool → Option Cursor
in_token s i j [] d = some (record { left = []; differs = d })
in_token s i j (c ∷ cs) d =
    elim (ltb c j) [
      | true ↦ elim (eqb i c) [ true ↦ in_token s i j cs d | false ↦ elim (octal_at s i && leb (i + 2) c) [ true ↦ in_token s i j cs true | false ↦ none ] ]
      | false ↦ some (record { left = c ∷ cs; differs = d })
    ]

unfoldable pub check_loop : ℕ → (s : List ℕ) (i : ℕ) → List ℕ → Bool → Option Bool
check_loop zero s i cs d = none
check_loop (suc n) s i cs d =
    elim (at_end s i) [
      | true ↦ some d
      | false ↦ elim (token_end s i) [ none ↦ none | some j ↦ elim (in_token s i j cs d) [ none ↦ none | some k ↦ check_loop n s j k.left k.differs ] ]
    ]

-- of cuts that rise and whose pieces keep to the limit
unfoldable pub number_of : (s cuts : List ℕ) → Option Bool → ℕ
number_of s cuts none = piece_refused
number_of s cuts (some d) =
    if not (leb (length s) (well_formed s) && all_short 1048576 (pieces s 0 cuts)) then piece_refused else
    if d || ltb 1048576 (length s) then readings_differ else 0

unfoldable pub checked_once : (s cuts : List ℕ) → ℕ
checked_once s cuts = number_of s cuts (check_loop (suc (length s)) s 0 cuts false)

-- with the one number of tokens that serves every place of a body
abbrev pub check_at : (s : List ℕ) (i : ℕ) → List ℕ → Bool → Option Bool
check_at s i cs d = check_loop (suc (length s)) s i cs d
