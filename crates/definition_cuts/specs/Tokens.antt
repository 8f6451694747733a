-- THE TOKENS OF A BODY of kind 1, and the boundaries between them.
use Rattle.std.specs.Prelude.{ℕ, zero, suc, Bool, true, false, ◌&&◌, ◌||◌, List, [], ◌∷◌, ltb, length, if◌then◌else◌}
use Rattle.std.proofs.Math.Option.{Option, none, some}
use Rattle.definition.specs.Numbers.{◌among◌}
use Rattle.definition.specs.Chars.{◌is◌, at_end, code, next, well_formed}
use Rattle.definition.specs.Escapes.{held_names, Read, got, refused}
use Rattle.definition.specs.Body.{Piece, goes, stops, calls, ends, text_move, fresh, field_n, enough}

-- A token is a character, an escape, `{{`, `}}`, a field. Where the one at i ends; none if it is refused
unfoldable pub end_of : Read (List Piece) → Option ℕ
end_of (got ps j) = some j
end_of (refused x) = none

unfoldable pub move_end : List ℕ → ℕ → Option ℕ
move_end s i =
    elim (text_move held_names 1 s 0 i []) [
      | goes j text ↦ some j
      | stops x ↦ none
      | calls ↦ end_of (field_n held_names (enough s) 1 s 0 (next s i) (next s i) fresh)
      | ends ↦ none
    ]

-- a backslash that stays before a brace belongs to what follows
unfoldable pub staying : List ℕ → ℕ → Bool
staying s i = code s i is "\\" && code s (next s i) is "{}"

unfoldable pub token_end : List ℕ → ℕ → Option ℕ
token_end s i = if staying s i then move_end s (next s i) else move_end s i

-- a list with one more in front
unfoldable pub with_first : ℕ → Option (List ℕ) → Option (List ℕ)
with_first i none = none
with_first i (some js) = some (i ∷ js)

-- the boundaries from i on: i, and where each token ends; n bounds the tokens
unfoldable pub boundaries_n : ℕ → List ℕ → ℕ → Option (List ℕ)
boundaries_n zero s i = none
boundaries_n (suc n) s i =
    elim (at_end s i) [ true ↦ some (i ∷ []) | false ↦ elim (token_end s i) [ none ↦ none | some j ↦ with_first i (boundaries_n n s j) ] ]

-- THE BOUNDARIES, from 0 to the end; none if a token is refused, or the body before it is read (5, 6)
unfoldable pub boundaries : List ℕ → Option (List ℕ)
boundaries s =
    if ltb 1048576 (length s) || ltb (well_formed s) (length s) then none else boundaries_n (suc (length s)) s 0

-- every cut stands at a boundary
unfoldable pub all_among : (ms cuts : List ℕ) → Bool
all_among ms [] = true
all_among ms (c ∷ cs) = c among ms && all_among ms cs
