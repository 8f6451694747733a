-- Small comparisons, and what they leave in a list of nines: one table, computed. Assumes nothing.
use mathlib.Core.Path.{◌≡◌, refl}
use mathlib.Core.List.{List, [], ◌∷◌, ◌++◌, map}
use Prim.Native.Nat.{ℕ, ◌+◌}
use Prim.Native.String.{String}
use lib.ListN.{length, replicate}
use Rattle.definition.specs.Chars.{ascii, table37, inside_any, following, follow, width, formed_from, well_formed, same}
use Rattle.definition.specs.Words.{role_at, records_from, sort_from, answer_from, held_from, lie, fits, all_fit, ordered, gapless, no_bytes, one_of, sorted, records_formed}
use Rattle.definition_formed.specs.Formed.{Lent, lent, unplaced, lent_answer, is_utf8, texts_utf8, is_formed}
use Rattle.definition_revisions.specs.Revisions.{shape_of, onto, items_from, items_of, same_shape, same_item, run, front, back, comparison, counting, middle, middles, compared, compare_roomed, middles_after, compare_called, compare_into, compare_numbers}

-- a record: kind, text, mode, parts
abbrev Piece : Type 0
Piece = ℕ × List ℕ × ℕ × ℕ

abbrev lit : String → Piece
lit t = (1, ascii t, 0, 0)

-- with a u mark
abbrev marked : String → Piece
marked t = (1, ascii t, 1, 0)

abbrev fld : String → Piece
fld e = (2, ascii e, 0, 0)

-- with a conversion, and with a spec
abbrev conv : String → ℕ → Piece
conv e c = (2, ascii e, c, 0)

abbrev full : String → ℕ → Piece
full e c = (2, ascii e, c, 1)

abbrev spec : ℕ → Piece
spec n = (3, [], 0, n)

abbrev raw : ℕ → Piece
raw b = (4, b ∷ [], 0, 0)

-- their words and their text; range and place begin at a number of no account
unfoldable words_from : (at offset : ℕ) → List Piece → List ℕ
words_from at n [] = []
words_from at n ((kind, t, mode, parts) ∷ ps) = kind ∷ n ∷ length t ∷ at ∷ at ∷ mode ∷ parts ∷ at ∷ words_from at (n + length t) ps

unfoldable text_from : List Piece → List ℕ
text_from [] = []
text_from ((kind, t, mode, parts) ∷ ps) = t ++ text_from ps

-- an answer that is lent, by its first number and its sort
abbrev given : (number sort at : ℕ) → List Piece → Lent
given number sort at ps = lent (number ∷ sort ∷ 0 ∷ 0 ∷ 0 ∷ length ps ∷ length (text_from ps) ∷ []) (words_from at 0 ps) (text_from ps)

abbrev plain : List Piece → Lent
plain = given 0 0 7

abbrev joined : List Piece → Lent
joined = given 0 1 7

abbrev elsewhere : List Piece → Lent
elsewhere = given 0 1 3

abbrev bytes : List Piece → Lent
bytes = given 0 2 7

abbrev refused : List Piece → Lent
refused = given 5 1 7

-- two of them, the room for the list, the numbers, and the list
pub record Row : Type 0 where
  pub x : Lent
  pub y : Lent
  pub room : ℕ
  pub returned : List ℕ
  pub left : List ℕ

abbrev row : Lent → Lent → ℕ → List ℕ → List ℕ → Row
row x y n a b = record { x = x; y = y; room = n; returned = a; left = b }

pub rows : List Row
unfolding ascii words_from text_from
rows =
    -- front first, then the back of what remains
    row (joined (lit "a" ∷ fld "x" ∷ lit "b" ∷ [])) (joined (lit "a" ∷ fld "y" ∷ lit "b" ∷ [])) 4 (0 ∷ 1 ∷ 1 ∷ 3 ∷ 3 ∷ 1 ∷ 1 ∷ []) (1 ∷ 1 ∷ 9 ∷ 9 ∷ [])
    ∷ row (joined []) (joined []) 2 (0 ∷ 0 ∷ 0 ∷ 0 ∷ 0 ∷ 0 ∷ 0 ∷ []) (9 ∷ 9 ∷ [])
    ∷ row (joined []) (joined (lit "a" ∷ [])) 2 (0 ∷ 0 ∷ 0 ∷ 0 ∷ 1 ∷ 0 ∷ 1 ∷ []) (0 ∷ 9 ∷ [])
    ∷ row (joined (lit "a" ∷ [])) (joined []) 2 (0 ∷ 0 ∷ 0 ∷ 1 ∷ 0 ∷ 1 ∷ 0 ∷ []) (0 ∷ 9 ∷ [])
    ∷ row (joined (fld "x" ∷ fld "x" ∷ [])) (joined (fld "x" ∷ [])) 2 (0 ∷ 1 ∷ 0 ∷ 2 ∷ 1 ∷ 1 ∷ 0 ∷ []) (1 ∷ 9 ∷ [])
    ∷ row (joined (fld "x" ∷ fld "y" ∷ fld "x" ∷ [])) (joined (fld "x" ∷ [])) 4 (0 ∷ 1 ∷ 0 ∷ 3 ∷ 1 ∷ 2 ∷ 0 ∷ []) (1 ∷ 2 ∷ 9 ∷ 9 ∷ [])
    ∷ row (joined (fld "x" ∷ fld "y" ∷ fld "x" ∷ [])) (joined (fld "x" ∷ fld "x" ∷ [])) 4 (0 ∷ 1 ∷ 1 ∷ 3 ∷ 2 ∷ 1 ∷ 0 ∷ []) (1 ∷ 9 ∷ 9 ∷ 9 ∷ [])
    ∷ row (joined (lit "a" ∷ fld "x" ∷ fld "y" ∷ [])) (joined (lit "a" ∷ fld "x" ∷ fld "y" ∷ [])) 2 (0 ∷ 3 ∷ 0 ∷ 3 ∷ 3 ∷ 0 ∷ 0 ∷ []) (9 ∷ 9 ∷ [])
    ∷ row (joined (fld "x" ∷ fld "y" ∷ [])) (joined (fld "y" ∷ fld "x" ∷ [])) 5 (0 ∷ 0 ∷ 0 ∷ 2 ∷ 2 ∷ 2 ∷ 2 ∷ []) (0 ∷ 1 ∷ 0 ∷ 1 ∷ 9 ∷ [])
    ∷ row (joined (fld "x" ∷ fld "y" ∷ lit "c" ∷ fld "x" ∷ fld "y" ∷ [])) (joined (fld "x" ∷ fld "y" ∷ [])) 4 (0 ∷ 2 ∷ 0 ∷ 5 ∷ 2 ∷ 3 ∷ 0 ∷ []) (2 ∷ 3 ∷ 4 ∷ 9 ∷ [])
    ∷ row (joined (fld "x" ∷ fld "y" ∷ [])) (joined (fld "x" ∷ fld "y" ∷ lit "c" ∷ fld "x" ∷ fld "y" ∷ [])) 4 (0 ∷ 2 ∷ 0 ∷ 2 ∷ 5 ∷ 0 ∷ 3 ∷ []) (2 ∷ 3 ∷ 4 ∷ 9 ∷ [])
    ∷ row (joined (lit "a" ∷ fld "x" ∷ fld "y" ∷ lit "b" ∷ [])) (joined (lit "a" ∷ fld "y" ∷ lit "b" ∷ [])) 3 (0 ∷ 1 ∷ 2 ∷ 4 ∷ 3 ∷ 1 ∷ 0 ∷ []) (1 ∷ 9 ∷ 9 ∷ [])
    -- a field with its spec and parts is one item
    ∷ row (joined (full "x" 0 ∷ spec 3 ∷ lit "a" ∷ fld "y" ∷ lit "b" ∷ lit "c" ∷ [])) (joined (full "x" 0 ∷ spec 3 ∷ lit "a" ∷ fld "z" ∷ lit "b" ∷ lit "c" ∷ [])) 4 (0 ∷ 0 ∷ 1 ∷ 2 ∷ 2 ∷ 1 ∷ 1 ∷ []) (0 ∷ 0 ∷ 9 ∷ 9 ∷ [])
    ∷ row (joined (full "x" 0 ∷ spec 2 ∷ lit "a" ∷ fld "y" ∷ lit "c" ∷ [])) (joined (full "x" 0 ∷ spec 1 ∷ lit "a" ∷ fld "y" ∷ lit "c" ∷ [])) 4 (0 ∷ 0 ∷ 1 ∷ 2 ∷ 3 ∷ 1 ∷ 2 ∷ []) (0 ∷ 0 ∷ 1 ∷ 9 ∷ [])
    ∷ row (joined (full "x" 0 ∷ spec 1 ∷ full "y" 0 ∷ spec 1 ∷ lit "a" ∷ [])) (joined (full "x" 0 ∷ spec 2 ∷ full "y" 0 ∷ spec 0 ∷ lit "a" ∷ [])) 4 (0 ∷ 0 ∷ 0 ∷ 1 ∷ 1 ∷ 1 ∷ 1 ∷ []) (0 ∷ 0 ∷ 9 ∷ 9 ∷ [])
    ∷ row (joined (full "x" 0 ∷ spec 0 ∷ [])) (joined (fld "x" ∷ [])) 4 (0 ∷ 0 ∷ 0 ∷ 1 ∷ 1 ∷ 1 ∷ 1 ∷ []) (0 ∷ 0 ∷ 9 ∷ 9 ∷ [])
    ∷ row (joined (lit "a" ∷ full "x" 0 ∷ spec 1 ∷ lit "a" ∷ fld "y" ∷ [])) (joined (lit "a" ∷ full "x" 0 ∷ spec 1 ∷ lit "a" ∷ fld "y" ∷ [])) 2 (0 ∷ 3 ∷ 0 ∷ 3 ∷ 3 ∷ 0 ∷ 0 ∷ []) (9 ∷ 9 ∷ [])
    -- kinds, texts, conversions and parts count
    ∷ row (joined (lit "x" ∷ [])) (joined (fld "x" ∷ [])) 4 (0 ∷ 0 ∷ 0 ∷ 1 ∷ 1 ∷ 1 ∷ 1 ∷ []) (0 ∷ 0 ∷ 9 ∷ 9 ∷ [])
    ∷ row (joined (lit "a" ∷ [])) (joined (lit "b" ∷ [])) 4 (0 ∷ 0 ∷ 0 ∷ 1 ∷ 1 ∷ 1 ∷ 1 ∷ []) (0 ∷ 0 ∷ 9 ∷ 9 ∷ [])
    ∷ row (joined (lit "a" ∷ [])) (joined (lit "ab" ∷ [])) 4 (0 ∷ 0 ∷ 0 ∷ 1 ∷ 1 ∷ 1 ∷ 1 ∷ []) (0 ∷ 0 ∷ 9 ∷ 9 ∷ [])
    ∷ row (joined (conv "x" 114 ∷ [])) (joined (conv "x" 115 ∷ [])) 4 (0 ∷ 0 ∷ 0 ∷ 1 ∷ 1 ∷ 1 ∷ 1 ∷ []) (0 ∷ 0 ∷ 9 ∷ 9 ∷ [])
    ∷ row (joined (conv "x" 97 ∷ [])) (joined (fld "x" ∷ [])) 4 (0 ∷ 0 ∷ 0 ∷ 1 ∷ 1 ∷ 1 ∷ 1 ∷ []) (0 ∷ 0 ∷ 9 ∷ 9 ∷ [])
    ∷ row (joined (full "x" 0 ∷ spec 1 ∷ conv "y" 114 ∷ [])) (joined (full "x" 0 ∷ spec 1 ∷ fld "y" ∷ [])) 4 (0 ∷ 0 ∷ 0 ∷ 1 ∷ 1 ∷ 1 ∷ 1 ∷ []) (0 ∷ 0 ∷ 9 ∷ 9 ∷ [])
    ∷ row (plain (lit "a" ∷ [])) (bytes (raw 97 ∷ [])) 4 (0 ∷ 0 ∷ 0 ∷ 1 ∷ 1 ∷ 1 ∷ 1 ∷ []) (0 ∷ 0 ∷ 9 ∷ 9 ∷ [])
    ∷ row (bytes (raw 255 ∷ [])) (bytes (raw 255 ∷ [])) 2 (0 ∷ 1 ∷ 0 ∷ 1 ∷ 1 ∷ 0 ∷ 0 ∷ []) (9 ∷ 9 ∷ [])
    ∷ row (bytes (raw 255 ∷ [])) (bytes (raw 254 ∷ [])) 2 (0 ∷ 0 ∷ 0 ∷ 1 ∷ 1 ∷ 1 ∷ 1 ∷ []) (0 ∷ 0 ∷ [])
    -- ranges, places, u marks and sorts do not
    ∷ row (joined (marked "a" ∷ fld "x" ∷ [])) (elsewhere (lit "a" ∷ fld "x" ∷ [])) 2 (0 ∷ 2 ∷ 0 ∷ 2 ∷ 2 ∷ 0 ∷ 0 ∷ []) (9 ∷ 9 ∷ [])
    ∷ row (plain (lit "a" ∷ [])) (joined (lit "a" ∷ [])) 2 (0 ∷ 1 ∷ 0 ∷ 1 ∷ 1 ∷ 0 ∷ 0 ∷ []) (9 ∷ 9 ∷ [])
    ∷ row (joined (lit "a" ∷ lit "b" ∷ [])) (joined (lit "ab" ∷ [])) 4 (0 ∷ 0 ∷ 0 ∷ 2 ∷ 1 ∷ 2 ∷ 1 ∷ []) (0 ∷ 1 ∷ 0 ∷ 9 ∷ [])
    -- 57 before 58 before 59, which tells how many numbers are needed
    ∷ row (refused (lit "a" ∷ [])) (refused (lit "a" ∷ [])) 2 (57 ∷ []) (0 ∷ 0 ∷ [])
    ∷ row (refused (lit "a" ∷ [])) (joined (fld "x" ∷ [])) 2 (57 ∷ []) (0 ∷ 0 ∷ [])
    ∷ row (joined (fld "x" ∷ [])) (refused (lit "a" ∷ [])) 2 (58 ∷ []) (0 ∷ 0 ∷ [])
    ∷ row (joined (fld "x" ∷ [])) (refused (lit "a" ∷ [])) 0 (58 ∷ []) []
    ∷ row (joined (fld "x" ∷ [])) (joined (fld "y" ∷ [])) 1 (59 ∷ 0 ∷ 0 ∷ 0 ∷ 0 ∷ 0 ∷ 0 ∷ 0 ∷ 0 ∷ 2 ∷ []) (0 ∷ [])
    ∷ row (joined (fld "x" ∷ [])) (joined (fld "y" ∷ [])) 0 (59 ∷ 0 ∷ 0 ∷ 0 ∷ 0 ∷ 0 ∷ 0 ∷ 0 ∷ 0 ∷ 2 ∷ []) []
    ∷ row (joined (fld "x" ∷ [])) (joined (fld "y" ∷ [])) 2 (0 ∷ 0 ∷ 0 ∷ 1 ∷ 1 ∷ 1 ∷ 1 ∷ []) (0 ∷ 0 ∷ [])
    ∷ row (joined (fld "x" ∷ [])) (joined (fld "x" ∷ [])) 0 (0 ∷ 1 ∷ 0 ∷ 1 ∷ 1 ∷ 0 ∷ 0 ∷ []) []
    ∷ row (joined (fld "x" ∷ fld "x" ∷ fld "y" ∷ [])) (joined (fld "y" ∷ fld "y" ∷ fld "x" ∷ fld "y" ∷ [])) 2 (59 ∷ 0 ∷ 0 ∷ 0 ∷ 0 ∷ 0 ∷ 0 ∷ 0 ∷ 0 ∷ 3 ∷ []) (0 ∷ 0 ∷ [])
    ∷ []

pub returned_shown : map (λ r. compare_numbers (compare_into r.x r.y (replicate r.room 9)).outcome) rows ≡ map (λ r. r.returned) rows
unfolding rows words_from text_from ascii table37 inside_any following follow width formed_from well_formed same role_at records_from sort_from answer_from held_from lie fits all_fit ordered gapless no_bytes one_of sorted records_formed unplaced lent_answer is_utf8 texts_utf8 is_formed shape_of onto items_from items_of same_shape same_item run front back comparison counting middle middles compared compare_roomed middles_after compare_called compare_into compare_numbers
returned_shown = refl

pub left_shown : map (λ r. (compare_into r.x r.y (replicate r.room 9)).list) rows ≡ map (λ r. r.left) rows
unfolding rows words_from text_from ascii table37 inside_any following follow width formed_from well_formed same role_at records_from sort_from answer_from held_from lie fits all_fit ordered gapless no_bytes one_of sorted records_formed unplaced lent_answer is_utf8 texts_utf8 is_formed shape_of onto items_from items_of same_shape same_item run front back comparison counting middle middles compared compare_roomed middles_after compare_called compare_into compare_numbers
left_shown = refl
