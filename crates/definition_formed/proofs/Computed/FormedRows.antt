-- Small answers that are lent, well formed and not: two tables, computed. Assumes nothing.
use mathlib.Core.Path.{◌≡◌, refl}
use mathlib.Core.Bool.{true, false}
use mathlib.Core.List.{List, [], ◌∷◌, ◌++◌, map}
use Prim.Native.Nat.{ℕ}
use lib.ListN.{length, replicate}
use Rattle.definition.specs.Chars.{ascii, table37, inside_any, following, follow, width, formed_from, well_formed}
use Rattle.definition.specs.Words.{role_at, records_from, sort_from, answer_from, held_from, lie, fits, all_fit, ordered, gapless, no_bytes, one_of, sorted, records_formed}
use Rattle.definition_formed.specs.Formed.{Lent, unplaced, lent_answer, is_utf8, texts_utf8, is_formed}

-- the words of a record, with a range and a place of no account
abbrev rec : (kind offset size mode parts : ℕ) → List ℕ
rec kind offset size mode parts = kind ∷ offset ∷ size ∷ 8 ∷ 7 ∷ mode ∷ parts ∷ 9 ∷ []

-- an answer that is lent, by its first number, sort, count of records and text length
abbrev given : (number sort count size : ℕ) (words text : List ℕ) → Lent
given number sort count size words text = record { numbers = number ∷ sort ∷ 5 ∷ 6 ∷ 7 ∷ count ∷ size ∷ 8 ∷ []; words = words; text = text }

pub well : List Lent
unfolding ascii
well =
    -- of each sort; an empty f-string
    given 0 0 1 1 (rec 1 0 1 0 0) (ascii "a")
    ∷ given 0 1 0 0 [] []
    ∷ given 0 2 1 2 (rec 4 0 2 0 0) (255 ∷ 128 ∷ [])
    -- a literal, a field, a literal
    ∷ given 0 1 3 3 (rec 1 0 1 0 0 ++ rec 2 1 1 0 0 ++ rec 1 2 1 0 0) (ascii "axb")
    -- every conversion; a u mark
    ∷ given 0 1 4 4 (rec 2 0 1 115 0 ++ rec 2 1 1 97 0 ++ rec 2 2 1 114 0 ++ rec 1 3 1 1 0) (ascii "xyza")
    -- a spec without parts, one with three, one in another's part
    ∷ given 0 1 2 1 (rec 2 0 1 0 1 ++ rec 3 1 0 0 0) (ascii "x")
    ∷ given 0 1 6 5 (rec 2 0 1 0 1 ++ rec 3 1 0 0 3 ++ rec 1 1 1 0 0 ++ rec 2 2 1 0 0 ++ rec 1 3 1 0 0 ++ rec 1 4 1 0 0) (ascii "xaybc")
    ∷ given 0 1 5 3 (rec 2 0 1 0 1 ++ rec 3 1 0 0 1 ++ rec 2 1 1 0 1 ++ rec 3 2 0 0 1 ++ rec 1 2 1 0 0) (ascii "xya")
    -- literals that touch, an empty one
    ∷ given 0 1 3 2 (rec 1 0 1 0 0 ++ rec 1 1 1 0 0 ++ rec 1 2 0 0 0) (ascii "ab")
    -- buffers longer than the answer, whatever follows in them
    ∷ given 0 0 1 1 (rec 1 0 1 0 0 ++ rec 9 9 9 9 9) (97 ∷ 255 ∷ [])
    -- two bytes that are one character
    ∷ given 0 0 1 2 (rec 1 0 2 0 0) (0xC3 ∷ 0xA9 ∷ [])
    ∷ []

pub ill : List Lent
unfolding ascii
ill =
    -- a refusal's numbers; a sort that there is not
    given 1 0 1 1 (rec 1 0 1 0 0) (ascii "a")
    ∷ given 0 3 1 1 (rec 4 0 1 0 0) (ascii "a")
    -- words and text too short
    ∷ given 0 0 1 1 (1 ∷ 0 ∷ 1 ∷ 0 ∷ 0 ∷ 0 ∷ 0 ∷ []) (ascii "a")
    ∷ given 0 0 1 2 (rec 1 0 2 0 0) (ascii "a")
    -- gaps at the front, between, at the end, and an overlap
    ∷ given 0 0 1 2 (rec 1 1 1 0 0) (ascii "ab")
    ∷ given 0 1 2 3 (rec 1 0 1 0 0 ++ rec 2 2 1 0 0) (ascii "abc")
    ∷ given 0 0 1 2 (rec 1 0 1 0 0) (ascii "ab")
    ∷ given 0 1 2 2 (rec 1 0 2 0 0 ++ rec 2 1 1 0 0) (ascii "ab")
    -- kinds that there are not
    ∷ given 0 1 1 1 (rec 0 0 1 0 0) (ascii "a")
    ∷ given 0 1 1 1 (rec 5 0 1 0 0) (ascii "a")
    -- a literal with a part; a conversion that there is not; two parts of a field
    ∷ given 0 1 2 2 (rec 1 0 1 0 1 ++ rec 1 1 1 0 0) (ascii "ab")
    ∷ given 0 1 1 1 (rec 2 0 1 116 0) (ascii "x")
    ∷ given 0 1 3 1 (rec 2 0 1 0 2 ++ rec 3 1 0 0 0 ++ rec 3 1 0 0 0) (ascii "x")
    -- a field's spec that is not there, at the end and before a literal; a spec of no field; two of one
    ∷ given 0 1 1 1 (rec 2 0 1 0 1) (ascii "x")
    ∷ given 0 1 2 2 (rec 2 0 1 0 1 ++ rec 1 1 1 0 0) (ascii "xa")
    ∷ given 0 1 2 1 (rec 2 0 1 0 0 ++ rec 3 1 0 0 0) (ascii "x")
    ∷ given 0 1 3 1 (rec 2 0 1 0 1 ++ rec 3 1 0 0 1 ++ rec 3 1 0 0 0) (ascii "x")
    -- a spec with text, or a mode; its second part that is not there
    ∷ given 0 1 2 2 (rec 2 0 1 0 1 ++ rec 3 1 1 0 0) (ascii "xa")
    ∷ given 0 1 2 1 (rec 2 0 1 0 1 ++ rec 3 1 0 1 0) (ascii "x")
    ∷ given 0 1 3 2 (rec 2 0 1 0 1 ++ rec 3 1 0 0 2 ++ rec 1 1 1 0 0) (ascii "xa")
    -- bytes in an f-string; bytes with a part
    ∷ given 0 1 1 1 (rec 4 0 1 0 0) (ascii "a")
    ∷ given 0 2 2 1 (rec 4 0 1 0 1 ++ rec 1 1 0 0 0) (ascii "a")
    -- plain: two literals, a field, nothing; bytes: two, a literal, nothing
    ∷ given 0 0 2 2 (rec 1 0 1 0 0 ++ rec 1 1 1 0 0) (ascii "ab")
    ∷ given 0 0 1 1 (rec 2 0 1 0 0) (ascii "a")
    ∷ given 0 0 0 0 [] []
    ∷ given 0 2 2 2 (rec 4 0 1 0 0 ++ rec 4 1 1 0 0) (ascii "ab")
    ∷ given 0 2 1 1 (rec 1 0 1 0 0) (ascii "a")
    ∷ given 0 2 0 0 [] []
    -- texts that are not UTF-8: a literal's, a field's, a part's, two halves of a character
    ∷ given 0 0 1 1 (rec 1 0 1 0 0) (255 ∷ [])
    ∷ given 0 1 1 1 (rec 2 0 1 0 0) (128 ∷ [])
    ∷ given 0 1 3 2 (rec 2 0 1 0 1 ++ rec 3 1 0 0 1 ++ rec 1 1 1 0 0) (120 ∷ 255 ∷ [])
    ∷ given 0 1 2 2 (rec 1 0 1 0 0 ++ rec 1 1 1 0 0) (0xC3 ∷ 0xA9 ∷ [])
    ∷ []

pub well_shown : map is_formed well ≡ replicate (length well) true
unfolding well ascii table37 inside_any following follow width formed_from well_formed role_at records_from sort_from answer_from held_from lie fits all_fit ordered gapless no_bytes one_of sorted records_formed unplaced lent_answer is_utf8 texts_utf8 is_formed
well_shown = refl

pub ill_shown : map is_formed ill ≡ replicate (length ill) false
unfolding ill ascii table37 inside_any following follow width formed_from well_formed role_at records_from sort_from answer_from held_from lie fits all_fit ordered gapless no_bytes one_of sorted records_formed unplaced lent_answer is_utf8 texts_utf8 is_formed
ill_shown = refl
