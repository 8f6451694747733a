-- Records that are well formed, only formed, or not formed: one table, computed. Assumes nothing.
use mathlib.Core.Path.{◌≡◌, refl}
use mathlib.Core.Bool.{Bool, true, false}
use mathlib.Core.List.{List, [], ◌∷◌, ◌++◌, map}
use Prim.Native.Nat.{ℕ}
use Rattle.definition.specs.Chars.{ascii}
use Rattle.definition.specs.Records.{Answer}
use Rattle.definition.specs.Words.{role_at, records_from, sort_from, answer_from, fits, all_fit, ordered, gapless, no_bytes, one_of, sorted, records_formed, at_top, whole, alike, apart, together, records_well_formed}

-- the words of a record of a call from 0 to 10
abbrev pub rec : (kind offset size mode parts place : ℕ) → List ℕ
rec kind offset size mode parts place = kind ∷ offset ∷ size ∷ 0 ∷ 10 ∷ mode ∷ parts ∷ place ∷ []

-- a sort, a count of records, their words, and whether they are formed, and well formed, over the text `ax>5`
pub record Row : Type 0 where
  pub sort : ℕ
  pub count : ℕ
  pub words : List ℕ
  pub is_formed_lem : Bool
  pub is_well : Bool

abbrev row : ℕ → ℕ → List ℕ → Bool → Bool → Row
row sort count words f w = record { sort = sort; count = count; words = words; is_formed_lem = f; is_well = w }

abbrev pub answer : Row → Answer
unfolding ascii answer_from
answer r = answer_from r.sort 0 0 10 r.count 4 0 r.words (ascii "ax>5")

pub rows : List Row
rows =
    -- `a{x:>5}`, and with a conversion
    row 1 4 (rec 1 0 1 0 0 0 ++ rec 2 1 1 0 1 4 ++ rec 3 2 0 0 1 0 ++ rec 1 2 2 0 0 0) true true
    ∷ row 1 4 (rec 1 0 1 0 0 0 ++ rec 2 1 1 115 1 4 ++ rec 3 2 0 0 1 0 ++ rec 1 2 2 0 0 0) true true
    -- one string, one bytes, nothing nested
    ∷ row 0 1 (rec 1 0 4 0 0 0) true true
    ∷ row 2 1 (rec 4 0 4 0 0 0) true true
    ∷ row 1 2 (rec 2 0 2 0 0 9 ++ rec 1 2 2 0 0 0) true true
    -- formed only: literals that touch, a u mark that is not the call's, a part's u mark
    ∷ row 1 2 (rec 1 0 2 0 0 0 ++ rec 1 2 2 0 0 0) true false
    ∷ row 1 2 (rec 2 0 2 0 0 9 ++ rec 1 2 2 1 0 0) true false
    ∷ row 1 3 (rec 2 0 2 0 1 9 ++ rec 3 2 0 0 1 0 ++ rec 1 2 2 1 0 0) true false
    -- parts that are missing, too many, a spec that is missing, or has no field
    ∷ row 1 3 (rec 1 0 2 0 0 0 ++ rec 2 2 2 0 1 4 ++ rec 3 4 0 0 1 0) false false
    ∷ row 1 2 (rec 1 0 2 0 0 0 ++ rec 2 2 2 0 1 4) false false
    ∷ row 1 3 (rec 1 0 2 0 0 0 ++ rec 2 2 2 0 0 4 ++ rec 3 4 0 0 0 0) false false
    ∷ row 1 3 (rec 2 0 2 0 1 4 ++ rec 1 2 2 0 0 0 ++ rec 3 4 0 0 0 0) false false
    ∷ row 1 3 (rec 2 0 2 0 2 4 ++ rec 3 2 0 0 0 0 ++ rec 1 2 2 0 0 0) false false
    -- a gap, text left over, an unknown kind, a conversion that is none, words in use that are not
    ∷ row 1 2 (rec 2 0 1 0 0 4 ++ rec 1 2 2 0 0 0) false false
    ∷ row 1 1 (rec 1 0 3 0 0 0) false false
    ∷ row 1 1 (rec 5 0 4 0 0 0) false false
    ∷ row 1 1 (rec 2 0 4 100 0 3) false false
    ∷ row 1 1 (rec 1 0 4 0 0 3) false false
    ∷ row 1 1 (rec 1 0 4 0 1 0) false false
    ∷ row 1 2 (rec 2 0 4 0 1 4 ++ rec 3 4 0 1 0 0) false false
    -- sorts: bytes among others, two records without an f-string, more records than words
    ∷ row 1 1 (rec 4 0 4 0 0 0) false false
    ∷ row 0 2 (rec 1 0 2 0 0 0 ++ rec 1 2 2 0 0 0) false false
    ∷ row 1 2 (rec 1 0 4 0 0 0) false false
    ∷ []

pub forms_shown : map (λ r. records_formed (answer r)) rows ≡ map (λ r. r.is_formed_lem) rows
unfolding rows ascii answer_from role_at records_from sort_from fits all_fit ordered gapless no_bytes one_of sorted records_formed
forms_shown = refl

pub well_shown : map (λ r. records_well_formed (answer r)) rows ≡ map (λ r. r.is_well) rows
unfolding rows ascii answer_from role_at records_from sort_from fits all_fit ordered gapless no_bytes one_of sorted records_formed at_top whole alike apart together records_well_formed
well_shown = refl

-- no records and no text, of each sort: only an f-string may have none
pub none_shown : map (λ sort. records_formed (answer_from sort 0 0 0 0 0 0 [] [])) (0 ∷ 1 ∷ 2 ∷ []) ≡ false ∷ true ∷ false ∷ []
unfolding answer_from records_from sort_from all_fit ordered gapless no_bytes one_of sorted records_formed
none_shown = refl
