-- HOW MANY ROWS A LIST HAS, counted depth first: each row, and the rows of its source. Assumes nothing.
use Rattle.std.specs.Prelude.{if◌then◌else◌}
use mathlib.Core.Path.{◌≡◌, refl, sym, ◌∙◌, ap, ap₂}
use mathlib.Core.Bool.{Bool, true, false, not}
use mathlib.Core.List.{List, [], ◌∷◌, ◌++◌, map, map-append}
use Prim.Native.Nat.{ℕ, zero, suc, ◌+◌}
use native.Mathlib.Omega.{arith}
use lib.Dec.{ltb}
use lib.ListN.{length, length-append}
use Rattle.definition.specs.Numbers.{is_fstring, read_otherwise, unknown_prefix}
use Rattle.definition.specs.Escapes.{Naming}
use Rattle.definition.specs.Records.{Answer}
use Rattle.definition.specs.Entry.{Literal}
use Rattle.definition.specs.Reading.{Outcome, accepts, refuses, read}
use Rattle.definition.specs.Rows.{Row, literal_rows}
use Rattle.definition_scripts.specs.IsCut.{Ending, reaches_end, breaks_off}
use Rattle.definition_scripts.specs.Cut.{Cut, cut, cut_part}
use Rattle.definition_scripts.specs.Keywords.{word_start, may_stand}
use Rattle.definition_scripts.specs.Listing.{ListRow, of_field, of_refusal, read_rows, unknown_row, own_rows, all_read, broken_row, cut_rows, source_end, otherwise, otherwise_row, source_rows, below, levels_n, rows_of}
use Rattle.definition_scripts_laws.proofs.Listing.SourceLaws.{AllFit, fit_more, none_fits, source_fit}

-- THE COUNT of rows and of all rows of their sources, n levels deep
unfoldable pub count_rows : (look : Naming) → ℕ → List ℕ → List ListRow → ℕ
count_rows look zero s rs = 0
count_rows look (suc n) s [] = 0
count_rows look (suc n) s (r ∷ rs) = suc (count_rows look n s (source_rows look s 0 r)) + count_rows look (suc n) s rs

pub count_none : (look : Naming) → (n : ℕ) (s : List ℕ) → count_rows look n s [] ≡ 0
unfolding count_rows
count_none look zero s = refl
count_none look (suc n) s = refl

pub count_append : (look : Naming) → (n : ℕ) (s : List ℕ) (xs ys : List ListRow) → count_rows look n s (xs ++ ys) ≡ count_rows look n s xs + count_rows look n s ys
unfolding count_rows
count_append look zero s xs ys = refl
count_append look (suc n) s [] ys = omega arith
count_append look (suc n) s (x ∷ xs) ys = omega (arith, count_append look (suc n) s xs ys)

-- THE ROW THAT ROWS STAND WITHIN does not matter
abbrev pub within : ℕ → ListRow → ListRow
within w (of_field v r) = of_field w r
within w (of_refusal v start place number a b o) = of_refusal w start place number a b o

pub count_within : (look : Naming) → (n : ℕ) (s : List ℕ) (w : ℕ) (rs : List ListRow) → count_rows look n s (map (within w) rs) ≡ count_rows look n s rs
unfolding count_rows source_rows
count_within look zero s w rs = refl
count_within look (suc n) s w [] = refl
count_within look (suc n) s w (of_field v r ∷ rs) = omega (arith, count_within look (suc n) s w rs)
count_within look (suc n) s w (of_refusal v start place number a b o ∷ rs) = omega (arith, count_within look (suc n) s w rs)

module _ (look : Naming) (s : List ℕ) (w : ℕ) where
  fields_within : (rs : List Row) → map (of_field w) rs ≡ map (within w) (map (of_field 0) rs)
  fields_within [] = refl
  fields_within (r ∷ rs) = ap (λ x. of_field w r ∷ x) (fields_within rs)

  read_within : (l : Literal) → read_rows look s w l ≡ map (within w) (read_rows look s 0 l)
  unfolding read_rows
  read_within l = go (is_fstring l.kind) refl (read look s (l ∷ [])) refl
    where
      go : (t : Bool) → is_fstring l.kind ≡ t → (o : Outcome Answer) → read look s (l ∷ []) ≡ o → read_rows look s w l ≡ map (within w) (read_rows look s 0 l)
      go false t o e = rw (t, read_rows)
      go true t (accepts x) e = rw (t, e, read_rows) (fields_within (literal_rows look s l))
      go true t (refuses r) e = rw (t, e, read_rows)

  -- a refusal that is told or not
  told_within : (t : Bool) (start place number : ℕ) → (if t then of_refusal w start place number 0 0 0 ∷ [] else []) ≡ map (within w) (if t then of_refusal 0 start place number 0 0 0 ∷ [] else [])
  told_within true start place number = refl
  told_within false start place number = refl

  own_within : (l : Literal) → own_rows look s w l ≡ map (within w) (own_rows look s 0 l)
  unfolding own_rows unknown_row
  own_within l = ap₂ ◌++◌ (told_within (not (may_stand s l.start)) l.start (word_start s l.start) unknown_prefix) (read_within l) ∙ sym (map-append (within w) (unknown_row s 0 l) (read_rows look s 0 l))

  all_within : (ls : List Literal) → all_read look s w ls ≡ map (within w) (all_read look s 0 ls)
  unfolding all_read
  all_within [] = refl
  all_within (l ∷ ls) = ap₂ ◌++◌ (own_within l) (all_within ls) ∙ sym (map-append (within w) (own_rows look s 0 l) (all_read look s 0 ls))

  broken_within : (e : Ending) → broken_row w e ≡ map (within w) (broken_row 0 e)
  unfolding broken_row
  broken_within reaches_end = refl
  broken_within (breaks_off number place) = refl

  cut_within : (c : Cut) → cut_rows look s w c ≡ map (within w) (cut_rows look s 0 c)
  unfolding cut_rows
  cut_within c = ap₂ ◌++◌ (all_within c.literals) (broken_within c.ending) ∙ sym (map-append (within w) (all_read look s 0 c.literals) (broken_row 0 c.ending))

  otherwise_within : (r : Row) (c : Cut) → otherwise_row s w r c ≡ map (within w) (otherwise_row s 0 r c)
  unfolding otherwise_row
  otherwise_within r c = told_within (ltb (otherwise s r c) (length s)) r.start (otherwise s r c) read_otherwise

  source_within : (r : ListRow) → source_rows look s w r ≡ map (within w) (source_rows look s 0 r)
  unfolding source_rows
  source_within (of_refusal v start place number a b o) = refl
  source_within (of_field v r) =
      let c = cut_part s r.place (source_end r.signs) in
      ap₂ ◌++◌ (otherwise_within r c) (cut_within c) ∙ sym (map-append (within w) (otherwise_row s 0 r c) (cut_rows look s 0 c))

  -- so each count is that within no row
  module _ (n : ℕ) where
    same_count : (xs ys : List ListRow) → xs ≡ map (within w) ys → count_rows look n s xs ≡ count_rows look n s ys
    same_count xs ys e = ap (count_rows look n s) e ∙ count_within look n s w ys

    pub count_read : (l : Literal) → count_rows look n s (read_rows look s w l) ≡ count_rows look n s (read_rows look s 0 l)
    count_read l = same_count (read_rows look s w l) (read_rows look s 0 l) (read_within l)

    pub count_all : (ls : List Literal) → count_rows look n s (all_read look s w ls) ≡ count_rows look n s (all_read look s 0 ls)
    count_all ls = same_count (all_read look s w ls) (all_read look s 0 ls) (all_within ls)

    pub count_broken : (e : Ending) → count_rows look n s (broken_row w e) ≡ count_rows look n s (broken_row 0 e)
    count_broken e = same_count (broken_row w e) (broken_row 0 e) (broken_within e)

    pub count_cut : (c : Cut) → count_rows look n s (cut_rows look s w c) ≡ count_rows look n s (cut_rows look s 0 c)
    count_cut c = same_count (cut_rows look s w c) (cut_rows look s 0 c) (cut_within c)

    pub count_otherwise : (r : Row) (c : Cut) → count_rows look n s (otherwise_row s w r c) ≡ count_rows look n s (otherwise_row s 0 r c)
    count_otherwise r c = same_count (otherwise_row s w r c) (otherwise_row s 0 r c) (otherwise_within r c)

    pub count_source : (r : ListRow) → count_rows look n s (source_rows look s w r) ≡ count_rows look n s (source_rows look s 0 r)
    count_source r = same_count (source_rows look s w r) (source_rows look s 0 r) (source_within r)

-- LEVEL BY LEVEL there are as many
count_below : (look : Naming) → (n : ℕ) (s : List ℕ) (i : ℕ) (rs : List ListRow) → length rs + count_rows look n s (below look s i rs) ≡ count_rows look (suc n) s rs
unfolding count_rows below
count_below look n s i [] = omega (arith, count_none look n s)
count_below look n s i (r ∷ rs) = omega (arith, count_append look n s (source_rows look s (suc i) r) (below look s (suc i) rs), count_source look s (suc i) n r, count_below look n s (suc i) rs)

pub count_levels : (look : Naming) → (n : ℕ) (s : List ℕ) (i : ℕ) (level : List ListRow) → length (levels_n look n s i level) ≡ count_rows look n s level
unfolding levels_n count_rows
count_levels look zero s i level = refl
count_levels look (suc n) s i level =
    let j = i + length level in
    let rest = below look s i level in
    omega (arith, length-append level (levels_n look n s j rest), count_levels look n s j rest, count_below look n s i level)

-- LEVELS ENOUGH give one count
pub count_enough : (look : Naming) → (n m : ℕ) (s : List ℕ) (rs : List ListRow) → AllFit s n rs → AllFit s m rs → count_rows look n s rs ≡ count_rows look m s rs
unfolding count_rows
count_enough look zero m s rs p q = rw (none_fits s rs p) (sym (count_none look m s))
count_enough look (suc n) zero s rs p q = rw (none_fits s rs q) refl
count_enough look (suc n) (suc m) s [] p q = refl
count_enough look (suc n) (suc m) s (r ∷ rs) p q =
    ap₂ (λ x y. suc x + y) (count_enough look n m s (source_rows look s 0 r) (source_fit look s n 0 r p.0) (source_fit look s m 0 r q.0)) (count_enough look (suc n) (suc m) s rs p.1 q.1)

pub count_fuel : (look : Naming) → (n : ℕ) (s : List ℕ) (rs : List ListRow) → AllFit s n rs → count_rows look n s rs ≡ count_rows look (suc n) s rs
count_fuel look n s rs p = count_enough look n (suc n) s rs p (fit_more s n rs p)

-- OF A WHOLE SCRIPT
pub count_whole : (look : Naming) → (s : List ℕ) → length (rows_of look s) ≡ count_rows look (suc (length s)) s (cut_rows look s 0 (cut s))
unfolding rows_of
count_whole look s = count_levels look (suc (length s)) s 0 (cut_rows look s 0 (cut s))
