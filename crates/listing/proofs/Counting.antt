-- Rows counted with those of their sources. Assumes nothing.
use Rattle.std.specs.Prelude.{if◌then◌else◌}
use mathlib.Core.Path.{◌≡◌, refl, sym, ◌∙◌, ap, ap₂}
use mathlib.Core.Bool.{Bool, true, false, not}
use mathlib.Core.List.{List, [], ◌∷◌, ◌++◌, append_assoc}
use Prim.Native.Nat.{ℕ, zero, suc, ◌+◌, ◌-◌, ◌*◌, ◌≤◌, ◌<◌}
use native.Mathlib.Nat.{zero-add, suc-add, sub-zero}
use native.Mathlib.Numerals.{add-one}
use native.Mathlib.Omega.{arith}
use borrow.Author.Tests.{eq-eqb, leb-true, leb-false}
use lib.Dec.{leb, ltb}
use lib.ListN.{length, take, drop, get_or, length-append, length-take, length-drop, take-append-drop}
use lib.Seq.{take-nil, drop-nil, drop-drop}
use Rattle.definition.specs.Numbers.{is_fstring, read_otherwise, unknown_prefix}
use Rattle.definition.specs.Escapes.{Naming}
use Rattle.definition.specs.Entry as d
use Rattle.definition.specs.Reading.{in_front}
use Rattle.definition.specs.Rows.{Row}
use Rattle.definition_scripts.specs.IsCut.{reaches_end, breaks_off}
use Rattle.definition_scripts.specs.Cut.{Cut, first_cut, cut_from, cut_part}
use Rattle.definition_scripts.specs.Keywords.{word_start, may_stand}
use Rattle.definition_scripts.specs.Listing.{ListRow, of_field, of_refusal, ten_of, tens, read_rows, unknown_row, own_rows, all_read, broken_row, cut_rows, source_end, otherwise, otherwise_row, source_rows, rows_of, refusals_in, least}
use Rattle.definition_scripts_laws.proofs.Cut.PartLaws.{cut_is_part}
use Rattle.definition_scripts_laws.proofs.Listing.SourceLaws.{Fits, AllFit, fit_more, literal_fit, source_fit}
use Rattle.definition_scripts_laws.proofs.Listing.ListingSteps.{ten, tens_length}
use Rattle.definition_scripts_laws.proofs.Listing.RowCount.{count_rows, count_none, count_append, count_enough, count_whole}
use Rattle.definition_scripts_laws.proofs.Listing.FewRows.{part_few, literal_few}
use Rattle.found.specs.declared.Literal.{Literal}
use Rattle.found.specs.Found.{literal_of}
use Rattle.sources.specs.declared.Field.{Field}
use Rattle.told.specs.declared.Told.{Told}
use Rattle.told.specs.Rows.{refusal_row, field_of, row_at, rows_in}
use Rattle.told.proofs.Rows.{rows_back}
use Rattle.listing.specs.declared.count.Window.{Window}
use Rattle.sources.specs.Source.{signs_of, row_of, Source}
use Rattle.alone.specs.Puts.{Reads}
use Rattle.listing.specs.Put.{Bounded}
use Rattle.listing.specs.Count.{total, Found, Seen, Block}
use Rattle.alone.proofs.Written.{not_read}
use Rattle.listing.proofs.Cutting.{found_in, count_flat}
use Rattle.listing.proofs.Filling.{source_lies, source_field}

module _ (look : Naming) (s : List ℕ) where
  -- IN PARTS, and row by row
  pub total_append : (xs ys : List ListRow) → total look s (xs ++ ys) ≡ total look s xs + total look s ys
  total_append xs ys = count_append look (suc (length s)) s xs ys

  total_row : (r : ListRow) (rs : List ListRow) → Fits s (suc (length s)) r → total look s (r ∷ rs) ≡ suc (total look s (source_rows look s 0 r)) + total look s rs
  unfolding count_rows
  total_row r rs p =
      let a = source_fit look s (length s) 0 r p in
      ap (λ n. suc n + total look s rs) (count_enough look (length s) (suc (length s)) s (source_rows look s 0 r) a (fit_more s (length s) (source_rows look s 0 r) a))

  total_refusal : (w start place number a b o : ℕ) → total look s (of_refusal w start place number a b o ∷ []) ≡ 1
  unfolding count_rows source_rows
  total_refusal w start place number a b o = rw (count_none look (length s) s)

  -- a refusal that is told or not
  total_told : (t : Bool) (w start place number : ℕ) → total look s (if t then of_refusal w start place number 0 0 0 ∷ [] else []) ≡ length (if t then of_refusal w start place number 0 0 0 ∷ [] else [])
  total_told true w start place number = total_refusal w start place number 0 0 0
  total_told false w start place number = count_none look (suc (length s)) s

  total_otherwise : (w : ℕ) (r : Row) (c : Cut) → total look s (otherwise_row s w r c) ≡ length (otherwise_row s w r c)
  unfolding otherwise_row
  total_otherwise w r c = total_told (ltb (otherwise s r c) (length s)) w r.start (otherwise s r c) read_otherwise

  -- of a literal: its 76, and those of its reading
  total_own : (l : d.Literal) → total look s (own_rows look s 0 l) ≡ length (unknown_row s 0 l) + total look s (read_rows look s 0 l)
  unfolding own_rows unknown_row
  total_own l =
      total_append (unknown_row s 0 l) (read_rows look s 0 l)
      ∙ ap (λ n. n + total look s (read_rows look s 0 l)) (total_told (not (may_stand s l.start)) 0 l.start (word_start s l.start) unknown_prefix)

  -- of a part: its first literal and the rest
  total_first : (l : d.Literal) (c : Cut) → total look s (cut_rows look s 0 (first_cut l c)) ≡ (length (unknown_row s 0 l) + total look s (read_rows look s 0 l)) + total look s (cut_rows look s 0 c)
  unfolding cut_rows first_cut all_read
  total_first l c =
      ap (total look s) (append_assoc (own_rows look s 0 l) (all_read look s 0 c.literals) (broken_row 0 c.ending))
      ∙ total_append (own_rows look s 0 l) (all_read look s 0 c.literals ++ broken_row 0 c.ending)
      ∙ ap (λ n. n + total look s (all_read look s 0 c.literals ++ broken_row 0 c.ending)) (total_own l)

  total_over : total look s (cut_rows look s 0 (record { literals = []; ending = reaches_end })) ≡ 0
  unfolding cut_rows all_read broken_row
  total_over = count_none look (suc (length s)) s

  total_breaks : (number place : ℕ) → total look s (cut_rows look s 0 (record { literals = []; ending = breaks_off number place })) ≡ 1
  unfolding cut_rows all_read broken_row
  total_breaks number place = total_refusal 0 place place number 0 0 0

-- A PART, counted up to a place
pub record Counting (look : Naming) (s : List ℕ) (from end at rows : ℕ) : Type 0 where
  pub ahead : at ≤ end
  pub same : rows + total look s (cut_rows look s 0 (cut_part s at end)) ≡ total look s (cut_rows look s 0 (cut_part s from end))

module _ (look : Naming) (s : List ℕ) (from end : ℕ) (b : Bounded s from end 0) where
  pub part_most : total look s (cut_rows look s 0 (cut_part s from end)) ≤ 1048576
  part_most = let w = b.within in let n = b.not_long_lem in omega (arith, part_few look (suc (length s)) s 0 from end b.ahead b.within)

  pub counting_start : Counting look s from end from 0
  counting_start = record { ahead = b.ahead; same = zero-add _ }

  module _ (at rows : ℕ) (p : Counting look s from end at rows) where
    abbrev t : List ℕ
    t = take end s

    pub counting_over : cut_from t at ≡ record { literals = []; ending = reaches_end } → rows ≡ total look s (cut_rows look s 0 (cut_part s from end))
    unfolding cut_part
    counting_over e = let q = rw (e, total_over look s) at p.same in omega (arith, q)

    pub counting_breaks : (number place : ℕ) → cut_from t at ≡ record { literals = []; ending = breaks_off number place } → rows + 1 ≡ total look s (cut_rows look s 0 (cut_part s from end))
    unfolding cut_part
    counting_breaks number place e = rw (e, total_breaks look s number place) at p.same

    pub counting_most : rows ≤ 1048576
    counting_most = let q = p.same in omega (arith, part_most)

    module _ (l : Literal) (e : cut_from t at ≡ first_cut (literal_of l) (cut_from t l.end)) where
      split : rows + ((length (unknown_row s 0 (literal_of l)) + total look s (read_rows look s 0 (literal_of l))) + total look s (cut_rows look s 0 (cut_part s l.end end))) ≡ total look s (cut_rows look s 0 (cut_part s from end))
      unfolding cut_part
      split = rw (e, total_first look s (literal_of l) (cut_from t l.end)) at p.same

      pub counting_found : Found s (literal_of l)
      counting_found = record { from = at; end = end; within = b.within; in_part = found_in s at end l p.ahead b.within e; not_long_lem = b.not_long_lem }

      pub counting_less : (end - l.end < end - at) × (total look s (read_rows look s 0 (literal_of l)) ≤ total look s (cut_rows look s 0 (cut_part s from end)))
      counting_less = let i = found_in s at end l p.ahead b.within e in (omega arith, omega (arith, split))

      pub counting_next : (m n : ℕ) → m ≡ length (unknown_row s 0 (literal_of l)) → n ≡ total look s (read_rows look s 0 (literal_of l)) → Counting look s from end l.end (rows + (m + n))
      counting_next m n k q =
          let i = found_in s at end l p.ahead b.within e in
          record { ahead = i.ends; same = omega (arith, split) }

-- A LITERAL, counted in windows
module _ (look : Naming) (s : List ℕ) (l : d.Literal) (f : Found s l) where
  abbrev xs : List ListRow
  xs = read_rows look s 0 l

  pub literal_most : (total look s xs ≤ 1048576) × (length xs ≤ 1048576)
  literal_most =
      let w = f.within in
      let n = f.not_long_lem in
      let i = f.in_part in
      let y = i.ends in
      let a = literal_few look (suc (length s)) s 0 f.from f.end f.within l f.in_part in
      let c : length xs ≤ l.end - l.start = rw (count_flat look s xs) at (literal_few look 1 s 0 f.from f.end f.within l f.in_part) in
      (omega arith, omega arith)

  pub literal_fits : AllFit s (suc (length s)) xs
  literal_fits = let w = f.within in literal_fit look s (suc (length s)) f.from f.end f.within (omega arith) 0 l f.in_part

  pub not_counted : is_fstring l.kind ≡ false → 0 ≡ total look s xs
  not_counted e = sym (rw (not_read look s 0 l e) (count_none look (suc (length s)) s))

-- so many rows seen
pub record Windows (look : Naming) (s : List ℕ) (xs : List ListRow) (rows seen : ℕ) : Type 0 where
  pub same : rows + total look s (drop seen xs) ≡ total look s xs
  pub some : 1 ≤ seen → seen < length xs

module _ (look : Naming) (s : List ℕ) (xs : List ListRow) where
  pub windows_start : Windows look s xs 0 0
  windows_start = record { same = zero-add _; some = λ h. absurd (omega arith) }

  in_two : (seen : ℕ) → total look s (drop seen xs) ≡ total look s (take 128 (drop seen xs)) + total look s (drop (seen + 128) xs)
  in_two seen =
      ap (total look s) (sym (take-append-drop 128 (drop seen xs))) ∙ total_append look s (take 128 (drop seen xs)) (drop 128 (drop seen xs)) ∙ ap (λ y. total look s (take 128 (drop seen xs)) + total look s y) (drop-drop 128 seen xs)

  before : (seen : ℕ) → total look s xs ≡ total look s (take seen xs) + total look s (drop seen xs)
  before seen = ap (total look s) (sym (take-append-drop seen xs)) ∙ total_append look s (take seen xs) (drop seen xs)

  pub window_most : (seen : ℕ) → total look s (take 128 (drop seen xs)) ≤ total look s xs
  window_most seen = omega (arith, in_two seen, before seen)

  none_left : (ys : List ListRow) (n : ℕ) → length ys ≤ n → total look s (drop n ys) ≡ 0
  none_left [] zero h = count_none look (suc (length s)) s
  none_left [] (suc n) h = count_none look (suc (length s)) s
  none_left (y ∷ ys) zero h = absurd (omega arith)
  none_left (y ∷ ys) (suc n) h = none_left ys n (omega arith)

  pub windows_few : (rows seen : ℕ) → Windows look s xs rows seen → length xs ≤ 1048576 → seen ≤ 1048576
  windows_few rows zero p h = omega arith
  windows_few rows (suc k) p h = let q = p.some (omega arith) in omega arith

  module _ (rows seen : ℕ) (p : Windows look s xs rows seen) (w : Window) (q : Seen look s xs seen w) where
    pub windows_most : rows + w.rows ≤ total look s xs
    windows_most = omega (arith, p.same, q.counted, in_two seen)

    pub windows_done : w.all ≤ seen + 128 → rows + w.rows ≡ total look s xs
    windows_done h = omega (arith, p.same, q.counted, in_two seen, none_left xs (seen + 128) (omega (arith, q.all)))

    pub windows_next : seen + 128 < w.all → Windows look s xs (rows + w.rows) (seen + 128)
    windows_next h = record { same = omega (arith, p.same, q.counted, in_two seen); some = λ k. omega (arith, q.all) }

-- THE ROWS IN A WINDOW
drop_past : (xs ys : List ℕ) (m : ℕ) → drop (length xs + m) (xs ++ ys) ≡ drop m ys
drop_past [] ys m = rw zero-add
drop_past (x ∷ xs) ys m = rw (suc-add (length xs) m) (drop_past xs ys m)

take_past : (xs ys : List ℕ) (m : ℕ) → take (length xs + m) (xs ++ ys) ≡ xs ++ take m ys
take_past [] ys m = rw zero-add
take_past (x ∷ xs) ys m = rw (suc-add (length xs) m) (ap (λ zs. x ∷ zs) (take_past xs ys m))

tens_drop : (k : ℕ) (rs : List ListRow) → drop (k * 10) (tens rs) ≡ tens (drop k rs)
unfolding tens
tens_drop zero rs = refl
tens_drop (suc k) [] = drop-nil (suc k * 10)
tens_drop (suc k) (r ∷ rs) =
    let e : suc k * 10 ≡ length (ten_of r) + k * 10 = omega (arith, ten r) in
    rw (e, drop_past (ten_of r) (tens rs) (k * 10)) (tens_drop k rs)

tens_take : (k : ℕ) (rs : List ListRow) → take (k * 10) (tens rs) ≡ tens (take k rs)
unfolding tens
tens_take zero rs = refl
tens_take (suc k) [] = take-nil (suc k * 10)
tens_take (suc k) (r ∷ rs) =
    let e : suc k * 10 ≡ length (ten_of r) + k * 10 = omega (arith, ten r) in
    rw (e, take_past (ten_of r) (tens rs) (k * 10)) (ap (λ ns. ten_of r ++ ns) (tens_take k rs))

refusals_append : (xs ys : List ListRow) → refusals_in (xs ++ ys) ≡ refusals_in xs + refusals_in ys
unfolding refusals_in
refusals_append [] ys = sym (zero-add (refusals_in ys))
refusals_append (of_field w r ∷ xs) ys = refusals_append xs ys
refusals_append (of_refusal w start place number a b o ∷ xs) ys = omega (arith, refusals_append xs ys)

fit_parts : (s : List ℕ) (n : ℕ) (xs ys : List ListRow) → AllFit s n (xs ++ ys) → AllFit s n xs × AllFit s n ys
fit_parts s n [] ys p = (tt, p)
fit_parts s n (x ∷ xs) ys p = let q = fit_parts s n xs ys p.1 in ((p.0, q.0), q.1)

module _ (look : Naming) (s : List ℕ) (l : d.Literal) (f : Found s l) (seen : ℕ) (some : 1 ≤ seen → seen < length (read_rows look s 0 l)) where
  abbrev rs : List ListRow
  rs = read_rows look s 0 l

  abbrev window : List ListRow
  window = take 128 (drop seen rs)

  three : take seen rs ++ (window ++ drop 128 (drop seen rs)) ≡ rs
  three = ap (λ ys. take seen rs ++ ys) (take-append-drop 128 (drop seen rs)) ∙ take-append-drop seen rs

  pub window_refused : (t : Told) → rs ≡ refusal_row 0 t ∷ [] → Seen look s rs seen (record { all = 1; rows = 1 })
  window_refused t e = go seen refl
    where
      go : (k : ℕ) → seen ≡ k → Seen look s rs seen (record { all = 1; rows = 1 })
      go zero q = rw (q, e) (record { all = refl; counted = sym (total_refusal look s 0 t.start t.place t.number t.a t.b t.opened) })
      go (suc k) q = absurd (omega (arith, some (omega (arith, q)), ap length e, q))

  pub window_among : (n : ℕ) → n ≡ length rs → seen ≤ n
  window_among n e = go seen refl
    where
      go : (k : ℕ) → seen ≡ k → seen ≤ n
      go zero q = omega (arith, q)
      go (suc k) q = omega (arith, some (omega (arith, q)))

  module _ (block block' : List ℕ) (n : ℕ) (p : Reads rs seen block block' n) (len : length block ≡ 1280) where
    size : length window ≡ least (n - seen) 128
    size = go (leb (n - seen) 128) refl
      where
        go : (t : Bool) → leb (n - seen) 128 ≡ t → length window ≡ (if t then n - seen else 128)
        go true e = omega (arith, leb-true (n - seen) 128 e, length-take 128 (drop seen rs), length-drop seen rs, p.counted)
        go false e = omega (arith, leb-false (n - seen) 128 e, length-take 128 (drop seen rs), length-drop seen rs, p.counted)

    holds : block' ≡ tens window ++ drop (length (tens window)) block
    holds =
        let e : take (length block) (drop (seen * 10) (tens rs)) ≡ tens window = ap₂ take len (tens_drop seen rs) ∙ tens_take 128 (drop seen rs) in
        p.wrote ∙ ap (λ ns. in_front ns block) e

    stands : rows_in block' 0 (least (n - seen) 128) ≡ window
    stands = rw (holds, ← size) (rows_back [] 0 window (drop (length (tens window)) block) refl)

    pub window_block : Block look s block' (least (n - seen) 128)
    window_block =
        let m = length-take 128 (drop seen rs) in
        let parts = fit_parts s (suc (length s)) (take seen rs) (window ++ drop 128 (drop seen rs)) (rw (sym three) at (literal_fits look s l f)) in
        record {
          room = rw (← size) (omega (arith, ap length holds, length-append (tens window) (drop (length (tens window)) block), length-drop (length (tens window)) block, tens_length window));
          fields = rw stands (omega (arith, p.fields, ap refusals_in three, refusals_append (take seen rs) (window ++ drop 128 (drop seen rs)), refusals_append window (drop 128 (drop seen rs))));
          fit = rw stands (fit_parts s (suc (length s)) window (drop 128 (drop seen rs)) parts.1).0;
          few = rw stands (omega (arith, window_most look s rs seen, (literal_most look s l f).0));
          not_long_lem = f.not_long_lem;
        }

    pub window_less : total look s (rows_in block' 0 (least (n - seen) 128)) ≤ total look s rs
    window_less = rw stands (window_most look s rs seen)

    pub window_seen : (rows : ℕ) → rows ≡ total look s (rows_in block' 0 (least (n - seen) 128)) → Seen look s rs seen (record { all = n; rows = rows })
    window_seen rows e = record { all = p.counted; counted = e ∙ ap (total look s) stands }

-- A BLOCK, row by row
pub record Blocks (look : Naming) (s block : List ℕ) (n rows i : ℕ) : Type 0 where
  pub ahead : i ≤ n
  pub same : rows + total look s (rows_in block i (n - i)) ≡ total look s (rows_in block 0 n)
  pub fields : refusals_in (rows_in block i (n - i)) ≡ 0
  pub fit : AllFit s (suc (length s)) (rows_in block i (n - i))

module _ (look : Naming) (s block : List ℕ) (n : ℕ) (b : Block look s block n) where
  pub blocks_start : Blocks look s block n 0 0
  blocks_start = record { ahead = omega arith; same = rw (sub-zero, zero-add); fields = rw sub-zero b.fields; fit = rw sub-zero b.fit }

  module _ (rows i : ℕ) (p : Blocks look s block n rows i) where
    pub blocks_done : n ≤ i → rows ≡ total look s (rows_in block 0 n)
    unfolding rows_in
    blocks_done h = let z : n - i ≡ 0 = omega arith in let q = rw (z, count_none look (suc (length s)) s) at p.same in omega (arith, q)

    module _ (h : i < n) where
      abbrev rest : List ListRow
      rest = rows_in block (i + 1) (n - (i + 1))

      opened : rows_in block i (n - i) ≡ row_at block i ∷ rest
      unfolding rows_in
      opened = let z : n - i ≡ suc (n - (i + 1)) = omega arith in rw (z, add-one i)

      pub in_block : i * 10 + 10 ≤ length block
      in_block = let r = b.room in omega arith

      pub no_refusal : get_or block (i * 10) 0 ≡ 5 → ⊥
      unfolding row_at refusals_in
      no_refusal e = let q : refusals_in (row_at block i ∷ rest) ≡ 0 = rw opened at p.fields in let z = rw (eq-eqb (get_or block (i * 10) 0) 5 e) at q in omega (arith, z)

      rest_none : refusals_in rest ≡ 0
      unfolding refusals_in
      rest_none = more (row_at block i) (rw opened at p.fields)
        where
          more : (r : ListRow) → refusals_in (r ∷ rest) ≡ 0 → refusals_in rest ≡ 0
          more (of_field w r) q = q
          more (of_refusal w start place number a c o) q = absurd (omega (arith, q))

      here : Fits s (suc (length s)) (row_at block i) × AllFit s (suc (length s)) rest
      here = let q : AllFit s (suc (length s)) (row_at block i ∷ rest) = rw opened at p.fit in (q.0, q.1)

      abbrev field : Field
      field = field_of block i

      abbrev source : Cut
      source = cut_part s field.place (source_end (signs_of field))

      pub block_source : Source s field
      block_source = source_lies look s block i no_refusal here.0 b.not_long_lem

      pub block_bounded : Bounded s field.place (source_end (signs_of field)) 0
      block_bounded = let z = block_source in record { ahead = z.ahead; within = z.within; not_long_lem = z.not_long_lem; few = omega arith }

      opened_total : total look s (rows_in block i (n - i)) ≡ 1 + length (otherwise_row s 0 (row_of field) source) + total look s (cut_rows look s 0 source) + total look s rest
      opened_total =
          ap (total look s) opened
          ∙ total_row look s (row_at block i) rest here.0
          ∙ omega (arith, ap (total look s) (source_field look s block i no_refusal 0), total_append look s (otherwise_row s 0 (row_of field) source) (cut_rows look s 0 source), total_otherwise look s 0 (row_of field) source)

      pub block_less : total look s (cut_rows look s 0 source) + 1 ≤ total look s (rows_in block 0 n)
      block_less = omega (arith, opened_total, p.same)

      module _ (own below : ℕ) (e : own ≡ 1 + length (otherwise_row s 0 (row_of field) source)) (g : below ≡ total look s (cut_rows look s 0 source)) where
        pub block_most : rows + (own + below) ≤ 1048576
        block_most = let m = b.few in omega (arith, opened_total, p.same)

        pub blocks_next : Blocks look s block n (rows + (own + below)) (i + 1)
        blocks_next =
            record { ahead = omega arith; same = omega (arith, opened_total, p.same); fields = rest_none; fit = here.1 }

-- A WHOLE SCRIPT
pub count_script : (look : Naming) → (s : List ℕ) → total look s (cut_rows look s 0 (cut_part s 0 (length s))) ≡ length (rows_of look s)
count_script look s = sym (count_whole look s ∙ ap (λ c. total look s (cut_rows look s 0 c)) (cut_is_part s))

pub script_most : (look : Naming) → (s : List ℕ) (n : ℕ) → length s ≤ 1048576 → n ≡ total look s (cut_rows look s 0 (cut_part s 0 (length s))) → n ≤ 1048576
script_most look s n h e = omega (arith, part_few look (suc (length s)) s 0 0 (length s) (omega arith) (omega arith))
