-- What a literal gives that is read alone. Assumes nothing.
use mathlib.Core.Path.{◌≡◌, refl, sym, ◌∙◌, ap}
use mathlib.Core.Bool.{true, false, false≢true}
use mathlib.Core.List.{List, [], ◌∷◌, ◌++◌, map, append-nil}
use Prim.Native.Nat.{ℕ, suc, ◌*◌, ◌<◌}
use native.Mathlib.Omega.{arith}
use lib.ListN.{length, take, drop}
use lib.Seq.{take-nil, drop-nil}
use Rattle.definition.specs.Numbers.{is_fstring}
use Rattle.definition.specs.Escapes.{Naming}
use Rattle.definition.specs.Entry.{sixes, one_more}
use Rattle.definition.specs.Records as answers
use Rattle.definition.specs.Reading.{accepts, refuses, in_front, zeros, read, numbers}
use Rattle.definition.specs.Reading as reading
use Rattle.definition.specs.Rows.{Row, row_numbers, literal_rows, all_rows, all_numbers, rowed, rowed_numbers}
use Rattle.definition_scripts.specs.Listing.{of_field, of_refusal, ten_of, tens, read_rows, refusals_in}
use Rattle.entry.specs.declared.Refusal as why
use Rattle.found.specs.declared.Literal.{Literal}
use Rattle.found.specs.Found.{literal_of, numbers_of}
use Rattle.answers.specs.declared.Answer.{Answer}
use Rattle.answers.specs.declared.Outcome.TheVariants.{Accepted, Refused}
use Rattle.strings.specs.Strings.{SignsIs}
use Rattle.strings.specs.Window.{window_after, window_into, window_numbers}
use Rattle.alone.specs.Puts.{Reads}

-- the numbers of fields' rows; none of them is a refusal
field_tens : (w : ℕ) (rs : List Row) → tens (map (of_field w) rs) ≡ all_numbers w rs
unfolding tens ten_of all_numbers
field_tens w [] = refl
field_tens w (r ∷ rs) = ap (λ ns. row_numbers w r ++ ns) (field_tens w rs)

field_refusals : (w : ℕ) (rs : List Row) → refusals_in (map (of_field w) rs) ≡ 0
unfolding refusals_in
field_refusals w [] = refl
field_refusals w (r ∷ rs) = field_refusals w rs

field_count_lem : (w : ℕ) (rs : List Row) → length (map (of_field w) rs) ≡ length rs
field_count_lem w [] = refl
field_count_lem w (r ∷ rs) = ap suc (field_count_lem w rs)

module _ (look : Naming) (s : List ℕ) (l : Literal) (w k : ℕ) (rows rows' : List ℕ) (f : is_fstring l.kind ≡ true) where
  abbrev o : reading.Outcome answers.Answer
  o = read look s (literal_of l ∷ [])

  one : window_numbers look w k s (numbers_of l) rows ≡ window_into look w k s (literal_of l ∷ []) rows
  unfolding window_numbers sixes one_more
  one = refl

  own : all_rows look s (literal_of l ∷ []) ≡ literal_rows look s (literal_of l)
  unfolding all_rows
  own = append-nil (literal_rows look s (literal_of l))

  pub alone_fields : (y : Answer) → SignsIs (window_numbers look w k s (numbers_of l) rows) rows' (Accepted y) → y.records < 4294967296 → Reads (read_rows look s w (literal_of l)) k rows rows' y.records
  unfolding window_into window_after rowed rowed_numbers numbers read_rows
  alone_fields y p few = go o refl (rw one at p)
    where
      go : (x : reading.Outcome answers.Answer) → o ≡ x → SignsIs (window_into look w k s (literal_of l ∷ []) rows) rows' (Accepted y) → Reads (read_rows look s w (literal_of l)) k rows rows' y.records
      go (refuses r) e q = let h = q.accepted in absurd (false≢true (sym (rw e at h)))
      go (accepts x) e q =
          let rs = literal_rows look s (literal_of l) in
          let a = rw (e, own) at q.answer in
          let b : y.records ≡ length rs = cc in
          let n : rows' ≡ in_front (take (length rows) (drop (k * 10) (all_numbers w rs))) rows = rw (e, own) at q.rows in
          rw (f, e, read_rows)
          (record {
            fields = field_refusals w rs;
            counted = b ∙ sym (field_count_lem w rs);
            few = few;
            wrote = rw (field_tens w rs) n;
          })

  pub alone_refused : (y : why.Refusal) → SignsIs (window_numbers look w k s (numbers_of l) rows) rows' (Refused y)
      → (read_rows look s w (literal_of l) ≡ of_refusal w l.start y.place y.number y.a y.b y.opened ∷ []) × (rows' ≡ zeros rows)
  unfolding window_into window_after rowed rowed_numbers numbers read_rows
  alone_refused y p = go o refl (rw one at p)
    where
      go : (x : reading.Outcome answers.Answer) → o ≡ x → SignsIs (window_into look w k s (literal_of l ∷ []) rows) rows' (Refused y)
          → (read_rows look s w (literal_of l) ≡ of_refusal w l.start y.place y.number y.a y.b y.opened ∷ []) × (rows' ≡ zeros rows)
      go (accepts x) e q = let h = q.accepted in absurd (false≢true (rw e at h))
      go (refuses r) e q =
          let a = rw e at q.answer in
          (rw (f, e, read_rows) cc, rw e at q.rows)

-- any other literal has none
pub alone_none : (look : Naming) (s : List ℕ) (l : Literal) (w k : ℕ) (rows : List ℕ) → is_fstring l.kind ≡ false → Reads (read_rows look s w (literal_of l)) k rows rows 0
unfolding read_rows refusals_in tens
alone_none look s l w k rows f =
    rw (f, read_rows)
    (record {
      fields = refl;
      counted = refl;
      few = omega arith;
      wrote = rw (drop-nil, take-nil) refl;
    })
