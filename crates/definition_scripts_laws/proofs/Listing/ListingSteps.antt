-- What the list of a script does row by row, and what a call for it gives: the equations that code is proved by. Assumes nothing.
use mathlib.Core.Path.{◌≡◌, refl, sym, subst, ◌∙◌, ap}
use mathlib.Core.List.{List, [], ◌∷◌, ◌++◌, append_assoc, append-nil}
use Prim.Native.Nat.{ℕ, zero, suc, ◌*◌, ◌/◌, ◌≤◌, ◌<◌}
use native.Mathlib.Numerals.{add-one}
use native.Mathlib.Omega.{arith}
use borrow.Author.Tests.{lt-ltb, le-ltb}
use lib.ListN.{length, length-append}
use Rattle.definition.specs.Escapes.{Naming}
use Rattle.definition.specs.Rows.{row_numbers}
use Rattle.definition_scripts.specs.Cut.{cut}
use Rattle.definition_scripts.specs.Listing.{ListRow, of_field, of_refusal, ten_of, tens, cut_rows, reached, source_rows, below, rows_of, fields, too_long, short, fields_of}
use Rattle.definition_scripts_laws.proofs.Listing.SourceLaws.{AllFit, none_fits, below_fit}
use Rattle.definition_scripts_laws.proofs.Listing.ListingLaws.{rows_again, rows_fit}

-- A LOOP OVER THE ROWS ALREADY WRITTEN: those whose sources are listed, those whose sources are not yet, and what is still to come
pub record Listing (look : Naming) (s : List ℕ) (done todo : List ListRow) : Type 0 where
  pub rest : List ListRow
  pub whole : rows_of look s ≡ done ++ (todo ++ rest)
  pub more : rest ≡ below look s (length done) (todo ++ rest)

module _ (look : Naming) (s : List ℕ) where
  pub listing_start : Listing look s [] (cut_rows look s 0 (cut s))
  listing_start = record { rest = below look s 0 (rows_of look s); whole = rows_again look s; more = ap (below look s 0) (rows_again look s) }

  -- one row more
  pub listing_step : (done : List ListRow) (r : ListRow) (todo : List ListRow) → Listing look s done (r ∷ todo) → Listing look s (done ++ r ∷ []) (todo ++ source_rows look s (suc (length done)) r)
  unfolding below
  listing_step done r todo p =
      let n = suc (length done) in
      let later = below look s n (todo ++ p.rest) in
      let e : p.rest ≡ source_rows look s n r ++ later = p.more in
      let k : length (done ++ r ∷ []) ≡ n = length-append done (r ∷ []) ∙ add-one (length done) in
      record {
        rest = later;
        whole = p.whole ∙ ap (λ x. done ++ (r ∷ todo ++ x)) e ∙ ap (λ x. done ++ (r ∷ x)) (sym (append_assoc todo (source_rows look s n r) later)) ∙ sym (append_assoc done (r ∷ []) ((todo ++ source_rows look s n r) ++ later));
        more = rw k (ap (below look s n) (ap (λ x. todo ++ x) e ∙ sym (append_assoc todo (source_rows look s n r) later)));
      }

  -- rows that are their own sources' are none
  fit_right : (n : ℕ) (xs ys : List ListRow) → AllFit s n (xs ++ ys) → AllFit s n ys
  fit_right n [] ys p = p
  fit_right n (x ∷ xs) ys p = fit_right n xs ys p.1

  no_rows_lem : (n i : ℕ) (rs : List ListRow) → AllFit s n rs → rs ≡ below look s i rs → rs ≡ []
  no_rows_lem zero i rs p e = none_fits s rs p
  no_rows_lem (suc n) i rs p e = no_rows_lem n i rs (rw (sym e) at (below_fit look s n i rs p)) e

  -- none is left: the list is what was written
  pub listing_end : (done : List ListRow) → Listing look s done [] → rows_of look s ≡ done
  listing_end done p =
      let e = no_rows_lem (suc (length s)) (length done) p.rest (fit_right (suc (length s)) done p.rest (subst (λ (x : List ListRow). AllFit s (suc (length s)) x) p.whole (rows_fit look s))) p.more in
      p.whole ∙ ap (λ x. done ++ x) e ∙ append-nil done

  -- THE CALL
  module _ (room : ℕ) where
    pub fields_long : 1048576 < length s → fields_of look s room ≡ too_long
    unfolding fields_of
    fields_long h = rw (lt-ltb 1048576 (length s) h, fields_of)

    pub fields_short : length s ≤ 1048576 → room / 10 < length (rows_of look s) → fields_of look s room ≡ short (length (rows_of look s))
    unfolding fields_of
    fields_short h k = rw (le-ltb 1048576 (length s) h, lt-ltb (room / 10) (length (rows_of look s)) k, fields_of)

    pub fields_given : length s ≤ 1048576 → length (rows_of look s) ≤ room / 10 → fields_of look s room ≡ fields (rows_of look s) (length (cut s).literals) (reached (length s) (cut s).ending)
    unfolding fields_of
    fields_given h k = rw (le-ltb 1048576 (length s) h, le-ltb (room / 10) (length (rows_of look s)) k, fields_of)

-- ten numbers a row
pub ten : (r : ListRow) → length (ten_of r) ≡ 10
unfolding ten_of row_numbers
ten (of_field w r) = refl
ten (of_refusal w start place number a b o) = refl

pub tens_length : (rs : List ListRow) → length (tens rs) ≡ length rs * 10
unfolding tens
tens_length [] = refl
tens_length (r ∷ rs) = let a = tens_length rs in let b = ten r in omega (arith, length-append (ten_of r) (tens rs))

pub tens_append : (xs ys : List ListRow) → tens (xs ++ ys) ≡ tens xs ++ tens ys
unfolding tens
tens_append [] ys = refl
tens_append (x ∷ xs) ys = ap (λ r. ten_of x ++ r) (tens_append xs ys) ∙ sym (append_assoc (ten_of x) (tens xs) (tens ys))
