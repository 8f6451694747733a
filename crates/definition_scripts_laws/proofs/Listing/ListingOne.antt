-- What a call for every field leaves in its row buffer; and two that return the same numbers and leave the same rows have one list. Assumes nothing.
use mathlib.Core.Path.{◌≡◌, refl, sym, ◌∙◌, ap}
use mathlib.Core.Bool.{Bool, true, false}
use mathlib.Core.List.{List, [], ◌∷◌, ◌++◌, append_assoc}
use Prim.Native.Nat.{ℕ, ◌*◌, ◌/◌, ◌≤◌}
use native.Mathlib.Omega.{arith}
use borrow.Author.Tests.{ltb-false}
use lib.Dec.{T, ltb, lit≤}
use lib.ListN.{length, drop}
use Rattle.definition.specs.Numbers.{◌among◌}
use Rattle.definition.specs.Escapes.{Naming}
use Rattle.definition.specs.Body.{Signs}
use Rattle.definition.specs.Words.{word}
use Rattle.definition.specs.Left.{Left}
use Rattle.definition.specs.Rows.{reason, row_numbers}
use Rattle.definition_scripts.specs.Cut.{cut}
use Rattle.definition_scripts.specs.Listing.{ListRow, of_field, of_refusal, ten_of, tens, reached, rows_of, Fields, fields, too_long, wrong_names, short, fields_of, fields_after, fields_call, fields_into, fields_numbers}
use Rattle.definition_laws.proofs.Outcomes.Leaving.{left_zeros, left_front}
use Rattle.definition_laws.proofs.Rows.SignLaws.{Fits, written, neither, by_repr, by_spec, reason_fits}
use Rattle.definition_scripts_laws.proofs.Listing.ListingSteps.{tens_length}

-- a field's first number is not a refusal's
not_five : (g : Signs) (n : ℕ) → Fits g n → n ≡ 5 → ⊥
not_five g n (written b) e = omega arith
not_five g n (neither b z) e = omega arith
not_five g n (by_repr b q z) e = omega arith
not_five g n (by_spec b q z) e = omega arith

-- so rows are what their numbers say
row_same : (p q : ListRow) (xs ys : List ℕ) → ((k : ℕ) → word (ten_of p ++ xs) k ≡ word (ten_of q ++ ys) k) → p ≡ q
unfolding ten_of row_numbers
row_same (of_field w r) (of_field v t) xs ys e =
    λ i. of_field (e 9 i) (record { start = e 1 i; place = e 2 i; expression = e 3 i; conversion = e 4 i; signs = record { equals = e 5 i; bang = e 6 i; colon = e 7 i; close = e 8 i } })
row_same (of_field w r) (of_refusal v start place number a b o) xs ys e = absurd (not_five r.signs (reason r.signs) (reason_fits r.signs) (e 0))
row_same (of_refusal v start place number a b o) (of_field w r) xs ys e = absurd (not_five r.signs (reason r.signs) (reason_fits r.signs) (sym (e 0)))
row_same (of_refusal v start place number a b o) (of_refusal v' start' place' number' a' b' o') xs ys e = λ i. of_refusal (e 9 i) (e 1 i) (e 2 i) (e 3 i) (e 4 i) (e 5 i) (e 6 i)

after_ten : (p : ListRow) (xs : List ℕ) → drop 10 (ten_of p ++ xs) ≡ xs
unfolding ten_of row_numbers
after_ten (of_field w r) xs = refl
after_ten (of_refusal v start place number a b o) xs = refl

rows_same : (rs qs : List ListRow) (x y : List ℕ) → length rs ≡ length qs → tens rs ++ x ≡ tens qs ++ y → rs ≡ qs
unfolding tens
rows_same [] [] x y n e = refl
rows_same [] (q ∷ qs) x y n e = absurd (omega arith)
rows_same (r ∷ rs) [] x y n e = absurd (omega arith)
rows_same (r ∷ rs) (q ∷ qs) x y n e =
    let f : ten_of r ++ (tens rs ++ x) ≡ ten_of q ++ (tens qs ++ y) = sym (append_assoc (ten_of r) (tens rs) x) ∙ e ∙ append_assoc (ten_of q) (tens qs) y in
    let h = row_same r q (tens rs ++ x) (tens qs ++ y) (λ k. ap (λ l. word l k) f) in
    let t = rows_same rs qs x y (omega arith) (sym (after_ten r (tens rs ++ x)) ∙ ap (drop 10) f ∙ after_ten q (tens qs ++ y)) in
    λ i. h i ∷ t i

-- the number of what is wrong with a file of names is no other refusal's
abbrev pub Told : Fields → Type 0
Told (fields rs l c) = Unit {0}
Told too_long = Unit {0}
Told (wrong_names n) = 60 ≤ n
Told (short m) = Unit {0}

pub one_list : (x y : Fields) → Told x → Told y → (b b' : List ℕ) → ((k : ℕ) → word (fields_numbers x) k ≡ word (fields_numbers y) k) → fields_after x b ≡ fields_after y b' → x ≡ y
unfolding fields_numbers fields_after
one_list (fields rs l c) (fields qs m d) h k b b' n e = let t = rows_same rs qs _ _ (n 1) e in λ i. fields (t i) (n 3 i) (n 4 i)
one_list (fields rs l c) too_long h k b b' n e = let z = n 0 in absurd (omega arith)
one_list (fields rs l c) (wrong_names m) h k b b' n e = let z = n 0 in absurd (omega arith)
one_list (fields rs l c) (short m) h k b b' n e = let z = n 0 in absurd (omega arith)
one_list too_long (fields qs m d) h k b b' n e = let z = n 0 in absurd (omega arith)
one_list too_long too_long h k b b' n e = refl
one_list too_long (wrong_names m) h k b b' n e = let z = n 0 in absurd (omega arith)
one_list too_long (short m) h k b b' n e = let z = n 0 in absurd (omega arith)
one_list (wrong_names m) (fields qs l d) h k b b' n e = let z = n 0 in absurd (omega arith)
one_list (wrong_names m) too_long h k b b' n e = let z = n 0 in absurd (omega arith)
one_list (wrong_names m) (wrong_names o) h k b b' n e = ap wrong_names (n 0)
one_list (wrong_names m) (short o) h k b b' n e = let z = n 0 in absurd (omega arith)
one_list (short m) (fields qs l d) h k b b' n e = let z = n 0 in absurd (omega arith)
one_list (short m) too_long h k b b' n e = let z = n 0 in absurd (omega arith)
one_list (short m) (wrong_names o) h k b b' n e = let z = n 0 in absurd (omega arith)
one_list (short m) (short o) h k b b' n e = ap short (n 9)

pub fields_told : (look : Naming) (s : List ℕ) (room : ℕ) → Told (fields_of look s room)
unfolding fields_of
fields_told look s room = go (ltb 1048576 (length s)) (ltb (room / 10) (length (rows_of look s)))
  where
    go : (t u : Bool) → Told (elim t [ true ↦ too_long | false ↦ elim u [ true ↦ short (length (rows_of look s)) | false ↦ fields (rows_of look s) (length (cut s).literals) (reached (length s) (cut s).ending) ] ])
    go true u = tt
    go false true = tt
    go false false = tt

pub fields_one : (look look' : Naming) (script buffer script' buffer' : List ℕ)
    → ((k : ℕ) → word (fields_numbers (fields_into look script buffer).listed) k ≡ word (fields_numbers (fields_into look' script' buffer').listed) k)
    → (fields_into look script buffer).rows ≡ (fields_into look' script' buffer').rows → (fields_into look script buffer).listed ≡ (fields_into look' script' buffer').listed
unfolding fields_into fields_call
fields_one look look' script buffer script' buffer' n e =
    one_list (fields_of look script (length buffer)) (fields_of look' script' (length buffer')) (fields_told look script (length buffer)) (fields_told look' script' (length buffer')) buffer buffer' n e

-- THE ROW BUFFER: ten numbers for a row
abbrev pub FieldsLeft : (buffer : List ℕ) → Fields → Type 0
FieldsLeft buffer x = Left (word (fields_numbers x) 0) (word (fields_numbers x) 1 * 10) buffer (fields_after x buffer)

module _ (buffer : List ℕ) where
  pub long_left : FieldsLeft buffer too_long
  unfolding fields_after fields_numbers
  long_left = left_zeros 49 0 buffer (lit≤ tt)

  pub wrong_left : (n : ℕ) → Told (wrong_names n) → FieldsLeft buffer (wrong_names n)
  unfolding fields_after fields_numbers
  wrong_left n h = left_zeros n 0 buffer (omega arith)

  pub listing_left : (look : Naming) (s : List ℕ) → FieldsLeft buffer (fields_of look s (length buffer))
  unfolding fields_after fields_numbers fields_of
  listing_left look s = go (ltb 1048576 (length s)) refl (ltb (length buffer / 10) (length (rows_of look s))) refl
    where
      go : (t : Bool) → ltb 1048576 (length s) ≡ t → (u : Bool) → ltb (length buffer / 10) (length (rows_of look s)) ≡ u → FieldsLeft buffer (fields_of look s (length buffer))
      go true e u f = rw (e, fields_of) long_left
      go false e true f = rw (e, f, fields_of) (left_zeros 53 0 buffer (lit≤ tt))
      go false e false f =
          let n = ltb-false (length buffer / 10) (length (rows_of look s)) f in
          rw (e, f, fields_of) (left_front (length (rows_of look s) * 10) (tens (rows_of look s)) buffer (tens_length (rows_of look s)) (omega arith))

pub fields_left : (look : Naming) (script buffer : List ℕ)
    → let c = fields_into look script buffer in let ns = fields_numbers c.listed in Left (word ns 0) (word ns 1 * 10) buffer c.rows
unfolding fields_into fields_call
fields_left look script buffer = listing_left buffer look script

-- THE FIRST NUMBER is 0, 49 or 53
pub fields_sane : (look : Naming) (s : List ℕ) (room : ℕ) → T (word (fields_numbers (fields_of look s room)) 0 among (0 ∷ 49 ∷ 53 ∷ []))
unfolding fields_of fields_numbers
fields_sane look s room = go (ltb 1048576 (length s)) (ltb (room / 10) (length (rows_of look s)))
  where
    go : (t u : Bool)
        → T (word (fields_numbers (elim t [ true ↦ too_long | false ↦ elim u [ true ↦ short (length (rows_of look s)) | false ↦ fields (rows_of look s) (length (cut s).literals) (reached (length s) (cut s).ending) ] ])) 0 among (0 ∷ 49 ∷ 53 ∷ []))
    go true u = tt
    go false true = tt
    go false false = tt
