-- THE ROWS OF EACH LITERAL in a list: the fields of its reading, or its one refusal. Assumes nothing.
use Rattle.std.specs.Prelude.{if◌then◌else◌}
use mathlib.Core.Path.{◌≡◌, refl, sym, ◌∙◌, ap}
use mathlib.Core.Bool.{Bool, true, false, not}
use mathlib.Core.List.{List, [], ◌∷◌, ◌++◌, map, append-nil}
use Prim.Native.Nat.{ℕ, ◌+◌}
use native.Mathlib.Omega.{arith}
use borrow.Author.Tests.{not-false}
use Rattle.definition.specs.Numbers.{is_fstring, unknown_prefix}
use Rattle.definition.specs.Escapes.{Naming}
use Rattle.definition.specs.Records.{Answer}
use Rattle.definition.specs.Entry.{Literal, Refusal}
use Rattle.definition.specs.Reading.{Outcome, accepts, refuses, read}
use Rattle.definition.specs.Rows.{literal_rows, all_rows, row_field, record_fields, row_spec, record_specs}
use Rattle.definition_scripts.specs.IsCut.{Ending, reaches_end, breaks_off, EachLiteral}
use Rattle.definition_scripts.specs.Keywords.{word_start, may_stand}
use Rattle.definition_scripts.specs.Listing.{ListRow, of_field, of_refusal, read_rows, unknown_row, own_rows, all_read, broken_row, refusals_in}
use Rattle.definition_scripts_laws.specs.Complete.{Stands, Fielded, none, other, fstring}
use Rattle.definition_laws.proofs.Rows.FieldRows.{list_fields, others_none}
use Rattle.definition_laws.proofs.Rows.SpecRows.{Begun, list_specs}
use Rattle.definition_scripts_laws.proofs.Listing.WordLaws.{stands}

-- AN F-STRING THAT IS ACCEPTED has the fields of its answer for rows, in record order
pub accepted_rows : (look : Naming) → (s : List ℕ) (w : ℕ) (l : Literal) (x : Answer) → is_fstring l.kind ≡ true → read look s (l ∷ []) ≡ accepts x → read_rows look s w l ≡ map (of_field w) (literal_rows look s l)
unfolding read_rows
accepted_rows look s w l x t e = rw (t, e, read_rows)

pub accepted_fields : (look : Naming) → (s : List ℕ) (l : Literal) (x : Answer) → read look s (l ∷ []) ≡ accepts x → map row_field (literal_rows look s l) ≡ record_fields x.records
unfolding all_rows
accepted_fields look s l x e = sym (list_fields look s (l ∷ []) x e ∙ ap (map row_field) (append-nil (literal_rows look s l)))

-- and their specs, as its records have them
pub accepted_specs : (look : Naming) → (s : List ℕ) (l : Literal) (x : Answer) → Begun l → read look s (l ∷ []) ≡ accepts x → map (row_spec s) (literal_rows look s l) ≡ record_specs x.text x.records
unfolding all_rows
accepted_specs look s l x b e = ap (map (row_spec s)) (sym (append-nil (literal_rows look s l))) ∙ list_specs look s (l ∷ []) x (b, tt) e

-- ONE THAT IS REFUSED has its refusal for its row
pub refused_row : (look : Naming) → (s : List ℕ) (w : ℕ) (l : Literal) (r : Refusal) → is_fstring l.kind ≡ true → read look s (l ∷ []) ≡ refuses r
    → read_rows look s w l ≡ of_refusal w l.start r.place r.number r.a r.b r.opened ∷ []
unfolding read_rows
refused_row look s w l r t e = rw (t, e, read_rows)

-- A LITERAL OF ANOTHER KIND has none, and no field if it is read
pub other_rows : (look : Naming) → (s : List ℕ) (w : ℕ) (l : Literal) → is_fstring l.kind ≡ false → read_rows look s w l ≡ []
unfolding read_rows
other_rows look s w l t = rw (t, read_rows)

pub other_fields : (look : Naming) → (s : List ℕ) (l : Literal) (x : Answer) → is_fstring l.kind ≡ false → read look s (l ∷ []) ≡ accepts x → record_fields x.records ≡ []
other_fields look s l x t e = sym (accepted_fields look s l x e) ∙ ap (map row_field) (others_none look s l t)

-- how many rows are refusals
pub refusals_append : (xs ys : List ListRow) → refusals_in (xs ++ ys) ≡ refusals_in xs + refusals_in ys
unfolding refusals_in
refusals_append [] ys = omega arith
refusals_append (of_field w r ∷ xs) ys = refusals_append xs ys
refusals_append (of_refusal w start place number a b o ∷ xs) ys = let h = refusals_append xs ys in omega arith

-- one that is told
pub refused_told : (w start place number a b o : ℕ) (rs : List ListRow) → refusals_in (of_refusal w start place number a b o ∷ rs) ≡ 0 → ⊥
unfolding refusals_in
refused_told w start place number a b o rs e = omega arith

-- one that is told or not
pub not_told : (t : Bool) (w start place number : ℕ) → refusals_in (if t then of_refusal w start place number 0 0 0 ∷ [] else []) ≡ 0 → t ≡ false
not_told true w start place number n = absurd (refused_told w start place number 0 0 0 [] n)
not_told false w start place number n = refl

-- WITHOUT A REFUSAL each literal may stand where it does
known_stand : (s : List ℕ) (w : ℕ) (l : Literal) → refusals_in (unknown_row s w l) ≡ 0 → may_stand s l.start ≡ true
unfolding unknown_row
known_stand s w l n = not-false (may_stand s l.start) (not_told (not (may_stand s l.start)) w l.start (word_start s l.start) unknown_prefix n)

pub known_rows : (s : List ℕ) (w : ℕ) (l : Literal) → may_stand s l.start ≡ true → unknown_row s w l ≡ []
unfolding unknown_row
known_rows s w l e = rw e

module _ (look : Naming) (s : List ℕ) (w : ℕ) where
  none_in_three : (l : Literal) (ls : List Literal) → refusals_in (all_read look s w (l ∷ ls)) ≡ 0 → (refusals_in (unknown_row s w l) ≡ 0) × (refusals_in (read_rows look s w l) ≡ 0) × (refusals_in (all_read look s w ls) ≡ 0)
  unfolding all_read own_rows
  none_in_three l ls n =
      let h = refusals_append (unknown_row s w l ++ read_rows look s w l) (all_read look s w ls) in
      let k = refusals_append (unknown_row s w l) (read_rows look s w l) in
      (omega arith, omega arith, omega arith)

  pub all_stand : (ls : List Literal) → refusals_in (all_read look s w ls) ≡ 0 → EachLiteral (λ l. Stands s l.start) ls
  all_stand [] n = tt
  all_stand (l ∷ ls) n = let h = none_in_three l ls n in (stands s l.start (known_stand s w l h.0), all_stand ls h.2)

-- each f-string of a cut is accepted, and the rows are their fields
pub all_fielded : (look : Naming) → (s : List ℕ) (w : ℕ) (ls : List Literal) → EachLiteral Begun ls → refusals_in (all_read look s w ls) ≡ 0 → Fielded look s w ls (all_read look s w ls)
unfolding all_read own_rows
all_fielded look s w [] b n = none
all_fielded look s w (l ∷ ls) b n =
    let h = none_in_three look s w l ls n in
    rw (known_rows s w l (known_stand s w l h.0)) (go (is_fstring l.kind) refl (read look s (l ∷ [])) refl h.1 (all_fielded look s w ls b.1 h.2))
  where
    go : (t : Bool) → is_fstring l.kind ≡ t → (o : Outcome Answer) → read look s (l ∷ []) ≡ o → refusals_in (read_rows look s w l) ≡ 0 → Fielded look s w ls (all_read look s w ls) → Fielded look s w (l ∷ ls) (read_rows look s w l ++ all_read look s w ls)
    go false t o e n f = rw (other_rows look s w l t) (other t f)
    go true t (accepts x) e n f = rw (accepted_rows look s w l x t e) (fstring x e (accepted_fields look s l x e) (accepted_specs look s l x b.0 e) f)
    go true t (refuses r) e n f = absurd (refused_told w l.start r.place r.number r.a r.b r.opened [] (rw (refused_row look s w l r t e) at n))

-- and the cut reached its end
pub not_broken : (w : ℕ) (e : Ending) → refusals_in (broken_row w e) ≡ 0 → e ≡ reaches_end
unfolding broken_row
not_broken w reaches_end n = refl
not_broken w (breaks_off number place) n = absurd (refused_told w place place number 0 0 0 [] n)
