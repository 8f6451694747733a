-- THE LIST OF A SCRIPT IS COMPLETE IF IT HAS NO REFUSAL: what the auditor asked for. Assumes nothing.
use mathlib.Core.Path.{◌≡◌, refl, subst, ap}
use mathlib.Core.Bool.{Bool, true, false}
use mathlib.Core.List.{List, [], ◌∷◌, ◌++◌, append-nil}
use Prim.Native.Nat.{ℕ, suc, ◌/◌, ◌≤◌}
use native.Mathlib.Omega.{arith}
use borrow.Author.Tests.{ltb-false}
use lib.Dec.{ltb}
use lib.ListN.{length, take}
use Rattle.definition.specs.Numbers.{read_otherwise}
use Rattle.definition.specs.Escapes.{Naming}
use Rattle.definition.specs.Entry.{Literal}
use Rattle.definition.specs.Reading.{in_front}
use Rattle.definition.specs.Words.{word}
use Rattle.definition.specs.Rows.{Row}
use Rattle.definition_scripts.specs.IsCut.{Ending, reaches_end, IsCut, EachLiteral}
use Rattle.definition_scripts.specs.Cut.{Cut, cut, cut_part}
use Rattle.definition_scripts.specs.Listing.{ListRow, of_field, of_refusal, tens, all_read, broken_row, cut_rows, source_end, reached, otherwise, otherwise_row, source_rows, below, rows_of, refusals_in, Fields, fields_of, fields_after, fields_call, fields_into, fields_numbers}
use Rattle.definition_scripts_laws.specs.Complete.{Covered, Likewise, Sources, none, source, Complete, Placed}
use Rattle.definition_laws.proofs.Rows.SpecRows.{Begun}
use Rattle.definition_scripts_laws.proofs.Cut.PartLaws.{part_cut_is, InPart, in_part, cut_is_part}
use Rattle.definition_scripts_laws.proofs.Listing.SourceLaws.{Sourced, AllFit}
use Rattle.definition_scripts_laws.proofs.Listing.ListingLaws.{rows_again, rows_fit}
use Rattle.definition_scripts_laws.proofs.Listing.OtherwiseLaws.{Lying, none_told}
use Rattle.definition_scripts_laws.proofs.Listing.FieldsLaw.{refusals_append, refused_told, not_told, all_stand, all_fielded, not_broken}

-- no refusal in the whole of two parts, none in either
none_in_both : (xs ys : List ListRow) → refusals_in (xs ++ ys) ≡ 0 → (refusals_in xs ≡ 0) × (refusals_in ys ≡ 0)
none_in_both xs ys n = let h = refusals_append xs ys in (omega arith, omega arith)

all_begun : (s : List ℕ) (from end : ℕ) (ls : List Literal) → EachLiteral (InPart s from end) ls → EachLiteral Begun ls
all_begun s from end [] p = tt
all_begun s from end (l ∷ ls) p = (p.0.lies.begins, all_begun s from end ls p.1)

-- A PART WHOSE CUT HAS NO REFUSAL is covered by its rows
module _ (look : Naming) (s : List ℕ) (w from end : ℕ) (a : from ≤ end) (h : end ≤ length s) (n : refusals_in (cut_rows look s w (cut_part s from end)) ≡ 0) where
  abbrev part : Cut
  part = cut_part s from end

  pub part_ends : part.ending ≡ reaches_end
  unfolding cut_rows
  part_ends = not_broken w part.ending (none_in_both (all_read look s w part.literals) (broken_row w part.ending) n).1

  part_rows : cut_rows look s w part ≡ all_read look s w part.literals
  unfolding cut_rows broken_row
  part_rows = rw part_ends (append-nil (all_read look s w part.literals))

  begun : EachLiteral Begun part.literals
  begun = all_begun s from end part.literals (in_part s from end h from (omega arith) part.literals part.ending (part_cut_is s from end a h))

  pub covered : Covered look s w from end (cut_rows look s w part)
  covered = record {
    literals = part.literals;
    is_cut = subst (λ (e : Ending). IsCut (take end s) from part.literals e) part_ends (part_cut_is s from end a h);
    standing = all_stand look s w part.literals (rw part_rows at n);
    fielded = rw part_rows (all_fielded look s w part.literals begun (rw part_rows at n));
  }

-- NO 75 of a field is told
no_row : (s : List ℕ) (i : ℕ) (r : Row) (c : Cut) → refusals_in (otherwise_row s i r c) ≡ 0 → (otherwise_row s i r c ≡ []) × (length s ≤ otherwise s r c)
unfolding otherwise_row
no_row s i r c n =
    let t = not_told (ltb (otherwise s r c) (length s)) i r.start (otherwise s r c) read_otherwise n in
    rw t (refl, ltb-false (otherwise s r c) (length s) t)

lying : (s : List ℕ) (from end : ℕ) (ls : List Literal) → EachLiteral (InPart s from end) ls → EachLiteral (Lying s) ls
lying s from end [] p = tt
lying s from end (l ∷ ls) p = let a = p.0.lies.ahead in let b = p.0.lies.within in ((omega arith, p.0.lies.body_within), lying s from end ls p.1)

-- EACH SOURCE is covered, and read likewise
all_sources : (look : Naming) → (s : List ℕ) (n i : ℕ) (rs : List ListRow) → AllFit s n rs → refusals_in rs ≡ 0 → refusals_in (below look s i rs) ≡ 0 → Sources look s i rs (below look s i rs)
unfolding below source_rows refusals_in covered
all_sources look s n i [] p z y = none
all_sources look s n i (of_refusal w start place number a b o ∷ rs) p z y = absurd (refused_told w start place number a b o rs z)
all_sources look s n i (of_field w r ∷ rs) p z y =
    let q = none_in_both (source_rows look s (suc i) (of_field w r)) (below look s (suc i) rs) y in
    rw (own q.0) (source (whole q.0) (alike q.0) (all_sources look s n (suc i) rs p.1 (rest z) q.1))
  where
    f : Sourced s n r
    f = p.0

    end : ℕ
    end = source_end r.signs

    c : Cut
    c = cut_part s r.place end

    parts : refusals_in (source_rows look s (suc i) (of_field w r)) ≡ 0 → (refusals_in (otherwise_row s (suc i) r c) ≡ 0) × (refusals_in (cut_rows look s (suc i) c) ≡ 0)
    parts = none_in_both (otherwise_row s (suc i) r c) (cut_rows look s (suc i) c)

    rest : refusals_in (of_field w r ∷ rs) ≡ 0 → refusals_in rs ≡ 0
    rest z = z

    own : refusals_in (source_rows look s (suc i) (of_field w r)) ≡ 0 → source_rows look s (suc i) (of_field w r) ≡ cut_rows look s (suc i) c
    own m = ap (λ x. x ++ cut_rows look s (suc i) c) (no_row s (suc i) r c (parts m).0).0

    whole : refusals_in (source_rows look s (suc i) (of_field w r)) ≡ 0 → Covered look s (suc i) r.place end (cut_rows look s (suc i) c)
    whole m = covered look s (suc i) r.place end f.ahead f.within (parts m).1

    alike : (m : refusals_in (source_rows look s (suc i) (of_field w r)) ≡ 0) → Likewise s r (whole m).literals
    alike m =
        none_told s r c (part_ends look s (suc i) r.place end f.ahead f.within (parts m).1) f.within f.equals_in
        (lying s r.place end c.literals (in_part s r.place end f.within r.place (omega arith) c.literals c.ending (part_cut_is s r.place end f.ahead f.within)))
        (no_row s (suc i) r c (parts m).0).1

-- the script was cut to its end
pub script_ends : (look : Naming) → (s : List ℕ) → refusals_in (rows_of look s) ≡ 0 → (cut s).ending ≡ reaches_end
script_ends look s n =
    let q = none_in_both (cut_rows look s 0 (cut s)) (below look s 0 (rows_of look s)) (subst (λ (x : List ListRow). refusals_in x ≡ 0) (rows_again look s) n) in
    rw (cut_is_part s) (part_ends look s 0 0 (length s) (omega arith) (omega arith) (rw (cut_is_part s) at q.0))

-- COMPLETE
pub complete : (look : Naming) → (s : List ℕ) → refusals_in (rows_of look s) ≡ 0 → Complete look s (rows_of look s)
complete look s n =
    let q = none_in_both (cut_rows look s 0 (cut s)) (below look s 0 (rows_of look s)) (subst (λ (x : List ListRow). refusals_in x ≡ 0) (rows_again look s) n) in
    record {
      own = cut_rows look s 0 (cut s);
      later = below look s 0 (rows_of look s);
      script = rw (cut_is_part s) (covered look s 0 0 (length s) (omega arith) (omega arith) (rw (cut_is_part s) at q.0));
      sources = all_sources look s (suc (length s)) 0 (rows_of look s) (rows_fit look s) n q.1;
      exact = rows_again look s;
    }

-- what each field among rows has
abbrev pub EachField : (Row → Type 0) → List ListRow → Type 0
EachField P [] = Unit {0}
EachField P (of_field w r ∷ rs) = P r × EachField P rs
EachField P (of_refusal w start place number a b o ∷ rs) = EachField P rs

-- EVERY FIELD IN THE LIST stands where its numbers say
each_placed : (s : List ℕ) (n : ℕ) (rs : List ListRow) → AllFit s n rs → EachField (Placed s) rs
each_placed s n [] p = tt
each_placed s n (of_field w r ∷ rs) p = (p.0.placed, each_placed s n rs p.1)
each_placed s n (of_refusal w start place number a b o ∷ rs) p = each_placed s n rs p.1

pub rows_placed : (look : Naming) → (s : List ℕ) → EachField (Placed s) (rows_of look s)
rows_placed look s = each_placed s (suc (length s)) (rows_of look s) (rows_fit look s)

-- OVER WHAT A CALLER HOLDS: a list was given, and the count of refusals is 0
pub record CompleteCall (look : Naming) (script buffer numbers after : List ℕ) : Type 0 where
  pub rows : List ListRow
  pub all : Complete look script rows
  pub counted : word numbers 1 ≡ length rows
  pub to_the_end : word numbers 4 ≡ length script
  pub held : after ≡ in_front (tens rows) buffer

pub fields_complete : (look : Naming) → (script buffer : List ℕ) → word (fields_numbers (fields_into look script buffer).listed) 0 ≡ 0 → word (fields_numbers (fields_into look script buffer).listed) 2 ≡ 0
    → CompleteCall look script buffer (fields_numbers (fields_into look script buffer).listed) (fields_into look script buffer).rows
unfolding fields_into fields_call fields_of fields_numbers fields_after reached
fields_complete look s buffer e f = go (ltb 1048576 (length s)) refl (ltb (length buffer / 10) (length (rows_of look s))) refl
  where
    Goal : Fields → Type 0
    Goal x = CompleteCall look s buffer (fields_numbers x) (fields_after x buffer)

    go : (t : Bool) → ltb 1048576 (length s) ≡ t → (u : Bool) → ltb (length buffer / 10) (length (rows_of look s)) ≡ u → Goal (fields_of look s (length buffer))
    go true t u y = let z = rw (t, fields_of) at e in absurd (omega arith)
    go false t true y = let z = rw (t, y, fields_of) at e in absurd (omega arith)
    go false t false y =
        let n = rw (t, y, fields_of) at f in
        rw (t, y, fields_of) (record { rows = rows_of look s; all = complete look s n; counted = refl; to_the_end = ap (reached (length s)) (script_ends look s n); held = refl })
