-- THE SOURCE OF EVERY ROW lies in the script, and those of its own rows are shorter. Assumes nothing.
use Rattle.std.specs.Prelude.{if◌then◌else◌}
use mathlib.Core.Path.{◌≡◌, refl}
use mathlib.Core.Bool.{Bool, true, false, not}
use mathlib.Core.List.{List, [], ◌∷◌, ◌++◌, map}
use Prim.Native.Nat.{ℕ, zero, suc, ◌+◌, ◌-◌, ◌≤◌, ◌<◌}
use native.Mathlib.Omega.{arith}
use lib.Dec.{ltb}
use lib.ListN.{length}
use Rattle.definition.specs.Numbers.{is_fstring, read_otherwise, unknown_prefix}
use Rattle.definition.specs.Escapes.{Naming, Read, got, refused}
use Rattle.definition.specs.Body.{Piece, literal, field, spec, read_body}
use Rattle.definition.specs.Records.{Answer}
use Rattle.definition.specs.Entry.{Literal, place_of, body}
use Rattle.definition.specs.Reading.{Outcome, accepts, refuses, read}
use Rattle.definition.specs.Rows.{Row, sign_at, signs_at, field_rows, pieces_of, literal_rows}
use Rattle.definition_scripts.specs.IsCut.{Ending, reaches_end, breaks_off, EachLiteral}
use Rattle.definition_scripts.specs.Cut.{Cut, cut, cut_part}
use Rattle.definition_scripts.specs.Keywords.{word_start, may_stand}
use Rattle.definition_scripts.specs.Listing.{ListRow, of_field, of_refusal, read_rows, unknown_row, own_rows, all_read, broken_row, cut_rows, source_end, otherwise, otherwise_row, source_rows, below}
use Rattle.definition_scripts_laws.specs.Complete.{Placed}
use Rattle.definition_laws.proofs.Moves.Moves.{part_short}
use Rattle.definition_laws.proofs.Rows.SignLaws.{After, Signed, body_signed}
use Rattle.definition_scripts_laws.proofs.Cut.PartLaws.{part_cut_is, InPart, in_part, cut_is_part}
use Rattle.definition_scripts_laws.proofs.Listing.RowPlaces.{source_within, piece_placed}

-- a field's source lies in the script, and n levels are enough for it
pub record Sourced (s : List ℕ) (n : ℕ) (r : Row) : Type 0 where
  pub ahead : r.place ≤ source_end r.signs
  pub within : source_end r.signs ≤ length s
  pub levels : source_end r.signs - r.place + 1 < n
  pub equals_in : r.signs.equals < length s
  pub placed : Placed s r

abbrev pub Fits : List ℕ → ℕ → ListRow → Type 0
Fits s n (of_field w r) = Sourced s n r
Fits s n (of_refusal w start place number a b o) = 1 ≤ n

abbrev pub AllFit : List ℕ → ℕ → List ListRow → Type 0
AllFit s n [] = Unit {0}
AllFit s n (r ∷ rs) = Fits s n r × AllFit s n rs

pub fit_append : (s : List ℕ) (n : ℕ) (xs ys : List ListRow) → AllFit s n xs → AllFit s n ys → AllFit s n (xs ++ ys)
fit_append s n [] ys p q = q
fit_append s n (x ∷ xs) ys p q = (p.0, fit_append s n xs ys p.1 q)

pub fit_more : (s : List ℕ) (n : ℕ) (rs : List ListRow) → AllFit s n rs → AllFit s (suc n) rs
fit_more s n [] p = tt
fit_more s n (of_field w r ∷ rs) p =
    let q = p.0 in
    let h = q.levels in
    (record { ahead = q.ahead; within = q.within; levels = omega arith; equals_in = q.equals_in; placed = q.placed }, fit_more s n rs p.1)
fit_more s n (of_refusal w start place number a b o ∷ rs) p = (let h = p.0 in omega arith, fit_more s n rs p.1)

pub none_fits : (s : List ℕ) (rs : List ListRow) → AllFit s 0 rs → rs ≡ []
none_fits s [] p = refl
none_fits s (of_field w r ∷ rs) p = let h = p.0.levels in absurd (omega arith)
none_fits s (of_refusal w start place number a b o ∷ rs) p = let h = p.0 in absurd (omega arith)

-- a refusal that is told or not
told_fit : (s : List ℕ) (n : ℕ) (t : Bool) (w start place number : ℕ) → 1 ≤ n → AllFit s n (if t then of_refusal w start place number 0 0 0 ∷ [] else [])
told_fit s n true w start place number h = (h, tt)
told_fit s n false w start place number h = tt

-- THE ROWS OF A CUT of the part from `from` up to `end`
module _ (look : Naming) (s : List ℕ) (n from end : ℕ) (h : end ≤ length s) (k : end - from < n) (w : ℕ) where
  inside : (l : Literal) → InPart s from end l → (e i : ℕ) → place_of l 0 + i ≤ e → e < place_of l 0 + length (body s l) → (e ≤ length s) × (e - (place_of l 0 + i) + 1 < n)
  unfolding place_of body
  inside l p e i a b =
      let x = p.starts in
      let y = p.lies.room in
      let u = p.ends in
      let z = part_short s l.offset (l.offset + l.size) in
      (omega arith, omega arith)

  equals_within : (l : Literal) → InPart s from end l → (j : ℕ) {i : ℕ} → (1 ≤ j → After (body s l) i 61 j) → sign_at (place_of l 0) j < length s
  unfolding place_of body sign_at
  equals_within l p zero a = let y = p.lies.room in let u = p.ends in omega arith
  equals_within l p (suc j) a =
      let x = a (omega arith) in
      let z = x.1 in
      let y = p.lies.room in
      let u = p.ends in
      let v = part_short s l.offset (l.offset + l.size) in
      omega arith

  fields_fit : (l : Literal) → InPart s from end l → (ps : List Piece) → Signed (body s l) ps → AllFit s n (map (of_field w) (field_rows l.start (place_of l 0) ps))
  unfolding field_rows signs_at
  fields_fit l p [] q = tt
  fields_fit l p (literal d t ∷ ps) q = fields_fit l p ps q
  fields_fit l p (field d e c m i g ∷ ps) q =
      let x = source_within (body s l) i (place_of l 0) g q.0.0 q.0.1 in
      let y = inside l p (source_end (signs_at (place_of l 0) g)) i x.0 x.1 in (
        record {
          ahead = x.0;
          within = y.0;
          levels = y.1;
          equals_in = equals_within l p g.equals q.0.0.equals_after;
          placed = piece_placed s l p.lies.begins (length e) c i g q.0;
        },
        fields_fit l p ps q.1,
      )
  fields_fit l p (spec m ∷ ps) q = fields_fit l p ps q

  pub read_fit : (l : Literal) → InPart s from end l → (r : Read (List Piece)) → read_body look l.kind (body s l) ≡ r → AllFit s n (map (of_field w) (field_rows l.start (place_of l 0) (pieces_of r)))
  unfolding pieces_of field_rows
  read_fit l p (got ps j) e = fields_fit l p ps (body_signed look l.kind (body s l) ps j e)
  read_fit l p (refused x) e = tt

  pub literal_fit : (l : Literal) → InPart s from end l → AllFit s n (read_rows look s w l)
  unfolding read_rows literal_rows
  literal_fit l p = go (is_fstring l.kind) refl (read look s (l ∷ [])) refl
    where
      go : (t : Bool) → is_fstring l.kind ≡ t → (o : Outcome Answer) → read look s (l ∷ []) ≡ o → AllFit s n (read_rows look s w l)
      go false t o e = rw (t, read_rows) tt
      go true t (accepts x) e = rw (t, e, read_rows) (read_fit l p (read_body look l.kind (body s l)) refl)
      go true t (refuses r) e = rw (t, e, read_rows) (omega arith, tt)

  own_fit : (l : Literal) → InPart s from end l → AllFit s n (own_rows look s w l)
  unfolding own_rows unknown_row
  own_fit l p = fit_append s n (unknown_row s w l) (read_rows look s w l) (told_fit s n (not (may_stand s l.start)) w l.start (word_start s l.start) unknown_prefix (omega arith)) (literal_fit l p)

  all_fit : (ls : List Literal) → EachLiteral (InPart s from end) ls → AllFit s n (all_read look s w ls)
  unfolding all_read
  all_fit [] p = tt
  all_fit (l ∷ ls) p = fit_append s n (own_rows look s w l) (all_read look s w ls) (own_fit l p.0) (all_fit ls p.1)

  broken_fit : (e : Ending) → AllFit s n (broken_row w e)
  unfolding broken_row
  broken_fit reaches_end = tt
  broken_fit (breaks_off number place) = (omega arith, tt)

  pub cut_fit : from ≤ end → AllFit s n (cut_rows look s w (cut_part s from end))
  unfolding cut_rows
  cut_fit a =
      let c = cut_part s from end in
      fit_append s n (all_read look s w c.literals) (broken_row w c.ending) (all_fit c.literals (in_part s from end h from (omega arith) c.literals c.ending (part_cut_is s from end a h))) (broken_fit c.ending)

-- the script's own rows
pub first_fit : (look : Naming) → (s : List ℕ) → AllFit s (suc (length s)) (cut_rows look s 0 (cut s))
first_fit look s = rw (cut_is_part s) (cut_fit look s (suc (length s)) 0 (length s) (omega arith) (omega arith) 0 (omega arith))

-- THE ROWS OF SOURCES need a level less
otherwise_fit : (s : List ℕ) (n w : ℕ) (r : Row) (c : Cut) → 1 ≤ n → AllFit s n (otherwise_row s w r c)
unfolding otherwise_row
otherwise_fit s n w r c h = told_fit s n (ltb (otherwise s r c) (length s)) w r.start (otherwise s r c) read_otherwise h

pub source_fit : (look : Naming) → (s : List ℕ) (n i : ℕ) (r : ListRow) → Fits s (suc n) r → AllFit s n (source_rows look s i r)
unfolding source_rows
source_fit look s n i (of_refusal w start place number a b o) p = tt
source_fit look s n i (of_field w r) p =
    let x = p.levels in
    let c = cut_part s r.place (source_end r.signs) in
    fit_append s n (otherwise_row s i r c) (cut_rows look s i c) (otherwise_fit s n i r c (omega arith)) (cut_fit look s n r.place (source_end r.signs) p.within (omega arith) i p.ahead)

pub below_fit : (look : Naming) → (s : List ℕ) (n i : ℕ) (rs : List ListRow) → AllFit s (suc n) rs → AllFit s n (below look s i rs)
unfolding below
below_fit look s n i [] p = tt
below_fit look s n i (r ∷ rs) p = fit_append s n (source_rows look s (suc i) r) (below look s (suc i) rs) (source_fit look s n (suc i) r p.0) (below_fit look s n (suc i) rs p.1)
