-- ONLY ONE LIST IS COMPLETE FOR A SCRIPT. Assumes nothing.
use Rattle.std.specs.Prelude.{if◌then◌else◌}
use mathlib.Core.Path.{◌≡◌, refl, sym, subst, ◌∙◌, ap, ap₂}
use mathlib.Core.Bool.{Bool, true, false}
use mathlib.Core.List.{List, [], ◌∷◌, ◌++◌, map, append_assoc}
use Prim.Native.Nat.{ℕ, zero, suc, ◌+◌, ◌≤◌}
use native.Mathlib.Omega.{arith}
use lib.Dec.{eqb}
use lib.ListN.{length, take, length-append}
use Rattle.definition.specs.Escapes.{Naming}
use Rattle.definition.specs.Body.{Piece, literal, field, spec, read_body}
use Rattle.definition.specs.Entry.{Literal, opening, place_of, body}
use Rattle.definition.specs.Rows.{Row, field_rows, pieces_of, literal_rows}
use Rattle.definition_scripts.specs.IsCut.{Ending, reaches_end, IsCut}
use Rattle.definition_scripts.specs.Listing.{ListRow, of_field, of_refusal, source_end}
use Rattle.definition_scripts_laws.specs.Complete.{Fielded, other, fstring, Covered, Sources, source, Complete}
use Rattle.definition_laws.proofs.Rows.FieldRows.{others_none}
use Rattle.definition_scripts_laws.proofs.Cut.CutOnce.{cut_once}

-- THE ROWS OF LITERALS are theirs
module _ (look : Naming) (s : List ℕ) (w : ℕ) where
  abbrev theirs : List Literal → List ListRow
  theirs [] = []
  theirs (l ∷ ls) = map (of_field w) (literal_rows look s l) ++ theirs ls

  fielded_is : {ls : List Literal} {rows : List ListRow} → Fielded look s w ls rows → rows ≡ theirs ls
  fielded_is Fielded.none = refl
  fielded_is {ls = l ∷ ls} (other e f) = fielded_is f ∙ ap (λ x. map (of_field w) x ++ theirs ls) (sym (others_none look s l e))
  fielded_is {ls = l ∷ ls} (fstring answer e p q f) = ap (λ x. map (of_field w) (literal_rows look s l) ++ x) (fielded_is f)

  -- so a part has one list of them
  covered_one : {from end : ℕ} {rows rows' : List ListRow} → Covered look s w from end rows → Covered look s w from end rows' → rows ≡ rows'
  covered_one {from} {end} c c' =
      fielded_is c.fielded
      ∙ ap theirs (cut_once (take end s) from c.literals c'.literals reaches_end reaches_end c.is_cut c'.is_cut).0
      ∙ sym (fielded_is c'.fielded)

-- EACH FIELD OF A PART begins after it
abbrev Past : ℕ → List ListRow → Type 0
Past n [] = Unit {0}
Past n (of_field w r ∷ rs) = (n ≤ r.place) × Past n rs
Past n (of_refusal w start place number a b o ∷ rs) = Past n rs

past_append : (n : ℕ) (xs ys : List ListRow) → Past n xs → Past n ys → Past n (xs ++ ys)
past_append n [] ys p q = q
past_append n (of_field w r ∷ xs) ys p q = (p.0, past_append n xs ys p.1 q)
past_append n (of_refusal w start place number a b o ∷ xs) ys p q = past_append n xs ys p q

past_less : (n m : ℕ) (rs : List ListRow) → n ≤ m → Past m rs → Past n rs
past_less n m [] h p = tt
past_less n m (of_field w r ∷ rs) h p = (let k = p.0 in omega arith, past_less n m rs h p.1)
past_less n m (of_refusal w start place number a b o ∷ rs) h p = past_less n m rs h p

some_quote : (t : Bool) → 1 ≤ (if t then 3 else 1)
some_quote true = omega arith
some_quote false = omega arith

module _ (look : Naming) (s : List ℕ) (w : ℕ) where
  fields_past_lem : (start base : ℕ) (ps : List Piece) → Past base (map (of_field w) (field_rows start base ps))
  unfolding field_rows
  fields_past_lem start base [] = tt
  fields_past_lem start base (literal d t ∷ ps) = fields_past_lem start base ps
  fields_past_lem start base (field d e c n i g ∷ ps) = (omega arith, fields_past_lem start base ps)
  fields_past_lem start base (spec n ∷ ps) = fields_past_lem start base ps

  theirs_past : (t : List ℕ) (from : ℕ) (ls : List Literal) (e : Ending) → IsCut t from ls e → Past (from + 1) (theirs look s w ls)
  unfolding literal_rows place_of opening
  theirs_past t from [] e p = tt
  theirs_past t from (l ∷ ls) e p =
      let a = p.0.after in
      let b = p.1.begun in
      let c = p.1.last in
      past_append (from + 1) (map (of_field w) (literal_rows look s l)) (theirs look s w ls)
      (past_less (from + 1) (place_of l 0) (map (of_field w) (literal_rows look s l)) (omega (arith, some_quote (eqb l.triple 1))) (fields_past_lem l.start (place_of l 0) (pieces_of (read_body look l.kind (body s l)))))
      (past_less (from + 1) (l.end + 1) (theirs look s w ls) (omega arith) (theirs_past t l.end ls e p.2))

-- so rows that are their own sources' are none
sources_past : {look : Naming} {s : List ℕ} {i : ℕ} {rs later : List ListRow} (n : ℕ) → Sources look s i rs later → Past n rs → Past (suc n) later
sources_past n Sources.none p = tt
sources_past {look} {s} {i} n (source {r = r} {own = own} {rows = rows} c k q) p =
    let a = p.0 in
    past_append (suc n) own rows
    (past_less (suc n) (r.place + 1) own (omega arith) (rw (sym (fielded_is look s (suc i) c.fielded)) at (theirs_past look s (suc i) (take (source_end r.signs) s) r.place c.literals reaches_end c.is_cut)))
    (sources_past n q p.1)

-- they begin past every place
own_past : {look : Naming} {s : List ℕ} {i : ℕ} {rs : List ListRow} (n : ℕ) → Sources look s i rs rs → Past n rs
own_past {rs = rs} zero q = all_past rs
  where
    all_past : (rs : List ListRow) → Past 0 rs
    all_past [] = tt
    all_past (of_field w r ∷ rs) = (omega arith, all_past rs)
    all_past (of_refusal w start place number a b o ∷ rs) = all_past rs
own_past (suc n) q = sources_past n q (own_past n q)

no_own : {look : Naming} {s : List ℕ} {i : ℕ} (rs later : List ListRow) → Sources look s i rs later → ((n : ℕ) → Past n rs) → rs ≡ []
no_own rs later Sources.none p = refl
no_own rs later (source {r = r} c k q) p = let h = (p (suc r.place)).0 in absurd (omega arith)

-- a first row's own rows, and those of the others
record Split (look : Naming) (s : List ℕ) (i : ℕ) (r : ListRow) (rs later : List ListRow) : Type 0 where
  row : Row
  within : ℕ
  is : r ≡ of_field within row
  own : List ListRow
  rows : List ListRow
  covered : Covered look s (suc i) row.place (source_end row.signs) own
  others : Sources look s (suc i) rs rows
  both : later ≡ own ++ rows

split : {look : Naming} {s : List ℕ} {i : ℕ} {r : ListRow} {rs later : List ListRow} → Sources look s i (r ∷ rs) later → Split look s i r rs later
split (source {within = w} {r = r} {own = own} {rows = rows} c k q) = record { row = r; within = w; is = refl; own = own; rows = rows; covered = c; others = q; both = refl }

same_row : (w w' : ℕ) (r r' : Row) → of_field w r ≡ of_field w' r' → r ≡ r'
same_row w w' r r' e = cc

-- THE SAME SOURCES from there on: the first rows of both are known
module _ (look : Naming) (s : List ℕ) where
  own_one : {i : ℕ} {r : ListRow} {xs ys a b : List ListRow} (x : Split look s i r xs a) (y : Split look s i r ys b) → x.own ≡ y.own
  own_one {i} x y =
      let e = same_row x.within y.within x.row y.row (sym x.is ∙ y.is) in
      covered_one look s (suc i) (subst (λ (r : Row). Covered look s (suc i) r.place (source_end r.signs) x.own) e x.covered) y.covered

  none_left : (i : ℕ) (rest rest' : List ListRow) → Sources look s i rest rest → Sources look s i rest' rest' → rest ≡ rest'
  none_left i rest rest' p q = no_own rest rest p (λ m. own_past m p) ∙ sym (no_own rest' rest' q (λ m. own_past m q))

  sources_one : (n i : ℕ) (todo rest rest' : List ListRow) → length todo + length rest ≤ n → Sources look s i (todo ++ rest) rest → Sources look s i (todo ++ rest') rest' → rest ≡ rest'
  sources_one zero i [] rest rest' h p q = none_left i rest rest' p q
  sources_one zero i (r ∷ todo) rest rest' h p q = absurd (omega arith)
  sources_one (suc n) i [] rest rest' h p q = none_left i rest rest' p q
  sources_one (suc n) i (r ∷ todo) rest rest' h p q =
      let x = split p in
      let y = split q in
      let e = own_one x y in
      let a : Sources look s (suc i) ((todo ++ x.own) ++ x.rows) x.rows = rw (append_assoc todo x.own x.rows, ← x.both) x.others in
      let b : Sources look s (suc i) ((todo ++ x.own) ++ y.rows) y.rows = rw (append_assoc todo x.own y.rows, e, ← y.both) y.others in
      let k : length rest ≡ length x.own + length x.rows = ap length x.both ∙ length-append x.own x.rows in
      let m = sources_one n (suc i) (todo ++ x.own) x.rows y.rows (omega (arith, length-append todo x.own)) a b in
      x.both ∙ ap₂ ◌++◌ e m ∙ sym y.both

  -- COMPLETE FITS ONE LIST
  pub complete_one : (rows rows' : List ListRow) → Complete look s rows → Complete look s rows' → rows ≡ rows'
  complete_one rows rows' c d =
      let e = covered_one look s 0 c.script d.script in
      let a : Sources look s 0 (c.own ++ c.later) c.later = rw (← c.exact) c.sources in
      let b : Sources look s 0 (c.own ++ d.later) d.later = rw (e, ← d.exact) d.sources in
      let m = sources_one (length c.own + length c.later) 0 c.own c.later d.later (omega arith) a b in
      c.exact ∙ ap₂ ◌++◌ e m ∙ sym d.exact
