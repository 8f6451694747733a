-- A PART OF A SCRIPT HAS AT MOST AS MANY ROWS AS BYTES, those of all sources in it among them. Assumes nothing.
use Rattle.std.specs.Prelude.{if◌then◌else◌}
use mathlib.Core.Path.{◌≡◌, refl}
use mathlib.Core.Bool.{Bool, true, false, not}
use mathlib.Core.List.{List, [], ◌∷◌, map}
use Prim.Native.Nat.{ℕ, zero, suc, ◌+◌, ◌-◌, ◌≤◌, ◌<◌}
use native.Mathlib.Omega.{arith}
use borrow.Author.Tests.{ne_eqb}
use lib.Dec.{ltb, eqb}
use lib.ListN.{length, take, length-take}
use Rattle.definition.specs.Numbers.{is_fstring, read_otherwise, unknown_prefix}
use Rattle.definition.specs.Escapes.{Naming}
use Rattle.definition.specs.Body.{Signs, Piece, literal, field, spec, read_body}
use Rattle.definition.specs.Records.{Answer}
use Rattle.definition.specs.Entry.{Literal, place_of, body}
use Rattle.definition.specs.Reading.{Outcome, accepts, refuses, read}
use Rattle.definition.specs.Rows.{Row, sign_at, signs_at, field_rows, pieces_of, literal_rows}
use Rattle.definition_scripts.specs.IsCut.{Ending, reaches_end, breaks_off, IsCut, EachLiteral}
use Rattle.definition_scripts.specs.Cut.{Cut, cut_part}
use Rattle.definition_scripts.specs.Keywords.{word_start, may_stand}
use Rattle.definition_scripts.specs.Listing.{of_field, of_refusal, read_rows, unknown_row, own_rows, all_read, broken_row, cut_rows, source_end, otherwise, otherwise_row, source_rows, rows_of}
use Rattle.definition_laws.proofs.Moves.Moves.{part_short}
use Rattle.definition_scripts_laws.proofs.Literals.OpeningLaws.{opens_in}
use Rattle.definition_scripts_laws.proofs.Cut.PartLaws.{part_cut_is, InPart, in_part, cut_is_part}
use Rattle.definition_scripts_laws.proofs.Listing.SourceLaws.{Sourced, AllFit, read_fit}
use Rattle.definition_scripts_laws.proofs.Listing.RowCount.{count_rows, count_none, count_append, count_whole}
use Rattle.definition_scripts_laws.proofs.Listing.FieldBytes.{weight, body_few}

-- a source is as long in its body as in the script
same_source : (base i : ℕ) (g : Signs) → source_end (signs_at base g) - (base + i) ≤ source_end g - i
unfolding source_end signs_at sign_at
same_source base i g = go g.bang g.colon g.close
  where
    go : (x y z : ℕ) → (if not (eqb (sign_at base x) 0) then sign_at base x - 1 else if not (eqb (sign_at base y) 0) then sign_at base y - 1 else sign_at base z - 1) - (base + i)
        ≤ (if not (eqb x 0) then x - 1 else if not (eqb y 0) then y - 1 else z - 1) - i
    go (suc x) y z = rw (ne_eqb (base + suc x) 0 (λ e. omega arith), ne_eqb (suc x) 0 (λ e. omega arith)) (omega arith)
    go zero (suc y) z = rw (ne_eqb (base + suc y) 0 (λ e. omega arith), ne_eqb (suc y) 0 (λ e. omega arith)) (omega arith)
    go zero zero (suc z) = omega arith
    go zero zero zero = omega arith

-- A REFUSAL is one row
one_row : (look : Naming) → (s : List ℕ) (n w start place number a b o : ℕ) → count_rows look n s (of_refusal w start place number a b o ∷ []) ≤ 1
unfolding count_rows source_rows
one_row look s zero w start place number a b o = omega arith
one_row look s (suc n) w start place number a b o = omega (arith, count_none look n s)

module _ (look : Naming) (s : List ℕ) (n : ℕ) where
  told_few : (t : Bool) (w start place number : ℕ) → count_rows look n s (if t then of_refusal w start place number 0 0 0 ∷ [] else []) ≤ 1
  told_few true w start place number = one_row look s n w start place number 0 0 0
  told_few false w start place number = omega (arith, count_none look n s)

  otherwise_few : (w : ℕ) (r : Row) (c : Cut) → count_rows look n s (otherwise_row s w r c) ≤ 1
  unfolding otherwise_row
  otherwise_few w r c = told_few (ltb (otherwise s r c) (length s)) w r.start (otherwise s r c) read_otherwise

  unknown_few : (w : ℕ) (l : Literal) → count_rows look n s (unknown_row s w l) ≤ 1
  unfolding unknown_row
  unknown_few w l = told_few (not (may_stand s l.start)) w l.start (word_start s l.start) unknown_prefix

  -- n levels deep: the rows of a part, and those of the fields of a body
  abbrev PartsFew : Type 0
  PartsFew = (w from end : ℕ) → from ≤ end → end ≤ length s → count_rows look n s (cut_rows look s w (cut_part s from end)) ≤ end - from

  abbrev FieldsFew : Type 0
  FieldsFew = (m w start base : ℕ) (ps : List Piece) → AllFit s m (map (of_field w) (field_rows start base ps)) → count_rows look n s (map (of_field w) (field_rows start base ps)) ≤ weight ps

  -- A SOURCE'S, with its 75
  source_by : PartsFew → (m i w : ℕ) (r : Row) → Sourced s m r → count_rows look n s (source_rows look s i (of_field w r)) ≤ source_end r.signs - r.place + 1
  unfolding source_rows
  source_by few m i w r p =
      let c = cut_part s r.place (source_end r.signs) in
      omega (arith, count_append look n s (otherwise_row s i r c) (cut_rows look s i c), otherwise_few i r c, few i r.place (source_end r.signs) p.ahead p.within)

  module _ (few : FieldsFew) (from end : ℕ) (h : end ≤ length s) (w : ℕ) where
    -- A LITERAL'S, fewer than it has bytes
    literal_by : (l : Literal) → InPart s from end l → count_rows look n s (read_rows look s w l) < l.end - l.start
    unfolding read_rows literal_rows body
    literal_by l p = go (is_fstring l.kind) refl (read look s (l ∷ [])) refl
      where
        long : l.start + l.size + 2 ≤ l.end
        long = p.lies.ahead

        ps : List Piece
        ps = pieces_of (read_body look l.kind (body s l))

        fields : count_rows look n s (map (of_field w) (field_rows l.start (place_of l 0) ps)) ≤ weight ps
        fields = few (suc (length s)) w l.start (place_of l 0) ps (read_fit look s (suc (length s)) from end h (omega arith) w l p (read_body look l.kind (body s l)) refl)

        go : (t : Bool) → is_fstring l.kind ≡ t → (o : Outcome Answer) → read look s (l ∷ []) ≡ o → count_rows look n s (read_rows look s w l) < l.end - l.start
        go false t o e = rw (t, read_rows) (omega (arith, count_none look n s))
        go true t (accepts x) e = rw (t, e, read_rows) (omega (arith, fields, body_few look l.kind (body s l), part_short s l.offset (l.offset + l.size)))
        go true t (refuses r) e = rw (t, e, read_rows) (omega (arith, one_row look s n w l.start r.place r.number r.a r.b r.opened))

    -- with its 76
    own_by : (l : Literal) → InPart s from end l → count_rows look n s (own_rows look s w l) ≤ l.end - l.start
    unfolding own_rows
    own_by l p = omega (arith, count_append look n s (unknown_row s w l) (read_rows look s w l), unknown_few w l, literal_by l p)

    -- those of literals and of what breaks off after them, from i on
    rest_by : (i : ℕ) → i ≤ end → (ls : List Literal) (e : Ending) → IsCut (take end s) i ls e → EachLiteral (InPart s from end) ls → count_rows look n s (all_read look s w ls) + count_rows look n s (broken_row w e) ≤ end - i
    unfolding all_read broken_row
    rest_by i k [] reaches_end p q = omega (arith, count_none look n s)
    rest_by i k [] (breaks_off number place) p q =
        let a = p.0.after in
        let b = opens_in (take end s) place p.0.opened in
        omega (arith, length-take end s, count_none look n s, one_row look s n w place place number 0 0 0)
    rest_by i k (l ∷ ls) e p q =
        let a = p.0.after in
        let b = q.0.ends in
        let c = q.0.lies.ahead in
        omega (arith, count_append look n s (own_rows look s w l) (all_read look s w ls), own_by l q.0, rest_by l.end b ls e p.2 q.1)

  parts_by : FieldsFew → PartsFew
  unfolding cut_rows
  parts_by few w from end k h =
      let c = cut_part s from end in
      let is = part_cut_is s from end k h in
      omega (arith, count_append look n s (all_read look s w c.literals) (broken_row w c.ending), rest_by few from end h w from k c.literals c.ending is (in_part s from end h from (omega arith) c.literals c.ending is))

-- a level deeper
fields_by : (look : Naming) → (s : List ℕ) (n : ℕ) → PartsFew look s n → FieldsFew look s (suc n)
unfolding count_rows field_rows
fields_by look s n few m w start base [] p = omega arith
fields_by look s n few m w start base (literal d t ∷ ps) p = fields_by look s n few m w start base ps p
fields_by look s n few m w start base (field d e c k i g ∷ ps) p =
    let r : Row = record { start = start; place = base + i; expression = length e; conversion = c; signs = signs_at base g } in
    omega (arith, source_by look s n few m 0 w r p.0, same_source base i g, fields_by look s n few m w start base ps p.1)
fields_by look s n few m w start base (spec k ∷ ps) p = fields_by look s n few m w start base ps p

fields_few : (look : Naming) → (s : List ℕ) (n : ℕ) → FieldsFew look s n
unfolding count_rows
fields_few look s zero m w start base ps p = omega arith
fields_few look s (suc n) m w start base ps p = fields_by look s n (parts_by look s n (fields_few look s n)) m w start base ps p

-- A PART, n levels deep
pub part_few : (look : Naming) → (n : ℕ) (s : List ℕ) (w from end : ℕ) → from ≤ end → end ≤ length s → count_rows look n s (cut_rows look s w (cut_part s from end)) ≤ end - from
part_few look n s = parts_by look s n (fields_few look s n)

-- a literal of it
pub literal_few : (look : Naming) → (n : ℕ) (s : List ℕ) (w from end : ℕ) → end ≤ length s → (l : Literal) → InPart s from end l → count_rows look n s (read_rows look s w l) ≤ l.end - l.start
literal_few look n s w from end h l p = omega (arith, literal_by look s n (fields_few look s n) from end h w l p)

-- with its 76
pub own_few : (look : Naming) → (n : ℕ) (s : List ℕ) (w from end : ℕ) → end ≤ length s → (l : Literal) → InPart s from end l → count_rows look n s (own_rows look s w l) ≤ l.end - l.start
own_few look n s w from end h = own_by look s n (fields_few look s n) from end h w

-- a field's source, with its 75
pub source_few : (look : Naming) → (n : ℕ) (s : List ℕ) (m i w : ℕ) (r : Row) → Sourced s m r → count_rows look n s (source_rows look s i (of_field w r)) ≤ source_end r.signs - r.place + 1
source_few look n s = source_by look s n (part_few look n s)

-- A WHOLE SCRIPT
pub rows_few : (look : Naming) → (s : List ℕ) → length (rows_of look s) ≤ length s
rows_few look s = rw (count_whole look s, cut_is_part s) (omega (arith, part_few look (suc (length s)) s 0 0 (length s) (omega arith) (omega arith)))
