-- CUTS IN A BODY of kind 1: the check of offsets, whose pieces are to stand as adjacent literals.
use Rattle.std.specs.Prelude.{ℕ, ◌+◌, ◌≡◌, Bool, true, false, ◌&&◌, not, List, [], ◌∷◌, ltb, leb, eqb, length, drop, if◌then◌else◌}
use Rattle.definition.specs.Numbers.{wrong_offsets, piece_too_long, piece_refused, readings_differ}
use Rattle.definition.specs.Chars.{part, same}
use Rattle.definition.specs.Escapes.{held_names}
use Rattle.definition.specs.Records.{Record, Answer}
use Rattle.definition.specs.Reading.{Outcome, accepts, refuses, read_alone}
use Rattle.definition.specs.Join.{join_outcomes}

-- a reading that is no refusal
unfoldable pub is_read : Outcome Answer → Bool
is_read (accepts x) = true
is_read (refuses r) = false

-- CUTS. The offsets rise strictly inside a body of n bytes, after `from`
unfoldable pub rise : (n from : ℕ) → List ℕ → Bool
rise n from [] = true
rise n from (c ∷ cs) = ltb from c && ltb c n && rise n c cs

-- the pieces of a body from `from` on
unfoldable pub pieces : List ℕ → (from : ℕ) → List ℕ → List (List ℕ)
pieces s from [] = drop from s ∷ []
pieces s from (c ∷ cs) = part s from c ∷ pieces s c cs

-- each has at most the stated number of bytes
unfoldable pub all_short : (limit : ℕ) → List (List ℕ) → Bool
all_short limit [] = true
all_short limit (p ∷ ps) = leb (length p) limit && all_short limit ps

-- each reads without refusal
unfoldable pub all_read : List (List ℕ) → Bool
all_read [] = true
all_read (p ∷ ps) = is_read (read_alone held_names p) && all_read ps

-- the pieces' answers joined
unfoldable pub join_all : List (List ℕ) → Outcome Answer
join_all [] = read_alone held_names []
join_all (p ∷ []) = read_alone held_names p
join_all (p ∷ q ∷ ps) = join_outcomes 1 (read_alone held_names p) (join_all (q ∷ ps))

-- EQUAL READINGS: two records have the same kind, text, conversion and parts
unfoldable pub conversion : Record → ℕ
conversion r = if eqb r.kind 2 then r.mode else 0

unfoldable pub same_record : (text text' : List ℕ) → Record → Record → Bool
same_record text text' r r' =
    eqb r.kind r'.kind
    && same (part text r.offset (r.offset + r.size)) (part text' r'.offset (r'.offset + r'.size))
    && eqb (conversion r) (conversion r')
    && eqb r.parts r'.parts

unfoldable pub same_records : (text text' : List ℕ) → List Record → List Record → Bool
same_records text text' [] [] = true
same_records text text' [] (r ∷ rs) = false
same_records text text' (r ∷ rs) [] = false
same_records text text' (r ∷ rs) (r' ∷ rs') = same_record text text' r r' && same_records text text' rs rs'

-- two readings are equal so; one that is refused equals none
unfoldable pub equal : Outcome Answer → Outcome Answer → Bool
equal (refuses r) o = false
equal (accepts x) (refuses r) = false
equal (accepts x) (accepts y) = same_records x.text y.text x.records y.records

-- THE CHECK: 0, or the first of its four refusals
unfoldable pub checked : (s : List ℕ) (limit : ℕ) (cuts : List ℕ) → ℕ
checked s limit cuts =
    if not (rise (length s) 0 cuts) then wrong_offsets else
    if not (all_short limit (pieces s 0 cuts)) then piece_too_long else
    if not (all_read (pieces s 0 cuts)) then piece_refused else
    if not (equal (join_all (pieces s 0 cuts)) (read_alone held_names s)) then readings_differ else 0

abbrev pub Passes : (s : List ℕ) (limit : ℕ) (cuts : List ℕ) → Type 0
Passes s limit cuts = checked s limit cuts ≡ 0
