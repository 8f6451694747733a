-- What holds of every outcome: a refusal's number and details, and an acceptance's offsets, counts and lengths. Assumes nothing.
use Rattle.std.specs.Prelude.{if◌then◌else◌}
use mathlib.Core.Path.{◌≡◌, refl}
use mathlib.Core.Bool.{Bool, true, false, ◌&&◌, not}
use mathlib.Core.List.{List, [], ◌∷◌, map}
use mathlib.Core.Option.{Option, none, some}
use Prim.Native.Nat.{ℕ, suc, ◌+◌, ◌*◌, ◌/◌}
use native.Mathlib.Omega.{arith}
use lib.Dec.{T, ltb, leb}
use lib.ListN.{length, length-append}
use Rattle.definition.specs.Numbers.{is_bytes, empty_list, refusals, ◌among◌, of_entry, too_many_literals, bad_descriptor, bodies_too_long, not_utf8, mixed_bytes, detailed}
use Rattle.definition.specs.Escapes.{Naming, Read, got, refused}
use Rattle.definition.specs.Body.{Piece, read_body}
use Rattle.definition.specs.Records.{Item, Record, words_of, merged, texts, record_at, laid, cover, Answer, answer_of}
use Rattle.definition.specs.Entry.{Literal, sixes, place_of, body, Refusal, refusal, moved, not_empty, not_many, first_bad, bad, all_good, total, not_long, formed, ill_formed, all_utf8, any_of, first_start, not_mixed, first_of, entry}
use Rattle.definition.specs.Reading.{Outcome, accepts, refuses, refusal_in, read_literal, and_then, read_from, u_mark, last_end, answered, read, outcome_of, short_of, room_for, roomed, all_words, called, read_into, read_numbers, numbers_by}
use Rattle.definition_laws.proofs.Moves.Moves.{OfBody, Sound}
use Rattle.definition_laws.proofs.Moves.Fuel.{body_reading}

-- THE TABLE'S NUMBERS, in its order
pub table : refusals ≡ 1 ∷ 2 ∷ 3 ∷ 4 ∷ 5 ∷ 6 ∷ 7 ∷ 10 ∷ 11 ∷ 12 ∷ 13 ∷ 20 ∷ 21 ∷ 22 ∷ 23 ∷ 24 ∷ 25 ∷ 26 ∷ 27 ∷ 28 ∷ 30 ∷ 31 ∷ []
table = refl

-- a refusal's number stands in the table, and it has that number's details
abbrev pub Listed : Refusal → Type 0
Listed r = T (r.number among refusals && detailed r.number r.a r.b)

-- the number is one of the entry checks', with its details
abbrev pub OfEntry : Refusal → Type 0
OfEntry r = T (of_entry r.number && detailed r.number r.a r.b)

among_them : (x y z : Bool) → T ((x && y) && z) → T (y && z)
among_them true y z h = h
among_them false y z h = absurd h

body_listed : (r : Refusal) → OfBody r.number r.a r.b → Listed r
body_listed r h = among_them (leb 10 r.number && leb r.number 28) (r.number among refusals) (detailed r.number r.a r.b) h

entry_listed : (r : Refusal) → OfEntry r → Listed r
entry_listed r h = among_them (leb r.number 7) (r.number among refusals) (detailed r.number r.a r.b) h

-- THE ENTRY CHECKS: what holds of each refusal that has one of their numbers and no details holds of a check's, if there is one
module _ (P : Refusal → Type 0) where
  abbrev pub Refusing : Option Refusal → Type 0
  Refusing none = Unit {0}
  Refusing (some r) = P r

  by_test : (t : Bool) (r : Refusal) → P r → Refusing (if t then some r else none)
  by_test true r h = h
  by_test false r h = tt

  by_literal : (test : ℕ → Literal → Bool) (why : ℕ → Literal → Refusal) → ((i : ℕ) (l : Literal) → P (why i l))
      → (previous i : ℕ) (ls : List Literal) → Refusing (first_bad test why previous i ls)
  unfolding first_bad
  by_literal test why h previous i [] = tt
  by_literal test why h previous i (l ∷ ls) = go (test previous l) refl (by_literal test why h l.end (suc i) ls)
    where
      go : (t : Bool) → test previous l ≡ t → Refusing (first_bad test why l.end (suc i) ls) → Refusing (first_bad test why previous i (l ∷ ls))
      go true e p = rw (e, first_bad) (h i l)
      go false e p = rw (e, first_bad) p

  abbrev AllRefusing : List (Option Refusal) → Type 0
  AllRefusing [] = Unit {0}
  AllRefusing (c ∷ cs) = Refusing c × AllRefusing cs

  by_first : (cs : List (Option Refusal)) → AllRefusing cs → Refusing (first_of cs)
  unfolding first_of
  by_first [] h = tt
  by_first (none ∷ cs) h = by_first cs h.1
  by_first (some r ∷ cs) h = h.0

  module _ (h : (n i place : ℕ) → OfEntry (refusal n i place 0 0) → P (refusal n i place 0 0)) where
    some_literal : (ls : List Literal) → Refusing (not_empty ls)
    unfolding not_empty refusal
    some_literal [] = h empty_list 0 0 tt
    some_literal (l ∷ ls) = tt

    pub entry_refusing : (script : List ℕ) (ls : List Literal) → Refusing (entry script ls)
    unfolding entry not_many all_good not_long all_utf8 not_mixed refusal
    entry_refusing script ls =
        by_first (not_empty ls ∷ not_many ls ∷ all_good script ls ∷ not_long ls ∷ all_utf8 script ls ∷ not_mixed ls ∷ []) (
          some_literal ls,
          (
            by_test (ltb 1024 (length ls)) (refusal too_many_literals 0 0 0 0) (h too_many_literals 0 0 tt),
            (
              by_literal (bad script) (λ i l. refusal bad_descriptor i 0 0 0) (λ i l. h bad_descriptor i 0 tt) 0 0 ls,
              (
                by_test (ltb 1048576 (total ls)) (refusal bodies_too_long 0 0 0 0) (h bodies_too_long 0 0 tt),
                (
                  by_literal (ill_formed script) (λ i l. refusal not_utf8 i (place_of l (formed script l)) 0 0) (λ i l. h not_utf8 i (place_of l (formed script l)) tt) 0 0 ls,
                  (by_test (any_of is_bytes ls && any_of (λ kind. not (is_bytes kind)) ls) (refusal mixed_bytes 0 (first_start ls) 0 0) (h mixed_bytes 0 (first_start ls) tt), tt),
                ),
              ),
            ),
          ),
        )

entry_numbered : (script : List ℕ) (ls : List Literal) → Refusing OfEntry (entry script ls)
entry_numbered script ls = entry_refusing OfEntry (λ n i place h. h) script ls

-- a body's refusal
abbrev FromBody : {A : Type 0} → Outcome A → Type 0
FromBody (accepts x) = Unit {0}
FromBody (refuses r) = OfBody r.number r.a r.b

literal_body : (look : Naming) → (script : List ℕ) (i : ℕ) (l : Literal) → FromBody (read_literal look script i l)
unfolding refusal_in read_literal
literal_body look script i l = go (read_body look l.kind (body script l)) refl (body_reading look l.kind (body script l)).0
  where
    go : (r : Read (List Piece)) → read_body look l.kind (body script l) ≡ r → Sound (body script l) 0 r → FromBody (read_literal look script i l)
    go (got ps j) e h = rw (e, read_literal) tt
    go (refused x) e h = rw (e, read_literal) (h.0 tt).0

then_body : (o p : Outcome (List Item)) → FromBody o → FromBody p → FromBody (and_then o p)
unfolding and_then
then_body (refuses r) p h k = h
then_body (accepts xs) (refuses r) h k = k
then_body (accepts xs) (accepts ys) h k = tt

from_body : (look : Naming) → (script : List ℕ) (i : ℕ) (ls : List Literal) → FromBody (read_from look script i ls)
unfolding read_from
from_body look script i [] = tt
from_body look script i (l ∷ ls) = then_body (read_literal look script i l) (read_from look script (suc i) ls) (literal_body look script i l) (from_body look script (suc i) ls)

-- WITH ROOM FOR ANYTHING: what the entry checks refuse is refused so, by 1 to 7; all else is accepted, or refused by 10 to 28
abbrev pub Numbered : Option Refusal → Outcome Answer → Type 0
Numbered (some r) o = OfEntry r × (o ≡ refuses r)
Numbered none o = FromBody o

answered_body : (script : List ℕ) (ls : List Literal) (o : Outcome (List Item)) → FromBody o → FromBody (answered script ls o)
unfolding answered moved
answered_body script ls (accepts xs) h = tt
answered_body script ls (refuses r) h = h

pub read_numbered : (look : Naming) → (script : List ℕ) (ls : List Literal) → Numbered (entry script ls) (read look script ls)
unfolding read
read_numbered look script ls = go (entry script ls) refl (entry_numbered script ls)
  where
    go : (c : Option Refusal) → entry script ls ≡ c → Refusing OfEntry c → Numbered c (read look script ls)
    go none e h = rw (e, read) (answered_body script ls (read_from look script 0 ls) (from_body look script 0 ls))
    go (some r) e h = (h, rw (e, read) refl)

-- AN ACCEPTANCE'S OFFSETS AND LENGTHS: the text from n to m lies in the records in order, without gaps
abbrev pub Gapless : ℕ → List Record → ℕ → Type 0
Gapless n [] m = n ≡ m
Gapless n (r ∷ rs) m = (r.offset ≡ n) × Gapless (n + r.size) rs m

abbrev pub sizes : List Record → ℕ
sizes [] = 0
sizes (r ∷ rs) = r.size + sizes rs

-- EVERY OUTCOME IS A CONSISTENT ACCEPTANCE OR A REFUSAL WHOSE NUMBER STANDS IN THE TABLE (RULES 11), with that number's details
abbrev pub Sane : Outcome Answer → Type 0
Sane (accepts x) = Gapless 0 x.records (length x.text) × (sizes x.records ≡ length x.text)
Sane (refuses r) = Listed r

laid_gapless : (n : ℕ) (xs : List Item) (m : ℕ) → n + length (texts xs) ≡ m → Gapless n (laid n xs) m
unfolding laid record_at texts
laid_gapless n [] m e = omega arith
laid_gapless n (x ∷ xs) m e = (refl, laid_gapless (n + length x.text) xs m (omega (arith, length-append x.text (texts xs))))

cover_gapless : (s e u n : ℕ) (rs : List Record) (m : ℕ) → Gapless n rs m → Gapless n (map (cover s e u) rs) m
unfolding cover
cover_gapless s e u n [] m h = h
cover_gapless s e u n (r ∷ rs) m h = (h.0, cover_gapless s e u (n + r.size) rs m h.1)

pub gapless_sum : (n : ℕ) (rs : List Record) (m : ℕ) → Gapless n rs m → n + sizes rs ≡ m
gapless_sum n [] m h = omega arith
gapless_sum n (r ∷ rs) m h = omega (arith, gapless_sum (n + r.size) rs m h.1)

answered_sane : (script : List ℕ) (ls : List Literal) (o : Outcome (List Item)) → FromBody o → Sane (answered script ls o)
unfolding answered answer_of moved
answered_sane script ls (refuses r) h = body_listed r h
answered_sane script ls (accepts xs) h = (gapless, omega (arith, gapless_sum 0 records (length (texts (merged xs))) gapless))
  where
    records : List Record
    records = map (cover (first_start ls) (last_end 0 ls) (u_mark ls)) (laid 0 (merged xs))

    gapless : Gapless 0 records (length (texts (merged xs)))
    gapless =
        cover_gapless (first_start ls) (last_end 0 ls) (u_mark ls) 0 (laid 0 (merged xs)) (length (texts (merged xs)))
        (laid_gapless 0 (merged xs) (length (texts (merged xs))) (omega arith))

-- of a list with room for anything
pub read_sane : (look : Naming) → (script : List ℕ) (ls : List Literal) → Sane (read look script ls)
unfolding read
read_sane look script ls = go (entry script ls) refl (entry_numbered script ls)
  where
    go : (c : Option Refusal) → entry script ls ≡ c → Refusing OfEntry c → Sane (read look script ls)
    go none e h = rw (e, read) (answered_sane script ls (read_from look script 0 ls) (from_body look script 0 ls))
    go (some r) e h = rw (e, read) (entry_listed r h)

roomed_sane : (w t : ℕ) (o : Outcome Answer) → Sane o → Sane (roomed w t o)
unfolding outcome_of room_for short_of roomed refusal moved
roomed_sane w t (refuses r) h = h
roomed_sane w t (accepts x) h = go (ltb (w / 8) (length x.records)) refl (ltb t (length x.text)) refl
  where
    go : (a : Bool) → ltb (w / 8) (length x.records) ≡ a → (b : Bool) → ltb t (length x.text) ≡ b → Sane (roomed w t (accepts x))
    go true p b q = rw p tt
    go false p true q = rw (p, q) tt
    go false p false q = rw (p, q) h

-- of descriptors with both buffers lent
pub into_sane : (look : Naming) → (script : List ℕ) (ls : List Literal) (words text : List ℕ) → Sane (read_into look script ls words text).outcome
unfolding read_into called
into_sane look script ls words text = roomed_sane (length words) (length text) (read look script ls) (read_sane look script ls)

-- of flat numbers
pub numbers_sane : (look : Naming) → (script ns words text : List ℕ) → Sane (read_numbers look script ns words text).outcome
unfolding read_numbers numbers_by called refusal
numbers_sane look script ns words text = go (sixes ns) refl
  where
    go : (o : Option (List Literal)) → sixes ns ≡ o → Sane (read_numbers look script ns words text).outcome
    go none e = rw (e, read_numbers, numbers_by) tt
    go (some ls) e = rw (e, read_numbers, numbers_by) (into_sane look script ls words text)

-- EIGHT WORDS A RECORD
pub all_words_lem : (rs : List Record) → length (all_words rs) ≡ length rs * 8
unfolding all_words words_of
all_words_lem [] = refl
all_words_lem (r ∷ rs) = omega (arith, all_words_lem rs)
