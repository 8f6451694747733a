-- WHAT HOLDS OF EVERY CALL WITH A FILE OF NAMES: its numbers, what it leaves, and that no two outcomes look alike. Assumes nothing.
use mathlib.Core.Path.{◌≡◌, refl}
use mathlib.Core.Bool.{Bool, true, false, ◌||◌}
use mathlib.Core.List.{List, [], ◌∷◌}
use mathlib.Core.Option.{Option, none, some}
use Prim.Native.Nat.{ℕ, ◌*◌, ◌≤◌}
use native.Mathlib.Omega.{arith}
use lib.Dec.{T, ltb, eqb, lit≤}
use lib.ListN.{length}
use borrow.Author.Tests.{ltb-false}
use Rattle.definition.specs.Numbers.{not_sixes, ◌among◌}
use Rattle.definition.specs.Escapes.{held_names}
use Rattle.definition.specs.Records.{Answer}
use Rattle.definition.specs.Entry.{Literal, sixes, Refusal, refusal, entry}
use Rattle.definition.specs.Reading.{Outcome, accepts, refuses, read, roomed, Call, called, read_numbers, numbers_by}
use Rattle.definition.specs.Words.{word}
use Rattle.definition.specs.Left.{Left}
use Rattle.definition_names.specs.Names.{Entry, named, twice, index_of, indexed, too_long, in_room, build, check, index_after, build_into, index_numbers, lookup_file, searched}
use Rattle.definition_scripts.specs.Listing.{too_long as long_script, wrong_names, fields_of, fields_call, fields_numbers}
use Rattle.definition_names.specs.NamedReading.{of_names, read_named, named_into, named_numbers, fields_named_of, fields_named_into}
use Rattle.definition.proofs.Moves.CharLaws.{cases}
use Rattle.definition_laws.proofs.Outcomes.Outcomes.{Listed, Sane, read_sane, numbers_sane}
use Rattle.definition_laws.proofs.Outcomes.Leaving.{left_zeros, left_front, Nonzero, listed_nonzero, read_nonzero, numbers_nonzero, CallLeft, refused_left, called_left}
use Rattle.definition_laws.proofs.Formed.Held.{held, Held, numbers_held, Alike, one_outcome}
use Rattle.definition_laws.proofs.Formed.Marked.{Marked, numbers_marked}
use Rattle.definition_scripts_laws.proofs.Listing.ListingOne.{fields_sane, FieldsLeft, long_left, wrong_left, listing_left}
use Rattle.definition_names.proofs.NamedShown.{of_check, Plain, check_plain, of_plain, named_entered, named_wrong, named_read, named_numbers_lem}

-- an entry check's refusal stands in the table
entered : (script : List ℕ) (ls : List Literal) (q : Refusal) → entry script ls ≡ some q → Listed q
unfolding read
entered script ls q f = rw (f, read) at (read_sane held_names script ls)

-- A READING: no refusal has an acceptance's 0
named_nonzero : (file index script : List ℕ) (ls : List Literal) → Nonzero (read_named file index script ls)
named_nonzero file index script ls = go (check file index) refl (entry script ls) refl
  where
    go : (c : Outcome (List ℕ)) → check file index ≡ c → (o : Option Refusal) → entry script ls ≡ o → Nonzero (read_named file index script ls)
    go (accepts m) e o f = rw (named_read file index script ls m e) (read_nonzero (searched file index) script ls)
    go (refuses r) e none f = rw (named_wrong file index script ls r f e) (let h = (check_plain file index r e).late in omega arith)
    go (refuses r) e (some q) f = rw (named_entered file index script ls q f) (listed_nonzero q (entered script ls q f))

-- both its buffers
pub named_left : (file index script ns words text : List ℕ) → CallLeft words text (named_numbers file index script ns words text)
unfolding named_numbers numbers_by named_into refusal
named_left file index script ns words text = go (sixes ns) refl
  where
    go : (o : Option (List Literal)) → sixes ns ≡ o → CallLeft words text (named_numbers file index script ns words text)
    go none e = rw (e, named_numbers, numbers_by, named_into) (refused_left words text (refusal not_sixes 0 0 0 0) (lit≤ tt))
    go (some ls) e = rw (e, named_numbers, numbers_by, named_into) (called_left words text (read_named file index script ls) (named_nonzero file index script ls))

-- THE ROW BUFFER of every field
pub fields_named_left : (file index script buffer : List ℕ)
    → let c = fields_named_into file index script buffer in let ns = fields_numbers c.listed in Left (word ns 0) (word ns 1 * 10) buffer c.rows
unfolding fields_named_into fields_call fields_named_of
fields_named_left file index script buffer = go (ltb 1048576 (length script)) (of_names file index) refl
  where
    go : (t : Bool) (o : Option Refusal) → of_names file index ≡ o
        → FieldsLeft buffer (elim t [ true ↦ long_script | false ↦ elim o [ some r ↦ wrong_names r.number | none ↦ fields_of (lookup_file file) script (length buffer) ] ])
    go true o e = long_left buffer
    go false none e = listing_left buffer (lookup_file file) script
    go false (some r) e = wrong_left buffer r.number (of_plain file index r e).late

-- THE INDEX BUFFER: a number for an entry
abbrev IndexLeft : (buffer : List ℕ) → Outcome (List ℕ) → Type 0
IndexLeft buffer o = Left (word (index_numbers o) 0) (word (index_numbers o) 1) buffer (index_after o buffer)

pub build_left : (file buffer : List ℕ) → let c = build_into file buffer in let ns = index_numbers c.outcome in Left (word ns 0) (word ns 1) buffer c.index
unfolding build_into build index_after index_numbers indexed refusal
build_left file buffer = cases (too_long file) (λ t. rw t (left_zeros 62 0 buffer (lit≤ tt))) (λ t. rw t (by (named file)))
  where
    by : (o : Option (List Entry)) → IndexLeft buffer (in_room (length buffer) (indexed o))
    by none = left_zeros 60 0 buffer (lit≤ tt)
    by (some es) =
        cases (twice es) (λ t. rw t (left_zeros 61 0 buffer (lit≤ tt)))
        (λ t.
        rw t
        (cases (ltb (length buffer) (length (index_of es))) (λ u. rw u (left_zeros 62 0 buffer (lit≤ tt)))
        (λ u. rw u (left_front (length (index_of es)) (index_of es) buffer refl (ltb-false (length buffer) (length (index_of es)) u)))))

or_right : (a b : Bool) → T b → T (a || b)
or_right true b h = tt
or_right false b h = h

three : (a b c d : Bool) → T (a || (b || (c || false))) → T (a || (b || (c || d)))
three true b c d h = tt
three false true c d h = tt
three false false true d h = tt
three false false false d h = absurd h

-- EVERY OUTCOME OF A READING WITH A FILE: a refusal is one of the table of a reading, or 60, 61 or 63 and nothing else
pub data NamedRefusal : Refusal → Type 0 where
  of_reading : {r : Refusal} → Listed r → NamedRefusal r
  of_names_lem : {r : Refusal} → Plain r → NamedRefusal r

abbrev pub NamedSane : Outcome Answer → Type 0
NamedSane (accepts x) = Sane (accepts x)
NamedSane (refuses r) = NamedRefusal r

sane_named : (o : Outcome Answer) → Sane o → NamedSane o
sane_named (accepts x) h = h
sane_named (refuses r) h = of_reading h

module _ (file index script ns words text : List ℕ) where
  abbrev call : Call
  call = named_numbers file index script ns words text

  -- where the check passes it is the reading that searches; else there is no acceptance
  pub by_check : (P : Call → Type 0) → (P (read_numbers (searched file index) script ns words text)) → ((r : Refusal) → NamedRefusal r → P (called (refuses r) words text)) → P call
  unfolding named_numbers numbers_by named_into roomed refusal
  by_check P reads refused = go (check file index) refl (sixes ns) refl
    where
      by-entry : (r : Refusal) → check file index ≡ refuses r → (ls : List Literal) (q : Option Refusal) → entry script ls ≡ q → P (called (roomed (length words) (length text) (read_named file index script ls)) words text)
      by-entry r e ls none g = rw (named_wrong file index script ls r g e) (refused r (of_names_lem (check_plain file index r e)))
      by-entry r e ls (some q) g = rw (named_entered file index script ls q g) (refused q (of_reading (entered script ls q g)))

      go : (c : Outcome (List ℕ)) → check file index ≡ c → (o : Option (List Literal)) → sixes ns ≡ o → P call
      go (accepts m) e o f = rw (named_numbers_lem file index script ns words text m e) reads
      go (refuses r) e none f = rw (f, named_numbers, numbers_by, named_into) (refused (refusal not_sixes 0 0 0 0) (of_reading tt))
      go (refuses r) e (some ls) f = rw (f, named_numbers, numbers_by, named_into) (by-entry r e ls (entry script ls) refl)

  -- A REFUSAL'S NUMBER
  pub named_sane : NamedSane call.outcome
  unfolding called
  named_sane = by_check (λ c. NamedSane c.outcome) (sane_named (read_numbers (searched file index) script ns words text).outcome (numbers_sane (searched file index) script ns words text)) (λ r h. h)

  -- AFTER AN ACCEPTANCE what is held is the answer
  pub named_held : Held call
  unfolding called
  named_held = by_check Held (numbers_held (searched file index) script ns words text) (λ r h x e. let z : ◌≡◌ {A = ℕ} 0 1 = cc in absurd (omega arith))

  -- its u mark and its range are those that the numbers say
  pub named_marked : (x : Answer) → call.outcome ≡ accepts x → Marked ns (held call)
  unfolding called
  named_marked = by_check (λ c. (x : Answer) → c.outcome ≡ accepts x → Marked ns (held c)) (numbers_marked (searched file index) script ns words text) (λ r h x e. let z : ◌≡◌ {A = ℕ} 0 1 = cc in absurd (omega arith))

  pub named_numbers_nonzero : Nonzero call.outcome
  unfolding called
  named_numbers_nonzero = by_check (λ c. Nonzero c.outcome) (numbers_nonzero (searched file index) script ns words text) (λ r h. nonzero h)
    where
      nonzero : {r : Refusal} → NamedRefusal r → 1 ≤ r.number
      nonzero {r} (of_reading h) = listed_nonzero r h
      nonzero {r} (of_names_lem h) = let l = h.late in omega arith

-- NO TWO OUTCOMES, whatever file and index each has
pub named_one : (file index script ns words text file' index' script' ns' words' text' : List ℕ)
    → Alike (named_numbers file index script ns words text) (named_numbers file' index' script' ns' words' text')
    → (named_numbers file index script ns words text).outcome ≡ (named_numbers file' index' script' ns' words' text').outcome
named_one file index script ns words text file' index' script' ns' words' text' =
    one_outcome (named_numbers file index script ns words text) (named_numbers file' index' script' ns' words' text') (named_held file index script ns words text) (named_held file' index' script' ns' words' text') (named_numbers_nonzero file index script ns words text) (named_numbers_nonzero file' index' script' ns' words' text')

-- EVERY FIELD WITH A FILE: the first number is 0, 49 or 53, or one of the check's
pub fields_named_sane : (file index script buffer : List ℕ) → T (word (fields_numbers (fields_named_into file index script buffer).listed) 0 among (0 ∷ 49 ∷ 53 ∷ 60 ∷ 61 ∷ 63 ∷ []))
unfolding fields_named_into fields_call fields_named_of fields_numbers
fields_named_sane file index script buffer = go (ltb 1048576 (length script)) (of_names file index) refl
  where
    more : (n : ℕ) → T (n among of_check) → T (n among (0 ∷ 49 ∷ 53 ∷ 60 ∷ 61 ∷ 63 ∷ []))
    more n h = or_right (eqb n 0) _ (or_right (eqb n 49) _ (or_right (eqb n 53) _ h))

    fewer : (n : ℕ) → T (n among (0 ∷ 49 ∷ 53 ∷ [])) → T (n among (0 ∷ 49 ∷ 53 ∷ 60 ∷ 61 ∷ 63 ∷ []))
    fewer n = three (eqb n 0) (eqb n 49) (eqb n 53) (n among of_check)

    go : (t : Bool) (o : Option Refusal) → of_names file index ≡ o
        → T (word (fields_numbers (elim t [ true ↦ long_script | false ↦ elim o [ some r ↦ wrong_names r.number | none ↦ fields_of (lookup_file file) script (length buffer) ] ])) 0 among (0 ∷ 49 ∷ 53 ∷ 60 ∷ 61 ∷ 63 ∷ []))
    go true o e = tt
    go false none e = fewer (word (fields_numbers (fields_of (lookup_file file) script (length buffer))) 0) (fields_sane (lookup_file file) script (length buffer))
    go false (some r) e = more r.number (of_plain file index r e).which
