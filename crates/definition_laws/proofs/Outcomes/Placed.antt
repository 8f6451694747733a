-- Where a refusal stands: in the body of the literal that it names, with the line and column of its place there and the place of 23's bracket, or
-- in none; and how many characters were read. Assumes nothing.
use Rattle.std.specs.Prelude.{if◌then◌else◌}
use mathlib.Core.Path.{◌≡◌, refl, sym, ◌∙◌, ap}
use mathlib.Core.Bool.{Bool, true, false, ◌&&◌}
use mathlib.Core.List.{List, [], ◌∷◌}
use mathlib.Core.Logic.{◌⊎◌, inl, inr}
use mathlib.Core.Option.{Option, none, some}
use Prim.Native.Nat.{ℕ, suc, ◌+◌, ◌/◌, ◌≤◌, ◌<◌}
use native.Mathlib.Nat.{zero-add}
use native.Mathlib.Omega.{arith}
use lib.Dec.{T, ltb, leb, eqb, leb→le}
use lib.ListN.{length, take}
use borrow.Author.Tests.{lt-leb}
use Rattle.definition.specs.Numbers.{mismatched_delimiter, refusals, ◌among◌, of_entry, of_body, too_few_record_places, detailed}
use Rattle.definition.specs.Counts.{counted}
use Rattle.definition.specs.Escapes.{Naming, Fault, Read, got, refused}
use Rattle.definition.specs.Body.{Piece, read_body}
use Rattle.definition.specs.Records.{Item, Answer, answer_of}
use Rattle.definition.specs.Entry.{Literal, sixes, place_of, body, Refusal, refusal, moved, entry}
use Rattle.definition.specs.Reading.{Outcome, accepts, refuses, all_chars, opened_at, refusal_in, read_literal, and_then, read_from, answered, read, outcome_of, short_of, room_for, roomed, called, read_into, read_numbers, numbers_by}
use Rattle.definition_laws.proofs.Moves.OpenBrackets.{Wrong}
use Rattle.definition_laws.proofs.Moves.Moves.{Names, Sound}
use Rattle.definition_laws.proofs.Moves.Fuel.{body_reading}
use Rattle.definition_laws.proofs.Outcomes.Outcomes.{OfEntry, Refusing, entry_refusing}

front : (a b : Bool) → T (a && b) → T a
front true b h = tt
front false b h = absurd h

-- a literal is number n of a list whose first is number i
pub data Numbers (l : Literal) (n : ℕ) : ℕ → List Literal → Type 0 where
  first : {ls : List Literal} → Numbers l n n (l ∷ ls)
  later : {i : ℕ} {k : Literal} {ls : List Literal} → Numbers l n (suc i) ls → Numbers l n i (k ∷ ls)

pub number_in : {l : Literal} {n i : ℕ} {ls : List Literal} → Numbers l n i ls → n < i + length ls
number_in first = omega arith
number_in (later k) = omega (arith, number_in k)

-- the place just after a bracket, by whether the number is 23: it stands in the body as 23 says
abbrev pub Opened : List ℕ → Literal → ℕ → Refusal → Bool → Type 0
Opened script l taken r true = (k : ℕ) × (r.opened ≡ place_of l k) × Wrong (body script l) taken k r.a r.b
Opened script l taken r false = r.opened ≡ 0

-- a refusal in the body of the literal that it names, after so many bytes of it, and after `before` characters and those
pub record InBody (script : List ℕ) (before i : ℕ) (ls : List Literal) (r : Refusal) : Type 0 where
  pub number : T (of_body r.number)
  pub literal : Literal
  pub named : Numbers literal r.literal i ls
  pub taken : ℕ
  pub within : taken ≤ length (body script literal)
  pub place : r.place ≡ place_of literal taken
  pub opened : Opened script literal taken r (eqb r.number mismatched_delimiter)
  pub line : r.line ≡ (counted (body script literal) taken).line
  pub column : r.column ≡ (counted (body script literal) taken).column
  pub chars : r.chars ≡ before + (counted (body script literal) taken).chars

-- while the list is read, without those of the literals before
abbrev pub Standing : List ℕ → ℕ → List Literal → Outcome (List Item) → Type 0
Standing script i ls (accepts xs) = Unit {0}
Standing script i ls (refuses r) = InBody script 0 i ls r

module _ (look : Naming) (script : List ℕ) where
  literal_stands : (i : ℕ) (l : Literal) (ls : List Literal) → Standing script i (l ∷ ls) (read_literal look script i l)
  unfolding opened_at refusal_in read_literal
  literal_stands i l ls = go (read_body look l.kind (body script l)) refl (body_reading look l.kind (body script l)).0
    where
      opens : (x : Fault) (t : Bool) → eqb x.number mismatched_delimiter ≡ t → Names (body script l) x t → Opened script l x.taken (refusal_in script i l x) t
      opens x true e h = (x.opened, rw e refl, h)
      opens x false e h = rw e refl

      go : (r : Read (List Piece)) → read_body look l.kind (body script l) ≡ r → Sound (body script l) 0 r → Standing script i (l ∷ ls) (read_literal look script i l)
      go (got ps j) e h = rw (e, read_literal) tt
      go (refused x) e h =
          let says = h.0 tt in
          rw (e, read_literal) (record { number = front (of_body x.number) _ says.0; literal = l; named = first; taken = x.taken; within = h.1; place = refl; opened = opens x (eqb x.number mismatched_delimiter) refl says.1; line = refl; column = refl; chars = sym (zero-add _) })

  then_stands : (i : ℕ) (l : Literal) (ls : List Literal) (o p : Outcome (List Item)) → Standing script i (l ∷ ls) o → Standing script (suc i) ls p → Standing script i (l ∷ ls) (and_then o p)
  unfolding and_then
  then_stands i l ls (refuses r) p h k = h
  then_stands i l ls (accepts xs) (refuses r) h k =
      record { number = k.number; literal = k.literal; named = later k.named; taken = k.taken; within = k.within; place = k.place; opened = k.opened; line = k.line; column = k.column; chars = k.chars }
  then_stands i l ls (accepts xs) (accepts ys) h k = tt

  pub from_stands : (i : ℕ) (ls : List Literal) → Standing script i ls (read_from look script i ls)
  unfolding read_from
  from_stands i [] = tt
  from_stands i (l ∷ ls) = then_stands i l ls (read_literal look script i l) (read_from look script (suc i) ls) (literal_stands i l ls) (from_stands (suc i) ls)

-- a refusal in no body: before any character, or after all of them
pub record InNone (script : List ℕ) (ls : List Literal) (r : Refusal) : Type 0 where
  pub number : T (of_body r.number) → ⊥
  pub opened : r.opened ≡ 0
  pub line : r.line ≡ 0
  pub column : r.column ≡ 0
  pub chars : r.chars ≡ (if leb too_few_record_places r.number then all_chars script ls else 0)

-- EVERY REFUSAL STANDS IN A BODY, BY 10 TO 28, OR IN NONE; an acceptance has read all characters
abbrev pub Placed : List ℕ → List Literal → Outcome Answer → Type 0
Placed script ls (accepts x) = x.chars ≡ all_chars script ls
Placed script ls (refuses r) = InBody script (all_chars script (take r.literal ls)) 0 ls r ⊎ InNone script ls r

-- the numbers of the entry checks are none of a body's, and none for room
at_most_7 : (r : Refusal) → OfEntry r → r.number ≤ 7
at_most_7 r h =
    let n = r.number in
    leb→le n 7 (front (leb n 7) (n among refusals) (front (of_entry n) (detailed n r.a r.b) h))

apart : (r : Refusal) → OfEntry r → T (of_body r.number) → ⊥
apart r h k =
    let n = r.number in
    let a = at_most_7 r h in
    let b = leb→le 10 n (front (leb 10 n) (leb n 28) (front (leb 10 n && leb n 28) (n among refusals) k)) in
    omega arith

module _ (look : Naming) (script : List ℕ) (ls : List Literal) where
  opened_moved : (l : Literal) (taken : ℕ) (r : Refusal) (t : Bool) (n m : ℕ) → Opened script l taken r t → Opened script l taken (moved n m r) t
  unfolding moved
  opened_moved l taken r true n m h = h
  opened_moved l taken r false n m h = h

  answered_placed : (o : Outcome (List Item)) → Standing script 0 ls o → Placed script ls (answered script ls o)
  unfolding answered answer_of moved
  answered_placed (accepts xs) h = refl
  answered_placed (refuses r) h =
      inl
      (record {
        number = h.number;
        literal = h.literal;
        named = h.named;
        taken = h.taken;
        within = h.within;
        place = h.place;
        opened = opened_moved h.literal h.taken r (eqb r.number mismatched_delimiter) r.literal (all_chars script (take r.literal ls) + r.chars) h.opened;
        line = h.line;
        column = h.column;
        chars = ap (λ n. all_chars script (take r.literal ls) + n) (h.chars ∙ zero-add _);
      })

  entry_none : (n i place : ℕ) → OfEntry (refusal n i place 0 0) → InNone script ls (refusal n i place 0 0)
  unfolding refusal
  entry_none n i place h =
      let k = at_most_7 (refusal n i place 0 0) h in
      record { number = apart (refusal n i place 0 0) h; opened = refl; line = refl; column = refl; chars = rw (lt-leb 30 n (omega arith)) refl }

  -- with room for anything
  read_placed : Placed script ls (read look script ls)
  unfolding read refusal
  read_placed = go (entry script ls) refl (entry_refusing (InNone script ls) entry_none script ls)
    where
      go : (c : Option Refusal) → entry script ls ≡ c → Refusing (InNone script ls) c → Placed script ls (read look script ls)
      go none e h = rw (e, read) (answered_placed (read_from look script 0 ls) (from_stands look script 0 ls))
      go (some r) e h = rw (e, read) (inr h)

  roomed_placed : (w t : ℕ) (o : Outcome Answer) → Placed script ls o → Placed script ls (roomed w t o)
  unfolding outcome_of room_for short_of roomed refusal moved
  roomed_placed w t (refuses r) h = h
  roomed_placed w t (accepts x) h = go (ltb (w / 8) (length x.records)) refl (ltb t (length x.text)) refl
    where
      go : (a : Bool) → ltb (w / 8) (length x.records) ≡ a → (b : Bool) → ltb t (length x.text) ≡ b → Placed script ls (roomed w t (accepts x))
      go true p b q = rw p (inr (record { number = λ k. k; opened = refl; line = refl; column = refl; chars = h }))
      go false p true q = rw (p, q) (inr (record { number = λ k. k; opened = refl; line = refl; column = refl; chars = h }))
      go false p false q = rw (p, q) h

  -- of descriptors with both buffers lent
  pub into_placed : (words text : List ℕ) → Placed script ls (read_into look script ls words text).outcome
  unfolding read_into called
  into_placed words text = roomed_placed (length words) (length text) (read look script ls) read_placed

-- of flat numbers: their literals, none if some are left over
abbrev pub listed : Option (List Literal) → List Literal
listed none = []
listed (some ls) = ls

pub numbers_placed : (look : Naming) → (script ns words text : List ℕ) → Placed script (listed (sixes ns)) (read_numbers look script ns words text).outcome
unfolding read_numbers numbers_by called refusal
numbers_placed look script ns words text = go (sixes ns) refl
  where
    go : (o : Option (List Literal)) → sixes ns ≡ o → Placed script (listed o) (read_numbers look script ns words text).outcome
    go none e = rw (e, read_numbers, numbers_by) (inr (record { number = λ k. k; opened = refl; line = refl; column = refl; chars = refl }))
    go (some ls) e = rw (e, read_numbers, numbers_by) (into_placed look script ls words text)
