-- WHAT EVERY READING LEAVES IN ITS BUFFERS: zeros after a refusal, after an acceptance what was there behind what was written. Assumes nothing.
use mathlib.Core.Path.{◌≡◌, refl}
use mathlib.Core.Bool.{Bool, true, false, ◌&&◌}
use mathlib.Core.List.{List, [], ◌∷◌}
use mathlib.Core.Option.{Option, none, some}
use Prim.Native.Nat.{ℕ, zero, suc, ◌*◌, ◌/◌, ◌≤◌}
use native.Mathlib.Omega.{arith}
use lib.Dec.{T, ltb, lit≤}
use lib.ListN.{length, drop, length-append, length-drop, length-replicate, get_or-replicate}
use lib.Seq.{drop_at}
use borrow.Author.Tests.{ltb-false}
use Rattle.definition.specs.Numbers.{not_sixes, refusals, ◌among◌, detailed}
use Rattle.definition.specs.Escapes.{Naming}
use Rattle.definition.specs.Records.{Answer}
use Rattle.definition.specs.Entry.{Literal, sixes, Refusal, refusal, moved}
use Rattle.definition.specs.Reading.{Outcome, accepts, refuses, read, outcome_of, short_of, room_for, roomed, all_words, in_front, zeros, words_after, text_after, numbers, Call, called, read_into, read_numbers, numbers_by}
use Rattle.definition.specs.Rows.{Row, row_numbers, all_rows, all_numbers, rowed, roomed_rows, rows_after, SignsCall, called_rows, signs_into, signs_numbers, rowed_numbers}
use Rattle.definition.specs.Words.{word}
use Rattle.definition.specs.Left.{Left}
use Rattle.definition_laws.proofs.Outcomes.Outcomes.{Listed, Sane, read_sane, into_sane, numbers_sane, all_words_lem}

-- after a refusal
pub left_zeros : (number written : ℕ) (buffer : List ℕ) → 1 ≤ number → Left number written buffer (zeros buffer)
left_zeros number written buffer h =
    record {
      kept = length-replicate (length buffer) 0;
      zeroed = λ p i l. get_or-replicate (length buffer) i 0 1 l;
      fitting = λ e. absurd (omega arith);
      behind = λ e. absurd (omega arith);
    }

-- after an acceptance
pub left_front : (n : ℕ) (xs buffer : List ℕ) → length xs ≡ n → n ≤ length buffer → Left 0 n buffer (in_front xs buffer)
left_front n xs buffer e h =
    record {
      kept = omega (arith, length-append xs (drop (length xs) buffer), length-drop (length xs) buffer);
      zeroed = λ p. absurd (omega arith);
      fitting = λ p. h;
      behind = λ p. rw e (drop_at xs (drop n buffer) n e);
    }

-- no refusal has an acceptance's 0
abbrev pub Nonzero : {A : Type 0} → Outcome A → Type 0
Nonzero (accepts x) = Unit {0}
Nonzero (refuses r) = 1 ≤ r.number

pub listed_nonzero : (r : Refusal) → Listed r → 1 ≤ r.number
listed_nonzero r h = go r.number (detailed r.number r.a r.b) h
  where
    go : (n : ℕ) (d : Bool) → T (n among refusals && d) → 1 ≤ n
    go zero d t = absurd t
    go (suc n) d t = omega arith

sane_nonzero : (o : Outcome Answer) → Sane o → Nonzero o
sane_nonzero (accepts x) h = tt
sane_nonzero (refuses r) h = listed_nonzero r h

module _ (look : Naming) (script : List ℕ) where
  pub read_nonzero : (ls : List Literal) → Nonzero (read look script ls)
  read_nonzero ls = sane_nonzero (read look script ls) (read_sane look script ls)

  pub into_nonzero : (ls : List Literal) (words text : List ℕ) → Nonzero (read_into look script ls words text).outcome
  into_nonzero ls words text = sane_nonzero (read_into look script ls words text).outcome (into_sane look script ls words text)

  pub numbers_nonzero : (ns words text : List ℕ) → Nonzero (read_numbers look script ns words text).outcome
  numbers_nonzero ns words text = sane_nonzero (read_numbers look script ns words text).outcome (numbers_sane look script ns words text)

-- BOTH BUFFERS OF A READING: eight words for a record
abbrev pub CallLeft : (words text : List ℕ) → Call → Type 0
CallLeft words text c =
    let ns = numbers c.outcome in Left (word ns 0) (word ns 5 * 8) words c.words × Left (word ns 0) (word ns 6) text c.text

module _ (words text : List ℕ) where
  pub refused_left : (r : Refusal) → 1 ≤ r.number → CallLeft words text (called (refuses r) words text)
  unfolding called words_after text_after numbers
  refused_left r h = (left_zeros r.number (r.opened * 8) words h, left_zeros r.number r.line text h)

  pub called_left : (o : Outcome Answer) → Nonzero o → CallLeft words text (called (roomed (length words) (length text) o) words text)
  unfolding called words_after text_after numbers outcome_of room_for short_of roomed refusal moved
  called_left (refuses r) h = refused_left r h
  called_left (accepts x) h = go (ltb (length words / 8) (length x.records)) refl (ltb (length text) (length x.text)) refl
    where
      Goal : Type 0
      Goal = CallLeft words text (called (roomed (length words) (length text) (accepts x)) words text)

      go : (a : Bool) → ltb (length words / 8) (length x.records) ≡ a → (b : Bool) → ltb (length text) (length x.text) ≡ b → Goal
      go true p b q = rw p (refused_left (short_of 30 (length x.records) (length x.text) x.chars) (lit≤ tt))
      go false p true q = rw (p, q) (refused_left (short_of 31 (length x.records) (length x.text) x.chars) (lit≤ tt))
      go false p false q =
          let n = ltb-false (length words / 8) (length x.records) p in
          let m = ltb-false (length text) (length x.text) q in
          rw (p, q) (left_front (length x.records * 8) (all_words x.records) words (all_words_lem x.records) (omega arith), left_front (length x.text) x.text text refl m)

-- of descriptors
pub into_left : (look : Naming) → (script : List ℕ) (ls : List Literal) (words text : List ℕ) → CallLeft words text (read_into look script ls words text)
unfolding read_into
into_left look script ls words text = called_left words text (read look script ls) (read_nonzero look script ls)

-- of flat numbers
pub numbers_left : (look : Naming) → (script ns words text : List ℕ) → CallLeft words text (read_numbers look script ns words text)
unfolding read_numbers numbers_by refusal
numbers_left look script ns words text = go (sixes ns) refl
  where
    go : (o : Option (List Literal)) → sixes ns ≡ o → CallLeft words text (read_numbers look script ns words text)
    go none e = rw (e, read_numbers, numbers_by) (refused_left words text (refusal not_sixes 0 0 0 0) (lit≤ tt))
    go (some ls) e = rw (e, read_numbers, numbers_by) (into_left look script ls words text)

-- THE ROW BUFFER: ten numbers for a row
abbrev pub SignsLeft : (buffer : List ℕ) → SignsCall → Type 0
SignsLeft buffer c = let ns = rowed_numbers c.outcome in Left (word ns 0) (word ns 5 * 10) buffer c.rows

all_tens : (rs : List Row) → length (all_numbers 0 rs) ≡ length rs * 10
unfolding all_numbers row_numbers
all_tens [] = refl
all_tens (r ∷ rs) = omega (arith, all_tens rs)

module _ (buffer : List ℕ) where
  rows_refused : (r : Refusal) → 1 ≤ r.number → SignsLeft buffer (called_rows (refuses r) buffer)
  unfolding called_rows rows_after rowed_numbers numbers
  rows_refused r h = left_zeros r.number (r.opened * 10) buffer h

  rows_left_lem : (rs : List Row) (o : Outcome Answer) → Nonzero o → SignsLeft buffer (called_rows (roomed_rows (length buffer) (rowed rs o)) buffer)
  unfolding called_rows rows_after rowed_numbers outcome_of room_for short_of roomed_rows rowed refusal moved
  rows_left_lem rs (refuses r) h = rows_refused r h
  rows_left_lem rs (accepts x) h = go (ltb (length buffer / 10) (length rs)) refl
    where
      go : (t : Bool) → ltb (length buffer / 10) (length rs) ≡ t → SignsLeft buffer (called_rows (roomed_rows (length buffer) (rowed rs (accepts x))) buffer)
      go true e = rw e (rows_refused (short_of 30 (length rs) 0 x.chars) (lit≤ tt))
      go false e =
          let n = ltb-false (length buffer / 10) (length rs) e in
          rw e (left_front (length rs * 10) (all_numbers 0 rs) buffer (all_tens rs) (omega arith))

-- of flat numbers
pub signs_left : (look : Naming) → (script ns buffer : List ℕ) → SignsLeft buffer (signs_numbers look script ns buffer)
unfolding signs_numbers signs_into refusal
signs_left look script ns buffer = go (sixes ns) refl
  where
    go : (o : Option (List Literal)) → sixes ns ≡ o → SignsLeft buffer (signs_numbers look script ns buffer)
    go none e = rw (e, signs_numbers) (rows_refused buffer (refusal not_sixes 0 0 0 0) (lit≤ tt))
    go (some ls) e = rw (e, signs_numbers) (rows_left_lem buffer (all_rows look script ls) (read look script ls) (read_nonzero look script ls))
