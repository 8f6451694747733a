-- EVERY REPLAY: its numbers, what a refusal leaves, the room it needs, and that calls that leave the same have one result. Assumes nothing.
use mathlib.Core.Path.{◌≡◌, refl, sym, ap, subst}
use mathlib.Core.List.{List, [], ◌∷◌}
use mathlib.Core.Option.{Option, none, some}
use Prim.Native.Nat.{ℕ, suc, ◌*◌, ◌≤◌, ◌<◌, min}
use native.Mathlib.Omega.{arith}
use lib.Dec.{ltb, eqb}
use lib.ListN.{length, replicate}
use borrow.Author.Tests.{ltb-false, le-ltb, lt-ltb}
use Rattle.definition.specs.Escapes.{Naming}
use Rattle.definition.specs.Records.{Record, Answer}
use Rattle.definition.specs.Reading.{Outcome, accepts, refuses, in_front, zeros, numbers, Call, read_numbers}
use Rattle.definition.specs.Words.{word}
use Rattle.definition.specs.Left.{Left}
use Rattle.definition_replay.specs.Spec.{Spec, spec_of}
use Rattle.definition_replay.specs.Integers.{Integer, Form, form_of}
use Rattle.definition_replay.specs.Trace.{rows_of}
use Rattle.definition_replay.specs.Replay.{Made, made, stopped, followed, Part, TopItem, items_from, nested, texts_of, form_made, part_of, fields_past, parts_from, template_of, field_count, all_in_range, row_made, lines_from, concat, Replayed, replays, unread, stops, most_bytes, roomed_lines, lines_of, replayed, ReplayCall, lines_after, kept_after, replay_call, replay_numbers, replay_numbers_of}
use Rattle.definition.proofs.Moves.CharLaws.{cases}
use Rattle.definition_laws.proofs.Outcomes.Outcomes.{Listed, Sane, numbers_sane}
use Rattle.definition_laws.proofs.Outcomes.Leaving.{left_zeros, left_front, listed_nonzero, CallLeft, numbers_left}

-- THE NUMBERS: a refusal's lies within two
abbrev pub Between : {A : Type 0} → ℕ → ℕ → Made A → Type 0
Between low high (made x) = Unit {0}
Between low high (stopped n k) = (low ≤ n) × (n ≤ high)

between_followed : {A : Type 0} (low high : ℕ) (x : Made A) (o : Made (List A)) → Between low high x → Between low high o → Between low high (followed x o)
unfolding followed
between_followed low high (stopped n k) o h g = h
between_followed low high (made x) (stopped n k) h g = g
between_followed low high (made x) (made xs) h g = tt

-- of a template 68 or 69
form_between : (k mode : ℕ) (spec : List ℕ) → Between 68 69 (form_made k mode spec)
unfolding form_made
form_between k mode spec = go (spec_of spec) refl
  where
    by_form : (p : Spec) → spec_of spec ≡ some p → (o : Option Form) → form_of p ≡ o → Between 68 69 (form_made k mode spec)
    by_form p e none f = rw (e, f, form_made) (omega arith)
    by_form p e (some x) f = cases (eqb mode 0) (λ g. rw (e, f, form_made) (rw g tt)) (λ g. rw (e, f, form_made) (rw g (omega arith)))

    go : (o : Option Spec) → spec_of spec ≡ o → Between 68 69 (form_made k mode spec)
    go none e = rw (e, form_made) (omega arith)
    go (some p) e = by_form p e (form_of p) refl

part_between : (t : List ℕ) (k : ℕ) (r : Record) (rs : List Record) → Between 68 69 (part_of t k r rs)
unfolding part_of
part_between t k r rs =
    cases (eqb r.kind 2)
    (λ e. cases (nested rs) (λ f. rw (e, f) (omega arith)) (λ f. rw (e, f) (form_between k r.mode (texts_of t rs))))
    (λ e. rw e tt)

parts_between : (t : List ℕ) (k : ℕ) (xs : List TopItem) → Between 68 69 (parts_from t k xs)
unfolding parts_from
parts_between t k [] = tt
parts_between t k (i ∷ xs) =
    between_followed 68 69 (part_of t k i.0 i.1) (parts_from t (fields_past k i.0) xs) (part_between t k i.0 i.1) (parts_between t (fields_past k i.0) xs)

-- of rows 70 to 72
row_between : (ps : List Part) (i : ℕ) (r : Option (List Integer)) → Between 70 72 (row_made ps i r)
unfolding row_made
row_between ps i none = omega arith
row_between ps i (some vs) =
    cases (eqb (length vs) (field_count ps)) (λ e. cases (all_in_range vs) (λ f. rw (e, f) tt) (λ f. rw (e, f) (omega arith))) (λ e. rw e (omega arith))

rows_between : (ps : List Part) (i : ℕ) (rs : List (Option (List Integer))) → Between 70 72 (lines_from ps i rs)
unfolding lines_from
rows_between ps i [] = tt
rows_between ps i (r ∷ rs) = between_followed 70 72 (row_made ps i r) (lines_from ps (suc i) rs) (row_between ps i r) (rows_between ps (suc i) rs)

wider : {A : Type 0} (low high : ℕ) (o : Made A) → 68 ≤ low → high ≤ 72 → Between low high o → Between 68 72 o
wider low high (made x) h k b = tt
wider low high (stopped n j) h k b = omega arith

lines_between : (o : Made (List Part)) (trace : List ℕ) → Between 68 69 o → Between 68 72 (lines_of o trace)
unfolding lines_of
lines_between (stopped n k) trace h = omega arith
lines_between (made ps) trace h = wider 70 72 (lines_from ps 0 (rows_of trace)) (omega arith) (omega arith) (rows_between ps 0 (rows_of trace))

-- A RESULT: the reading's refusal, one of 68 to 73, or an acceptance
abbrev pub Told : Replayed → Type 0
Told (replays x n l) = Unit {0}
Told (unread r) = Listed r
Told (stops n k) = (68 ≤ n) × (n ≤ 73)

roomed_told : (x : Answer) (room : ℕ) (o : Made (List (List ℕ))) → Between 68 72 o → Told (roomed_lines x room o)
unfolding roomed_lines
roomed_told x room (stopped n k) h = omega arith
roomed_told x room (made ls) h = cases (ltb (min room most_bytes) (length (concat ls))) (λ e. rw e (omega arith)) (λ e. rw e tt)

replayed_told : (o : Outcome Answer) (trace : List ℕ) (room : ℕ) → Sane o → Told (replayed o trace room)
unfolding replayed template_of
replayed_told (refuses r) trace room s = s
replayed_told (accepts x) trace room s =
    roomed_told x room (lines_of (template_of x) trace) (lines_between (template_of x) trace (parts_between x.text 0 (items_from 0 x.records)))

-- WHAT AN ACCEPTANCE IS
pub record Accepted (o : Outcome Answer) (trace : List ℕ) (room : ℕ) (x : Answer) (n : ℕ) (l : List ℕ) : Type 0 where
  pub reading : o ≡ accepts x
  pub lines : List (List ℕ)
  pub are : lines_of (template_of x) trace ≡ made lines
  pub rows : n ≡ length lines
  pub text : l ≡ concat lines
  pub fits : length l ≤ min room most_bytes

roomed_is : (x : Answer) (room : ℕ) (trace : List ℕ) (y : Answer) (n : ℕ) (l : List ℕ) (o : Made (List (List ℕ))) → lines_of (template_of x) trace ≡ o
    → roomed_lines x room o ≡ replays y n l → Accepted (accepts x) trace room y n l
unfolding roomed_lines
roomed_is x room trace y n l (stopped m k) f e = never e
  where
    never : {P : Type 0} → ◌≡◌ {A = Replayed} (stops m (min k most_bytes)) (replays y n l) → P
    never e = let z : ◌≡◌ {A = ℕ} 0 1 = cc in absurd (omega arith)
roomed_is x room trace y n l (made ls) f e =
    cases (ltb (min room most_bytes) (length (concat ls)))
    (λ t. let g : ◌≡◌ {A = Replayed} (stops 73 (min (length (concat ls)) most_bytes)) (replays y n l) = rw t at e in let z : ◌≡◌ {A = ℕ} 0 1 = cc in absurd (omega arith))
    (λ t.
    let g : replays x (length ls) (concat ls) ≡ replays y n l = rw t at e in
    let p : x ≡ y = cc in
    let q : n ≡ length ls = cc in
    let r : l ≡ concat ls = cc in
    let b = ltb-false (min room most_bytes) (length (concat ls)) t in
    record { reading = ap accepts p; lines = ls; are = rw p at f; rows = q; text = r; fits = rw r b })

pub replayed_is : (o : Outcome Answer) (trace : List ℕ) (room : ℕ) (x : Answer) (n : ℕ) (l : List ℕ) → replayed o trace room ≡ replays x n l → Accepted o trace room x n l
unfolding replayed
replayed_is (refuses r) trace room x n l e = let z : ◌≡◌ {A = ℕ} 0 1 = cc in absurd (omega arith)
replayed_is (accepts y) trace room x n l e = roomed_is y room trace x n l (lines_of (template_of y) trace) refl e

least_is : (n : ℕ) → n ≤ most_bytes → min n most_bytes ≡ n
least_is n h = omega arith

-- 73 tells what is needed: with so much room there is an acceptance, unless that is past all numbers
pub record Accepting (o : Replayed) (k : ℕ) : Type 0 where
  pub answer : Answer
  pub rows : ℕ
  pub lines : List ℕ
  pub is_so : o ≡ replays answer rows lines
  pub needs : length lines ≡ k

pub room_told : (o : Outcome Answer) (trace : List ℕ) (room room' k : ℕ) → replayed o trace room ≡ stops 73 k → k < most_bytes → k ≤ room' → Accepting (replayed o trace room') k
unfolding replayed roomed_lines template_of
room_told (refuses r) trace room room' k e h g = let z : ◌≡◌ {A = ℕ} 0 1 = cc in absurd (omega arith)
room_told (accepts x) trace room room' k e h g = go (lines_of (template_of x) trace) refl
  where
    below : (o : Made (List (List ℕ))) → lines_of (template_of x) trace ≡ o → Between 68 72 o
    below o f = rw f at (lines_between (template_of x) trace (parts_between x.text 0 (items_from 0 x.records)))

    go : (o : Made (List (List ℕ))) → lines_of (template_of x) trace ≡ o → Accepting (replayed (accepts x) trace room') k
    go (stopped n j) f =
        let b = below (stopped n j) f in
        let z : stops n (min j most_bytes) ≡ stops 73 k = rw f at e in
        let y : n ≡ 73 = cc in
        absurd (omega arith)
    go (made ls) f =
        cases (ltb (min room most_bytes) (length (concat ls)))
        (λ t.
        let z : stops 73 (min (length (concat ls)) most_bytes) ≡ stops 73 k = rw (f, t) at e in
        let y : min (length (concat ls)) most_bytes ≡ k = cc in
        record { answer = x; rows = length ls; lines = concat ls; is_so = rw (f, le-ltb (min room' most_bytes) (length (concat ls)) (omega arith)); needs = omega arith })
        (λ t. let z : ◌≡◌ {A = Replayed} (replays x (length ls) (concat ls)) (stops 73 k) = rw (f, t) at e in let y : ◌≡◌ {A = ℕ} 0 1 = cc in absurd (omega arith))

-- ROOM: what is accepted with some is accepted as it is with enough, and refused with 73 and what it needs where there is less
module _ (o : Outcome Answer) (trace : List ℕ) (room room' : ℕ) (x : Answer) (n : ℕ) (l : List ℕ) (e : replayed o trace room ≡ replays x n l) where
  pub room_enough : length l ≤ room' → replayed o trace room' ≡ replays x n l
  unfolding replayed roomed_lines
  room_enough h =
      let r = replayed_is o trace room x n l e in
      let f = r.fits in
      rw (r.reading, r.are, ← r.text, le-ltb (min room' most_bytes) (length l) (omega arith)) (ap (λ m. replays x m l) (sym r.rows))

  pub room_short : room' < length l → replayed o trace room' ≡ stops 73 (length l)
  unfolding replayed roomed_lines
  room_short h =
      let r = replayed_is o trace room x n l e in
      let f = r.fits in
      rw (r.reading, r.are, ← r.text, lt-ltb (min room' most_bytes) (length l) (omega arith)) (ap (stops 73) (least_is (length l) (omega arith)))

module _ (look : Naming) (script ns trace words text output : List ℕ) where
  abbrev call : ReplayCall
  call = replay_numbers look script ns trace words text output

  pub replay_told : Told call.result
  unfolding replay_numbers replay_call
  replay_told = replayed_told (read_numbers look script ns words text).outcome trace (length output) (numbers_sane look script ns words text)

  abbrev reading : Call
  reading = read_numbers look script ns words text

  -- AFTER EVERY CALL, in each of the three buffers
  abbrev Leaves : Replayed → ReplayCall → Type 0
  Leaves o c =
      let ns = replay_numbers_of o in
      Left (word ns 0) (word ns 5 * 8) words c.words × Left (word ns 0) (word ns 6) text c.text × Left (word ns 0) (word ns 10) output c.output

  pub replay_left : Leaves call.result call
  unfolding replay_numbers replay_call kept_after lines_after replay_numbers_of numbers
  replay_left = go (replayed reading.outcome trace (length output)) refl replay_told
    where
      gone : (number n : ℕ) (buffer lent : List ℕ) → length lent ≡ length buffer → 1 ≤ number → Left number n buffer (zeros lent)
      gone number n buffer lent e h = subst (λ m. Left number n buffer (replicate m 0)) (sym e) (left_zeros number n buffer h)

      left : CallLeft words text reading
      left = numbers_left look script ns words text

      go : (o : Replayed) → replayed reading.outcome trace (length output) ≡ o → Told o → Leaves call.result call
      go (replays x n l) e t =
          let r = replayed_is reading.outcome trace (length output) x n l e in
          let f = r.fits in
          let b = subst (λ y. CallLeft words text (record { outcome = y; words = reading.words; text = reading.text })) r.reading left in
          rw e (b.0, b.1, left_front (length l) l output refl (omega arith))
      go (unread r) e t =
          let h = listed_nonzero r t in
          rw e (gone r.number (r.opened * 8) words reading.words left.0.kept h, gone r.number r.line text reading.text left.1.kept h, left_zeros r.number 0 output h)
      go (stops n k) e t = rw e (gone n 0 words reading.words left.0.kept (omega arith), gone n 0 text reading.text left.1.kept (omega arith), left_zeros n 0 output (omega arith))

  -- AFTER AN ACCEPTANCE words and text are the reading's, and the lines stand in front of the output
  pub record Holds (x : Answer) (n : ℕ) (l : List ℕ) : Type 0 where
    pub accepted : reading.outcome ≡ accepts x
    pub words_held : call.words ≡ reading.words
    pub text_held : call.text ≡ reading.text
    pub lines_held : call.output ≡ in_front l output

  pub accepted_holds : (x : Answer) (n : ℕ) (l : List ℕ) → call.result ≡ replays x n l → Holds x n l
  unfolding replay_numbers replay_call kept_after lines_after
  accepted_holds x n l e =
      let r = replayed_is reading.outcome trace (length output) x n l e in
      record { accepted = r.reading; words_held = rw e; text_held = rw e; lines_held = rw e }
