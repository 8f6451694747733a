-- A call is the definition's, whichever way it ends. Assumes nothing.
use mathlib.Core.Path.{◌≡◌, refl, sym, ◌∙◌, ap}
use mathlib.Core.List.{List, [], ◌∷◌, ◌++◌}
use Prim.Native.Nat.{ℕ, ◌*◌, ◌≤◌, min}
use native.Mathlib.Omega.{arith}
use lib.Dec.{ltb}
use lib.ListN.{length, take}
use borrow.Author.Tests.{leb-true}
use Rattle.definition.specs.Escapes.{Naming}
use Rattle.definition.specs.Records.{Answer}
use Rattle.definition.specs.Reading.{Outcome, accepts, refuses, zeros, numbers, Call}
use Rattle.definition.specs.Reading as reading
use Rattle.definition.specs.Words.{records_from, held_from, answer_from, lie}
use Rattle.definition_replay.specs.Replay.{Made, made, stopped, items_from, parts_from, template_of, concat, Replayed, replays, stops, roomed_lines, lines_of, replayed, lines_after, kept_after, replay_call, replay_numbers, replay_numbers_of}
use Rattle.definition.proofs.Moves.CharLaws.{cases, no}
use Rattle.definition_laws.proofs.Outcomes.Outcomes.{Gapless, Sane, numbers_sane}
use Rattle.definition_laws.proofs.Formed.Held.{numbers_held}
use Rattle.definition_replay_laws.proofs.Spec.SpecLaws.{both_true}
use Rattle.entry.specs.declared.Refusal.{Refusal as Why}
use Rattle.answers.specs.declared.Answer.{Answer as Read}
use Rattle.answers.specs.declared.Outcome.TheVariants.{Accepted, Refused}
use Rattle.strings.specs.Strings.{CallIs}
use Rattle.templates.specs.Walk.{records_in, laid_from, parts_laid}
use Rattle.templates.proofs.Walking.{laid_records}
use Rattle.std.specs.Prelude.{Result, Ok, Err}
use Rattle.trace_lines.specs.declared.Written.{Written}
use Rattle.trace_lines.specs.declared.Stopped.{Stopped}
use Rattle.trace_lines.specs.Lines.{lines_in, ToldIs}
use Rattle.answers.specs.declared.Lines.{Lines}
use Rattle.answers.specs.declared.Unreplayed.{Unreplayed}
use Rattle.answers.specs.declared.Unreplayed.TheVariants as variants
use Rattle.answers.specs.Twelve.{read_numbers}
use Rattle.replay.specs.Answers.{ReplayIs, Holds, replay_of}

-- A READING that lies in words and text
module _ (x : Read) (words text : List ℕ) (l : x.records * 8 ≤ length words) (a : Answer) (h : Holds a x words text) where
  same_parts : parts_laid words x.records (take x.text text) ≡ template_of a
  unfolding parts_laid template_of
  same_parts =
      let n : records_in words x.records ≡ x.records = omega arith in
      let g : Gapless 0 (records_from x.records 0 words) (length (take x.text text)) = rw (h.records, h.texts) h.gapless in
      ap (λ m. parts_from (take x.text text) 0 (items_from 0 (laid_from m 0 0 (length (take x.text text)) words))) n
      ∙ ap (λ rs. parts_from (take x.text text) 0 (items_from 0 rs)) (laid_records x.records 0 0 (length (take x.text text)) words g ∙ h.records)
      ∙ ap (λ s. parts_from s 0 (items_from 0 a.records)) h.texts

-- what is told of its lines is what the definition answers
unfoldable answer_of : Answer → Made (List (List ℕ)) → Replayed
answer_of a (made ls) = replays a (length ls) (concat ls)
answer_of a (stopped n k) = stops n k

answer_is : (a : Answer) (room : ℕ) (o : Made (List (List ℕ))) → roomed_lines a room o ≡ answer_of a (lines_in room o)
unfolding roomed_lines lines_in answer_of
answer_is a room (stopped n k) = refl
answer_is a room (made ls) = cases (ltb (min room 0xFFFFFFFF) (length (concat ls))) (λ e. rw e) (λ e. rw e)

-- THE TWO WAYS that a call over a reading ends
module _ (x : Read) (trace words text output : List ℕ) (l : x.records * 8 ≤ length words) (output' : List ℕ)
  where
    module _ (a : Answer) (h : Holds a x words text) where
      answers : replayed (accepts a) trace (length output) ≡ answer_of a (lines_in (length output) (lines_of (parts_laid words x.records (take x.text text)) trace))
      unfolding replayed
      answers =
          answer_is a (length output) (lines_of (template_of a) trace)
          ∙ ap (λ p. answer_of a (lines_in (length output) (lines_of p trace))) (sym (same_parts x words text l a h))

    pub at_refused : (stop : Stopped) → ToldIs (lines_of (parts_laid words x.records (take x.text text)) trace) output output' (Err stop) → {words' text' : List ℕ} → (words' ≡ zeros words) × (text' ≡ zeros text) → (a : Answer) → Holds a x words text
        → ReplayIs (replay_of a trace words text output) words' text' output' (Err (variants.Stopped (record { number = stop.number; told = stop.told })))
    unfolding replay_call kept_after lines_after replay_numbers_of answer_of
    at_refused stop q c a h =
        let e = answers a h ∙ ap (answer_of a) q.are in
        record { answer = rw e; words = rw e c.0; text = rw e c.1; output = rw e q.output }

    pub at_end_lem : (told : Written) → ToldIs (lines_of (parts_laid words x.records (take x.text text)) trace) output output' (Ok told) → (a : Answer) → Holds a x words text
        → ReplayIs (replay_of a trace words text output) words text output' (Ok (record { reading = x; rows = told.rows; bytes = told.bytes }))
    unfolding replay_call kept_after lines_after replay_numbers_of answer_of
    at_end_lem told q a h =
        let e = answers a h ∙ ap (answer_of a) q.are in
        record { answer = rw e (λ i. h.numbered i ++ (q.rows i ∷ q.bytes i ∷ [])); words = rw e; text = rw e; output = rw e q.output }

-- FROM FLAT NUMBERS
module _ (look : Naming) (script ns trace words text output W T : List ℕ) where
  abbrev call : Call
  call = reading.read_numbers look script ns words text

  pub trace_refused : (q : Why) → CallIs call W T (Refused q) → {w' t' o' : List ℕ} → (w' ≡ zeros W) × (t' ≡ zeros T) × (o' ≡ zeros output)
      → ReplayIs (replay_numbers look script ns trace words text output) w' t' o' (Err (variants.Unread q))
  unfolding replay_numbers replay_call replayed kept_after lines_after replay_numbers_of
  trace_refused q c {w'} {t'} {o'} z = go call.outcome refl
    where
      go : (o : Outcome Answer) → call.outcome ≡ o → ReplayIs (replay_numbers look script ns trace words text output) w' t' o' (Err (variants.Unread q))
      go (accepts a) e = no (rw e at c.accepted)
      go (refuses r) e =
          record {
            answer = rw e (c.answer ∙ ap numbers e);
            words = rw (e, ← c.words) z.0;
            text = rw (e, ← c.text) z.1;
            output = rw e z.2;
          }

  module _ (x : Read) (c : CallIs call W T (Accepted x)) where
    accepted : {P : Type 0} → ((a : Answer) → call.outcome ≡ accepts a → P) → P
    accepted {P} f = go call.outcome refl
      where
        go : (o : Outcome Answer) → call.outcome ≡ o → P
        go (accepts a) e = f a e
        go (refuses r) e = no (sym (rw e at c.accepted))

    module _ (a : Answer) (e : call.outcome ≡ accepts a) where
      same : held_from (read_numbers x) W T ≡ a
      same = (λ i. held_from (c.answer i) (c.words i) (c.text i)) ∙ (numbers_held look script ns words text a e).0

      holds : Holds a x W T
      unfolding held_from answer_from
      holds =
          let s : Sane (accepts a) = rw e at (numbers_sane look script ns words text) in
          record { numbered = c.answer ∙ ap numbers e; records = ap (λ b. b.records) same; texts = ap (λ b. b.text) same; gapless = s.0 }

    pub trace_room : x.records * 8 ≤ length W
    unfolding lie numbers
    trace_room =
        accepted (λ a e.
        let l = both_true _ _ (numbers_held look script ns words text a e).2 in
        let p : read_numbers x ≡ numbers (accepts a) = c.answer ∙ ap numbers e in
        let m : x.records ≡ length a.records = cc in
        let w = c.words in
        rw (m, w) (leb-true _ _ l.0))

    pub trace_accepted : {w' t' o' : List ℕ} {r : Result Lines Unreplayed} → ((a : Answer) → Holds a x W T → ReplayIs (replay_of a trace W T output) w' t' o' r)
        → ReplayIs (replay_numbers look script ns trace words text output) w' t' o' r
    unfolding replay_numbers
    trace_accepted {w'} {t'} {o'} {r} f =
        accepted (λ a e.
        let s : record { outcome = accepts a; words = W; text = T } ≡ call = λ i. record { outcome = sym e i; words = c.words i; text = c.text i } in
        rw (← s) (f a (holds a e)))
