-- What a call answers and leaves, by what was read of all its literals. Assumes nothing.
use Rattle.std.specs.Prelude.{if◌then◌else◌}
use mathlib.Core.Path.{◌≡◌, refl, sym, ◌∙◌, ap, ap₂}
use mathlib.Core.Bool.{Bool, true, false}
use mathlib.Core.List.{List, [], ◌∷◌}
use mathlib.Core.Option.{Option, none, some}
use Prim.Native.Nat.{ℕ, ◌*◌, ◌/◌, ◌≤◌}
use native.Mathlib.Omega.{arith}
use lib.ListN.{length, replicate}
use Rattle.definition.specs.Records.{Record, Answer, answer_of, words_of}
use Rattle.definition.specs.Entry.{Literal, sixes, any_of, first_start}
use Rattle.definition.specs.Entry as entry
use Rattle.definition.specs.Numbers.{is_bytes, is_fstring}
use Rattle.definition.specs.Escapes.{Naming}
use Rattle.definition.specs.Reading.{accepts, refuses, sort_of, sort_number, u_mark, last_end, answered, outcome_of, room_for, roomed, Call, called, read_into, read_numbers, words_after, text_after, all_words, numbers, zeros, numbers_by}
use Rattle.definition.specs.Reading as o
use Rattle.buffers.proofs.Over.{length_over, over_front}
use Rattle.entry.specs.Literals.{literal_at}
use Rattle.entry.specs.declared.Descriptor.{Descriptor}
use Rattle.entry.specs.declared.Refusal.{Refusal}
use Rattle.entry.specs.Answers.{described, six, refusal_of}
use Rattle.entry.proofs.Checks.{room_enough}
use Rattle.entry.proofs.Passed.{passed_reads}
use Rattle.bodies.specs.declared.Written.{Written}
use Rattle.bodies.specs.Lists.{read_flat, answer_for, Landed, DoneIs, RefusedIs}
use Rattle.answers.specs.declared.Outcome.{Outcome}
use Rattle.answers.specs.declared.Outcome.TheVariants.{Accepted, Refused}
use Rattle.strings.specs.Strings as made
use Rattle.answers.specs.Twelve.{reading_says as says}
use Rattle.strings.specs.Strings.{listed, Few, is_accepted, CallIs}

-- the sort of literals, by what they have
pub sort_joined : (ls : List Literal) → any_of is_fstring ls ≡ true → sort_number (sort_of ls) ≡ 1
unfolding sort_of sort_number
sort_joined ls h = rw h

pub sort_bytes : (ls : List Literal) → any_of is_fstring ls ≡ false → any_of is_bytes ls ≡ true → sort_number (sort_of ls) ≡ 2
unfolding sort_of sort_number
sort_bytes ls h g = rw (h, g)

pub sort_plain : (ls : List Literal) → any_of is_fstring ls ≡ false → any_of is_bytes ls ≡ false → sort_number (sort_of ls) ≡ 0
unfolding sort_of sort_number
sort_plain ls h g = rw (h, g)

-- whether any are bytes, by the kind of their top-level records
pub four_bytes : (b : Bool) (kind : ℕ) → kind ≡ (if b then 4 else 1) → kind ≡ 4 → b ≡ true
four_bytes true kind h e = refl
four_bytes false kind h e = absurd (omega arith)

pub else_plain : (b : Bool) (kind : ℕ) → kind ≡ (if b then 4 else 1) → (kind ≡ 4 → ⊥) → b ≡ false
else_plain true kind h e = absurd (e h)
else_plain false kind h e = refl

-- how many words records have
length_words : (rs : List Record) → length (all_words rs) ≡ length rs * 8
unfolding all_words words_of
length_words [] = refl
length_words (r ∷ rs) = omega (arith, length_words rs)

-- both buffers keep their lengths
same_words : {x : Answer} {words text words' text' : List ℕ} {n m : ℕ} → Landed x words text words' text' n m → length words' ≡ length words
same_words {x} {words} h = ap length h.words_are ∙ length_over words 0 (all_words x.records)

same_text : {x : Answer} {words text words' text' : List ℕ} {n m : ℕ} → Landed x words text words' text' n m → length text' ≡ length text
same_text {x} {words} {text} h = ap length h.text_is ∙ length_over text 0 x.text

-- the definition's refusal of a refusal
abbrev why : Refusal → o.Outcome Answer
why x = refuses (refusal_of x)

-- A REFUSED CALL: it is answered, and both buffers are zeros
module _ (words text words₁ text₁ words' text' : List ℕ) (x : Refusal) (r : Outcome) where
  pub refused_call : (call : Call) → call ≡ called (why x) words text → length words₁ ≡ length words → length text₁ ≡ length text
      → (r ≡ Refused x) × (words' ≡ zeros words₁) × (text' ≡ zeros text₁)
      → CallIs call words' text' r
  unfolding called words_after text_after numbers
  refused_call call e lw lt h =
      rw e
      record { accepted = rw h.0 refl; answer = rw h.0 refl; words = h.1 ∙ ap (λ n. replicate n 0) lw; text = h.2 ∙ ap (λ n. replicate n 0) lt }

-- THE ROOM, of buffers that an answer lies over: what is needed is there, or is refused
module _ (x : Answer) (words text words' text' : List ℕ) (n m : ℕ) (h : Landed x words text words' text' n m) where
  abbrev room : Option entry.Refusal
  room = room_for (length words' / 8) (length text') n m x.chars

  room_there : roomed (length words) (length text) (accepts x) ≡ outcome_of x room
  unfolding roomed
  room_there = rw (same_words h, same_text h, h.count, h.used)

  pub accepted : (r : Outcome) → room ≡ none → is_accepted r ≡ true → says r ≡ 0 ∷ sort_number x.sort ∷ x.u_mark ∷ x.start ∷ x.end ∷ n ∷ m ∷ 0 ∷ x.chars ∷ []
      → CallIs (called (roomed (length words) (length text) (accepts x)) words text) words' text' r
  unfolding called words_after text_after numbers outcome_of
  accepted r e t s =
      rw (room_there, e)
      (record {
        accepted = t;
        answer = s ∙ ap₂ (λ a b. 0 ∷ sort_number x.sort ∷ x.u_mark ∷ x.start ∷ x.end ∷ a ∷ b ∷ 0 ∷ x.chars ∷ []) h.count h.used;
        words = h.words_are ∙ over_front words (all_words x.records) (omega (arith, length_words x.records, same_words h, h.count, enough.0));
        text = h.text_is ∙ over_front text x.text (omega (arith, same_text h, h.used, enough.1));
      })
    where
      enough : (n ≤ length words' / 8) × (m ≤ length text')
      enough = room_enough (length words' / 8) (length text') n m x.chars e

-- A LIST THAT IS REFUSED
pub refused_flat : (look : Naming) (script ns words text : List ℕ) (x : Refusal) → read_flat look script ns ≡ refuses (refusal_of x) → read_numbers look script ns words text ≡ called (why x) words text
unfolding read_flat read_numbers numbers_by read_into roomed
refused_flat look script ns words text x e = go (sixes ns) refl
  where
    go : (q : Option (List Literal)) → sixes ns ≡ q → read_numbers look script ns words text ≡ called (why x) words text
    go none q = rw (q, read_numbers, numbers_by) (ap (λ r. called r words text) (rw (q, read_flat) at e))
    go (some ls) q = rw (q, read_numbers, numbers_by, rw (q, read_flat) at e, roomed)

pub refused_is : {look : Naming} {script ns words text rows words' text' rows' : List ℕ} {x : Refusal} → RefusedIs look script ns words text rows words' text' rows' x
    → CallIs (read_numbers look script ns words text) words' text' (Refused x)
refused_is {look} {script} {ns} {words} {text} {rows} {words'} {text'} {rows'} {x} R =
    refused_call words text words text words' text' x (Refused x) _ (refused_flat look script ns words text x R.reads) refl refl (refl, R.words_are, R.text_is)

-- A LIST THAT IS ACCEPTED, if there is room
module _ {look : Naming} {within skip : ℕ} {script ns words text rows words₁ text₁ rows' : List ℕ} {w : Written} (D : DoneIs look within skip script ns words text rows words₁ text₁ rows' w) where
  abbrev there : o.Outcome Answer
  there = roomed (length words) (length text) (accepts (answer_for script (listed ns) D.items))

  done_reads : read_numbers look script ns words text ≡ called there words text
  unfolding answered
  done_reads = passed_reads look script ns words text (length ns / 6) D.passed ∙ rw (D.reads, answered)

  pub few : Few ns w
  few = record { few = D.passed.few; whole = D.whole }

  pub finish_short : (y : Refusal) (words' text' : List ℕ) (r : Outcome) → room_for (length words₁ / 8) (length text₁) w.records w.text w.chars ≡ some (refusal_of y)
      → (r ≡ Refused y) × (words' ≡ zeros words₁) × (text' ≡ zeros text₁) → CallIs (read_numbers look script ns words text) words' text' r
  unfolding outcome_of answer_of
  finish_short y words' text' r e h =
      refused_call words text words₁ text₁ words' text' y r _
      (done_reads ∙ ap (λ q. called q words text) (room_there (answer_for script (listed ns) D.items) words text words₁ text₁ w.records w.text D.landed ∙ ap (outcome_of (answer_for script (listed ns) D.items)) (ap (room_for (length words₁ / 8) (length text₁) w.records w.text) (sym D.chars) ∙ e)))
      (same_words D.landed) (same_text D.landed) h

  pub finish_accepted : room_for (length words₁ / 8) (length text₁) w.records w.text w.chars ≡ none
      → CallIs (read_numbers look script ns words text) words₁ text₁ (Accepted (made.answer_of (listed ns) w.records w.text w.chars))
  unfolding answer_of
  finish_accepted e =
      rw done_reads
      (accepted (answer_for script (listed ns) D.items) words text words₁ text₁ w.records w.text D.landed (Accepted (made.answer_of (listed ns) w.records w.text w.chars))
      (ap (room_for (length words₁ / 8) (length text₁) w.records w.text) (sym D.chars) ∙ e) refl (λ i. 0 ∷ sort_number (sort_of (listed ns)) ∷ u_mark (listed ns) ∷ first_start (listed ns) ∷ last_end 0 (listed ns) ∷ w.records ∷ w.text ∷ 0 ∷ D.chars i ∷ []))

-- six numbers are those of their literal
pub six_numbers : (ns : List ℕ) (l : Descriptor) → length ns ≡ 6 → described l ≡ literal_at ns 0 → six l ≡ ns
unfolding six described literal_at
six_numbers [] l h q = absurd (omega arith)
six_numbers (a ∷ []) l h q = absurd (omega arith)
six_numbers (a ∷ b ∷ []) l h q = absurd (omega arith)
six_numbers (a ∷ b ∷ c ∷ []) l h q = absurd (omega arith)
six_numbers (a ∷ b ∷ c ∷ d ∷ []) l h q = absurd (omega arith)
six_numbers (a ∷ b ∷ c ∷ d ∷ e ∷ []) l h q = absurd (omega arith)
six_numbers (a ∷ b ∷ c ∷ d ∷ e ∷ f ∷ g ∷ ns) l h q = absurd (omega arith)
six_numbers (a ∷ b ∷ c ∷ d ∷ e ∷ f ∷ []) l h q = λ i. (q i).kind ∷ (q i).triple ∷ (q i).offset ∷ (q i).size ∷ (q i).start ∷ (q i).end ∷ []
