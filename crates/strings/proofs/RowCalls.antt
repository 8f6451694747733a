-- What a call for the rows of a list answers and leaves, by what was read of it. Assumes nothing.
use mathlib.Core.Path.{◌≡◌, refl, ◌∙◌, ap}
use mathlib.Core.Bool.{true≢false, false≢true}
use mathlib.Core.List.{List, [], ◌∷◌}
use mathlib.Core.Option.{Option, none, some}
use Prim.Native.Nat.{ℕ, ◌/◌, ◌≤◌}
use native.Mathlib.Omega.{arith}
use lib.ListN.{length, get_or, replicate}
use lib.Seq.{take_all}
use Rattle.definition.specs.Numbers.{not_sixes}
use Rattle.definition.specs.Escapes.{Naming}
use Rattle.definition.specs.Records.{answer_of}
use Rattle.definition.specs.Entry.{Literal, sixes, first_start, Refusal, refusal}
use Rattle.definition.specs.Reading as lists
use Rattle.definition.specs.Reading.{accepts, refuses, sort_of, sort_number, u_mark, last_end, answered, outcome_of, room_for, read, numbers, in_front, zeros}
use Rattle.definition.specs.Rows as d
use Rattle.definition.specs.Rows.{all_rows, all_numbers, rowed, roomed_rows, rows_after, SignsCall, called_rows, signs_into, signs_numbers, rowed_numbers}
use Rattle.entry.specs.Answers.{refusal_of}
use Rattle.entry.specs.declared.Refusal as why
use Rattle.entry.proofs.Checks.{room_enough}
use Rattle.answers.specs.declared.Answer.{Answer}
use Rattle.answers.specs.declared.Outcome.{Outcome}
use Rattle.answers.specs.declared.Outcome.TheVariants.{Accepted, Refused}
use Rattle.strings.specs.Window.{window_after, window_into, window_numbers}
use Rattle.strings.specs.Strings as made
use Rattle.strings.specs.Strings.{listed, SignsIs}
use Rattle.bodies.specs.declared.Written.{Written}
use Rattle.bodies.specs.Lists.{read_flat, DoneIs}
use Rattle.bodies.proofs.RowLaws.{length_numbers}

-- A REFUSED CALL: it is answered, and the row buffer is zeros
abbrev pub refusing : Refusal → List ℕ → SignsCall
refusing r rows = record { outcome = refuses r; rows = zeros rows }

pub refused_rows : (rows rows₁ rows' : List ℕ) (x : why.Refusal) (r : Outcome) (call : SignsCall) → call ≡ refusing (refusal_of x) rows → length rows₁ ≡ length rows
    → (r ≡ Refused x) × (rows' ≡ zeros rows₁) → SignsIs call rows' r
unfolding rowed_numbers numbers
refused_rows rows rows₁ rows' x r call e l h = rw e record { accepted = rw h.0 refl; answer = rw h.0 refl; rows = h.1 ∙ ap (λ n. replicate n 0) l }

-- THE READING for rows, over flat numbers
unfoldable reading : (look : Naming) → (script ns : List ℕ) → lists.Outcome d.Rowed
reading look script ns = elim (sixes ns) [ none ↦ refuses (refusal not_sixes 0 0 0 0) | some ls ↦ rowed (all_rows look script ls) (read look script ls) ]

abbrev windowed : (within skip : ℕ) → lists.Outcome d.Rowed → List ℕ → SignsCall
windowed within skip o rows = record { outcome = o; rows = window_after within skip o rows }

module _ (look : Naming) (script ns : List ℕ) where
  window_read : (within skip : ℕ) (rows : List ℕ) → window_numbers look within skip script ns rows ≡ windowed within skip (reading look script ns) rows
  unfolding reading window_numbers window_into window_after
  window_read within skip rows = go (sixes ns) refl
    where
      go : (o : Option (List Literal)) → sixes ns ≡ o → window_numbers look within skip script ns rows ≡ windowed within skip (reading look script ns) rows
      go none q = rw (q, window_numbers, reading)
      go (some ls) q = rw (q, window_numbers, reading)

  signs_read : (rows : List ℕ) → signs_numbers look script ns rows ≡ called_rows (roomed_rows (length rows) (reading look script ns)) rows
  unfolding reading signs_numbers signs_into roomed_rows
  signs_read rows = go (sixes ns) refl
    where
      go : (o : Option (List Literal)) → sixes ns ≡ o → signs_numbers look script ns rows ≡ called_rows (roomed_rows (length rows) (reading look script ns)) rows
      go none q = rw (q, signs_numbers, reading)
      go (some ls) q = rw (q, signs_numbers, reading)

  pub refused_window : (within skip : ℕ) (rows : List ℕ) (x : why.Refusal) → read_flat look script ns ≡ refuses (refusal_of x) → window_numbers look within skip script ns rows ≡ refusing (refusal_of x) rows
  unfolding read_flat reading window_after rowed
  refused_window within skip rows x e = window_read within skip rows ∙ ap (λ o. windowed within skip o rows) (go (sixes ns) refl)
    where
      go : (o : Option (List Literal)) → sixes ns ≡ o → reading look script ns ≡ refuses (refusal_of x)
      go none q = rw (q, reading) (let y = rw (q, read_flat) at e in cc)
      go (some ls) q = rw (q, reading, rw (q, read_flat) at e, rowed)

  pub accepted_rows : {within skip : ℕ} {words text rows words' text' rows' : List ℕ} {w : Written} → DoneIs look within skip script ns words text rows words' text' rows' w
      → SignsIs (window_numbers look within skip script ns rows) rows' (Accepted (made.answer_of (listed ns) w.fields 0 w.chars))
  unfolding reading read answered answer_of rowed window_after rowed_numbers
  accepted_rows {within} {skip} {words} {text} {rows} D =
      rw (window_read within skip rows, D.passed.listed, reading, D.passed.enters, read, D.reads)
      (record {
        accepted = refl;
        answer = (λ i. 0 ∷ sort_number (sort_of (listed ns)) ∷ u_mark (listed ns) ∷ first_start (listed ns) ∷ last_end 0 (listed ns) ∷ D.fields i ∷ 0 ∷ 0 ∷ D.chars i ∷ []);
        rows = D.rows_are;
      })

  -- FROM THE FIRST ROW ON: what a call for all rows owes beyond it is the room for them
  module _ (rows rows₁ : List ℕ) where
    abbrev First : Outcome → Type 0
    First r = SignsIs (window_numbers look 0 0 script ns rows) rows₁ r

    abbrev Signs : List ℕ → Outcome → Type 0
    Signs rows' r = SignsIs (signs_numbers look script ns rows) rows' r

    pub refused_signs : (x : why.Refusal) → First (Refused x) → Signs rows₁ (Refused x)
    unfolding window_after roomed_rows called_rows rows_after
    refused_signs x h = rw signs_read (go (reading look script ns) (rw window_read at h))
      where
        go : (o : lists.Outcome d.Rowed) → SignsIs (windowed 0 0 o rows) rows₁ (Refused x) → SignsIs (called_rows (roomed_rows (length rows) o) rows) rows₁ (Refused x)
        go (accepts z) g = absurd (false≢true g.accepted)
        go (refuses y) g = record { accepted = g.accepted; answer = g.answer; rows = g.rows }

    module _ (x : Answer) (h : First (Accepted x)) (l : length rows₁ ≡ length rows) where
      abbrev room : Option Refusal
      room = room_for (length rows₁ / 10) 0 x.records 0 x.chars

      pub short_signs : (y : why.Refusal) (rows' : List ℕ) (r : Outcome) → room ≡ some (refusal_of y) → (r ≡ Refused y) × (rows' ≡ zeros rows₁) → Signs rows' r
      unfolding roomed_rows outcome_of called_rows rows_after rowed_numbers
      short_signs y rows' r e s = rw signs_read (go (reading look script ns) (rw window_read at h))
        where
          go : (o : lists.Outcome d.Rowed) → SignsIs (windowed 0 0 o rows) rows₁ (Accepted x) → SignsIs (called_rows (roomed_rows (length rows) o) rows) rows' r
          go (refuses y) g = absurd (true≢false g.accepted)
          go (accepts z) g =
              let n : x.records ≡ length z.rows = ap (λ a. get_or a 5 0) g.answer in
              let m : x.chars ≡ z.answer.chars = ap (λ a. get_or a 8 0) g.answer in
              let f : room_for (length rows / 10) 0 (length z.rows) 0 z.answer.chars ≡ some (refusal_of y) = rw (← l, ← n, ← m) e in
              refused_rows rows rows₁ rows' y r _ (ap (λ o. called_rows (outcome_of z o) rows) f) l s

      pub accepted_signs : room ≡ none → Signs rows₁ (Accepted x)
      unfolding window_after roomed_rows outcome_of called_rows rows_after rowed_numbers
      accepted_signs e = rw signs_read (go (reading look script ns) (rw window_read at h))
        where
          go : (o : lists.Outcome d.Rowed) → SignsIs (windowed 0 0 o rows) rows₁ (Accepted x) → SignsIs (called_rows (roomed_rows (length rows) o) rows) rows₁ (Accepted x)
          go (refuses y) g = absurd (true≢false g.accepted)
          go (accepts z) g =
              let n : x.records ≡ length z.rows = ap (λ a. get_or a 5 0) g.answer in
              let m : x.chars ≡ z.answer.chars = ap (λ a. get_or a 8 0) g.answer in
              let enough : length (all_numbers 0 z.rows) ≤ length rows = omega (arith, l, n, length_numbers 0 z.rows, (room_enough (length rows₁ / 10) 0 x.records 0 x.chars e).0) in
              let f : room_for (length rows / 10) 0 (length z.rows) 0 z.answer.chars ≡ none = rw (← l, ← n, ← m) e in
              rw f
              (record { accepted = refl; answer = g.answer; rows = g.rows ∙ ap (λ ns. in_front ns rows) (take_all (length rows) (all_numbers 0 z.rows) enough) })
