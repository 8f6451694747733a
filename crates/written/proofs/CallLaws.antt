-- What a call answers, and what it leaves. Assumes nothing.
use mathlib.Core.Path.{◌≡◌, refl, ◌∙◌, ap, ap₂}
use mathlib.Core.Bool.{Bool, true, false, ◌&&◌}
use mathlib.Core.List.{List, []}
use Prim.Native.Nat.{ℕ, ◌≤◌, ◌<◌, ◌*◌}
use native.Mathlib.Nat.{sub-zero}
use native.Mathlib.Omega.{arith}
use lib.Dec.{leb, eqb}
use lib.ListN.{length, take, replicate}
use borrow.Author.Tests.{le-leb, lt-leb, eq-eqb, ne_eqb}
use Rattle.definition.specs.Numbers.{not_writable, not_read_back, too_little_body_room}
use Rattle.definition.specs.Escapes.{held_names}
use Rattle.definition.specs.Records.{Record}
use Rattle.definition.specs.Reading.{zeros}
use Rattle.definition.specs.Words.{word, answer_from, held_from}
use Rattle.definition_formed.specs.Formed.{lent, lent_answer, is_formed}
use Rattle.definition_written.specs.Written.{writable, writes, stops, written, body_after, written_into, written_numbers}
use Rattle.definition_written.specs.Passes.{passed, found}
use Rattle.definition_written_laws.proofs.Passes.WrittenLaw.{writable_parts, ended, by_pass, written_by_pass}
use Rattle.buffers.proofs.Over.{over_front}
use Rattle.formed.specs.Good.{records_at}
use Rattle.formed.proofs.Goods.{formed_lies}
use Rattle.std.specs.Prelude.{Ok, Err, Option, Some, None}
use Rattle.written.specs.Going.{Rules, Spells}
use Rattle.written.specs.Answers.{WrittenIs}

module _ (ns words text body : List ℕ) where
  abbrev W : Bool
  W = writable (lent ns words text)

  -- what is read of the numbers
  abbrev own : List ℕ
  own = take (word ns 6) text

  abbrev all : List Record
  all = records_at words (word ns 5) 0 0

  same_records_lem : (lent_answer (lent ns words text)).records ≡ all
  unfolding lent_answer held_from answer_from
  same_records_lem = rw (sub-zero (word ns 5)) refl

  same_text : (lent_answer (lent ns words text)).text ≡ own
  unfolding lent_answer held_from answer_from
  same_text = refl

  -- 54
  pub not_formed : is_formed (lent ns words text) ≡ false → W ≡ false
  unfolding writable
  not_formed h = rw h refl

  pub not_joined : (word ns 1 ≡ 1 → ⊥) → W ≡ false
  unfolding writable
  not_joined h = rw (ne_eqb (word ns 1) 1 h) (none (is_formed (lent ns words text)))
    where
      none : (x : Bool) → (x && false) ≡ false
      none true = refl
      none false = refl

  pub is_writable : is_formed (lent ns words text) ≡ true → word ns 1 ≡ 1 → W ≡ true
  unfolding writable
  is_writable h e = rw (h, eq-eqb (word ns 1) 1 e) refl

  stopped : (n k : ℕ) → written held_names (lent ns words text) (length body) ≡ stops n k → (body' : List ℕ) → body' ≡ zeros body → WrittenIs (written_into held_names (lent ns words text) body) body' (Err (record { number = n; needed = k }))
  unfolding written_into body_after written_numbers
  stopped n k e body' b = record { answer = rw e refl; body = b ∙ rw e refl }

  pub at_unwritable : W ≡ false → (body' : List ℕ) → body' ≡ zeros body → WrittenIs (written_into held_names (lent ns words text) body) body' (Err (record { number = 54; needed = 0 }))
  unfolding written
  at_unwritable h body' b = stopped not_writable 0 (rw (h, written) refl) body' b

  module _ (h : W ≡ true) where
    pub lies : (word ns 5 * 8 ≤ length words) × (word ns 6 ≤ length text)
    unfolding writable
    lies = formed_lies ns words text (first (is_formed (lent ns words text)) (eqb (word ns 1) 1) h)
      where
        first : (a b : Bool) → (a && b) ≡ true → a ≡ true
        first true b e = refl
        first false b e = e

    rules : Rules (length own) false 0 0 all
    rules =
        let w = writable_parts (lent ns words text) h in
        let f = w.formed in
        rw (← same_records_lem) (record { fit = f.fit; order = f.order; gaps = rw same_text at f.no_gap; no_bytes_lem = w.without_bytes })

    -- from the numbers as they were read
    pub rules_read : (m n : ℕ) → m ≡ word ns 6 → n ≡ word ns 5 → Rules (length (take m text)) false 0 0 (records_at words n 0 0)
    rules_read m n e f = rw (e, f) rules

    pub spells_read : (m n : ℕ) → m ≡ word ns 6 → n ≡ word ns 5 → {body₁ : List ℕ} {k : Option ℕ} → Spells (take m text) (records_at words n 0 0) body body₁ k → Spells own all body body₁ k
    spells_read m n e f S = rw (← e, ← f) S

    module _ (body₁ : List ℕ) where
      abbrev s : List ℕ
      s = passed own [] all

      by_pass_lem : written held_names (lent ns words text) (length body)
          ≡ ended (length body) (found own [] all && leb (length s) 1048576) s
      unfolding by_pass
      by_pass_lem =
          written_by_pass held_names (lent ns words text) (length body)
          ∙ rw (h, by_pass) (ap₂ (λ t rs. ended (length body) (found t [] rs && leb (length (passed t [] rs)) 1048576) (passed t [] rs)) same_text same_records_lem)

      cleared : length body₁ ≡ length body → (body' : List ℕ) → body' ≡ zeros body₁ → body' ≡ zeros body
      cleared k body' b = b ∙ ap (λ k. replicate k 0) k

      pub at_otherwise : Spells own all body body₁ None → (body' : List ℕ) → body' ≡ zeros body₁ → WrittenIs (written_into held_names (lent ns words text) body) body' (Err (record { number = 55; needed = 0 }))
      at_otherwise S body' b = stopped not_read_back 0 (by_pass_lem ∙ rw S.is refl) body' (cleared S.kept body' b)

      module _ (n : ℕ) (S : Spells own all body body₁ (Some n)) where
        size : length s ≡ n
        size = let u = S.is.2.up in omega arith

        reads : (found own [] all && leb (length s) 1048576) ≡ true
        reads = rw (S.is.1, le-leb (length s) 1048576 (let z = size in let y = S.is.0 in omega arith)) refl

        pub at_short : length body₁ < n → (body' : List ℕ) → body' ≡ zeros body₁ → WrittenIs (written_into held_names (lent ns words text) body) body' (Err (record { number = 56; needed = n }))
        at_short l body' b =
            stopped too_little_body_room n (by_pass_lem ∙ rw reads (rw (lt-leb (length s) (length body) (let z = size in let y = S.kept in omega arith), ended) (ap (stops too_little_body_room) size))) body' (cleared S.kept body' b)

        pub at_wrote : n ≤ length body₁ → WrittenIs (written_into held_names (lent ns words text) body) body₁ (Ok n)
        unfolding written_into body_after written_numbers
        at_wrote l =
            let e : written held_names (lent ns words text) (length body) ≡ writes s = by_pass_lem ∙ rw reads (rw (le-leb (length s) (length body) (let z = size in let y = S.kept in omega arith), ended) refl) in
            record { answer = rw (e, size) refl; body = S.is.2.wrote ∙ over_front body s (let z = size in let y = S.kept in omega arith) ∙ rw e refl }
