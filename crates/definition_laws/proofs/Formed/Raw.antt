-- A body of kind 4 without braces, not empty, read alone with room, comes out as one literal of the same bytes. Assumes nothing.
use mathlib.Core.Path.{◌≡◌, refl, sym, ◌∙◌, ap, ap₂}
use mathlib.Core.Bool.{Bool, true, false, ◌&&◌, not, false≢true}
use mathlib.Core.List.{List, [], ◌∷◌, ◌++◌, append-nil}
use mathlib.Core.Option.{none}
use Prim.Native.Nat.{ℕ, zero, suc, ◌+◌, ◌-◌, ◌≤◌, ◌<◌}
use native.Mathlib.Omega.{arith}
use lib.Dec.{eqb}
use lib.ListN.{length, take}
use lib.Seq.{take_all, take-add}
use borrow.Author.Tests.{leb-true, leb-false, lt-leb}
use Rattle.definition.specs.Chars.{◌is◌, byte, at_end, code, next, char}
use Rattle.definition.specs.Escapes.{Naming, got}
use Rattle.definition.specs.Body.{literal, TextCase, text_case, text_move, filled, text_n, enough, read_body}
use Rattle.definition.specs.Records.{top, item, item_of, words_of, merge, merged, glue, texts, laid, record_at, cover, covers, joined, Answer, answer_of}
use Rattle.definition.specs.Entry.{Literal, sixes, one_more, body, any_of, first_start, entry}
use Rattle.definition.specs.Reading.{accepts, read_literal, and_then, read_from, sort_of, u_mark, last_end, all_chars, answered, read, roomed, all_words, in_front, words_after, text_after, sort_number, numbers, Call, called, read_into, read_numbers, numbers_by}
use Rattle.definition.specs.Matched.{braceless}
use Rattle.definition.proofs.Moves.CharLaws.{cases, code_is, next_past, next_in, next_from}
use Rattle.definition_laws.proofs.Moves.Steps.{text_goes, text_ends}
use Rattle.definition_laws.proofs.Moves.Fuel.{Moves}
use Rattle.definition_laws.proofs.Outcomes.Room.{roomed_enough}
use Rattle.definition_laws.proofs.Formed.Accepted.{neither}

clean : (x y : Bool) → (not x && y) ≡ true → (x ≡ false) × (y ≡ true)
clean true y e = absurd (false≢true e)
clean false y e = (refl, e)

no_brace : (s : List ℕ) (i : ℕ) → braceless s ≡ true → i < length s → (byte s i is "{}") ≡ false
unfolding braceless
no_brace [] i h l = absurd (omega arith)
no_brace (b ∷ s) zero h l = (clean (b is "{}") (braceless s) h).0
no_brace (b ∷ s) (suc i) h l = no_brace s i (clean (b is "{}") (braceless s) h).1 (omega arith)

module _ (look : Naming) (s : List ℕ) (free : braceless s ≡ true) where
  raw_case : (i : ℕ) → i < length s → text_case 4 s 0 i ≡ TextCase.plain
  unfolding text_case
  raw_case i l =
      let b = neither (eqb (byte s i) 123) (eqb (byte s i) 125) (no_brace s i free l) in
      rw (lt-leb (length s) i l, code_is s i 123 (omega arith), b.0, code_is s i 125 (omega arith), b.1)
      (cases (code s i is "\\") (λ t. rw t refl) (λ t. rw t refl))

  raw_over : (i : ℕ) → at_end s i ≡ true → text_case 4 s 0 i ≡ TextCase.over
  unfolding text_case
  raw_over i e = rw e refl

  one_more_lem : (i : ℕ) → take i s ++ char s i ≡ take (next s i) s
  unfolding char
  one_more_lem i =
      let e : i + (next s i - i) ≡ next s i = omega (arith, next_from s i) in
      sym (take-add i (next s i - i) s) ∙ ap (λ k. take k s) e

  raw_text : (n i : ℕ) → i ≤ length s → Moves s i 1 n → text_n look n 4 s 0 i (take i s) [] ≡ got (filled 0 s) (length s)
  unfolding text_move
  raw_text zero i l m = absurd (omega arith)
  raw_text (suc n) i l m =
      cases (at_end s i)
      (λ e.
      let k = leb-true (length s) i e in
      text_ends look n 4 s 0 i (take i s) [] (rw (raw_over i e, text_move) refl) ∙ ap₂ (λ t j. got (filled 0 t) j) (take_all i s k) (omega arith))
      (λ e.
      let k = leb-false (length s) i e in
      text_goes look n 4 s 0 i (take i s) [] (next s i) (take i s ++ char s i) (rw (raw_case i k, text_move) refl)
      ∙ ap (λ t. text_n look n 4 s 0 (next s i) t []) (one_more_lem i)
      ∙ raw_text n (next s i) (next_in s i l) (omega (arith, next_past s i k)))

  raw_body : 1 ≤ length s → read_body look 4 s ≡ got (literal 0 s ∷ []) (length s)
  unfolding read_body filled
  raw_body h = raw_text (enough s) 0 (omega arith) (omega arith) ∙ ap (λ ps. got ps (length s)) (one s h)
    where
      one : (s : List ℕ) → 1 ≤ length s → filled 0 s ≡ literal 0 s ∷ []
      one [] h = absurd (omega arith)
      one (b ∷ s) h = refl

-- READ ALONE, by its six numbers
module _ (look : Naming) (script : List ℕ) (triple offset size start end : ℕ) where
  abbrev pub alone : Literal
  alone = record { kind = 4; triple = triple; offset = offset; size = size; start = start; end = end }

  abbrev pub bytes : List ℕ
  bytes = body script alone

  -- one literal of its bytes
  abbrev pub RawIs : (words text : List ℕ) → Call → Type 0
  RawIs words text c =
      (numbers c.outcome ≡ 0 ∷ 1 ∷ 0 ∷ start ∷ end ∷ 1 ∷ length bytes ∷ 0 ∷ all_chars script (alone ∷ []) ∷ [])
      × (c.words ≡ in_front (1 ∷ 0 ∷ length bytes ∷ start ∷ end ∷ 0 ∷ 0 ∷ 0 ∷ []) words)
      × (c.text ≡ in_front bytes text)

  module _ (passed : entry script (alone ∷ []) ≡ none) (free : braceless bytes ≡ true) (some_byte : 1 ≤ length bytes) where
    abbrev answer : Answer
    answer = answer_of joined 0 start end (all_chars script (alone ∷ [])) (item top 1 bytes start end 0 0 0 ∷ [])

    raw_from : read_from look script 0 (alone ∷ []) ≡ accepts (item top 1 bytes start end 0 0 0 ∷ [])
    unfolding read_from and_then read_literal item_of
    raw_from = rw (raw_body look bytes free some_byte, read_literal) refl

    raw_read : read look script (alone ∷ []) ≡ accepts answer
    unfolding read answered sort_of any_of u_mark first_start last_end
    raw_read = rw (passed, raw_from, read) refl

    raw_words : (all_words answer.records ≡ 1 ∷ 0 ∷ length bytes ∷ start ∷ end ∷ 0 ∷ 0 ∷ 0 ∷ []) × (answer.text ≡ bytes) × (length answer.records ≡ 1)
    unfolding answer_of merged merge glue laid record_at cover covers all_words words_of texts item
    raw_words = (refl, append-nil bytes, refl)

    module _ (words text : List ℕ) (w : 8 ≤ length words) (t : length bytes ≤ length text) where
      -- of descriptors
      pub into_raw : RawIs words text (read_into look script (alone ∷ []) words text)
      unfolding read_into called numbers sort_number words_after text_after answer_of
      into_raw =
          let room : roomed (length words) (length text) (accepts answer) ≡ accepts answer = roomed_enough (length words) (length text) answer (omega (arith, raw_words.2)) (omega (arith, ap length raw_words.1)) in
          rw (raw_read, room) (
            ap₂ (λ n m. 0 ∷ 1 ∷ 0 ∷ start ∷ end ∷ n ∷ m ∷ 0 ∷ all_chars script (alone ∷ []) ∷ []) raw_words.2 (ap length raw_words.1),
            ap (λ l. in_front l words) raw_words.0,
            ap (λ l. in_front l text) raw_words.1,
          )

      -- of flat numbers
      pub numbers_raw : RawIs words text (read_numbers look script (4 ∷ triple ∷ offset ∷ size ∷ start ∷ end ∷ []) words text)
      unfolding read_numbers numbers_by sixes one_more
      numbers_raw = into_raw
