-- A view over an accepted answer gives its records, each at its number with its text, and no others. Assumes nothing.
use mathlib.Core.Path.{◌≡◌, refl, ap}
use mathlib.Core.Bool.{Bool, true, false}
use mathlib.Core.List.{List, [], ◌∷◌, ◌++◌}
use mathlib.Core.Option.{Option, none, some, map}
use Prim.Native.Nat.{ℕ, zero, suc, ◌+◌, ◌*◌, ◌≤◌, ◌<◌}
use native.Mathlib.Nat.{add-sub_cancel_left, le_of_suc-le-suc, not-suc-le-zero}
use native.Mathlib.Omega.{arith}
use lib.Dec.{leb}
use lib.ListN.{length, take, drop, get_elem?, length-append, length-drop}
use lib.Seq.{drop-append-add, drop-append-le, take-append-le, take-append_seam}
use borrow.Author.Tests.{leb-true, leb-false, le-ltb}
use Rattle.definition.specs.Numbers.{not_sixes}
use Rattle.definition.specs.Chars.{part}
use Rattle.definition.specs.Escapes.{Naming}
use Rattle.definition.specs.Records.{Record, words_of, Answer}
use Rattle.definition.specs.Entry.{Literal, sixes, refusal}
use Rattle.definition.specs.Reading.{Outcome, accepts, refuses, read, roomed, all_words, in_front, words_after, text_after, Call, called, read_into, read_numbers, numbers_by}
use Rattle.definition.specs.View.{viewed}
use Rattle.definition.specs.Words.{text_of}
use Rattle.definition_laws.proofs.Outcomes.Outcomes.{all_words_lem, Gapless, Sane, into_sane}

-- the n-th record's words
nth_words : (rs : List Record) (rest : List ℕ) (n : ℕ) → n < length rs → some (take 8 (drop (n * 8) (all_words rs ++ rest))) ≡ map words_of (get_elem? rs n)
unfolding all_words words_of
nth_words [] rest n h = absurd (not-suc-le-zero h)
nth_words (r ∷ rs) rest zero h = refl
nth_words (r ∷ rs) rest (suc n) h =
    let e : suc n * 8 ≡ 8 + n * 8 = omega arith in
    rw (e, drop-append-add (words_of r) (all_words rs ++ rest) (n * 8)) (nth_words rs rest n (le_of_suc-le-suc h))

none_past : {A : Type 0} (l : List A) (n : ℕ) → length l ≤ n → get_elem? l n ≡ none
none_past [] n h = refl
none_past (x ∷ l) zero h = absurd (not-suc-le-zero h)
none_past (x ∷ l) (suc n) h = none_past l n (le_of_suc-le-suc h)

viewed_front : (rs : List Record) (buffer : List ℕ) (n : ℕ) → viewed (in_front (all_words rs) buffer) (length rs) n ≡ map words_of (get_elem? rs n)
unfolding viewed
viewed_front rs buffer n = go (leb (length rs) n) refl
  where
    rest : List ℕ
    rest = drop (length (all_words rs)) buffer

    go : (b : Bool) → leb (length rs) n ≡ b → viewed (all_words rs ++ rest) (length rs) n ≡ map words_of (get_elem? rs n)
    go true e = rw (e, none_past rs n (leb-true _ _ e))
    go false e =
        let h = leb-false (length rs) n e in
        rw (e, le-ltb (length (all_words rs ++ rest)) (n * 8 + 8) (omega (arith, h, all_words_lem rs, length-append (all_words rs) rest)), add-sub_cancel_left) (nth_words rs rest n h)

-- a record's text lies in the answer's
abbrev record_text : Answer → Record → List ℕ
record_text x r = part x.text r.offset (r.offset + r.size)

abbrev Within : ℕ → Option Record → Type 0
Within m none = Unit {0}
Within m (some r) = r.offset + r.size ≤ m

gapless_from : (n : ℕ) (rs : List Record) (m : ℕ) → Gapless n rs m → n ≤ m
gapless_from n [] m h = omega arith
gapless_from n (r ∷ rs) m h = omega (arith, gapless_from (n + r.size) rs m h.1)

gapless_within : (n : ℕ) (rs : List Record) (m : ℕ) → Gapless n rs m → (k : ℕ) → Within m (get_elem? rs k)
gapless_within n [] m h k = tt
gapless_within n (r ∷ rs) m h zero = omega (arith, h.0, gapless_from (n + r.size) rs m h.1)
gapless_within n (r ∷ rs) m h (suc k) = gapless_within (n + r.size) rs m h.1 k

-- a part of what stands in front
part_front : (t rest : List ℕ) (a n : ℕ) → a + n ≤ length t → part (t ++ rest) a (a + n) ≡ part t a (a + n)
part_front t rest a n h =
    rw (add-sub_cancel_left, drop-append-le a t rest (omega arith)) (take-append-le n (drop a t) rest (omega (arith, length-drop a t)))

text_front : (x : Answer) (buffer : List ℕ) (o : Option Record) → Within (length x.text) o
    → map (text_of (in_front x.text buffer)) (map words_of o) ≡ map (record_text x) o
unfolding text_of words_of
text_front x buffer none h = refl
text_front x buffer (some r) h = ap some (part_front x.text (drop (length x.text) buffer) r.offset r.size h)

-- AFTER A CALL THAT ACCEPTS, a view over the words and the count gives the answer's records, each at its number, and from the count on nothing
abbrev pub Viewed : Call → Answer → Type 0
Viewed c x = c.outcome ≡ accepts x → (n : ℕ) → viewed c.words (length x.records) n ≡ map words_of (get_elem? x.records n)

-- and the text buffer begins with the answer's text, so that the text of the record at a number is the answer's
abbrev pub Texted : Call → Answer → Type 0
Texted c x =
    c.outcome ≡ accepts x
    → (take (length x.text) c.text ≡ x.text)
    × ((n : ℕ) → map (text_of c.text) (viewed c.words (length x.records) n) ≡ map (record_text x) (get_elem? x.records n))

module _ (o : Outcome Answer) (words text : List ℕ) (x : Answer) where
  called_viewed : Viewed (called o words text) x
  unfolding called words_after
  called_viewed e n = rw e (viewed_front x.records words n)

  called_texted : Sane o → Texted (called o words text) x
  unfolding called text_after
  called_texted sane e = (
    rw e (take-append_seam x.text (drop (length x.text) text)),
    λ n. rw (called_viewed e n, e) (text_front x text (get_elem? x.records n) (gapless_within 0 x.records (length x.text) (rw e at sane).0 n)),
  )

-- of descriptors
module _ (look : Naming) (script : List ℕ) (ls : List Literal) (words text : List ℕ) (x : Answer) where
  pub into_viewed : Viewed (read_into look script ls words text) x
  unfolding read_into
  into_viewed = called_viewed (roomed (length words) (length text) (read look script ls)) words text x

  pub into_texted : Texted (read_into look script ls words text) x
  unfolding read_into called
  into_texted = called_texted (roomed (length words) (length text) (read look script ls)) words text x (into_sane look script ls words text)

-- of flat numbers
module _ (look : Naming) (script ns words text : List ℕ) (x : Answer) where
  numbers_by_lem : (P : Call → Answer → Type 0) → P (called (refuses (refusal not_sixes 0 0 0 0)) words text) x
      → ((ls : List Literal) → P (read_into look script ls words text) x) → P (read_numbers look script ns words text) x
  unfolding read_numbers numbers_by
  numbers_by_lem P none_is some_is = go (sixes ns) refl
    where
      go : (o : Option (List Literal)) → sixes ns ≡ o → P (read_numbers look script ns words text) x
      go none e = rw (e, read_numbers, numbers_by) none_is
      go (some ls) e = rw (e, read_numbers, numbers_by) (some_is ls)

  pub numbers_viewed : Viewed (read_numbers look script ns words text) x
  numbers_viewed = numbers_by_lem Viewed (called_viewed (refuses (refusal not_sixes 0 0 0 0)) words text x) (λ ls. into_viewed look script ls words text x)

  pub numbers_texted : Texted (read_numbers look script ns words text) x
  unfolding refusal
  numbers_texted = numbers_by_lem Texted (called_texted (refuses (refusal not_sixes 0 0 0 0)) words text x tt) (λ ls. into_texted look script ls words text x)
