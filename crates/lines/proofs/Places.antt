-- Lines of records that lie in words are the lines of the records, and their lengths. Assumes nothing.
use mathlib.Core.Path.{◌≡◌, refl, sym, ◌∙◌, ap, ap₂}
use mathlib.Core.Bool.{Bool, true, false}
use mathlib.Core.List.{List, [], ◌∷◌, ◌++◌, append_assoc, append-nil}
use Prim.Native.Nat.{ℕ, zero, suc, ◌+◌, ◌-◌, ◌*◌, ◌≤◌, ◌<◌, min}
use native.Mathlib.Numerals.{add-one}
use native.Mathlib.Omega.{arith}
use borrow.Rule.Slice.PartMut.{put_mid, mid_of}
use borrow.Author.Tests.{eqb-true, eqb-false}
use lib.Dec.{eqb}
use lib.ListN.{length, get_or, length-append}
use lib.Seq.{get_or-append-add}
use Rattle.definition.specs.Chars.{part}
use Rattle.definition.specs.Records.{Record, words_of}
use Rattle.definition.specs.Reading.{all_words}
use Rattle.definition_laws.proofs.Moves.Moves.{part_short}
use Rattle.definition_laws.proofs.Outcomes.Outcomes.{Gapless, sizes, gapless_sum}
use Rattle.definition_lines.specs.Lines.{line_of, record_line, record_lines}
use Rattle.buffers.proofs.Over.{over_tail}
use Rattle.objects.specs.Written.{Adds, Fits, Puts, of_text}
use Rattle.objects.proofs.Short.{Small, line_short, short_text}
use Rattle.lines.specs.Written.{place_line, place_lines}

-- LINES from the front of a buffer on, and of its part behind the used length
pub all_front : {xs b b' : List ℕ} {r : ℕ} → Puts xs b b' r → Adds xs b 0 b' r
all_front p = let n = p.0 in record { wrote = p.1; up = omega arith }

pub tail_adds : (b : List ℕ) (u q : ℕ) (xs : List ℕ) {last : List ℕ} {n : ℕ} → q ≡ min u (length b) → Puts xs (mid_of q (length b - q) b) last n → Adds xs b u (put_mid q (length b - q) b last) (u + n)
tail_adds b u q xs e p = record { wrote = over_tail b u q xs e p.1; up = ap (λ m. u + m) p.0 }

-- a record's line
pub place_put : (W text : List ℕ) (i : ℕ) (b : List ℕ) (u q : ℕ) {last : List ℕ} {n : ℕ} → get_or W (i * 8 + 2) 0 ≤ 0xFFFFFFFF → q ≡ min u (length b)
    → let t = part text (get_or W (i * 8 + 1) 0) (get_or W (i * 8 + 1) 0 + get_or W (i * 8 + 2) 0) in
    Puts (of_text t (line_of (get_or W (i * 8) 0) t (get_or W (i * 8 + 5) 0) (get_or W (i * 8 + 6) 0) (get_or W (i * 8 + 7) 0))) (mid_of q (length b - q) b) last n
    → Adds (place_line W text i) b u (put_mid q (length b - q) b last) (u + n)
unfolding place_line
place_put W text i b u q h e p =
    let l = part_short text (get_or W (i * 8 + 1) 0) (get_or W (i * 8 + 1) 0 + get_or W (i * 8 + 2) 0) in
    tail_adds b u q _ e (rw (short_text (part text (get_or W (i * 8 + 1) 0) (get_or W (i * 8 + 1) 0 + get_or W (i * 8 + 2) 0)) _ (omega arith)) at p)

-- a word behind a record's eight
behind : (r : Record) (W : List ℕ) (j k : ℕ) → j ≡ 8 + k → get_or (words_of r ++ W) j 0 ≡ get_or W k 0
unfolding words_of
behind r W j k e = ap (λ n. get_or (words_of r ++ W) n 0) e ∙ get_or-append-add (words_of r) W k 0

-- the first place, and those behind it
module _ (r : Record) (W text : List ℕ) where
  first_place : place_line (words_of r ++ W) text 0 ≡ record_line text r
  unfolding place_line record_line words_of
  first_place = refl

  later_place : (i : ℕ) → place_line (words_of r ++ W) text (suc i) ≡ place_line W text i
  unfolding place_line
  later_place i =
      rw (word (suc i * 8) (i * 8) (omega arith), word (suc i * 8 + 1) (i * 8 + 1) (omega arith), word (suc i * 8 + 2) (i * 8 + 2) (omega arith), word (suc i * 8 + 5) (i * 8 + 5) (omega arith), word (suc i * 8 + 6) (i * 8 + 6) (omega arith), word (suc i * 8 + 7) (i * 8 + 7) (omega arith))
    where
      word : (j k : ℕ) → j ≡ 8 + k → get_or (words_of r ++ W) j 0 ≡ get_or W k 0
      word = behind r W

  more_places : (n : ℕ) → place_lines (words_of r ++ W) text (suc n) ≡ record_line text r ++ place_lines W text n
  unfolding place_lines
  more_places zero = first_place ∙ sym (append-nil (record_line text r))
  more_places (suc n) = ap₂ ◌++◌ (more_places n) (later_place n) ∙ append_assoc (record_line text r) (place_lines W text n) (place_line W text n)

-- words that begin with those of records
pub all_places : (rs : List Record) (rest text : List ℕ) → place_lines (all_words rs ++ rest) text (length rs) ≡ record_lines text rs
unfolding place_lines record_lines all_words
all_places [] rest text = refl
all_places (r ∷ rs) rest text =
    ap (λ l. place_lines l text (suc (length rs))) (append_assoc (words_of r) (all_words rs) rest)
    ∙ more_places r (all_words rs ++ rest) text (length rs)
    ∙ ap (λ l. record_line text r ++ l) (all_places rs rest text)

-- records whose texts lie within n bytes, and so in words that begin with theirs
abbrev pub Inside : ℕ → List Record → Type 0
Inside n [] = Unit {0}
Inside n (r ∷ rs) = (r.offset + r.size ≤ n) × Inside n rs

-- texts that lie in order, without gaps, up to n
pub gapless_inside : (m : ℕ) (rs : List Record) (n : ℕ) → Gapless m rs n → Inside n rs
gapless_inside m [] n h = tt
gapless_inside m (r ∷ rs) n h = (omega (arith, h.0, gapless_sum (m + r.size) rs n h.1), gapless_inside (m + r.size) rs n h.1)

pub places_inside : (n : ℕ) (rs : List Record) (rest : List ℕ) → Inside n rs → (i : ℕ) → i < length rs
    → get_or (all_words rs ++ rest) (i * 8 + 1) 0 + get_or (all_words rs ++ rest) (i * 8 + 2) 0 ≤ n
unfolding all_words words_of
places_inside n [] rest p i h = absurd (omega arith)
places_inside n (r ∷ rs) rest p zero h = p.0
places_inside n (r ∷ rs) rest p (suc i) h =
    rw (behind r W (suc i * 8 + 1) (i * 8 + 1) (omega arith), behind r W (suc i * 8 + 2) (i * 8 + 2) (omega arith))
    (places_inside n rs rest p.1 i (omega arith))
  where
    W : List ℕ
    W = all_words rs ++ rest

-- the lines of fewer places are no longer
fewer_places : (W text : List ℕ) (i n : ℕ) → i ≤ n → length (place_lines W text i) ≤ length (place_lines W text n)
unfolding place_lines
fewer_places W text i zero h = let e : i ≡ 0 = omega arith in rw e (omega arith)
fewer_places W text i (suc n) h = go (eqb i (suc n)) refl (fewer_places W text i n)
  where
    go : (t : Bool) → eqb i (suc n) ≡ t → (i ≤ n → length (place_lines W text i) ≤ length (place_lines W text n)) → length (place_lines W text i) ≤ length (place_lines W text (suc n))
    go true e p = rw (eqb-true i (suc n) e) (omega arith)
    go false e p = omega (arith, length-append (place_lines W text n) (place_line W text n), eqb-false i (suc n) e, p (let ne = eqb-false i (suc n) e in omega arith))

-- a line that is still to come fits where all lines do
pub place_fits : (W text : List ℕ) (n i : ℕ) {b b' : List ℕ} {u : ℕ} → Fits 0 (place_lines W text n) → i < n → Adds (place_lines W text i) b 0 b' u → Fits u (place_line W text i)
unfolding place_lines
place_fits W text n i f h p =
    omega (arith, p.up, fewer_places W text (suc i) n (omega arith), length-append (place_lines W text i) (place_line W text i))

pub one_more_lem : (W text : List ℕ) (i : ℕ) → place_lines W text (i + 1) ≡ place_lines W text i ++ place_line W text i
unfolding place_lines
one_more_lem W text i = rw (add-one i)

pub lines_short : (text : List ℕ) (rs : List Record) (rest : List ℕ) → ((i : ℕ) → Small (get_or (all_words rs ++ rest) i 0)) → length (record_lines text rs) ≤ 70 * length rs + 6 * sizes rs
unfolding record_lines record_line all_words words_of
lines_short text [] rest h = omega arith
lines_short text (r ∷ rs) rest h =
    let p = part text r.offset (r.offset + r.size) in
    omega (
      arith,
      length-append (record_line text r) (record_lines text rs),
      line_short r.kind p r.mode r.parts r.place (h 5) (h 6) (h 7),
      part_short text r.offset (r.offset + r.size),
      lines_short text rs rest (λ i. h (suc (suc (suc (suc (suc (suc (suc (suc i))))))))),
    )
