-- THE WORD BEFORE A LITERAL is the longest one; it may stand there exactly if it is none, a keyword, or a number and a keyword; and what a 76 names is there. Assumes nothing.
use mathlib.Core.Path.{◌≡◌, refl, sym, subst, ◌∙◌}
use mathlib.Core.Bool.{true, false, ◌&&◌}
use mathlib.Core.List.{List, [], ◌∷◌}
use Prim.Native.Nat.{ℕ, zero, suc, ◌+◌, ◌-◌, ◌≤◌, ◌<◌}
use Prim.Native.String.{String}
use native.Mathlib.Omega.{arith}
use borrow.Author.Tests.{eqb-true, ltb-true, ltb-false}
use lib.Dec.{ltb}
use lib.ListN.{length}
use lib.Seq.{drop-cons}
use Rattle.definition.specs.Chars.{◌is◌, ascii, byte, part, ◌to◌, inside, same}
use Rattle.definition.specs.Entry.{Literal}
use Rattle.definition_scripts.specs.Opening.{opens, is_space, line_end, is_word}
use Rattle.definition_scripts.specs.IsRun.{Blanks, none, space, comment, Adjacent}
use Rattle.definition_scripts.specs.IsCut.{EachLiteral}
use Rattle.definition_scripts.specs.Keywords.{in_word, word_start, keywords, is_one_of, ends_in_keyword, known, may_stand}
use Rattle.definition_scripts_laws.specs.Complete.{Among, first, next, IsWordTo, Spells, Stands, no_word, after_keyword, after_number, Unknown}
use Rattle.definition.proofs.Moves.CharLaws.{cases, no, either, same_true, same_eq, inside_true, byte_in, first_passes}
use Rattle.definition_laws.proofs.Moves.Cases.{and_both}
use Rattle.definition_scripts_laws.proofs.Literals.OpeningLaws.{word_within, opens_in, below_or_at, opening_shows}
use Rattle.definition_scripts_laws.proofs.Cut.RunInCut.{last_quote}

-- a word is one of some texts exactly if it is spelled as one of them
pub one_spelled : {P : Type 0} (w : List ℕ) (ks : List String) → is_one_of w ks ≡ true → ((k : String) → Among k ks → w ≡ ascii k → P) → P
unfolding is_one_of
one_spelled w [] e f = no e
one_spelled w (k ∷ ks) e f = either (same w (ascii k)) (is_one_of w ks) e (λ t. f k first (same_true w (ascii k) t)) (λ t. one_spelled w ks t (λ j a. f j (next a)))

spelled_one : (w : List ℕ) (k : String) (ks : List String) → Among k ks → w ≡ ascii k → is_one_of w ks ≡ true
unfolding is_one_of
spelled_one w k [] x e = elim x [ ]
spelled_one w k (j ∷ ks) first e = rw (same_eq w (ascii k) e)
spelled_one w k (j ∷ ks) (next a) e = cases (same w (ascii j)) (λ t. rw t) (λ t. rw t (spelled_one w k ks a e))

-- the bytes from i up to j, one by one
pub part_cons : (s : List ℕ) (i j : ℕ) → i < j → i < length s → part s i j ≡ byte s i ∷ part s (suc i) j
part_cons s i j a b = let e : j - i ≡ suc (j - suc i) = omega arith in rw (e, drop-cons s i 256 b) refl

pub part_none : (s : List ℕ) (i j : ℕ) → j ≤ i → part s i j ≡ []
part_none s i j h = let e : j - i ≡ 0 = omega arith in rw e refl

module _ (s : List ℕ) where
  -- a byte of a word is there
  pub word_in : (m : ℕ) → in_word (byte s m) ≡ true → m < length s
  word_in m e =
      either (is_word (byte s m)) (inside (0x80 to 0xFF) (byte s m)) e (λ t. let h = word_within (byte s m) t in byte_in s m (omega arith))
      (λ t. let h = inside_true 0x80 0xFF (byte s m) t in byte_in s m (omega arith))

  -- WHERE IT BEGINS, byte by byte
  pub word_on : (i : ℕ) → in_word (byte s i) ≡ true → word_start s (suc i) ≡ word_start s i
  unfolding word_start
  word_on i e = rw (e, word_start) refl

  pub word_ends : (i : ℕ) → in_word (byte s i) ≡ false → word_start s (suc i) ≡ suc i
  unfolding word_start
  word_ends i e = rw (e, word_start) refl

  pub word_ahead : (i : ℕ) → word_start s i ≤ i
  unfolding word_start
  word_ahead zero = omega arith
  word_ahead (suc i) = cases (in_word (byte s i)) (λ e. omega (arith, word_on i e, word_ahead i)) (λ e. omega (arith, word_ends i e))

  word_bytes : (i m : ℕ) → word_start s i ≤ m → m < i → in_word (byte s m) ≡ true
  word_bytes zero m a b = absurd (omega arith)
  word_bytes (suc i) m a b =
      cases (in_word (byte s i)) (λ e. let k = word_on i e in below_or_at m i b (λ c. word_bytes i m (omega arith) c) (λ c. rw c e)) (λ e. let k = word_ends i e in absurd (omega arith))

  word_all : (i : ℕ) → 1 ≤ word_start s i → in_word (byte s (word_start s i - 1)) ≡ false
  unfolding word_start
  word_all zero h = absurd (omega arith)
  word_all (suc i) h =
      cases (in_word (byte s i)) (λ e. let k = word_on i e in rw k (word_all i (omega arith)))
      (λ e. let k : word_start s (suc i) - 1 ≡ i = omega (arith, word_ends i e) in rw k e)

  pub is_word_lem : (i : ℕ) → word_start s i < i → IsWordTo s i (word_start s i)
  is_word_lem i h = record { some = h; bytes = word_bytes i; all = word_all i }

  -- there is one
  word_once : (i w : ℕ) → IsWordTo s i w → w ≡ word_start s i
  word_once i w p =
      let a = p.some in
      let b = word_ahead i in
      cases (ltb w (word_start s i)) (λ t. let h = ltb-true w (word_start s i) t in no (sym (word_all i (omega arith)) ∙ p.bytes (word_start s i - 1) (omega arith) (omega arith)))
      (λ t. let h = ltb-false w (word_start s i) t in
      cases (ltb (word_start s i) w) (λ u. let k = ltb-true (word_start s i) w u in no (sym (p.all (omega arith)) ∙ word_bytes i (w - 1) (omega arith) (omega arith)))
      (λ u. let k = ltb-false (word_start s i) w u in omega arith))

  -- it ends in the script
  pub word_within_script : (i : ℕ) → word_start s i < i → i ≤ length s
  word_within_script i h = let k = word_in (i - 1) (word_bytes i (i - 1) (omega arith) (omega arith)) in omega arith

  -- WHAT ENDS WITH A KEYWORD
  ends_spelled : {P : Type 0} (n w i : ℕ) → i - w ≤ n → i ≤ length s → ends_in_keyword (part s w i) ≡ true → ((m : ℕ) → w ≤ m → m < i → Spells s i m → P) → P
  unfolding ends_in_keyword
  ends_spelled zero w i h l e f = no (rw (part_none s w i (omega arith)) at e)
  ends_spelled (suc n) w i h l e f =
      cases (ltb w i)
      (λ t.
      let a = ltb-true w i t in
      let p = part_cons s w i a (omega arith) in
      either (is_one_of (byte s w ∷ part s (suc w) i) keywords) (ends_in_keyword (part s (suc w) i)) (rw p at e)
      (λ t. one_spelled (byte s w ∷ part s (suc w) i) keywords t (λ k o q. f w (omega arith) a (record { keyword = k; listed = o; spelled = p ∙ q })))
      (λ t. ends_spelled n (suc w) i (omega arith) l t (λ m b. f m (omega arith))))
      (λ t. no (rw (part_none s w i (ltb-false w i t)) at e))

  spelled_ends : (n w m i : ℕ) → m - w ≤ n → w ≤ m → m < i → i ≤ length s → Spells s i m → ends_in_keyword (part s w i) ≡ true
  unfolding ends_in_keyword
  spelled_ends zero w m i h a b l q =
      let p = part_cons s w i (omega arith) (omega arith) in
      let e : m ≡ w = omega arith in
      rw (p, ends_in_keyword, spelled_one (byte s w ∷ part s (suc w) i) q.keyword keywords q.listed (sym p ∙ rw e at q.spelled))
  spelled_ends (suc n) w m i h a b l q =
      cases (ltb w m)
      (λ t.
      let c = ltb-true w m t in
      let p = part_cons s w i (omega arith) (omega arith) in
      let r = spelled_ends n (suc w) m i (omega arith) c b l q in
      cases (is_one_of (byte s w ∷ part s (suc w) i) keywords) (λ t. rw (p, ends_in_keyword, t)) (λ t. rw (p, ends_in_keyword, t) r))
      (λ t. let c = ltb-false w m t in spelled_ends n w m i (omega arith) a b l q)

  -- WHAT MAY STAND THERE
  pub stands : (i : ℕ) → may_stand s i ≡ true → Stands s i
  unfolding may_stand known
  stands i e = cases (ltb (word_start s i) i) (λ t. some (ltb-true (word_start s i) i t)) (λ t. no_word (before (ltb-false (word_start s i) i t)))
    where
      w : ℕ
      w = word_start s i

      before : i ≤ w → 1 ≤ i → in_word (byte s (i - 1)) ≡ false
      before h k = let a = word_ahead i in let q : w ≡ i = omega arith in subst (λ (x : ℕ). in_word (byte s (x - 1)) ≡ false) q (word_all i (omega arith))

      some : w < i → Stands s i
      some h =
          let l = word_within_script i h in
          let p = part_cons s w i h (omega arith) in
          either (is_one_of (byte s w ∷ part s (suc w) i) keywords) (inside (48 to 57) (byte s w) && ends_in_keyword (part s (suc w) i)) (rw (p, known) at e)
          (λ t. one_spelled (byte s w ∷ part s (suc w) i) keywords t (λ k o q. after_keyword (is_word_lem i h) (record { keyword = k; listed = o; spelled = p ∙ q })))
          (λ t. let b = and_both (inside (48 to 57) (byte s w)) (ends_in_keyword (part s (suc w) i)) t in
          ends_spelled (i - suc w) (suc w) i (omega arith) l b.1 (λ m a c q. after_number (is_word_lem i h) b.0 a c q))

  pub stands_may : (i : ℕ) → Stands s i → may_stand s i ≡ true
  unfolding may_stand known
  stands_may zero (no_word f) = rw (part_none s (word_start s zero) zero (omega arith), known) refl
  stands_may (suc i) (no_word f) =
      let k : suc i - 1 ≡ i = omega arith in
      let e = word_ends i (rw k at (f (omega arith))) in
      rw (part_none s (word_start s (suc i)) (suc i) (omega arith), known) refl
  stands_may i (after_keyword {w} p q) = may (word_once i w p)
    where
      may : w ≡ word_start s i → may_stand s i ≡ true
      may e =
          let h : word_start s i < i = omega (arith, p.some) in
          let l = word_within_script i h in
          let c = part_cons s (word_start s i) i h (omega arith) in
          let o = spelled_one (byte s (word_start s i) ∷ part s (suc (word_start s i)) i) q.keyword keywords q.listed (sym c ∙ rw e at q.spelled) in
          rw (c, known, o)
  stands_may i (after_number {w} {m} p d a b q) = may (word_once i w p)
    where
      may : w ≡ word_start s i → may_stand s i ≡ true
      may e =
          let h : word_start s i < i = omega (arith, p.some) in
          let l = word_within_script i h in
          let v = word_start s i in
          let c = part_cons s v i h (omega arith) in
          let r = spelled_ends (m - suc v) (suc v) m i (omega arith) (omega arith) b l q in
          cases (is_one_of (byte s v ∷ part s (suc v) i) keywords) (λ t. rw (c, known, t)) (λ t. rw (c, known, t, rw e at d, r))

  -- BEFORE A LATER LITERAL OF A RUN stands no word
  abbrev NoWord : ℕ → Type 0
  NoWord i = 1 ≤ i → in_word (byte s (i - 1)) ≡ false

  low_no_word : (c : ℕ) → c < 48 → in_word c ≡ false
  low_no_word c h =
      cases (in_word c)
      (λ e. either (is_word c) (inside (0x80 to 0xFF) c) e (λ t. let k = word_within c t in absurd (omega arith)) (λ t. let k = inside_true 0x80 0xFF c t in absurd (omega arith)))
      (λ e. e)

  blanks_no_word : {i j : ℕ} → Blanks s i j → (opens s i ≤ 6 → NoWord i) → opens s j ≤ 6 → NoWord j
  blanks_no_word none f o = f o
  blanks_no_word {i} (space e b) f o = blanks_no_word b (λ x h. let k : i + 1 - 1 ≡ i = omega arith in rw k (low_no_word (byte s i) (low (byte s i) e))) o
    where
      low : (c : ℕ) → is_space c ≡ true → c < 48
      low c e = either (c is " ") (c is "\t\n") e (λ t. let h = eqb-true c 32 t in omega arith) (λ f. either (c is "\t") (c is "\n") f (λ t. let h = eqb-true c 9 t in omega arith) (λ t. let h = eqb-true c 10 t in omega arith))
  blanks_no_word {i} (comment e b) f o =
      blanks_no_word b (λ x.
      let l = (opening_shows s (line_end s i) (line_end s i) x (omega arith) (omega arith)).least in
      let h = eqb-true (byte s (line_end s i)) 10 (first_passes (λ c. c is "\n") s i (opens_in s (line_end s i) x)) in
      absurd (omega arith)) o

  -- each but the first
  abbrev pub LaterStand : List Literal → Type 0
  LaterStand [] = Unit {0}
  LaterStand (l ∷ ls) = EachLiteral (λ m. may_stand s m.start ≡ true) ls

  pub adjacent_stand : (ls : List Literal) (stop : ℕ) → Adjacent s ls stop → LaterStand ls
  adjacent_stand [] stop p = tt
  adjacent_stand (l ∷ []) stop p = tt
  adjacent_stand (l ∷ m ∷ ls) stop p =
      let q = p.2.0 in
      let o : opens s m.start ≤ 6 = rw q.opened q.known in
      (stands_may m.start (no_word (blanks_no_word p.1.blanks (λ x h. low_no_word (byte s (l.end - 1)) (omega (arith, last_quote s l p.0))) o)), adjacent_stand (m ∷ ls) stop p.2)

  -- WHAT A 76 NAMES
  pub unknown_told : (i : ℕ) → may_stand s i ≡ false → Unknown s i (word_start s i)
  unfolding may_stand known
  unknown_told i e = record { word = is_word_lem i (cases (ltb (word_start s i) i) (λ t. ltb-true (word_start s i) i t) (λ t. no (sym (rw (part_none s (word_start s i) i (ltb-false (word_start s i) i t), known) at e)))); stands_not = λ p. no (sym e ∙ stands_may i p) }
