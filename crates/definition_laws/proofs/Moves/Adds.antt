-- What a text adds to an expression: which brackets are open then, and whether it is blank. Assumes nothing.
use Rattle.std.specs.Prelude.{if◌then◌else◌}
use Prim.Native.Nat.{ℕ, zero, suc, ◌+◌, ◌-◌, ◌≤◌, ◌<◌}
use Prim.Native.Char.{code as code_of}
use Prim.Native.String.{String, [] as []ˢ, ◌∷◌ as ◌∷ˢ◌}
use mathlib.Core.Path.{◌≡◌, refl, sym, ◌∙◌, ap, subst}
use mathlib.Core.Bool.{Bool, true, false, ◌&&◌, and_assoc, false≢true}
use mathlib.Core.List.{List, [], ◌∷◌, ◌++◌, append_assoc, append-nil}
use native.Mathlib.Omega.{arith}
use borrow.Author.Tests.{ltb-true, ltb-false, eqb-true, eqb-false, ne_eqb}
use lib.Dec.{ltb, eqb}
use lib.ListN.{length, take, drop, length-drop, length-append, get_or-append}
use lib.Seq.{drop-cons, length-take-le, get_or-take, get_or-drop, drop-append_seam, take-add, drop-drop}
use Rattle.definition.specs.Chars.{◌is◌, byte, part, inside_any, code, next, char, white_space, before}
use Rattle.definition.specs.Body.{is_blank, matching}
use Rattle.definition.specs.Matched.{Seen, clear, quoted, broken, closed, see, see_all, settled, matched, blank_after, blank}
use Rattle.definition_laws.specs.IsMatched.{Calm}
use Rattle.definition.proofs.Moves.CharLaws.{cases, byte_in, next_past, next_in, next_from, between, code_wide, next_ascii, code_ascii, code_is, Utf8, code_same, next_same}

-- a text with the brackets o open before it and o' after it
abbrev pub Sees : (o t o' : List ℕ) → Type 0
Sees o t o' = see_all (clear o) t ≡ clear o'

-- and with whether it is blank, x, whatever follows
pub record Adds (o o' : List ℕ) (x : Bool) (t : List ℕ) : Type 0 where
  pub sees : Sees o t o'
  pub blanks : (u : List ℕ) → blank (t ++ u) ≡ (x && blank u)

pub sees_none : (o : List ℕ) → Sees o [] o
unfolding see_all
sees_none o = refl

pub adds_none : Adds [] [] true []
adds_none = record { sees = sees_none []; blanks = λ u. refl }

see_append : (x : Seen) (s t : List ℕ) → see_all x (s ++ t) ≡ see_all (see_all x s) t
unfolding see_all
see_append x [] t = refl
see_append x (b ∷ s) t = see_append (see x b) s t

-- one after the other
pub sees_both : {o' o'' : List ℕ} (o t t' : List ℕ) → Sees o t o' → Sees o' t' o'' → Sees o (t ++ t') o''
sees_both o t t' a b = see_append (clear o) t t' ∙ ap (λ z. see_all z t') a ∙ b

pub adds_both : {o o' o'' : List ℕ} {x y : Bool} {t t' : List ℕ} → Adds o o' x t → Adds o' o'' y t' → Adds o o'' (x && y) (t ++ t')
adds_both {o} {o'} {o''} {x} {y} {t} {t'} a b = record {
  sees = sees_both o t t' a.sees b.sees;
  blanks = λ u. ap blank (append_assoc t t' u) ∙ a.blanks (t' ++ u) ∙ ap (λ z. x && z) (b.blanks u) ∙ sym (and_assoc x y (blank u));
}

-- an expression that has ended is matched, and is blank or not
pub adds_matched : {x : Bool} {e : List ℕ} → Adds [] [] x e → matched e ≡ true
unfolding matched settled
adds_matched a = rw a.sees refl

pub adds_blank : {o : List ℕ} {x : Bool} {e : List ℕ} → Adds [] o x e → x ≡ false → blank e ≡ false
unfolding blank_after
adds_blank {e = e} a h = ap blank (sym (append-nil e)) ∙ a.blanks [] ∙ rw h refl

-- AN ASCII CHARACTER
adds_byte : {o o' : List ℕ} (c : ℕ) → c < 0x80 → see (clear o) c ≡ clear o' → Adds o o' (is_blank c) (c ∷ [])
unfolding see_all blank_after
adds_byte c h e = record { sees = e; blanks = λ u. rw (code_ascii (c ∷ u) 0 h, next_ascii (c ∷ u) 0 h) refl }

-- what holds of each character of a text holds of a code that is one of them
abbrev pub OfEach : (ℕ → Type 0) → String → Type 0
OfEach P []ˢ = Unit {0}
OfEach P (a ∷ˢ s) = P (code_of a) × OfEach P s

pub one_of_lem : (P : ℕ → Type 0) (s : String) (c : ℕ) → OfEach P s → (c is s) ≡ true → P c
one_of_lem P []ˢ c h e = absurd (false≢true e)
one_of_lem P (a ∷ˢ []ˢ) c h e = subst P (sym (eqb-true c (code_of a) e)) h.0
one_of_lem P (a ∷ˢ b ∷ˢ s) c h e =
    cases (eqb c (code_of a)) (λ t. subst P (sym (eqb-true c (code_of a) t)) h.0) (λ t. one_of_lem P (b ∷ˢ s) c h.1 (rw t at e))

-- a mark: one ASCII byte that is not blank
abbrev pub Mark : (o o' : List ℕ) → ℕ → Type 0
Mark o o' c = (c < 0x80) × Adds o o' false (c ∷ [])

mark : {o o' : List ℕ} (c : ℕ) → c < 0x80 → is_blank c ≡ false → see (clear o) c ≡ clear o' → Mark o o' c
mark c h b e = (h, rw b at (adds_byte c h e))

-- an opening bracket, a closing one of its kind, and the first of a pair
pub mark_opener : {o : List ℕ} (c : ℕ) → (c is "([{") ≡ true → Mark o (c ∷ o) c
unfolding see inside_any white_space
mark_opener {o} c = one_of_lem (λ c. Mark o (c ∷ o) c) "([{" c (mark 40 (omega arith) refl refl, (mark 91 (omega arith) refl refl, (mark 123 (omega arith) refl refl, tt)))

pub mark_closer : {a : ℕ} {o : List ℕ} (c : ℕ) → (c is ")]}") ≡ true → matching a c ≡ true → Mark (a ∷ o) o c
unfolding see closed inside_any white_space
mark_closer {a} {o} c =
    one_of_lem (λ c. matching a c ≡ true → Mark (a ∷ o) o c) ")]}" c
    ((λ m. mark 41 (omega arith) refl (same m)), ((λ m. mark 93 (omega arith) refl (same m)), ((λ m. mark 125 (omega arith) refl (same m)), tt)))
  where
    same : {x : Bool} → x ≡ true → (if x then clear o else broken) ≡ clear o
    same e = rw e refl

pub closer_ascii : (c : ℕ) → (c is ")]}") ≡ true → c < 0x80
closer_ascii c = one_of_lem (λ c. c < 0x80) ")]}" c (omega arith, (omega arith, (omega arith, tt)))

mark_pair : {o : List ℕ} (c : ℕ) → (c is "!=><") ≡ true → Mark o o c
unfolding see inside_any white_space
mark_pair {o} c =
    one_of_lem (Mark o o) "!=><" c
    (mark 33 (omega arith) refl refl, (mark 61 (omega arith) refl refl, (mark 62 (omega arith) refl refl, (mark 60 (omega arith) refl refl, tt))))

-- A CHARACTER of well-formed text that is no mark
skip : (n : ℕ) (t : List ℕ) → blank_after n t ≡ blank (drop n t)
unfolding blank_after
skip zero t = refl
skip (suc n) [] = refl
skip (suc n) (b ∷ t) = skip n t

-- blank text by its first character
pub blank_first : (t : List ℕ) → 0 < length t → blank t ≡ (is_blank (code t 0) && blank (drop (next t 0) t))
unfolding blank_after
blank_first [] h = absurd (omega arith)
blank_first (b ∷ t) h =
    let e : next (b ∷ t) 0 ≡ suc (next (b ∷ t) 0 - 1) = omega (arith, next_past (b ∷ t) 0 h) in
    ap (λ z. is_blank (code (b ∷ t) 0) && z) (skip (next (b ∷ t) 0 - 1) t ∙ ap (λ n. blank (drop n (b ∷ t))) (sym e))

-- bytes that change nothing
calm_all : (o t : List ℕ) → ((k : ℕ) → k < length t → Calm (byte t k)) → see_all (clear o) t ≡ clear o
unfolding see_all see
calm_all o [] h = refl
calm_all o (b ∷ t) h = let c = h 0 (omega arith) in rw (c.0, c.1, c.2, c.3) (calm_all o t (λ k l. h (suc k) (omega arith)))

pub high_calm : (b : ℕ) → 0x80 ≤ b → Calm b
high_calm b h = (
  rw (ne_eqb b 34 (omega arith), ne_eqb b 39 (omega arith)) refl,
  rw (ne_eqb b 40 (omega arith), ne_eqb b 91 (omega arith), ne_eqb b 123 (omega arith)) refl,
  rw (ne_eqb b 41 (omega arith), ne_eqb b 93 (omega arith), ne_eqb b 125 (omega arith)) refl,
  ne_eqb b 92 (omega arith),
)

module _ (s : List ℕ) (i : ℕ) (l : i < length s) where
  pub char_length : length (char s i) ≡ next s i - i
  unfolding char
  char_length = length-take-le (next s i - i) (drop i s) (omega (arith, length-drop i s, next_in s i (omega arith)))

  char_byte : (k n : ℕ) → k ≡ i + n → k < next s i → byte (char s i) n ≡ byte s k
  unfolding char
  char_byte k n e h = get_or-take (next s i - i) (drop i s) n 256 (omega arith) ∙ get_or-drop i s n 256 ∙ ap (byte s) (sym e)

  -- a calm code has a calm first byte, and the others are above ASCII
  calm_byte : (k : ℕ) → Calm (code s i) → i ≤ k → k < next s i → Calm (byte s k)
  calm_byte k h p q =
      cases (eqb k i)
      (λ e.
      rw (eqb-true k i e) (
        rw (code_is s i 34 (omega arith), code_is s i 39 (omega arith)) at h.0,
        rw (code_is s i 40 (omega arith), code_is s i 91 (omega arith), code_is s i 123 (omega arith)) at h.1,
        rw (code_is s i 41 (omega arith), code_is s i 93 (omega arith), code_is s i 125 (omega arith)) at h.2,
        sym (code_is s i 92 (omega arith)) ∙ h.3,
      ))
      (λ e. let n = eqb-false k i e in high_calm (byte s k) (between s i k (omega arith) q).0)

  pub sees_char : Calm (code s i) → (o : List ℕ) → Sees o (char s i) o
  sees_char h o =
      calm_all o (char s i) (λ k m. rw (char_byte (i + k) k refl (omega (arith, char_length))) (calm_byte (i + k) h (omega arith) (omega (arith, char_length))))

  pub adds_char : Utf8 s → Calm (code s i) → (o : List ℕ) → Adds o o (is_blank (code s i)) (char s i)
  adds_char utf8 h o = record {
    sees = sees_char h o;
    blanks = λ u. blanked u;
  }
    where
      blanked : (u : List ℕ) → blank (char s i ++ u) ≡ (is_blank (code s i) && blank u)
      blanked u =
          let t = char s i ++ u in
          let p : 0 < length t = omega (arith, char_length, next_past s i l, length-append (char s i) u) in
          let same : (k n : ℕ) → k ≡ i + n → k < next s i → byte s k ≡ byte t n = λ k n e q. sym (get_or-append (char s i) u 256 n (omega (arith, char_length)) ∙ char_byte k n e q) in
          let e : next t 0 ≡ length (char s i) = omega (arith, char_length, next_same s t i l utf8 same p) in
          blank_first t p ∙ rw (e, ← code_same s t i l utf8 same p, drop-append_seam (char s i) u) refl

-- A MARK is a whole character
module _ (s : List ℕ) (i : ℕ) where
  pub ascii_in : code s i < 0x80 → byte s i < 0x80
  ascii_in h = cases (ltb (byte s i) 0x80) (λ e. ltb-true _ _ e) (λ e. let w = code_wide s i (ltb-false _ _ e) in absurd (omega arith))

  pub adds_mark : {o o' : List ℕ} → Mark o o' (code s i) → Adds o o' false (char s i)
  unfolding char
  adds_mark a =
      let b = ascii_in a.0 in
      let e : i + 1 - i ≡ 1 = omega arith in
      rw (next_ascii s i b, e, drop-cons s i 256 (byte_in s i (omega arith)), ← code_ascii s i b) a.1

-- one of the four pairs
pub part_split : (s : List ℕ) (i j k : ℕ) → i ≤ j → j ≤ k → part s i k ≡ part s i j ++ part s j k
part_split s i j k h l =
    let e : k - i ≡ (j - i) + (k - j) = omega arith in
    let f : i + (j - i) ≡ j = omega arith in
    rw (e, take-add (j - i) (k - j) (drop i s), drop-drop (j - i) i s, f) refl

pub adds_pair : (s : List ℕ) (i : ℕ) → (code s i is "!=><") ≡ true → code s (next s i) ≡ 61 → (o : List ℕ) → Adds o o false (part s i (next s (next s i)))
unfolding char
adds_pair s i p q o =
    rw (part_split s i (next s i) (next s (next s i)) (next_from s i) (next_from s (next s i)))
    (adds_both (adds_mark s i (mark_pair (code s i) p)) (adds_mark s (next s i) (mark_pair (code s (next s i)) (rw q refl))))

-- A QUOTED RUN, up to and with its quote
run_see : (q : ℕ) (o t : List ℕ) → before (λ b. eqb b q) t < length t → see_all (quoted q o) (take (suc (before (λ b. eqb b q) t)) t) ≡ clear o
unfolding before see_all see
run_see q o [] h = absurd (omega arith)
run_see q o (b ∷ t) h =
    cases (eqb b q) (λ e. rw (e, before) (rw e refl))
    (λ e. rw (e, before) (rw e (run_see q o t (let h' = rw (e, before) at h in omega arith))))

pub quote_see : {o : List ℕ} (c : ℕ) → (c is "\"'") ≡ true → (c < 0x80) × (see (clear o) c ≡ quoted c o) × (is_blank c ≡ false)
unfolding see inside_any white_space
quote_see {o} c =
    one_of_lem (λ c. (c < 0x80) × (see (clear o) c ≡ quoted c o) × (is_blank c ≡ false)) "\"'" c
    ((omega arith, refl, refl), ((omega arith, refl, refl), tt))

-- the quote c, a run t up to its end n, and that quote
quoted_run : {o : List ℕ} (c : ℕ) (t : List ℕ) → (c is "\"'") ≡ true → before (λ b. eqb b c) t < length t → Adds o o false (c ∷ take (suc (before (λ b. eqb b c) t)) t)
unfolding see_all blank_after
quoted_run {o} c t p h =
    let q = quote_see {o = o} c p in
    let r = take (suc (before (λ b. eqb b c) t)) t in
    record { sees = ap (λ x. see_all x r) q.1 ∙ run_see c o t h; blanks = λ u. rw (code_ascii (c ∷ r ++ u) 0 q.0, q.2) refl }

module _ (s : List ℕ) (i : ℕ) where
  abbrev pub closing : ℕ
  closing = next s i + before (λ b. eqb b (code s i)) (drop (next s i) s)

  pub adds_quoted : (code s i is "\"'") ≡ true → closing < length s → (o : List ℕ) → Adds o o false (part s i (closing + 1))
  adds_quoted p h o =
      let b = ascii_in s i (quote_see {o = o} (code s i) p).0 in
      let n = before (λ b. eqb b (code s i)) (drop (next s i) s) in
      let e : next s i ≡ suc i = next_ascii s i b ∙ omega arith in
      let m : closing + 1 - i ≡ suc (suc n) = omega arith in
      let d : drop i s ≡ code s i ∷ drop (next s i) s = drop-cons s i 256 (omega arith) ∙ rw (code_ascii s i b, e) refl in
      rw (m, d) (quoted_run (code s i) (drop (next s i) s) p (omega (arith, length-drop (next s i) s)))
