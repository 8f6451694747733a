-- An escape that ends in a window is the same escape in both texts. Assumes nothing.
use mathlib.Core.Path.{◌≡◌, refl, sym, ◌∙◌, ap, subst}
use mathlib.Core.Bool.{Bool, true, false, not}
use mathlib.Core.List.{List}
use Prim.Native.Nat.{ℕ, zero, suc, ◌+◌, ◌*◌, ◌≤◌, ◌<◌}
use native.Mathlib.Omega.{arith}
use borrow.Author.Tests.{ltb-true, ltb-false, leb-true, leb-false, le-leb, lt-leb}
use lib.Dec.{ltb, leb, eqb}
use lib.ListN.{length, drop}
use Rattle.definition.specs.Chars.{◌is◌, byte, part, at_end, no_code, inside, ◌to◌, code, next, before}
use Rattle.definition.specs.Escapes.{Naming, Fault, fault, Read, got, refused, Meaning, stands, stays, vanishes, octal_digit, octal_from, hex_digit, scalar, hex_from, named, unicode_name, EscapeCase, ended, simple, octal, hex, name, newline, foreign, other, escape_case, escape, meant}
use Rattle.definition.proofs.Moves.CharLaws.{cases, inside_not, next_past, next_from, next_in, code_wide, code_end, code_ascii}
use Rattle.definition_laws.proofs.Moves.Moves.{Sound, octal_sound, hex_sound, named_sound}
use Rattle.definition_cuts_laws.proofs.Windows.Window.{Window, At, not_end, not_end', byte_like, is_like, next_like, code_like, part_like, before_like}

-- a reading that was refused gives nothing
pub not_got : {A : Type 0} {P : Type 0} (x : Fault) (v : A) (j : ℕ) → ◌≡◌ {A = Read A} (refused x) (got v j) → P
not_got x v j e = let z : ◌≡◌ {A = ℕ} 0 1 = cc in absurd (omega arith)

-- what was got from i on ends at i or later
pub got_later : {A : Type 0} (s : List ℕ) (i : ℕ) (r : Read A) (v : A) (j : ℕ) → Sound s i r → r ≡ got v j → i ≤ j
got_later {A} s i r v j h e = (subst (λ (x : Read A). Sound s i x) e h).0

pub got_within : {A : Type 0} (s : List ℕ) (i : ℕ) (r : Read A) (v : A) (j : ℕ) → Sound s i r → r ≡ got v j → j ≤ length s
got_within {A} s i r v j h e = (subst (λ (x : Read A). Sound s i x) e h).1

-- an escape that is read takes a character
pub escape_past : (look : Naming) (kind : ℕ) (s : List ℕ) (p : ℕ) (m : Meaning) (j : ℕ) → p ≤ length s → escape look kind s p ≡ got m j → next s p ≤ j
unfolding escape unicode_name named
escape_past look kind s p m j l e = go (escape_case kind s p) refl
  where
    a : ℕ
    a = next s p

    k : a ≤ length s
    k = next_in s p l

    there : (c : ℕ) → got (stands c) a ≡ got m j → a ≤ j
    there c e = let z : a ≡ j = cc in omega arith

    go : (x : EscapeCase) → escape_case kind s p ≡ x → next s p ≤ j
    go ended q = not_got _ m j (rw (q, escape) at e)
    go (simple c) q = let f : got (stands c) a ≡ got m j = rw (q, escape) at e in let z : a ≡ j = cc in omega arith
    go octal q = got_later s a (octal_from 2 (octal_digit (code s p)) s a) m j (octal_sound 2 (octal_digit (code s p)) s a k) (rw (q, escape) at e)
    go (hex n) q = got_later s a (hex_from n 0 s a a) m j (hex_sound n 0 s a a k k) (rw (q, escape) at e)
    go name q = named_past (rw (q, escape) at e)
      where
        i : ℕ
        i = next s a

        n : ℕ
        n = before (λ b. b is "}") (drop i s)

        named_past : unicode_name look s a ≡ got m j → a ≤ j
        named_past f =
            cases (not (code s a is "{")) (λ t. not_got _ m j (rw (t, unicode_name) at f))
            (λ t. cases (at_end s (i + n)) (λ u. not_got _ m j (rw (t, u, unicode_name) at f))
            (λ u. let v = got_later s i (named look s i n) m j (named_sound look s i n (leb-false (length s) (i + n) u)) (rw (t, u, unicode_name) at f) in omega (arith, next_from s a)))
    go newline q = let f : got vanishes a ≡ got m j = rw (q, escape) at e in let z : a ≡ j = cc in omega arith
    go foreign q = not_got _ m j (rw (q, escape) at e)
    go other q = let f : got stays a ≡ got m j = rw (q, escape) at e in let z : a ≡ j = cc in omega arith

module _ (s s' : List ℕ) (a b low top : ℕ) (W : Window s s' a b low top) where
  -- a reading that gives v and ends at the same place as j
  abbrev pub Lands : {A : Type 0} → Read A → A → ℕ → Type 0
  Lands r v j = (j' : ℕ) × (r ≡ got v j') × (j + a ≡ j' + b)

  -- a digit's value: 'no digit' for every code above ASCII
  pub digit_like : (f : ℕ → ℕ) (n p p' : ℕ) → ((c : ℕ) → 0x80 ≤ c → f c ≡ n) → At s s' a b low top W p p' → p < top → f (code s p) ≡ f (code s' p')
  digit_like f n p p' high m h =
      let q = byte_like s s' a b low top W p p' m h in
      cases (ltb (byte s p) 0x80)
      (λ e. let l = ltb-true (byte s p) 0x80 e in ap f (code_ascii s p l ∙ q ∙ sym (code_ascii s' p' (omega arith))))
      (λ e. let l = ltb-false (byte s p) 0x80 e in high (code s p) (code_wide s p l) ∙ sym (high (code s' p') (code_wide s' p' (omega arith))))

  pub octal_high : (c : ℕ) → 0x80 ≤ c → octal_digit c ≡ 8
  unfolding octal_digit
  octal_high c h = rw (inside_not 48 55 c (λ p q. omega arith)) refl

  hex_high : (c : ℕ) → 0x80 ≤ c → hex_digit c ≡ 16
  unfolding hex_digit
  hex_high c h = rw (inside_not 48 57 c (λ p q. omega arith), inside_not 65 70 c (λ p q. omega arith), inside_not 97 102 c (λ p q. omega arith)) refl

  -- where s has no octal digit at j, s' has none
  abbrev pub Edge : ℕ → Type 0
  Edge j = (p p' : ℕ) → At s s' a b low top W p p' → p ≡ j → ltb (octal_digit (code s p)) 8 ≡ false → ltb (octal_digit (code s' p')) 8 ≡ false

  -- so before the window's end, and at it if s' ends there
  pub edge_in : (j : ℕ) → j < top → Edge j
  edge_in j h p p' t e x = ap (λ c. ltb c 8) (sym (digit_like octal_digit 8 p p' octal_high t (omega arith))) ∙ x

  pub edge_end : (j : ℕ) → j ≤ top → length s' + b ≡ top + a → Edge j
  edge_end j h l p p' t e x =
      cases (ltb p top) (λ u. edge_in j (omega (arith, ltb-true p top u)) p p' t e x)
      (λ u. ended (code_end s' p' (omega (arith, ltb-false p top u, t.0))))
    where
      ended : code s' p' ≡ no_code → ltb (octal_digit (code s' p')) 8 ≡ false
      ended c = rw (octal_high (code s' p') (omega arith)) refl

  pub octal_digit_in : (p : ℕ) → p ≤ length s → octal_digit (code s p) < 8 → p < length s
  octal_digit_in p l h =
      cases (leb (length s) p) (λ u. let c = code_end s p (leb-true (length s) p u) in let d = octal_high (code s p) (omega arith) in absurd (omega arith))
      (λ u. leb-false (length s) p u)

  octal_like : (n v p p' : ℕ) (m : Meaning) (j : ℕ) → At s s' a b low top W p p' → p ≤ top → octal_from n v s p ≡ got m j → j ≤ top → Edge j → Lands (octal_from n v s' p') m j
  unfolding octal_from
  octal_like zero v p p' m j t l e h edge = let z : stands v ≡ m = cc in let y : p ≡ j = cc in (p', ap (λ x. got x p') z, omega (arith, t.0))
  octal_like (suc n) v p p' m j t l e h edge = go (λ v p p' t l e. octal_like n v p p' m j t l e h edge) (ltb (octal_digit (code s p)) 8) refl
    where
      v' : ℕ
      v' = v * 8 + octal_digit (code s p)

      go : ((v p p' : ℕ) → At s s' a b low top W p p' → p ≤ top → octal_from n v s p ≡ got m j → Lands (octal_from n v s' p') m j)
          → (x : Bool) → ltb (octal_digit (code s p)) 8 ≡ x → Lands (octal_from (suc n) v s' p') m j
      go ih true x =
          let e' : octal_from n v' s (next s p) ≡ got m j = rw (x, octal_from) at e in
          let w = W.within in
          let k' = got_later s (next s p) (octal_from n v' s (next s p)) m j (octal_sound n v' s (next s p) (next_in s p (omega arith))) e' in
          let u = next_past s p (octal_digit_in p (omega arith) (ltb-true (octal_digit (code s p)) 8 x)) in
          let d = digit_like octal_digit 8 p p' octal_high t (omega arith) in
          rw (ap (λ c. ltb c 8) (sym d) ∙ x, octal_from) (subst (λ (c : ℕ). Lands (octal_from n (v * 8 + c) s' (next s' p')) m j) d (ih v' (next s p) (next s' p') (next_like s s' a b low top W p p' t (omega arith) (omega arith)) (omega arith) e'))
      go ih false x =
          let e' : got (stands v) p ≡ got m j = rw (x, octal_from) at e in
          let z : stands v ≡ m = cc in
          let y : p ≡ j = cc in
          rw (edge p p' t y x, octal_from) (p', ap (λ x. got x p') z, omega (arith, t.0))

  scalar_like : (v i i' letter letter' : ℕ) (m : Meaning) (j : ℕ) → i + a ≡ i' + b → scalar v i letter ≡ got m j → Lands (scalar v i' letter') m j
  unfolding scalar
  scalar_like v i i' letter letter' m j t e =
      cases (inside (0xD800 to 0xDFFF) v)
      (λ x.
      let e' : got (stands 0xFFFD) i ≡ got m j = rw x at e in
      let z : stands 0xFFFD ≡ m = cc in
      let y : i ≡ j = cc in
      rw x (i', ap (λ x. got x i') z, omega arith))
      (λ x.
      cases (leb v 0x10FFFF)
      (λ u.
      let e' : got (stands v) i ≡ got m j = rw (x, u) at e in
      let z : stands v ≡ m = cc in
      let y : i ≡ j = cc in
      rw (x, u) (i', ap (λ x. got x i') z, omega arith))
      (λ u. not_got (fault 11 letter) m j (rw (x, u) at e)))

  hex_like : (n v p p' letter letter' : ℕ) (m : Meaning) (j : ℕ) → At s s' a b low top W p p' → p ≤ top → letter ≤ top → hex_from n v s p letter ≡ got m j → j ≤ top → Lands (hex_from n v s' p' letter') m j
  unfolding hex_from
  hex_like zero v p p' letter letter' m j t l g e h = scalar_like v p p' letter letter' m j t.0 e
  hex_like (suc n) v p p' letter letter' m j t l g e h = go (λ v p p' t l e. hex_like n v p p' letter letter' m j t l g e h) (ltb (hex_digit (code s p)) 16) refl
    where
      v' : ℕ
      v' = v * 16 + hex_digit (code s p)

      go : ((v p p' : ℕ) → At s s' a b low top W p p' → p ≤ top → hex_from n v s p letter ≡ got m j → Lands (hex_from n v s' p' letter') m j)
          → (x : Bool) → ltb (hex_digit (code s p)) 16 ≡ x → Lands (hex_from (suc n) v s' p' letter') m j
      go ih true x =
          let e' : hex_from n v' s (next s p) letter ≡ got m j = rw (x, hex_from) at e in
          let in' = W.within in
          let k' = got_later s (next s p) (hex_from n v' s (next s p) letter) m j (hex_sound n v' s (next s p) letter (next_in s p (omega arith)) (omega arith)) e' in
          let y = ltb-true (hex_digit (code s p)) 16 x in
          let u : p < next s p = cases (leb (length s) p) (λ q. absurd (hex_end p (leb-true (length s) p q) y)) (λ q. next_past s p (leb-false (length s) p q)) in
          let d = digit_like hex_digit 16 p p' hex_high t (omega arith) in
          rw (ap (λ c. ltb c 16) (sym d) ∙ x, hex_from) (subst (λ (c : ℕ). Lands (hex_from n (v * 16 + c) s' (next s' p') letter') m j) d (ih v' (next s p) (next s' p') (next_like s s' a b low top W p p' t (omega arith) (omega arith)) (omega arith) e'))
        where
          hex_end : (p : ℕ) → length s ≤ p → hex_digit (code s p) < 16 → ⊥
          hex_end p q y = let c = code_end s p q in let d = hex_high (code s p) (omega arith) in omega arith
      go ih false x = not_got (fault 11 letter) m j (rw (x, hex_from) at e)

  named_like : (look : Naming) (p p' n : ℕ) (m : Meaning) (j : ℕ) → At s s' a b low top W p p' → p + n < top → named look s p n ≡ got m j → Lands (named look s' p' n) m j
  unfolding named
  named_like look p p' n m j t h e =
      let same = part_like s s' a b low top W p p' (p + n) (p' + n) t (omega (arith, t.0)) (omega arith) (omega arith) in
      cases (ltb 88 n) (λ x. not_got (fault 11 (p + n + 1)) m j (rw x at e))
      (λ x.
      cases (eqb (look (part s p (p + n))) no_code) (λ y. not_got (fault 13 p) m j (rw (x, y) at e))
      (λ y.
      let e' : got (stands (look (part s p (p + n)))) (p + n + 1) ≡ got m j = rw (x, y) at e in
      let z : stands (look (part s p (p + n))) ≡ m = cc in
      let u : p + n + 1 ≡ j = cc in
      rw (x, ← same, y) (p' + n + 1, ap (λ x. got x (p' + n + 1)) z, omega (arith, t.0))))

  name_like : (look : Naming) (p p' : ℕ) (m : Meaning) (j : ℕ) → At s s' a b low top W p p' → p ≤ top → unicode_name look s p ≡ got m j → j ≤ top → Lands (unicode_name look s' p') m j
  unfolding unicode_name named
  name_like look p p' m j t l e h =
      cases (not (code s p is "{")) (λ x. not_got (fault 10 p) m j (rw x at e))
      (λ x.
      cases (at_end s (i + n)) (λ y. not_got (fault 10 (length s)) m j (rw (x, y) at e))
      (λ y.
      let e' : named look s i n ≡ got m j = rw (x, y) at e in
      let k = named_end e' in
      let u = next_from s p in
      let pt : p < top = omega arith in
      let q = next_like s s' a b low top W p p' t pt (omega arith) in
      let f = before_like s s' a b low top W (λ b. b is "}") n i (next s' p') q refl (omega arith) in
      let g : next s' p' + n < length s' = omega (arith, q.0, W.within') in
      rw (← is_like s s' a b low top W p p' t pt "{" (omega arith, tt), x, f, lt-leb (length s') (next s' p' + n) g)
      (named_like look i (next s' p') n m j q (omega arith) e')))
    where
      i : ℕ
      i = next s p

      n : ℕ
      n = before (λ b. b is "}") (drop i s)

      named_end : named look s i n ≡ got m j → j ≡ i + n + 1
      named_end e =
          cases (ltb 88 n) (λ x. not_got (fault 11 (i + n + 1)) m j (rw x at e))
          (λ x.
          cases (eqb (look (part s i (i + n))) no_code) (λ y. not_got (fault 13 i) m j (rw (x, y) at e))
          (λ y. let e' : got (stands (look (part s i (i + n)))) (i + n + 1) ≡ got m j = rw (x, y) at e in let u : i + n + 1 ≡ j = cc in omega arith))

  -- the case of the character after a backslash
  pub escape_case_like : (kind p p' : ℕ) → At s s' a b low top W p p' → p < top → next s p ≤ top → escape_case kind s p ≡ escape_case kind s' p'
  unfolding escape_case
  escape_case_like kind p p' t h l = rw (not_end s s' a b low top W p p' t h, not_end' s s' a b low top W p p' t h, code_like s s' a b low top W p p' t h l) refl

  -- AN ESCAPE that ends in the window; an octal one where no digit follows in s'
  pub escape_like : (look : Naming) (kind p p' : ℕ) (m : Meaning) (j : ℕ) → At s s' a b low top W p p' → p ≤ top → escape look kind s p ≡ got m j → j ≤ top
      → (escape_case kind s p ≡ octal → Edge j) → Lands (escape look kind s' p') m j
  unfolding escape escape_case
  escape_like look kind p p' m j t l e h o = go (escape_case kind s p) refl
    where
      i : ℕ
      i = next s p

      i' : ℕ
      i' = next s' p'

      past : i ≤ j
      past = escape_past look kind s p m j (omega (arith, W.within)) e

      short : p < top
      short = cases (leb (length s) p) (λ q. ended_not (leb-true (length s) p q)) (λ q. omega (arith, next_past s p (leb-false (length s) p q), past))
        where
          at_end_lem : length s ≤ p → escape_case kind s p ≡ ended
          at_end_lem q = rw (le-leb (length s) p q) refl

          ended_not : length s ≤ p → p < top
          ended_not q = not_got (fault 10 p) m j (rw (at_end_lem q, escape) at e)

      far : i ≤ top
      far = omega (arith, past)

      same : escape_case kind s p ≡ escape_case kind s' p'
      same = escape_case_like kind p p' t short far

      on : At s s' a b low top W i i'
      on = next_like s s' a b low top W p p' t short far

      here : (v : Meaning) → got v i ≡ got m j → Lands (got v i') m j
      here v f = let z : v ≡ m = cc in let y : i ≡ j = cc in (i', ap (λ x. got x i') z, omega (arith, on.0))

      go : (x : EscapeCase) → escape_case kind s p ≡ x → Lands (escape look kind s' p') m j
      go ended q = not_got (fault 10 p) m j (rw (q, escape) at e)
      go (simple c) q = rw (sym same ∙ q, escape) (here (stands c) (rw (q, escape) at e))
      go octal q =
          rw (sym same ∙ q, escape)
          (rw (← code_like s s' a b low top W p p' t short far) (octal_like 2 (octal_digit (code s p)) i i' m j on far (rw (q, escape) at e) h (o q)))
      go (hex n) q = rw (sym same ∙ q, escape) (hex_like n 0 i i' i i' m j on far far (rw (q, escape) at e) h)
      go name q = rw (sym same ∙ q, escape) (name_like look i i' m j on far (rw (q, escape) at e) h)
      go newline q = rw (sym same ∙ q, escape) (here vanishes (rw (q, escape) at e))
      go foreign q = not_got (fault 12 i) m j (rw (q, escape) at e)
      go other q = rw (sym same ∙ q, escape) (here stays (rw (q, escape) at e))

  -- and what it stands for
  pub meant_like : (kind p p' j j' : ℕ) (m : Meaning) → At s s' a b low top W p p' → j + a ≡ j' + b → p ≤ j → j ≤ top → meant kind s p j m ≡ meant kind s' p' j' m
  unfolding meant
  meant_like kind p p' j j' (stands c) t e h l = refl
  meant_like kind p p' j j' stays t e h l = part_like s s' a b low top W p p' j j' t e h l
  meant_like kind p p' j j' vanishes t e h l = refl
