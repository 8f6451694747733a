-- Well-formed text is a path of characters, and each step of a body ends where a character does. Assumes nothing.
use mathlib.Core.Path.{◌≡◌, refl, sym, ◌∙◌, ap, subst}
use mathlib.Core.Bool.{Bool, true, false, not}
use mathlib.Core.List.{List, [], ◌++◌}
use Prim.Native.Nat.{ℕ, zero, suc, ◌+◌, ◌*◌, ◌≤◌, ◌<◌}
use native.Mathlib.Omega.{arith}
use borrow.Author.Tests.{ltb-true, ltb-false, leb-true, leb-false, le-leb, eqb-true, eqb-false}
use lib.Dec.{ltb, leb, eqb}
use lib.ListN.{length, drop, get_or-eq_default}
use Rattle.definition.specs.Chars.{◌is◌, byte, part, no_code, at_end, inside, ◌to◌, width, code, next, char, formed_from, well_formed, before}
use Rattle.definition.specs.Escapes.{Naming, Fault, fault, Read, got, refused, Meaning, stands, stays, vanishes, octal_digit, octal_from, hex_digit, scalar, hex_from, named, unicode_name, EscapeCase, ended, simple, octal, hex, name, newline, foreign, other, escape_case, escape}
use Rattle.definition.specs.Body.{Piece, Move, goes, stops, calls, ends, with_escape, TextCase, deep, opens, last, doubled, lone, text_case, text_move, fresh, enough}
use Rattle.definition.proofs.Moves.CharLaws.{cases, no, inside_yes, inside_not, tail_none, between, next_past, next_in, next_from, next_ascii, width_in, width_end, code_end, first_passes}
use Rattle.definition_cuts_laws.proofs.Windows.Window.{Window, At, width_like}
use Rattle.definition_cuts_laws.proofs.Windows.WindowEscapes.{not_got}
use Rattle.definition_cuts_laws.proofs.Windows.Closed.{field_closed}
use Rattle.definition_cuts_laws.proofs.Tokens.TokenSteps.{top_told, step, step_goes, step_stops, step_calls, step_ends, Steps, here, more, step_ahead}

module _ (s : List ℕ) where
  -- characters from one place to another
  pub data Formed : (i k : ℕ) → Type 0 where
    done : {i : ℕ} → Formed i i
    char_on : {i k : ℕ} (w : ℕ) → width s i ≡ suc w → Formed (i + suc w) k → Formed i k

  pub formed_later : (i k : ℕ) → Formed i k → i ≤ k
  formed_later i k done = omega arith
  formed_later i k (char_on w e F) = omega (arith, formed_later (i + suc w) k F)

  pub formed_append : (i j k : ℕ) → Formed i j → Formed j k → Formed i k
  formed_append i j k done G = G
  formed_append i j k (char_on w e F) G = char_on w e (formed_append (i + suc w) j k F G)

  -- the longest well-formed prefix is all of the text
  formed_path : (n i : ℕ) → length s ≤ formed_from n s i → i ≤ length s → Formed i (length s)
  unfolding formed_from
  formed_path zero i h l = let z : i ≡ length s = omega arith in subst (λ (k : ℕ). Formed i k) z done
  formed_path (suc n) i h l = go (width s i) refl (λ i h l. formed_path n i h l)
    where
      go : (w : ℕ) → width s i ≡ w → ((i : ℕ) → length s ≤ formed_from n s i → i ≤ length s → Formed i (length s)) → Formed i (length s)
      go zero e ih = let k = rw (e, formed_from) at h in let z : i ≡ length s = omega arith in subst (λ (k : ℕ). Formed i k) z done
      go (suc w) e ih = char_on w e (ih (i + suc w) (rw (e, formed_from) at h) (omega (arith, width_in s i l)))

  pub all_formed : length s ≤ well_formed s → Formed 0 (length s)
  unfolding well_formed
  all_formed h = formed_path (length s) 0 h (omega arith)

  path_formed : (n i k : ℕ) → Formed i k → k ≡ length s → length s ≤ i + n → formed_from n s i ≡ length s
  unfolding formed_from
  path_formed zero i k done e m = e
  path_formed (suc n) i k done e m = rw (width_end s i (omega arith), formed_from) e
  path_formed zero i k (char_on w x F) e m = absurd (omega (arith, formed_later (i + suc w) k F))
  path_formed (suc n) i k (char_on w x F) e m = rw (x, formed_from) (path_formed n (i + suc w) k F e (omega arith))

  pub formed_all : Formed 0 (length s) → length s ≤ well_formed s
  unfolding well_formed
  formed_all F = omega (arith, path_formed (length s) 0 (length s) F refl (omega arith))

  -- two paths from one place
  pub formed_front : (i j k : ℕ) → Formed i j → Formed i k → k ≡ length s → Formed j k
  formed_front i j k done G e = G
  formed_front i j k (char_on w x F) done e = let z = width_end s i (omega arith) in absurd (omega arith)
  formed_front i j k (char_on w x F) (char_on w' x' G) e = let z : suc w ≡ suc w' = sym x ∙ x' in formed_front (i + suc w) j k F (subst (λ (n : ℕ). Formed (i + n) k) (sym z) G) e

  pub next_wide : (i w : ℕ) → width s i ≡ suc w → next s i ≡ i + suc w
  unfolding next
  next_wide i w e = cases (leb (length s) i) (λ t. let z = width_end s i (leb-true _ _ t) in absurd (omega arith)) (λ t. rw (t, e) (omega arith))

  -- one character on
  pub formed_next : (i k : ℕ) → Formed i k → k ≡ length s → i ≤ length s → Formed i (next s i)
  unfolding next
  formed_next i k done e l = rw (le-leb (length s) i (omega arith)) done
  formed_next i k (char_on w x F) e l = subst (λ (n : ℕ). Formed i n) (sym (next_wide i w x)) (char_on w x done)

  -- characters begin at the bytes that are not 80 to BF, and at no other
  abbrev pub Head : ℕ → Type 0
  Head i = inside (0x80 to 0xBF) (byte s i) ≡ false

  pub formed_head : (i k : ℕ) → Formed i k → k ≡ length s → Head i
  formed_head i k done e = let h : length s ≤ i = omega arith in rw (get_or-eq_default s 256 h) refl
  formed_head i k (char_on w x F) e = inside_not 0x80 0xBF (byte s i) (λ a b. let z = tail_none s i (a, b) in omega arith)

  pub formed_at : (i k c : ℕ) → Formed i k → k ≡ length s → i ≤ c → c ≤ length s → Head c → Formed i c
  formed_at i k c done e a b h = let z : i ≡ c = omega arith in subst (λ (n : ℕ). Formed i n) z done
  formed_at i k c (char_on w x F) e a b h =
      cases (ltb c (i + suc w))
      (λ t.
      let l = ltb-true c (i + suc w) t in
      cases (eqb i c) (λ q. subst (λ (n : ℕ). Formed i n) (eqb-true i c q) done)
      (λ q.
      let ne = eqb-false i c q in
      let v = between s i c (omega arith) (omega (arith, next_wide i w x)) in
      no (sym h ∙ inside_yes 0x80 0xBF (byte s c) v.0 v.1)))
      (λ t. char_on w x (formed_at (i + suc w) k c F e (ltb-false c (i + suc w) t) b h))

  -- after an ASCII byte
  pub formed_ascii : (i k r : ℕ) → Formed i k → k ≡ length s → i ≤ r → r < length s → byte s r < 0x80 → Formed i (r + 1)
  formed_ascii i k r F e h l b =
      let G = formed_at i k r F e h (omega arith) (inside_not 0x80 0xBF (byte s r) (λ a c. omega arith)) in
      formed_append i r (r + 1) G (subst (λ (n : ℕ). Formed r n) (next_ascii s r b) (formed_next r k (formed_front i r k G F e) e (omega arith)))

  -- ESCAPES
  digit_in : (f : ℕ → ℕ) (n p : ℕ) → f no_code ≡ n → f (code s p) < n → p < length s
  digit_in f n p high h = cases (leb (length s) p) (λ t. absurd (past (ap f (code_end s p (leb-true _ _ t)) ∙ high))) (λ t. leb-false _ _ t)
    where
      past : f (code s p) ≡ n → ⊥
      past e = omega arith

  octal_formed : (n v p : ℕ) (m : Meaning) (j : ℕ) → Formed p (length s) → p ≤ length s → octal_from n v s p ≡ got m j → Formed p j
  unfolding octal_from
  octal_formed zero v p m j F l e = let z : p ≡ j = cc in subst (λ (k : ℕ). Formed p k) z done
  octal_formed (suc n) v p m j F l e = go (ltb (octal_digit (code s p)) 8) refl (λ v p F l e. octal_formed n v p m j F l e)
    where
      go : (x : Bool) → ltb (octal_digit (code s p)) 8 ≡ x → ((v p : ℕ) → Formed p (length s) → p ≤ length s → octal_from n v s p ≡ got m j → Formed p j) → Formed p j
      go true x ih =
          let N = formed_next p (length s) F refl l in
          formed_append p (next s p) j N (ih (v * 8 + octal_digit (code s p)) (next s p) (formed_front p (next s p) (length s) N F refl) (next_in s p l) (rw (x, octal_from) at e))
      go false x ih = let e' : got (stands v) p ≡ got m j = rw (x, octal_from) at e in let z : p ≡ j = cc in subst (λ (k : ℕ). Formed p k) z done

  scalar_at_lem : (v i letter : ℕ) (m : Meaning) (j : ℕ) → scalar v i letter ≡ got m j → i ≡ j
  unfolding scalar
  scalar_at_lem v i letter m j e =
      cases (inside (0xD800 to 0xDFFF) v) (λ x. let e' : got (stands 0xFFFD) i ≡ got m j = rw x at e in cc)
      (λ x. cases (leb v 0x10FFFF) (λ y. let e' : got (stands v) i ≡ got m j = rw (x, y) at e in cc) (λ y. not_got (fault 11 letter) m j (rw (x, y) at e)))

  hex_formed : (n v p letter : ℕ) (m : Meaning) (j : ℕ) → Formed p (length s) → p ≤ length s → hex_from n v s p letter ≡ got m j → Formed p j
  unfolding hex_from
  hex_formed zero v p letter m j F l e = subst (λ (k : ℕ). Formed p k) (scalar_at_lem v p letter m j e) done
  hex_formed (suc n) v p letter m j F l e = go (ltb (hex_digit (code s p)) 16) refl (λ v p F l e. hex_formed n v p letter m j F l e)
    where
      go : (x : Bool) → ltb (hex_digit (code s p)) 16 ≡ x → ((v p : ℕ) → Formed p (length s) → p ≤ length s → hex_from n v s p letter ≡ got m j → Formed p j) → Formed p j
      go true x ih =
          let N = formed_next p (length s) F refl l in
          formed_append p (next s p) j N (ih (v * 16 + hex_digit (code s p)) (next s p) (formed_front p (next s p) (length s) N F refl) (next_in s p l) (rw (x, hex_from) at e))
      go false x ih = not_got (fault 11 letter) m j (rw (x, hex_from) at e)

  name_formed : (look : Naming) (p : ℕ) (m : Meaning) (j : ℕ) → Formed p (length s) → p ≤ length s → unicode_name look s p ≡ got m j → Formed p j
  unfolding unicode_name named
  name_formed look p m j F l e =
      cases (not (code s p is "{")) (λ x. not_got (fault 10 p) m j (rw x at e)) (λ x.
      cases (at_end s (i + n)) (λ y. not_got (fault 10 (length s)) m j (rw (x, y) at e)) (λ y.
      cases (ltb 88 n) (λ z. not_got (fault 11 (i + n + 1)) m j (rw (x, y, z) at e)) (λ z.
      cases (eqb (look (part s i (i + n))) no_code) (λ v. not_got (fault 13 i) m j (rw (x, y, z, v) at e)) (λ v.
      let e' : got (stands (look (part s i (i + n)))) (i + n + 1) ≡ got m j = rw (x, y, z, v) at e in
      let u : i + n + 1 ≡ j = cc in
      let k = leb-false (length s) (i + n) y in
      let b = first_passes (λ b. b is "}") s i k in
      let c : byte s (i + n) ≡ 125 = eqb-true _ _ b in
      subst (λ (k : ℕ). Formed p k) u (formed_ascii p (length s) (i + n) F refl (omega (arith, next_from s p)) k (omega arith))))))
    where
      i : ℕ
      i = next s p

      n : ℕ
      n = before (λ b. b is "}") (drop i s)

  escape_formed : (look : Naming) (p : ℕ) (m : Meaning) (j : ℕ) → Formed p (length s) → p ≤ length s → escape look 1 s p ≡ got m j → Formed p j
  unfolding escape
  escape_formed look p m j F l e = go (escape_case 1 s p) refl
    where
      N : Formed p (next s p)
      N = formed_next p (length s) F refl l

      R : Formed (next s p) (length s)
      R = formed_front p (next s p) (length s) N F refl

      upto : (v : Meaning) → got v (next s p) ≡ got m j → Formed p j
      upto v f = let z : next s p ≡ j = cc in subst (λ (k : ℕ). Formed p k) z N

      go : (x : EscapeCase) → escape_case 1 s p ≡ x → Formed p j
      go ended q = not_got (fault 10 p) m j (rw (q, escape) at e)
      go (simple c) q = upto (stands c) (rw (q, escape) at e)
      go octal q = formed_append p (next s p) j N (octal_formed 2 (octal_digit (code s p)) (next s p) m j R (next_in s p l) (rw (q, escape) at e))
      go (hex n) q = formed_append p (next s p) j N (hex_formed n 0 (next s p) (next s p) m j R (next_in s p l) (rw (q, escape) at e))
      go name q = formed_append p (next s p) j N (name_formed look (next s p) m j R (next_in s p l) (rw (q, escape) at e))
      go newline q = upto vanishes (rw (q, escape) at e)
      go foreign q = not_got (fault 12 (next s p)) m j (rw (q, escape) at e)
      go other q = upto stays (rw (q, escape) at e)

  -- A STEP ends where a character does
  pub step_formed : (look : Naming) (i j : ℕ) (ps : List Piece) → Formed i (length s) → i ≤ length s → step look s i ≡ got ps j → Formed i j
  unfolding text_move with_escape
  step_formed look i j ps F l e = go (text_move look 1 s 0 i []) refl
    where
      N : Formed i (next s i)
      N = formed_next i (length s) F refl l

      R : Formed (next s i) (length s)
      R = formed_front i (next s i) (length s) N F refl

      go : (x : Move (List ℕ)) → text_move look 1 s 0 i [] ≡ x → Formed i j
      go (goes k t) x = by (text_case 1 s 0 i) refl
        where
          kj : k ≡ j
          kj = let f = sym (step_goes look s i k t x) ∙ e in let z : k ≡ j = cc in z

          stop : {P : Type 0} (y : Fault) → ◌≡◌ {A = Move (List ℕ)} (stops y) (goes k t) → P
          stop y f = let z : ◌≡◌ {A = ℕ} 0 1 = cc in absurd (omega arith)

          escaped : (r : Read Meaning) → escape look 1 s (next s i) ≡ r → with_escape 1 s i [] r ≡ goes k t → Formed i j
          escaped (got v n) r f =
              let z : n ≡ k = cc in
              subst (λ (k : ℕ). Formed i k) (z ∙ kj) (formed_append i (next s i) n N (escape_formed look (next s i) v n R (next_in s i l) r))
          escaped (refused y) r f = stop y f

          by : (y : TextCase) → text_case 1 s 0 i ≡ y → Formed i j
          by deep q = absurd (top_told s i deep q)
          by TextCase.over q = let f : ◌≡◌ {A = Move (List ℕ)} ends (goes k t) = rw (q, text_move) at x in let z : ◌≡◌ {A = ℕ} 0 1 = cc in absurd (omega arith)
          by opens q = let f : ◌≡◌ {A = Move (List ℕ)} calls (goes k t) = rw (q, text_move) at x in let z : ◌≡◌ {A = ℕ} 0 1 = cc in absurd (omega arith)
          by last q = stop _ (rw (q, text_move) at x)
          by doubled q =
              let f : goes (next s (next s i)) ([] ++ char s i) ≡ goes k t = rw (q, text_move) at x in
              let z : next s (next s i) ≡ k = cc in
              subst (λ (k : ℕ). Formed i k) (z ∙ kj) (formed_append i (next s i) (next s (next s i)) N (formed_next (next s i) (length s) R refl (next_in s i l)))
          by lone q = stop _ (rw (q, text_move) at x)
          by TextCase.escapes q = escaped (escape look 1 s (next s i)) refl (rw (q, text_move) at x)
          by TextCase.plain q =
              let f : goes (next s i) ([] ++ char s i) ≡ goes k t = rw (q, text_move) at x in
              let z : next s i ≡ k = cc in
              subst (λ (k : ℕ). Formed i k) (z ∙ kj) N
      go (stops y) x = not_got y ps j (sym (step_stops look s i y x) ∙ e)
      go calls x =
          let f = sym (step_calls look s i x) ∙ e in
          let a = step_ahead look s i j ps l e in
          let np = next_past s i a.3 in
          let c = field_closed look (enough s) 1 s 0 (next s i) (next s i) fresh ps j (next_in s i l) (omega arith) f in
          subst (λ (k : ℕ). Formed i k) (sym c.2) (formed_ascii i (length s) c.0 F refl (omega (arith, c.1)) (omega (arith, c.2, a.1)) (omega (arith, c.3)))
      go ends x = not_got (fault 0 i) ps j (sym (step_ends look s i x) ∙ e)

  pub steps_formed : (look : Naming) (i k : ℕ) (ps : List Piece) → Steps look s i k ps → Formed i (length s) → i ≤ length s → Formed i k
  steps_formed look i k ps here F l = done
  steps_formed look i k ps (more {j = j} {ps = rs} {qs = qs} h e S) F l =
      let G = step_formed look i j rs F l e in
      formed_append i j k G (steps_formed look j k qs S (formed_front i j (length s) G F refl) (step_ahead look s i j rs l e).1)

-- THE SAME CHARACTERS in a window
pub formed_like : (s s' : List ℕ) (a b low top : ℕ) (W : Window s s' a b low top) (p k p' : ℕ) → Formed s p k → k ≤ top → At s s' a b low top W p p' → (k' : ℕ) × Formed s' p' k' × (k + a ≡ k' + b)
formed_like s s' a b low top W p k p' done h m = (p', done, m.0)
formed_like s s' a b low top W p k p' (char_on w e F) h m =
    let l = formed_later s (p + suc w) k F in
    let x = width_like s s' a b low top W p p' m (omega arith) (omega arith) in
    let R = formed_like s s' a b low top W (p + suc w) k (p' + suc w) F h (omega (arith, m.0), omega (arith, m.1)) in
    (R.0, char_on w (sym x ∙ e) R.1, R.2)
