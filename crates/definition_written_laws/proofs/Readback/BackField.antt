-- A clean expression, with `!`, `:` or `}` behind it, is read as it stands. Assumes nothing.
use Rattle.std.specs.Prelude.{if◌then◌else◌}
use mathlib.Core.Path.{◌≡◌, refl, sym, ◌∙◌, ap, ap₂, subst}
use mathlib.Core.Bool.{Bool, true, false, ◌&&◌, not, and-false, and-true, false≢true}
use mathlib.Core.List.{List, [], ◌∷◌, ◌++◌, append_assoc, append-nil}
use Prim.Native.Nat.{ℕ, zero, suc, ◌+◌, ◌-◌, ◌≤◌, ◌<◌}
use native.Mathlib.Omega.{arith, by_contra}
use lib.Seq.{get_or-drop, length-take-le}
use lib.Dec.{ltb, leb, eqb}
use lib.ListN.{length, take, drop, length-append, get_or-append, take-append-drop}
use borrow.Author.Tests.{ltb-true, ltb-false, leb-true, leb-false, lt-ltb, lt-leb, eqb-true, ne_eqb, eq-eqb, not-true}
use Rattle.definition.specs.Chars.{◌is◌, byte, part, at_end, code, next, char, before}
use Rattle.definition.specs.Escapes.{Naming}
use Rattle.definition.specs.Body.{Signs, Bracket, goes, Field, state, add, FieldCase, pair, converts, documents, formats, opener, closes, closer, quote, space, backslash, stray, field_case, outside, case_of, open_move, matching, close_move, quote_move, field_move, is_blank}
use Rattle.definition.specs.Matched.{clear, quoted, closed, see, see_all, settled, blank_after, blank}
use Rattle.definition_written.specs.ReadsBack.{is_open, few_open, clean}
use Rattle.definition.proofs.Moves.CharLaws.{cases, no, next_past, between, next_ascii, code_ascii, code_is, Utf8}
use Rattle.definition_laws.specs.IsMatched.{Calm}
use Rattle.definition_laws.proofs.Moves.Adds.{Adds, adds_none, adds_both, mark_opener, mark_closer, high_calm, one_of_lem, quote_see, adds_char, adds_mark, adds_pair, closing, adds_quoted, ascii_in}
use Rattle.definition_laws.proofs.Formed.FieldState.{codes}
use Rattle.definition_laws.proofs.Moves.Moves.{none_open}
use Rattle.definition_laws.proofs.Moves.Cases.{and_both}
use Rattle.definition_written_laws.proofs.Readback.BackSteps.{field_at, field_on}
use Rattle.definition_written_laws.proofs.Readback.BackText.{At, at_in, at_byte, at_next, at_skip, at_part, at_code}

signless : (c : ℕ) (out : Bool) → (c is "!" && out) ≡ false → (c is "=" && out) ≡ false → (c is ":" && out) ≡ false → (out && c is "!=:") ≡ false
signless c false x y z = refl
signless c true x y z = cases (eqb c 33) (λ t. no (sym (rw t at x))) (λ t. cases (eqb c 61) (λ u. no (sym (rw u at y))) (λ u. cases (eqb c 58) (λ v. no (sym (rw v at z))) (λ v. rw (t, u, v) refl)))

-- WHAT A FIELD'S CASE TELLS, with what it is not
module _ (s : List ℕ) (i : ℕ) (out doc : Bool) where
  abbrev pub is_pair : Bool
  is_pair = code s i is "!=><" && code s (next s i) is "="

  abbrev pub Tells : FieldCase → Type 0
  Tells FieldCase.over = length s ≤ i
  Tells pair = is_pair ≡ true
  Tells converts = (is_pair ≡ false) × (out ≡ true) × (code s i ≡ 33)
  Tells documents = (is_pair ≡ false) × (out ≡ true) × (code s i ≡ 61)
  Tells formats = (out ≡ true) × (code s i ≡ 58)
  Tells opener = (is_pair ≡ false) × ((code s i is "([{") ≡ true)
  Tells closes = (out ≡ true) × (code s i ≡ 125)
  Tells closer = (is_pair ≡ false) × ((code s i is ")]}") ≡ true)
  Tells quote = (is_pair ≡ false) × ((code s i is "\"'") ≡ true)
  Tells space = (doc ≡ true) × (code s i ≡ 32)
  Tells backslash = (is_pair ≡ false) × (code s i ≡ 92)
  Tells stray = doc ≡ true
  Tells FieldCase.plain = (is_pair ≡ false) × (i < length s) × Calm (code s i) × (doc ≡ false) × ((out && code s i is "!=:") ≡ false)

  record Told (x : FieldCase) : Type 0 where
    it : Tells x

  chosen : (t : Bool) (x : FieldCase) {y : FieldCase} → (t ≡ true → Tells x) → (t ≡ false → Told y) → Told (if t then x else y)
  chosen true x p q = record { it = p refl }
  chosen false x p q = q refl

  sign : (c : ℕ) → (eqb (code s i) c && out) ≡ true → (out ≡ true) × (code s i ≡ c)
  sign c t = let b = and_both (eqb (code s i) c) out t in (b.1, eqb-true _ _ b.0)

  tells : Told (field_case s i out doc)
  unfolding field_case
  tells =
      let c = code s i in
      chosen (at_end s i) FieldCase.over (λ t. leb-true _ _ t) (λ h.
      chosen is_pair pair (λ t. t) (λ n.
      chosen (c is "!" && out) converts (λ t. let b = sign 33 t in (n, b.0, b.1)) (λ x.
      chosen (c is "=" && out) documents (λ t. let b = sign 61 t in (n, b.0, b.1)) (λ y.
      chosen (c is ":" && out) formats (sign 58) (λ z.
      chosen (c is "([{") opener (λ t. (n, t)) (λ o.
      chosen (c is "}" && out) closes (sign 125) (λ t.
      chosen (c is ")]}") closer (λ t. (n, t)) (λ k.
      chosen (c is "\"'") quote (λ t. (n, t)) (λ q.
      chosen (c is " " && doc) space (λ t. let b = and_both (c is " ") _ t in (b.1, eqb-true _ _ b.0)) (λ t.
      chosen (c is "\\") backslash (λ t. (n, eqb-true _ _ t)) (λ e.
      chosen doc stray (λ t. t) (λ t. record { it = (n, leb-false (length s) i h, (q, o, k, e), t, signless c out x y z) }))))))))))))

  pub told : (x : FieldCase) → field_case s i out doc ≡ x → Tells x
  told x e = subst (λ (x : FieldCase). Tells x) e tells.it

-- WHAT CLEAN BYTES ARE
pub clean_pair : (o : List ℕ) (b : ℕ) (r : List ℕ) → (b is "!=><") ≡ true → clean false (clear o) (b ∷ 61 ∷ r) ≡ true → clean false (clear o) r ≡ true
unfolding clean is_open
clean_pair o b r e h = rw (e, clean) at h

abbrev pub Other : (o : List ℕ) (b : ℕ) (r : List ℕ) → Type 0
Other o b r = ((settled (clear o) && b is "!=:") ≡ false) × (few_open (see (clear o) b) ≡ true) × (clean false (see (clear o) b) r ≡ true)

pub clean_other : (o : List ℕ) (b : ℕ) (r : List ℕ) → (b is "!=><" && byte r 0 is "=") ≡ false → clean false (clear o) (b ∷ r) ≡ true → Other o b r
unfolding clean is_open
clean_other o b r e h =
    let k = rw (e, clean) at h in
    let p = and_both (not (settled (clear o) && b is "!=:") && few_open (see (clear o) b)) (clean false (see (clear o) b) r) k in
    let q = and_both (not (settled (clear o) && b is "!=:")) (few_open (see (clear o) b)) p.0 in
    (not-true (settled (clear o) && b is "!=:") q.0, q.1, p.1)

-- a quoted run ends
pub record Ran (q : ℕ) (o r : List ℕ) : Type 0 where
  pub inner : List ℕ
  pub rest : List ℕ
  pub split : r ≡ inner ++ q ∷ rest
  pub ends_there : (l : List ℕ) → before (λ b. eqb b q) (inner ++ q ∷ l) ≡ length inner
  pub cleaned : clean false (clear o) rest ≡ true

pub clean_run : (q : ℕ) (o r : List ℕ) → clean false (quoted q o) r ≡ true → Ran q o r
unfolding clean is_open settled see few_open before
clean_run q o [] h = no h
clean_run q o (b ∷ r) h = go (eqb b q) refl (clean_run q o r)
  where
    go : (t : Bool) → eqb b q ≡ t → (clean false (quoted q o) r ≡ true → Ran q o r) → Ran q o (b ∷ r)
    go true t ih = record {
      inner = [];
      rest = r;
      split = ap (λ x. x ∷ r) (eqb-true b q t);
      ends_there = λ l. rw (eq-eqb q q refl, before) refl;
      cleaned = let k = rw (t, clean) at h in (and_both (leb (length o) 64) (clean false (clear o) r) k).1;
    }
    go false t ih =
        let x = ih (rw (t, clean) at h) in
        record {
          inner = b ∷ x.inner;
          rest = x.rest;
          split = ap (λ y. b ∷ y) x.split;
          ends_there = λ l. rw (t, before) (ap suc (x.ends_there l));
          cleaned = x.cleaned;
        }

-- a byte that changes nothing, and one above ASCII
pub calm_see : (o : List ℕ) (b : ℕ) → Calm b → see (clear o) b ≡ clear o
unfolding see
calm_see o b h = rw (h.0, h.1, h.2, h.3) refl

high_pair : (b : ℕ) (t : Bool) → 0x80 ≤ b → (b is "!=><" && t) ≡ false
high_pair b t h = rw (ne_eqb b 33 (omega arith), ne_eqb b 61 (omega arith), ne_eqb b 62 (omega arith), ne_eqb b 60 (omega arith)) refl

high_clean : (n : ℕ) (o r : List ℕ) → ((k : ℕ) → k < n → k < length r → 0x80 ≤ byte r k) → clean false (clear o) r ≡ true → clean false (clear o) (drop n r) ≡ true
high_clean zero o r f h = h
high_clean (suc n) o [] f h = h
high_clean (suc n) o (b ∷ r) f h =
    let w = f 0 (omega arith) (omega arith) in
    let q = (clean_other o b r (high_pair b (byte r 0 is "=") w) h).2 in
    high_clean n o r (λ k l m. f (suc k) (omega arith) (omega arith)) (rw (calm_see o b (high_calm b w)) at q)

closer_see : (o : List ℕ) (b : ℕ) → (b is ")]}") ≡ true → see (clear o) b ≡ closed o b
unfolding see
closer_see o b = one_of_lem (λ b. see (clear o) b ≡ closed o b) ")]}" b (refl, (refl, (refl, tt)))

pub codes_length : (o : List Bracket) → length (codes o) ≡ length o
codes_length [] = refl
codes_length (a ∷ o) = ap suc (codes_length o)

-- A CLEAN EXPRESSION, before an ASCII byte that is no `=`
module _ (look : Naming) (s : List ℕ) (utf8 : Utf8 s) (d from c : ℕ) (l : List ℕ) (ascii : c < 0x80) (unequal : eqb c 61 ≡ false) (g : Signs) where
  abbrev st : List ℕ → Bool → List Bracket → Field
  st ex b o = state ex b o 0 false 0 g

  pub record Reach (i : ℕ) (ex : List ℕ) (b : Bool) (o : List Bracket) (r : List ℕ) : Type 0 where
    pub blanks' : Bool
    pub reads : field_at look s d from i (st ex b o) ≡ field_at look s d from (i + length r) (st (ex ++ r) blanks' [])
    pub added : Adds [] [] blanks' (ex ++ r)

  abbrev Expr : ℕ → Type 0
  Expr m = (r : List ℕ) → length r ≤ m → (i : ℕ) (ex : List ℕ) (b : Bool) (o : List Bracket) → At s i (r ++ c ∷ l) → clean false (clear (codes o)) r ≡ true → Adds [] (codes o) b ex → Reach i ex b o r

  module _ (m : ℕ) (ih : Expr m) (i : ℕ) (ex : List ℕ) (b : Bool) (o : List Bracket) where
    onward : (r u r' : List ℕ) (j : ℕ) (b' : Bool) (o' : List Bracket) → r ≡ u ++ r' → 0 < length u → length r ≤ suc m → At s i (r ++ c ∷ l) → j ≡ i + length u
        → field_move s i (st ex b o) ≡ goes j (st (ex ++ part s i j) b' o') → Adds [] (codes o') b' (ex ++ part s i j) → clean false (clear (codes o')) r' ≡ true → Reach i ex b o r
    onward r u r' j b' o' e p q h f move a k =
        let h' : At s i (u ++ (r' ++ c ∷ l)) = rw (e, append_assoc u r' (c ∷ l)) at h in
        let v : part s i j ≡ u = ap (part s i) f ∙ at_part s i u (r' ++ c ∷ l) h' in
        let n = length-append u r' in
        let z = ap length e in
        let y = at_skip s i u (r' ++ c ∷ l) h' in
        let x = ih r' (omega arith) (i + length u) (ex ++ u) b' o' y k (rw v at a) in
        let w : i + length u + length r' ≡ i + length r = omega arith in
        let w' : (ex ++ u) ++ r' ≡ ex ++ r = append_assoc ex u r' ∙ ap (λ t. ex ++ t) (sym e) in
        record {
          blanks' = x.blanks';
          reads =
              field_on look s d from i (st ex b o) (i + length u) (st (ex ++ u) b' o') (move ∙ ap₂ (λ j t. goes j (st (ex ++ t) b' o')) f v) (omega arith) y.0
              ∙ x.reads
              ∙ ap₂ (λ j t. field_at look s d from j (st t x.blanks' [])) w w';
          added = rw w' at x.added;
        }

    module _ (x : ℕ) (r : List ℕ) (short : length (x ∷ r) ≤ suc m) (h : At s i (x ∷ r ++ c ∷ l)) (k : clean false (clear (codes o)) (x ∷ r) ≡ true) (a : Adds [] (codes o) b ex) where
      abbrev Goal : Type 0
      Goal = Reach i ex b o (x ∷ r)

      -- an ASCII code is the byte
      asc : code s i < 0x80 → (code s i ≡ x) × (next s i ≡ i + 1)
      asc p = let y = ascii_in s i p in (code_ascii s i y ∙ at_byte s i x (r ++ c ∷ l) h, next_ascii s i y)

      -- what follows is an `=` of the expression or none
      pair_of : (r : List ℕ) → At s (i + 1) (r ++ c ∷ l) → eqb (byte s (i + 1)) 61 ≡ true → (r' : List ℕ) × (r ≡ 61 ∷ r')
      pair_of [] h e = absurd (false≢true (sym unequal ∙ rw (at_byte s (i + 1) c l h) at e))
      pair_of (y ∷ r) h e = (r, ap (λ z. z ∷ r) (eqb-true y 61 (rw (at_byte s (i + 1) y (r ++ c ∷ l) h) at e)))

      none_of : (r : List ℕ) → At s (i + 1) (r ++ c ∷ l) → eqb (byte s (i + 1)) 61 ≡ false → eqb (byte r 0) 61 ≡ false
      none_of [] h e = refl
      none_of (y ∷ r) h e = rw (at_byte s (i + 1) y (r ++ c ∷ l) h) at e

      no_pair : is_pair s i false false ≡ false → (x is "!=><" && byte r 0 is "=") ≡ false
      no_pair n =
          cases (x is "!=><")
          (λ t.
          let q : x < 0x80 = one_of_lem (λ c. c < 0x80) "!=><" x (omega arith, (omega arith, (omega arith, (omega arith, tt)))) t in
          let p = at_code s i x (r ++ c ∷ l) h q in
          let n' : eqb (code s (i + 1)) 61 ≡ false = rw (p.0, p.1, t) at n in
          rw (t, none_of r (at_next s i x (r ++ c ∷ l) h) (sym (code_is s (i + 1) 61 (omega arith)) ∙ n')) refl)
          (λ t. rw t refl)

      other : is_pair s i false false ≡ false → Other (codes o) x r
      other n = clean_other (codes o) x r (no_pair n) k

      -- the pair of x and `=`
      on_pair : case_of s i (st ex b o) ≡ pair → is_pair s i false false ≡ true → Goal
      unfolding field_move add
      on_pair q t =
          let e = and_both (code s i is "!=><") (code s (next s i) is "=") t in
          let p = asc (one_of_lem (λ c. c < 0x80) "!=><" (code s i) (omega arith, (omega arith, (omega arith, (omega arith, tt)))) e.0) in
          let f : eqb (code s (i + 1)) 61 ≡ true = rw p.1 at e.1 in
          let f' : eqb (byte s (i + 1)) 61 ≡ true = sym (code_is s (i + 1) 61 (omega arith)) ∙ f in
          let (r', z) = pair_of r (at_next s i x (r ++ c ∷ l) h) f' in
          let n : next s (next s i) ≡ i + 2 = ap (next s) p.1 ∙ next_ascii s (i + 1) (rw (eqb-true (byte s (i + 1)) 61 f') (omega arith)) ∙ plus in
          onward (x ∷ r) (x ∷ 61 ∷ []) r' (next s (next s i)) (b && false) o (ap (λ t. x ∷ t) z) (omega arith) short h n
          (rw (q, field_move) refl)
          (adds_both a (adds_pair s i e.0 (eqb-true (code s (next s i)) 61 e.1) (codes o)))
          (clean_pair (codes o) x r' (rw p.0 at e.0) (rw z at k))
        where
          plus : i + 1 + 1 ≡ i + 2
          plus = omega arith

      -- one ASCII byte
      on_open : case_of s i (st ex b o) ≡ opener → is_pair s i false false ≡ false → (code s i is "([{") ≡ true → Goal
      unfolding field_move open_move char see_all few_open
      on_open q n e =
          let p = asc (one_of_lem (λ c. c < 0x80) "([{" (code s i) (omega arith, (omega arith, (omega arith, tt))) e) in
          let m' = mark_opener {o = codes o} x (rw p.0 at e) in
          let v = other n in
          let w : leb (suc (length (codes o))) 64 ≡ true = rw m'.1.sees at v.1 in
          let w' : ltb (length o) 64 ≡ true = lt-ltb (length o) 64 (omega (arith, leb-true (suc (length (codes o))) 64 w, codes_length o)) in
          onward (x ∷ r) (x ∷ []) r (next s i) false (record { bracket = code s i; taken = next s i } ∷ o) refl (omega arith) short h p.1
          (rw (q, field_move) (rw w' refl))
          (rw and-false at (adds_both a (adds_mark s i (mark_opener {o = codes o} (code s i) e))))
          (rw p.0 (rw m'.1.sees at v.2))

      on_quote : case_of s i (st ex b o) ≡ quote → is_pair s i false false ≡ false → (code s i is "\"'") ≡ true → Goal
      unfolding field_move quote_move add
      on_quote q n e =
          let p = asc (quote_see {o = codes o} (code s i) e).0 in
          let v = quote_see {o = codes o} x (rw p.0 at e) in
          let y = clean_run x (codes o) r (rw v.1 at (other n).2) in
          let h' = at_next s i x (r ++ c ∷ l) h in
          let f : drop (next s i) s ≡ y.inner ++ x ∷ (y.rest ++ c ∷ l) = ap (λ j. drop j s) p.1 ∙ h'.1 ∙ ap (λ t. t ++ c ∷ l) y.split ∙ append_assoc y.inner (x ∷ y.rest) (c ∷ l) in
          let z : before (λ b. eqb b (code s i)) (drop (next s i) s) ≡ length y.inner = ap₂ (λ q t. before (λ b. eqb b q) t) p.0 f ∙ y.ends_there (y.rest ++ c ∷ l) in
          let w : closing s i ≡ i + 1 + length y.inner = ap₂ ◌+◌ p.1 z in
          let j = at_skip s (i + 1) (y.inner ++ x ∷ y.rest) (c ∷ l) (rw y.split at h') in
          let long = length-append y.inner (x ∷ y.rest) in
          let short' = length-append y.inner (x ∷ []) in
          let in-s : closing s i < length s = omega (arith, j.0) in
          onward (x ∷ r) (x ∷ y.inner ++ x ∷ []) y.rest (closing s i + 1) (b && false) o (ap (λ t. x ∷ t) (y.split ∙ sym (append_assoc y.inner (x ∷ []) y.rest))) (omega arith) short h (omega arith)
          (rw (q, field_move) (rw (lt-leb (length s) (closing s i) in-s) refl))
          (adds_both a (adds_quoted s i e in-s (codes o)))
          y.cleaned

      -- one that closes the innermost bracket
      on_close : case_of s i (st ex b o) ≡ closer → is_pair s i false false ≡ false → (code s i is ")]}") ≡ true → Goal
      unfolding field_move close_move char see_all few_open closed
      on_close q n e =
          let p = asc (one_of_lem (λ c. c < 0x80) ")]}" (code s i) (omega arith, (omega arith, (omega arith, tt))) e) in
          let v = other n in
          let y = closer_see (codes o) x (rw p.0 at e) in
          go o refl p.0 p.1 (rw y at v.1) (rw y at v.2)
        where
          go : (o' : List Bracket) → o ≡ o' → code s i ≡ x → next s i ≡ i + 1 → few_open (closed (codes o') x) ≡ true → clean false (closed (codes o') x) r ≡ true → Goal
          go [] z p p' v w = no v
          go (y ∷ o') z p p' v w =
              cases (matching y.bracket x)
              (λ t.
              onward (x ∷ r) (x ∷ []) r (next s i) false o' refl (omega arith) short h p'
              (rw (q, field_move) (rw (z, p, t) refl))
              (rw and-false at (adds_both (rw z at a) (adds_mark s i (mark_closer {a = y.bracket} {o = codes o'} (code s i) e (rw p t)))))
              (rw t at w))
              (λ t. no (rw t at v))

      -- any other character
      on_plain : case_of s i (st ex b o) ≡ FieldCase.plain → is_pair s i false false ≡ false → Calm (code s i) → Goal
      unfolding field_move add char
      on_plain q n e =
          onward (x ∷ r) (x ∷ take w r) (drop w r) (next s i) (b && is_blank (code s i)) o (ap (λ t. x ∷ t) (sym (take-append-drop w r))) (omega arith) short h long
          (rw (q, field_move) refl)
          (adds_both a (adds_char s i in-s utf8 e (codes o)))
          (high_clean w (codes o) r highs (rw (calm_see (codes o) x calm) at (other n).2))
        where
          in-s : i < length s
          in-s = at_in s i x (r ++ c ∷ l) h

          w : ℕ
          w = next s i - (i + 1)

          past : next s i ≤ i + 1 + length r
          past =
              by_contra (next s i) (i + 1 + length r)
              (λ (z : i + 1 + length r < next s i).
              let t = between s i (i + 1 + length r) (omega arith) (omega arith) in
              let y = at_byte s (i + 1 + length r) c l (at_skip s (i + 1) r (c ∷ l) (at_next s i x (r ++ c ∷ l) h)) in
              omega arith)

          long : next s i ≡ i + length (x ∷ take w r)
          long = omega (arith, next_past s i in-s, past, length-take-le w r (omega (arith, past)))

          calm : Calm x
          calm =
              cases (ltb (byte s i) 0x80)
              (λ t. rw (← at_byte s i x (r ++ c ∷ l) h, ← code_ascii s i (ltb-true _ _ t)) e)
              (λ t. high_calm x (rw (at_byte s i x (r ++ c ∷ l) h) at (ltb-false (byte s i) 0x80 t)))

          highs : (k : ℕ) → k < w → k < length r → 0x80 ≤ byte r k
          highs k p p' =
              let t = between s i (i + 1 + k) (omega arith) (omega arith) in
              let y : byte s (i + 1 + k) ≡ byte r k = sym (get_or-drop (i + 1) s k 256) ∙ ap (λ t. byte t k) (at_next s i x (r ++ c ∷ l) h).1 ∙ get_or-append r (c ∷ l) 256 k p' in
              rw y at t.0

      -- signs and backslashes are not clean, and nothing of a self-documenting `=` was met
      on_sign : (y : ℕ) → y < 0x80 → (y is "!=:") ≡ true → is_pair s i false false ≡ false → outside o ≡ true → code s i ≡ y → Goal
      unfolding settled
      on_sign y z t n out e =
          let p = asc (rw e z) in
          let w : x ≡ y = sym p.0 ∙ e in
          absurd (false≢true (sym (other n).0 ∙ rw (none_open o out, w, t) refl))

      on_close' : is_pair s i false false ≡ false → outside o ≡ true → code s i ≡ 125 → Goal
      unfolding few_open closed
      on_close' n out e =
          let p = asc (rw e (omega arith)) in
          let w : x ≡ 125 = sym p.0 ∙ e in
          let v = (other n).1 in
          no (rw (closer_see (codes o) x (rw w refl), none_open o out) at v)

      on_backslash : is_pair s i false false ≡ false → code s i ≡ 92 → Goal
      unfolding few_open see
      on_backslash n e =
          let p = asc (rw e (omega arith)) in
          let w : x ≡ 92 = sym p.0 ∙ e in
          no (rw w at (other n).1)

      by_case : (y : FieldCase) → case_of s i (st ex b o) ≡ y → Goal
      unfolding case_of
      by_case y q = go y q (told s i (outside o) false y q)
        where
          go : (y : FieldCase) → case_of s i (st ex b o) ≡ y → Tells s i (outside o) false y → Goal
          go FieldCase.over q t = absurd (omega (arith, t, at_in s i x (r ++ c ∷ l) h))
          go pair q t = on_pair q t
          go converts q t = on_sign 33 (omega arith) refl t.0 t.1 t.2
          go documents q t = on_sign 61 (omega arith) refl t.0 t.1 t.2
          go formats q t = on_sign 58 (omega arith) refl (rw t.1 refl) t.0 t.1
          go opener q t = on_open q t.0 t.1
          go closes q t = on_close' (rw t.1 refl) t.0 t.1
          go closer q t = on_close q t.0 t.1
          go quote q t = on_quote q t.0 t.1
          go space q t = no t.0
          go backslash q t = on_backslash t.0 t.1
          go stray q t = no t
          go FieldCase.plain q t = on_plain q t.0 t.2

  nothing_open : (o : List Bracket) → settled (clear (codes o)) ≡ true → o ≡ []
  unfolding settled
  nothing_open [] k = refl
  nothing_open (y ∷ o) k = no k

  none_left : (i : ℕ) (ex : List ℕ) (b : Bool) (o : List Bracket) → clean false (clear (codes o)) [] ≡ true → Adds [] (codes o) b ex → Reach i ex b o []
  unfolding clean
  none_left i ex b o k a =
      let z = nothing_open o k in
      let plus : i ≡ i + 0 = omega arith in
      record { blanks' = b; reads = ap₂ (λ j f. field_at look s d from j f) plus (rw (append-nil ex, z) refl); added = rw (append-nil ex) (rw z at a) }

  more_left : (m : ℕ) → Expr m → Expr (suc m)
  more_left m ih [] q i ex b o h k a = none_left i ex b o k a
  more_left m ih (x ∷ r) q i ex b o h k a = by_case m ih i ex b o x r q h k a (case_of s i (st ex b o)) refl

  expr : (m : ℕ) → Expr m
  expr zero [] q i ex b o h k a = none_left i ex b o k a
  expr zero (x ∷ r) q i ex b o h k a = absurd (omega arith)
  expr (suc m) r q i ex b o h k a = more_left m (λ r. expr m r) r q i ex b o h k a

  -- A CLEAN EXPRESSION is read as it stands, and the field then knows whether it is blank
  pub expression_reads : (e : List ℕ) → At s from (e ++ c ∷ l) → clean false (clear []) e ≡ true → field_at look s d from from (st [] true []) ≡ field_at look s d from (from + length e) (st e (blank e) [])
  unfolding blank_after
  expression_reads e h k =
      let x = expr (length e) e (omega arith) from [] true [] h k adds_none in
      x.reads ∙ ap (λ b. field_at look s d from (from + length e) (st e b [])) (sym (and-true x.blanks') ∙ sym (x.added.blanks []) ∙ ap blank (append-nil e))
