-- Every expression that is read is clean and not blank: an invariant of a field's moves, with what its bytes leave open. Assumes nothing.
use Rattle.std.specs.Prelude.{if◌then◌else◌}
use mathlib.Core.Path.{◌≡◌, refl, sym, ◌∙◌, ap, ap₂, subst}
use mathlib.Core.Bool.{Bool, true, false, ◌&&◌, not, and-false}
use mathlib.Core.List.{List, [], ◌∷◌, ◌++◌, append_assoc, append-nil}
use Prim.Native.Nat.{ℕ, zero, suc, ◌+◌, ◌-◌, ◌≤◌, ◌<◌}
use native.Mathlib.Omega.{arith}
use lib.Dec.{ltb, eqb}
use lib.ListN.{length, take, drop, length-drop, length-append}
use lib.Seq.{drop-cons, get_or-drop, get_or-take}
use borrow.Author.Tests.{ltb-true, ltb-false, leb-false, le-leb, eqb-true, ne_eqb, not-false}
use Rattle.definition.specs.Chars.{◌is◌, byte, part, at_end, code, next, char, before}
use Rattle.definition.specs.Body.{Signs, Bracket, Move, goes, Field, state, fresh, add, documented, spaced, FieldCase, pair, converts, documents, formats, opener, closes, closer, quote, space, backslash, stray, field_case, outside, case_of, conversion_move, open_move, matching, close_move, quote_move, field_move, is_blank}
use Rattle.definition.specs.Matched.{clear, quoted, see, see_all, settled, blank}
use Rattle.definition_written.specs.ReadsBack.{is_open, few_open, clean}
use Rattle.definition.proofs.Moves.CharLaws.{cases, no, byte_in, next_past, next_from, between, next_ascii, code_ascii, code_is, Utf8}
use Rattle.definition_laws.specs.IsMatched.{Calm}
use Rattle.definition_laws.proofs.Moves.Adds.{Sees, sees_none, sees_both, sees_char, Adds, adds_none, adds_both, adds_blank, mark_opener, mark_closer, high_calm, one_of_lem, quote_see, adds_char, adds_mark, adds_pair, closing, adds_quoted, ascii_in, part_split}
use Rattle.definition_laws.proofs.Formed.FieldState.{codes}
use Rattle.definition_laws.proofs.Moves.Moves.{none_open, part_short}
use Rattle.definition_laws.proofs.Moves.Cases.{and_both}
use Rattle.definition_laws.proofs.Formed.Grammar.{Closes}
use Rattle.definition_written_laws.proofs.Readback.BackText.{part_one}
use Rattle.definition_written_laws.proofs.Readback.BackField.{is_pair, Tells, told, calm_see, codes_length}
use Rattle.definition_written_laws.proofs.Readback.BackTrees.{MovedAt, on, stopped, at_spec, at_end_lem}

-- what expressions have
abbrev pub Clean : List ℕ → ℕ → Type 0
Clean e c = (clean false (clear []) e ≡ true) × (blank e ≡ false)

-- WHAT STANDS IN FRONT OF CLEAN BYTES
tok_pair : (o : List ℕ) (x : ℕ) (r : List ℕ) → (x is "!=><") ≡ true → clean false (clear o) r ≡ true → clean false (clear o) (x ∷ 61 ∷ r) ≡ true
unfolding clean is_open
tok_pair o x r e h = rw (e, clean) h

tok_byte : (o o' : List ℕ) (x : ℕ) (r : List ℕ) → (x is "!=><" && byte r 0 is "=") ≡ false → (settled (clear o) && x is "!=:") ≡ false → see (clear o) x ≡ clear o' → length o' ≤ 64 → clean false (clear o') r ≡ true → clean false (clear o) (x ∷ r) ≡ true
unfolding clean is_open few_open
tok_byte o o' x r n u e l h = rw (n, clean) (rw (u, e, le-leb (length o') 64 l) h)

high_not : (b a : ℕ) → 0x80 ≤ b → a < 0x80 → eqb b a ≡ false
high_not b a h l = ne_eqb b a (omega arith)

tok_high : (o : List ℕ) (x : ℕ) (r : List ℕ) → 0x80 ≤ x → length o ≤ 64 → clean false (clear o) r ≡ true → clean false (clear o) (x ∷ r) ≡ true
tok_high o x r w l h =
    tok_byte o o x r
    (rw (high_not x 33 w (omega arith), high_not x 61 w (omega arith), high_not x 62 w (omega arith), high_not x 60 w (omega arith)) refl)
    (none_is (settled (clear o)) (rw (high_not x 33 w (omega arith), high_not x 61 w (omega arith), high_not x 58 w (omega arith)) refl))
    (calm_see o x (high_calm x w)) l h
  where
    none_is : (t : Bool) {u : Bool} → u ≡ false → (t && u) ≡ false
    none_is true e = e
    none_is false e = refl

toks_high : (o u r : List ℕ) → ((k : ℕ) → k < length u → 0x80 ≤ byte u k) → length o ≤ 64 → clean false (clear o) r ≡ true → clean false (clear o) (u ++ r) ≡ true
toks_high o [] r f l h = h
toks_high o (x ∷ u) r f l h = tok_high o x (u ++ r) (f 0 (omega arith)) l (toks_high o u r (λ k m. f (suc k) (omega arith)) l h)

tok_run : (q : ℕ) (o t r : List ℕ) → before (λ b. eqb b q) t < length t → length o ≤ 64 → clean false (clear o) r ≡ true → clean false (quoted q o) (take (suc (before (λ b. eqb b q) t)) t ++ r) ≡ true
unfolding before clean is_open see settled few_open
tok_run q o [] r h l k = absurd (omega arith)
tok_run q o (b ∷ t) r h l k =
    cases (eqb b q) (λ e. rw (e, before) (rw (le-leb (length o) 64 l) k))
    (λ e. rw (e, before) (tok_run q o t r (let h' = rw (e, before) at h in omega arith) l k))

tok_quote : (o : List ℕ) (q : ℕ) (t r : List ℕ) → (q is "\"'") ≡ true → before (λ b. eqb b q) t < length t → length o ≤ 64 → clean false (clear o) r ≡ true → clean false (clear o) ((q ∷ take (suc (before (λ b. eqb b q) t)) t) ++ r) ≡ true
unfolding clean is_open few_open
tok_quote o q t r e h l k =
    let n : ((q is "!=><") ≡ false) × ((q is "!=:") ≡ false) = one_of_lem (λ q. ((q is "!=><") ≡ false) × ((q is "!=:") ≡ false)) "\"'" q ((refl, refl), ((refl, refl), tt)) e in
    let v = quote_see {o = o} q e in
    let m = not-sign (settled (clear o)) n.1 in
    rw (n.0, clean) (rw (m, v.1) (tok_run q o t r h l k))
  where
    not-sign : (t : Bool) {u : Bool} → u ≡ false → (t && u) ≡ false
    not-sign true e = e
    not-sign false e = refl

settled_outside : (o : List Bracket) → settled (clear (codes o)) ≡ outside o
unfolding settled outside
settled_outside [] = refl
settled_outside (b ∷ o) = refl

two_calm : (o : List ℕ) (x y : ℕ) → Calm x → Calm y → Sees o (x ∷ y ∷ []) o
unfolding see_all
two_calm o x y h k = rw (calm_see o x h) (calm_see o y k)

no_sign : (t : Bool) {u : Bool} → u ≡ false → (t && u) ≡ false
no_sign true e = e
no_sign false e = refl

-- a move that is chosen by a test
either : {Inv : ℕ → Field → Type 0} {C : Type 0} (t : Bool) {m m' : Move Field} → (t ≡ true → MovedAt Inv C m) → (t ≡ false → MovedAt Inv C m') → MovedAt Inv C (if t then m else m')
either true p q = p refl
either false p q = q refl

-- THE INVARIANT, of a field that began at `from`, at i
module _ (s : List ℕ) (utf8 : Utf8 s) where
  pub record Keeps (from i : ℕ) (e : List ℕ) (b : Bool) (o : List Bracket) (d : Bool) : Type 0 where
    pub sees : Sees [] (part s from i) (codes o)
    pub size : from + (length e + (if d then 1 else 0)) ≤ i
    pub few : length o ≤ 64
    pub adds : Adds [] (codes o) b e
    pub pend : Bool  -- its last byte would be the first of a pair, if `=` followed
    pub pending : pend ≡ true → (d ≡ false) × (eqb (byte s i) 61 ≡ false)
    pub cleans : (r : List ℕ) → clean false (clear (codes o)) r ≡ true → (pend ≡ true → eqb (byte r 0) 61 ≡ false) → clean false (clear []) (e ++ r) ≡ true

  abbrev pub KeepsAt : (from i : ℕ) → Field → Type 0
  KeepsAt from i (state e b o c d w g) = Keeps from i e b o d

  pub keeps_fresh : (i : ℕ) → KeepsAt i i fresh
  unfolding fresh
  keeps_fresh i = record {
    sees = let z : i - i ≡ 0 = omega arith in rw z (sees_none []);
    size = omega arith;
    few = omega arith;
    adds = adds_none;
    pend = false;
    pending = λ p. no p;
    cleans = λ r h k. h;
  }

  module _ (from i : ℕ) where
    sees_more : (o o' : List ℕ) (j : ℕ) → from ≤ i → i ≤ j → Sees [] (part s from i) o → Sees o (part s i j) o' → Sees [] (part s from j) o'
    sees_more o o' j l m a b = rw (part_split s from i j l m) (sees_both [] (part s from i) (part s i j) a b)

    part_byte : (j : ℕ) (r : List ℕ) → i < j → i < length s → byte (part s i j ++ r) 0 ≡ byte s i
    part_byte j r l h =
        let z : j - i ≡ suc (j - i - 1) = omega arith in
        rw (drop-cons s i 256 h, z) refl

    -- more of the expression: the bytes up to j
    keeps_add : (e : List ℕ) (b b' : Bool) (o o' : List Bracket) (d pend' : Bool) (j : ℕ) → Keeps from i e b o d → i < j → i < length s → length o' ≤ 64 → Sees (codes o) (part s i j) (codes o')
        → Adds [] (codes o') b' (e ++ part s i j) → (pend' ≡ true → (d ≡ false) × (eqb (byte s j) 61 ≡ false))
        → ((r : List ℕ) → clean false (clear (codes o')) r ≡ true → (pend' ≡ true → eqb (byte r 0) 61 ≡ false) → clean false (clear (codes o)) (part s i j ++ r) ≡ true)
        → Keeps from j (e ++ part s i j) b' o' d
    keeps_add e b b' o o' d pend' j k l h few' sees' adds' pending' tok = record {
      sees = sees_more (codes o) (codes o') j (omega (arith, k.size)) (omega arith) k.sees sees';
      size = omega (arith, k.size, part_short s i j, length-append e (part s i j));
      few = few';
      adds = adds';
      pend = pend';
      pending = pending';
      cleans = λ r c p. rw (append_assoc e (part s i j) r) (k.cleans (part s i j ++ r) (tok r c p) (λ q. rw (part_byte j r l h) (k.pending q).1));
    }

    -- bytes that are passed over, up to j
    keeps_pass : (e : List ℕ) (b : Bool) (o : List Bracket) (d d' : Bool) (j : ℕ) (k : Keeps from i e b o d) → i < j → Sees (codes o) (part s i j) (codes o)
        → from + (length e + (if d' then 1 else 0)) ≤ j → (k.pend ≡ true → (d' ≡ false) × (eqb (byte s j) 61 ≡ false)) → Keeps from j e b o d'
    keeps_pass e b o d d' j k l sees' size' pending' = record {
      sees = sees_more (codes o) (codes o) j (omega (arith, k.size)) (omega arith) k.sees sees';
      size = size';
      few = k.few;
      adds = k.adds;
      pend = k.pend;
      pending = pending';
      cleans = k.cleans;
    }

    asc : code s i < 0x80 → (byte s i ≡ code s i) × (next s i ≡ i + 1) × (i < length s)
    asc h = let b = ascii_in s i h in (sym (code_ascii s i b), next_ascii s i b, byte_in s i (omega arith))

    part_of_one : code s i < 0x80 → part s i (next s i) ≡ code s i ∷ []
    part_of_one h = let a = asc h in ap (part s i) a.1 ∙ part_one s i a.2 ∙ ap (λ x. x ∷ []) a.0

    part_of_two : (y : ℕ) → code s i < 0x80 → y < 0x80 → code s (next s i) ≡ y → part s i (next s (next s i)) ≡ code s i ∷ y ∷ []
    part_of_two y h k e =
        part_split s i (next s i) (next s (next s i)) (next_from s i) (next_from s (next s i))
        ∙ ap₂ ◌++◌ (part_of_one h) second
      where
        second : part s (next s i) (next s (next s i)) ≡ y ∷ []
        second =
            let b = ascii_in s (next s i) (rw e k) in
            ap (part s (next s i)) (next_ascii s (next s i) b) ∙ part_one s (next s i) (byte_in s (next s i) (omega arith)) ∙ ap (λ x. x ∷ []) (sym (code_ascii s (next s i) b) ∙ e)

    past_two : code s i < 0x80 → i < next s (next s i)
    past_two h = omega (arith, (asc h).1, next_from s (next s i))

    module _ (e : List ℕ) (b : Bool) (o : List Bracket) (c : ℕ) (d : Bool) (w : ℕ) (g : Signs) (k : Keeps from i e b o d) (C : Type 0) where
      abbrev f : Field
      f = state e b o c d w g

      abbrev M : Move Field → Type 0
      M = MovedAt (KeepsAt from) C

      on_pair : is_pair s i false false ≡ true → M (goes (next s (next s i)) (add (part s i (next s (next s i))) false f))
      unfolding add
      on_pair t =
          let e₁ = and_both (code s i is "!=><") (code s (next s i) is "=") t in
          let a = one_of_lem (λ c. c < 0x80) "!=><" (code s i) (omega arith, (omega arith, (omega arith, (omega arith, tt)))) e₁.0 in
          let q = eqb-true (code s (next s i)) 61 e₁.1 in
          let p = part_of_two 61 a (omega arith) q in
          let y = adds_pair s i e₁.0 q (codes o) in
          on {f = state (e ++ part s i (next s (next s i))) (b && false) o c d w g}
          (keeps_add e b (b && false) o o d false (next s (next s i)) k (past_two a) (asc a).2 k.few y.sees (adds_both k.adds y) (λ z. no z)
          (λ r h z. rw p (tok_pair (codes o) (code s i) r e₁.0 h)))

      on_open : (code s i is "([{") ≡ true → M (open_move s i f)
      unfolding open_move char see_all
      on_open t =
          let a = one_of_lem (λ c. (c < 0x80) × ((c is "!=><") ≡ false) × ((c is "!=:") ≡ false)) "([{" (code s i) ((omega arith, refl, refl), ((omega arith, refl, refl), ((omega arith, refl, refl), tt))) t in
          let y = mark_opener {o = codes o} (code s i) t in
          let v = adds_mark s i y in
          let p = part_of_one a.0 in
          either (ltb (length o) 64)
          (λ u.
          let l = ltb-true (length o) 64 u in
          on
          (keeps_add e b false o (record { bracket = code s i; taken = next s i } ∷ o) d false (next s i) k (next_past s i (asc a.0).2) (asc a.0).2 (omega arith) v.sees (rw and-false at (adds_both k.adds v)) (λ z. no z)
          (λ r h z. rw p (tok_byte (codes o) (code s i ∷ codes o) (code s i) r (rw a.1 refl) (no_sign (settled (clear (codes o))) a.2) y.1.sees (omega (arith, codes_length o)) h))))
          (λ u. stopped)

      on_close : (code s i is ")]}") ≡ true → M (close_move s i f)
      unfolding close_move char see_all
      on_close t = go o refl
        where
          a : (code s i < 0x80) × ((code s i is "!=><") ≡ false) × ((code s i is "!=:") ≡ false)
          a = one_of_lem (λ c. (c < 0x80) × ((c is "!=><") ≡ false) × ((c is "!=:") ≡ false)) ")]}" (code s i) ((omega arith, refl, refl), ((omega arith, refl, refl), ((omega arith, refl, refl), tt))) t

          go : (o' : List Bracket) → o ≡ o' → M (close_move s i (state e b o' c d w g))
          go [] z = stopped
          go (x ∷ o') z =
              either (matching x.bracket (code s i))
              (λ m.
              let y = mark_closer {a = x.bracket} {o = codes o'} (code s i) t m in
              let v = adds_mark s i y in
              let k' : Keeps from i e b (x ∷ o') d = subst (λ (o : List Bracket). Keeps from i e b o d) z k in
              let l : length o' ≤ 64 = omega (arith, k'.few) in
              on
              (keeps_add e b false (x ∷ o') o' d false (next s i) k' (next_past s i (asc a.0).2) (asc a.0).2 l v.sees (rw and-false at (adds_both k'.adds v)) (λ z. no z)
              (λ r h z. rw (part_of_one a.0) (tok_byte (x.bracket ∷ codes o') (codes o') (code s i) r (rw a.1 refl) (no_sign (settled (clear (x.bracket ∷ codes o'))) a.2) y.1.sees (omega (arith, codes_length o')) h))))
              (λ m. stopped)

      on_quote : (code s i is "\"'") ≡ true → M (quote_move s i f)
      unfolding quote_move add
      on_quote t =
          either (at_end s (closing s i)) (λ u. stopped)
          (λ u.
          let h = leb-false (length s) (closing s i) u in
          let a = (quote_see {o = codes o} (code s i) t).0 in
          let y = adds_quoted s i t h (codes o) in
          on {f = state (e ++ part s i (closing s i + 1)) (b && false) o c d w g}
          (keeps_add e b (b && false) o o d false (closing s i + 1) k (omega (arith, (asc a).1)) (asc a).2 k.few y.sees (adds_both k.adds y) (λ z. no z)
          (λ r h' z. rw (part_quoted a h) (tok_quote (codes o) (code s i) (drop (next s i) s) r t (in_run h) (omega (arith, k.few, codes_length o)) h'))))
        where
          n : ℕ
          n = before (λ b. eqb b (code s i)) (drop (next s i) s)

          in_run : closing s i < length s → n < length (drop (next s i) s)
          in_run h = omega (arith, length-drop (next s i) s)

          part_quoted : code s i < 0x80 → closing s i < length s → part s i (closing s i + 1) ≡ code s i ∷ take (suc n) (drop (next s i) s)
          part_quoted a h =
              let x = asc a in
              let m : closing s i + 1 - i ≡ suc (suc n) = omega (arith, x.1) in
              let y : next s i ≡ suc i = omega (arith, x.1) in
              rw (m, drop-cons s i 256 x.2, x.0) (ap (λ j. code s i ∷ take (suc n) (drop j s)) (sym y))

      on_plain : is_pair s i false false ≡ false → i < length s → Calm (code s i) → d ≡ false → (outside o && code s i is "!=:") ≡ false → M (goes (next s i) (add (char s i) (is_blank (code s i)) f))
      unfolding add char
      on_plain n h calm doc sign =
          on {f = state (e ++ part s i (next s i)) (b && is_blank (code s i)) o c d w g}
          (keeps_add e b (b && is_blank (code s i)) o o d (code s i is "!=><") (next s i) k (next_past s i h) h k.few (sees_char s i h calm (codes o)) (adds_both k.adds (adds_char s i h utf8 calm (codes o)))
          (λ p. (doc, sym (code_is s (next s i) 61 (omega arith)) ∙ rw p at n))
          tok)
        where
          few' : length (codes o) ≤ 64
          few' = omega (arith, k.few, codes_length o)

          highs : 0x80 ≤ byte s i → (m : ℕ) → m < length (part s i (next s i)) → 0x80 ≤ byte (part s i (next s i)) m
          highs x m l =
              let y : byte (part s i (next s i)) m ≡ byte s (i + m) = get_or-take (next s i - i) (drop i s) m 256 (omega (arith, part_short s i (next s i))) ∙ get_or-drop i s m 256 in
              rw y (go m (omega (arith, part_short s i (next s i), next_from s i)))
            where
              go : (m : ℕ) → i + m < next s i → 0x80 ≤ byte s (i + m)
              go zero l = let z : i + 0 ≡ i = omega arith in rw z x
              go (suc m) l = (between s i (i + suc m) (omega arith) l).0

          tok : (r : List ℕ) → clean false (clear (codes o)) r ≡ true → ((code s i is "!=><") ≡ true → eqb (byte r 0) 61 ≡ false) → clean false (clear (codes o)) (part s i (next s i) ++ r) ≡ true
          tok r c p =
              cases (ltb (byte s i) 0x80)
              (λ t.
              let a : code s i < 0x80 = rw (code_ascii s i (ltb-true (byte s i) 0x80 t)) (ltb-true (byte s i) 0x80 t) in
              rw (part_of_one a) (tok_byte (codes o) (codes o) (code s i) r (cases (code s i is "!=><") (λ u. rw (u, p u) refl) (λ u. rw u refl)) (rw (settled_outside o) sign) (calm_see (codes o) (code s i) calm) few' c))
              (λ t. toks_high (codes o) (part s i (next s i)) r (highs (ltb-false (byte s i) 0x80 t)) few' c)

      -- one ASCII byte that is passed over
      sees_calm : (x : ℕ) → x < 0x80 → Calm x → code s i ≡ x → Sees (codes o) (part s i (next s i)) (codes o)
      unfolding see_all
      sees_calm x a calm q = rw (part_of_one (rw q a), q) (calm_see (codes o) x calm)

      on_document : code s i ≡ 61 → M (goes (next s i) (documented (next s i) f))
      unfolding documented
      on_document q =
          let a : code s i < 0x80 = rw q (omega arith) in
          on (keeps_pass e b o d true (next s i) k (next_past s i (asc a).2) (sees_calm 61 (omega arith) (refl, refl, refl, refl) q) (omega (arith, k.size, (asc a).1))
          (λ p. no (sym (k.pending p).1 ∙ rw ((asc a).0, q) refl)))

      on_space : d ≡ true → code s i ≡ 32 → M (goes (next s i) (spaced f))
      unfolding spaced
      on_space doc q =
          let a : code s i < 0x80 = rw q (omega arith) in
          on (keeps_pass e b o d d (next s i) k (next_past s i (asc a).2) (sees_calm 32 (omega arith) (refl, refl, refl, refl) q) (omega (arith, k.size, (asc a).1))
          (λ p. no (sym (k.pending p).0 ∙ doc)))

      on_convert : code s i ≡ 33 → M (conversion_move s i f)
      unfolding conversion_move
      on_convert q =
          let flag = next s i in
          let a : code s i < 0x80 = rw q (omega arith) in
          either b (λ t. stopped) (λ t.
          either (at_end s flag) (λ t. stopped) (λ t.
          either (not (code s flag is "sar")) (λ t. stopped) (λ t.
          either (code s (next s flag) is "}:")
          (λ u.
          on (keeps_pass e b o d d (next s flag) k (past_two a) (sees-two a (not-false (code s flag is "sar") t)) (omega (arith, k.size, past_two a))
          (λ p. ((k.pending p).0, unequal u))))
          (λ u. stopped))))
        where
          sees-two : code s i < 0x80 → (code s (next s i) is "sar") ≡ true → Sees (codes o) (part s i (next s (next s i))) (codes o)
          sees-two a t =
              let y = one_of_lem (λ x. (x < 0x80) × Calm x) "sar" (code s (next s i)) ((omega arith, (refl, refl, refl, refl)), ((omega arith, (refl, refl, refl, refl)), ((omega arith, (refl, refl, refl, refl)), tt))) t in
              rw (part_of_two (code s (next s i)) a y.0 refl, q) (two_calm (codes o) 33 (code s (next s i)) (refl, refl, refl, refl) y.1)

          unequal : (code s (next s (next s i)) is "}:") ≡ true → eqb (byte s (next s (next s i))) 61 ≡ false
          unequal u = sym (code_is s (next s (next s i)) 61 (omega arith)) ∙ one_of_lem (λ x. eqb x 61 ≡ false) "}:" (code s (next s (next s i))) (refl, (refl, tt)) u

      by_case : (y : FieldCase) → case_of s i f ≡ y → Tells s i (outside o) d y → (outside o ≡ true → C) → M (field_move s i f)
      unfolding field_move
      by_case FieldCase.over q t ended = rw (q, field_move) stopped
      by_case pair q t ended = rw (q, field_move) (on_pair t)
      by_case converts q t ended = rw (q, field_move) (on_convert t.2)
      by_case documents q t ended = rw (q, field_move) (on_document t.2)
      by_case formats q t ended = rw (q, field_move) (at_spec (ended t.0))
      by_case opener q t ended = rw (q, field_move) (on_open t.1)
      by_case closes q t ended = rw (q, field_move) (at_end_lem (ended t.0))
      by_case closer q t ended = rw (q, field_move) (on_close t.1)
      by_case quote q t ended = rw (q, field_move) (on_quote t.1)
      by_case space q t ended = rw (q, field_move) (on_space t.0 t.1)
      by_case backslash q t ended = rw (q, field_move) stopped
      by_case stray q t ended = rw (q, field_move) stopped
      by_case FieldCase.plain q t ended = rw (q, field_move) (on_plain t.0 t.1 t.2 t.3 t.4)

  -- where the expression ends it is clean, and the field knows whether it is blank
  pub keeps_clean : (from i : ℕ) (e : List ℕ) (b : Bool) (o : List Bracket) (d : Bool) → Keeps from i e b o d → outside o ≡ true → clean false (clear []) e ≡ true
  unfolding clean settled
  keeps_clean from i e b o d k out = rw (append-nil e) at (k.cleans [] (rw (none_open o out) refl) (λ p. refl))

  -- THE MOVES of a field keep it
  pub keeps_step : (from i : ℕ) (f : Field) → KeepsAt from i f → MovedAt (KeepsAt from) (Closes Clean f) (field_move s i f)
  unfolding case_of
  keeps_step from i (state e b o c d w g) k =
      by_case from i e b o c d w g k (Closes Clean (state e b o c d w g)) (field_case s i (outside o) d) refl (told s i (outside o) d (field_case s i (outside o) d) refl)
      (λ out q p. (keeps_clean from i e b o d k out, adds_blank k.adds q))

  -- and an expression ends outside brackets
  abbrev pub Out : Field → Type 0
  Out (state e b o c d w g) = outside o ≡ true

  pub ends_outside : (from i : ℕ) (f : Field) → KeepsAt from i f → MovedAt (KeepsAt from) (Out f) (field_move s i f)
  unfolding case_of
  ends_outside from i (state e b o c d w g) k =
      by_case from i e b o c d w g k (outside o ≡ true) (field_case s i (outside o) d) refl (told s i (outside o) d (field_case s i (outside o) d) refl) (λ out. out)
