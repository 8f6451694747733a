-- Spelled text is read byte by byte, whatever stands before and behind it. Assumes nothing.
use mathlib.Core.Path.{◌≡◌, refl, sym, ◌∙◌, ap, ap₂}
use mathlib.Core.Bool.{true, false}
use mathlib.Core.List.{List, [], ◌∷◌, ◌++◌, append_assoc, append-nil}
use Prim.Native.Nat.{ℕ, zero, suc, ◌+◌, ◌-◌, ◌*◌, ◌≤◌, ◌<◌}
use native.Mathlib.Omega.{arith}
use lib.Dec.{ltb, leb, eqb}
use lib.ListN.{length, drop, length-drop, length-append}
use lib.Seq.{drop-cons, get_or-drop, drop-drop, take-append_seam, drop-append_seam}
use borrow.Author.Tests.{ltb-true, ltb-false, lt-leb, eqb-true, ne_eqb}
use Rattle.definition.specs.Chars.{byte, part, code, next, char, utf8}
use Rattle.definition.specs.Escapes.{Naming, got, stands, simple, hex, escape_case, escape, hex_digit, hex_from, scalar, encode, meant}
use Rattle.definition.specs.Body.{Piece, goes, TextCase, doubled, too_deep, text_case, text_move, with_escape}
use Rattle.definition_written.specs.Written.{Where, top, early, late, spelled_byte, spelled_text}
use Rattle.definition.proofs.Moves.CharLaws.{cases, next_past, next_in, between, tail_none, next_ascii, code_ascii, code_is}
use Rattle.definition_laws.proofs.Moves.Adds.{part_split}
use Rattle.definition_written_laws.proofs.Readback.BackSteps.{text_at, text_on}

-- WHAT STANDS from i on
abbrev pub At : List ℕ → ℕ → List ℕ → Type 0
At s i l = (i ≤ length s) × (drop i s ≡ l)

at_size : (s : List ℕ) (i : ℕ) (l : List ℕ) → At s i l → length s ≡ i + length l
at_size s i l (h, e) = omega (arith, length-drop i s, ap length e)

module _ (s : List ℕ) (i b : ℕ) (l : List ℕ) (h : At s i (b ∷ l)) where
  pub at_in : i < length s
  at_in = omega (arith, at_size s i (b ∷ l) h)

  pub at_byte : byte s i ≡ b
  at_byte = ap (λ k. byte s k) plus ∙ sym (get_or-drop i s 0 256) ∙ ap (λ t. byte t 0) h.1
    where
      plus : i ≡ i + 0
      plus = omega arith

  pub at_next : At s (i + 1) l
  at_next = (omega (arith, at_in), sym (drop-drop 1 i s) ∙ ap (drop 1) h.1)

pub at_skip : (s : List ℕ) (i : ℕ) (u l : List ℕ) → At s i (u ++ l) → At s (i + length u) l
at_skip s i u l h = (omega (arith, at_size s i (u ++ l) h, length-append u l), sym (drop-drop (length u) i s) ∙ ap (drop (length u)) h.1 ∙ drop-append_seam u l)

pub at_part : (s : List ℕ) (i : ℕ) (u l : List ℕ) → At s i (u ++ l) → part s i (i + length u) ≡ u
at_part s i u l h = let e : i + length u - i ≡ length u = omega arith in rw (e, h.1) (take-append_seam u l)

pub at_end_lem : (s : List ℕ) (i : ℕ) → At s i [] → length s ≡ i
at_end_lem s i h = omega (arith, at_size s i [] h)

-- the one byte at i
pub part_one : (s : List ℕ) (i : ℕ) → i < length s → part s i (i + 1) ≡ byte s i ∷ []
part_one s i h = let e : i + 1 - i ≡ 1 = omega arith in rw (e, drop-cons s i 256 h) refl

pub char_one : (s : List ℕ) (i : ℕ) → i < length s → next s i ≡ i + 1 → char s i ≡ byte s i ∷ []
unfolding char
char_one s i h e = rw e (part_one s i h)

module _ (look : Naming) (s : List ℕ) (d : ℕ) (shallow : leb too_deep d ≡ false) where
  -- no brace, no backslash
  module _ (i : ℕ) (t : List ℕ) (h : i < length s) (x : eqb (byte s i) 123 ≡ false) (y : eqb (byte s i) 125 ≡ false) (z : eqb (byte s i) 92 ≡ false) where
    calm_case : text_case 1 s d i ≡ TextCase.plain
    unfolding text_case
    calm_case = rw (shallow, lt-leb (length s) i h, code_is s i 123 (omega arith), code_is s i 125 (omega arith), code_is s i 92 (omega arith), x, y, z) refl

    pub calm_move : text_move look 1 s d i t ≡ goes (next s i) (t ++ char s i)
    unfolding text_move
    calm_move = rw (calm_case, text_move) refl

  -- a byte above ASCII
  high_not : (b a : ℕ) → 0x80 ≤ b → a < 0x80 → eqb b a ≡ false
  high_not b a h l = ne_eqb b a (omega arith)

  high_move : (i : ℕ) (t : List ℕ) → i < length s → 0x80 ≤ byte s i → text_move look 1 s d i t ≡ goes (next s i) (t ++ char s i)
  high_move i t h w = calm_move i t h (high_not _ 123 w (omega arith)) (high_not _ 125 w (omega arith)) (high_not _ 92 w (omega arith))

  tail_next : (k : ℕ) → k < length s → (0x80 ≤ byte s k) × (byte s k ≤ 0xBF) → next s k ≡ k + 1
  unfolding next
  tail_next k h w = rw (lt-leb (length s) k h, tail_none s k w) refl

  module _ (i : ℕ) (t : List ℕ) (ps : List Piece) (h : i < length s) (w : 0x80 ≤ byte s i) where
    tails : (m k : ℕ) → k + m ≡ next s i → i < k → text_at look s d k (t ++ part s i k) ps ≡ text_at look s d (next s i) (t ++ part s i (next s i)) ps
    unfolding char
    tails zero k e p = let q : k ≡ next s i = omega arith in rw q refl
    tails (suc m) k e p =
        let l : next s i ≤ length s = next_in s i (omega arith) in
        let b = between s i k p (omega arith) in
        let n = tail_next k (omega arith) b in
        text_on look s d k (t ++ part s i k) ps (k + 1) (t ++ part s i (k + 1))
        (high_move k (t ++ part s i k) (omega arith) b.0 ∙ ap₂ goes n (more k n p)) (omega arith) (omega arith)
        ∙ tails m (k + 1) (omega arith) (omega arith)
      where
        more : (k : ℕ) → next s k ≡ k + 1 → i < k → (t ++ part s i k) ++ char s k ≡ t ++ part s i (k + 1)
        more k n p = append_assoc t (part s i k) (char s k) ∙ ap (λ u. t ++ u) (rw n (sym (part_split s i k (k + 1) (omega arith) (omega arith))))

    pub high_byte : text_at look s d i t ps ≡ text_at look s d (i + 1) (t ++ byte s i ∷ []) ps
    unfolding char
    high_byte =
        let n = next_past s i h in
        text_on look s d i t ps (next s i) (t ++ part s i (next s i)) (high_move i t h w) n (next_in s i (omega arith))
        ∙ sym (tails (next s i - (i + 1)) (i + 1) (omega arith) (omega arith))
        ∙ ap (λ u. text_at look s d (i + 1) (t ++ u) ps) (part_one s i h)

  -- any byte but a brace or a backslash
  pub calm_byte : (i : ℕ) (t : List ℕ) (ps : List Piece) → i < length s → eqb (byte s i) 123 ≡ false → eqb (byte s i) 125 ≡ false → eqb (byte s i) 92 ≡ false
      → text_at look s d i t ps ≡ text_at look s d (i + 1) (t ++ byte s i ∷ []) ps
  calm_byte i t ps h x y z =
      cases (ltb (byte s i) 0x80)
      (λ e.
      let n = next_ascii s i (ltb-true _ _ e) in
      text_on look s d i t ps (i + 1) (t ++ byte s i ∷ []) (calm_move i t h x y z ∙ ap₂ goes n (ap (λ u. t ++ u) (char_one s i h n))) (omega arith) (omega arith))
      (λ e. high_byte i t ps h (ltb-false _ _ e))

-- an ASCII byte that stands at i
pub at_code : (s : List ℕ) (i b : ℕ) (l : List ℕ) → At s i (b ∷ l) → b < 0x80 → (code s i ≡ b) × (next s i ≡ i + 1)
at_code s i b l h a = let e = at_byte s i b l h in let k : byte s i < 0x80 = omega arith in (code_ascii s i k ∙ e, next_ascii s i k)

module _ (look : Naming) (s : List ℕ) where
  -- a backslash that is doubled
  module _ (d : ℕ) (shallow : leb too_deep d ≡ false) (i : ℕ) (t l : List ℕ) where
    escape_case_lem : (c : ℕ) → eqb c 123 ≡ false → eqb c 125 ≡ false → c < 0x80 → At s i (92 ∷ c ∷ l) → text_case 1 s d i ≡ TextCase.escapes
    unfolding text_case
    escape_case_lem c x y a h =
        let p = at_code s i 92 (c ∷ l) h (omega arith) in
        let q = at_code s (i + 1) c l (at_next s i 92 (c ∷ l) h) a in
        rw (shallow, lt-leb (length s) i (at_in s i 92 (c ∷ l) h), p.0, p.1, q.0, x, y) refl

    doubled_case : At s (i + 1) (92 ∷ l) → escape_case 1 s (i + 1) ≡ simple 92
    unfolding escape_case
    doubled_case k = rw (lt-leb (length s) (i + 1) (at_in s (i + 1) 92 l k), (at_code s (i + 1) 92 l k (omega arith)).0) refl

    doubled_escape : At s (i + 1) (92 ∷ l) → escape look 1 s (i + 1) ≡ got (stands 92) (i + 1 + 1)
    unfolding escape
    doubled_escape k = rw (doubled_case k, escape) (ap (got (stands 92)) (at_code s (i + 1) 92 l k (omega arith)).1)

    backslash_move : At s i (92 ∷ 92 ∷ l) → text_move look 1 s d i t ≡ goes (i + 1 + 1) (t ++ 92 ∷ [])
    unfolding text_move with_escape meant encode utf8
    backslash_move h =
        rw (escape_case_lem 92 refl refl (omega arith) h, (at_code s i 92 (92 ∷ l) h (omega arith)).1, text_move) (rw (doubled_escape (at_next s i 92 (92 ∷ l) h)) refl)

  -- a brace in hex digits
  hex_step : (n v c j letter : ℕ) (l : List ℕ) → c < 0x80 → ltb (hex_digit c) 16 ≡ true → At s j (c ∷ l) → hex_from (suc n) v s j letter ≡ hex_from n (v * 16 + hex_digit c) s (j + 1) letter
  unfolding hex_from
  hex_step n v c j letter l a e h =
      let q = at_code s j c l h a in
      rw (ap (λ x. ltb (hex_digit x) 16) q.0 ∙ e, hex_from) (ap₂ (λ x k. hex_from n (v * 16 + hex_digit x) s k letter) q.0 q.1)

  module _ (d : ℕ) (shallow : leb too_deep d ≡ false) (i : ℕ) (t l : List ℕ) (c : ℕ) (a : c < 0x80) (digit : ltb (hex_digit c) 16 ≡ true) (h : At s i (92 ∷ 120 ∷ 55 ∷ c ∷ l)) where
    abbrev x_at : At s (i + 1) (120 ∷ 55 ∷ c ∷ l)
    x_at = at_next s i 92 (120 ∷ 55 ∷ c ∷ l) h

    abbrev seven_at : At s (i + 1 + 1) (55 ∷ c ∷ l)
    seven_at = at_next s (i + 1) 120 (55 ∷ c ∷ l) x_at

    hex_case : escape_case 1 s (i + 1) ≡ hex 2
    unfolding escape_case
    hex_case = rw (lt-leb (length s) (i + 1) (at_in s (i + 1) 120 (55 ∷ c ∷ l) x_at), (at_code s (i + 1) 120 (55 ∷ c ∷ l) x_at (omega arith)).0) refl

    hex_escape : escape look 1 s (i + 1) ≡ hex_from 0 (112 + hex_digit c) s (i + 1 + 1 + 1 + 1) (i + 1 + 1)
    unfolding escape hex_digit
    hex_escape =
        rw (hex_case, escape)
        (ap (λ j. hex_from 2 0 s j j) (at_code s (i + 1) 120 (55 ∷ c ∷ l) x_at (omega arith)).1
        ∙ hex_step 1 0 55 (i + 1 + 1) (i + 1 + 1) (c ∷ l) (omega arith) refl seven_at
        ∙ hex_step 0 7 c (i + 1 + 1 + 1) (i + 1 + 1) l a digit (at_next s (i + 1 + 1) 55 (c ∷ l) seven_at))

    hex_move : (v : ℕ) → hex_from 0 (112 + hex_digit c) s (i + 1 + 1 + 1 + 1) (i + 1 + 1) ≡ got (stands v) (i + 1 + 1 + 1 + 1) → utf8 v ≡ v ∷ [] → text_move look 1 s d i t ≡ goes (i + 1 + 1 + 1 + 1) (t ++ v ∷ [])
    unfolding text_move with_escape meant encode
    hex_move v e u =
        rw (escape_case_lem d shallow i t (55 ∷ c ∷ l) 120 refl refl (omega arith) h, (at_code s i 92 (120 ∷ 55 ∷ c ∷ l) h (omega arith)).1, text_move)
        (rw (hex_escape, e) (ap (λ x. goes (i + 1 + 1 + 1 + 1) (t ++ x)) u))

  -- a brace that is doubled
  opening_case : (i : ℕ) (l : List ℕ) → At s i (123 ∷ 123 ∷ l) → text_case 1 s 0 i ≡ doubled
  unfolding text_case
  opening_case i l h =
      let p = at_code s i 123 (123 ∷ l) h (omega arith) in
      let q = at_code s (i + 1) 123 l (at_next s i 123 (123 ∷ l) h) (omega arith) in
      rw (lt-leb (length s) i (at_in s i 123 (123 ∷ l) h), p.0, p.1, q.0) refl

  closing_case : (i : ℕ) (l : List ℕ) → At s i (125 ∷ 125 ∷ l) → text_case 1 s 0 i ≡ doubled
  unfolding text_case
  closing_case i l h =
      let p = at_code s i 125 (125 ∷ l) h (omega arith) in
      let q = at_code s (i + 1) 125 l (at_next s i 125 (125 ∷ l) h) (omega arith) in
      rw (lt-leb (length s) i (at_in s i 125 (125 ∷ l) h), p.0, p.1, q.0) refl

  doubled_brace : (c : ℕ) → c < 0x80 → (i : ℕ) (t l : List ℕ) → At s i (c ∷ c ∷ l) → text_case 1 s 0 i ≡ doubled → text_move look 1 s 0 i t ≡ goes (i + 1 + 1) (t ++ c ∷ [])
  unfolding text_move
  doubled_brace c a i t l h e =
      let n = (at_code s i c (c ∷ l) h a).1 in
      let n' = (at_code s (i + 1) c l (at_next s i c (c ∷ l) h) a).1 in
      rw (e, text_move) (ap₂ (λ j u. goes j (t ++ u)) (ap (next s) n ∙ n') (char_one s i (at_in s i c (c ∷ l) h) n ∙ ap (λ b. b ∷ []) (at_byte s i c (c ∷ l) h)))

  -- WHERE TEXT IS READ with its escapes: at the top, and late in a spec
  abbrev pub Reads : Where → ℕ → Type 0
  Reads top d = d ≡ 0
  Reads early d = ⊥
  Reads late d = d ≡ 1

  module _ (i : ℕ) (t : List ℕ) (ps : List Piece) where
    one_byte : (d b : ℕ) (l : List ℕ) → leb too_deep d ≡ false → eqb b 123 ≡ false → eqb b 125 ≡ false → eqb b 92 ≡ false → At s i (b ∷ l) → text_at look s d i t ps ≡ text_at look s d (i + 1) (t ++ b ∷ []) ps
    one_byte d b l e x y z h =
        let q = at_byte s i b l h in
        calm_byte look s d e i t ps (at_in s i b l h) (rw q x) (rw q y) (rw q z) ∙ ap (λ c. text_at look s d (i + 1) (t ++ c ∷ []) ps) q

    two_bytes : (d b : ℕ) (l : List ℕ) → text_move look 1 s d i t ≡ goes (i + 1 + 1) (t ++ b ∷ []) → At s i (b ∷ b ∷ l) → text_at look s d i t ps ≡ text_at look s d (i + 2) (t ++ b ∷ []) ps
    two_bytes d b l m h =
        let e : i + 1 + 1 ≡ i + 2 = omega arith in
        text_on look s d i t ps (i + 2) (t ++ b ∷ []) (m ∙ ap (λ j. goes j (t ++ b ∷ [])) e) (omega arith) (omega (arith, at_in s (i + 1) b l (at_next s i b (b ∷ l) h)))

    four_bytes : (d c v : ℕ) (l : List ℕ) → text_move look 1 s d i t ≡ goes (i + 1 + 1 + 1 + 1) (t ++ v ∷ []) → At s i (92 ∷ 120 ∷ 55 ∷ c ∷ l) → text_at look s d i t ps ≡ text_at look s d (i + 4) (t ++ v ∷ []) ps
    four_bytes d c v l m h =
        let e : i + 1 + 1 + 1 + 1 ≡ i + 4 = omega arith in
        let k = at_skip s i (92 ∷ 120 ∷ 55 ∷ c ∷ []) l h in
        text_on look s d i t ps (i + 4) (t ++ v ∷ []) (m ∙ ap (λ j. goes j (t ++ v ∷ [])) e) (omega arith) k.0

    top_byte : (b : ℕ) (l : List ℕ) → At s i (spelled_byte top b ++ l) → text_at look s 0 i t ps ≡ text_at look s 0 (i + length (spelled_byte top b)) (t ++ b ∷ []) ps
    unfolding spelled_byte
    top_byte b l h =
        cases (eqb b 92)
        (λ z. let e = eqb-true b 92 z in rw e (two_bytes 0 92 l (backslash_move 0 refl i t l (rw e at h)) (rw e at h)))
        (λ z.
        cases (eqb b 123)
        (λ x. let e = eqb-true b 123 x in rw e (two_bytes 0 123 l (doubled_brace 123 (omega arith) i t l (rw e at h) (opening_case i l (rw e at h))) (rw e at h)))
        (λ x.
        cases (eqb b 125)
        (λ y. let e = eqb-true b 125 y in rw e (two_bytes 0 125 l (doubled_brace 125 (omega arith) i t l (rw e at h) (closing_case i l (rw e at h))) (rw e at h)))
        (λ y. rw (x, y, z) (one_byte 0 b l refl x y z (rw (x, y, z) at h)))))

    late_byte : (b : ℕ) (l : List ℕ) → At s i (spelled_byte late b ++ l) → text_at look s 1 i t ps ≡ text_at look s 1 (i + length (spelled_byte late b)) (t ++ b ∷ []) ps
    unfolding spelled_byte hex_from scalar hex_digit utf8
    late_byte b l h =
        cases (eqb b 92)
        (λ z. let e = eqb-true b 92 z in rw e (two_bytes 1 92 l (backslash_move 1 refl i t l (rw e at h)) (rw e at h)))
        (λ z.
        cases (eqb b 123)
        (λ x. let e = eqb-true b 123 x in rw e (four_bytes 1 98 123 l (hex_move 1 refl i t l 98 (omega arith) refl (rw e at h) 123 refl refl) (rw e at h)))
        (λ x.
        cases (eqb b 125)
        (λ y. let e = eqb-true b 125 y in rw e (four_bytes 1 100 125 l (hex_move 1 refl i t l 100 (omega arith) refl (rw e at h) 125 refl refl) (rw e at h)))
        (λ y. rw (x, y, z) (one_byte 1 b l refl x y z (rw (x, y, z) at h)))))

    text_byte : (w : Where) (d : ℕ) → Reads w d → (b : ℕ) (l : List ℕ) → At s i (spelled_byte w b ++ l) → text_at look s d i t ps ≡ text_at look s d (i + length (spelled_byte w b)) (t ++ b ∷ []) ps
    text_byte top d r b l h = rw r (top_byte b l h)
    text_byte early d r b l h = absurd r
    text_byte late d r b l h = rw r (late_byte b l h)

  -- A SPELLED TEXT is read as the text
  pub text_bytes : (w : Where) (d : ℕ) → Reads w d → (i : ℕ) (t u : List ℕ) (ps : List Piece) (l : List ℕ) → At s i (spelled_text w u ++ l)
      → text_at look s d i t ps ≡ text_at look s d (i + length (spelled_text w u)) (t ++ u) ps
  unfolding spelled_text
  text_bytes w d r i t [] ps l h = let e : i + 0 ≡ i = omega arith in rw (append-nil t, e) refl
  text_bytes w d r i t (b ∷ u) ps l h =
      let k = rw (append_assoc (spelled_byte w b) (spelled_text w u) l) at h in
      let e : i + length (spelled_byte w b) + length (spelled_text w u) ≡ i + length (spelled_byte w b ++ spelled_text w u) = omega (arith, length-append (spelled_byte w b) (spelled_text w u)) in
      text_byte i t ps w d r b (spelled_text w u ++ l) k
      ∙ text_bytes w d r (i + length (spelled_byte w b)) (t ++ b ∷ []) u ps l (at_skip s i (spelled_byte w b) (spelled_text w u ++ l) k)
      ∙ ap₂ (λ j v. text_at look s d j v ps) e (append_assoc t (b ∷ []) u)
