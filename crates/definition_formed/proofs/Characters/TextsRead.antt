-- THE TEXTS OF A READING are whole characters, where the body is and names have scalars. Assumes nothing.
use Rattle.std.specs.Prelude.{if◌then◌else◌}
use mathlib.Core.Path.{◌≡◌, refl, sym, ◌∙◌, ap}
use mathlib.Core.Bool.{Bool, true, false, ◌&&◌, ◌||◌, not, true≢false}
use mathlib.Core.List.{List, [], ◌∷◌, ◌++◌}
use Prim.{Unit, tt}
use Prim.Native.Nat.{ℕ, zero, suc, ◌+◌, ◌-◌, ◌*◌, ◌≤◌, ◌<◌}
use native.Mathlib.Omega.{arith}
use lib.Dec.{ltb, leb, eqb}
use lib.ListN.{length, drop, replicate, length-drop, drop_of_length-le}
use lib.Seq.{take_all}
use mathlib.Core.Option.{Option, none, some}
use borrow.Author.Tests.{leb-true, leb-false, ltb-true, ltb-false, eqb-true, eqb-false, lt-ltb}
use Rattle.definition.specs.Numbers.{is_bytes, is_fstring}
use Rattle.definition.specs.Chars.{◌is◌, byte, part, no_code, at_end, inside, ◌to◌, code, next, char, before, utf8}
use Rattle.definition.specs.Escapes.{Naming, Read, got, refused, Meaning, stands, stays, vanishes, octal_digit, octal_from, hex_digit, scalar, hex_from, named, unicode_name, EscapeCase, ended, simple, octal, hex, name, newline, foreign, other, escape_case, escape, encode, meant}
use Rattle.definition.specs.Body.{Piece, literal, field, spec, Move, goes, stops, calls, ends, with_escape, StringCase, string_case, string_move, string_n, TextCase, text_case, text_move, filled, Signs, Field, state, with_close, fresh, is_blank, add, documented, spaced, formatted, FieldCase, outside, field_case, case_of, conversion_move, open_move, matching, close_move, quote_move, field_move, conversion_of, field_pieces, self_documenting, finished, specified, plain_run, first_end, text_n, field_n, spec_n, enough, alone, read_body}
use Rattle.definition.proofs.Moves.CharLaws.{cases, either, next_from, inside_true, inside_yes, next_ascii, first_passes}
use Rattle.definition_laws.proofs.Moves.Adds.{part_split}
use Rattle.definition_laws.proofs.Characters.Utf8.{Scalar, below, above}
use Rattle.definition_formed.proofs.Characters.WholeChars.{Chars, no_char, chars_append, chars_one, utf8_whole}
use Rattle.definition_formed.proofs.Characters.CharsAt.{At, Step, at_step, Between, to_ascii}

-- what a lookup gives is a scalar
abbrev pub Scalars : Naming → Type 0
Scalars look = (t : List ℕ) → (look t ≡ no_code → ⊥) → Scalar (look t)

module _ (s : List ℕ) where
  abbrev Fine : ℕ → Read Meaning → Type 0
  Fine i (refused x) = Unit {0}
  Fine i (got (stands c) j) = At s j × Scalar c
  Fine i (got stays j) = At s j × (i ≤ j) × Chars (part s i j)
  Fine i (got vanishes j) = At s j

  -- OCTAL AND HEX DIGITS
  digit_most : (c : ℕ) → octal_digit c ≤ 8
  unfolding octal_digit
  digit_most c = cases (inside (48 to 55) c) (λ e. rw e (let h = inside_true 48 55 c e in omega arith)) (λ e. rw e (omega arith))

  octal_fine : (k n v i : ℕ) → (n ≡ 0 → v < 600) → (n ≡ 1 → v < 72) → (n ≡ 2 → v < 9) → n ≤ 2 → At s i → Fine k (octal_from n v s i)
  unfolding octal_from
  octal_fine k zero v i a b c m p = (p, below (let h = a refl in omega arith))
  octal_fine k (suc n) v i a b c m p =
      let f : Fine k (got (stands v) i) = (p, below (value n v a b c m)) in
      go (λ v' h h'. octal_fine k n v' (next s i) h (λ e. h' e) (λ e. absurd (omega arith)) (omega arith) (at_step s i p).rest) f (ltb (octal_digit (code s i)) 8) refl
    where
      value : (n v : ℕ) → (suc n ≡ 0 → v < 600) → (suc n ≡ 1 → v < 72) → (suc n ≡ 2 → v < 9) → suc n ≤ 2 → v < 0xD800
      value zero v a b c m = let h = b refl in omega arith
      value (suc zero) v a b c m = let h = c refl in omega arith
      value (suc (suc n)) v a b c m = absurd (omega arith)

      go : ((v' : ℕ) → (n ≡ 0 → v' < 600) → (n ≡ 1 → v' < 72) → Fine k (octal_from n v' s (next s i))) → Fine k (got (stands v) i) → (t : Bool) → ltb (octal_digit (code s i)) 8 ≡ t → Fine k (octal_from (suc n) v s i)
      go ih f true e =
          let d = ltb-true (octal_digit (code s i)) 8 e in
          rw (e, octal_from) (ih (v * 8 + octal_digit (code s i)) (λ z. let h = b (ap suc z) in omega arith) (λ z. let h = c (ap suc z) in omega arith))
      go ih f false e = rw (e, octal_from) f

  scalar_fine : (k v i letter : ℕ) → At s i → Fine k (scalar v i letter)
  unfolding scalar
  scalar_fine k v i letter p =
      cases (inside (0xD800 to 0xDFFF) v)
      (λ e. rw e (p, above (omega arith) (omega arith)))
      (λ e. cases (leb v 0x10FFFF)
      (λ f. rw (e, f) (p, by_size v e (leb-true v 0x10FFFF f)))
      (λ f. rw (e, f) tt))
    where
      by_size : (v : ℕ) → inside (0xD800 to 0xDFFF) v ≡ false → v ≤ 0x10FFFF → Scalar v
      by_size v e h =
          cases (ltb v 0xD800) (λ t. below (ltb-true v 0xD800 t))
          (λ t. cases (ltb v 0xE000)
          (λ u. let z : ◌≡◌ {A = Bool} true false = sym (inside_yes 0xD800 0xDFFF v (ltb-false v 0xD800 t) (let k = ltb-true v 0xE000 u in omega arith)) ∙ e in absurd (true≢false z))
          (λ u. above (ltb-false v 0xE000 u) h))

  hex_fine : (k n v i letter : ℕ) → At s i → Fine k (hex_from n v s i letter)
  unfolding hex_from
  hex_fine k zero v i letter p = scalar_fine k v i letter p
  hex_fine k (suc n) v i letter p = go (λ v'. hex_fine k n v' (next s i) letter (at_step s i p).rest) (ltb (hex_digit (code s i)) 16) refl
    where
      go : ((v' : ℕ) → Fine k (hex_from n v' s (next s i) letter)) → (t : Bool) → ltb (hex_digit (code s i)) 16 ≡ t → Fine k (hex_from (suc n) v s i letter)
      go ih true e = rw (e, hex_from) (ih (v * 16 + hex_digit (code s i)))
      go ih false e = rw (e, hex_from) tt

  -- an ASCII byte at a beginning is one character
  ascii_next : (i : ℕ) → i < length s → byte s i < 0x80 → next s i ≡ i + 1
  ascii_next i h b = next_ascii s i b

  -- A NAME
  module _ (look : Naming) (names : Scalars look) where
    named_fine : (k i m : ℕ) → At s (i + m + 1) → Fine k (named look s i m)
    unfolding named
    named_fine k i m p =
        cases (ltb 88 m) (λ e. rw e tt)
        (λ e. cases (eqb (look (part s i (i + m))) no_code) (λ f. rw (e, f) tt)
        (λ f. rw (e, f) (p, names (part s i (i + m)) (eqb-false (look (part s i (i + m))) no_code f))))

    name_fine : (k i : ℕ) → At s i → Fine k (unicode_name look s i)
    unfolding unicode_name
    name_fine k i p =
        let inner = next s i in
        let m = before (λ b. b is "}") (drop inner s) in
        cases (code s i is "{")
        (λ e. cases (at_end s (inner + m)) (λ f. rw (e, f) tt)
        (λ f.
        let l = leb-false (length s) (inner + m) f in
        let b = eqb-true (byte s (inner + m)) 125 (first_passes (λ b. b is "}") s inner l) in
        let q = to_ascii s (inner + m) inner (inner + m) (omega arith) (at_step s i p).rest (omega arith) l (omega arith) in
        let r : At s (inner + m + 1) = rw (ascii_next (inner + m) l (omega arith)) at (at_step s (inner + m) q.there).rest in
        rw (e, f) (named_fine k inner m r)))
        (λ e. rw e tt)

    -- AN ESCAPE
    record Small (x : EscapeCase) : Type 0 where
      below : (c : ℕ) → x ≡ simple c → c < 0x80

    pick : (b : Bool) (x y : EscapeCase) → (b ≡ true → Small x) → Small y → Small (if b then x else y)
    pick true x y f g = f refl
    pick false x y f g = g

    code_small : (n : ℕ) → n < 0x80 → Small (simple n)
    code_small n h = record { below = λ c e. let z : n ≡ c = cc in omega arith }

    none_small : (x : EscapeCase) → ((c : ℕ) → x ≡ simple c → ◌≡◌ {A = ℕ} 0 1) → Small x
    none_small x f = record { below = λ c e. let z = f c e in absurd (omega arith) }

    quoted : (c : ℕ) → c is "\\'\"" ≡ true → c < 0x80
    quoted c t =
        either (eqb c 92) (eqb c 39 || eqb c 34) t (λ e. let z = eqb-true c 92 e in omega arith)
        (λ u. either (eqb c 39) (eqb c 34) u (λ e. let z = eqb-true c 39 e in omega arith) (λ e. let z = eqb-true c 34 e in omega arith))

    case_small : (kind i : ℕ) → Small (escape_case kind s i)
    unfolding escape_case
    case_small kind i =
        pick (at_end s i) ended _ (λ e. none_small ended (λ c z. cc))
        (pick (code s i is "\\'\"") (simple (code s i)) _ (λ e. code_small (code s i) (quoted (code s i) e))
        (pick (code s i is "a") (simple 7) _ (λ e. code_small 7 (omega arith))
        (pick (code s i is "b") (simple 8) _ (λ e. code_small 8 (omega arith))
        (pick (code s i is "f") (simple 12) _ (λ e. code_small 12 (omega arith))
        (pick (code s i is "n") (simple 10) _ (λ e. code_small 10 (omega arith))
        (pick (code s i is "r") (simple 13) _ (λ e. code_small 13 (omega arith))
        (pick (code s i is "t") (simple 9) _ (λ e. code_small 9 (omega arith))
        (pick (code s i is "v") (simple 11) _ (λ e. code_small 11 (omega arith))
        (pick (code s i is "01234567") octal _ (λ e. none_small octal (λ c z. cc))
        (pick (code s i is "x") (hex 2) _ (λ e. none_small (hex 2) (λ c z. cc))
        (pick (code s i is "u" && not (is_bytes kind)) (hex 4) _ (λ e. none_small (hex 4) (λ c z. cc))
        (pick (code s i is "U" && not (is_bytes kind)) (hex 8) _ (λ e. none_small (hex 8) (λ c z. cc))
        (pick (code s i is "N" && not (is_bytes kind)) name _ (λ e. none_small name (λ c z. cc))
        (pick (code s i is "\n") newline _ (λ e. none_small newline (λ c z. cc))
        (pick (leb 0x80 (code s i) && is_bytes kind) foreign _ (λ e. none_small foreign (λ c z. cc)) (none_small other (λ c z. cc)))))))))))))))))

    escape_fine : (kind i : ℕ) → At s i → Fine i (escape look kind s i)
    unfolding escape char
    escape_fine kind i p = go (escape_case kind s i) refl (case_small kind i)
      where
        q : Step s i
        q = at_step s i p

        go : (x : EscapeCase) → escape_case kind s i ≡ x → Small (escape_case kind s i) → Fine i (escape look kind s i)
        go ended e h = rw (e, escape) tt
        go (simple c) e h = let k : c < 0x80 = h.below c e in rw (e, escape) (q.rest, below (omega arith))
        go octal e h =
            let d = digit_most (code s i) in
            rw (e, escape) (octal_fine i 2 (octal_digit (code s i)) (next s i) (λ z. absurd (omega arith)) (λ z. absurd (omega arith)) (λ z. omega arith) (omega arith) q.rest)
        go (hex n) e h = rw (e, escape) (hex_fine i n 0 (next s i) (next s i) q.rest)
        go name e h = rw (e, escape) (name_fine i (next s i) q.rest)
        go newline e h = rw (e, escape) q.rest
        go foreign e h = rw (e, escape) tt
        go other e h = rw (e, escape) (q.rest, next_from s i, q.taken)

    -- TEXTS: what a move leaves
    abbrev TextFine : Move (List ℕ) → Type 0
    TextFine (goes j t) = At s j × Chars t
    TextFine (stops x) = Unit {0}
    TextFine calls = Unit {0}
    TextFine ends = Unit {0}

    one_more_lem : (i : ℕ) (t : List ℕ) → At s i → Chars t → Chars (t ++ char s i)
    one_more_lem i t p q = chars_append t (char s i) q (at_step s i p).taken

    two_more : (i : ℕ) → At s i → Chars (part s i (next s (next s i))) × At s (next s (next s i))
    unfolding char
    two_more i p =
        let a = at_step s i p in
        let b = at_step s (next s i) a.rest in
        (rw (part_split s i (next s i) (next s (next s i)) (next_from s i) (next_from s (next s i))) (chars_append (char s i) (char s (next s i)) a.taken b.taken), b.rest)

    char_part : (i : ℕ) → Step s i → Chars (part s i (next s i))
    unfolding char
    char_part i a = a.taken

    module _ (kind : ℕ) (no_bytes_lem : is_bytes kind ≡ false) where
      escape_move : (i : ℕ) (t : List ℕ) → At s i → Chars t → TextFine (with_escape kind s i t (escape look kind s (next s i)))
      unfolding with_escape meant encode char
      escape_move i t p q = go (escape look kind s (next s i)) (escape_fine kind (next s i) (at_step s i p).rest)
        where
          go : (r : Read Meaning) → Fine (next s i) r → TextFine (with_escape kind s i t r)
          go (refused x) f = tt
          go (got (stands c) j) f = (f.0, rw no_bytes_lem (chars_append t (utf8 c) q (chars_one (utf8 c) (utf8_whole c f.1))))
          go (got stays j) f =
              (f.0, chars_append t (part s i j) q (rw (part_split s i (next s i) j (next_from s i) f.1) (chars_append (char s i) (part s (next s i) j) (at_step s i p).taken f.2)))
          go (got vanishes j) f = (f, chars_append t [] q no_char)

      string_fine : (i : ℕ) (t : List ℕ) → At s i → Chars t → TextFine (string_move look kind s i t)
      unfolding string_move
      string_fine i t p q = go (string_case kind s i) refl
        where
          go : (x : StringCase) → string_case kind s i ≡ x → TextFine (string_move look kind s i t)
          go StringCase.over e = rw (e, string_move) tt
          go StringCase.escapes e = rw (e, string_move) (escape_move i t p q)
          go StringCase.foreign e = rw (e, string_move) tt
          go StringCase.plain e = rw (e, string_move) ((at_step s i p).rest, one_more_lem i t p q)

      text_fine : (depth i : ℕ) (t : List ℕ) → At s i → Chars t → TextFine (text_move look kind s depth i t)
      unfolding text_move
      text_fine depth i t p q = go (text_case kind s depth i) refl
        where
          go : (x : TextCase) → text_case kind s depth i ≡ x → TextFine (text_move look kind s depth i t)
          go TextCase.deep e = rw (e, text_move) tt
          go TextCase.over e = rw (e, text_move) tt
          go TextCase.opens e = rw (e, text_move) tt
          go TextCase.last e = rw (e, text_move) tt
          go TextCase.doubled e = rw (e, text_move) ((two_more i p).1, one_more_lem i t p q)
          go TextCase.lone e = rw (e, text_move) tt
          go TextCase.escapes e = rw (e, text_move) (escape_move i t p q)
          go TextCase.plain e = rw (e, text_move) ((at_step s i p).rest, one_more_lem i t p q)

      -- A FIELD
      abbrev Expressed : Field → Type 0
      Expressed (state e b o c d w g) = Chars e

      abbrev FieldFine : Move Field → Type 0
      FieldFine (goes j f) = At s j × Expressed f
      FieldFine (stops x) = Unit {0}
      FieldFine calls = Unit {0}
      FieldFine ends = Unit {0}

      add_fine : (t : List ℕ) (b : Bool) (f : Field) → Chars t → Expressed f → Expressed (add t b f)
      unfolding add
      add_fine t b (state e b' o c d w g) p q = chars_append e t q p

      choose : (b : Bool) (x y : Move Field) → (b ≡ true → FieldFine x) → (b ≡ false → FieldFine y) → FieldFine (if b then x else y)
      choose true x y f g = f refl
      choose false x y f g = g refl

      conversion_fine : (i : ℕ) (f : Field) → At s i → Expressed f → FieldFine (conversion_move s i f)
      unfolding conversion_move
      conversion_fine i (state e b o c d w g) p q =
          let flag = next s i in
          let after = next s flag in
          cases b (λ t. rw t tt)
          (λ t. cases (at_end s flag) (λ u. rw (t, u) tt)
          (λ u. cases (code s flag is "sar") (λ v. cases (code s after is "}:") (λ x. rw (t, u, v, x) ((two_more i p).1, q)) (λ x. rw (t, u, v, x) tt)) (λ v. rw (t, u, v) tt)))

      open_fine : (i : ℕ) (f : Field) → At s i → Expressed f → FieldFine (open_move s i f)
      unfolding open_move
      open_fine i (state e b o c d w g) p q = cases (ltb (length o) 64) (λ t. rw t ((at_step s i p).rest, one_more_lem i e p q)) (λ t. rw t tt)

      close_fine : (i : ℕ) (f : Field) → At s i → Expressed f → FieldFine (close_move s i f)
      unfolding close_move
      close_fine i (state e b [] c d w g) p q = tt
      close_fine i (state e b (a ∷ o) c d w g) p q = cases (matching a.bracket (code s i)) (λ t. rw t ((at_step s i p).rest, one_more_lem i e p q)) (λ t. rw t tt)

      -- a quote is ASCII
      record Quoting (i : ℕ) (x : FieldCase) : Type 0 where
        ascii_code : x ≡ FieldCase.quote → code s i < 0x80

      pick_field : (i : ℕ) (b : Bool) (x y : FieldCase) → (b ≡ true → Quoting i x) → Quoting i y → Quoting i (if b then x else y)
      pick_field i true x y f g = f refl
      pick_field i false x y f g = g

      not_quote : {i : ℕ} (x : FieldCase) → (x ≡ FieldCase.quote → ◌≡◌ {A = ℕ} 0 1) → Quoting i x
      not_quote x f = record { ascii_code = λ e. let z = f e in absurd (omega arith) }

      mark : (c : ℕ) → c is "\"'" ≡ true → c < 0x80
      mark c t = either (eqb c 34) (eqb c 39) t (λ e. let z = eqb-true c 34 e in omega arith) (λ e. let z = eqb-true c 39 e in omega arith)

      case_quoting : (i : ℕ) (out doc : Bool) → Quoting i (field_case s i out doc)
      unfolding field_case
      case_quoting i out doc =
          pick_field i (at_end s i) FieldCase.over _ (λ e. not_quote FieldCase.over (λ z. cc))
          (pick_field i (code s i is "!=><" && code s (next s i) is "=") FieldCase.pair _ (λ e. not_quote FieldCase.pair (λ z. cc))
          (pick_field i (code s i is "!" && out) FieldCase.converts _ (λ e. not_quote FieldCase.converts (λ z. cc))
          (pick_field i (code s i is "=" && out) FieldCase.documents _ (λ e. not_quote FieldCase.documents (λ z. cc))
          (pick_field i (code s i is ":" && out) FieldCase.formats _ (λ e. not_quote FieldCase.formats (λ z. cc))
          (pick_field i (code s i is "([{") FieldCase.opener _ (λ e. not_quote FieldCase.opener (λ z. cc))
          (pick_field i (code s i is "}" && out) FieldCase.closes _ (λ e. not_quote FieldCase.closes (λ z. cc))
          (pick_field i (code s i is ")]}") FieldCase.closer _ (λ e. not_quote FieldCase.closer (λ z. cc))
          (pick_field i (code s i is "\"'") FieldCase.quote _ (λ e. record { ascii_code = λ z. mark (code s i) e })
          (pick_field i (code s i is " " && doc) FieldCase.space _ (λ e. not_quote FieldCase.space (λ z. cc))
          (pick_field i (code s i is "\\") FieldCase.backslash _ (λ e. not_quote FieldCase.backslash (λ z. cc))
          (pick_field i (doc) FieldCase.stray _ (λ e. not_quote FieldCase.stray (λ z. cc)) (not_quote FieldCase.plain (λ z. cc)))))))))))))

      quote_fine : (i : ℕ) (f : Field) → code s i < 0x80 → At s i → Expressed f → FieldFine (quote_move s i f)
      unfolding quote_move
      quote_fine i f h p q =
          let close = next s i + before (λ b. eqb b (code s i)) (drop (next s i) s) in
          cases (at_end s close) (λ t. rw t tt)
          (λ t.
          let l = leb-false (length s) close t in
          let b = eqb-true (byte s close) (code s i) (first_passes (λ b. eqb b (code s i)) s (next s i) l) in
          let a = at_step s i p in
          let m = next_from s i in
          let r = to_ascii s close (next s i) close (omega arith) a.rest (omega arith) l (omega arith) in
          let e = ascii_next close l (omega arith) in
          let z = at_step s close r.there in
          let y : Chars (part s i (close + 1)) = whole_run i close m (omega arith) e a r z in
          rw t (rw e at z.rest, add_fine (part s i (close + 1)) false f y q))
        where
          whole_run : (i close : ℕ) → i ≤ next s i → next s i ≤ close → next s close ≡ close + 1 → Step s i → Between s (next s i) close → Step s close → Chars (part s i (close + 1))
          whole_run i close m k e a r z =
              rw (part_split s i (next s i) (close + 1) m (omega arith), part_split s (next s i) close (close + 1) k (omega arith))
              (chars_append (part s i (next s i)) (part s (next s i) close ++ part s close (close + 1)) (char_part i a) (chars_append (part s (next s i) close) (part s close (close + 1)) r.passed (rw e at (char_part close z))))

      field_fine : (i : ℕ) (f : Field) → At s i → Expressed f → FieldFine (field_move s i f)
      unfolding field_move documented spaced case_of
      field_fine i (state e b o c d w g) p q = go (field_case s i (outside o) d) refl (case_quoting i (outside o) d)
        where
          f : Field
          f = state e b o c d w g

          a : Step s i
          a = at_step s i p

          go : (x : FieldCase) → field_case s i (outside o) d ≡ x → Quoting i (field_case s i (outside o) d) → FieldFine (field_move s i f)
          go FieldCase.over z h = rw (z, field_move) tt
          go FieldCase.pair z h = rw (z, field_move) ((two_more i p).1, add_fine (part s i (next s (next s i))) false f (two_more i p).0 q)
          go FieldCase.converts z h = rw (z, field_move) (conversion_fine i f p q)
          go FieldCase.documents z h = rw (z, field_move) (a.rest, q)
          go FieldCase.formats z h = rw (z, field_move) tt
          go FieldCase.opener z h = rw (z, field_move) (open_fine i f p q)
          go FieldCase.closes z h = rw (z, field_move) tt
          go FieldCase.closer z h = rw (z, field_move) (close_fine i f p q)
          go FieldCase.quote z h = rw (z, field_move) (quote_fine i f (h.ascii_code z) p q)
          go FieldCase.space z h = rw (z, field_move) (a.rest, q)
          go FieldCase.backslash z h = rw (z, field_move) tt
          go FieldCase.stray z h = rw (z, field_move) tt
          go FieldCase.plain z h = rw (z, field_move) (a.rest, add_fine (char s i) (is_blank (code s i)) f a.taken q)

      -- PIECES
      abbrev pub PieceFine : Piece → Type 0
      PieceFine (literal d t) = Chars t
      PieceFine (field d e c n i g) = Chars e
      PieceFine (spec n) = Unit {0}

      abbrev pub AllFine : List Piece → Type 0
      AllFine [] = Unit {0}
      AllFine (x ∷ xs) = PieceFine x × AllFine xs

      abbrev pub Pieces : Read (List Piece) → Type 0
      Pieces (got ps j) = AllFine ps
      Pieces (refused x) = Unit {0}

      all_append : (xs ys : List Piece) → AllFine xs → AllFine ys → AllFine (xs ++ ys)
      all_append [] ys p q = q
      all_append (x ∷ xs) ys p q = (p.0, all_append xs ys p.1 q)

      filled_fine : (depth : ℕ) (t : List ℕ) → Chars t → AllFine (filled depth t)
      unfolding filled
      filled_fine depth [] p = tt
      filled_fine depth (b ∷ t) p = (p, tt)

      ascii_one : (c : ℕ) → c < 0x80 → Chars (c ∷ [])
      unfolding utf8
      ascii_one c h = rw (lt-ltb c 0x80 h) at (chars_one (utf8 c) (utf8_whole c (below (omega arith))))

      spaces_fine : (n : ℕ) → Chars (replicate n 32)
      spaces_fine zero = no_char
      spaces_fine (suc n) = chars_append (32 ∷ []) (replicate n 32) (ascii_one 32 (omega arith)) (spaces_fine n)

      document_fine : (depth : ℕ) (d : Bool) (e : List ℕ) (w : ℕ) → Chars e → AllFine (self_documenting depth d e w)
      unfolding self_documenting
      document_fine depth false e w p = tt
      document_fine depth true e w p = (chars_append e (61 ∷ []) p (ascii_one 61 (omega arith)), (spaces_fine w, tt))

      abbrev SpecFine : Option (List Piece) → Type 0
      SpecFine none = Unit {0}
      SpecFine (some ps) = AllFine ps

      pieces_fine : (depth : ℕ) (e : List ℕ) (c i : ℕ) (g : Signs) (o : Option (List Piece)) → Chars e → SpecFine o → AllFine (field_pieces depth e c i g o)
      unfolding field_pieces
      pieces_fine depth e c i g none p q = (p, tt)
      pieces_fine depth e c i g (some ps) p q = (p, (tt, q))

      abbrev ReadFine : Read (List Piece) → Type 0
      ReadFine (got ps j) = AllFine ps × At s j
      ReadFine (refused x) = Unit {0}

      finished_fine : (depth i j : ℕ) (f : Field) (o : Option (List Piece)) → Expressed f → SpecFine o → At s j → ReadFine (finished depth i j f o)
      unfolding finished
      finished_fine depth i j (state e b br c d w g) o p q a =
          cases b (λ t. rw t tt)
          (λ t. rw t (all_append (self_documenting depth d e w) (field_pieces depth e (conversion_of d c o) i (with_close j g) o) (document_fine depth d e w p) (pieces_fine depth e (conversion_of d c o) i (with_close j g) o p q), a))

      specified_fine : (depth i j : ℕ) (f : Field) (ps : List Piece) → Expressed f → AllFine ps → At s j → ReadFine (specified s depth i j f ps)
      unfolding specified
      specified_fine depth i j f ps p q a = cases (at_end s j) (λ t. rw t tt) (λ t. rw t (finished_fine depth i (next s j) f (some ps) p q (at_step s j a).rest))

      formatted_fine : (j : ℕ) (f : Field) → Expressed f → Expressed (formatted j f)
      unfolding formatted
      formatted_fine j (state e b o c d w g) p = p

      -- a spec's first piece
      first_fine : (i : ℕ) → At s i → Between s i (first_end s i)
      unfolding plain_run
      first_fine i p =
          let j = i + before (λ b. b is "{}") (drop i s) in
          cases (ltb j (length s))
          (λ t.
          let l = ltb-true j (length s) t in
          let b : byte s j < 0x80 = brace (byte s j) (first_passes (λ b. b is "{}") s i l) in
          to_ascii s j i j (omega arith) p (omega arith) l b)
          (λ t.
          let l = ltb-false j (length s) t in
          record { passed = rw (take_all (j - i) (drop i s) (omega (arith, length-drop i s))) p; there = rw (drop_of_length-le s l) no_char })
        where
          brace : (c : ℕ) → c is "{}" ≡ true → c < 0x80
          brace c t = either (eqb c 123) (eqb c 125) t (λ e. let z = eqb-true c 123 e in omega arith) (λ e. let z = eqb-true c 125 e in omega arith)

      -- TEXT, FIELD AND SPEC
      record Three (n : ℕ) : Type 0 where
        texts : (depth i : ℕ) (t : List ℕ) (ps : List Piece) → At s i → Chars t → AllFine ps → ReadFine (text_n look n kind s depth i t ps)
        fields : (depth from i : ℕ) (f : Field) → At s i → Expressed f → ReadFine (field_n look n kind s depth from i f)
        specs : (depth i : ℕ) → At s i → ReadFine (spec_n look n kind s depth i)

      three_zero : Three 0
      unfolding text_n field_n spec_n
      three_zero = record { texts = λ depth i t ps p q r. tt; fields = λ depth from i f p q. tt; specs = λ depth i p. tt }

      fresh_fine : Expressed fresh
      unfolding fresh
      fresh_fine = no_char

      text_step : (n : ℕ) → Three n → (depth i : ℕ) (t : List ℕ) (ps : List Piece) → At s i → Chars t → AllFine ps → ReadFine (text_n look (suc n) kind s depth i t ps)
      unfolding text_n
      text_step n h depth i t ps p q r = go (text_move look kind s depth i t) refl (text_fine depth i t p q)
        where
          after : (x : Read (List Piece)) → field_n look n kind s depth (next s i) (next s i) fresh ≡ x → ReadFine x → text_move look kind s depth i t ≡ calls → ReadFine (text_n look (suc n) kind s depth i t ps)
          after (got qs j) z f e = rw (e, z, text_n) (h.texts depth j [] (ps ++ filled depth t ++ qs) f.1 no_char (all_append (ps ++ filled depth t) qs (all_append ps (filled depth t) r (filled_fine depth t q)) f.0))
          after (refused x) z f e = rw (e, z, text_n) tt

          go : (m : Move (List ℕ)) → text_move look kind s depth i t ≡ m → TextFine (text_move look kind s depth i t) → ReadFine (text_n look (suc n) kind s depth i t ps)
          go (goes j t') e f = let k : At s j × Chars t' = rw e at f in rw (e, text_n) (h.texts depth j t' ps k.0 k.1 r)
          go (stops x) e f = rw (e, text_n) tt
          go calls e f = after (field_n look n kind s depth (next s i) (next s i) fresh) refl (h.fields depth (next s i) (next s i) fresh (at_step s i p).rest fresh_fine) e
          go ends e f = rw (e, text_n) (all_append ps (filled depth t) r (filled_fine depth t q), p)

      field_step : (n : ℕ) → Three n → (depth from i : ℕ) (f : Field) → At s i → Expressed f → ReadFine (field_n look (suc n) kind s depth from i f)
      unfolding field_n
      field_step n h depth from i f p q = go (field_move s i f) refl (field_fine i f p q)
        where
          after : (x : Read (List Piece)) → spec_n look n kind s depth (next s i) ≡ x → ReadFine x → field_move s i f ≡ calls → ReadFine (field_n look (suc n) kind s depth from i f)
          after (got ps j) z k e = rw (e, z, field_n) (specified_fine depth from j (formatted (next s i) f) ps (formatted_fine (next s i) f q) k.0 k.1)
          after (refused x) z k e = rw (e, z, field_n) tt

          go : (m : Move Field) → field_move s i f ≡ m → FieldFine (field_move s i f) → ReadFine (field_n look (suc n) kind s depth from i f)
          go (goes j f') e k = let v : At s j × Expressed f' = rw e at k in rw (e, field_n) (h.fields depth from j f' v.0 v.1)
          go (stops x) e k = rw (e, field_n) tt
          go calls e k = after (spec_n look n kind s depth (next s i)) refl (h.specs depth (next s i) (at_step s i p).rest) e
          go ends e k = rw (e, field_n) (finished_fine depth from (next s i) f none q tt (at_step s i p).rest)

      spec_step : (n : ℕ) → Three n → (depth i : ℕ) → At s i → ReadFine (spec_n look (suc n) kind s depth i)
      unfolding spec_n
      spec_step n h depth i p =
          let j = first_end s i in
          let b = first_fine i p in
          let f = filled_fine (suc depth) (part s i j) b.passed in
          cases (code s j is "{") (λ t. rw (t, spec_n) (h.texts (suc depth) j [] (filled (suc depth) (part s i j)) b.there no_char f)) (λ t. rw (t, spec_n) (f, b.there))

      three : (n : ℕ) → Three n
      three zero = three_zero
      three (suc n) = let h = three n in record { texts = text_step n h; fields = field_step n h; specs = spec_step n h }

      -- A STRING
      abbrev StringFine : Read (List ℕ) → Type 0
      StringFine (got t j) = Chars t
      StringFine (refused x) = Unit {0}

      string_read : (n i : ℕ) (t : List ℕ) → At s i → Chars t → StringFine (string_n look n kind s i t)
      unfolding string_n
      string_read zero i t p q = tt
      string_read (suc n) i t p q = go (λ j t' a b. string_read n j t' a b) (string_move look kind s i t) refl (string_fine i t p q)
        where
          go : ((j : ℕ) (t' : List ℕ) → At s j → Chars t' → StringFine (string_n look n kind s j t')) → (m : Move (List ℕ)) → string_move look kind s i t ≡ m → TextFine (string_move look kind s i t) → StringFine (string_n look (suc n) kind s i t)
          go ih (goes j t') e f = let k : At s j × Chars t' = rw e at f in rw (e, string_n) (ih j t' k.0 k.1)
          go ih (stops x) e f = rw (e, string_n) tt
          go ih calls e f = rw (e, string_n) tt
          go ih ends e f = rw (e, string_n) q

      alone_fine : (r : Read (List ℕ)) → StringFine r → Pieces (alone r)
      unfolding alone
      alone_fine (got t j) p = (p, tt)
      alone_fine (refused x) p = tt

      -- A BODY
      pub body_fine : Chars s → Pieces (read_body look kind s)
      unfolding read_body
      body_fine p =
          cases (is_fstring kind) (λ t. rw (t, read_body) (pieces (text_n look (enough s) kind s 0 0 [] []) ((three (enough s)).texts 0 0 [] [] p no_char tt)))
          (λ t. rw (t, read_body) (alone_fine (string_n look (enough s) kind s 0 []) (string_read (enough s) 0 [] p no_char)))
        where
          pieces : (r : Read (List Piece)) → ReadFine r → Pieces r
          pieces (got ps j) h = h.0
          pieces (refused x) h = tt
