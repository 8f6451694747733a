-- A field that ends in a window is the same field in both texts, but for places. Assumes nothing.
use Rattle.std.specs.Prelude.{if◌then◌else◌}
use mathlib.Core.Path.{◌≡◌, refl, sym, ◌∙◌, ap, ap₂}
use mathlib.Core.Bool.{Bool, true, false, not}
use mathlib.Core.List.{List, [], ◌∷◌, ◌++◌, map, map-append}
use mathlib.Core.Option.{Option, none, some}
use Prim.Native.Nat.{ℕ, suc, ◌+◌, ◌<◌}
use native.Mathlib.Omega.{arith}
use borrow.Author.Tests.{lt-leb}
use lib.Dec.{ltb, eqb}
use lib.ListN.{length, drop}
use Rattle.definition.specs.Chars.{◌is◌, part, at_end, code, next, char, before}
use Rattle.definition.specs.Escapes.{Fault, got}
use Rattle.definition.specs.Body.{Signs, Piece, literal, field, spec, Bracket, Move, goes, stops, calls, ends, Field, state, signs, with_bang, with_close, add, documented, spaced, FieldCase, pair, converts, documents, formats, opener, closes, closer, quote, space, backslash, stray, outside, field_case, case_of, conversion_move, open_move, close_move, quote_move, matching, field_move, direct, conversion_of, field_pieces, self_documenting, finished}
use Rattle.definition.proofs.Moves.CharLaws.{cases, next_from, next_ascii}
use Rattle.definition_laws.proofs.Moves.Adds.{ascii_in, closing}
use Rattle.definition_cuts_laws.proofs.Windows.Window.{Window, At, not_end, not_end', eqb_like, is_like, next_like, code_like, part_like, char_like, before_like}
use Rattle.definition_cuts_laws.proofs.Windows.WindowEscapes.{not_got}

-- a piece without its places
abbrev pub bare : Piece → Piece
bare (literal d t) = literal d t
bare (field d e c n i g) = field d e c n 0 (signs 0 0 0 0)
bare (spec n) = spec n

-- the same pieces, but for places
abbrev pub Same : List Piece → List Piece → Type 0
Same ps qs = map bare ps ≡ map bare qs

pub same_append : (ps ps' qs qs' : List Piece) → Same ps ps' → Same qs qs' → Same (ps ++ qs) (ps' ++ qs')
same_append ps ps' qs qs' p q = map-append bare ps qs ∙ ap₂ ◌++◌ p q ∙ sym (map-append bare ps' qs')

direct_bare : (d : ℕ) (ps : List Piece) → direct d (map bare ps) ≡ direct d ps
unfolding direct
direct_bare d [] = refl
direct_bare d (literal e t ∷ ps) = ap (λ n. (if eqb e d then 1 else 0) + n) (direct_bare d ps)
direct_bare d (field e t c n i g ∷ ps) = ap (λ n. (if eqb e d then 1 else 0) + n) (direct_bare d ps)
direct_bare d (spec n ∷ ps) = direct_bare d ps

direct_same : (d : ℕ) (ps qs : List Piece) → Same ps qs → direct d ps ≡ direct d qs
direct_same d ps qs h = sym (direct_bare d ps) ∙ ap (direct d) h ∙ direct_bare d qs

-- the kinds of the open brackets
abbrev pub codes : List Bracket → List ℕ
codes o = map (λ x. x.bracket) o

outside_like : (o o' : List Bracket) → codes o ≡ codes o' → outside o ≡ outside o'
unfolding outside
outside_like [] [] h = refl
outside_like [] (x ∷ o') h = cc
outside_like (x ∷ o) [] h = cc
outside_like (x ∷ o) (x' ∷ o') h = refl

length_like : (o o' : List Bracket) → codes o ≡ codes o' → length o ≡ length o'
length_like [] [] h = refl
length_like [] (x ∷ o') h = let z : ◌≡◌ {A = ℕ} 0 1 = cc in absurd (omega arith)
length_like (x ∷ o) [] h = let z : ◌≡◌ {A = ℕ} 0 1 = cc in absurd (omega arith)
length_like (x ∷ o) (x' ∷ o') h = let t : codes o ≡ codes o' = cc in omega (arith, length_like o o' t)

-- what is finished
pub finished_like : (depth from from' k k' : ℕ) (e : List ℕ) (b : Bool) (o o' : List Bracket) (c : ℕ) (d : Bool) (w : ℕ) (g g' : Signs) (p p' : Option (List Piece)) (qs : List Piece) (j : ℕ)
    → conversion_of d c p ≡ conversion_of d c p'
    → ((c : ℕ) → Same (field_pieces depth e c from (with_close k g) p) (field_pieces depth e c from' (with_close k' g') p'))
    → finished depth from k (state e b o c d w g) p ≡ got qs j
    → (qs' : List Piece) × (finished depth from' k' (state e b o' c d w g') p' ≡ got qs' k') × Same qs qs'
unfolding finished
finished_like depth from from' k k' e b o o' c d w g g' p p' qs j h f x = go b refl
  where
    go : (t : Bool) → b ≡ t → (qs' : List Piece) × (finished depth from' k' (state e b o' c d w g') p' ≡ got qs' k') × Same qs qs'
    go true t = not_got _ qs j (rw t at x)
    go false t =
        let l = self_documenting depth d e w in
        let y : got (l ++ field_pieces depth e (conversion_of d c p) from (with_close k g) p) k ≡ got qs j = rw t at x in
        let z : l ++ field_pieces depth e (conversion_of d c p) from (with_close k g) p ≡ qs = cc in
        let u = same_append l l (field_pieces depth e (conversion_of d c p) from (with_close k g) p) (field_pieces depth e (conversion_of d c p) from' (with_close k' g') p') refl (f (conversion_of d c p)) in (
          l ++ field_pieces depth e (conversion_of d c p') from' (with_close k' g') p',
          rw t refl,
          ap (map bare) (sym z) ∙ u ∙ ap (λ c. map bare (l ++ field_pieces depth e c from' (with_close k' g') p')) h,
        )

pub conversion_some : (d : Bool) (c : ℕ) (ps ps' : List Piece) → conversion_of d c (some ps) ≡ conversion_of d c (some ps')
unfolding conversion_of
conversion_some true c ps ps' = refl
conversion_some false c ps ps' = refl

pub pieces_none : (depth : ℕ) (e : List ℕ) (c from from' : ℕ) (g g' : Signs) → Same (field_pieces depth e c from g none) (field_pieces depth e c from' g' none)
unfolding field_pieces
pieces_none depth e c from from' g g' = refl

pub pieces_some : (depth : ℕ) (e : List ℕ) (c from from' : ℕ) (g g' : Signs) (ps ps' : List Piece) → Same ps ps' → Same (field_pieces depth e c from g (some ps)) (field_pieces depth e c from' g' (some ps'))
unfolding field_pieces
pieces_some depth e c from from' g g' ps ps' h =
    ap₂ (λ (n : ℕ) (l : List Piece). field depth e c 1 0 (signs 0 0 0 0) ∷ spec n ∷ l) (direct_same (suc depth) ps ps' h) h

module _ (s s' : List ℕ) (a b low top : ℕ) (W : Window s s' a b low top) where
  abbrev Here : (p p' : ℕ) → Type 0
  Here p p' = At s s' a b low top W p p'

  -- a move and one that does the same
  pub data Like : Move Field → Move Field → Type 0 where
    on : {q q' : ℕ} {e : List ℕ} {x : Bool} {o o' : List Bracket} {c : ℕ} {d : Bool} {w : ℕ} {g g' : Signs}
        → Here q q' → codes o ≡ codes o' → Like (goes q (state e x o c d w g)) (goes q' (state e x o' c d w g'))
    halted : {x : Fault} {m : Move Field} → Like (stops x) m
    calling : Like calls calls
    ending : Like ends ends

  pub field_case_like : (p p' : ℕ) (out doc : Bool) → Here p p' → p < top → next s p < top → field_case s p out doc ≡ field_case s' p' out doc
  unfolding field_case
  field_case_like p p' out doc m h l =
      let q = next_like s s' a b low top W p p' m h (omega arith) in
      rw (not_end s s' a b low top W p p' m h, not_end' s s' a b low top W p p' m h, code_like s s' a b low top W p p' m h (omega arith), eqb_like s s' a b low top W (next s p) (next s' p') q l 61 (omega arith)) refl

  module _ (p p' : ℕ) (m : Here p p') (h : p < top) (l : next s p < top) where
    i : ℕ
    i = next s p

    i' : ℕ
    i' = next s' p'

    mi : Here (next s p) (next s' p')
    mi = next_like s s' a b low top W p p' m h (omega arith)

    same_code : code s p ≡ code s' p'
    same_code = code_like s s' a b low top W p p' m h (omega arith)

    same_char : char s p ≡ char s' p'
    same_char = char_like s s' a b low top W p p' m h (omega arith)

    module _ (e : List ℕ) (x : Bool) (o o' : List Bracket) (c : ℕ) (d : Bool) (w : ℕ) (g g' : Signs) (k : codes o ≡ codes o') where
      f : Field
      f = state e x o c d w g

      f' : Field
      f' = state e x o' c d w g'

      abbrev Bound : Move Field → Type 0
      Bound y = (q : ℕ) (f : Field) → y ≡ goes q f → q < top

      convert_like : Bound (conversion_move s p (state e x o c d w g)) → Like (conversion_move s p (state e x o c d w g)) (conversion_move s' p' (state e x o' c d w g'))
      unfolding conversion_move
      convert_like bound =
          cases x (λ t. rw t halted) (λ t.
          cases (not (code s (next s p) is "sar")) (λ u. rw (t, not_end s s' a b low top W (next s p) (next s' p') mi l, u) halted) (λ u.
          cases (code s (next s (next s p)) is "}:") (λ v.
          let r = bound (next s (next s p)) (state e x o (code s (next s p)) d w (with_bang (next s p) g)) (rw (t, not_end s s' a b low top W (next s p) (next s' p') mi l, u, v) refl) in
          let ma = next_like s s' a b low top W (next s p) (next s' p') mi l (omega arith) in
          let u' : not (code s' (next s' p') is "sar") ≡ false = ap not (sym (is_like s s' a b low top W (next s p) (next s' p') mi l "sar" (omega arith, (omega arith, (omega arith, tt))))) ∙ u in
          let v' : (code s' (next s' (next s' p')) is "}:") ≡ true = sym (is_like s s' a b low top W (next s (next s p)) (next s' (next s' p')) ma r "}:" (omega arith, (omega arith, tt))) ∙ v in
          rw (t, not_end s s' a b low top W (next s p) (next s' p') mi l, u, v, not_end' s s' a b low top W (next s p) (next s' p') mi l, u', v', code_like s s' a b low top W (next s p) (next s' p') mi l (omega arith))
          (on ma k))
          (λ v. rw (t, not_end s s' a b low top W (next s p) (next s' p') mi l, u, v) halted)))

      open_like : Like (open_move s p (state e x o c d w g)) (open_move s' p' (state e x o' c d w g'))
      unfolding open_move
      open_like =
          rw (← length_like o o' k, same_char)
          (cases (ltb (length o) 64) (λ t. rw t (on mi (ap₂ (λ (n : ℕ) (r : List ℕ). n ∷ r) same_code k))) (λ t. rw t halted))

    close_like : (e : List ℕ) (x : Bool) (o o' : List Bracket) (c : ℕ) (d : Bool) (w : ℕ) (g g' : Signs) → codes o ≡ codes o'
        → Like (close_move s p (state e x o c d w g)) (close_move s' p' (state e x o' c d w g'))
    unfolding close_move
    close_like e x [] o' c d w g g' k = halted
    close_like e x (y ∷ o) [] c d w g g' k = let z : ◌≡◌ {A = ℕ} 0 1 = cc in absurd (omega arith)
    close_like e x (y ∷ o) (y' ∷ o') c d w g g' k =
        let z : y.bracket ≡ y'.bracket = cc in
        let k' : codes o ≡ codes o' = cc in
        rw (← z, ← same_code, same_char)
        (cases (matching y.bracket (code s p)) (λ t. rw t (on mi k')) (λ t. rw t halted))

    module _ (e : List ℕ) (x : Bool) (o o' : List Bracket) (c : ℕ) (d : Bool) (w : ℕ) (g g' : Signs) (k : codes o ≡ codes o') where
      quote_like : Bound e x o o' c d w g g' k (quote_move s p (state e x o c d w g)) → Like (quote_move s p (state e x o c d w g)) (quote_move s' p' (state e x o' c d w g'))
      unfolding quote_move add
      quote_like bound =
          rw (← same_code)
          (cases (at_end s (closing s p)) (λ t. rw t halted)
          (λ t.
          let r = bound (closing s p + 1) (add (part s p (closing s p + 1)) false (state e x o c d w g)) (rw t refl) in
          let n = before (λ b. eqb b (code s p)) (drop (next s p) s) in
          let u = before_like s s' a b low top W (λ b. eqb b (code s p)) n (next s p) (next s' p') mi refl (omega arith) in
          let y : closing s p + 1 + a ≡ next s' p' + n + 1 + b = omega (arith, mi.0) in
          let z = part_like s s' a b low top W p p' (closing s p + 1) (next s' p' + n + 1) m y (omega (arith, next_from s p)) (omega arith) in
          let v : next s' p' + n < length s' = omega (arith, W.within') in
          rw (t, u, lt-leb (length s') (next s' p' + n) v, ← z) (on (y, omega (arith, m.1, next_from s p)) k)))

      -- a move in a field, whose character is not the last of the window
      pub move_like : Bound e x o o' c d w g g' k (field_move s p (state e x o c d w g)) → Like (field_move s p (state e x o c d w g)) (field_move s' p' (state e x o' c d w g'))
      unfolding field_move case_of add documented spaced
      move_like bound = go (field_case s p (outside o) d) refl
        where
          other : (y : FieldCase) → field_case s p (outside o) d ≡ y → field_case s' p' (outside o') d ≡ y
          other y q = ap (λ t. field_case s' p' t d) (sym (outside_like o o' k)) ∙ sym (field_case_like p p' (outside o) d m h l) ∙ q

          F : Move Field
          F = field_move s p (state e x o c d w g)

          go : (y : FieldCase) → field_case s p (outside o) d ≡ y → Like (field_move s p (state e x o c d w g)) (field_move s' p' (state e x o' c d w g'))
          go FieldCase.over q = rw (q, field_move) halted
          go pair q =
              let r = bound (next s (next s p)) (add (part s p (next s (next s p))) false (state e x o c d w g)) (rw (q, field_move) refl) in
              let ma = next_like s s' a b low top W (next s p) (next s' p') mi l (omega arith) in
              let z = part_like s s' a b low top W p p' (next s (next s p)) (next s' (next s' p')) m ma.0 (omega (arith, next_from s p, next_from s (next s p))) (omega arith) in
              rw (q, other pair q, field_move) (rw (← z) (on ma k))
          go converts q = rw (q, other converts q, field_move) (convert_like e x o o' c d w g g' k (λ r f e. bound r f (rw (q, field_move) e)))
          go documents q = rw (q, other documents q, field_move) (on mi k)
          go formats q = rw (q, other formats q, field_move) calling
          go opener q = rw (q, other opener q, field_move) (open_like e x o o' c d w g g' k)
          go closes q = rw (q, other closes q, field_move) ending
          go closer q = rw (q, other closer q, field_move) (close_like e x o o' c d w g g' k)
          go quote q = rw (q, other quote q, field_move) (quote_like (λ r f e. bound r f (rw (q, field_move) e)))
          go space q = rw (q, other space q, field_move) (on mi k)
          go backslash q = rw (q, field_move) halted
          go stray q = rw (q, field_move) halted
          go FieldCase.plain q = rw (q, other FieldCase.plain q, field_move) (rw (← same_code, ← same_char) (on mi k))

  -- a `}` outside brackets ends a field wherever it stands
  closes_there : (p p' : ℕ) (o o' : List Bracket) (d : Bool) → Here p p' → p < top → codes o ≡ codes o' → outside o ≡ true → code s' p' ≡ 125 → field_case s' p' (outside o') d ≡ closes
  unfolding field_case
  closes_there p p' o o' d m h k z q = rw (not_end' s s' a b low top W p p' m h, q, sym (outside_like o o' k) ∙ z) refl

  pub end_like : (p p' : ℕ) (e : List ℕ) (x : Bool) (o o' : List Bracket) (c : ℕ) (d : Bool) (w : ℕ) (g g' : Signs) → Here p p' → p < top → codes o ≡ codes o'
      → code s p ≡ 125 → outside o ≡ true → field_move s' p' (state e x o' c d w g') ≡ ends
  unfolding field_move case_of
  end_like p p' e x o o' c d w g g' m h k y z =
      let u = ascii_in s p (omega arith) in
      let v = next_ascii s p u in
      let q : code s' p' ≡ 125 = sym (code_like s s' a b low top W p p' m h (omega arith)) ∙ y in
      rw (closes_there p p' o o' d m h k z q, field_move) refl
