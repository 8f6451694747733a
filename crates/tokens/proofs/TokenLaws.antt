-- What a step of the reader tells of a token. Assumes nothing.
use Rattle.std.specs.Prelude.{if◌then◌else◌, Result, Ok, Err, Some, None}
use Rattle.std.specs.Result.{result_ok}
use Rattle.std.proofs.lemmas.Option.{none-some, same_Some}
use mathlib.Core.Path.{◌≡◌, refl, sym, ap, ◌∙◌}
use mathlib.Core.List.{List}
use mathlib.Core.Logic.{◌⊎◌, inl, inr}
use mathlib.Core.Option.{Option, none, some}
use Prim.Native.Nat.{ℕ, ◌≤◌, ◌<◌}
use native.Mathlib.Omega.{arith}
use borrow.Author.Tests.{le-leb, lt-leb, leb-true, leb-false, ne_eqb}
use lib.ListN.{length}
use Rattle.definition.specs.Chars.{◌is◌, at_end, no_code, code, next}
use Rattle.definition.specs.Escapes.{Fault, got, refused, Meaning}
use Rattle.definition.specs.Body.{Piece, with_escape, text_case, text_move}
use Rattle.definition_cuts.specs.Tokens.{end_of, move_end, staying, token_end}
use Rattle.definition.proofs.Moves.CharLaws.{cases}
use Rattle.definition_cuts_laws.proofs.Tokens.TokenMarks.{token_on, no_some}
use Rattle.utf8.specs.declared.Cursor.{Cursor}
use Rattle.utf8.proofs.Steps.{Stepped}
use Rattle.texts.specs.declared.NoEnd.{NoEnd}
use Rattle.texts.specs.declared.NoEnd.TheVariants as ends
use Rattle.texts.specs.EscapeEnds.{escape_after, EscapeIs}
use Rattle.bodies.specs.FieldEnds.{field_from, EndIs as FieldIs}
use Rattle.edges.specs.Edges.{Opens}
use Rattle.tokens.specs.declared.NoToken.{NoToken}
use Rattle.tokens.specs.declared.NoToken.TheVariants.{Refused, TooLong}
use Rattle.tokens.specs.Tokens.{of_end, EndIs, TokenIs}

code_end : (s : List ℕ) (i : ℕ) → length s ≤ i → code s i ≡ no_code
unfolding code
code_end s i h = rw (le-leb (length s) i h, code) refl

-- ONE STEP at i, by the character there
module _ (s : List ℕ) (i : ℕ) where
  pub past_none : length s ≤ i → move_end s i ≡ none
  unfolding move_end text_move text_case
  past_none h = rw (le-leb (length s) i h, move_end, text_move, text_case) refl

  module _ (c : ℕ) (k : Cursor) (t : Stepped s i c k) where
    pub plain_end_lem : (c ≡ 0x7B → ⊥) → (c ≡ 0x7D → ⊥) → (c ≡ 0x5C → ⊥) → move_end s i ≡ some k.at
    unfolding move_end text_move text_case
    plain_end_lem l r b = rw (lt-leb _ _ t.there, t.code_is, ne_eqb _ _ l, ne_eqb _ _ r, ne_eqb _ _ b, move_end, text_move, text_case, t.next_is) refl

  module _ (k : Cursor) (t : Stepped s i 0x7B k) where
    pub left_last : length s ≤ k.at → move_end s i ≡ none
    unfolding move_end text_move text_case
    left_last h = rw (lt-leb _ _ t.there, t.code_is, t.next_is, code_end s k.at h, le-leb _ _ h, move_end, text_move, text_case) refl

    module _ (c : ℕ) (m : Cursor) (u : Stepped s k.at c m) where
      pub left_doubled : c ≡ 0x7B → move_end s i ≡ some m.at
      unfolding move_end text_move text_case
      left_doubled e = rw (lt-leb _ _ t.there, t.code_is, t.next_is, u.code_is, e, move_end, text_move, text_case, t.next_is, u.next_is) refl

      pub left_opens : (c ≡ 0x7B → ⊥) → Opens s i
      unfolding text_move text_case
      left_opens e = rw (lt-leb _ _ t.there, t.code_is, t.next_is, u.code_is, ne_eqb _ _ e, lt-leb _ _ u.there, text_move, text_case) refl

  -- a field opens
  module _ (o : Opens s i) where
    pub left_field : (j : ℕ) (ps : List Piece) → field_from s (next s i) ≡ got ps j → move_end s i ≡ some j
    unfolding move_end end_of
    left_field j ps f = rw (o, move_end, f, end_of) refl

    pub left_refused : (x : Fault) → field_from s (next s i) ≡ refused x → move_end s i ≡ none
    unfolding move_end end_of
    left_refused x f = rw (o, move_end, f, end_of) refl

    pub field_ends : (j : ℕ) → FieldIs s i (Ok j) → move_end s i ≡ some j
    field_ends j h = left_field j _ h.2.1

    pub no_field : length s ≤ 1048576 → (e : NoEnd) → FieldIs s i (Err e) → EndIs (move_end s i) (Err (of_end e))
    no_field l ends.Refused h = left_refused _ h.2.1
    no_field l ends.Nowhere h = absurd (h.1 o)
    no_field l ends.TooLong h = absurd (omega (arith, h, l))

  module _ (k : Cursor) (t : Stepped s i 0x7D k) where
    pub right_last : length s ≤ k.at → move_end s i ≡ none
    unfolding move_end text_move text_case
    right_last h = rw (lt-leb _ _ t.there, t.code_is, t.next_is, code_end s k.at h, move_end, text_move, text_case) refl

    module _ (c : ℕ) (m : Cursor) (u : Stepped s k.at c m) where
      pub right_doubled : c ≡ 0x7D → move_end s i ≡ some m.at
      unfolding move_end text_move text_case
      right_doubled e = rw (lt-leb _ _ t.there, t.code_is, t.next_is, u.code_is, e, move_end, text_move, text_case, t.next_is, u.next_is) refl

      pub right_lone : (c ≡ 0x7D → ⊥) → move_end s i ≡ none
      unfolding move_end text_move text_case
      right_lone e = rw (lt-leb _ _ t.there, t.code_is, t.next_is, u.code_is, ne_eqb _ _ e, move_end, text_move, text_case) refl

  module _ (k : Cursor) (t : Stepped s i 0x5C k) (p : ℕ) (e : p ≡ code s k.at) where
    pub stays : (p ≡ 0x7B) ⊎ (p ≡ 0x7D) → move_end s i ≡ some k.at
    unfolding move_end text_move text_case
    stays (inl h) = rw (lt-leb _ _ t.there, t.code_is, t.next_is, sym e, h, move_end, text_move, text_case, t.next_is) refl
    stays (inr h) = rw (lt-leb _ _ t.there, t.code_is, t.next_is, sym e, h, move_end, text_move, text_case, t.next_is) refl

    module _ (n : (p ≡ 0x7B) ⊎ (p ≡ 0x7D) → ⊥) where
      l : p ≡ 0x7B → ⊥
      l h = n (inl h)

      r : p ≡ 0x7D → ⊥
      r h = n (inr h)

      pub escape_ends : (m : Meaning) (j : ℕ) → escape_after s i ≡ got m j → move_end s i ≡ some j
      unfolding move_end text_move text_case with_escape
      escape_ends m j f = rw (lt-leb _ _ t.there, t.code_is, t.next_is, sym e, ne_eqb _ _ l, ne_eqb _ _ r, move_end, text_move, text_case, f, with_escape) refl

      pub escape_refused : (x : Fault) → escape_after s i ≡ refused x → move_end s i ≡ none
      unfolding move_end text_move text_case with_escape
      escape_refused x f = rw (lt-leb _ _ t.there, t.code_is, t.next_is, sym e, ne_eqb _ _ l, ne_eqb _ _ r, move_end, text_move, text_case, f, with_escape) refl

      pub no_escape : length s ≤ 1048576 → (f : NoEnd) → EscapeIs s i (Err f) → EndIs (move_end s i) (Err (of_end f))
      no_escape m ends.Refused h = escape_refused _ h.2.1
      no_escape m ends.Nowhere h = let x = t.there in absurd (omega (arith, h.1, x))
      no_escape m ends.TooLong h = absurd (omega (arith, h, m))

-- A BACKSLASH THAT STAYS
module _ (s : List ℕ) (i : ℕ) where
  pub past_end : length s ≤ i → (if staying s i then next s i else i) ≡ i
  unfolding staying code
  past_end h = rw (le-leb (length s) i h, staying, code) refl

  module _ (c : ℕ) (k : Cursor) (t : Stepped s i c k) where
    pub not_backslash : (c ≡ 0x5C → ⊥) → (if staying s i then next s i else i) ≡ i
    unfolding staying
    not_backslash h = rw (t.code_is, ne_eqb c 92 h, staying) refl

    pub not_brace : (p : ℕ) → p ≡ code s k.at → ((p ≡ 0x7B) ⊎ (p ≡ 0x7D) → ⊥) → (if staying s i then next s i else i) ≡ i
    unfolding staying
    not_brace p e n =
        cases (code s i is "\\") (λ b. rw (b, t.next_is, sym e, ne_eqb p 123 (λ h. n (inl h)), ne_eqb p 125 (λ h. n (inr h)), staying) refl) (λ b. rw (b, staying) refl)

    pub past_brace : c ≡ 0x5C → (p : ℕ) → p ≡ code s k.at → (p ≡ 0x7B) ⊎ (p ≡ 0x7D) → k.at ≡ (if staying s i then next s i else i)
    unfolding staying
    past_brace h p e (inl g) = rw (t.code_is, h, t.next_is, sym e, g, staying) refl
    past_brace h p e (inr g) = rw (t.code_is, h, t.next_is, sym e, g, staying) refl

  -- THE TOKEN
  token_told : (o : Option ℕ) → move_end s (if staying s i then next s i else i) ≡ o → token_end s i ≡ o
  unfolding token_end
  token_told o e = cases (staying s i) (λ t. rw (t, token_end) (rw t at e)) (λ t. rw (t, token_end) (rw t at e))

  -- past the end there is none
  none_past : length s ≤ i → token_end s i ≡ none
  unfolding token_end staying code move_end text_move text_case
  none_past h = rw (le-leb (length s) i h, token_end, staying, code, move_end, text_move, text_case) refl

  pub token_is : (l : length s ≤ 1048576) (j : ℕ) (r : Result ℕ NoToken) → j ≡ (if staying s i then next s i else i) → EndIs (move_end s j) r → TokenIs s i r
  token_is l j (Ok k) e f =
      let t : token_end s i ≡ some k = token_told (some k) (rw (← e) f) in
      let h : i < length s = cases (at_end s i) (λ a. no_some k (sym (none_past (leb-true (length s) i a)) ∙ t)) (λ a. leb-false (length s) i a) in
      let O = token_on s i k h t in
      (t, O.2, O.3, l)
  token_is l j (Err Refused) e f = (token_told none (rw (← e) f), l)
  token_is l j (Err TooLong) e f = absurd f

-- WHAT IS TOLD of a token by an end alone, of a body of at most 1 MiB
module _ (s : List ℕ) (i : ℕ) (r : Result ℕ NoToken) (t : TokenIs s i r) where
  pub no_end : length s ≤ 1048576 → result_ok r ≡ None → token_end s i ≡ none
  no_end l e = go r t e
    where
      go : (r : Result ℕ NoToken) → TokenIs s i r → result_ok r ≡ None → token_end s i ≡ none
      go (Ok j) t e = absurd (none-some j (sym e))
      go (Err Refused) t e = t.0
      go (Err TooLong) t e = absurd (omega (arith, t, l))

  pub an_end : (j : ℕ) → result_ok r ≡ Some j → (token_end s i ≡ some j) × (i < j) × (j ≤ length s)
  an_end j e = go r t e
    where
      go : (r : Result ℕ NoToken) → TokenIs s i r → result_ok r ≡ Some j → (token_end s i ≡ some j) × (i < j) × (j ≤ length s)
      go (Ok k) t e = let q = same_Some k j e in (t.0 ∙ ap some q, omega (arith, q, t.1), omega (arith, q, t.2))
      go (Err x) t e = absurd (none-some j e)
