-- The boundaries of a body are where its tokens end. Assumes nothing.
use mathlib.Core.Path.{◌≡◌, refl, sym, ◌∙◌, ap, subst}
use mathlib.Core.Bool.{Bool, true, false}
use mathlib.Core.List.{List, [], ◌∷◌, ◌++◌, append_assoc}
use mathlib.Core.Option.{Option, none, some}
use Prim.Native.Nat.{ℕ, zero, suc, ◌+◌, ◌≤◌, ◌<◌}
use native.Mathlib.Omega.{arith}
use borrow.Author.Tests.{ltb-false, le-ltb, leb-true, leb-false, le-leb, lt-leb}
use lib.Dec.{ltb}
use lib.ListN.{length}
use Rattle.definition.specs.Chars.{at_end, next, char, well_formed}
use Rattle.definition.specs.Escapes.{held_names, Read, got, refused}
use Rattle.definition.specs.Body.{Piece, Move, goes, stops, calls, ends, text_move, filled}
use Rattle.definition_cuts.specs.Tokens.{end_of, move_end, staying, token_end, with_first, boundaries_n, boundaries}
use Rattle.definition.proofs.Moves.CharLaws.{cases}
use Rattle.definition_cuts_laws.proofs.Tokens.TokenSteps.{step, step_goes, step_stops, step_calls, step_ends, step_ahead}
use Rattle.definition_cuts_laws.proofs.Tokens.TokenPaths.{Tokens, one, two, tokens_steps, steps_later, staying_next, staying_step, staying_to}
use Rattle.definition_cuts_laws.proofs.Tokens.FormedPaths.{Formed, formed_front, steps_formed}
use Rattle.definition_cuts_laws.proofs.Cuts.AloneLaws.{Fit}

pub no_some : {P A : Type 0} (a : A) → ◌≡◌ {A = Option A} none (some a) → P
no_some a e = let z : ◌≡◌ {A = ℕ} 0 1 = cc in absurd (omega arith)

pub some_one : {A : Type 0} (a b : A) → ◌≡◌ {A = Option A} (some a) (some b) → a ≡ b
some_one a b e = cc

pub end_got : (r : Read (List Piece)) (j : ℕ) → end_of r ≡ some j → (ps : List Piece) × (r ≡ got ps j)
unfolding end_of
end_got (got ps k) j e = (ps, ap (λ n. got ps n) (some_one k j e))
end_got (refused x) j e = no_some j e

pub got_end : (r : Read (List Piece)) (ps : List Piece) (j : ℕ) → r ≡ got ps j → end_of r ≡ some j
unfolding end_of
got_end r ps j e = rw e refl

module _ (s : List ℕ) where
  pub move_step : (i : ℕ) → move_end s i ≡ end_of (step held_names s i)
  unfolding move_end end_of
  move_step i = go (text_move held_names 1 s 0 i []) refl
    where
      go : (x : Move (List ℕ)) → text_move held_names 1 s 0 i [] ≡ x → move_end s i ≡ end_of (step held_names s i)
      go (goes j t) x = rw (x, step_goes held_names s i j t x, move_end) refl
      go (stops y) x = rw (x, step_stops held_names s i y x, move_end) refl
      go calls x = rw (x, step_calls held_names s i x, move_end) refl
      go ends x = rw (x, step_ends held_names s i x, move_end) refl

  -- a backslash that stays is a step
  stay_step : (i : ℕ) → i < length s → staying s i ≡ true → (ps : List Piece) × (step held_names s i ≡ got ps (next s i))
  unfolding text_move
  stay_step i h y =
      let x : text_move held_names 1 s 0 i [] ≡ goes (next s i) (char s i) = rw (staying_step held_names s i h y, text_move) refl in
      (filled 0 (char s i), step_goes held_names s i (next s i) (char s i) x)

  -- a token in front of others
  pub token_on : (i j : ℕ) → i < length s → token_end s i ≡ some j → (ps : List Piece) × ((k : ℕ) (qs : List Piece) → Tokens held_names s j k qs → Tokens held_names s i k (ps ++ qs)) × (i < j) × (j ≤ length s)
  unfolding token_end
  token_on i j h e =
      cases (staying s i)
      (λ y.
      let e' : move_end s (next s i) ≡ some j = rw y at e in
      let A = stay_step i h y in
      let n = staying_next held_names s i (omega arith) y in
      let B = end_got (step held_names s (next s i)) j (sym (move_step (next s i)) ∙ e') in
      let a = step_ahead held_names s (next s i) j B.0 (omega (arith, n.0)) B.1 in
      (A.0 ++ B.0, (λ k qs T. subst (λ (l : List Piece). Tokens held_names s i k l) (sym (append_assoc A.0 B.0 qs)) (two y h n.0 A.1 B.1 T)), omega (arith, n.1, a.0), a.1))
      (λ y.
      let e' : move_end s i ≡ some j = rw y at e in
      let B = end_got (step held_names s i) j (sym (move_step i) ∙ e') in
      let a = step_ahead held_names s i j B.0 (omega arith) B.1 in
      (B.0, (λ k qs T. one y h B.1 T), a.0, a.1))

  -- in well-formed text it ends where a character does
  pub token_formed : (i j : ℕ) → i < length s → token_end s i ≡ some j → Formed s i (length s) → Formed s j (length s)
  token_formed i j h e F =
      let O = token_on i j h e in
      let S = tokens_steps held_names s i j (O.0 ++ []) (O.1 j [] Tokens.none) in
      formed_front s i j (length s) (steps_formed s held_names i j (O.0 ++ []) S F (omega arith)) F refl

  -- the first token of some
  pub first_token : (i k : ℕ) (ps : List Piece) → Tokens held_names s i k ps → i < k → (j : ℕ) × (qs : List Piece) × (token_end s i ≡ some j) × Tokens held_names s j k qs × (i < length s)
  unfolding token_end
  first_token i k ps Tokens.none h = absurd (omega arith)
  first_token i k ps (one {j = j} {ps = rs} {qs = qs} y a e T) h = (j, qs, rw y (move_step i ∙ got_end (step held_names s i) rs j e), T, a)
  first_token i k ps (two {j = j} {k = m} {ps = rs} {rs = ts} {qs = qs} y a b e f T) h =
      let z = staying_to held_names s i j rs a y e in
      (m, qs, rw y (ap (move_end s) (sym z) ∙ move_step j ∙ got_end (step held_names s j) ts m f), T, a)

  pub tokens_later : (i k : ℕ) (ps : List Piece) → Tokens held_names s i k ps → i ≤ length s → (i ≤ k) × (k ≤ length s)
  tokens_later i k ps T l = steps_later held_names s i k ps (tokens_steps held_names s i k ps T) l

  -- two paths from one place: the longer goes on from the shorter's end
  pub tokens_between : (i k l : ℕ) (ps qs : List Piece) → Tokens held_names s i k ps → Tokens held_names s i l qs → i ≤ length s → k ≤ l → (rs : List Piece) × Tokens held_names s k l rs
  unfolding token_end
  tokens_between i k l ps qs Tokens.none R h m = (qs, R)
  tokens_between i k l ps qs (one {j = j} {ps = as'} {qs = bs} y a e T) R h m =
      let b = step_ahead held_names s i j as' h e in
      let c = tokens_later j k bs T b.1 in
      let F = first_token i l qs R (omega (arith, b.0, c.0)) in
      let z = some_one F.0 j (sym F.2 ∙ one_end i j as' y e) in
      tokens_between j k l bs F.1 T (subst (λ (x : ℕ). Tokens held_names s x l F.1) z F.3) b.1 m
    where
      one_end : (i j : ℕ) (ps : List Piece) → staying s i ≡ false → step held_names s i ≡ got ps j → token_end s i ≡ some j
      one_end i j ps y e = rw y (move_step i ∙ got_end (step held_names s i) ps j e)
  tokens_between i k l ps qs (two {j = j} {k = n} {ps = as'} {rs = bs} {qs = cs} y a a' e f T) R h m =
      let b = step_ahead held_names s i j as' h e in
      let b' = step_ahead held_names s j n bs b.1 f in
      let c = tokens_later n k cs T b'.1 in
      let F = first_token i l qs R (omega (arith, b.0, b'.0, c.0)) in
      let z = some_one F.0 n (sym F.2 ∙ two-end i j n as' bs a y e f) in
      tokens_between n k l cs F.1 T (subst (λ (x : ℕ). Tokens held_names s x l F.1) z F.3) b'.1 m
    where
      two-end : (i j n : ℕ) (ps rs : List Piece) → i < length s → staying s i ≡ true → step held_names s i ≡ got ps j → step held_names s j ≡ got rs n → token_end s i ≡ some n
      two-end i j n ps rs a y e f = rw y (ap (move_end s) (sym (staying_to held_names s i j ps a y e)) ∙ move_step j ∙ got_end (step held_names s j) rs n f)

  -- MARKS: i, and where each token from i on ends
  pub data Marks : ℕ → List ℕ → Type 0 where
    final : {i : ℕ} → length s ≤ i → Marks i []
    mark : {i j : ℕ} {ms : List ℕ} → i < length s → token_end s i ≡ some j → Marks j ms → Marks i (j ∷ ms)

  pub marks_of : (n i : ℕ) (ms : List ℕ) → boundaries_n n s i ≡ some ms → (js : List ℕ) × (ms ≡ i ∷ js) × Marks i js
  unfolding boundaries_n with_first
  marks_of zero i ms e = no_some ms e
  marks_of (suc n) i ms e = go (at_end s i) refl (token_end s i) refl (λ j ks f. marks_of n j ks f)
    where
      IH : Type 0
      IH = (j : ℕ) (ks : List ℕ) → boundaries_n n s j ≡ some ks → (js : List ℕ) × (ks ≡ j ∷ js) × Marks j js

      rest : (j : ℕ) (o : Option (List ℕ)) → boundaries_n n s j ≡ o → i < length s → token_end s i ≡ some j → with_first i o ≡ some ms → IH → (js : List ℕ) × (ms ≡ i ∷ js) × Marks i js
      rest j none q h t f ih = no_some ms f
      rest j (some ks) q h t f ih =
          let K = ih j ks q in
          (ks, sym (some_one (i ∷ ks) ms f), subst (Marks i) (sym K.1) (mark h t K.2))

      go : (x : Bool) → at_end s i ≡ x → (o : Option ℕ) → token_end s i ≡ o → IH → (js : List ℕ) × (ms ≡ i ∷ js) × Marks i js
      go true x o q ih = ([], sym (some_one (i ∷ []) ms (rw (x, boundaries_n) at e)), final (leb-true (length s) i x))
      go false x none q ih = no_some ms (rw (x, q, boundaries_n) at e)
      go false x (some j) q ih = rest j (boundaries_n n s j) refl (leb-false (length s) i x) q (rw (x, q, boundaries_n) at e) ih

  pub marks_found : (n i : ℕ) (js : List ℕ) → Marks i js → i ≤ length s → length s < i + n → boundaries_n n s i ≡ some (i ∷ js)
  unfolding boundaries_n with_first
  marks_found zero i js (final h) l m = absurd (omega arith)
  marks_found (suc n) i js (final h) l m = rw (le-leb (length s) i h, boundaries_n) refl
  marks_found zero i js (mark h e M) l m = absurd (omega arith)
  marks_found (suc n) i js (mark {j = j} {ms = ks} h e M) l m =
      let a = token_on i j h e in
      rw (lt-leb (length s) i h, e, marks_found n j ks M a.3 (omega (arith, a.2)), boundaries_n) refl

  -- tokens to the end, and marks
  pub marks_tokens : (i : ℕ) (js : List ℕ) → Marks i js → i ≤ length s → (ps : List Piece) × Tokens held_names s i (length s) ps
  marks_tokens i js (final h) l = let z : i ≡ length s = omega arith in ([], subst (λ (k : ℕ). Tokens held_names s i k []) z Tokens.none)
  marks_tokens i js (mark {j = j} {ms = ks} h e M) l =
      let a = token_on i j h e in
      let R = marks_tokens j ks M a.3 in
      (a.0 ++ R.0, a.1 (length s) R.0 R.1)

  tokens_marks_to : (i k : ℕ) (ps : List Piece) → Tokens held_names s i k ps → k ≡ length s → i ≤ length s → (js : List ℕ) × Marks i js
  unfolding token_end
  tokens_marks_to i k ps Tokens.none e l = ([], final {i = i} (omega arith))
  tokens_marks_to i k ps (one {j = j} {ps = rs} {qs = qs} y a f T) e l =
      let b = step_ahead held_names s i j rs l f in
      let R = tokens_marks_to j k qs T e b.1 in
      (j ∷ R.0, mark {j = j} a (rw y (move_step i ∙ got_end (step held_names s i) rs j f)) R.1)
  tokens_marks_to i k ps (two {j = j} {k = n} {ps = rs} {rs = ts} {qs = qs} y a a' f g T) e l =
      let b = step_ahead held_names s i j rs l f in
      let b' = step_ahead held_names s j n ts b.1 g in
      let R = tokens_marks_to n k qs T e b'.1 in
      (n ∷ R.0, mark {j = n} a (rw y (ap (move_end s) (sym (staying_to held_names s i j rs a y f)) ∙ move_step j ∙ got_end (step held_names s j) ts n g)) R.1)

  pub tokens_marks : (i : ℕ) (ps : List Piece) → Tokens held_names s i (length s) ps → i ≤ length s → (js : List ℕ) × Marks i js
  tokens_marks i ps T l = tokens_marks_to i (length s) ps T refl l

  -- THE BOUNDARIES are there exactly if the body is fit and its tokens go to the end
  pub boundaries_marks : (ms : List ℕ) → boundaries s ≡ some ms → Fit s × ((js : List ℕ) × (ms ≡ 0 ∷ js) × Marks 0 js)
  unfolding boundaries
  boundaries_marks ms e =
      cases (ltb 1048576 (length s)) (λ x. no_some ms (rw x at e)) (λ x.
      cases (ltb (well_formed s) (length s)) (λ y. no_some ms (rw (x, y) at e)) (λ y.
      ((ltb-false 1048576 (length s) x, ltb-false (well_formed s) (length s) y), marks_of (suc (length s)) 0 ms (rw (x, y) at e))))

  pub marks_boundaries : Fit s → (js : List ℕ) → Marks 0 js → boundaries s ≡ some (0 ∷ js)
  unfolding boundaries
  marks_boundaries f js M =
      rw (le-ltb 1048576 (length s) f.0, le-ltb (well_formed s) (length s) f.1) (marks_found (suc (length s)) 0 js M (omega arith) (omega arith))
