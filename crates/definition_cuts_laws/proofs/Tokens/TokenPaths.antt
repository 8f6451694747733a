-- Tokens of a body: steps where a backslash that stays goes with what follows; paths of them, and the pieces between two places. Assumes nothing.
use mathlib.Core.Path.{◌≡◌, refl, sym, ◌∙◌, ap₂, subst}
use mathlib.Core.Bool.{true, false, ◌&&◌, not}
use mathlib.Core.List.{List, [], ◌++◌, append_assoc}
use Prim.Native.Nat.{ℕ, zero, suc, ◌+◌, ◌≤◌, ◌<◌}
use native.Mathlib.Omega.{arith}
use borrow.Author.Tests.{leb-true, leb-false, lt-leb, eqb-true}
use lib.Dec.{leb}
use lib.ListN.{length}
use Rattle.definition.specs.Chars.{◌is◌, no_code, code, next, char}
use Rattle.definition.specs.Escapes.{Naming, got}
use Rattle.definition.specs.Body.{Piece, goes, TextCase, text_case, text_move}
use Rattle.definition_cuts.specs.Tokens.{staying}
use Rattle.definition.proofs.Moves.CharLaws.{no, cases, next_ascii, code_end}
use Rattle.definition_laws.proofs.Moves.Adds.{ascii_in}
use Rattle.definition_laws.proofs.Moves.Cases.{and_both}
use Rattle.definition_cuts_laws.proofs.Tokens.TokenSteps.{top_told, step, step_goes, Steps, here, more, step_ahead}

-- a plain character that is no brace and no backslash
pub plain_if : (s : List ℕ) (i : ℕ) → i < length s → (code s i is "{") ≡ false → (code s i is "}") ≡ false → (code s i is "\\") ≡ false → text_case 1 s 0 i ≡ TextCase.plain
unfolding text_case
plain_if s i h x y z = rw (lt-leb (length s) i h, x, y, z) refl

-- one that ends with the body is no backslash
pub last_plain : (s : List ℕ) (p : ℕ) → next s p ≡ length s → text_case 1 s 0 p ≡ TextCase.plain → (code s p is "\\") ≡ false
last_plain s p n q = ended (code_end s (next s p) (omega arith)) (top_told s p TextCase.plain q).3
  where
    ended : code s (next s p) ≡ no_code → (code s p is "\\" && not (code s (next s p) is "{}")) ≡ false → (code s p is "\\") ≡ false
    ended c d = let f : (code s p is "\\" && true) ≡ false = rw c at d in cases (code s p is "\\") (λ t. no (sym (rw t at f))) (λ t. t)

module _ (look : Naming) (s : List ℕ) where
  -- TOKENS from one place to another, with their pieces
  pub data Tokens : (i k : ℕ) → List Piece → Type 0 where
    none : {i : ℕ} → Tokens i i []
    one : {i j k : ℕ} {ps qs : List Piece} → staying s i ≡ false → i < length s → step look s i ≡ got ps j → Tokens j k qs → Tokens i k (ps ++ qs)
    two : {i j k l : ℕ} {ps rs qs : List Piece} → staying s i ≡ true → i < length s → j < length s → step look s i ≡ got ps j → step look s j ≡ got rs k → Tokens k l qs → Tokens i l (ps ++ (rs ++ qs))

  pub tokens_steps : (i k : ℕ) (ps : List Piece) → Tokens i k ps → Steps look s i k ps
  tokens_steps i k ps none = here
  tokens_steps i k ps (one {j = j} {qs = qs} y h e T) = more h e (tokens_steps j k qs T)
  tokens_steps i k ps (two {k = m} {qs = qs} y h g e f T) = more h e (more g f (tokens_steps m k qs T))

  pub steps_later : (i k : ℕ) (ps : List Piece) → Steps look s i k ps → i ≤ length s → (i ≤ k) × (k ≤ length s)
  steps_later i k ps here l = (omega arith, l)
  steps_later i k ps (more {j = j} {ps = qs} {qs = rs} h e S) l =
      let a = step_ahead look s i j qs l e in
      let b = steps_later j k rs S a.1 in
      (omega (arith, a.0, b.0), b.1)

  -- a backslash that stays is a plain character, and a brace follows
  pub staying_next : (i : ℕ) → i ≤ length s → staying s i ≡ true → (next s i < length s) × (next s i ≡ i + 1) × ((code s (next s i) is "{}") ≡ true) × (code s i ≡ 92)
  unfolding staying
  staying_next i l e =
      let b = and_both (code s i is "\\") (code s (next s i) is "{}") e in
      let c : code s i ≡ 92 = eqb-true (code s i) 92 b.0 in
      let n = next_ascii s i (ascii_in s i (omega arith)) in
      (cases (leb (length s) (next s i)) (λ t. past (code_end s (next s i) (leb-true _ _ t)) b.1) (λ t. leb-false _ _ t), n, b.1, c)
    where
      past : {P : Type 0} → code s (next s i) ≡ no_code → (code s (next s i) is "{}") ≡ true → P
      past c d = no (rw c at d)

  pub staying_step : (i : ℕ) → i < length s → staying s i ≡ true → text_case 1 s 0 i ≡ TextCase.plain
  unfolding text_case
  staying_step i h e = let b = staying_next i (omega arith) e in rw (lt-leb (length s) i h, b.3, b.2) refl

  pub staying_to : (i j : ℕ) (ps : List Piece) → i < length s → staying s i ≡ true → step look s i ≡ got ps j → j ≡ next s i
  unfolding text_move
  staying_to i j ps h y e =
      let q = staying_step i h y in
      let x : text_move look 1 s 0 i [] ≡ goes (next s i) (char s i) = rw (q, text_move) refl in
      let f = sym (step_goes look s i (next s i) (char s i) x) ∙ e in
      let z : next s i ≡ j = cc in
      sym z

  -- steps to the end are tokens
  abbrev Into : ℕ → Type 0
  Into n = (i k : ℕ) (ps : List Piece) → Steps look s i k ps → k ≡ length s → i ≤ length s → length s ≤ i + n → Tokens i k ps

  staying_on : (n : ℕ) → Into n → (i j k : ℕ) (rs qs : List Piece) → i < length s → staying s i ≡ true → step look s i ≡ got rs j → Steps look s j k qs → k ≡ length s
      → (next s i < length s) × (next s i ≡ i + 1) × ((code s (next s i) is "{}") ≡ true) × (code s i ≡ 92) → j ≡ next s i → length s ≤ i + suc n → Tokens i k (rs ++ qs)
  staying_on n ih i j k rs qs h y f here e b z m = absurd (omega (arith, b.0))
  staying_on n ih i j k rs qs h y f (more {j = m'} {ps = us} {qs = vs} g w R) e b z m =
      let a = step_ahead look s j m' us (omega arith) w in
      two y h g f w (ih m' k vs R e a.1 (omega (arith, a.0, b.1)))

  into_one : (n : ℕ) → Into n → Into (suc n)
  into_one n ih i k ps here e l m = none
  into_one n ih i k ps (more {j = j} {ps = rs} {qs = qs} h f S) e l m =
      let a = step_ahead look s i j rs l f in
      cases (staying s i) (λ y. staying_on n ih i j k rs qs h y f S e (staying_next i l y) (staying_to i j rs h y f) m) (λ y. one y h f (ih j k qs S e a.1 (omega (arith, a.0))))

  into_none : Into 0
  into_none i k ps here e l m = none
  into_none i k ps (more h f S) e l m = absurd (omega arith)

  into : (n : ℕ) → Into n
  into zero = into_none
  into (suc n) = into_one n (into n)

  pub steps_tokens : (i k : ℕ) (ps : List Piece) → Steps look s i k ps → k ≡ length s → i ≤ length s → Tokens i k ps
  steps_tokens i k ps S e l = into (length s) i k ps S e l (omega arith)

  -- two paths from one place: the shorter is the front of the one to the end
  pub steps_front : (i k l : ℕ) (ps qs : List Piece) → Steps look s i k ps → Steps look s i l qs → l ≡ length s → i ≤ length s → (rs : List Piece) × Steps look s k l rs × (qs ≡ ps ++ rs)
  steps_front i k l ps qs here R e h = (qs, R, refl)
  steps_front i k l ps qs (more g f S) here e h = absurd (omega arith)
  steps_front i k l ps qs (more {j = j} {ps = as'} {qs = bs} g f S) (more {j = m} {ps = cs} {qs = ds} g' f' R) e h =
      let x = sym f ∙ f' in
      let y : j ≡ m = cc in
      let z : as' ≡ cs = cc in
      let a = step_ahead look s i j as' h f in
      let r = steps_front j k l bs ds S (subst (λ (m : ℕ). Steps look s m l ds) (sym y) R) e a.1 in
      (r.0, r.1, ap₂ ◌++◌ (sym z) r.2 ∙ sym (append_assoc as' bs r.0))
