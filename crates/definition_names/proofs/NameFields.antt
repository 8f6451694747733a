-- The bytes up to a byte, from an index on. Assumes nothing.
use mathlib.Core.Path.{◌≡◌, refl, sym, ◌∙◌}
use mathlib.Core.List.{List, [], ◌∷◌}
use Prim.Native.Nat.{ℕ, zero, suc, ◌+◌, ◌≤◌, ◌<◌}
use native.Mathlib.Nat.{not-suc-le-zero, le_of_suc-le-suc}
use native.Mathlib.Numerals.{add-one}
use native.Mathlib.Omega.{arith}
use lib.ListN.{length, get_or, drop, drop_of_length-le}
use lib.Seq.{drop-cons}
use borrow.Author.Tests.{eq-eqb, ne_eqb}
use Rattle.definition_names.specs.Names.{up_to}
use Rattle.definition_names.specs.IsIndex.{count}
use Rattle.definition_names.proofs.NameLists.{same?, count_here, count_later, count_none}

-- by the first byte
module _ (b x : ℕ) (s : List ℕ) where
  pub stop_at : x ≡ b → up_to b (x ∷ s) ≡ []
  unfolding up_to
  stop_at e = rw (eq-eqb x b e)

  pub go_on : (x ≡ b → ⊥) → up_to b (x ∷ s) ≡ x ∷ up_to b s
  unfolding up_to
  go_on e = rw (ne_eqb x b e)

-- from an index on
module _ (b : ℕ) (s : List ℕ) (i : ℕ) where
  pub up_to_end : length s ≤ i → up_to b (drop i s) ≡ []
  unfolding up_to
  up_to_end h = rw (drop_of_length-le s h)

  pub up_to_mark : i < length s → get_or s i 0 ≡ b → up_to b (drop i s) ≡ []
  up_to_mark h e = rw (drop-cons s i 0 h) (stop_at b _ _ e)

  pub up_to_more : i < length s → (get_or s i 0 ≡ b → ⊥) → up_to b (drop i s) ≡ get_or s i 0 ∷ up_to b (drop (i + 1) s)
  up_to_more h e = rw (add-one, drop-cons s i 0 h) (go_on b _ _ e)

-- what they are
pub up_to_none : (b : ℕ) → up_to b [] ≡ []
unfolding up_to
up_to_none b = refl

pub up_to_length : (b : ℕ) (s : List ℕ) → length (up_to b s) ≤ length s
up_to_length b [] = rw up_to_none (omega arith)
up_to_length b (x ∷ s) =
    let m = up_to_length b s in
    same? x b (λ e. rw (stop_at b x s e) (omega arith)) (λ e. rw (go_on b x s e) (omega arith))

pub up_to_not : (b : ℕ) (s : List ℕ) (i d : ℕ) → i < length (up_to b s) → get_or s i d ≡ b → ⊥
up_to_not b [] i d h e = absurd (not-suc-le-zero (rw up_to_none at h))
up_to_not b (x ∷ s) zero d h e = absurd (not-suc-le-zero (rw (stop_at b x s e) at h))
up_to_not b (x ∷ s) (suc i) d h e =
    same? x b (λ f. absurd (not-suc-le-zero (rw (stop_at b x s f) at h)))
    (λ f. up_to_not b s i d (le_of_suc-le-suc (rw (go_on b x s f) at h)) e)

pub up_to_stops : (b : ℕ) (s : List ℕ) (d : ℕ) → length (up_to b s) < length s → get_or s (length (up_to b s)) d ≡ b
up_to_stops b [] d h = absurd (not-suc-le-zero (rw up_to_none at h))
up_to_stops b (x ∷ s) d h =
    same? x b (λ f. rw (stop_at b x s f) f)
    (λ f. rw (go_on b x s f) (up_to_stops b s d (le_of_suc-le-suc (rw (go_on b x s f) at h))))

-- up to one byte of what goes up to another, if that has it
pub up_to_within : (b c : ℕ) (s : List ℕ) → 1 ≤ count b (up_to c s) → up_to b (up_to c s) ≡ up_to b s
up_to_within b c [] h = rw (up_to_none c)
up_to_within b c (x ∷ s) h =
    same? x c (λ e. let n = count_none b in let m : 1 ≤ count b [] = rw (stop_at c x s e) at h in absurd (omega arith))
    (λ e.
    let m : 1 ≤ count b (x ∷ up_to c s) = rw (go_on c x s e) at h in
    rw (go_on c x s e)
    (same? x b (λ f. rw (stop_at b x (up_to c s) f, stop_at b x s f))
    (λ f.
    let k : 1 ≤ count b (up_to c s) = let l = count_later b x (up_to c s) (λ z. f (sym z)) in omega arith in
    rw (go_on b x (up_to c s) f, go_on b x s f, up_to_within b c s k))))

pub up_to_drop : (c : ℕ) (s : List ℕ) (k : ℕ) → k ≤ length (up_to c s) → drop k (up_to c s) ≡ up_to c (drop k s)
up_to_drop c s zero h = refl
up_to_drop c [] (suc k) h = absurd (not-suc-le-zero (rw up_to_none at h))
up_to_drop c (x ∷ s) (suc k) h =
    same? x c (λ e. absurd (not-suc-le-zero (rw (stop_at c x s e) at h)))
    (λ e. rw (go_on c x s e) (up_to_drop c s k (le_of_suc-le-suc (rw (go_on c x s e) at h))))

-- the first of them is one of a list that has it
pub count_up_to : (b : ℕ) (s : List ℕ) → 1 ≤ count b s → length (up_to b s) < length s
count_up_to b [] h = let n = count_none b in absurd (omega arith)
count_up_to b (x ∷ s) h =
    same? x b (λ e. rw (stop_at b x s e) (omega arith))
    (λ e.
    let m = count_up_to b s (let l = count_later b x s (λ z. e (sym z)) in omega arith) in
    rw (go_on b x s e) (omega arith))

-- what stands behind it has one less
pub count_past : (b : ℕ) (s : List ℕ) → 1 ≤ count b s → count b s ≡ suc (count b (drop (suc (length (up_to b s))) s))
count_past b [] h = let n = count_none b in absurd (omega arith)
count_past b (x ∷ s) h =
    same? x b (λ e. rw (stop_at b x s e) (count_here b x s (sym e)))
    (λ e.
    let l = count_later b x s (λ z. e (sym z)) in
    rw (go_on b x s e) (l ∙ count_past b s (omega arith)))
