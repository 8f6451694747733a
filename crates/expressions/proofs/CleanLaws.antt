-- Clean and braceless text, from a place on. Assumes nothing.
use mathlib.Core.Path.{◌≡◌, refl, ◌∙◌, ap}
use mathlib.Core.Bool.{Bool, true, false, ◌&&◌, not}
use mathlib.Core.List.{List, [], ◌∷◌}
use Prim.Native.Nat.{ℕ, suc, ◌+◌, ◌≤◌, ◌<◌}
use native.Mathlib.Nat.{zero-add}
use native.Mathlib.Omega.{arith}
use lib.Dec.{leb}
use lib.ListN.{length, drop, drop_of_length-le}
use lib.Seq.{drop-cons, get_or-drop}
use borrow.Author.Tests.{eqb-true, leb-true, leb-false, le-leb, lt-leb}
use Rattle.definition.specs.Chars.{◌is◌, byte, before}
use Rattle.definition.specs.Body.{plain_run, first_end}
use Rattle.definition.specs.Matched.{Seen, see, settled, braceless}
use Rattle.definition_written.specs.ReadsBack.{is_open, few_open, clean}
use Rattle.definition.proofs.Moves.CharLaws.{cases, no, byte_in}

module _ (s : List ℕ) where
  pub drop_more : (k : ℕ) → k < length s → drop k s ≡ byte s k ∷ drop (k + 1) s
  drop_more k h = let n : k + 1 ≡ suc k = omega arith in rw n (drop-cons s k 256 h)

  first_of_lem : (k : ℕ) → byte (drop k s) 0 ≡ byte s k
  first_of_lem k = get_or-drop k s 0 256 ∙ ap (byte s) (omega arith)

  -- at the end, at a pair, and at any other byte
  pub clean_over : (x : Seen) (k : ℕ) → length s ≤ k → clean false x (drop k s) ≡ settled x
  unfolding clean
  clean_over x k h = rw (drop_of_length-le s h) refl

  pub clean_pair : (x : Seen) (k : ℕ) → k < length s → (is_open x && byte s k is "!=><" && byte s (k + 1) is "=") ≡ true → clean false x (drop k s) ≡ clean false x (drop (k + 1 + 1) s)
  unfolding clean
  clean_pair x k h t =
      let z : (is_open x && byte s k is "!=><" && byte (drop (k + 1) s) 0 is "=") ≡ true = rw (first_of_lem (k + 1)) t in
      rw (drop_more k h) (rw (z, clean) (second (k + 1) (there t)))
    where
      last : {P : Type 0} (a b : Bool) → (a && b) ≡ true → (b ≡ true → P) → P
      last true b e f = f e
      last false b e f = no e

      there : (is_open x && byte s k is "!=><" && byte s (k + 1) is "=") ≡ true → k + 1 < length s
      there t = last (is_open x && byte s k is "!=><") (byte s (k + 1) is "=") t (λ u. byte_in s (k + 1) (let e = eqb-true (byte s (k + 1)) 61 u in omega arith))

      second : (k : ℕ) → k < length s → clean true x (drop k s) ≡ clean false x (drop (k + 1) s)
      second k h = rw (drop_more k h) refl

  pub clean_byte : (x : Seen) (k : ℕ) → k < length s → (is_open x && byte s k is "!=><" && byte s (k + 1) is "=") ≡ false
      → clean false x (drop k s) ≡ (not (settled x && byte s k is "!=:") && few_open (see x (byte s k)) && clean false (see x (byte s k)) (drop (k + 1) s))
  unfolding clean
  clean_byte x k h t =
      let z : (is_open x && byte s k is "!=><" && byte (drop (k + 1) s) 0 is "=") ≡ false = rw (first_of_lem (k + 1)) t in
      rw (drop_more k h) (rw (z, clean) refl)

one_more_lem : (a b : ℕ) → leb (suc a) (suc b) ≡ leb a b
one_more_lem a b =
    cases (leb a b) (λ t. rw t (le-leb (suc a) (suc b) (let h = leb-true a b t in omega arith)))
    (λ t. rw t (lt-leb (suc a) (suc b) (let h = leb-false a b t in omega arith)))

-- the first brace is past the end
none_before : (s : List ℕ) → leb (length s) (plain_run s) ≡ braceless s
unfolding plain_run braceless before
none_before [] = refl
none_before (b ∷ s) = go (b is "{}") refl (none_before s)
  where
    go : (t : Bool) → (b is "{}") ≡ t → leb (length s) (plain_run s) ≡ braceless s → leb (length (b ∷ s)) (plain_run (b ∷ s)) ≡ braceless (b ∷ s)
    go true t ih = rw (t, before) (lt-leb (length (b ∷ s)) 0 (omega arith))
    go false t ih = rw (t, before) (one_more_lem (length s) (plain_run s) ∙ ih)

pub none_from : (s : List ℕ) (end : ℕ) → end ≡ first_end s 0 → leb (length s) end ≡ braceless s
none_from s end e = let z : end ≡ plain_run s = e ∙ zero-add (plain_run s) in ap (leb (length s)) z ∙ none_before s
