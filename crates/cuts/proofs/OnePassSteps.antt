-- The one pass with the one number of tokens that serves every place of a body: what a proof of code cites. Assumes nothing.
use mathlib.Core.Path.{◌≡◌, refl}
use mathlib.Core.Bool.{Bool, true, false}
use mathlib.Core.List.{List}
use mathlib.Core.Option.{Option, none, some}
use Prim.Native.Nat.{ℕ, zero, suc, ◌+◌, ◌≤◌, ◌<◌}
use native.Mathlib.Omega.{arith}
use borrow.Author.Tests.{leb-false, le-leb, lt-leb}
use lib.ListN.{length}
use Rattle.definition.specs.Chars.{at_end}
use Rattle.definition_cuts.specs.Tokens.{token_end}
use Rattle.cuts.specs.OnePass.{Cursor, in_token, check_loop, check_at}
use Rattle.definition_cuts_laws.proofs.Tokens.TokenMarks.{token_on}

-- THE CHECK at a boundary i, with the cuts that are left
check_fuel : (s : List ℕ) (n m i : ℕ) (cs : List ℕ) (d : Bool) → i ≤ length s → length s < i + n → length s < i + m → check_loop n s i cs d ≡ check_loop m s i cs d
unfolding check_loop
check_fuel s zero m i cs d l a b = absurd (omega arith)
check_fuel s (suc n) zero i cs d l a b = absurd (omega arith)
check_fuel s (suc n) (suc m) i cs d l a b = go (at_end s i) refl (token_end s i) refl (λ j cs d. check_fuel s n m j cs d)
  where
    IH : Type 0
    IH = (j : ℕ) (cs : List ℕ) (d : Bool) → j ≤ length s → length s < j + n → length s < j + m → check_loop n s j cs d ≡ check_loop m s j cs d

    inner : (j : ℕ) → i < j → j ≤ length s → (o : Option Cursor) → in_token s i j cs d ≡ o → at_end s i ≡ false → token_end s i ≡ some j → IH → check_loop (suc n) s i cs d ≡ check_loop (suc m) s i cs d
    inner j g k none w x q ih = rw (x, q, w, check_loop) refl
    inner j g k (some c) w x q ih = rw (x, q, w, check_loop) (ih j c.left c.differs k (omega arith) (omega arith))

    go : (x : Bool) → at_end s i ≡ x → (o : Option ℕ) → token_end s i ≡ o → IH → check_loop (suc n) s i cs d ≡ check_loop (suc m) s i cs d
    go true x o q ih = rw (x, check_loop) refl
    go false x none q ih = rw (x, q, check_loop) refl
    go false x (some j) q ih = let O = token_on s i j (leb-false (length s) i x) q in inner j O.2 O.3 (in_token s i j cs d) refl x q ih

module _ (s : List ℕ) (i : ℕ) (cs : List ℕ) (d : Bool) where
  pub check_end : length s ≤ i → check_at s i cs d ≡ some d
  unfolding check_loop
  check_end h = rw (le-leb (length s) i h, check_loop) refl

  module _ (h : i < length s) where
    pub check_refused : token_end s i ≡ none → check_at s i cs d ≡ none
    unfolding check_loop
    check_refused e = rw (lt-leb (length s) i h, e, check_loop) refl

    module _ (j : ℕ) (e : token_end s i ≡ some j) where
      -- a cut within the token
      pub check_within : in_token s i j cs d ≡ none → check_at s i cs d ≡ none
      unfolding check_loop
      check_within w = rw (lt-leb (length s) i h, e, w, check_loop) refl

      -- none: on with those that are left
      pub check_on : (k : Cursor) → in_token s i j cs d ≡ some k → check_at s i cs d ≡ check_at s j k.left k.differs
      unfolding check_loop
      check_on k w =
          let O = token_on s i j h e in
          rw (lt-leb (length s) i h, e, w, check_loop) (check_fuel s (length s) (suc (length s)) j k.left k.differs O.3 (omega (arith, O.2)) (omega (arith, O.2)))
