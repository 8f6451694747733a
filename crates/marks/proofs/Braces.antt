-- The first brace from an index on, byte by byte. Assumes nothing.
use mathlib.Core.Path.{◌≡◌}
use mathlib.Core.Bool.{true, false}
use mathlib.Core.List.{List}
use Prim.Native.Nat.{ℕ, suc, ◌+◌, ◌≤◌, ◌<◌}
use native.Mathlib.Numerals.{add-one}
use native.Mathlib.Omega.{arith}
use lib.ListN.{length, drop, get_or, drop_of_length-le}
use lib.Seq.{drop-cons}
use Rattle.definition.specs.Chars.{◌is◌, before}
use Rattle.definition.specs.Body.{plain_run, first_end}

first_stops : (s : List ℕ) (i : ℕ) → i < length s → (get_or s i 0 is "{}") ≡ true → plain_run (drop i s) ≡ 0
unfolding plain_run before
first_stops s i h e = rw (drop-cons s i 0 h) (rw (e, before))

first_goes : (s : List ℕ) (i : ℕ) → i < length s → (get_or s i 0 is "{}") ≡ false → plain_run (drop i s) ≡ suc (plain_run (drop (i + 1) s))
unfolding plain_run before
first_goes s i h e = rw (drop-cons s i 0 h, add-one i) (rw (e, before))

pub first_here : (s : List ℕ) (i : ℕ) → i < length s → (get_or s i 0 is "{}") ≡ true → i ≡ first_end s i
first_here s i h e = omega (arith, first_stops s i h e)

pub first_on : (s : List ℕ) (i : ℕ) → i < length s → (get_or s i 0 is "{}") ≡ false → first_end s i ≡ first_end s (i + 1)
first_on s i h e = omega (arith, first_goes s i h e)

pub first_end_lem : (s : List ℕ) (i : ℕ) → length s ≤ i → i ≡ first_end s i
unfolding plain_run before
first_end_lem s i h = rw (drop_of_length-le s h) (omega arith)
