-- A format specification and a trace from an index on, as code reads them. Assumes nothing.
use mathlib.Core.Path.{◌≡◌, refl}
use mathlib.Core.Bool.{Bool, true, false}
use mathlib.Core.List.{List, [], ◌∷◌}
use Prim.Native.Nat.{ℕ, ◌+◌, ◌≤◌, ◌<◌}
use Prim.Native.String.{String}
use native.Mathlib.Numerals.{add-one}
use lib.ListN.{length, drop, drop_of_length-le}
use lib.Seq.{drop-cons}
use Rattle.definition.specs.Chars.{◌is◌, byte}
use Rattle.definition_replay.specs.Spec.{first, past, front, behind}

module _ (s : List ℕ) (i : ℕ) where
  -- ONE CHARACTER of a set: there, or not
  module _ (set : String) where
    pub first_there : i < length s → (byte s i is set) ≡ true → (first set (drop i s) ≡ byte s i) × (past set (drop i s) ≡ drop (i + 1) s)
    unfolding first past
    first_there h e = rw (drop-cons s i 256 h) (rw e, rw (e, add-one))

    pub first_not : i < length s → (byte s i is set) ≡ false → (first set (drop i s) ≡ 0) × (past set (drop i s) ≡ drop i s)
    unfolding first past
    first_not h e = rw (drop-cons s i 256 h) (rw e, rw e)

    pub first_end_lem : length s ≤ i → (first set (drop i s) ≡ 0) × (past set (drop i s) ≡ drop i s)
    unfolding first past
    first_end_lem h = rw (drop_of_length-le s h) (refl, refl)

  -- BYTES THAT PASS A TEST
  module _ (test : ℕ → Bool) where
    pub front_there : i < length s → test (byte s i) ≡ true → (front test (drop i s) ≡ byte s i ∷ front test (drop (i + 1) s)) × (behind test (drop i s) ≡ behind test (drop (i + 1) s))
    unfolding front behind
    front_there h e = rw (drop-cons s i 256 h) (rw (e, add-one), rw (e, add-one))

    pub front_not : i < length s → test (byte s i) ≡ false → (front test (drop i s) ≡ []) × (behind test (drop i s) ≡ drop i s)
    unfolding front behind
    front_not h e = rw (drop-cons s i 256 h) (rw e, rw e)

    pub front_end : length s ≤ i → (front test (drop i s) ≡ []) × (behind test (drop i s) ≡ drop i s)
    unfolding front behind
    front_end h = rw (drop_of_length-le s h) (refl, refl)
