-- How many bytes a numeral has at most: an array of 80 holds them all. Assumes nothing.
use mathlib.Core.Path.{◌≡◌, refl, ◌∙◌, ap}
use mathlib.Core.List.{List, [], ◌∷◌, ◌++◌, append-nil}
use Prim.Native.Nat.{ℕ, zero, suc, ◌+◌, ◌*◌, ◌/◌, ◌^◌, ◌≤◌, ◌<◌}
use native.Mathlib.Nat.{mod-add-div, mul-le-mul_right}
use native.Mathlib.Omega.{arith}
use lib.Dec.{ltb}
use lib.ListN.{length, replicate, length-append}
use borrow.Author.Tests.{ltb-true, ltb-false}
use Rattle.definition_replay.specs.Integers.{digits, base_of, figure, group_size, figures, zeroed}
use Rattle.definition.proofs.Moves.CharLaws.{cases}
use Rattle.definition_replay_laws.proofs.Integers.IntegerSteps.{digits_last, digits_more}
use Rattle.definition_replay_laws.proofs.Integers.WrittenLaws.{Zeroed, zeroed_is, zeros_snoc}
use Rattle.integers.specs.Written.{one_more, come_after, comes_after, rest_of, bare, numeral_units}
use Rattle.integers.proofs.Placed.{more_two, rest_none, rest_more, rest_snoc, figures_rest}

-- a digit less halves the number, or more
halved : (base n : ℕ) → 1 < base → 2 * (n / base) ≤ n
halved base n big =
    let e = mod-add-div n base in
    let m : 2 * (n / base) ≤ base * (n / base) = mul-le-mul_right (n / base) big in
    omega arith

pub digits_few : (base k n : ℕ) → 1 < base → n < 2 ^ k → length (digits base n) ≤ suc k
digits_few base zero n big h = let e = ap length (digits_last base big n (omega arith)) in omega arith
digits_few base (suc k) n big h =
    cases (ltb n base) (λ t. let e = ap length (digits_last base big n (ltb-true n base t)) in omega arith)
    (λ t.
    let e = ap length (digits_more base big n (ltb-false n base t)) in
    let l = halved base n big in
    let ih = digits_few base k (n / base) big (omega arith) in
    omega arith)

-- two bytes a digit at most
rest_most : (grouping size come kind : ℕ) (ds : List ℕ) → length (rest_of grouping size come kind ds) ≤ 2 * length ds
rest_most grouping size come kind [] = let e = ap length (rest_none grouping size come kind) in omega arith
rest_most grouping size come kind (d ∷ ds) =
    let e = ap length (rest_more grouping size come kind d ds) in
    let l = length-append (one_more grouping come (figure kind d)) (rest_of grouping size (come_after size come) kind ds) in
    let two = more_two grouping come (figure kind d) in
    let ih = rest_most grouping size (come_after size come) kind ds in
    omega arith

-- A NUMERAL of 32 bits has at most 66 bytes
module _ (kind grouping : ℕ) where
  abbrev size : ℕ
  size = group_size (bare kind grouping)

  abbrev wide : List ℕ → ℕ
  wide ds = length (figures (bare kind grouping) ds)

  wide_snoc : (ds : List ℕ) → wide (ds ++ (0 ∷ [])) ≤ wide ds + 2
  wide_snoc ds =
      let e = ap length (figures_rest kind grouping (ds ++ (0 ∷ [])) ∙ rest_snoc grouping size size kind ds 0) in
      let f = ap length (figures_rest kind grouping ds) in
      let l = length-append (rest_of grouping size size kind ds) (one_more grouping (comes_after size size ds) (figure kind 0)) in
      let two = more_two grouping (comes_after size size ds) (figure kind 0) in
      omega arith

  pub numeral_short : (least number : ℕ) → 1 < base_of kind → least ≤ 64 → number < 0x100000000 → length (numeral_units kind grouping least number) ≤ 66
  unfolding numeral_units
  numeral_short least number big h k =
      let ds = digits (base_of kind) number in
      let few = digits_few (base_of kind) 32 number big k in
      let most = rest_most grouping size size kind ds in
      let f = ap length (figures_rest kind grouping ds) in
      by_zeros (zeroed_is least least (bare kind grouping) ds (omega arith)) (omega arith)
    where
      ds : List ℕ
      ds = digits (base_of kind) number

      by_zeros : Zeroed least (bare kind grouping) ds (zeroed least least (bare kind grouping) ds) → wide ds ≤ 66 → wide (zeroed least least (bare kind grouping) ds) ≤ 66
      by_zeros z m = go z.zeros refl
        where
          go : (n : ℕ) → z.zeros ≡ n → wide (zeroed least least (bare kind grouping) ds) ≤ 66
          go zero e = rw (z.same, e, append-nil ds) m
          go (suc n) e =
              let q = z.fewest n e in
              let s = wide_snoc (ds ++ replicate n 0) in
              rw (z.same, e, zeros_snoc ds n) (omega arith)
