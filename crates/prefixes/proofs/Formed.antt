-- The longest well-formed prefix, character by character and over runs of ASCII. Assumes nothing.
use native.Mathlib.Omega.{arith}
use Prim.Native.Nat.{ℕ, zero, suc, pred, ◌+◌, ◌-◌, ◌≤◌, ◌<◌}
use mathlib.Core.Path.{◌≡◌, refl, ◌∙◌, subst}
use mathlib.Core.List.{List}
use borrow.Author.Tests.{ltb-true, ltb-false}
use lib.Dec.{ltb}
use lib.ListN.{length}
use Rattle.definition.specs.Chars.{width, formed_from, well_formed}
use Rattle.definition.proofs.Moves.CharLaws.{cases, width_in, width_end, width_ascii}
use Rattle.ascii.specs.Runs.{Below, Ascii}
use Rattle.prefixes.specs.Formed.{Formed}

stop : (fuel : ℕ) (s : List ℕ) (i : ℕ) → width s i ≡ 0 → formed_from fuel s i ≡ i
unfolding formed_from
stop zero s i h = refl
stop (suc fuel) s i h = rw (h, formed_from)

step : (fuel : ℕ) (s : List ℕ) (i w : ℕ) → 0 < fuel → width s i ≡ suc w → formed_from fuel s i ≡ formed_from (pred fuel) s (i + suc w)
unfolding formed_from
step zero s i w f h = absurd (omega arith)
step (suc fuel) s i w f h = rw (h, formed_from)

pub more : (s : List ℕ) (i w : ℕ) → Formed s i → i < length s → width s i ≡ w → (w ≡ 0 → ⊥) → Formed s (i + w)
more s i zero f h e n = absurd (n refl)
more s i (suc w) f h e n =
    record {
      fuel = pred f.fuel;
      enough = omega (arith, f.enough);
      within = rw e at (width_in s i f.within);
      same = f.same ∙ step f.fuel s i w (omega (arith, f.enough)) e;
    }

-- over a run of ASCII
over_ascii : (s : List ℕ) (n i : ℕ) → Below 0x80 s i (i + n) → i + n ≤ length s → Formed s i → Formed s (i + n)
over_ascii s zero i b h f = subst (Formed s) (omega arith) f
over_ascii s (suc n) i b h f =
    let e : i + 1 + n ≡ i + suc n = omega arith in
    subst (Formed s) e
    (over_ascii s n (i + 1) (λ k l g. b k (omega arith) (omega arith)) (omega arith)
    (more s i 1 f (omega arith) (width_ascii s i (b i (omega arith) (omega arith))) (λ x. omega arith)))

pub past : (s : List ℕ) (i j : ℕ) → Ascii s i j → Formed s i → Formed s j
past s i j a f =
    let e : i + (j - i) ≡ j = omega (arith, a.on) in
    subst (Formed s) e (over_ascii s (j - i) i (λ k l g. a.all k l (omega arith)) (omega (arith, a.within)) f)

pub begun : (s : List ℕ) (i : ℕ) → Ascii s 0 i → Formed s i
begun s i a = past s 0 i a (record { fuel = length s; enough = omega arith; within = omega arith; same = refl })

-- at the end, or before what is not well-formed, the prefix ends
pub ended : (s : List ℕ) (i : ℕ) → Formed s i → (i < length s → width s i ≡ 0) → well_formed s ≡ i
unfolding well_formed
ended s i f h =
    f.same ∙ stop f.fuel s i (cases (ltb i (length s)) (λ t. h (ltb-true i (length s) t)) (λ t. width_end s i (ltb-false i (length s) t)))

-- the prefix goes as far, and no further than the text
on : (fuel : ℕ) (s : List ℕ) (i : ℕ) → i ≤ length s → (i ≤ formed_from fuel s i) × (formed_from fuel s i ≤ length s)
unfolding formed_from
on zero s i h = (omega arith, h)
on (suc fuel) s i h = go (width s i) refl (λ j. on fuel s j)
  where
    go : (w : ℕ) → width s i ≡ w → ((j : ℕ) → j ≤ length s → (j ≤ formed_from fuel s j) × (formed_from fuel s j ≤ length s)) → (i ≤ formed_from (suc fuel) s i) × (formed_from (suc fuel) s i ≤ length s)
    go zero e ih = rw (e, formed_from) (omega arith, h)
    go (suc w) e ih = let k = ih (i + suc w) (omega (arith, width_in s i h)) in rw (e, formed_from) (omega arith, k.1)

pub formed_within : (s : List ℕ) (i : ℕ) → Formed s i → (i ≤ well_formed s) × (well_formed s ≤ length s)
unfolding well_formed
formed_within s i f = rw f.same (on f.fuel s i f.within)
