-- How long a prefix is. Assumes nothing.
use mathlib.Core.Path.{◌≡◌, refl}
use Prim.Native.Nat.{ℕ, zero, suc}
use Rattle.definition.specs.Numbers.{prefix}

-- no letter stands before the quote of a kind that is none of the six
pub prefix_none : (k : ℕ) → (k ≡ 1 → ⊥) → (k ≡ 2 → ⊥) → (k ≡ 3 → ⊥) → (k ≡ 4 → ⊥) → (k ≡ 5 → ⊥) → (k ≡ 6 → ⊥) → 0 ≡ prefix k
unfolding prefix
prefix_none zero a b c d e f = refl
prefix_none (suc zero) a b c d e f = absurd (a refl)
prefix_none (suc (suc zero)) a b c d e f = absurd (b refl)
prefix_none (suc (suc (suc zero))) a b c d e f = absurd (c refl)
prefix_none (suc (suc (suc (suc zero)))) a b c d e f = absurd (d refl)
prefix_none (suc (suc (suc (suc (suc zero))))) a b c d e f = absurd (e refl)
prefix_none (suc (suc (suc (suc (suc (suc zero)))))) a b c d e f = absurd (f refl)
prefix_none (suc (suc (suc (suc (suc (suc (suc k))))))) a b c d e f = refl
