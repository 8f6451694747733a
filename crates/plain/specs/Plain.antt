-- Where a run of plain bytes ends.
use Rattle.std.specs.Prelude.{ℕ, ◌+◌, ◌≤◌, ◌<◌, ◌≡◌, false, List, drop}
use Rattle.definition.specs.Chars.{byte, before}
use Rattle.marks.specs.Marks.{special}

-- where the plain bytes from i on end; i itself where there are none
abbrev pub plain_end : ℕ → List ℕ → ℕ → ℕ
plain_end kind s i = i + before (λ b. special kind b) (drop i s)

-- the bytes from i up to r, which is at most j, are plain, and the one at r is not unless r is j
pub record PlainTo (kind : ℕ) (s : List ℕ) (i j r : ℕ) : Type 0 where
  pub on : i ≤ r
  pub within : r ≤ j
  pub same : plain_end kind s i ≡ plain_end kind s r
  pub ends : r < j → plain_end kind s r ≡ r

-- the bytes from i up to j are plain
abbrev pub AllPlain : ℕ → List ℕ → ℕ → ℕ → Type 0
AllPlain kind s i j = (k : ℕ) → i ≤ k → k < j → special kind (byte s k) ≡ false
