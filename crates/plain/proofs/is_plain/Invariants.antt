use Rattle.std.specs.Prelude.{if◌then◌else◌}
use borrow.Author.Tests.{eq-eqb, ne_eqb}
use native.Mathlib.Omega.{arith}
use mathlib.Core.Path.{◌≡◌, ◌∙◌}
use mathlib.Core.Bool.{false, ◌&&◌}
use Prim.Native.Nat.{ℕ, ◌≤◌, ◌<◌}
use mathlib.Core.List.{List}
use lib.Dec.{leb, eqb}
use Rattle.definition.specs.Numbers.{is_bytes}
use Rattle.definition.specs.Chars.{byte}
use Rattle.marks.specs.Marks.{special}
use Rattle.plain.proofs.is_plain.Given as goal

-- a byte that is another sets its mark
pub sets : (x y mark : ℕ) → mark ≡ (if eqb x y then 1 else 0) → x ≡ y → mark ≡ 1
sets x y mark e h = e ∙ rw (eq-eqb x y h)

-- what the marks tell of a byte that was seen
pub record Marked (b left right backslash : ℕ) : Type 0 where
  pub lefts : b ≡ 123 → 1 ≤ left
  pub rights : b ≡ 125 → 1 ≤ right
  pub backslashes : b ≡ 92 → 1 ≤ backslash

-- of all bytes from i up to j
abbrev pub Seen : List ℕ → ℕ → ℕ → ℕ → ℕ → ℕ → Type 0
Seen s i j left right backslash = (k : ℕ) → i ≤ k → k < j → Marked (byte s k) left right backslash

-- no mark was set, and the byte may stand in a body of the kind
pub not_special : (kind b : ℕ) → Marked b 0 0 0 → (is_bytes kind && leb 0x80 b) ≡ false → special kind b ≡ false
not_special kind b p f =
    rw (ne_eqb b 123 (λ e. omega (arith, p.lefts e)), ne_eqb b 125 (λ e. omega (arith, p.rights e)), ne_eqb b 92 (λ e. omega (arith, p.backslashes e))) f

abbrev pub invariant-loop-i : goal.invariant-loop-i
invariant-loop-i l = Seen l.s l.from l.i l.left l.right l.backslash
