use native.Mathlib.Omega.{arith}
use native.Mathlib.Numerals.{sub-one}
use Prim.Native.Nat.{ℕ, zero, suc, ◌+◌, ◌-◌, ◌≤◌, ◌<◌}
use mathlib.Core.Path.{◌≡◌, sym, ◌∙◌}
use mathlib.Core.Bool.{false, ◌&&◌}
use mathlib.Core.List.{List}
use lib.Dec.{lit<}
use lib.ListN.{get_or-eq_default}
use Rattle.definition.specs.Chars.{byte, ◌to◌, inside, follow}
use Rattle.utf8.specs.Classes.{ranges}
use Rattle.definition.proofs.Moves.CharLaws.{byte_is, inside_yes, inside_not}
use Rattle.utf8.proofs.follows.Goals as goal
use Rattle.utf8.proofs.follows.Goals.{then-s-i-via-then-s-i, then-s-i-via-else-s-i+then-s-i-2, then-s-i-via-else-s-i+else-s-i-2+then-most-s}

-- one byte more
turn : (n low high : ℕ) (s : List ℕ) (i : ℕ) → 0 < n → follow (ranges n low high) s i ≡ (inside (low to high) (byte s i) && follow (ranges (n - 1) 0x80 0xBF) s (i + 1))
unfolding follow ranges
turn zero low high s i h = absurd (omega arith)
turn (suc n) low high s i h = rw sub-one

bad : (n low high : ℕ) (s : List ℕ) (i : ℕ) → 0 < n → (low ≤ byte s i → byte s i ≤ high → ⊥) → follow (ranges n low high) s i ≡ false
bad n low high s i h f = rw (turn n low high s i h, inside_not low high (byte s i) f)

pub returns-then-s-i : goal.returns-then-s-i
returns-then-s-i c =
    let a = c.args in
    let l = c.loop-k in
    let i = a.from + l.k in
    let left : 0 < a.more - l.k = omega (arith, c.loop-k-test.true) in
    let not_there = bad (a.more - l.k) l.least l.most a.s.now i left in
    sym (l.invariant.3 ∙ elim c.then-s-i.branch [
      | then-s-i-via-then-s-i w ↦ let e = get_or-eq_default a.s.now 256 w.if-s-i.true in not_there (λ p q. omega (arith, l.invariant.0))
      | then-s-i-via-else-s-i+then-s-i-2 w ↦ let e = byte_is a.s.now i w.if-s-i.false in not_there (λ p q. omega (arith, w.if-s-i-2.true))
      | then-s-i-via-else-s-i+else-s-i-2+then-most-s w ↦ let e = byte_is a.s.now i w.if-s-i.false in not_there (λ p q. omega (arith, w.if-most-s.true))
    ])

pub loop-k-preserved : goal.loop-k-preserved
loop-k-preserved c =
    let a = c.args in
    let l = c.loop-k in
    let i = a.from + l.k in
    let inside_s = c.if-s-i.false in
    let more = c.loop-k-test.true in
    let b = byte_is a.s.now i inside_s in
    let next : i + 1 ≡ a.from + (l.k + 1) = omega arith in
    let less : a.more - l.k - 1 ≡ a.more - (l.k + 1) = omega arith in (
      lit< tt,
      λ h. omega (arith, inside_s),
      omega (arith, more),
      l.invariant.3 ∙ rw (turn (a.more - l.k) l.least l.most a.s.now i (omega (arith, more)), inside_yes l.least l.most (byte a.s.now i) (omega (arith, c.if-s-i-2.false)) (omega (arith, c.if-most-s.false)), less, next),
    )

pub returns : goal.returns
unfolding follow ranges
returns c =
    let l = c.loop-k in
    let none : c.args.more - l.k ≡ 0 = omega (arith, c.loop-k-test.false) in
    sym (l.invariant.3 ∙ rw none)
