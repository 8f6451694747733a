use borrow.Author.Tests.{ltb-true, ltb-false, eqb-true, lt-leb}
use native.Mathlib.Omega.{arith}
use mathlib.Core.Path.{◌≡◌, sym, ◌∙◌, subst}
use Prim.Native.Nat.{ℕ, ◌+◌, ◌≤◌, ◌<◌}
use mathlib.Core.List.{List}
use lib.Dec.{ltb}
use Rattle.definition.specs.Chars.{byte}
use Rattle.definition.proofs.Moves.CharLaws.{cases, byte_is}
use Rattle.ascii.proofs.Runs.{all_part}
use Rattle.plain.proofs.is_plain.Invariants.{sets, Marked, Seen, not_special}
use Rattle.plain.proofs.is_plain.Goals as goal
use Rattle.plain.proofs.is_plain.Goals.{Then-max-eq0}

one_more_lem : (s : List ℕ) (i j l r b l' r' b' : ℕ) → l ≤ l' → r ≤ r' → b ≤ b' → Marked (byte s j) l' r' b' → Seen s i j l r b → Seen s i (j + 1) l' r' b'
one_more_lem s i j l r b l' r' b' l≤ r≤ b≤ new p k a c =
    cases (ltb k j)
    (λ t.
    let q = p k a (ltb-true k j t) in
    record { lefts = λ e. omega (arith, q.lefts e); rights = λ e. omega (arith, q.rights e); backslashes = λ e. omega (arith, q.backslashes e) })
    (λ t. let e : j ≡ k = omega (arith, ltb-false k j t) in subst (λ (n : ℕ). Marked (byte s n) l' r' b') e new)

-- no mark is set at the loop's end
unmarked : (c : Then-max-eq0) → (k : ℕ) → c.args.from ≤ k → k < c.args.to → Marked (byte c.args.s.now k) 0 0 0
unmarked c k h l =
    let t = c.if-max-eq0.true in
    let g = c.max-2.ensures in
    let f = c.max.ensures in
    let p = c.loop-i.invariant k h (omega (arith, c.loop-i-test.false)) in
    record { lefts = λ q. omega (arith, p.lefts q, t, g, f); rights = λ q. omega (arith, p.rights q, t, g, f); backslashes = λ q. omega (arith, p.backslashes q, t, g, f) }

pub loop-i-init : goal.loop-i-init
loop-i-init c = λ k h l. absurd (omega arith)

pub loop-i-preserved : goal.loop-i-preserved
loop-i-preserved c =
    let a = c.args in
    let x = c.max-left.ensures in
    let y = c.max-right.ensures in
    let z = c.max-backslash.ensures in
    let b = byte_is a.s.now c.loop-i.i (omega (arith, c.loop-i-test.true, c.requires.1)) in
    one_more_lem a.s.now a.from c.loop-i.i _ _ _ _ _ _ (omega (arith, x)) (omega (arith, y)) (omega (arith, z))
    (record {
      lefts = λ e. omega (arith, x, sets _ _ _ c.is_byte.ensures (b ∙ e));
      rights = λ e. omega (arith, y, sets _ _ _ c.is_byte-in-loop-i.ensures (b ∙ e));
      backslashes = λ e. omega (arith, z, sets _ _ _ c.is_byte-in-loop-i-2.ensures (b ∙ e));
    })
    c.loop-i.invariant

pub returns-then-not-is_any_bytes : goal.returns-then-not-is_any_bytes
returns-then-not-is_any_bytes c =
    λ e k h l. let a = c.args in
    let t = sym c.is_any_bytes.ensures ∙ c.if-not-is_any_bytes.true in
    not_special a.kind (byte a.s.now k) (unmarked (goal.at.returns-then-not-is_any_bytes c).Then-max-eq0 k h l) (rw t)

pub returns-else-not-is_any_bytes : goal.returns-else-not-is_any_bytes
returns-else-not-is_any_bytes c =
    λ e k h l. let a = c.args in
    let p = c.requires in
    let g = all_part a.s.now a.from (sym c.is_ascii.ensures ∙ e) p.0 p.1 k h l in
    let t = sym c.is_any_bytes.ensures ∙ c.if-not-is_any_bytes.false in
    not_special a.kind (byte a.s.now k) (unmarked (goal.at.returns-else-not-is_any_bytes c).Then-max-eq0 k h l) (rw (t, lt-leb 0x80 (byte a.s.now k) g))

pub returns-else-max-eq0 : goal.returns-else-max-eq0
returns-else-max-eq0 c = λ e. absurd (c.if-max-eq0.false (eqb-true c.max-2.result 0 e))
