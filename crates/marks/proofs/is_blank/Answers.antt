use native.Mathlib.Omega.{arith}
use Prim.Native.Nat.{ℕ, suc, ◌≤◌, ◌<◌}
use mathlib.Core.Path.{◌≡◌, sym}
use mathlib.Core.Bool.{false, or-true}
use lib.Dec.{lit≤}
use Rattle.definition.specs.Chars.{inside_any, white_space}
use Rattle.definition.specs.Body.{is_blank}
use Rattle.definition.proofs.Moves.CharLaws.{inside_yes, inside_none}
use Rattle.marks.proofs.is_blank.Goals as goal

abbrev Not : ℕ → ℕ → Type 0
Not x k = x ≡ k → ⊥

other : {x k : ℕ} → Not x k → k ≤ x → x ≤ k → ⊥
other n p q = n (omega arith)

-- a code x by a bound k of the match
upto : {x k high : ℕ} → x < k → k ≤ suc high → x ≤ high
upto h p = omega arith

below : {x k low high : ℕ} → x < k → k ≤ low → low ≤ x → x ≤ high → ⊥
below h p q r = omega arith

above : {x k low high : ℕ} → k ≤ x → high < k → low ≤ x → x ≤ high → ⊥
above h p q r = omega arith

-- a code that no arm has
none : (x : ℕ) → ((((((((Unit {0} × Not x 0x20) × Not x 0x85) × Not x 0xA0) × Not x 0x1680) × Not x 0x2028) × Not x 0x2029) × Not x 0x202F) × Not x 0x205F) × Not x 0x3000 → (0x09 ≤ x → x ≤ 0x0D → ⊥) → (0x2000 ≤ x → x ≤ 0x200A → ⊥) → false ≡ is_blank x
unfolding white_space
none x (((((((((u, a), b), c), d), e), f), g), h), i) low high =
    sym (inside_none white_space x (low, (other a, (other b, (other c, (other d, (high, (other e, (other f, (other g, (other h, (other i, tt))))))))))))

pub returns-in-32 : goal.returns-in-32
unfolding inside_any white_space
returns-in-32 c = rw c.in-32.is

pub returns-in-133 : goal.returns-in-133
unfolding inside_any white_space
returns-in-133 c = rw c.in-133.is

pub returns-in-160 : goal.returns-in-160
unfolding inside_any white_space
returns-in-160 c = rw c.in-160.is

pub returns-in-5760 : goal.returns-in-5760
unfolding inside_any white_space
returns-in-5760 c = rw c.in-5760.is

pub returns-in-8232 : goal.returns-in-8232
unfolding inside_any white_space
returns-in-8232 c = rw c.in-8232.is

pub returns-in-8233 : goal.returns-in-8233
unfolding inside_any white_space
returns-in-8233 c = rw c.in-8233.is

pub returns-in-8239 : goal.returns-in-8239
unfolding inside_any white_space
returns-in-8239 c = rw c.in-8239.is

pub returns-in-8287 : goal.returns-in-8287
unfolding inside_any white_space
returns-in-8287 c = rw c.in-8287.is

pub returns-in-12288 : goal.returns-in-12288
unfolding inside_any white_space
returns-in-12288 c = rw c.in-12288.is

pub returns-in-9-to-13 : goal.returns-in-9-to-13
unfolding inside_any white_space
returns-in-9-to-13 c = rw (inside_yes 0x09 0x0D _ c.in-9-to-13.if-c-lt9-own.false (upto c.in-9-to-13.if-c-lt14-own.true (lit≤ tt)))

pub returns-in-8192-to-8202 : goal.returns-in-8192-to-8202
unfolding inside_any white_space
returns-in-8192-to-8202 c = simp (inside_yes 0x2000 0x200A _ c.in-8192-to-8202.if-c-lt8192-own.false (upto c.in-8192-to-8202.if-c-lt8203-own.true (lit≤ tt)), or-true)

pub returns-in_default : goal.returns-in_default
unfolding inside_any white_space
returns-in_default c = none _ c.in_default.in_default-own.rest (below c.in_default.if-c-lt9-own.true (lit≤ tt)) (below c.in_default.if-c-lt9-own.true (lit≤ tt))

pub returns-in_default-2 : goal.returns-in_default-2
unfolding inside_any white_space
returns-in_default-2 c = none _ c.in_default.in_default-own.rest (above c.in_default.if-c-lt14-own.false (lit≤ tt)) (below c.in_default.if-c-lt8192-own.true (lit≤ tt))

pub returns-in_default-3 : goal.returns-in_default-3
unfolding inside_any white_space
returns-in_default-3 c = none _ c.in_default.in_default-own.rest (above c.in_default.if-c-lt8203-own.false (lit≤ tt)) (above c.in_default.if-c-lt8203-own.false (lit≤ tt))
