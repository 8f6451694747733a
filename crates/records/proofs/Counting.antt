-- Numbers that fit are kept as they are. Assumes nothing.
use Rattle.std.proofs.Common.{◌≡◌, ℕ, ◌+◌, ◌-◌, ◌%◌, ◌<◌, ◌≤◌, arith}
use Rattle.records.specs.Counts.{word, plus, minus}

pub word_small : (n : ℕ) → n < 4294967296 → word n ≡ n
unfolding word
word_small n h = omega arith

pub plus_small : (a b : ℕ) → a + b < 18446744073709551616 → plus a b ≡ a + b
unfolding plus
plus_small a b h = omega arith

pub minus_small : (a b : ℕ) → b ≤ a → a < 18446744073709551616 → minus a b ≡ a - b
unfolding minus
minus_small a b h l = omega arith

-- a place behind another
pub is_place : (base taken : ℕ) → word (base + taken % 4294967296) ≡ word (base + taken)
unfolding word
is_place base taken = omega arith
