-- Numbers as the code keeps them: a word is modulo 2^32, a count modulo 2^64.
use Rattle.std.specs.Prelude.{ℕ, ◌+◌, ◌-◌, ◌%◌, ◌^◌}

-- a number as a word
unfoldable pub word : ℕ → ℕ
word n = n % 2 ^ 32

-- a sum and a difference of counts
unfoldable pub plus : ℕ → ℕ → ℕ
plus a b = (a + b) % 2 ^ 64

unfoldable pub minus : ℕ → ℕ → ℕ
minus a b = (a + (2 ^ 64 - b)) % 2 ^ 64
