-- The bytes that begin a character.
use Rattle.std.specs.Prelude.{ℕ, zero, suc, ◌+◌, List, if◌then◌else◌}
use Rattle.definition.specs.Chars.{byte, ◌to◌, inside}

-- 1 for a byte that may begin a character, which all but 80 to BF may
unfoldable pub head_of : ℕ → ℕ
head_of b = if inside (0x80 to 0xBF) b then 0 else 1

-- how many of n bytes from i on
unfoldable pub heads_from : ℕ → List ℕ → ℕ → ℕ
heads_from zero s i = 0
heads_from (suc n) s i = head_of (byte s i) + heads_from n s (i + 1)
