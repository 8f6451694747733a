-- What the code writes: bytes over a buffer.
use Rattle.std.specs.Prelude.{ℕ, ◌+◌, ◌<◌, ◌≡◌, List, [], ltb, length, if◌then◌else◌}
use Rattle.buffers.specs.Over.{over}

-- bytes that are written over a buffer from the used length on: the buffer and the used length afterwards
pub record Adds (xs buffer : List ℕ) (used : ℕ) (after : List ℕ) (r : ℕ) : Type 0 where
  pub wrote : after ≡ over buffer used xs
  pub up : r ≡ used + length xs

-- the used length afterwards is a number of the machine
abbrev pub Fits : ℕ → List ℕ → Type 0
Fits used xs = used + length xs < 18446744073709551616

-- bytes that are written over a buffer from its front on, as far as it goes, and how many they are
abbrev pub Puts : (xs buffer after : List ℕ) (r : ℕ) → Type 0
Puts xs buffer after r = (r ≡ length xs) × (after ≡ over buffer 0 xs)

-- the line of a text of at most 4,294,967,295 bytes; a longer one has none
unfoldable pub of_text : (text line : List ℕ) → List ℕ
of_text text line = if ltb 0xFFFFFFFF (length text) then [] else line
