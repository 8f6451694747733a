-- Words of at most six bytes as numbers, as the code compares them.
use Rattle.std.specs.Prelude.{ℕ, ◌+◌, ◌*◌, Bool, true, ◌&&◌, List, [], ◌∷◌, ltb}
use Prim.Native.String.{String}
use Rattle.definition.specs.Chars.{ascii}
use Rattle.definition_scripts.specs.Keywords.{keywords}

-- the first byte is the least, and above the last stands 1
unfoldable pub packed : List ℕ → ℕ
packed [] = 1
packed (c ∷ w) = packed w * 256 + c

-- each is a byte
unfoldable pub bytes : List ℕ → Bool
bytes [] = true
bytes (c ∷ w) = ltb c 256 && bytes w

-- those of some texts, and of the keywords
unfoldable pub all_packed : List String → List ℕ
all_packed [] = []
all_packed (k ∷ ks) = packed (ascii k) ∷ all_packed ks

unfoldable pub packed_keywords : List ℕ
packed_keywords = all_packed keywords
