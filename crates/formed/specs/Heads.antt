-- Records by their number in the words.
use Rattle.std.specs.Prelude.{ℕ, ◌+◌, ◌*◌, List, get_or}
use Rattle.formed.specs.declared.Head.{Head}

-- the words of record i that are looked at; 0 where the words end
unfoldable pub head_at : (words : List ℕ) (i : ℕ) → Head
head_at w i = record { kind = get_or w (i * 8) 0; offset = get_or w (i * 8 + 1) 0; size = get_or w (i * 8 + 2) 0; mode = get_or w (i * 8 + 5) 0; parts = get_or w (i * 8 + 6) 0 }
