-- The literals of flat numbers, by their index.
use Rattle.std.specs.Prelude.{ℕ, zero, suc, ◌+◌, ◌*◌, List, [], ◌∷◌, get_or}
use Rattle.definition.specs.Entry.{Literal}

-- literal i: the six numbers from i * 6 on; zeros where they end
unfoldable pub literal_at : List ℕ → ℕ → Literal
literal_at ns i =
    record {
      kind = get_or ns (i * 6) 0;
      triple = get_or ns (i * 6 + 1) 0;
      offset = get_or ns (i * 6 + 2) 0;
      size = get_or ns (i * 6 + 3) 0;
      start = get_or ns (i * 6 + 4) 0;
      end = get_or ns (i * 6 + 5) 0;
    }

-- n literals, from number i on
unfoldable pub literals : List ℕ → ℕ → ℕ → List Literal
literals ns i zero = []
literals ns i (suc n) = literal_at ns i ∷ literals ns (suc i) n
