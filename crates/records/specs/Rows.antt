-- A field's row, and where it is written.
use Rattle.std.specs.Prelude.{ℕ, ◌+◌, ◌-◌, ◌*◌, List, nat_lt, if◌then◌else◌}
use Rattle.definition.specs.Body.{signs}
use Rattle.definition.specs.Rows.{Row, sign_at}
use Rattle.buffers.specs.Over.{over}
use Rattle.marks.specs.Marks.{converted}
use Rattle.records.specs.declared.Window.{Window}
use Rattle.records.specs.declared.Frame.{Frame}
use Rattle.records.specs.declared.Head.{Head}
use Rattle.records.specs.Counts.{word}
use Rattle.records.specs.Written.{documents}

-- the row of a field, from its head and where its spec and it end
abbrev pub row_of : Frame → Head → (size parts at colon close : ℕ) → Row
row_of fr h size parts at colon close =
    record {
      start = fr.start;
      place = word (fr.base + at);
      expression = word size;
      conversion = converted (documents h) h.conversion parts;
      signs = signs (word (sign_at fr.base h.equals)) (word (sign_at fr.base h.bang)) (word (sign_at fr.base colon)) (word (sign_at fr.base close));
    }

-- the numbers of row number `fields` written, where the rows from a window's first on are lent
unfoldable pub windowed : Window → (fields : ℕ) → (numbers rows : List ℕ) → List ℕ
windowed v fields numbers rows = if nat_lt fields v.skip then rows else over rows ((fields - v.skip) * 10) numbers
