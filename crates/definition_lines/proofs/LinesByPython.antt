-- The tables of rows.py: bytes and numbers are written as they say, computed. Assumes nothing.
use mathlib.Core.Path.{◌≡◌, refl}
use mathlib.Core.List.{map}
use Rattle.definition.specs.Chars.{ascii}
use Rattle.definition_lines.specs.Lines.{decimal_n, decimal, hex_code, escaped}
use Rattle.definition_lines.proofs.LineRows.{escape_rows, decimal_rows}

pub bytes_written : map (λ r. escaped r.0) escape_rows ≡ map (λ r. r.1) escape_rows
unfolding escape_rows ascii hex_code escaped
bytes_written = refl

pub numbers_written : map (λ r. decimal r.0) decimal_rows ≡ map (λ r. r.1) decimal_rows
unfolding decimal_rows ascii decimal_n decimal
numbers_written = refl
