-- THE LIMIT OF A PROGRAM'S BODY: 1,024 bytes are read, one more is 5 with no details. Assumes nothing.
use mathlib.Core.Path.{◌≡◌}
use mathlib.Core.List.{List, [], ◌∷◌}
use Prim.Native.Nat.{ℕ, ◌≤◌, ◌<◌}
use borrow.Author.Tests.{lt-ltb, le-ltb}
use lib.ListN.{length}
use Rattle.definition.specs.Chars.{ascii}
use Rattle.definition.specs.Escapes.{held_names}
use Rattle.definition.specs.Reading.{read}
use Rattle.definition.specs.Rows.{all_rows, rowed}
use Rattle.definition_lines.specs.Lines.{decimal_n, decimal, refusal_line, outcome_lines, one_literal, body_lines}
use Rattle.definition_lines.specs.Why.{outcome_why, body_why}

-- what a body that is too long gets
abbrev pub too_long : List ℕ
unfolding ascii
too_long = ascii "{\"refusal\":5,\"at\":0,\"a\":0,\"b\":0}\n"

module _ (s : List ℕ) where
  pub lines_long : 1024 < length s → body_lines s ≡ too_long
  unfolding body_lines refusal_line ascii decimal_n decimal
  lines_long h = rw (lt-ltb 1024 (length s) h)

  pub lines_read : length s ≤ 1024 → body_lines s ≡ outcome_lines (read held_names s (one_literal (length s) ∷ []))
  unfolding body_lines
  lines_read h = rw (le-ltb 1024 (length s) h)

  pub why_long : 1024 < length s → body_why s ≡ too_long
  unfolding body_why refusal_line ascii decimal_n decimal
  why_long h = rw (lt-ltb 1024 (length s) h)

  pub why_read : length s ≤ 1024 → body_why s ≡ outcome_why (rowed (all_rows held_names s (one_literal (length s) ∷ [])) (read held_names s (one_literal (length s) ∷ [])))
  unfolding body_why
  why_read h = rw (le-ltb 1024 (length s) h)
