-- The view over an accepted answer: the record at a number (RULES 5.9).
use Rattle.std.specs.Prelude.{ℕ, ◌+◌, ◌*◌, ◌||◌, List, ltb, leb, length, if◌then◌else◌}
use Rattle.std.proofs.Math.Option.{Option, none, some}
use Rattle.definition.specs.Chars.{part}

-- the eight words of record n; none exactly if n is not below the count or the words end before that record does
unfoldable pub viewed : (words : List ℕ) (count n : ℕ) → Option (List ℕ)
viewed words count n =
    if leb count n || ltb (length words) (n * 8 + 8) then none else some (part words (n * 8) (n * 8 + 8))
