use Prim.Native.Nat.{◌+◌, ◌-◌, ◌*◌}
use lib.ListN.{length}
use Rattle.definition_scripts.specs.Cut.{cut_part}
use Rattle.definition_scripts.specs.Listing.{read_rows, cut_rows}
use Rattle.found.specs.Found.{literal_of}
use Rattle.escapes.specs.Answers.{names_by}
use Rattle.told.specs.Rows.{rows_in}
use Rattle.listing.specs.Count.{total}
use Rattle.listing.proofs.Counting.{Counting, Windows, Blocks}
use Rattle.listing.proofs.count.+count_block_count_literal_count_part_count_window.Given as goal

abbrev pub decreases-count_block : goal.decreases-count_block
decreases-count_block l = 4 * total (names_by l.names.now.file.now l.names.now.index.now) l.s.now (rows_in l.block.now 0 l.n)

abbrev pub decreases-count_literal : goal.decreases-count_literal
decreases-count_literal l = 4 * total (names_by l.names.now.file.now l.names.now.index.now) l.s.now (read_rows (names_by l.names.now.file.now l.names.now.index.now) l.s.now 0 (literal_of l.l)) + 2

abbrev pub decreases-count_part : goal.decreases-count_part
decreases-count_part l = 4 * total (names_by l.names.now.file.now l.names.now.index.now) l.s.now (cut_rows (names_by l.names.now.file.now l.names.now.index.now) l.s.now 0 (cut_part l.s.now l.from l.end)) + 3

abbrev pub decreases-count_window : goal.decreases-count_window
decreases-count_window l = 4 * total (names_by l.names.now.file.now l.names.now.index.now) l.s.now (read_rows (names_by l.names.now.file.now l.names.now.index.now) l.s.now 0 (literal_of l.l)) + 1

abbrev pub invariant-count_block-loop-i : goal.invariant-count_block-loop-i
invariant-count_block-loop-i l = Blocks (names_by l.names.file.now l.names.index.now) l.s l.block l.n l.rows l.i

abbrev pub invariant-count_literal-loop-seen : goal.invariant-count_literal-loop-seen
invariant-count_literal-loop-seen l = Windows (names_by l.names.file.now l.names.index.now) l.s (read_rows (names_by l.names.file.now l.names.index.now) l.s 0 (literal_of l.l)) l.rows l.seen

abbrev pub decreases-count_literal-loop-seen : goal.decreases-count_literal-loop-seen
decreases-count_literal-loop-seen l = length (read_rows (names_by l.names.file.now l.names.index.now) l.s 0 (literal_of l.l)) - l.seen

abbrev pub invariant-count_part-loop-l : goal.invariant-count_part-loop-l
invariant-count_part-loop-l l = Counting (names_by l.names.file.now l.names.index.now) l.s l.from l.end l.at l.rows

abbrev pub decreases-count_part-loop-l : goal.decreases-count_part-loop-l
decreases-count_part-loop-l l = l.end - l.at
