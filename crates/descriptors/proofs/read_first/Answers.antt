use native.Mathlib.Omega.{arith}
use lib.ListN.{length-take}
use borrow.Author.Rules.{rules}
use Rattle.descriptors.proofs.read_first.Goals as goal

pub slice_bounds-parse_strings-end : goal.slice_bounds-parse_strings-end
slice_bounds-parse_strings-end c = rw length-take (omega arith)
