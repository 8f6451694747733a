use native.Mathlib.Omega.{arith}
use mathlib.Core.Path.{sym, ◌∙◌}
use Rattle.cuts.proofs.Walking.{walk, next_cut, last_read, not_read, read_on}
use Rattle.cuts.proofs.all_read.Goals as goal

pub loop-cut-init : goal.loop-cut-init
loop-cut-init c = walk _ _ _ c.requires

pub slice_bounds-reads-count : goal.slice_bounds-reads-count
slice_bounds-reads-count c = let z = next_cut _ _ _ _ _ c.loop-cut.invariant c.loop-cut-test.true in omega (arith, z.0)

pub slice_bounds-reads-start : goal.slice_bounds-reads-start
slice_bounds-reads-start c = let z = next_cut _ _ _ _ _ c.loop-cut.invariant c.loop-cut-test.true in omega (arith, z.0, z.1)

pub slice_bounds-reads-end : goal.slice_bounds-reads-end
slice_bounds-reads-end c = let z = next_cut _ _ _ _ _ c.loop-cut.invariant c.loop-cut-test.true in omega (arith, z.0, z.1)

pub loop-cut-preserved : goal.loop-cut-preserved
loop-cut-preserved c = read_on _ _ _ _ c.loop-cut.invariant c.loop-cut-test.true (sym c.if-not-reads.false ∙ c.reads.ensures)

pub returns-then-not-reads : goal.returns-then-not-reads
returns-then-not-reads c = not_read _ _ _ _ c.loop-cut.invariant c.loop-cut-test.true (sym c.if-not-reads.true ∙ c.reads.ensures)

pub returns : goal.returns
returns c = last_read _ _ _ _ c.loop-cut.invariant c.loop-cut-test.false _ c.reads-2.ensures
