use borrow.Author.Rules.{rules}
use native.Mathlib.Omega.{arith}
use mathlib.Core.Path.{◌∙◌}
use lib.ListN.{length-take}
use Rattle.listing.proofs.Filling.{filled_few, call_short, filled_in_lem, refusals_few, call_listed}
use Rattle.listing.proofs.Counting.{count_script, script_most}
use Rattle.listing.proofs.list_by.Goals as goal

pub fill-filled-requires : goal.fill-filled-requires
fill-filled-requires c = c.requires

pub count_part-needed-requires : goal.count_part-needed-requires
count_part-needed-requires c = record { ahead = omega arith; within = omega arith; not_long_lem = c.requires; few = omega arith }

pub overflow_cast-needed : goal.overflow_cast-needed
overflow_cast-needed c = let m = script_most _ c.args.script.now _ c.requires c.count_part-needed.ensures in search rules

pub returns-then-rows-count : goal.returns-then-rows-count
returns-then-rows-count c = call_short _ _ _ c.requires _ _ c.fill-filled.ensures _ _ c.if-rows-count.true (c.count_part-needed.ensures ∙ count_script _ _) c.fill.ensures

pub overflow_mul-count : goal.overflow_mul-count
overflow_mul-count c = let m = filled_few _ _ _ c.requires _ _ c.fill-filled.ensures in search rules

pub overflow_cast-result : goal.overflow_cast-result
overflow_cast-result c = let m = filled_few _ _ _ c.requires _ _ c.fill-filled.ensures in search rules

pub slice_bounds-refusals_in-end : goal.slice_bounds-refusals_in-end
slice_bounds-refusals_in-end c = let m = filled_in_lem _ _ _ c.requires _ _ c.fill-filled.ensures c.if-rows-count.false in search rules

pub slice_bounds-refusals_in-end-2 : goal.slice_bounds-refusals_in-end-2
slice_bounds-refusals_in-end-2 c = rw length-take (omega (arith, filled_in_lem _ _ _ c.requires _ _ c.fill-filled.ensures c.if-rows-count.false))

pub overflow_cast-result-2 : goal.overflow_cast-result-2
overflow_cast-result-2 c = let m = refusals_few _ _ _ c.requires _ _ c.fill-filled.ensures c.if-rows-count.false _ c.refusals_in.ensures in search rules

pub returns : goal.returns
returns c = call_listed _ _ _ c.requires _ _ c.fill-filled.ensures c.if-rows-count.false _ c.refusals_in.ensures
