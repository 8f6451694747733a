use native.Mathlib.Omega.{arith}
use mathlib.Core.Path.{◌≡◌, ◌∙◌}
use mathlib.Core.Bool.{◌&&◌}
use Rattle.definition_replay.specs.Replay.{in_range}
use Rattle.traces.specs.Cells.{integer}
use Rattle.traces.proofs.Scanning.{both_yes, both_no, scan_starts, scan_out, scan_bad, scan_next, scan_ends}
use Rattle.traces.proofs.check_row.Goals as goal
use Rattle.traces.proofs.check_row.Goals.{then-fits, else-fits}

pub loop-i-init : goal.loop-i-init
loop-i-init c = scan_starts _ _ _

pub overflow_add-count : goal.overflow_add-count
overflow_add-count c = let m = c.loop-i.invariant.counted in omega arith

pub returns-in-Nothing : goal.returns-in-Nothing
returns-in-Nothing c =
    let r = c.column_at-column.result in
    scan_bad _ c.args.at c.args.fields c.loop-i.i c.loop-i.count c.loop-i.fits c.loop-i.invariant r.ends r.negative r.size r.next c.column_at-column.ensures c.in-Nothing.is

pub loop-i-preserved : goal.loop-i-preserved
loop-i-preserved c =
    let r = c.column_at-column.result in
    let a : c.if-fits.fits ≡ (c.loop-i.fits && in_range (integer r.negative r.size)) =
    elim c.if-fits.branch [ then-fits w ↦ w.fits-is ∙ w.in_range-fits.ensures ∙ both_yes _ w.if-fits.true | else-fits w ↦ w.fits-is ∙ both_no _ w.if-fits.false ] in
    scan_next _ c.args.at c.args.fields c.loop-i.i c.loop-i.count c.loop-i.fits c.loop-i.invariant r.ends r.negative r.size r.next c.column_at-column.ensures a c.in-Comma.is

pub returns-in-Row : goal.returns-in-Row
returns-in-Row c =
    let r = c.column_at-column.result in
    let a : c.if-fits.fits ≡ (c.loop-i.fits && in_range (integer r.negative r.size)) =
    elim c.if-fits.branch [ then-fits w ↦ w.fits-is ∙ w.in_range-fits.ensures ∙ both_yes _ w.if-fits.true | else-fits w ↦ w.fits-is ∙ both_no _ w.if-fits.false ] in
    scan_ends _ c.args.at c.args.fields c.loop-i.i c.loop-i.count c.loop-i.fits c.loop-i.invariant r.ends r.negative r.size r.next c.column_at-column.ensures a c.in-Row.is c.verdict.ensures

pub returns : goal.returns
returns c = scan_out _ c.args.at c.args.fields c.loop-i.i c.loop-i.count c.loop-i.fits c.loop-i.invariant c.loop-i-test.false
