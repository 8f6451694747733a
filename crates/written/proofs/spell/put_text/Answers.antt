use native.Mathlib.Omega.{arith}
use mathlib.Core.Path.{sym, ap}
use lib.Seq.{length-take-le}
use Rattle.opens.specs.Opens.{where_of}
use Rattle.definition_written.specs.Written.{spelled_text}
use Rattle.written.proofs.PutLaws.{puts_none, puts_same}
use Rattle.written.proofs.RunLaws.{run_within, run_small, rest_small, part_put, all_taken, spelled_none}
use Rattle.written.proofs.spell.put_text.Goals as goal

pub loop-i-init : goal.loop-i-init
loop-i-init c = (puts_same (spelled_none (where_of c.args.depth c.args.late)) (puts_none _ _), omega arith)

pub slice_bounds-put_run-end : goal.slice_bounds-put_run-end
slice_bounds-put_run-end c = sym (length-take-le _ _ (run_within _ _ _ _ _ _ _ _ _ c.loop-i.invariant.0 c.first_of-plain.ensures c.requires))

pub put_run-u-requires : goal.put_run-u-requires
put_run-u-requires c = run_small _ _ _ _ _ _ _ _ _ c.loop-i.invariant.0 c.first_of-plain.ensures c.requires

pub slice_bounds-put_bytes-count : goal.slice_bounds-put_bytes-count
slice_bounds-put_bytes-count c = run_within _ _ _ _ _ _ _ _ _ c.loop-i.invariant.0 c.first_of-plain.ensures c.requires

pub slice_bounds-put_bytes-start : goal.slice_bounds-put_bytes-start
slice_bounds-put_bytes-start c = run_within _ _ _ _ _ _ _ _ _ c.loop-i.invariant.0 c.first_of-plain.ensures c.requires

pub put_bytes-u-requires : goal.put_bytes-u-requires
put_bytes-u-requires c = rest_small _ _ _ _ _ _ _ _ _ c.loop-i.invariant.0 c.first_of-plain.ensures c.requires c.put_run-u.ensures

pub loop-i-preserved : goal.loop-i-preserved
loop-i-preserved c =
    (part_put _ _ _ _ _ _ _ _ _ c.loop-i.invariant.0 c.first_of-plain.ensures c.requires (omega arith) c.put_run-u.ensures c.put_bytes-u.ensures, omega (arith, c.min.ensures))

pub returns : goal.returns
returns c = puts_same (ap (spelled_text (where_of c.args.depth c.args.late)) (all_taken c.args.text.now _ (omega arith))) c.loop-i.invariant.0
