use Rattle.std.proofs.Common.{arith, ◌≡◌, length}
use Rattle.names.proofs.Scans.{ends_here, ends_mark, ends_other, ends_end}
use Rattle.names.proofs.line_ends.Goals as goal
use Rattle.names.proofs.line_ends.Goals.{in-59, in_default}

pub returns-in-10 : goal.returns-in-10
returns-in-10 c = ends_here _ _ _ _ c.loop-i.invariant c.loop-i-test.true c.in-10.is

pub overflow_add-marks : goal.overflow_add-marks
overflow_add-marks c = let f = c.loop-i.invariant.few in omega arith

pub loop-i-preserved : goal.loop-i-preserved
loop-i-preserved c =
    elim c.match-file-i.branch [
      | in-59 w ↦ rw w.marks-is (ends_mark _ _ _ _ c.loop-i.invariant c.loop-i-test.true w.in-59.is)
      | in_default w ↦ rw w.marks-is (ends_other _ _ _ _ c.loop-i.invariant c.loop-i-test.true (λ z. omega arith) (λ z. omega arith))
    ]

pub returns : goal.returns
returns c =
    let e : c.loop-i.i ≡ length c.args.file.now = omega (arith, c.loop-i.auto.i-end c.requires) in
    rw e at (ends_end _ _ _ _ c.loop-i.invariant c.loop-i-test.false)
