use mathlib.Core.Bool.{not}
use mathlib.Core.Path.{ap}
use native.Mathlib.Omega.{arith}
use Rattle.integers.proofs.Fitting.{unfit, fit, all_written}
use Rattle.integers.proofs.write.Goals as goal

pub returns-then-not-is_fitting : goal.returns-then-not-is_fitting
returns-then-not-is_fitting c = unfit c.args.fill.now c.args.shape c.is_fitting.ensures (ap not c.if-not-is_fitting.true) _ _

pub write_at-requires : goal.write_at-requires
write_at-requires c = let f = fit c.args.fill.now c.args.shape c.is_fitting.ensures (ap not c.if-not-is_fitting.false) in (f.0, f.1, f.2, omega arith)

pub returns : goal.returns
returns c = all_written c.args.fill.now c.args.shape c.is_fitting.ensures (ap not c.if-not-is_fitting.false) _ _ c.write_at.ensures
