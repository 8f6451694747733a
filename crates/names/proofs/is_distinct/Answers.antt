use Rattle.std.proofs.Common.{◌≡◌, true, false}
use borrow.Author.Rules.{rules}
use native.Mathlib.Omega.{arith}
use mathlib.Core.Path.{◌≡◌}
use Prim.Native.Nat.{ℕ}
use lib.ListN.{length-replicate}
use borrow.Author.Tests.{not-true, not-false}
use Rattle.names.proofs.Runs.{passing, passed_sound, pass_run, pass_not, pass_end}
use Rattle.names.proofs.is_distinct.Goals as goal

pub loop-at-init : goal.loop-at-init
loop-at-init c = (length-replicate {A = ℕ} 4096 0, passing _)

pub read_run-run-requires : goal.read_run-run-requires
read_run-run-requires c = (c.requires.0, passed_sound _ _ c.requires.1 c.loop-at.invariant.1, c.loop-at-test.true, search rules)

pub returns-then-not-run : goal.returns-then-not-run
returns-then-not-run c = pass_not _ _ _ c.loop-at.invariant.1 (let t : c.read_run-run.result.apart ≡ false = not-true _ c.if-not-run.true in rw t at c.read_run-run.ensures)

pub loop-at-smaller : goal.loop-at-smaller
loop-at-smaller c = let o = c.read_run-run.ensures.on in omega arith

pub loop-at-preserved : goal.loop-at-preserved
loop-at-preserved c = (search rules, pass_run _ _ _ c.loop-at.invariant.1 (let t : c.read_run-run.result.apart ≡ true = not-false _ c.if-not-run.false in rw t at c.read_run-run.ensures))

pub returns : goal.returns
returns c = pass_end _ _ c.loop-at.invariant.1 c.loop-at-test.false
