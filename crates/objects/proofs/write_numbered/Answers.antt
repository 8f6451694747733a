use native.Mathlib.Omega.{arith}
use lib.ListN.{length-append}
use Rattle.objects.proofs.Texts.{and_then}
use Rattle.objects.proofs.write_numbered.Goals as goal

pub write_run-to-requires : goal.write_run-to-requires
write_run-to-requires c = omega (arith, simp length-append at c.requires)

pub write_number-requires : goal.write_number-requires
write_number-requires c = omega (arith, simp length-append at c.requires)

pub returns : goal.returns
returns c = and_then c.write_run-to.ensures c.write_number.ensures
