use native.Mathlib.Omega.{arith}
use native.Mathlib.Nat.{sub-zero}
use Rattle.counts.proofs.heads.Goals as goal

pub heads_between-requires : goal.heads_between-requires
heads_between-requires c = (omega arith, omega arith)

pub returns : goal.returns
returns c = rw sub-zero at c.heads_between.ensures
