use native.Mathlib.Omega.{arith}
use Rattle.digits.specs.Told.{more_value}
use Rattle.digits.proofs.more_value.Goals as goal

pub returns : goal.returns
unfolding more_value
returns c = omega arith
