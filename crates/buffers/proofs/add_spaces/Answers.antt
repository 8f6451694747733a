use native.Mathlib.Omega.{arith}
use Prim.Native.Nat.{◌+◌, ◌-◌}
use Rattle.buffers.proofs.Over.{over_filled}
use Rattle.buffers.proofs.add_spaces.Goals as goal

pub returns : goal.returns
returns c =
    let from = c.min-from.result in
    over_filled _ _ from (from + c.min.result - from) c.args.count 32 c.min-from.ensures (omega arith) c.fill.ensures
