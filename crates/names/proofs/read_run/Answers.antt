use Rattle.std.proofs.Common.{arith}
use Rattle.names.proofs.Runs.{run_part}
use Rattle.names.proofs.read_run.Goals as goal

pub returns : goal.returns
returns c = run_part _ _ _ _ _ _ c.fill-used.ensures (c.fill-used.ensures.moves c.requires.2 (omega (arith, c.fill-used.auto.list, c.requires.3))) c.is_apart-apart.ensures
