use Rattle.replay.proofs.Calls.{at_refused, at_end_lem}
use Rattle.replay.proofs.replay_read.Goals as goal

pub returns-in-Err : goal.returns-in-Err
returns-in-Err c = at_refused c.args.x c.args.trace.now _ _ _ c.requires _ _ c.in-Err.ensures c.clear.ensures

pub returns-in-Ok : goal.returns-in-Ok
returns-in-Ok c = at_end_lem c.args.x c.args.trace.now _ _ _ c.requires _ _ c.in-Ok.ensures
