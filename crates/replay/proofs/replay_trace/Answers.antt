use Rattle.definition.specs.Escapes.{held_names}
use Rattle.replay.proofs.Calls.{trace_refused, trace_room, trace_accepted}
use Rattle.replay.proofs.replay_trace.Goals as goal

pub replay_read-requires : goal.replay_read-requires
replay_read-requires c = trace_room held_names c.args.script.now c.args.numbers.now c.args.trace.now c.args.words.now c.args.text.now c.args.output.now _ _ _ (rw c.in-Accepted.is at c.parse_strings.ensures)

pub returns-in-Refused : goal.returns-in-Refused
returns-in-Refused c = trace_refused held_names c.args.script.now c.args.numbers.now c.args.trace.now c.args.words.now c.args.text.now c.args.output.now _ _ _ (rw c.in-Refused.is at c.parse_strings.ensures) (c.clear.ensures.0, c.clear.ensures.1, c.fill.ensures)

pub returns-in-Accepted : goal.returns-in-Accepted
returns-in-Accepted c = trace_accepted held_names c.args.script.now c.args.numbers.now c.args.trace.now c.args.words.now c.args.text.now c.args.output.now _ _ _ (rw c.in-Accepted.is at c.parse_strings.ensures) c.replay_read.ensures
