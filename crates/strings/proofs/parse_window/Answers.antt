use mathlib.Core.Path.{refl}
use Rattle.strings.proofs.RowCalls.{refused_window, refused_rows, accepted_rows}
use Rattle.strings.proofs.CallLaws.{few}
use Rattle.strings.proofs.parse_window.Goals as goal

pub answer_of-requires : goal.answer_of-requires
answer_of-requires c = few (rw c.in-Ok.is at c.read_all.ensures)

pub returns-in-Err : goal.returns-in-Err
returns-in-Err c = let R = rw c.in-Err.is at c.read_all.ensures in refused_rows c.args.rows.now c.args.rows.now _ c.in-Err.r _ _ (refused_window _ c.args.script.now c.args.numbers.now c.args.within c.args.skip c.args.rows.now _ R.reads) refl (refl, R.rows_are)

pub returns-in-Ok : goal.returns-in-Ok
returns-in-Ok c = let R = rw c.in-Ok.is at c.read_all.ensures in rw c.answer_of.ensures (accepted_rows _ c.args.script.now c.args.numbers.now R)
