use borrow.Author.Rules.{rules}
use native.Mathlib.Omega.{arith}
use Rattle.trace_lines.proofs.Telling.{at_template, at_row, at_short, at_end_lem}
use Rattle.trace_lines.proofs.write_checked.Goals as goal

pub returns-in-Err : goal.returns-in-Err
returns-in-Err c = at_template _ c.args.count _ c.args.trace.now _ c.requires.0 c.in-Err.refused c.in-Err.ensures.0 c.from.ensures c.refuse.ensures

pub returns-then-lines-ne0 : goal.returns-then-lines-ne0
returns-then-lines-ne0 c = at_row _ c.args.count _ c.args.trace.now _ c.requires.0 c.in-Ok.fields c.in-Ok.ensures.0 c.write_rows-lines.result.number c.write_rows-lines.result.row c.write_rows-lines.result.used _ c.write_rows-lines.ensures (search rules) c.if-lines-ne0.true c.refuse-then-lines-ne0.ensures

pub returns-then-room-lines : goal.returns-then-room-lines
returns-then-room-lines c = at_short _ c.args.count _ c.args.trace.now _ c.requires.0 c.in-Ok.fields c.in-Ok.ensures.0 c.write_rows-lines.result.number c.write_rows-lines.result.row c.write_rows-lines.result.used _ c.write_rows-lines.ensures (search rules) (search rules) (let r = c.number_of-room.ensures in let l = c.if-room-lines.true in omega arith) c.refuse-then-room-lines.ensures

pub returns : goal.returns
returns c = at_end_lem _ c.args.count _ c.args.trace.now _ c.requires.0 c.in-Ok.fields c.in-Ok.ensures.0 c.write_rows-lines.result.number c.write_rows-lines.result.row c.write_rows-lines.result.used _ c.write_rows-lines.ensures (search rules) (search rules) (let r = c.number_of-room.ensures in let l = c.if-room-lines.false in omega arith) c.number_of.ensures c.number_of-2.ensures
