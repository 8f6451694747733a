use mathlib.Core.Path.{refl}
use mathlib.Core.List.{[]}
use Rattle.escapes.proofs.Lent.{names_none}
use Rattle.entry.proofs.Checks.{passes, refused}
use Rattle.strings.proofs.RowCalls.{refused_signs, short_signs, accepted_signs}
use Rattle.strings.proofs.parse_signs.Goals as goal

pub returns-in-Refused : goal.returns-in-Refused
returns-in-Refused c = let a = c.args in refused_signs _ a.script.now a.numbers.now a.rows.now _ c.in-Refused.r (rw (names_none [] [] refl, c.in-Refused.is) at c.parse_window.ensures)

pub returns-in-Err : goal.returns-in-Err
returns-in-Err c = let a = c.args in short_signs _ a.script.now a.numbers.now a.rows.now _ c.in-Accepted.x (rw (names_none [] [] refl, c.in-Accepted.is) at c.parse_window.ensures) c.parse_window.auto.rows c.in-Err.r _ _ (refused _ _ _ (rw c.in-Err.is at c.room.ensures)) (refl, c.fill.ensures)

pub returns-in-Ok : goal.returns-in-Ok
returns-in-Ok c = let a = c.args in accepted_signs _ a.script.now a.numbers.now a.rows.now _ c.in-Accepted.x (rw (names_none [] [] refl, c.in-Accepted.is) at c.parse_window.ensures) c.parse_window.auto.rows (passes _ _ _ (rw c.in-Ok.is at c.room.ensures))
