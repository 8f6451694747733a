use mathlib.Core.Path.{refl}
use mathlib.Core.List.{[]}
use Rattle.escapes.proofs.Lent.{names_none}
use Rattle.strings.proofs.CallLaws.{refused_is, few}
use Rattle.strings.proofs.parse_strings.Goals as goal

pub returns-then-numbers-eq6 : goal.returns-then-numbers-eq6
returns-then-numbers-eq6 c = c.parse_one.ensures

pub finish-requires : goal.finish-requires
finish-requires c = few (rw c.in-Ok.is at c.read_all.ensures)

pub returns-in-Err : goal.returns-in-Err
returns-in-Err c = refused_is (rw (names_none [] [] refl, c.in-Err.is) at c.read_all.ensures)

pub returns-in-Ok : goal.returns-in-Ok
returns-in-Ok c = let R = rw (names_none [] [] refl, c.in-Ok.is) at c.read_all.ensures in c.finish.ensures _ _ _ _ _ _ _ _ R
