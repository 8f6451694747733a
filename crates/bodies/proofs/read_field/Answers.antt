use mathlib.Core.Path.{refl}
use mathlib.Core.List.{[]}
use Rattle.escapes.proofs.Lent.{names_none}
use Rattle.bodies.proofs.read_field.Goals as goal

pub returns-in-Refused : goal.returns-in-Refused
returns-in-Refused c = let p = c.requires in (p.0, p.2, (rw (names_none [] [] refl, c.in-Refused.is) at c.parse_fstring.ensures.1) refl p.2)

pub returns-in-Done : goal.returns-in-Done
returns-in-Done c = let p = c.requires in (p.0, p.2, (rw (names_none [] [] refl, c.in-Done.is) at c.parse_fstring.ensures.1) refl p.2)
