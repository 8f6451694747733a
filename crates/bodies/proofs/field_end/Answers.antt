use borrow.Author.Rules.{rules}
use Rattle.bodies.proofs.field_end.Goals as goal

pub read_field-requires : goal.read_field-requires
read_field-requires c = let o = rw c.if-opens_field.true at c.opens_field.ensures in (search rules, o.0, o.1)

pub returns-then-opens_field : goal.returns-then-opens_field
returns-then-opens_field c = c.read_field.ensures

pub returns : goal.returns
returns c = (search rules, rw c.if-opens_field.false at c.opens_field.ensures)
