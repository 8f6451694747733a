use borrow.Author.Tests.{ne_eqb}
use Rattle.definition_lines.specs.Lines.{line_of}
use Rattle.objects.proofs.write_line.Goals as goal

pub write_field-requires : goal.write_field-requires
unfolding line_of
write_field-requires c = rw c.in-2.is at c.requires

pub write_spec-requires : goal.write_spec-requires
unfolding line_of
write_spec-requires c = rw c.in-3.is at c.requires

pub write_literal-requires : goal.write_literal-requires
unfolding line_of
write_literal-requires c = rw (ne_eqb _ _ c.in_default.in_default-own.rest.0.1, ne_eqb _ _ c.in_default.in_default-own.rest.1) at c.requires

pub returns-in-2 : goal.returns-in-2
unfolding line_of
returns-in-2 c = rw c.in-2.is c.write_field.ensures

pub returns-in-3 : goal.returns-in-3
unfolding line_of
returns-in-3 c = rw c.in-3.is c.write_spec.ensures

pub returns-in_default : goal.returns-in_default
unfolding line_of
returns-in_default c = rw (ne_eqb _ _ c.in_default.in_default-own.rest.0.1, ne_eqb _ _ c.in_default.in_default-own.rest.1) c.write_literal.ensures
