use borrow.Author.Rules.{rules}
use borrow.Author.Tests.{ne_eqb}
use Rattle.definition.specs.Chars.{ascii}
use Rattle.definition_lines.specs.Why.{reason_end}
use Rattle.objects.proofs.why.write_reason.Goals as goal

pub write_written-requires : goal.write_written-requires
unfolding ascii reason_end
write_written-requires c = rw c.in-1.is at c.requires

pub write_run-requires : goal.write_run-requires
unfolding ascii reason_end
write_run-requires c = rw c.in-2.is at c.requires

pub write_run-requires-in-3 : goal.write_run-requires-in-3
unfolding ascii reason_end
write_run-requires-in-3 c = rw c.in-3.is at c.requires

pub write_run-requires-in_default : goal.write_run-requires-in_default
unfolding ascii reason_end
write_run-requires-in_default c = rw (ne_eqb _ _ c.in_default.in_default-own.rest.0.0.1, ne_eqb _ _ c.in_default.in_default-own.rest.0.1, ne_eqb _ _ c.in_default.in_default-own.rest.1) at c.requires

pub shape_of-out-in-1 : goal.shape_of-out-in-1
unfolding ascii reason_end
shape_of-out-in-1 c = let l0 = c.out-1.given in search rules

pub returns-in-1 : goal.returns-in-1
unfolding ascii reason_end
returns-in-1 c = rw c.in-1.is c.write_written.ensures

pub shape_of-out-in-2 : goal.shape_of-out-in-2
unfolding ascii reason_end
shape_of-out-in-2 c = let l0 = c.out-in-2-1.given in search rules

pub returns-in-2 : goal.returns-in-2
unfolding ascii reason_end
returns-in-2 c = rw c.in-2.is c.write_run.ensures

pub shape_of-out-in-3 : goal.shape_of-out-in-3
unfolding ascii reason_end
shape_of-out-in-3 c = let l0 = c.out-in-3-1.given in search rules

pub returns-in-3 : goal.returns-in-3
unfolding ascii reason_end
returns-in-3 c = rw c.in-3.is c.write_run-in-3.ensures

pub shape_of-out-in_default : goal.shape_of-out-in_default
unfolding ascii reason_end
shape_of-out-in_default c = let l0 = c.out-in_default-1.given in search rules

pub returns-in_default : goal.returns-in_default
unfolding ascii reason_end
returns-in_default c = rw (ne_eqb _ _ c.in_default.in_default-own.rest.0.0.1, ne_eqb _ _ c.in_default.in_default-own.rest.0.1, ne_eqb _ _ c.in_default.in_default-own.rest.1) c.write_run-in_default.ensures
