use native.Mathlib.Omega.{arith}
use lib.ListN.{length-append}
use Rattle.definition.specs.Chars.{ascii}
use Rattle.definition_lines.specs.Lines.{literal_line}
use Rattle.objects.proofs.Texts.{and_then}
use Rattle.objects.proofs.write_literal.Goals as goal

pub write_run-from-requires : goal.write_run-from-requires
unfolding ascii literal_line
write_run-from-requires c = omega (arith, simp length-append at c.requires)

pub write_text-to-requires : goal.write_text-to-requires
unfolding ascii literal_line
write_text-to-requires c = omega (arith, simp length-append at c.requires, c.write_run-from.ensures.up)

pub write_run-requires : goal.write_run-requires
unfolding ascii literal_line
write_run-requires c = omega (arith, simp length-append at c.requires, c.write_run-from.ensures.up, c.write_text-to.ensures.up)

pub returns : goal.returns
unfolding ascii literal_line
returns c = and_then (and_then c.write_run-from.ensures c.write_text-to.ensures) c.write_run.ensures
