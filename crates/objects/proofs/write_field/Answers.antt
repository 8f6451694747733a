use native.Mathlib.Omega.{arith}
use lib.ListN.{length-append}
use Rattle.definition.specs.Chars.{ascii}
use Rattle.definition_lines.specs.Lines.{field_line}
use Rattle.objects.proofs.Texts.{and_then}
use Rattle.objects.proofs.write_field.Goals as goal

pub write_run-from-requires : goal.write_run-from-requires
unfolding ascii field_line
write_run-from-requires c = omega (arith, simp length-append at c.requires)

pub write_text-to-requires : goal.write_text-to-requires
unfolding ascii field_line
write_text-to-requires c = omega (arith, simp length-append at c.requires, c.write_run-from.ensures.up)

pub write_numbered-converted-requires : goal.write_numbered-converted-requires
unfolding ascii field_line
write_numbered-converted-requires c = omega (arith, simp length-append at c.requires, c.write_run-from.ensures.up, c.write_text-to.ensures.up)

pub write_numbered-placed-requires : goal.write_numbered-placed-requires
unfolding ascii field_line
write_numbered-placed-requires c = omega (arith, simp length-append at c.requires, c.write_run-from.ensures.up, c.write_text-to.ensures.up, c.write_numbered-converted.ensures.up)

pub write_run-requires : goal.write_run-requires
unfolding ascii field_line
write_run-requires c = omega (arith, simp length-append at c.requires, c.write_run-from.ensures.up, c.write_text-to.ensures.up, c.write_numbered-converted.ensures.up, c.write_numbered-placed.ensures.up)

pub returns : goal.returns
unfolding ascii field_line
returns c = and_then (and_then (and_then (and_then c.write_run-from.ensures c.write_text-to.ensures) c.write_numbered-converted.ensures) c.write_numbered-placed.ensures) c.write_run.ensures
