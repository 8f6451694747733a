use native.Mathlib.Omega.{arith}
use lib.ListN.{length-append}
use Rattle.definition.specs.Chars.{ascii}
use Rattle.definition_lines.specs.Lines.{spec_line}
use Rattle.objects.proofs.Texts.{and_then}
use Rattle.objects.proofs.write_spec.Goals as goal

pub write_numbered-counted-requires : goal.write_numbered-counted-requires
unfolding ascii spec_line
write_numbered-counted-requires c = omega (arith, simp length-append at c.requires)

pub write_run-requires : goal.write_run-requires
unfolding ascii spec_line
write_run-requires c = omega (arith, simp length-append at c.requires, c.write_numbered-counted.ensures.up)

pub returns : goal.returns
unfolding ascii spec_line
returns c = and_then c.write_numbered-counted.ensures c.write_run.ensures
