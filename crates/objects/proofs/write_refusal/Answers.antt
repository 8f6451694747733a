use native.Mathlib.Omega.{arith}
use lib.ListN.{length-append}
use Rattle.definition.specs.Chars.{ascii}
use Rattle.definition_lines.specs.Lines.{refusal_line}
use Rattle.objects.proofs.Texts.{and_then}
use Rattle.objects.proofs.write_refusal.Goals as goal

pub write_numbered-named-requires : goal.write_numbered-named-requires
unfolding ascii refusal_line
write_numbered-named-requires c = omega (arith, simp length-append at c.requires)

pub write_numbered-placed-requires : goal.write_numbered-placed-requires
unfolding ascii refusal_line
write_numbered-placed-requires c = omega (arith, simp length-append at c.requires, c.write_numbered-named.ensures.up)

pub write_numbered-first-requires : goal.write_numbered-first-requires
unfolding ascii refusal_line
write_numbered-first-requires c = omega (arith, simp length-append at c.requires, c.write_numbered-named.ensures.up, c.write_numbered-placed.ensures.up)

pub write_numbered-second-requires : goal.write_numbered-second-requires
unfolding ascii refusal_line
write_numbered-second-requires c = omega (arith, simp length-append at c.requires, c.write_numbered-named.ensures.up, c.write_numbered-placed.ensures.up, c.write_numbered-first.ensures.up)

pub write_run-requires : goal.write_run-requires
unfolding ascii refusal_line
write_run-requires c = omega (arith, simp length-append at c.requires, c.write_numbered-named.ensures.up, c.write_numbered-placed.ensures.up, c.write_numbered-first.ensures.up, c.write_numbered-second.ensures.up)

pub returns : goal.returns
unfolding ascii refusal_line
returns c = and_then (and_then (and_then (and_then c.write_numbered-named.ensures c.write_numbered-placed.ensures) c.write_numbered-first.ensures) c.write_numbered-second.ensures) c.write_run.ensures
