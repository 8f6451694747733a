use borrow.Author.Rules.{rules}
use native.Mathlib.Omega.{arith}
use lib.ListN.{length-append}
use Rattle.definition.specs.Chars.{ascii}
use Rattle.definition_lines.specs.Why.{why_line}
use Rattle.objects.proofs.Texts.{and_then}
use Rattle.objects.proofs.why.write_why.Goals as goal

pub write_run-from-requires : goal.write_run-from-requires
unfolding ascii why_line
write_run-from-requires c = omega (arith, simp length-append at c.requires)

pub write_text-to-requires : goal.write_text-to-requires
unfolding ascii why_line
write_text-to-requires c = omega (arith, simp length-append at c.requires, c.write_run-from.ensures.up)

pub write_numbered-placed-requires : goal.write_numbered-placed-requires
unfolding ascii why_line
write_numbered-placed-requires c = omega (arith, simp length-append at c.requires, c.write_run-from.ensures.up, c.write_text-to.ensures.up)

pub write_run-told-requires : goal.write_run-told-requires
unfolding ascii why_line
write_run-told-requires c = omega (arith, simp length-append at c.requires, c.write_run-from.ensures.up, c.write_text-to.ensures.up, c.write_numbered-placed.ensures.up)

pub write_reason-requires : goal.write_reason-requires
unfolding ascii why_line
write_reason-requires c = omega (arith, simp length-append at c.requires, c.write_run-from.ensures.up, c.write_text-to.ensures.up, c.write_numbered-placed.ensures.up, c.write_run-told.ensures.up)

pub shape_of-out : goal.shape_of-out
unfolding ascii why_line
shape_of-out c = let l0 = c.out-5-1.given in let l1 = c.out-4-1.given in let l2 = c.out-3-1.given in let l3 = c.out-2-1.given in let l4 = c.out-1.given in search rules

pub returns : goal.returns
unfolding ascii why_line
returns c = and_then (and_then (and_then (and_then c.write_run-from.ensures c.write_text-to.ensures) c.write_numbered-placed.ensures) c.write_run-told.ensures) c.write_reason.ensures
