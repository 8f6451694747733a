use borrow.Author.Rules.{rules}
use native.Mathlib.Omega.{arith}
use lib.ListN.{length-append}
use Rattle.definition.specs.Chars.{ascii}
use Rattle.definition_lines.specs.Why.{written_end}
use Rattle.objects.proofs.Texts.{and_then}
use Rattle.objects.proofs.why.write_written.Goals as goal

pub write_numbered-after-requires : goal.write_numbered-after-requires
unfolding ascii written_end
write_numbered-after-requires c = omega (arith, simp length-append at c.requires)

pub write_run-requires : goal.write_run-requires
unfolding ascii written_end
write_run-requires c = omega (arith, simp length-append at c.requires, c.write_numbered-after.ensures.up)

pub shape_of-out : goal.shape_of-out
unfolding ascii written_end
shape_of-out c = let l0 = c.out-2-1.given in let l1 = c.out-1.given in search rules

pub returns : goal.returns
unfolding ascii written_end
returns c = and_then c.write_numbered-after.ensures c.write_run.ensures
