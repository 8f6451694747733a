use borrow.Author.Rules.{rules}
use mathlib.Core.Path.{refl}
use Rattle.definition_revisions.specs.Revisions.{compare_numbers, middle}
use Rattle.definition_revisions.proofs.Laws.Told.{counting_length}
use Rattle.answers.specs.Twelve.{twelve}
use Rattle.twelve.proofs.of_comparison.Goals as goal

pub returns-in-Ok : goal.returns-in-Ok
unfolding twelve compare_numbers middle
returns-in-Ok c = rw (c.in-Ok.is, counting_length, counting_length, c.saturating_sub-in-Ok.ensures, c.saturating_sub.ensures, c.saturating_sub-in-Ok-3.ensures, c.saturating_sub-in-Ok-2.ensures) refl

pub returns-in-Err-Refused : goal.returns-in-Err-Refused
unfolding twelve compare_numbers middle
returns-in-Err-Refused c = search rules

pub returns-in-Err-Short : goal.returns-in-Err-Short
unfolding twelve compare_numbers middle
returns-in-Err-Short c = search rules
