use borrow.Author.Rules.{rules}
use native.Mathlib.Omega.{arith}
use mathlib.Core.Path.{sym}
use Rattle.objects.proofs.Short.{refusal_short}
use Rattle.lines.proofs.Places.{all_front}
use Rattle.lines.proofs.Answers.{lists, long_lines}
use Rattle.lines.proofs.body_lines.Goals as goal

pub returns-then-body-gt-LARGEST_BODY : goal.returns-then-body-gt-LARGEST_BODY
returns-then-body-gt-LARGEST_BODY c = lists (sym (long_lines _ c.if-body-gt-LARGEST_BODY.true)) (omega (arith, refusal_short 5 0 0 0 (omega arith) (omega arith) (omega arith) (omega arith))) (all_front c.put_refusal.ensures)

pub read_lines-requires : goal.read_lines-requires
read_lines-requires c = record { few = search rules; words_room = search rules; text_room = search rules }
