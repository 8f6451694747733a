use borrow.Author.Rules.{rules}
use native.Mathlib.Omega.{arith}
use mathlib.Core.Path.{sym}
use Rattle.objects.proofs.Short.{refusal_short}
use Rattle.lines.proofs.Places.{all_front}
use Rattle.lines.proofs.WhyLaws.{explains, long_whys}
use Rattle.lines.proofs.why.why_lines.Goals as goal

pub returns-then-body-gt-LARGEST_BODY : goal.returns-then-body-gt-LARGEST_BODY
returns-then-body-gt-LARGEST_BODY c = explains (sym (long_whys _ c.if-body-gt-LARGEST_BODY.true)) (omega (arith, refusal_short 5 0 0 0 (omega arith) (omega arith) (omega arith) (omega arith))) (all_front c.put_refusal.ensures)

pub read_whys-requires : goal.read_whys-requires
read_whys-requires c = (record { few = search rules; words_room = search rules; text_room = search rules }, search rules)
