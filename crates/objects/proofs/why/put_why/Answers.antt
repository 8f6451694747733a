use native.Mathlib.Omega.{arith}
use Rattle.objects.proofs.Short.{why_short, long_text, text_line}
use Rattle.objects.proofs.why.put_why.Goals as goal

pub returns-then-text-gt-MOST_TEXT : goal.returns-then-text-gt-MOST_TEXT
returns-then-text-gt-MOST_TEXT c = long_text _ _ _ c.if-text-gt-MOST_TEXT.true

pub write_why-requires : goal.write_why-requires
write_why-requires c = let h = why_short c.args.text.now c.args.place c.args.reason c.args.bang (omega arith) (omega arith) in let l = c.if-text-gt-MOST_TEXT.false in omega arith

pub returns : goal.returns
returns c = text_line _ _ c.if-text-gt-MOST_TEXT.false c.write_why.ensures
