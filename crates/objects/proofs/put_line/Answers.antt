use native.Mathlib.Omega.{arith}
use Rattle.objects.proofs.Short.{line_short, long_text, text_line}
use Rattle.objects.proofs.put_line.Goals as goal

pub returns-then-text-gt-MOST_TEXT : goal.returns-then-text-gt-MOST_TEXT
returns-then-text-gt-MOST_TEXT c = long_text _ _ _ c.if-text-gt-MOST_TEXT.true

pub write_line-requires : goal.write_line-requires
write_line-requires c = let h = line_short c.args.kind c.args.text.now c.args.mode c.args.parts c.args.place (omega arith) (omega arith) (omega arith) in let l = c.if-text-gt-MOST_TEXT.false in omega arith

pub returns : goal.returns
returns c = text_line _ _ c.if-text-gt-MOST_TEXT.false c.write_line.ensures
