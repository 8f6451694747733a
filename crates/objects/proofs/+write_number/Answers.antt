use borrow.Author.Rules.{rules}
use native.Mathlib.Omega.{arith}
use mathlib.Core.Path.{ap}
use mathlib.Core.List.{[], ◌∷◌}
use Prim.Native.Nat.{◌+◌, ◌/◌, ◌%◌}
use lib.ListN.{length, length-append}
use Rattle.definition_lines.specs.Lines.{decimal}
use Rattle.objects.proofs.Texts.{and_then, digit_one, digit_more}
use Rattle.objects.proofs.+write_number.Goals as goal

pub write_byte-requires : goal.write_byte-requires
write_byte-requires t c = omega (arith, ap length (digit_one c.args.n c.if-n-lt10.true))

pub returns-then-n-lt10 : goal.returns-then-n-lt10
returns-then-n-lt10 t c = rw (digit_one c.args.n c.if-n-lt10.true) c.write_byte.ensures

pub write_number-last-requires : goal.write_number-last-requires
write_number-last-requires t c =
    let n = c.args.n in
    (search rules, omega (arith, ap length (digit_more n c.if-n-lt10.false), length-append (decimal (n / 10)) ((48 + n % 10) ∷ [])))

pub write_byte-requires-2 : goal.write_byte-requires-2
write_byte-requires-2 t c =
    let n = c.args.n in
    omega (arith, c.write_number-last.ensures.up, ap length (digit_more n c.if-n-lt10.false), length-append (decimal (n / 10)) ((48 + n % 10) ∷ []))

pub returns : goal.returns
returns t c = rw (digit_more c.args.n c.if-n-lt10.false) (and_then c.write_number-last.ensures c.write_byte-2.ensures)
