use borrow.Author.Rules.{rules}
use native.Mathlib.Omega.{arith}
use mathlib.Core.Path.{◌∙◌, ap}
use Prim.Native.Nat.{◌+◌}
use lib.ListN.{length, take, get_or, length-append}
use lib.Seq.{take_all}
use Rattle.definition_lines.specs.Lines.{escaped_text, escaped}
use Rattle.objects.proofs.Texts.{nothing, and_then, escaped_more, escaped_part}
use Rattle.objects.proofs.write_text.Goals as goal

pub loop-byte-init : goal.loop-byte-init
unfolding escaped_text
loop-byte-init c = (search rules, search rules, nothing _ _)

pub write_escaped-to-requires : goal.write_escaped-to-requires
unfolding escaped_text
write_escaped-to-requires c =
    let t = c.args.text.now in
    let i = c.loop-byte.byte-index in
    omega (arith, c.loop-byte.invariant.2.up, ap length (escaped_more t i c.loop-byte-test.true), length-append (escaped_text (take i t)) (escaped (get_or t i 0)), escaped_part t (i + 1))

pub loop-byte-preserved : goal.loop-byte-preserved
unfolding escaped_text
loop-byte-preserved c = (search rules, c.write_escaped-to.auto.out ∙ c.loop-byte.invariant.1, rw (escaped_more c.args.text.now c.loop-byte.byte-index c.loop-byte-test.true) (and_then c.loop-byte.invariant.2 c.write_escaped-to.ensures))

pub returns : goal.returns
unfolding escaped_text
returns c = rw (take_all c.loop-byte.byte-index c.args.text.now c.loop-byte-test.false) at c.loop-byte.invariant.2
