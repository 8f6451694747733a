use native.Mathlib.Omega.{arith}
use mathlib.Core.Path.{sym, ◌∙◌, ap}
use lib.ListN.{length}
use Rattle.definition.specs.Chars.{ascii}
use Rattle.objects.proofs.Texts.{and_then, escaped_marked, escaped_control, escaped_plain}
use Rattle.objects.proofs.write_escaped.Goals as goal

pub write_byte-marked-requires : goal.write_byte-marked-requires
unfolding ascii
write_byte-marked-requires c =
    let m = sym c.is_marked.ensures ∙ c.if-is_marked.true in
    omega (arith, ap length (escaped_marked c.args.byte m))

pub write_byte-requires : goal.write_byte-requires
unfolding ascii
write_byte-requires c =
    let m = sym c.is_marked.ensures ∙ c.if-is_marked.true in
    omega (arith, ap length (escaped_marked c.args.byte m))

pub returns-then-is_marked : goal.returns-then-is_marked
unfolding ascii
returns-then-is_marked c =
    let m = sym c.is_marked.ensures ∙ c.if-is_marked.true in
    rw (escaped_marked c.args.byte m) (and_then c.write_byte-marked.ensures c.write_byte.ensures)

pub write_run-high-requires : goal.write_run-high-requires
unfolding ascii
write_run-high-requires c =
    let m = sym c.is_marked.ensures ∙ c.if-is_marked.false in
    omega (arith, ap length (escaped_control c.args.byte m c.if-byte-lt32.true))

pub write_byte-low-requires : goal.write_byte-low-requires
unfolding ascii
write_byte-low-requires c =
    let m = sym c.is_marked.ensures ∙ c.if-is_marked.false in
    omega (arith, ap length (escaped_control c.args.byte m c.if-byte-lt32.true))

pub write_byte-requires-then-byte-lt32 : goal.write_byte-requires-then-byte-lt32
unfolding ascii
write_byte-requires-then-byte-lt32 c =
    let m = sym c.is_marked.ensures ∙ c.if-is_marked.false in
    omega (arith, ap length (escaped_control c.args.byte m c.if-byte-lt32.true))

pub returns-then-byte-lt32 : goal.returns-then-byte-lt32
unfolding ascii
returns-then-byte-lt32 c =
    let m = sym c.is_marked.ensures ∙ c.if-is_marked.false in
    rw (escaped_control c.args.byte m c.if-byte-lt32.true, ← c.hex_code.ensures, ← c.hex_code-then-byte-lt32.ensures) (and_then c.write_run-high.ensures (and_then c.write_byte-low.ensures c.write_byte-then-byte-lt32.ensures))

pub write_byte-requires-else-byte-lt32 : goal.write_byte-requires-else-byte-lt32
unfolding ascii
write_byte-requires-else-byte-lt32 c =
    let m = sym c.is_marked.ensures ∙ c.if-is_marked.false in
    omega (arith, ap length (escaped_plain c.args.byte m c.if-byte-lt32.false))

pub returns-else-byte-lt32 : goal.returns-else-byte-lt32
unfolding ascii
returns-else-byte-lt32 c =
    let m = sym c.is_marked.ensures ∙ c.if-is_marked.false in
    rw (escaped_plain c.args.byte m c.if-byte-lt32.false) c.write_byte-else-byte-lt32.ensures
