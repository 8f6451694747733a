use Rattle.std.proofs.Common.{◌≡◌, ◌*◌, take, length, arith, rules, sym, ap, ◌∙◌}
use Rattle.descriptors.proofs.Flattened.{copied, counted, copied_none, copied_more, read_copied}
use Rattle.descriptors.proofs.parse_descriptors.Goals as goal

pub loop-i-init : goal.loop-i-init
loop-i-init c = sym (copied_none c.zeros-numbers.result c.args.descriptors.now)

pub loop-i-preserved : goal.loop-i-preserved
loop-i-preserved c = rw (c.put.ensures, c.loop-i.invariant) (copied_more _ _ _ _ (omega (arith, c.min-count.ensures)))

-- all that are counted are copied, and their numbers are read as the descriptors are
pub returns : goal.returns
returns c =
    let a = c.args in
    let e : c.loop-i.i ≡ counted a.descriptors.now = omega (arith, c.min-count.ensures) in
    let n = rw e at c.loop-i.invariant in
    let fits : length c.zeros-numbers.result ≡ 6150 = search rules in
    rw (← read_copied c.zeros-numbers.result a.descriptors.now a.script.now a.words.now a.text.now fits, ← n) (rw c.min-count.ensures at c.read_first.ensures)
