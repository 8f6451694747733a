use borrow.Author.Rules.{rules}
use native.Mathlib.Omega.{arith}
use mathlib.Core.Path.{refl}
use Rattle.buffers.proofs.Over.{over_tail}
use Rattle.trace_lines.proofs.Lining.{field_read, field_shut}
use Rattle.trace_lines.proofs.put_item.Goals as goal

pub returns-then-kind-ne-FIELD : goal.returns-then-kind-ne-FIELD
returns-then-kind-ne-FIELD c = ((λ n. ((refl, c.add_run.ensures), refl, refl)), (λ e. absurd (c.if-kind-ne-FIELD.true e)), omega arith, c.requires.2)

pub returns-in_default : goal.returns-in_default
returns-in_default c = ((λ n. absurd (n (search rules))), (λ e. field_shut _ _ _ _ _ _ _ _ _ c.in_default.not-Comma), omega arith, c.requires.2)

pub returns : goal.returns
returns c =
    let w = c.write_formed-size.ensures in let r = c.read_column-column.ensures in
    let k = w.0.0 in
    ((λ n. absurd (n (search rules))), (λ e. field_read _ c.args.trace.now c.args.ends c.args.at _ c.args.used c.read_column-column.result.ends c.read_column-column.result.negative c.read_column-column.result.size c.read_column-column.result.next r (omega arith, over_tail _ _ _ _ c.min-from.ensures w.0.1) c.in-Comma.is), (let b = w.1 in omega arith), r.2)
