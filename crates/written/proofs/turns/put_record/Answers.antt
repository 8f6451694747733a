use borrow.Author.Rules.{rules}
use native.Mathlib.Omega.{arith}
use Rattle.opens.specs.Opens.{where_of}
use Rattle.written.proofs.PutLaws.{puts_none, puts_same, puts_then}
use Rattle.written.proofs.PieceLaws.{own_short, spelled_short, run_length, at_spec, at_text, at_field}
use Rattle.written.proofs.turns.put_record.Goals as goal

pub returns-then-h-eq3 : goal.returns-then-h-eq3
returns-then-h-eq3 c = λ r h. let a = c.args in puts_same (at_spec a.text.now a.before a.after a.late a.h r h c.if-h-eq3.true) (puts_none _ _)

pub put_text-requires : goal.put_text-requires
put_text-requires c = let a = c.args in let p = c.requires in let u = c.put_closers-next.ensures.up in let g = c.saturating_sub-closed.ensures in let k = run_length c.saturating_sub-closed.result (omega (arith, p.0)) in let s = spelled_short (where_of a.after a.late) a.text.now a.h.offset a.h.size in omega (arith, p.3)

pub returns-then-h-eq1 : goal.returns-then-h-eq1
returns-then-h-eq1 c = λ r h. let a = c.args in puts_same (at_text a.text.now a.before a.after a.late a.h r h _ c.saturating_sub-closed.ensures c.if-h-eq3.false c.if-h-eq1.true) (puts_then c.put_closers-next.ensures c.put_text.ensures)

pub overflow_cast-h : goal.overflow_cast-h
overflow_cast-h c = let p = c.requires in let m = p.2 c.if-h-eq1.false c.if-h-eq3.false in search rules

pub put_field-requires : goal.put_field-requires
put_field-requires c = let a = c.args in let p = c.requires in let u = c.put_closers-next.ensures.up in let g = c.saturating_sub-closed.ensures in let k = run_length c.saturating_sub-closed.result (omega (arith, p.0)) in let s = own_short a.text.now a.h.offset a.h.size in omega (arith, p.3)

pub returns : goal.returns
returns c = λ r h. let a = c.args in puts_same (at_field a.text.now a.before a.after a.late a.h r h _ c.saturating_sub-closed.ensures c.if-h-eq3.false c.if-h-eq1.false) (puts_then c.put_closers-next.ensures c.put_field.ensures)
