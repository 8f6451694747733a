use borrow.Author.Rules.{rules}
use native.Mathlib.Omega.{arith}
use mathlib.Core.Path.{refl, ◌∙◌}
use Rattle.bodies.proofs.ListLaws.{before_all, after_all, room, first, stands, refuses_all, next_literal, G}
use Rattle.bodies.proofs.RowLaws.{read_signed, few_on}
use Rattle.bodies.proofs.RowCalls.{none_rowed, all_rowed, next_rowed}
use Rattle.bodies.proofs.read_list.Goals as goal

pub loop-i-init : goal.loop-i-init
loop-i-init c = (refl, refl, refl, before_all _ _ _ _ _ _ _ c.requires, none_rowed _ _ _ _ _ _)

pub read_literal-requires : goal.read_literal-requires
read_literal-requires c = record { room = room _ _ _ _ _ _ _ c.requires _ _ _ _ c.loop-i.invariant.3 c.loop-i-test.true c.literal_at-l.result c.literal_at-l.ensures (omega (arith, c.literal_at-l.type_inv)); fields_le_count = c.loop-i.invariant.4.few }

pub refusal_in-requires : goal.refusal_in-requires
refusal_in-requires c = let Q = rw c.in-Refused.is at c.read_literal.ensures in (stands _ _ _ _ _ _ _ c.requires _ _ _ _ c.loop-i.invariant.3 c.loop-i-test.true c.literal_at-l.result c.literal_at-l.ensures (omega (arith, c.literal_at-l.type_inv)) _ _ _ c.in-Refused.x Q.0, first _ _ _ _ _ _ _ c.requires _ _ _ _ c.loop-i.invariant.3 c.loop-i-test.true c.literal_at-l.result c.literal_at-l.ensures (omega (arith, c.literal_at-l.type_inv)))

pub shape_of-words-in-Refused : goal.shape_of-words-in-Refused
shape_of-words-in-Refused c = let i0 = c.loop-i.invariant.0 in let i1 = c.loop-i.invariant.1 in let i2 = c.loop-i.invariant.2 in let l0 = c.rows-1.given in let l1 = c.text-1.given in let l2 = c.words-1.given in search rules

pub shape_of-text-in-Refused : goal.shape_of-text-in-Refused
shape_of-text-in-Refused c = let i0 = c.loop-i.invariant.0 in let i1 = c.loop-i.invariant.1 in let i2 = c.loop-i.invariant.2 in let l0 = c.rows-1.given in let l1 = c.text-1.given in let l2 = c.words-1.given in search rules

pub shape_of-rows-in-Refused : goal.shape_of-rows-in-Refused
shape_of-rows-in-Refused c = let i0 = c.loop-i.invariant.0 in let i1 = c.loop-i.invariant.1 in let i2 = c.loop-i.invariant.2 in let l0 = c.rows-1.given in let l1 = c.text-1.given in let l2 = c.words-1.given in search rules

pub returns-in-Refused : goal.returns-in-Refused
returns-in-Refused c = let Q = rw c.in-Refused.is at c.read_literal.ensures in rw c.refusal_in.ensures (refuses_all _ _ _ _ _ _ _ c.requires _ _ _ _ c.loop-i.invariant.3 c.loop-i-test.true c.literal_at-l.result c.literal_at-l.ensures (omega (arith, c.literal_at-l.type_inv)) _ _ _ c.in-Refused.x Q.0, tt)

pub loop-i-preserved : goal.loop-i-preserved
loop-i-preserved c = let Q = rw c.in-Done.is at c.read_literal.ensures in let g = G _ _ _ _ _ _ _ c.requires _ _ _ _ c.loop-i.invariant.3 c.loop-i-test.true c.literal_at-l.result c.literal_at-l.ensures (omega (arith, c.literal_at-l.type_inv)) _ _ _ c.in-Done.field-0 c.in-Done.next c.in-Done.n Q.0 in let S = read_signed _ _ _ _ _ _ _ _ g.reads Q.1 in (c.read_literal.auto.words ∙ c.loop-i.invariant.0, c.read_literal.auto.text ∙ c.loop-i.invariant.1, c.read_literal.auto.rows ∙ c.loop-i.invariant.2, next_literal _ _ _ _ _ _ _ c.requires _ _ _ _ c.loop-i.invariant.3 c.loop-i-test.true c.literal_at-l.result c.literal_at-l.ensures (omega (arith, c.literal_at-l.type_inv)) _ _ _ c.in-Done.field-0 c.in-Done.next c.in-Done.n Q.0, next_rowed _ _ _ _ _ _ _ _ _ _ c.loop-i.invariant.4 c.loop-i-test.true c.literal_at-l.result c.literal_at-l.ensures _ _ _ g.reads _ _ _ S (few_on _ _ _ _ _ _ _ _ _ _ _ _ _ g.emits S c.loop-i.invariant.4.few))

pub shape_of-words : goal.shape_of-words
shape_of-words c = c.loop-i.invariant.0

pub shape_of-text : goal.shape_of-text
shape_of-text c = c.loop-i.invariant.1

pub shape_of-rows : goal.shape_of-rows
shape_of-rows c = c.loop-i.invariant.2

pub returns : goal.returns
returns c = (after_all _ _ _ _ _ _ _ c.requires _ _ _ _ c.loop-i.invariant.3 c.loop-i-test.false, all_rowed _ _ _ _ _ _ _ _ _ _ c.loop-i.invariant.4 c.loop-i-test.false)
