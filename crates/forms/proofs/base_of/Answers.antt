use borrow.Author.Rules.{rules}
use mathlib.Core.Logic.{inl, inr}
use Rattle.forms.proofs.Bases.{base_none, base_plain, base_letter, base_d, base_b, base_o, base_x, base_X}
use Rattle.forms.proofs.base_of.Goals as goal

pub returns-in-0 : goal.returns-in-0
returns-in-0 c = elim c.in-0.is [ inl e ↦ base_plain _ e | inr e ↦ base_letter _ 100 10 base_d e ]

pub returns-in-98 : goal.returns-in-98
returns-in-98 c = base_letter _ 98 2 base_b c.in-98.is

pub returns-in-111 : goal.returns-in-111
returns-in-111 c = base_letter _ 111 8 base_o c.in-111.is

pub returns-in-120 : goal.returns-in-120
returns-in-120 c = elim c.in-120.is [ inl e ↦ base_letter _ 88 16 base_X e | inr e ↦ base_letter _ 120 16 base_x e ]

pub returns-in_default : goal.returns-in_default
returns-in_default c = base_none _ (search rules) (search rules) (search rules) (search rules) (search rules) (search rules)
