use borrow.Author.Rules.{rules}
use native.Mathlib.Omega.{arith}
use mathlib.Core.Logic.{inl, inr}
use Rattle.integers.proofs.Joined.{sign_minus, sign_plus, sign_blank, sign_none, piece_one, piece_none}
use Rattle.integers.proofs.put_sign.Goals as goal

pub returns-then-negative : goal.returns-then-negative
returns-then-negative c = piece_one _ c.args.at (sign_minus c.args.sign c.if-negative.true) c.put.ensures

pub returns-in-43 : goal.returns-in-43
returns-in-43 c = piece_one _ c.args.at (elim c.in-43.is [ inl e ↦ sign_blank c.args.sign c.if-negative.false (λ f. omega arith) e | inr e ↦ sign_plus c.args.sign c.if-negative.false e ]) c.put-in-43.ensures

pub returns-in_default : goal.returns-in_default
returns-in_default c = piece_none _ c.args.at (sign_none c.args.sign c.if-negative.false (search rules) (search rules))
