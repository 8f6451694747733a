use native.Mathlib.Omega.{arith}
use mathlib.Core.Path.{◌∙◌}
use Rattle.escapes.proofs.Digits.{octal_done, octal_none}
use Rattle.texts.proofs.Codes.{octal_first, octal_then}
use Rattle.texts.proofs.octal_code.Goals as goal

pub returns-in_default : goal.returns-in_default
returns-in_default c =
    λ look kind. let a = c.in_ok-a.ensures in
    octal_first _ _ _ a.0 a.1 look kind ∙ octal_none 2 _ _ _ (omega arith) (omega (arith, c.in_default.ensures))

pub returns-in_default-octal_at : goal.returns-in_default-octal_at
returns-in_default-octal_at c =
    λ look kind. let a = c.in_ok-a.ensures in
    let b = c.in-Some.ensures in
    octal_first _ _ _ a.0 a.1 look kind ∙ octal_then _ _ _ b.0 b.1 2 _ (omega arith) ∙ octal_none 1 _ _ _ (omega arith) (omega (arith, c.in_default-octal_at.ensures))

pub returns : goal.returns
returns c =
    λ look kind. let a = c.in_ok-a.ensures in
    let b = c.in-Some.ensures in
    let d = c.in-Some-octal_at.ensures in
    octal_first _ _ _ a.0 a.1 look kind ∙ octal_then _ _ _ b.0 b.1 2 _ (omega arith) ∙ octal_then _ _ _ d.0 d.1 1 _ (omega arith) ∙ octal_done 0 _ _ _ (omega arith)
