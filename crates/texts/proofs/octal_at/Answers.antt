use native.Mathlib.Omega.{arith}
use mathlib.Core.Path.{refl}
use mathlib.Core.Logic.{⊎_elim}
use Rattle.definition.specs.Chars.{byte}
use Rattle.definition.specs.Escapes.{octal_digit}
use Rattle.definition.proofs.Moves.CharLaws.{byte_is, code_end, code_ascii, inside_yes, inside_not}
use Rattle.texts.proofs.Codes.{octal_high}
use Rattle.texts.proofs.octal_at.Goals as goal

pub returns-then-s-at : goal.returns-then-s-at
unfolding octal_digit
returns-then-s-at c = let a = c.args in rw (code_end a.s.now a.at c.if-s-at.true) refl

pub returns-then-b-lt48 : goal.returns-then-b-lt48
unfolding octal_digit
returns-then-b-lt48 c =
    let a = c.args in
    let e = byte_is a.s.now a.at c.if-s-at.false in
    ⊎_elim
    (λ h. rw (code_ascii a.s.now a.at (omega (arith, e, h)), inside_not 48 55 (byte a.s.now a.at) (λ p q. omega (arith, e, h))))
    (λ h. octal_high a.s.now a.at (omega (arith, e, h.1)))
    c.then-b-lt48.either

pub returns : goal.returns
unfolding octal_digit
returns c =
    let a = c.args in
    let e = byte_is a.s.now a.at c.if-s-at.false in (
      rw (code_ascii a.s.now a.at (omega (arith, e, c.if-b-gt55.false)), inside_yes 48 55 (byte a.s.now a.at) (omega (arith, e, c.if-b-lt48.false)) (omega (arith, e, c.if-b-gt55.false)), ← e) c.from.ensures,
      omega (arith, c.from.ensures, c.if-b-gt55.false),
    )
