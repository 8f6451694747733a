use native.Mathlib.Omega.{arith}
use Prim.Native.Nat.{◌+◌, ◌<◌}
use mathlib.Core.Path.{◌≡◌, sym, ◌∙◌}
use mathlib.Core.Bool.{true, ◌&&◌, not}
use lib.ListN.{length}
use Rattle.definition.specs.Numbers.{is_raw}
use Rattle.definition.specs.Chars.{◌is◌, byte}
use Rattle.definition.specs.Escapes.{simple, hex}
use Rattle.definition.proofs.Moves.CharLaws.{byte_is}
use Rattle.texts.specs.Codes.{Asks}
use Rattle.texts.proofs.Codes.{coded_letter, coded_hex, coded_octal}
use Rattle.texts.proofs.coded_at.Goals as goal
use Rattle.texts.proofs.coded_at.Goals.{After-letter_code}

-- a backslash, and an ASCII byte after it
inside : (c : After-letter_code) → let a = c.args in a.at + 1 < length a.s.now
inside c = omega (arith, c.if-s-past.false)

escapes : (c : After-letter_code) → let a = c.args in (byte a.s.now a.at is "\\" && not (is_raw a.kind)) ≡ true
escapes c =
    let a = c.args in
    let h : a.at < length a.s.now = omega (arith, inside c) in
    rw (← byte_is a.s.now a.at h, ← c.from.ensures) (sym c.is_escape.ensures ∙ c.if-not-is_escape.false)

low : (c : After-letter_code) → let a = c.args in byte a.s.now (a.at + 1) < 0x80
low c = let a = c.args in rw (← byte_is a.s.now (a.at + 1) (inside c)) c.if-b-ge128.false

pub returns-in-Some : goal.returns-in-Some
returns-in-Some c =
    let a = c.args in
    let l = (goal.at.returns-in-Some c).After-letter_code in
    let b : Asks a.kind (byte a.s.now (a.at + 1)) (simple c.in-Some.code) = rw (← byte_is a.s.now (a.at + 1) (inside l)) (c.in-Some.ensures a.kind) in
    coded_letter a.kind a.s.now a.at (inside l) (escapes l) (low l) _ b

pub returns-in_default-digits_of : goal.returns-in_default-digits_of
returns-in_default-digits_of c =
    let a = c.args in
    let l = (goal.at.returns-in_default-digits_of c).After-letter_code in
    coded_octal a.kind a.s.now a.at (inside l) (escapes l) (low l) _ c.octal_code.ensures

pub returns : goal.returns
returns c =
    let a = c.args in
    let l = (goal.at.returns c).After-letter_code in
    let b : Asks a.kind (byte a.s.now (a.at + 1)) (hex c.in-Some-digits_of.digits) = rw (← byte_is a.s.now (a.at + 1) (inside l)) c.in-Some-digits_of.ensures.1 in
    coded_hex a.kind a.s.now a.at (inside l) (escapes l) (low l) _ _ b c.in_ok-code.ensures
