use Rattle.std.proofs.Common.{◌≡◌, Bool, true, false, ◌&&◌, refl}
use Rattle.escapes.proofs.parse_escaped_char.Goals.{else-bytes-4-via-then-bytes-4+else-c-ge128, else-bytes-4-via-else-bytes-4}
use native.Mathlib.Omega.{arith}
use borrow.Author.Tests.{le-leb, lt-leb}
use Prim.Native.Nat.{ℕ, ◌-◌, ◌<◌}
use native.Mathlib.Nat.{le_of_suc-le-suc}
use mathlib.Core.Bool.{true, false}
use mathlib.Core.Path.{sym, ◌∙◌}
use Rattle.definition.specs.Escapes.{escape_case, escape}
use Rattle.utf8.proofs.Steps.{Stepped, step_char, step_end}
use Rattle.escapes.proofs.Letters.{same_escape, NoDigit, below, above, octal_escape, other_escape}
use Rattle.escapes.proofs.parse_escaped_char.Goals as goal
use Rattle.escapes.proofs.parse_escaped_char.Goals.{in_default-c-via-then-c-lt48, in_default-c-via-else-c-lt48+else-c-lt56, After-is_any_bytes-bytes, In_default-c}

-- the character after the backslash
step : (c : After-is_any_bytes-bytes) → let a = c.args in Stepped a.s.now a.from.at c.in-Char.c c.in-Char.next
step c = step_char _ _ _ _ (sym c.next_char.ensures ∙ c.in-Char.is)

digit : (c : ℕ) → c < 56 → c - 48 < 8
digit c h = omega arith

outside : (c : In_default-c) → NoDigit c.in-Char.c
outside c = elim c.in_default-c.branch [ in_default-c-via-then-c-lt48 w ↦ below c.in-Char.c w.if-c-lt48-1.true | in_default-c-via-else-c-lt48+else-c-lt56 w ↦ above c.in-Char.c (omega arith) ]

pub returns-in_default : goal.returns-in_default
unfolding escape escape_case
returns-in_default c = rw (le-leb _ _ (step_end _ _ (sym c.next_char.ensures ∙ c.in_default.is)), escape, escape_case) c.refuse.ensures

pub parse_octet-requires : goal.parse_octet-requires
unfolding escape escape_case
parse_octet-requires c = digit _ c.in-48-to-55.if-c-lt56-own.true

pub returns-in-34 : goal.returns-in-34
returns-in-34 c = sym (same_escape _ c.args.kind _ _ _ _ (step (goal.at.returns-in-34 c).After-is_any_bytes-bytes) c.in-34.is)

pub returns-in-97 : goal.returns-in-97
unfolding escape escape_case
returns-in-97 c = let t = step (goal.at.returns-in-97 c).After-is_any_bytes-bytes in rw (lt-leb _ _ t.there, t.code_is, c.in-97.is, t.next_is, escape, escape_case)

pub returns-in-98 : goal.returns-in-98
unfolding escape escape_case
returns-in-98 c = let t = step (goal.at.returns-in-98 c).After-is_any_bytes-bytes in rw (lt-leb _ _ t.there, t.code_is, c.in-98.is, t.next_is, escape, escape_case)

pub returns-in-102 : goal.returns-in-102
unfolding escape escape_case
returns-in-102 c = let t = step (goal.at.returns-in-102 c).After-is_any_bytes-bytes in rw (lt-leb _ _ t.there, t.code_is, c.in-102.is, t.next_is, escape, escape_case)

pub returns-in-110 : goal.returns-in-110
unfolding escape escape_case
returns-in-110 c = let t = step (goal.at.returns-in-110 c).After-is_any_bytes-bytes in rw (lt-leb _ _ t.there, t.code_is, c.in-110.is, t.next_is, escape, escape_case)

pub returns-in-114 : goal.returns-in-114
unfolding escape escape_case
returns-in-114 c = let t = step (goal.at.returns-in-114 c).After-is_any_bytes-bytes in rw (lt-leb _ _ t.there, t.code_is, c.in-114.is, t.next_is, escape, escape_case)

pub returns-in-116 : goal.returns-in-116
unfolding escape escape_case
returns-in-116 c = let t = step (goal.at.returns-in-116 c).After-is_any_bytes-bytes in rw (lt-leb _ _ t.there, t.code_is, c.in-116.is, t.next_is, escape, escape_case)

pub returns-in-118 : goal.returns-in-118
unfolding escape escape_case
returns-in-118 c = let t = step (goal.at.returns-in-118 c).After-is_any_bytes-bytes in rw (lt-leb _ _ t.there, t.code_is, c.in-118.is, t.next_is, escape, escape_case)

pub returns-in-120 : goal.returns-in-120
unfolding escape escape_case
returns-in-120 c = let t = step (goal.at.returns-in-120 c).After-is_any_bytes-bytes in rw (lt-leb _ _ t.there, t.code_is, c.in-120.is, t.next_is, escape, escape_case) c.parse_unicode_literal.ensures

pub returns-then-bytes : goal.returns-then-bytes
unfolding escape escape_case
returns-then-bytes c = let t = step (goal.at.returns-then-bytes c).After-is_any_bytes-bytes in rw (lt-leb _ _ t.there, t.code_is, c.in-117.is, ← c.is_any_bytes-bytes.ensures, c.if-bytes.true, t.next_is, escape, escape_case)

pub returns-else-bytes : goal.returns-else-bytes
unfolding escape escape_case
returns-else-bytes c = let t = step (goal.at.returns-else-bytes c).After-is_any_bytes-bytes in rw (lt-leb _ _ t.there, t.code_is, c.in-117.is, ← c.is_any_bytes-bytes.ensures, c.if-bytes.false, t.next_is, escape, escape_case) c.parse_unicode_literal-else-bytes.ensures

pub returns-then-bytes-2 : goal.returns-then-bytes-2
unfolding escape escape_case
returns-then-bytes-2 c = let t = step (goal.at.returns-then-bytes-2 c).After-is_any_bytes-bytes in rw (lt-leb _ _ t.there, t.code_is, c.in-85.is, ← c.is_any_bytes-bytes.ensures, c.if-bytes-2.true, t.next_is, escape, escape_case)

pub returns-else-bytes-2 : goal.returns-else-bytes-2
unfolding escape escape_case
returns-else-bytes-2 c = let t = step (goal.at.returns-else-bytes-2 c).After-is_any_bytes-bytes in rw (lt-leb _ _ t.there, t.code_is, c.in-85.is, ← c.is_any_bytes-bytes.ensures, c.if-bytes-2.false, t.next_is, escape, escape_case) c.parse_unicode_literal-else-bytes-2.ensures

pub returns-then-bytes-3 : goal.returns-then-bytes-3
unfolding escape escape_case
returns-then-bytes-3 c = let t = step (goal.at.returns-then-bytes-3 c).After-is_any_bytes-bytes in rw (lt-leb _ _ t.there, t.code_is, c.in-78.is, ← c.is_any_bytes-bytes.ensures, c.if-bytes-3.true, t.next_is, escape, escape_case)

pub returns-else-bytes-3 : goal.returns-else-bytes-3
unfolding escape escape_case
returns-else-bytes-3 c = let t = step (goal.at.returns-else-bytes-3 c).After-is_any_bytes-bytes in rw (lt-leb _ _ t.there, t.code_is, c.in-78.is, ← c.is_any_bytes-bytes.ensures, c.if-bytes-3.false, t.next_is, escape, escape_case) c.parse_unicode_name.ensures

pub returns-in-10 : goal.returns-in-10
unfolding escape escape_case
returns-in-10 c = let t = step (goal.at.returns-in-10 c).After-is_any_bytes-bytes in rw (lt-leb _ _ t.there, t.code_is, c.in-10.is, t.next_is, escape, escape_case)

pub returns-in-48-to-55 : goal.returns-in-48-to-55
unfolding escape escape_case
returns-in-48-to-55 c = c.parse_octet.ensures ∙ sym (octal_escape _ c.args.kind _ _ _ _ (step (goal.at.returns-in-48-to-55 c).After-is_any_bytes-bytes) c.in-48-to-55.if-c-lt48-own.false (le_of_suc-le-suc c.in-48-to-55.if-c-lt56-own.true))

pub returns-then-c-ge128 : goal.returns-then-c-ge128
unfolding escape escape_case
returns-then-c-ge128 c = c.refuse-then-c-ge128.ensures ∙ sym (other_escape _ c.args.kind _ _ _ _ (step (goal.at.returns-then-c-ge128 c).After-is_any_bytes-bytes) c.in_default-1.rest (outside (goal.at.returns-then-c-ge128 c).In_default-c) true (rw (le-leb 0x80 _ c.if-c-ge128.true, ← c.is_any_bytes-bytes.ensures, c.if-bytes-4.true)))

pub returns-else-bytes-4 : goal.returns-else-bytes-4
unfolding escape escape_case
returns-else-bytes-4 c =
    sym (other_escape _ c.args.kind _ _ _ _ (step (goal.at.returns-else-bytes-4 c).After-is_any_bytes-bytes) c.in_default-1.rest (outside (goal.at.returns-else-bytes-4 c).In_default-c) false
    (elim c.else-bytes-4.branch [
      | else-bytes-4-via-then-bytes-4+else-c-ge128 w ↦ rw (lt-leb 0x80 _ w.if-c-ge128.false)
      | else-bytes-4-via-else-bytes-4 w ↦ rw (← c.is_any_bytes-bytes.ensures, w.if-bytes-4.false) (and_false _)
    ]))
  where
    and_false : (b : Bool) → b && false ≡ false
    and_false true = refl
    and_false false = refl
