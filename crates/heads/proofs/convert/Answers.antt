use native.Mathlib.Omega.{arith}
use Prim.Native.Nat.{ℕ}
use mathlib.Core.Path.{◌≡◌, refl, sym, ap, ◌∙◌}
use mathlib.Core.Bool.{Bool}
use Rattle.definition.specs.Chars.{◌is◌}
use Rattle.utf8.proofs.Steps.{step_char, step_end}
use Rattle.heads.specs.declared.State.{State}
use Rattle.heads.proofs.FieldLaws.{ahead, changed, skips, convert_blank, convert_end, convert_other, convert_goes, convert_open}
use Rattle.heads.proofs.convert.Goals as goal

-- what the test of the code that was met says of the character
ends_head_is : {r t : Bool} {c c' : ℕ} → r ≡ (c is "}:") → c ≡ c' → r ≡ t → (c' is "}:") ≡ t
ends_head_is a b e = rw (← b) (sym a ∙ e)

pub returns-then-f : goal.returns-then-f
returns-then-f c = λ places. rw c.refused_at.ensures (refl, λ e. convert_blank c.requires places e c.if-f.true)

pub returns-in_default : goal.returns-in_default
returns-in_default c =
    let end = step_end _ _ (sym c.next_char.ensures ∙ c.in_default.is) in
    λ places. rw c.unclosed_brace.ensures (refl, λ e. convert_end c.requires places e c.if-f.false end)

pub skip-g-requires : goal.skip-g-requires
skip-g-requires c = let p = c.requires in let l = p.here.there in (p.room, omega arith)

pub returns-then-ends_head : goal.returns-then-ends_head
returns-then-ends_head c =
    let p = c.requires in
    let there = step_char _ _ _ _ (sym c.next_char.ensures ∙ c.in-Char.is) in
    let flag = sym c.is_conversion.ensures ∙ c.if-is_conversion.true in
    let end = ends_head_is c.ends_head.ensures c.peek.ensures c.if-ends_head.true in
    λ places. skips p.room c.in-Char.after.at c.args.f.spaces c.in-Char.conversion c.args.f.equals c.args.flag.at (omega (arith, p.room.equals_in, (ahead p.here).0, (ahead there).0), omega (arith, (ahead there).0)) c.skip-g.ensures.1 (ap (λ (x : State). changed x.spaces c.in-Char.conversion x.equals c.args.flag.at x) c.skip-g.ensures.0) (λ e. convert_goes p places e c.if-f.false there flag end)

pub returns-then-is_conversion : goal.returns-then-is_conversion
returns-then-is_conversion c =
    let p = c.requires in
    let there = step_char _ _ _ _ (sym c.next_char.ensures ∙ c.in-Char.is) in
    let flag = sym c.is_conversion.ensures ∙ c.if-is_conversion.true in
    let end = ends_head_is c.ends_head.ensures c.peek.ensures c.if-ends_head.false in
    λ places. rw c.unclosed_brace-then-is_conversion.ensures (refl, λ e. convert_open p places e c.if-f.false there flag end)

pub returns : goal.returns
returns c =
    let p = c.requires in
    let there = step_char _ _ _ _ (sym c.next_char.ensures ∙ c.in-Char.is) in
    λ places. rw c.refused_at-2.ensures (refl, λ e. convert_other p places e c.if-f.false there (sym c.is_conversion.ensures ∙ c.if-is_conversion.false))
