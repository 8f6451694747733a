use Rattle.std.specs.Prelude.{if◌then◌else◌}
use native.Mathlib.Omega.{arith}
use borrow.Author.Tests.{lt-ltb, le-ltb, le-leb, lt-leb, ne_eqb}
use mathlib.Core.Path.{◌≡◌, sym, ◌∙◌}
use mathlib.Core.List.{List}
use Prim.Native.Nat.{ℕ, ◌+◌}
use lib.ListN.{length, drop}
use Rattle.definition.specs.Chars.{◌is◌, at_end, before, no_code}
use Rattle.definition.specs.Numbers.{string_error}
use Rattle.definition.specs.Escapes.{Naming, fault, refused, named, unicode_name}
use Rattle.utf8.specs.declared.Cursor.{Cursor}
use Rattle.definition.proofs.Moves.CharLaws.{code_end}
use Rattle.searches.proofs.Threes.{of_one}
use Rattle.utf8.proofs.Steps.{Stepped, step_char, step_end}
use Rattle.escapes.proofs.parse_unicode_name.Goals as goal
use Rattle.escapes.proofs.parse_unicode_name.Goals.{After-first_of-end, In-Char}

-- the name's length, from i on
abbrev closing : List ℕ → ℕ → ℕ
closing s i = before (λ b. b is "}") (drop i s)

-- after the opening brace
opened : (look : Naming) (s : List ℕ) (i c : ℕ) (k : Cursor) → Stepped s i c k → c ≡ 123 → unicode_name look s i ≡ (if at_end s (k.at + closing s k.at) then refused (fault string_error (length s)) else named look s k.at (closing s k.at))
unfolding unicode_name
opened look s i c k t e = rw (t.code_is, e, t.next_is)

step : (c : In-Char) → let a = c.args in Stepped a.s.now a.from.at c.in-Char.c c.in-Char.inner
step c = step_char _ _ _ _ (sym c.next_char.ensures ∙ c.in-Char.is)

abbrev start : After-first_of-end → ℕ
start c = c.in-Char.inner.at

abbrev size : After-first_of-end → ℕ
size c = closing c.args.s.now (start c)

found : (c : After-first_of-end) → c.first_of-end.result ≡ start c + size c
found c = c.first_of-end.ensures ∙ of_one 125 _ _

pub returns-in_default : goal.returns-in_default
unfolding unicode_name named
returns-in_default c = rw (code_end _ _ (step_end _ _ (sym c.next_char.ensures ∙ c.in_default.is))) c.refuse.ensures

pub returns-then-c-ne123 : goal.returns-then-c-ne123
unfolding unicode_name named
returns-then-c-ne123 c = rw ((step (goal.at.returns-then-c-ne123 c).In-Char).code_is, ne_eqb _ _ c.if-c-ne123.true) c.refuse-then-c-ne123.ensures

pub returns-then-n-end : goal.returns-then-n-end
unfolding unicode_name named
returns-then-n-end c = rw (opened _ _ _ _ _ (step (goal.at.returns-then-n-end c).In-Char) c.if-c-ne123.false, ← found (goal.at.returns-then-n-end c).After-first_of-end, le-leb _ _ c.if-n-end.true) c.refuse-then-n-end.ensures

pub overflow_sub-end : goal.overflow_sub-end
unfolding unicode_name named
overflow_sub-end c = let e = found (goal.at.overflow_sub-end c).After-first_of-end in omega (arith, e)

pub returns-then-end-start-gt88 : goal.returns-then-end-start-gt88
unfolding unicode_name named
returns-then-end-start-gt88 c = let e = found (goal.at.returns-then-end-start-gt88 c).After-first_of-end in rw (opened _ _ _ _ _ (step (goal.at.returns-then-end-start-gt88 c).In-Char) c.if-c-ne123.false, ← found (goal.at.returns-then-end-start-gt88 c).After-first_of-end, lt-leb _ _ c.if-n-end.false, lt-ltb 88 (size (goal.at.returns-then-end-start-gt88 c).After-first_of-end) (omega arith)) c.refuse-then-end-start-gt88.ensures

pub returns-in_default-code_in : goal.returns-in_default-code_in
unfolding unicode_name named
returns-in_default-code_in c =
    let e = found (goal.at.returns-in_default-code_in c).After-first_of-end in
    rw (opened _ _ _ _ _ (step (goal.at.returns-in_default-code_in c).In-Char) c.if-c-ne123.false, ← found (goal.at.returns-in_default-code_in c).After-first_of-end, lt-leb _ _ c.if-n-end.false, le-ltb 88 (size (goal.at.returns-in_default-code_in c).After-first_of-end) (omega arith), ← c.in_default-code_in.ensures.code) c.refuse-in_default-code_in.ensures

pub returns : goal.returns
unfolding unicode_name named
returns c =
    let e = found (goal.at.returns c).After-first_of-end in
    rw (opened _ _ _ _ _ (step (goal.at.returns c).In-Char) c.if-c-ne123.false, ← found (goal.at.returns c).After-first_of-end, lt-leb _ _ c.if-n-end.false, le-ltb 88 (size (goal.at.returns c).After-first_of-end) (omega arith), ← c.in-Some.ensures.code, ne_eqb c.in-Some.code no_code (λ z. omega (arith, c.in-Some.ensures.below)))
