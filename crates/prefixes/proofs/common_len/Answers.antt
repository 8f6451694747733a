use native.Mathlib.Omega.{arith}
use mathlib.Core.Path.{◌≡◌, sym, ◌∙◌}
use Prim.Native.Nat.{◌+◌}
use Rattle.prefixes.proofs.Common.{two_bytes, three_bytes}
use Rattle.prefixes.proofs.common_len.Goals as goal

pub returns-then-is_between-2 : goal.returns-then-is_between-2
returns-then-is_between-2 c = λ n. two_bytes _ _ (sym c.is_between.ensures ∙ c.if-is_between.true) (sym c.is_between-then-is_between.ensures ∙ c.if-is_between-2.true)

pub returns-then-is_between-5 : goal.returns-then-is_between-5
returns-then-is_between-5 c =
    λ n. let a = c.args in
    let third : a.at + 2 ≡ a.at + 1 + 1 = omega arith in
    three_bytes a.s.now a.at (sym c.is_between-else-is_between.ensures ∙ c.if-is_between-3.true) (sym c.is_between-then-is_between-3.ensures ∙ c.if-is_between-4.true) (rw third at (sym c.is_between-then-is_between-4.ensures ∙ c.if-is_between-5.true))
