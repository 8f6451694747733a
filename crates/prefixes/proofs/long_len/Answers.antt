use native.Mathlib.Omega.{arith}
use mathlib.Core.Path.{◌≡◌, sym, ◌∙◌}
use Prim.Native.Nat.{◌+◌}
use Rattle.definition.proofs.Moves.CharLaws.{byte_is}
use Rattle.prefixes.proofs.Fitting.{three_long, four_long}
use Rattle.prefixes.proofs.long_len.Goals as goal

pub returns-then-b-lt240 : goal.returns-then-b-lt240
returns-then-b-lt240 c =
    λ n. let a = c.args in
    let third : a.at + 2 ≡ a.at + 1 + 1 = omega arith in
    three_long a.s.now a.at _ _ _ (byte_is a.s.now a.at c.requires) c.least_after.ensures c.most_after.ensures (sym c.is_between.ensures ∙ c.if-is_between.true) (rw third at (sym c.is_between-then-is_between.ensures ∙ c.if-is_between-2.true)) c.if-b-ge224.true c.if-b-lt240.true

pub returns-then-is_between-3 : goal.returns-then-is_between-3
returns-then-is_between-3 c =
    λ n. let a = c.args in
    let third : a.at + 2 ≡ a.at + 1 + 1 = omega arith in
    let fourth : a.at + 3 ≡ a.at + 1 + 1 + 1 = omega arith in
    four_long a.s.now a.at _ _ _ (byte_is a.s.now a.at c.requires) c.least_after.ensures c.most_after.ensures (sym c.is_between.ensures ∙ c.if-is_between.true) (rw third at (sym c.is_between-then-is_between.ensures ∙ c.if-is_between-2.true)) c.if-b-lt240.false c.if-b-le244.true (rw fourth at (sym c.is_between-then-is_between-2.ensures ∙ c.if-is_between-3.true))
