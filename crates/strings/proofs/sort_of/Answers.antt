use native.Mathlib.Omega.{arith}
use mathlib.Core.Path.{sym, ◌∙◌}
use Rattle.strings.proofs.CallLaws.{sort_joined, sort_bytes, sort_plain, four_bytes, else_plain}
use Rattle.strings.proofs.sort_of.Goals as goal

pub overflow_cast-numbers : goal.overflow_cast-numbers
overflow_cast-numbers c = omega (arith, c.requires.0)

pub returns-then-any_of : goal.returns-then-any_of
returns-then-any_of c = sym (sort_joined _ (sym c.any_of.ensures ∙ c.if-any_of.true))

pub returns-then-kind-eq4 : goal.returns-then-kind-eq4
returns-then-kind-eq4 c = sym (sort_bytes _ (sym c.any_of.ensures ∙ c.if-any_of.false) (four_bytes _ _ c.requires.1 c.if-kind-eq4.true))

pub returns-else-kind-eq4 : goal.returns-else-kind-eq4
returns-else-kind-eq4 c = sym (sort_plain _ (sym c.any_of.ensures ∙ c.if-any_of.false) (else_plain _ _ c.requires.1 c.if-kind-eq4.false))
