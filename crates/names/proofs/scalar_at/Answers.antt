use Rattle.definition.proofs.Moves.CharLaws.{cases}
use Rattle.definition_names.specs.Names.{is_scalar, scalar_at}
use Rattle.names.proofs.scalar_at.Goals as goal

pub returns-in_err-value-clause-code : goal.returns-in_err-value-clause-code
unfolding scalar_at
returns-in_err-value-clause-code c = rw (c.from_residual.ensures, c.in_err-value.ensures)

pub returns-clause-code : goal.returns-clause-code
unfolding scalar_at
returns-clause-code c =
    let d = c.in_ok-value.ensures in
    rw (c.then_some.ensures, c.is_scalar.ensures, ← d.0.is) (cases (is_scalar c.in_ok-value.field-0.value) (λ t. rw t) (λ t. rw t))
