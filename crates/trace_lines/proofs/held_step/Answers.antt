use native.Mathlib.Omega.{arith}
use Rattle.trace_lines.proofs.held_step.Goals as goal

pub overflow_cast-item : goal.overflow_cast-item
overflow_cast-item c = omega (arith, c.type_inv.numbers 4)

pub overflow_cast-item-2 : goal.overflow_cast-item-2
overflow_cast-item-2 c = omega (arith, c.type_inv.numbers 6)

pub overflow_cast-item-3 : goal.overflow_cast-item-3
overflow_cast-item-3 c = omega (arith, c.type_inv.numbers 7)

pub overflow_cast-shape-3 : goal.overflow_cast-shape-3
overflow_cast-shape-3 c = omega (arith, c.type_inv.numbers 13)

pub overflow_cast-form : goal.overflow_cast-form
overflow_cast-form c = omega (arith, c.type_inv.numbers 8)

pub overflow_cast-result : goal.overflow_cast-result
overflow_cast-result c = omega (arith, c.type_inv.numbers 0)

pub overflow_cast-result-2 : goal.overflow_cast-result-2
overflow_cast-result-2 c = omega (arith, c.type_inv.numbers 1)
