use borrow.Author.Rules.{rules}
use native.Mathlib.Omega.{arith}
use Rattle.definition.specs.Escapes.{encode}
use Rattle.definition_laws.proofs.Moves.Moves.{utf8_short}
use Rattle.texts.proofs.add_code.Goals as goal

pub returns-then-is_any_bytes : goal.returns-then-is_any_bytes
unfolding encode
returns-then-is_any_bytes c = rw (← c.is_any_bytes.ensures, c.if-is_any_bytes.true) (search rules)

pub overflow_add-result-2 : goal.overflow_add-result-2
unfolding encode
overflow_add-result-2 c = omega (arith, c.add_char-n.ensures.0, utf8_short c.args.code)

pub returns : goal.returns
unfolding encode
returns c = rw (← c.is_any_bytes.ensures, c.if-is_any_bytes.false) (search rules)
