use Rattle.std.proofs.Common.{arith}
use Rattle.definition.specs.Numbers.{prefix}
use Rattle.found.proofs.Prefixes.{prefix_none}
use Rattle.found.proofs.prefix.Goals as goal

pub returns-in_default : goal.returns-in_default
unfolding prefix
returns-in_default c = prefix_none c.args.kind (λ e. omega arith) (λ e. omega arith) (λ e. omega arith) (λ e. omega arith) (λ e. omega arith) (λ e. omega arith)
