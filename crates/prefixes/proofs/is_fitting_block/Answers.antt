use borrow.Author.Rules.{rules}
use native.Mathlib.Omega.{arith}
use mathlib.Core.Path.{sym, ◌∙◌}
use Prim.Native.Nat.{◌+◌}
use borrow.Author.Tests.{not-true}
use Rattle.ascii.proofs.Runs.{all_part}
use Rattle.prefixes.proofs.Fitting.{ascii_fits}
use Rattle.prefixes.proofs.is_fitting_block.Goals as goal

pub returns-then-is_ascii : goal.returns-then-is_ascii
returns-then-is_ascii c =
    λ e. let a = c.args in
    let ascii = sym c.is_ascii.ensures ∙ c.if-is_ascii.true in
    ascii_fits a.s.now a.i (search rules) (sym c.is_due.ensures ∙ not-true c.is_due.result e) (all_part a.s.now (a.i + 3) ascii (omega arith) (search rules))
