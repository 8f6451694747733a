use mathlib.Core.Path.{◌≡◌}
use Rattle.prefixes.specs.Fits.{AllFit}
use Rattle.prefixes.proofs.is_fitting.Given as goal

-- what was seen so far fits, if nothing told otherwise
abbrev pub invariant-loop-i : goal.invariant-loop-i
invariant-loop-i l = l.most ≡ 0 → AllFit l.s l.from l.i
