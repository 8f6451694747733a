use Rattle.std.proofs.Common.{◌≡◌}
use Rattle.definition.specs.Chars.{part}
use Rattle.definition_scripts.specs.Keywords.{ends_in_keyword}
use Rattle.words.proofs.ends_in_keyword.Given as goal

abbrev pub invariant-loop-i : goal.invariant-loop-i
invariant-loop-i l = ends_in_keyword (part l.s l.fn.from l.end) ≡ ends_in_keyword (part l.s l.i l.end)
