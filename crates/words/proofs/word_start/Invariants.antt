use Rattle.std.proofs.Common.{◌≡◌}
use Rattle.definition_scripts.specs.Keywords.{word_start}
use Rattle.words.proofs.word_start.Given as goal

abbrev pub invariant-loop-i : goal.invariant-loop-i
invariant-loop-i l = word_start l.s l.at ≡ word_start l.s l.i
