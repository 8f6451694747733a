-- What is counted by the character step.
use Rattle.definition.specs.Counts as d
use Rattle.counts.specs.declared.Count.{Count}

-- the definition's count
abbrev pub count_of : Count → d.Count
count_of k = record { chars = k.chars; line = k.line; column = k.column }
