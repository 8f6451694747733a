use Rattle.std.proofs.Common.{rules}
use Rattle.definition.specs.Chars.{ascii}
use Rattle.definition_scripts.specs.Keywords.{keywords}
use Rattle.words.specs.Packed.{packed, all_packed, packed_keywords}
use Rattle.words.proofs.is_packed.Goals as goal

pub returns-in-23359073 : goal.returns-in-23359073
unfolding packed all_packed packed_keywords keywords ascii
returns-in-23359073 c = search rules

pub returns-in_default : goal.returns-in_default
unfolding packed all_packed packed_keywords keywords ascii
returns-in_default c = search rules
