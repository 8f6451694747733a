use borrow.Author.Rules.{rules}
use mathlib.Core.Path.{sym}
use Rattle.prefixes.proofs.Formed.{begun, ended}
use Rattle.prefixes.proofs.formed_end.Goals as goal

pub formed_until-requires : goal.formed_until-requires
formed_until-requires c = (begun _ _ c.requires, search rules)

pub returns-then-s-lt67 : goal.returns-then-s-lt67
returns-then-s-lt67 c = sym (ended _ _ c.formed_until.ensures.0 c.formed_until.ensures.1)

pub formed_until-begun-requires : goal.formed_until-begun-requires
formed_until-begun-requires c = (begun _ _ c.requires, search rules)

pub formed_blocks-blocks-requires : goal.formed_blocks-blocks-requires
formed_blocks-blocks-requires c = c.formed_until-begun.ensures.0

pub formed_until-requires-2 : goal.formed_until-requires-2
formed_until-requires-2 c = (c.formed_blocks-blocks.ensures, search rules)

pub returns : goal.returns
returns c = sym (ended _ _ c.formed_until-2.ensures.0 c.formed_until-2.ensures.1)
