use mathlib.Core.Path.{sym, ◌∙◌}
use Rattle.alone.proofs.AloneLaws.{alone_none}
use Rattle.alone.proofs.read_alone.Goals as goal

pub read_fstring-requires : goal.read_fstring-requires
read_fstring-requires c = sym c.is_fstring.ensures ∙ c.if-is_fstring.true

pub returns-then-is_fstring : goal.returns-then-is_fstring
returns-then-is_fstring c = c.read_fstring.ensures

pub returns-else-is_fstring : goal.returns-else-is_fstring
returns-else-is_fstring c = alone_none _ _ _ _ _ _ (sym c.is_fstring.ensures ∙ c.if-is_fstring.false)
