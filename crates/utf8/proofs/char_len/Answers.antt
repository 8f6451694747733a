use borrow.Author.Rules.{rules}
use mathlib.Core.Path.{refl, sym}
use Rattle.definition.specs.Chars.{ascii}
use Rattle.definition.proofs.Moves.CharLaws.{width_end}
use Rattle.utf8.proofs.char_len.Goals as goal

pub returns-then-s-at : goal.returns-then-s-at
unfolding ascii
returns-then-s-at c = sym (width_end _ _ c.if-s-at.true)

pub len_in-requires : goal.len_in-requires
unfolding ascii
len_in-requires c = (search rules, refl)

pub returns : goal.returns
unfolding ascii
returns c = c.len_in.ensures
