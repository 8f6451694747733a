use borrow.Author.Rules.{rules}
use Rattle.tokens.proofs.TokenLaws.{token_is}
use Rattle.tokens.proofs.token_end.Goals as goal

pub returns : goal.returns
returns c = token_is _ _ (search rules) _ (c.move_end.result) (c.past_staying-from.ensures) (c.move_end.ensures)
