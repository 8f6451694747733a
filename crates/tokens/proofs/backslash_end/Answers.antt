use borrow.Author.Rules.{rules}
use Rattle.std.proofs.lemmas.Result.{err_from_is_err_and}
use Rattle.tokens.proofs.TokenLaws.{stays, escape_ends, no_escape}
use Rattle.tokens.proofs.backslash_end.Goals as goal

pub returns-in-123 : goal.returns-in-123
returns-in-123 c = stays _ _ _ c.requires.0 _ c.peek.ensures c.in-123.is

pub returns-in_err-escape_end-in_default : goal.returns-in_err-escape_end-in_default
returns-in_err-escape_end-in_default c =
    let p = err_from_is_err_and c.from_residual.result c.from_residual.ensures.1 in
    rw (p.1, p.2) (no_escape _ _ _ c.requires.0 _ c.peek.ensures (search rules) c.requires.1 _ c.in_err-escape_end-in_default.ensures)

pub returns-in_ok-escape_end-in_default : goal.returns-in_ok-escape_end-in_default
returns-in_ok-escape_end-in_default c = let h = c.in_ok-escape_end-in_default.ensures in escape_ends _ _ _ c.requires.0 _ c.peek.ensures (search rules) _ _ h.2.1
