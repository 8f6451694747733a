use borrow.Author.Rules.{rules}
use Rattle.alone.proofs.AloneLaws.{alone_fields, alone_refused}
use Rattle.alone.proofs.read_fstring.Goals as goal

pub returns-in-Accepted : goal.returns-in-Accepted
returns-in-Accepted c = let h = rw c.in-Accepted.is at c.parse_window.ensures in alone_fields _ _ _ _ _ _ _ c.requires _ h (search rules)

pub returns-in-Refused : goal.returns-in-Refused
returns-in-Refused c = let h = rw c.in-Refused.is at c.parse_window.ensures in alone_refused _ _ _ _ _ _ _ c.requires _ h
