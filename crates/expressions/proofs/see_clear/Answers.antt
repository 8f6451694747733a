use mathlib.Core.Path.{sym, ◌∙◌}
use Rattle.expressions.proofs.ScanLaws.{sees_quote, sees_backslash, sees_plain}
use Rattle.expressions.proofs.see_clear.Goals as goal

pub returns-then-is_quote : goal.returns-then-is_quote
returns-then-is_quote c = let p = c.requires in sees_quote _ p.1 _ p.0 _ (sym c.is_quote.ensures ∙ c.if-is_quote.true)

pub open_bracket-requires : goal.open_bracket-requires
open_bracket-requires c = let p = c.requires in (p.0, p.1, sym c.is_quote.ensures ∙ c.if-is_quote.false, sym c.is_opener.ensures ∙ c.if-is_opener.true)

pub close_bracket-requires : goal.close_bracket-requires
close_bracket-requires c = let p = c.requires in (p.0, p.1, sym c.is_quote.ensures ∙ c.if-is_quote.false, sym c.is_opener.ensures ∙ c.if-is_opener.false, sym c.is_closer.ensures ∙ c.if-is_closer.true)

pub returns-then-b-eq92 : goal.returns-then-b-eq92
returns-then-b-eq92 c = let p = c.requires in sees_backslash _ p.1 _ p.0 _ (sym c.is_quote.ensures ∙ c.if-is_quote.false) (sym c.is_opener.ensures ∙ c.if-is_opener.false) (sym c.is_closer.ensures ∙ c.if-is_closer.false) c.if-b-eq92.true

pub returns : goal.returns
returns c = let p = c.requires in sees_plain _ p.1 _ p.0 _ (sym c.is_quote.ensures ∙ c.if-is_quote.false) (sym c.is_opener.ensures ∙ c.if-is_opener.false) (sym c.is_closer.ensures ∙ c.if-is_closer.false) c.if-b-eq92.false
