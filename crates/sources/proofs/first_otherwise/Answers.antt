use Rattle.sources.proofs.Odds.{min_is, otherwise_is}
use mathlib.Core.Path.{◌∙◌}
use Rattle.sources.proofs.first_otherwise.Goals as goal

pub odd_in-odd-requires : goal.odd_in-odd-requires
odd_in-odd-requires c = let p = c.requires in (rw c.source_end-end.ensures p.ahead, rw c.source_end-end.ensures p.within, p.not_long_lem)

pub byte_in-back-requires : goal.byte_in-back-requires
byte_in-back-requires c = let p = c.requires in (rw c.source_end-end.ensures p.ahead, rw c.source_end-end.ensures p.within)

pub more_after-more-requires : goal.more_after-more-requires
more_after-more-requires c = let p = c.requires in (c.source_end-end.ensures, rw c.source_end-end.ensures p.within)

pub returns : goal.returns
returns c = otherwise_is _ c.args.f _ _ _ _ _ _ _ _ _ c.source_end-end.ensures c.odd_in-odd.ensures c.byte_in-back.ensures c.found_in-escaped.ensures c.more_after-more.ensures c.spec_backslash-spec.ensures (c.min-later.ensures ∙ min_is _ _) (c.min-first.ensures ∙ min_is _ _) (c.min.ensures ∙ min_is _ _)
