use mathlib.Core.Path.{sym, ◌∙◌}
use borrow.Author.Tests.{lt-ltb, le-ltb}
use Rattle.sources.specs.Source.{otherwise_of}
use Rattle.sources.proofs.Odds.{otherwise_source}
use Rattle.sources.proofs.otherwise.Goals as goal

pub returns-then-end-f : goal.returns-then-end-f
unfolding otherwise_of
returns-then-end-f c = rw (← c.source_end-end.ensures, lt-ltb _ _ c.if-end-f.true)

pub returns-then-s-end : goal.returns-then-s-end
unfolding otherwise_of
returns-then-s-end c = rw (← c.source_end-end.ensures, le-ltb _ _ c.if-end-f.false, lt-ltb _ _ c.if-s-end.true)

pub returns-then-s-gt-MOST_BYTES : goal.returns-then-s-gt-MOST_BYTES
unfolding otherwise_of
returns-then-s-gt-MOST_BYTES c = rw (← c.source_end-end.ensures, le-ltb _ _ c.if-end-f.false, le-ltb _ _ c.if-s-end.false, lt-ltb _ _ c.if-s-gt-MOST_BYTES.true)

pub first_otherwise-requires : goal.first_otherwise-requires
unfolding otherwise_of
first_otherwise-requires c = let e = c.source_end-end.ensures in record { ahead = rw (← e) c.if-end-f.false; within = rw (← e) c.if-s-end.false; not_long_lem = c.if-s-gt-MOST_BYTES.false }

pub returns : goal.returns
unfolding otherwise_of
returns c = c.first_otherwise.ensures ∙ sym (otherwise_source _ _ (let e = c.source_end-end.ensures in record { ahead = rw (← e) c.if-end-f.false; within = rw (← e) c.if-s-end.false; not_long_lem = c.if-s-gt-MOST_BYTES.false }))
