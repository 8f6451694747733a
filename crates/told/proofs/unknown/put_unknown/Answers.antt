use native.Mathlib.Omega.{arith}
use mathlib.Core.Path.{sym, ◌∙◌}
use Rattle.definition_scripts.specs.Listing.{unknown_row}
use Rattle.definition_scripts_laws.proofs.Listing.WordLaws.{word_ahead}
use Rattle.found.specs.Found.{literal_of}
use Rattle.told.proofs.Rows.{wrote_none, wrote_unknown}
use Rattle.told.proofs.unknown.put_unknown.Goals as goal

pub stands-requires : goal.stands-requires
unfolding unknown_row
stands-requires c = c.word_start-word.ensures

pub returns-then-stands : goal.returns-then-stands
unfolding unknown_row
returns-then-stands c = rw (sym c.stands.ensures ∙ c.if-stands.true) (wrote_none _ _)

pub overflow_cast-told : goal.overflow_cast-told
unfolding unknown_row
overflow_cast-told c = let a = c.args in omega (arith, c.word_start-word.ensures, word_ahead a.s.now a.l.start)

pub returns : goal.returns
unfolding unknown_row
returns c = wrote_unknown _ _ (literal_of c.args.l) _ _ _ _ (sym c.stands.ensures ∙ c.if-stands.false) c.word_start-word.ensures c.put_refusal.ensures
