use borrow.Author.Rules.{rules}
use native.Mathlib.Omega.{arith}
use Rattle.escapes.specs.Answers.{names_by}
use Rattle.told.proofs.Rows.{otherwise_most}
use Rattle.listing.proofs.Filling.{source_told, source_bounded, source_puts}
use Rattle.listing.proofs.rows.source_rows.Goals as goal

pub overflow_mul-at : goal.overflow_mul-at
overflow_mul-at c = let p = c.requires.placed in search rules

pub offset_bounds-rows-at : goal.offset_bounds-rows-at
offset_bounds-rows-at c = let p = c.requires.placed in search rules

pub bounds-rows-at : goal.bounds-rows-at
bounds-rows-at c = let p = c.requires.placed in search rules

pub returns-then-rows-at-eq-REFUSAL : goal.returns-then-rows-at-eq-REFUSAL
returns-then-rows-at-eq-REFUSAL c = source_told _ _ _ _ _ c.if-rows-at-eq-REFUSAL.true

pub field_at-f-requires : goal.field_at-f-requires
field_at-f-requires c = c.requires.placed

pub overflow_add-within : goal.overflow_add-within
overflow_add-within c = let p = c.requires.few in search rules

pub overflow_cast-within : goal.overflow_cast-within
overflow_cast-within c = let p = c.requires.few in search rules

pub overflow_add-behind : goal.overflow_add-behind
overflow_add-behind c = let p = c.requires.few in let m = otherwise_most _ _ _ _ _ _ _ c.put_otherwise.ensures in omega arith

pub cut_rows-part-requires : goal.cut_rows-part-requires
cut_rows-part-requires c = rw (c.source_end.ensures, c.field_at-f.ensures) (source_bounded (names_by c.args.names.now.file.now c.args.names.now.index.now) _ _ _ c.if-rows-at-eq-REFUSAL.false _ c.requires _ _ _ (rw c.field_at-f.ensures at c.put_otherwise.ensures))

pub returns : goal.returns
returns c = source_puts _ _ _ _ c.if-rows-at-eq-REFUSAL.false _ c.requires _ _ _ (rw c.field_at-f.ensures at c.put_otherwise.ensures) _ _ (rw (c.source_end.ensures, c.field_at-f.ensures) at c.cut_rows-part.ensures) (omega arith)
