use native.Mathlib.Omega.{arith}
use mathlib.Core.Path.{sym, ◌∙◌}
use Rattle.written.proofs.PassLaws.{turn_spec as spec-turns, turn_text, turn_brace, turn_field, turn_other}
use Rattle.written.proofs.WriteLaws.{piece_spec, piece_text, piece_field}
use Rattle.written.proofs.turns.turn.Goals as goal

pub push-requires : goal.push-requires
push-requires c = c.requires.1 c.if-h-eq3.true

pub returns-then-h-eq3 : goal.returns-then-h-eq3
returns-then-h-eq3 c = λ r h. let e = c.push.ensures in let k = sym h.kind ∙ c.if-h-eq3.true in spec-turns _ _ r _ k (rw (← h.parts) e.0) (omega (arith, e.1, c.requires.1 c.if-h-eq3.true)) (piece_spec _ _ r k _ (rw (← h.parts) e.0))

pub returns-then-text_reads : goal.returns-then-text_reads
returns-then-text_reads c = λ r h. let d = c.drain-d.ensures in let t = c.took_text.ensures in let k = sym h.kind ∙ c.if-h-eq1.true in let few = c.requires.0 in turn_text _ _ r (λ z. c.if-h-eq3.false (h.kind ∙ z)) c.drain-d.result d.0 _ k (rw (← h.offset, ← h.size) (sym c.text_reads.ensures ∙ c.if-text_reads.true)) t.0 (omega (arith, t.1, d.1)) (piece_text _ _ r (λ z. c.if-h-eq3.false (h.kind ∙ z)) few c.drain-d.result (omega (arith, d.1)) d.0 k _ t.0 t.1 t.2)

pub returns-then-h-eq1 : goal.returns-then-h-eq1
returns-then-h-eq1 c = λ r h. let d = c.drain-d.ensures in turn_brace _ _ r (λ z. c.if-h-eq3.false (h.kind ∙ z)) c.drain-d.result d.0 (sym h.kind ∙ c.if-h-eq1.true) (rw (← h.offset, ← h.size) (sym c.text_reads.ensures ∙ c.if-text_reads.false))

pub returns-then-field_reads : goal.returns-then-field_reads
returns-then-field_reads c = λ r h. let d = c.drain-d.ensures in let t = c.took_field.ensures in let few = c.requires.0 in turn_field _ _ r (λ z. c.if-h-eq3.false (h.kind ∙ z)) c.drain-d.result d.0 (omega (arith, d.1)) (λ z. c.if-h-eq1.false (h.kind ∙ z)) _ (rw (← h.offset, ← h.size) (sym c.field_reads.ensures ∙ c.if-field_reads.true)) t.0 t.1 (piece_field _ _ r (λ z. c.if-h-eq3.false (h.kind ∙ z)) few c.drain-d.result (omega (arith, d.1)) d.0 (λ z. c.if-h-eq1.false (h.kind ∙ z)) _ t.0 t.1)

pub returns : goal.returns
returns c = λ r h. let d = c.drain-d.ensures in let few = c.requires.0 in turn_other _ _ r (λ z. c.if-h-eq3.false (h.kind ∙ z)) c.drain-d.result d.0 (omega (arith, d.1)) (λ z. c.if-h-eq1.false (h.kind ∙ z)) (rw (← h.offset, ← h.size) (sym c.field_reads.ensures ∙ c.if-field_reads.false))
