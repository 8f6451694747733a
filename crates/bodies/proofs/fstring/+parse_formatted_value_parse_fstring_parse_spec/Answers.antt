use borrow.Author.Rules.{rules}
use native.Mathlib.Omega.{arith}
use mathlib.Core.Path.{refl, sym, ◌∙◌}
use native.Mathlib.Numerals.{add-one}
use borrow.Author.Tests.{eq-eqb, ne_eqb}
use Rattle.definition_laws.proofs.Moves.Fuel.{first_in_lem}
use Rattle.escapes.specs.Answers.{names_by}
use Rattle.bodies.proofs.RecordLaws.{reserved_kept, specified_filled}
use Rattle.bodies.proofs.FstringLaws.{refuses, to_refuse, fits, small_head, readable, over_reads, text_over, kept, first_emits, first_room, plain_reads, spec_plain, spec_refused}
use Rattle.texts.proofs.Laws.{text_refuses}
use Rattle.bodies.proofs.RowLaws.{begun, filled_signed, text_signed, to_sign, few_on}
use Rattle.bodies.proofs.FieldEndLaws.{not_over, not_halted, alone}
use mathlib.Core.Bool.{false≢true}
use Rattle.bodies.proofs.CycleLaws.{closed_returns, spec_asks, spec_refuses, end_refuses, spec_returns, text_written, field_asks, field_refuses, further, goes_further, first_written, braced_returns}
use Prim.Native.Nat.{suc}
use Rattle.bodies.proofs.fstring.+parse_formatted_value_parse_fstring_parse_spec.Goals as goal

pub parse_formatted_value-overflow_cast-k : goal.parse_formatted_value-overflow_cast-k
parse_formatted_value-overflow_cast-k t c = let R = c.requires.room in omega (arith, R.load)

pub parse_formatted_value-overflow_sub-size : goal.parse_formatted_value-overflow_sub-size
parse_formatted_value-overflow_sub-size t c = let O = rw c.in-Ended.is at c.read_head.ensures in let E = O.0 c.requires.room.small in let S = small_head _ _ _ _ _ _ _ E.head in omega (arith, S.more)

pub parse_formatted_value-overflow_add-result : goal.parse_formatted_value-overflow_add-result
parse_formatted_value-overflow_add-result t c = let R = c.requires.room in omega (arith, R.load, c.requires.fields_le_count)

pub parse_formatted_value-returns-then-parts-eq0 : goal.parse_formatted_value-returns-then-parts-eq0
parse_formatted_value-returns-then-parts-eq0 t c = let a = c.args in let O = rw c.in-Ended.is at c.read_head.ensures in let E = O.0 c.requires.room.small in closed_returns a.s.now a.nested a.at.at a.fr a.k c.in-Ended.h _ _ _ _ _ _ _ E c.requires.room c.emit_field-a.ensures c.if-parts-eq0.true _ _ _ a.fields c.put_signs.ensures

pub parse_formatted_value-overflow_add-fields : goal.parse_formatted_value-overflow_add-fields
parse_formatted_value-overflow_add-fields t c = let R = c.requires.room in omega (arith, R.load, c.requires.fields_le_count)

pub parse_formatted_value-parse_spec-requires : goal.parse_formatted_value-parse_spec-requires
parse_formatted_value-parse_spec-requires t c = let a = c.args in let O = rw c.in-Ended.is at c.read_head.ensures in let E = O.0 c.requires.room.small in let q = spec_asks a.s.now a.nested a.at.at a.fr a.k c.in-Ended.h _ _ _ _ _ _ _ E c.requires.room c.emit_field-a.ensures c.if-parts-eq0.false a.fields c.requires.fields_le_count in (omega (arith, c.decreases, q.0.further, q.0.room.low), (q.0.room, ((c.requires.nested_bound, q.0.free, q.0.strict), q.1)))

pub parse_formatted_value-returns-in-Refused : goal.parse_formatted_value-returns-in-Refused
parse_formatted_value-returns-in-Refused t c = let a = c.args in let R = c.requires.room in let E = rw c.in-Refused.is at c.read_head.ensures in (to_refuse (λ l. l) _ _ _ _ _ _ _ _ _ ((E.0 R.small).reads (names_by a.names.now.file.now a.names.now.index.now) a.fr.kind a.nested), tt)

pub parse_formatted_value-returns-in-Refused-parse_spec : goal.parse_formatted_value-returns-in-Refused-parse_spec
parse_formatted_value-returns-in-Refused-parse_spec t c = let a = c.args in let O = rw c.in-Ended.is at c.read_head.ensures in let E = O.0 c.requires.room.small in let Q = rw c.in-Refused-parse_spec.is at c.parse_spec.ensures in (spec_refuses a.s.now a.nested a.at.at a.fr a.k c.in-Ended.h _ _ _ _ _ _ _ E c.requires.room c.emit_field-a.ensures c.if-parts-eq0.false _ _ _ _ _ _ Q.0, tt)

pub parse_formatted_value-returns-in-Err : goal.parse_formatted_value-returns-in-Err
parse_formatted_value-returns-in-Err t c = let a = c.args in let O = rw c.in-Ended.is at c.read_head.ensures in let E = O.0 c.requires.room.small in let Q = rw c.in-Done.is at c.parse_spec.ensures in (end_refuses a.s.now a.nested a.at.at a.fr a.k c.in-Ended.h _ _ _ _ _ _ _ E c.requires.room c.emit_field-a.ensures c.if-parts-eq0.false _ _ _ _ _ _ Q.0 _ _ _ (sym c.in-Err.is ∙ c.end_field.ensures), tt)

pub parse_formatted_value-returns-in-Ok : goal.parse_formatted_value-returns-in-Ok
parse_formatted_value-returns-in-Ok t c = let a = c.args in let O = rw c.in-Ended.is at c.read_head.ensures in let E = O.0 c.requires.room.small in let Q = rw c.in-Done.is at c.parse_spec.ensures in spec_returns a.s.now a.nested a.at.at a.fr a.k c.in-Ended.h _ _ _ _ _ _ _ E c.requires.room c.emit_field-a.ensures c.if-parts-eq0.false _ _ _ _ _ _ Q.0 c.in-Ok.close (sym c.in-Ok.is ∙ c.end_field.ensures) _ _ _ a.fields c.put_signs-in-Ok.ensures Q.1

pub parse_fstring-loop-r-init : goal.parse_fstring-loop-r-init
parse_fstring-loop-r-init t c = let a = c.args in (refl, refl, refl, begun _ a.s.now a.fr.kind a.nested a.at.at a.fr a.words.now a.text.now a.rows.now a.k a.fields c.requires.room c.requires.fields_le_count, λ e. refl)

pub parse_fstring-returns-in-Refused : goal.parse_fstring-returns-in-Refused
parse_fstring-returns-in-Refused t c = let I = c.loop-r.invariant.3.0 in let E = rw (c.in-Refused.is, readable _ _ _ _ I.room) at c.text_run.ensures in ((λ e. (to_refuse (λ l. l) _ _ _ _ _ _ _ _ _ (I.same ∙ text_refuses _ _ _ _ _ _ _ _ _ E I.pieces), tt)), (λ e m. not_halted _ _ _ _ _ _ _ _ (rw (c.loop-r.invariant.4 e) m) _ E))

pub parse_fstring-returns-in-Over : goal.parse_fstring-returns-in-Over
parse_fstring-returns-in-Over t c = let a = c.args in let I = c.loop-r.invariant.3.0 in let U = rw (c.in-Over.is, readable _ _ _ _ I.room) at c.text_run.ensures in let g = text_written _ _ _ _ _ _ _ _ _ _ _ _ I _ _ _ _ U _ _ c.end_text.ensures in ((λ e. (text_over _ _ _ _ _ _ _ _ _ _ _ _ I _ _ _ _ U _ _ g _ _ refl refl, to_sign _ _ _ _ a.fr _ _ _ (over_reads _ _ _ _ _ _ _ _ _ _ _ _ I _ _ _ _ U _ _ g _ refl refl) (text_signed a.fr I.pieces a.nested _ _ _ _ _ c.loop-r.invariant.3.1))), (λ e m. not_over _ _ _ _ _ _ _ _ (rw (c.loop-r.invariant.4 e) m) _ _ U))

pub parse_fstring-parse_formatted_value-requires : goal.parse_fstring-parse_formatted_value-requires
parse_fstring-parse_formatted_value-requires t c = let I = c.loop-r.invariant.3.0 in let U = rw (c.in-Field.is, readable _ _ _ _ I.room) at c.text_run.ensures in let q = field_asks _ _ _ _ _ _ _ _ _ _ _ _ I _ _ _ U _ _ c.end_text-a.ensures _ c.loop-r.invariant.3.2 in (omega (arith, c.decreases, q.2, q.0.low), (q.0, (omega (arith, q.3), q.1)))

pub parse_fstring-returns-in-Refused-parse_formatted_value : goal.parse_fstring-returns-in-Refused-parse_formatted_value
parse_fstring-returns-in-Refused-parse_formatted_value t c = let I = c.loop-r.invariant.3.0 in let U = rw (c.in-Field.is, readable _ _ _ _ I.room) at c.text_run.ensures in let Q = rw c.in-Refused-parse_formatted_value.is at c.parse_formatted_value.ensures in ((λ e. (field_refuses _ _ _ _ _ _ _ _ _ _ _ _ I _ _ _ U _ _ c.end_text-a.ensures _ _ _ Q.0 _ _, tt)), (λ e m. alone _ _ _ _ _ _ _ _ _ _ _ _ _ _ _ (c.loop-r.invariant.4 e) m _ _ U _ Q.0))

pub parse_fstring-returns-then-once : goal.parse_fstring-returns-then-once
parse_fstring-returns-then-once t c = let I = c.loop-r.invariant.3.0 in let U = rw (c.in-Field.is, readable _ _ _ _ I.room) at c.text_run.ensures in let Q = rw c.in-Done.is at c.parse_formatted_value.ensures in ((λ e. absurd (false≢true (sym e ∙ c.if-once.true))), (λ e m. alone _ _ _ _ _ _ _ _ _ _ _ _ _ _ _ (c.loop-r.invariant.4 e) m _ _ U _ Q.0))

pub parse_fstring-loop-r-smaller : goal.parse_fstring-loop-r-smaller
parse_fstring-loop-r-smaller t c = let I = c.loop-r.invariant.3.0 in let U = rw (c.in-Field.is, readable _ _ _ _ I.room) at c.text_run.ensures in let Q = rw c.in-Done.is at c.parse_formatted_value.ensures in let w = further _ _ _ _ _ _ _ _ _ _ _ _ I _ _ _ U _ _ c.end_text-a.ensures _ _ _ _ _ Q.0 in omega (arith, w.0, w.1)

pub parse_fstring-loop-r-preserved : goal.parse_fstring-loop-r-preserved
parse_fstring-loop-r-preserved t c = let a = c.args in let v0 = c.words-in-Field-1.given in let v1 = c.words-in-Field-2-1.given in let v2 = c.text-1.given in let v3 = c.text-in-Field-1.given in let v6 = c.rows-1.given in let v4 = c.loop-r.invariant.0 in let v5 = c.loop-r.invariant.1 in let v7 = c.loop-r.invariant.2 in let I = c.loop-r.invariant.3.0 in let U = rw (c.in-Field.is, readable _ _ _ _ I.room) at c.text_run.ensures in let Q = rw c.in-Done.is at c.parse_formatted_value.ensures in (search rules, search rules, search rules, goes_further _ _ _ _ _ _ _ _ _ _ _ _ I _ _ _ U _ _ c.end_text-a.ensures _ _ _ _ _ Q.0 _ _ _ a.fields _ c.loop-r.invariant.3.1 c.loop-r.invariant.3.2 Q.1, λ e. absurd (false≢true (sym c.if-once.false ∙ e)))

pub parse_spec-returns-then-peek : goal.parse_spec-returns-then-peek
parse_spec-returns-then-peek t c = let a = c.args in let R = c.requires.room in let Z = c.requires.nested_bound in let N = reserved_kept a.k c.reserve.result (fits _ _ _ _ R) c.reserve.ensures in let K = kept a.k c.reserve.result N.0 N.1 in let F = c.read_first-first.ensures in let g = first_written a.s.now a.nested a.at.at a.fr _ _ a.k _ _ _ _ R Z.1 K F.0 F.1 c.spec_text-a.ensures in let n = ne_eqb _ _ (λ e. c.if-peek.true (c.peek.ensures ∙ e)) in let P = specified_filled a.fr a.k _ _ _ _ (fits _ _ _ _ R) (fits _ _ _ _ (first_room a.s.now a.nested a.at.at a.fr _ _ _ _ a.k _ _ _ _ R Z.2 K F.0 F.1 F.2 g)) c.fill_spec.ensures in (spec_plain a.s.now a.nested a.at.at a.fr _ _ _ _ a.k _ _ _ _ R Z.2 K F.0 F.1 F.2 g _ Z.1 N.0 N.1 _ _ _ _ refl n P.0 P.1, to_sign _ _ _ _ a.fr _ _ a.fields (plain_reads a.s.now a.nested a.at.at a.fr _ _ _ _ a.k _ _ _ _ R Z.2 K F.0 F.1 F.2 g _ Z.1 N.0 N.1 _ refl n) (filled_signed a.fr (suc a.nested) _ _ a.fields))

pub parse_spec-overflow_add-nested : goal.parse_spec-overflow_add-nested
parse_spec-overflow_add-nested t c = let Z = c.requires.nested_bound in let z = Z.0 in search rules

pub parse_spec-parse_fstring-requires : goal.parse_spec-parse_fstring-requires
parse_spec-parse_fstring-requires t c = let a = c.args in let R = c.requires.room in let Z = c.requires.nested_bound in let N = reserved_kept a.k c.reserve.result (fits _ _ _ _ R) c.reserve.ensures in let K = kept a.k c.reserve.result N.0 N.1 in let F = c.read_first-first.ensures in let g = first_written a.s.now a.nested a.at.at a.fr _ _ a.k _ _ _ _ R Z.1 K F.0 F.1 c.spec_text-a.ensures in let lo = first_in_lem a.s.now a.at.at R.low in let q = first_room a.s.now a.nested a.at.at a.fr _ _ _ _ a.k _ _ _ _ R Z.2 K F.0 F.1 F.2 g in rw (c.frame_again.ensures, c.sink_again.ensures) (omega (arith, c.decreases, Z.0, F.0, q.low), (q, (omega (arith, Z.0), few_on a.fr (suc a.nested) _ _ _ _ _ _ _ _ _ _ _ (first_emits a.s.now a.nested a.at.at a.fr _ _ _ _ a.k _ _ _ _ R Z.2 K F.0 F.1 F.2 g) (filled_signed a.fr (suc a.nested) _ a.rows.now _) (omega (arith, K.count, c.requires.fields_le_count)))))

pub parse_spec-returns-in-Refused : goal.parse_spec-returns-in-Refused
parse_spec-returns-in-Refused t c = let a = c.args in let R = c.requires.room in let Z = c.requires.nested_bound in let N = reserved_kept a.k c.reserve.result (fits _ _ _ _ R) c.reserve.ensures in let K = kept a.k c.reserve.result N.0 N.1 in let F = c.read_first-first.ensures in let g = first_written a.s.now a.nested a.at.at a.fr _ _ a.k _ _ _ _ R Z.1 K F.0 F.1 c.spec_text-a.ensures in let Q = rw (add-one a.nested, c.frame_again.ensures, c.sink_again.ensures, c.in-Refused.is) at (c.parse_fstring.ensures.0 refl) in (spec_refused a.s.now a.nested a.at.at a.fr _ _ _ _ a.k _ _ _ _ R Z.2 K F.0 F.1 F.2 g _ Z.1 N.0 N.1 (eq-eqb _ _ (sym c.peek.ensures ∙ c.if-peek.false)) _ _ _ (refuses _ _ _ _ _ _ _ _ _ _ Q.0), tt)

pub parse_spec-returns-in-Done : goal.parse_spec-returns-in-Done
parse_spec-returns-in-Done t c = let a = c.args in let R = c.requires.room in let Z = c.requires.nested_bound in let N = reserved_kept a.k c.reserve.result (fits _ _ _ _ R) c.reserve.ensures in let K = kept a.k c.reserve.result N.0 N.1 in let F = c.read_first-first.ensures in let g = first_written a.s.now a.nested a.at.at a.fr _ _ a.k _ _ _ _ R Z.1 K F.0 F.1 c.spec_text-a.ensures in let Q = rw (add-one a.nested, c.frame_again.ensures, c.sink_again.ensures, c.in-Done.is) at (c.parse_fstring.ensures.0 refl) in braced_returns _ a.s.now a.nested a.at.at a.fr _ _ _ _ a.k _ _ _ _ R Z.2 K F.0 F.1 F.2 g Z.1 N.0 N.1 _ _ _ _ _ Q.0 (eq-eqb _ _ (sym c.peek.ensures ∙ c.if-peek.false)) _ _ c.fill_spec-in-Done.ensures _ _ a.fields Q.1
