use native.Mathlib.Omega.{arith}
use mathlib.Core.Path.{refl, sym, ◌∙◌}
use Rattle.bodies.proofs.ListLaws.{fstring_body, content_of, not_read, string_refuses, string_body}
use Rattle.bodies.proofs.RowCalls.{fstring_rows, string_rows}
use Rattle.bodies.proofs.RecordLaws.{literal_written}
use Rattle.bodies.proofs.FstringLaws.{fits, readable}
use Rattle.bodies.proofs.read_body.Goals as goal

pub returns-then-is_of : goal.returns-then-is_of
returns-then-is_of c = let a = c.args in (fstring_body _ a.fr a.s.now a.words.now a.text.now c.parse_fstring.new.words c.parse_fstring.new.text a.k c.parse_fstring.result (sym c.is_of.ensures ∙ c.if-is_of.true) (c.parse_fstring.ensures.0 refl).0, fstring_rows _ a.fr a.s.now _ _ a.fields c.parse_fstring.result (sym c.is_of.ensures ∙ c.if-is_of.true) (c.parse_fstring.ensures.0 refl).1)

pub returns-in-Refused : goal.returns-in-Refused
returns-in-Refused c = let a = c.args in (string_refuses _ a.fr a.s.now _ _ _ _ _ c.in-Refused.r (sym c.is_of.ensures ∙ c.if-is_of.false) (not_read _ a.fr.kind a.s.now _ a.k.used a.text.now c.parse_string.new.text c.in-Refused.r (rw (c.in-Refused.is, readable _ _ _ _ c.requires.body_room) at c.parse_string.ensures)), tt)

pub returns-in-Done : goal.returns-in-Done
returns-in-Done c = let a = c.args in let R = c.requires.body_room in let C = content_of _ a.fr.kind a.s.now a.k.used a.text.now c.parse_string.new.text c.in-Done.used (rw (c.in-Done.is, readable _ _ _ _ R) at c.parse_string.ensures) in (string_body _ a.fr a.s.now a.words.now a.text.now c.literal.new.words c.parse_string.new.text a.k c.literal.result c.in-Done.used a.fields (sym c.is_of.ensures ∙ c.if-is_of.false) C (literal_written a.fr c.in-Done.used a.k a.words.now (fits _ _ _ _ R) (omega (arith, C.up)) (omega (arith, C.up, C.short, R.load, R.small)) 0 _ _ c.literal.ensures C.content a.text.now C.up), string_rows _ a.fr a.s.now a.rows.now a.fields _ _ _ _ (sym c.is_of.ensures ∙ c.if-is_of.false) C)
