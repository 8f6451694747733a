use native.Mathlib.Omega.{arith}
use mathlib.Core.Path.{refl, sym, ◌∙◌}
use mathlib.Core.List.{[]}
use Rattle.escapes.proofs.Lent.{names_none}
use Rattle.wholes.specs.Wholes.{nothing}
use Rattle.bodies.proofs.ListLaws.{fstring_body, content_of, not_read, string_refuses, string_body}
use Rattle.bodies.proofs.RowCalls.{fstring_rows, string_rows}
use Rattle.bodies.proofs.RecordLaws.{literal_written}
use Rattle.bodies.proofs.FstringLaws.{fits, readable}
use Rattle.bodies.proofs.AloneLaws.{no_rows_lem, held_alone}
use Rattle.bodies.proofs.body_alone.Goals as goal

pub parse_fstring-requires : goal.parse_fstring-requires
parse_fstring-requires c = record { room = rw c.frame_again.ensures c.requires; nested_bound = omega arith; fields_le_count = omega arith }

pub returns-then-is_of : goal.returns-then-is_of
returns-then-is_of c =
    let a = c.args in
    let f = sym c.is_of.ensures ∙ c.if-is_of.true in
    let H = rw (names_none [] [] refl, c.frame_again.ensures) at (c.parse_fstring.ensures.0 refl) in
    let S = rw (no_rows_lem c.parse_fstring.new.rows c.parse_fstring.auto.rows) at H.1 in
    (fstring_body _ a.fr a.s.now a.words.now a.text.now c.parse_fstring.new.words c.parse_fstring.new.text nothing c.parse_fstring.result f H.0, fstring_rows _ a.fr a.s.now _ _ 0 c.parse_fstring.result f S)

pub returns-in-Refused : goal.returns-in-Refused
returns-in-Refused c =
    let a = c.args in (
      string_refuses _ a.fr a.s.now _ _ _ _ _ c.in-Refused.r (sym c.is_of.ensures ∙ c.if-is_of.false)
          (not_read _ a.fr.kind a.s.now _ 0 a.text.now c.parse_alone.new.text c.in-Refused.r (rw (c.in-Refused.is, readable _ _ _ _ c.requires) at c.parse_alone.ensures)),
      tt,
    )

pub returns-in-Done : goal.returns-in-Done
returns-in-Done c =
    let a = c.args in
    let R = c.requires in
    let to = c.in-Done.used in
    let f = sym c.is_of.ensures ∙ c.if-is_of.false in
    let C = content_of _ a.fr.kind a.s.now 0 a.text.now c.parse_alone.new.text to (rw (c.in-Done.is, readable _ _ _ _ R) at c.parse_alone.ensures) in (
      string_body _ a.fr a.s.now a.words.now a.text.now a.words.now c.parse_alone.new.text nothing c.text_alone.result to 0 f C
          (literal_written a.fr to nothing a.words.now (fits _ _ _ _ R) (omega arith) (omega (arith, C.up, C.short, R.load, R.small)) 0 _ _ (rw c.text_alone.ensures (held_alone a.fr to a.words.now)) C.content a.text.now C.up),
      string_rows _ a.fr a.s.now [] 0 _ _ _ _ f C,
    )
