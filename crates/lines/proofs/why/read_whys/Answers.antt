use borrow.Author.Rules.{rules}
use native.Mathlib.Omega.{arith}
use mathlib.Core.Path.{sym}
use lib.Seq.{length-take-le}
use Rattle.objects.proofs.Short.{refusal_short}
use Rattle.lines.proofs.Places.{all_front}
use Rattle.lines.proofs.WhyLaws.{Told, explains, refused_whys, accepted_whys}
use Rattle.lines.proofs.why.read_whys.Goals as goal
use Rattle.lines.proofs.why.read_whys.Goals.{After-slice_known-in-Accepted-1}

-- what an accepted body leaves
told : (c : After-slice_known-in-Accepted-1) → Told c.args.body.now c.parse_strings.new.words c.parse_strings.new.text c.parse_signs.new.rows c.in-Accepted.x
told c =
    let a = c.args in
    accepted_whys a.body.now a.words.now a.text.now a.rows.now c.parse_strings.new.words c.parse_strings.new.text c.parse_signs.new.rows c.requires.0 c.requires.1 c.in-Accepted.x c.parse_signs.result
    c.parse_strings.auto.words c.parse_strings.auto.text c.parse_signs.auto.rows (λ i. (c.type_inv.rows i).fits) (rw c.in-Accepted.is at c.parse_strings.ensures) c.parse_signs.ensures

pub slice_bounds-write_whys-end : goal.slice_bounds-write_whys-end
slice_bounds-write_whys-end c = (told (goal.at.slice_bounds-write_whys-end c).After-slice_known-in-Accepted-1).within

pub slice_bounds-write_whys-end-in-Accepted : goal.slice_bounds-write_whys-end-in-Accepted
slice_bounds-write_whys-end-in-Accepted c = sym (length-take-le _ _ (told (goal.at.slice_bounds-write_whys-end-in-Accepted c).After-slice_known-in-Accepted-1).within)

pub write_whys-requires : goal.write_whys-requires
write_whys-requires c = let h = (told (goal.at.write_whys-requires c).After-slice_known-in-Accepted-1) in (h.lie, omega (arith, h.few), rw h.lines (omega (arith, h.short)))

pub returns-in-Refused : goal.returns-in-Refused
returns-in-Refused c = let a = c.args in let r = c.in-Refused.r in explains (refused_whys a.body.now a.words.now a.text.now a.rows.now _ _ a.rows.now c.requires.0 c.requires.1 r (rw c.in-Refused.is at c.parse_strings.ensures)) (omega (arith, refusal_short r.number r.place r.a r.b (search rules) (search rules) (search rules) (search rules))) (all_front c.put_refusal.ensures)

pub returns-in-Accepted : goal.returns-in-Accepted
returns-in-Accepted c = let h = (told (goal.at.returns-in-Accepted c).After-slice_known-in-Accepted-1) in explains h.lines (rw h.lines h.short) c.write_whys.ensures
