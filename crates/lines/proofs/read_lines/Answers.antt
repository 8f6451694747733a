use borrow.Author.Rules.{rules}
use native.Mathlib.Omega.{arith}
use mathlib.Core.Path.{sym}
use lib.Seq.{length-take-le}
use Rattle.objects.proofs.Short.{refusal_short}
use Rattle.lines.proofs.Places.{all_front}
use Rattle.lines.proofs.Answers.{Shows, lists, refused_lines, accepted_shows}
use Rattle.lines.proofs.read_lines.Goals as goal
use Rattle.lines.proofs.read_lines.Goals.{In-Accepted}

-- what an accepted body leaves
shown : (c : In-Accepted) → Shows c.args.body.now c.parse_strings.new.words c.parse_strings.new.text c.in-Accepted.x
shown c =
    let a = c.args in
    accepted_shows a.body.now a.words.now a.text.now _ _ c.requires c.in-Accepted.x c.parse_strings.auto.words c.parse_strings.auto.text (λ i. (c.type_inv.words i).fits) (rw c.in-Accepted.is at c.parse_strings.ensures)

pub slice_bounds-write_lines-end : goal.slice_bounds-write_lines-end
slice_bounds-write_lines-end c = (shown (goal.at.slice_bounds-write_lines-end c).In-Accepted).within

pub slice_bounds-write_lines-end-in-Accepted : goal.slice_bounds-write_lines-end-in-Accepted
slice_bounds-write_lines-end-in-Accepted c = sym (length-take-le _ _ (shown (goal.at.slice_bounds-write_lines-end-in-Accepted c).In-Accepted).within)

pub write_lines-requires : goal.write_lines-requires
write_lines-requires c = let h = shown (goal.at.write_lines-requires c).In-Accepted in (h.lie, rw h.lines (omega (arith, h.short)))

pub returns-in-Refused : goal.returns-in-Refused
returns-in-Refused c =
    let a = c.args in
    let r = c.in-Refused.r in
    lists (refused_lines a.body.now a.words.now a.text.now _ _ c.requires r (rw c.in-Refused.is at c.parse_strings.ensures))
    (omega (arith, refusal_short r.number r.place r.a r.b (search rules) (search rules) (search rules) (search rules)))
    (all_front c.put_refusal.ensures)

pub returns-in-Accepted : goal.returns-in-Accepted
returns-in-Accepted c = let h = shown (goal.at.returns-in-Accepted c).In-Accepted in lists h.lines (rw h.lines h.short) c.write_lines.ensures
