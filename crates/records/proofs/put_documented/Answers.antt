use Rattle.std.proofs.Common.{refl, ap, rules, le-ltb, lt-ltb, eq-eqb}
use Rattle.records.specs.Written.{documented, documented_text, spaced, literal, written}
use Rattle.records.proofs.put_documented.Goals as goal
use Rattle.records.proofs.put_documented.Goals.{After-hold-then-nested-eq0}

-- at depth 0 both literals are held
both_held : goal.returns-then-nested-eq0
unfolding documented documented_text spaced literal
both_held c =
    rw (lt-ltb _ _ c.if-h-gt0.true, eq-eqb _ _ c.if-nested-eq0.true, ← c.plus-equal.ensures, ← c.plus-end.ensures, ← c.hold.ensures) (ap (written _) c.hold-then-nested-eq0.ensures, rw (c.add_again.ensures, c.add_spaces.ensures, c.put.ensures))

pub returns-then-nested-eq0 : goal.returns-then-nested-eq0
unfolding documented documented_text spaced
returns-then-nested-eq0 c = both_held (goal.at.returns-then-nested-eq0 c).After-hold-then-nested-eq0

pub shape_of-words-then-h-gt0 : goal.shape_of-words-then-h-gt0
unfolding documented documented_text spaced
shape_of-words-then-h-gt0 c = let a = c.words-then-h-gt0-1.given in let b = c.words-1.given in search rules

pub shape_of-text-then-h-gt0 : goal.shape_of-text-then-h-gt0
unfolding documented documented_text spaced
shape_of-text-then-h-gt0 c = let a = c.text-then-h-gt0-2-1.given in let b = c.text-then-h-gt0-1.given in let d = c.text-1.given in search rules

pub returns-then-h-gt0 : goal.returns-then-h-gt0
unfolding documented documented_text spaced
returns-then-h-gt0 c = let a = rw (c.frame_again-f.ensures, c.sink_again.ensures) at c.literal-a.ensures in let b = rw c.frame_again-f.ensures at c.literal.ensures in rw (lt-ltb _ _ c.if-h-gt0.true, ← c.plus-equal.ensures, ← c.plus-end.ensures, ← a) (b, rw (c.add_again.ensures, c.add_spaces.ensures, c.put.ensures))

pub returns : goal.returns
unfolding documented documented_text spaced
returns c = rw (le-ltb _ _ c.if-h-gt0.false) (refl, refl)
