use borrow.Author.Rules.{rules}
use native.Mathlib.Omega.{arith}
use mathlib.Core.Path.{refl}
use Rattle.heads.proofs.FieldLoop.{start, room, on, less, refuses, formats, closes, past, further_on}
use Rattle.heads.proofs.head_from.Goals as goal

pub loop-g-init : goal.loop-g-init
loop-g-init c = (refl, start _ _ _ _ _ refl)

pub read_turn-requires : goal.read_turn-requires
read_turn-requires c = let h = past _ _ _ _ _ _ c.requires.0 c.requires.1 c.loop-g.f c.pass-here.result c.loop-g.invariant.1 c.pass-here.ensures in (room h c.requires.0 c.requires.1, h.full)

pub loop-g-smaller : goal.loop-g-smaller
loop-g-smaller c =
    let h = past _ _ _ _ _ _ c.requires.0 c.requires.1 c.loop-g.f c.pass-here.result c.loop-g.invariant.1 c.pass-here.ensures in
    let l = less h (rw c.in-On.is at c.read_turn.ensures) in
    omega (arith, further_on _ _ _ c.pass-here.ensures)

pub loop-g-preserved : goal.loop-g-preserved
loop-g-preserved c = let h = past _ _ _ _ _ _ c.requires.0 c.requires.1 c.loop-g.f c.pass-here.result c.loop-g.invariant.1 c.pass-here.ensures in (search rules, on h (rw c.in-On.is at c.read_turn.ensures))

pub returns-in-Formats : goal.returns-in-Formats
returns-in-Formats c = let h = past _ _ _ _ _ _ c.requires.0 c.requires.1 c.loop-g.f c.pass-here.result c.loop-g.invariant.1 c.pass-here.ensures in formats h (rw c.in-Formats.is at c.read_turn.ensures)

pub returns-in-Closes : goal.returns-in-Closes
returns-in-Closes c = let h = past _ _ _ _ _ _ c.requires.0 c.requires.1 c.loop-g.f c.pass-here.result c.loop-g.invariant.1 c.pass-here.ensures in rw c.closed.ensures (closes h (rw c.in-Closes.is at c.read_turn.ensures))

pub returns-in-Refused : goal.returns-in-Refused
returns-in-Refused c = let h = past _ _ _ _ _ _ c.requires.0 c.requires.1 c.loop-g.f c.pass-here.result c.loop-g.invariant.1 c.pass-here.ensures in refuses h _ _ (rw c.in-Refused.is at c.read_turn.ensures)
