use mathlib.Core.Path.{refl}
use borrow.Author.Tests.{eq-eqb, ne_eqb}
use Rattle.sources.proofs.Odds.{scan_here, scan_next, scan_end}
use Rattle.sources.proofs.byte_in.Goals as goal

pub loop-i-init : goal.loop-i-init
loop-i-init c = record { within = c.requires.0; same = refl }

pub returns-then-s-i : goal.returns-then-s-i
returns-then-s-i c = scan_here _ _ _ _ _ c.loop-i.invariant c.loop-i-test.true c.requires.1 (eq-eqb _ _ c.if-s-i.true)

pub loop-i-preserved : goal.loop-i-preserved
loop-i-preserved c = scan_next _ _ _ _ _ c.loop-i.invariant c.loop-i-test.true c.requires.1 (ne_eqb _ _ c.if-s-i.false)

pub returns : goal.returns
returns c = scan_end _ _ _ _ _ c.loop-i.invariant c.loop-i-test.false
