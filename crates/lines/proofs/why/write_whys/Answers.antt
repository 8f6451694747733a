use native.Mathlib.Omega.{arith}
use mathlib.Core.Path.{◌≡◌, refl, sym, ◌∙◌}
use Rattle.objects.proofs.Texts.{nothing, and_then}
use Rattle.lines.proofs.WhyLaws.{why_fits, why_more, fields_more, fields_none, fields_small, whys_none}
use Rattle.lines.proofs.why.write_whys.Goals as goal

pub loop-i-init : goal.loop-i-init
loop-i-init c = (refl, sym (fields_none _), rw (whys_none _ _ _) (nothing _ _))

pub write_place-so-requires : goal.write_place-so-requires
write_place-so-requires c = let f = c.loop-i.invariant.1 in (rw (← f) at (c.requires.0 c.loop-i.i c.loop-i-test.true), omega (arith, c.loop-i-test.true, c.requires.1), omega (arith, f, fields_small c.args.words.now c.loop-i.i, c.loop-i-test.true, c.requires.1), rw (← f) at (why_fits c.args.words.now c.args.text.now c.args.rows.now c.args.count c.loop-i.i c.requires.2 c.loop-i-test.true c.loop-i.invariant.2))

pub loop-i-preserved : goal.loop-i-preserved
loop-i-preserved c = let f = c.loop-i.invariant.1 in (c.write_place-so.auto.out ∙ c.loop-i.invariant.0, c.write_place-so.ensures.1 ∙ rw (f) (sym (fields_more c.args.words.now c.loop-i.i)), rw (why_more c.args.words.now c.args.text.now c.args.rows.now c.loop-i.i, ← f) (and_then c.loop-i.invariant.2 c.write_place-so.ensures.0))

pub returns : goal.returns
returns c = let e : c.loop-i.i ≡ c.args.count = omega arith in rw e at c.loop-i.invariant.2
