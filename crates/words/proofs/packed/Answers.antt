use Rattle.std.proofs.Common.{arith, ◌-◌}
use Rattle.words.proofs.Packing.{none_packed, packed_fits, packed_back, whole_packed}
use Rattle.words.proofs.packed.Goals as goal

pub loop-i-init : goal.loop-i-init
loop-i-init c = let p = none_packed c.args.s.now c.args.end in (c.requires.0, p.0, p.1)

pub overflow_mul-n : goal.overflow_mul-n
overflow_mul-n c = let l = c.loop-i in let p = c.requires.1 in omega (arith, packed_fits c.args.s.now l.i c.args.end l.n l.invariant.1 l.invariant.2 (omega arith))

pub overflow_add-n : goal.overflow_add-n
overflow_add-n c = let l = c.loop-i in let p = c.requires.1 in omega (arith, packed_fits c.args.s.now l.i c.args.end l.n l.invariant.1 l.invariant.2 (omega arith))

pub loop-i-preserved : goal.loop-i-preserved
loop-i-preserved c = let l = c.loop-i in let p = packed_back c.args.s.now l.i c.args.end l.n (omega arith) l.auto.i c.requires.2 l.invariant.1 l.invariant.2 (c.type_inv.s (l.i - 1)).fits in (omega arith, rw c.from.ensures p.0, p.1)

pub returns : goal.returns
returns c = let p = whole_packed _ _ _ _ _ c.loop-i.invariant.0 c.loop-i-test.false (c.loop-i.invariant.1, c.loop-i.invariant.2) in (p.0, p.1)
