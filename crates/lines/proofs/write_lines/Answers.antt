use borrow.Author.Rules.{rules}
use native.Mathlib.Omega.{arith}
use mathlib.Core.Path.{◌≡◌}
use Prim.Native.Nat.{◌+◌, ◌*◌}
use Rattle.objects.proofs.Texts.{nothing, and_then}
use Rattle.lines.specs.Written.{place_lines}
use Rattle.lines.proofs.Places.{place_put, place_fits, one_more_lem}
use Rattle.lines.proofs.write_lines.Goals as goal

pub loop-i-init : goal.loop-i-init
unfolding place_lines
loop-i-init c = (search rules, nothing _ _)

pub overflow_cast-from : goal.overflow_cast-from
unfolding place_lines
overflow_cast-from c = omega (arith, c.type_inv.words (c.loop-i.i * 8 + 1))

pub overflow_cast-to : goal.overflow_cast-to
unfolding place_lines
overflow_cast-to c = omega (arith, c.type_inv.words (c.loop-i.i * 8 + 2))

pub overflow_add-to-in-loop-i : goal.overflow_add-to-in-loop-i
unfolding place_lines
overflow_add-to-in-loop-i c = omega (arith, c.requires.0.inside c.loop-i.i c.loop-i-test.true)

pub slice_bounds-put_line-start-in-loop-i : goal.slice_bounds-put_line-start-in-loop-i
unfolding place_lines
slice_bounds-put_line-start-in-loop-i c = omega (arith, c.requires.0.inside c.loop-i.i c.loop-i-test.true)

pub slice_bounds-put_line-end-in-loop-i : goal.slice_bounds-put_line-end-in-loop-i
unfolding place_lines
slice_bounds-put_line-end-in-loop-i c = omega (arith, c.requires.0.inside c.loop-i.i c.loop-i-test.true)

pub overflow_add-used : goal.overflow_add-used
unfolding place_lines
overflow_add-used c = let w = c.type_inv.words (c.loop-i.i * 8 + 2) in omega (arith, (place_put c.args.words.now c.args.text.now c.loop-i.i c.loop-i.out c.loop-i.used c.min-lent.result (omega arith) (search rules) c.put_line-used.ensures).up, place_fits c.args.words.now c.args.text.now c.args.count c.loop-i.i c.requires.1 c.loop-i-test.true c.loop-i.invariant.1)

pub loop-i-preserved : goal.loop-i-preserved
unfolding place_lines
loop-i-preserved c = ((let l = c.loop-i.invariant.0 in search rules), rw (one_more_lem c.args.words.now c.args.text.now c.loop-i.i) (and_then c.loop-i.invariant.1 (place_put c.args.words.now c.args.text.now c.loop-i.i _ c.loop-i.used c.min-lent.result (let w = c.type_inv.words (c.loop-i.i * 8 + 2) in omega arith) (search rules) c.put_line-used.ensures)))

pub shape_of-out : goal.shape_of-out
unfolding place_lines
shape_of-out c = c.loop-i.invariant.0

pub returns : goal.returns
unfolding place_lines
returns c = let e : c.loop-i.i ≡ c.args.count = omega arith in rw e at c.loop-i.invariant.1
