use native.Mathlib.Omega.{arith}
use Rattle.opens.specs.Opens.{where_of}
use Rattle.written.proofs.PutLaws.{putting_starts, putting_small, putting_on, putting_ends, putting_kept}
use Rattle.written.proofs.spell.put_bytes.Goals as goal

pub loop-b-init : goal.loop-b-init
loop-b-init c = let a = c.args in putting_starts a.body.now a.used (where_of a.depth a.late) a.text.now

pub put_byte-u-requires : goal.put_byte-u-requires
put_byte-u-requires c = putting_small _ _ _ _ _ _ _ c.loop-b.invariant c.requires

pub loop-b-preserved : goal.loop-b-preserved
loop-b-preserved c = putting_on _ _ _ _ _ _ _ c.loop-b.invariant c.loop-b-test.true _ _ c.put_byte-u.ensures

pub shape_of-body : goal.shape_of-body
shape_of-body c = putting_kept _ _ _ _ _ _ _ c.loop-b.invariant

pub returns : goal.returns
returns c = putting_ends _ _ _ _ _ _ _ c.loop-b.invariant (omega (arith, c.loop-b-test.false))
