use native.Mathlib.Omega.{arith}
use Prim.Native.Nat.{ℕ}
use lib.ListN.{length-take, length-replicate}
use Rattle.alone.proofs.Written.{puts_one, front_none, front_one, puts_short, puts_block, puts_lent}
use Rattle.alone.proofs.fstring_rows.Goals as goal

pub read_fstring-requires : goal.read_fstring-requires
read_fstring-requires c = c.requires.0

pub overflow_add-to : goal.overflow_add-to
overflow_add-to c = let e = c.in-Ok.ensures in let h = e.few in let p = c.requires.1 in omega arith

pub slice_bounds-put_rows-end : goal.slice_bounds-put_rows-end
slice_bounds-put_rows-end c = rw length-take (omega (arith, c.block-2-1.given))

pub returns-then-n-le8 : goal.returns-then-n-le8
returns-then-n-le8 c = puts_block _ _ _ _ _ _ _ (length-replicate {A = ℕ} 80 0) c.in-Ok.ensures c.if-n-le8.true c.put_rows.ensures

pub returns-then-rows-to : goal.returns-then-rows-to
returns-then-rows-to c = let e = c.in-Ok.ensures in (puts_short _ _ _ _ (omega (arith, e.counted)) c.if-rows-to.true, front_none _ _ _)

pub read_fstring-requires-in-Ok : goal.read_fstring-requires-in-Ok
read_fstring-requires-in-Ok c = c.requires.0

pub returns-in-Err : goal.returns-in-Err
returns-in-Err c =
    let R = c.in-Err.ensures in
    rw R.0 (puts_one _ _ _ _ c.put_refusal.ensures, front_one _ _ _ _ c.put_refusal.ensures)

pub returns-else-rows-to : goal.returns-else-rows-to
returns-else-rows-to c = puts_lent _ _ _ _ _ _ _ _ _ c.read_fstring-in-Ok.new.rows c.read_fstring-in-Ok.result c.in-Ok.ensures c.if-rows-to.false c.read_fstring-in-Ok.ensures
