use mathlib.Core.List.{append_assoc}
use mathlib.Core.Path.{refl}
use Prim.Native.Nat.{◌*◌}
use native.Mathlib.Nat.{add-sub_cancel_left}
use native.Mathlib.Omega.{arith}
use lib.Seq.{drop-drop}
use borrow.Author.Rules.{rules}
use Rattle.buffers.proofs.Over.{over_inside}
use Rattle.descriptors.specs.Descriptors.{six}
use Rattle.descriptors.proofs.put.Goals as goal

pub returns : goal.returns
unfolding six
returns c =
    let at = c.args.i * 6 in
    rw (over_inside c.args.numbers.now at (six c.args.d) (omega arith), append_assoc, c.copy_from_slice.ensures.after, add-sub_cancel_left at 6, drop-drop 6 at c.args.numbers.now) refl
