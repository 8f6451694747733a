use mathlib.Core.Path.{◌≡◌, sym, ap, ◌∙◌}
use native.Mathlib.Omega.{arith}
use lib.ListN.{length}
use lib.Seq.{length-take-le}
use Rattle.buffers.proofs.Over.{over_front}
use Rattle.buffers.proofs.put_front.Goals as goal

pub returns-then-words : goal.returns-then-words
returns-then-words g c =
    let group = c.args.group in
    let written = c.copy_from_slice.ensures in
    let long : length group ≡ g.row.N = ap length (sym written.after) ∙ written.len ∙ length-take-le _ _ c.if-words.true in
    rw (written.after, over_front c.args.words.now group (omega arith), long)
