use Rattle.plain.proofs.Runs.{end_in}
use Rattle.texts.proofs.plain_text.Goals as goal

pub add_part-length-requires : goal.add_part-length-requires
add_part-length-requires c =
    let p = c.requires in
    let a = c.args in
    let h = end_in a.kind a.s.now a.from.at p.0 in
    rw c.plain_end-at.ensures (h.0, h.1, p.1)
