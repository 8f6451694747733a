use Rattle.trace_lines.proofs.refuse.Goals as goal

pub returns : goal.returns
returns c = (rw c.number_of.ensures, c.fill.ensures)
