use Rattle.trace_lines.proofs.write_rows.Goals as goal

pub write_lines-requires : goal.write_lines-requires
write_lines-requires c = (c.hold_steps-steps.ensures, c.requires.0, c.requires.1)

pub returns : goal.returns
returns c = c.write_lines.ensures
