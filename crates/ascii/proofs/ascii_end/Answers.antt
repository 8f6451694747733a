use native.Mathlib.Omega.{arith}
use mathlib.Core.Path.{sym, ◌∙◌}
use Rattle.ascii.proofs.Runs.{ascii_append, all_part}
use Rattle.ascii.proofs.ascii_end.Goals as goal

pub returns-then-is_ascii : goal.returns-then-is_ascii
returns-then-is_ascii c =
    let s = c.args.s.now in
    let f = c.ascii_far.ensures in
    let h = c.if-s-ge8.true in
    let e = all_part s 0 (sym c.is_ascii.ensures ∙ c.if-is_ascii.true) (omega arith) h in
    record { upto = ascii_append s 0 8 _ (record { on = omega arith; within = h; all = e }) f.upto; ends = f.ends }
