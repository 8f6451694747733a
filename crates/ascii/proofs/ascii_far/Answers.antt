use native.Mathlib.Omega.{arith}
use mathlib.Core.Path.{sym, ◌∙◌}
use Prim.Native.Nat.{◌-◌}
use borrow.Author.Tests.{ltb-true}
use lib.ListN.{length}
use Rattle.ascii.proofs.Runs.{ascii_append, ascii_on, all_part}
use Rattle.ascii.proofs.ascii_far.Goals as goal
use Rattle.ascii.proofs.ascii_far.Goals.{then-j-n-via-then-j-n, then-j-n-via-else-j-n+then-is_ascii, then-n-j-lt8, else-n-j-lt8}

pub returns-then-j-n : goal.returns-then-j-n
returns-then-j-n c =
    let s = c.args.s.now in
    let p = c.ascii_blocks-i.ensures in
    let q = c.ascii_blocks-j.ensures in
    let upto = ascii_append _ _ _ _ p q in
    elim c.then-j-n.branch [
      | then-j-n-via-then-j-n w ↦ record { upto = rw w.if-j-n.true at upto; ends = λ h. absurd (omega arith) }
      | then-j-n-via-else-j-n+then-is_ascii w ↦ elim w.if-n-j-lt8.branch [
        | then-n-j-lt8 v ↦
            let near = v.if-n-j-lt8.true in
            let last = all_part s (length s - 8) (sym v.is_ascii.ensures ∙ sym v.value-is ∙ w.if-is_ascii.true) (omega arith) (omega arith) in
            record { upto = ascii_on _ _ _ _ upto (λ k h l. last k (omega arith) (omega arith)) q.within (omega arith); ends = λ h. absurd (omega arith) }
        | else-n-j-lt8 v ↦ let t = ltb-true _ _ (sym v.value-is ∙ w.if-is_ascii.true) in absurd (omega arith)
      ]
    ]
