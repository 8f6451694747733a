use native.Mathlib.Omega.{arith}
use Prim.Native.Nat.{ℕ}
use mathlib.Core.Path.{ap}
use Rattle.heads.proofs.FieldLaws.{length_part}
use Rattle.heads.proofs.skip.Goals as goal

pub returns : goal.returns
returns c =
    let a = c.args in
    (ap (λ (n : ℕ). record { at = a.to; run = a.to; used = n; depth = a.f.depth; spaces = a.f.spaces; equals = a.f.equals; bang = a.f.bang; conversion = a.f.conversion; blank = a.f.blank }) (omega (arith, length_part a.s.now a.f.run a.f.at c.requires.1)), c.add_run.ensures)
