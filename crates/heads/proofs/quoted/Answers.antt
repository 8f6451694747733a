use native.Mathlib.Omega.{arith}
use Prim.Native.Nat.{◌+◌}
use mathlib.Core.Path.{refl}
use mathlib.Core.Bool.{false}
use Rattle.heads.proofs.FieldLaws.{ahead, keeps, quote_open, quote_goes}
use Rattle.heads.proofs.quoted.Goals as goal

pub returns-then-n-close : goal.returns-then-n-close
returns-then-n-close c = λ places text. rw c.refused_at.ensures (refl, λ e. quote_open c.requires places e _ c.run_end-close.ensures c.if-n-close.true)

pub returns : goal.returns
returns c =
    let p = c.requires in
    let past = (ahead p.here).0 in
    λ places text. keeps p.room places (c.run_end-close.result + 1) _ false (omega arith) p.room.deep refl c.kept.ensures (λ e. quote_goes p places e c.run_end-close.result c.run_end-close.ensures c.if-n-close.false)
