use native.Mathlib.Omega.{arith}
use Prim.Native.Nat.{ℕ, ◌+◌, ◌%◌, ◌≤◌, ◌<◌}
use mathlib.Core.Path.{◌≡◌, refl, ◌∙◌}
use mathlib.Core.Bool.{false}
use lib.ListN.{set, length-set}
use Rattle.brackets.specs.Brackets.{unpacked}
use Rattle.heads.proofs.FieldLaws.{ahead, keeps, open_full, open_goes}
use Rattle.heads.proofs.open_bracket.Goals as goal

-- what was packed is whole
whole : (x c taken : ℕ) → unpacked x ≡ record { bracket = c % 256; taken = taken % 16777216 } → c < 0x80 → taken ≤ 1048576 → unpacked x ≡ record { bracket = c; taken = taken }
whole x c taken q h k =
    let e : c % 256 ≡ c = omega arith in
    let f : taken % 16777216 ≡ taken = omega arith in
    q ∙ (λ i. record { bracket = e i; taken = f i })

pub returns-then-depth-ge64 : goal.returns-then-depth-ge64
returns-then-depth-ge64 c = λ s text p. rw c.refused_at.ensures (refl, λ e. open_full p _ e c.if-depth-ge64.true)

pub returns : goal.returns
returns c =
    let a = c.args in
    let x = c.packed.result in
    λ s text p. keeps p.room (set a.places.now a.f.depth x) a.after.at (a.f.depth + 1) false (omega (arith, (ahead p.here).0)) (omega arith) (length-set a.places.now a.f.depth x)
    c.kept.ensures (λ e. open_goes p _ e x (whole x a.c a.after.at c.packed.ensures c.requires.1 c.requires.2) c.if-depth-ge64.false c.requires.0)
