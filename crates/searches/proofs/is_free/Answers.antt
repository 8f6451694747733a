use Rattle.std.specs.Prelude.{if◌then◌else◌}
use borrow.Author.Tests.{eqb-true, eq-eqb}
use native.Mathlib.Omega.{arith}
use mathlib.Core.Path.{◌≡◌, refl, ◌∙◌, ap}
use Prim.Native.Nat.{ℕ, ◌+◌, ◌<◌}
use mathlib.Core.List.{List}
use lib.Dec.{eqb}
use lib.ListN.{length, get_or}
use Rattle.definition.proofs.Moves.CharLaws.{before_next}
use Rattle.searches.specs.Firsts.{one_of, first_of}
use Rattle.searches.proofs.Threes.{is_none}
use Rattle.searches.proofs.is_free.Goals as goal

-- a byte that sets no mark is another one
unlike : (x y mark : ℕ) → mark ≡ (if eqb x y then 1 else 0) → mark ≡ 0 → x ≡ y → ⊥
unlike x y mark e z h = omega (arith, rw (eq-eqb x y h) at e)

-- where none is set, the byte is passed
passes : (a b c i x y z : ℕ) (s : List ℕ) → i < length s → x ≡ (if eqb (get_or s i 0) a then 1 else 0) → y ≡ (if eqb (get_or s i 0) b then 1 else 0) → z ≡ (if eqb (get_or s i 0) c then 1 else 0) → x ≡ 0 → y ≡ 0 → z ≡ 0 → first_of a b c s i ≡ first_of a b c s (i + 1)
passes a b c i x y z s l e f g p q r =
    let k = get_or s i 0 in before_next (one_of a b c) s i 0 l (is_none a b c k (unlike k a x e p) (unlike k b y f q) (unlike k c z g r))

pub loop-i-init : goal.loop-i-init
loop-i-init c = (c.requires.0, λ p q r. refl)

pub loop-i-preserved : goal.loop-i-preserved
loop-i-preserved c =
    let t = c.loop-i-test.true in
    let x = c.max-first.ensures in
    let y = c.max-second.ensures in
    let z = c.max-third.ensures in (
      omega (arith, t),
      λ p q r.
          c.loop-i.invariant.1 (omega (arith, x, p)) (omega (arith, y, q)) (omega (arith, z, r))
          ∙ passes _ _ _ _ _ _ _ _ (omega (arith, t, c.requires.1))
          c.is_byte.ensures c.is_byte-in-loop-i.ensures c.is_byte-in-loop-i-2.ensures
          (omega (arith, x, p)) (omega (arith, y, q)) (omega (arith, z, r)),
    )

pub returns : goal.returns
returns c =
    λ e. let a = c.args in
    let g = c.max-2.ensures in
    let f = c.max.ensures in
    let z = eqb-true c.max-2.result 0 e in
    let h : c.loop-i.i ≡ a.to = omega (arith, c.loop-i.invariant.0, c.loop-i-test.false) in
    c.loop-i.invariant.1 (omega (arith, g, f, z)) (omega (arith, g, f, z)) (omega (arith, g, f, z)) ∙ ap (first_of a.a a.b a.c a.s.now) h
