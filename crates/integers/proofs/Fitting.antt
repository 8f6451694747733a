-- A form within the set, and what is written by any. Assumes nothing.
use mathlib.Core.Path.{◌≡◌, refl, sym, ◌∙◌}
use mathlib.Core.Bool.{Bool, true, false, ◌&&◌, not}
use mathlib.Core.List.{List}
use Prim.Native.Nat.{ℕ, ◌+◌, ◌≤◌, ◌<◌}
use native.Mathlib.Omega.{arith}
use lib.Dec.{eqb, leb}
use lib.ListN.{length}
use borrow.Author.Tests.{eq-eqb, ne_eqb, le-leb, lt-leb, leb-true, not-true}
use Rattle.definition_replay.specs.Integers.{Integer, base_of, written}
use Rattle.definition_replay_laws.proofs.Spec.SpecLaws.{both_true}
use Rattle.definition_replay_laws.proofs.Integers.WrittenLaws.{base_big}
use Rattle.buffers.specs.Over.{over}
use Rattle.buffers.proofs.Over.{over_nil}
use Rattle.forms.specs.declared.Shape.{Shape}
use Rattle.integers.specs.Written.{formed, fitting, written_in}

module _ (fill : ℕ) (f : Shape) {base : ℕ} (b : base ≡ base_of f.kind) where
  pub no_base : base ≡ 0 → false ≡ fitting fill f
  unfolding fitting
  no_base z = rw (eq-eqb (base_of f.kind) 0 (sym b ∙ z))

  module _ (n : base ≡ 0 → ⊥) where
    based : eqb (base_of f.kind) 0 ≡ false
    based = ne_eqb (base_of f.kind) 0 (λ z. n (b ∙ z))

    pub too_wide : 64 < f.width → false ≡ fitting fill f
    unfolding fitting
    too_wide h = rw (based, lt-leb f.width 64 h)

    pub by_fill : f.width ≤ 64 → leb fill 4 ≡ fitting fill f
    unfolding fitting
    by_fill h = rw (based, le-leb f.width 64 h)

module _ (fill : List ℕ) (f : Shape) {fits : Bool} (e : fits ≡ fitting (length fill) f) where
  pub unfit : not fits ≡ true → (v : Integer) (out : List ℕ) → (0 ≡ length (written_in fill f v)) × (out ≡ over out 0 (written_in fill f v))
  unfolding written_in
  unfit n v out = rw (sym e ∙ not-true fits n) (refl, sym (over_nil out 0))

  module _ (n : not fits ≡ false) where
    so : fitting (length fill) f ≡ true
    so = go fits refl n
      where
        go : (b : Bool) → fits ≡ b → not b ≡ false → fitting (length fill) f ≡ true
        go true g h = sym e ∙ g
        go false g h = sym e ∙ g ∙ sym h

    pub fit : (1 < base_of f.kind) × (f.width ≤ 64) × (length fill ≤ 4)
    unfolding fitting
    fit =
        let a = both_true (not (eqb (base_of f.kind) 0) && leb f.width 64) (leb (length fill) 4) so in
        let c = both_true (not (eqb (base_of f.kind) 0)) (leb f.width 64) a.0 in
        (base_big f.kind (not-true (eqb (base_of f.kind) 0) c.0), leb-true f.width 64 c.1, leb-true (length fill) 4 a.1)

    pub all_written : (v : Integer) (out : List ℕ) {r : ℕ} {out' : List ℕ} → (r ≡ 0 + length (written (formed fill f) v)) × (out' ≡ over out 0 (written (formed fill f) v))
        → (r ≡ length (written_in fill f v)) × (out' ≡ over out 0 (written_in fill f v))
    unfolding written_in
    all_written v out w = rw so ((let k = w.0 in omega arith), w.1)

-- within the set it is written
pub in_set : (fill : List ℕ) (f : Shape) (v : Integer) → 1 < base_of f.kind → f.width ≤ 64 → length fill ≤ 4 → written_in fill f v ≡ written (formed fill f) v
unfolding written_in fitting
in_set fill f v b w l = rw (ne_eqb (base_of f.kind) 0 (λ z. omega arith), le-leb f.width 64 w, le-leb (length fill) 4 l)
