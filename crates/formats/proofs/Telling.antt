-- What is told of a text, and an integer written by it. Assumes nothing.
use Rattle.std.specs.Prelude.{if◌then◌else◌, Ok, Err}
use mathlib.Core.Path.{◌≡◌, refl, sym, ◌∙◌, ap}
use mathlib.Core.Bool.{Bool, true, false, ◌&&◌, ◌||◌, not}
use mathlib.Core.List.{List, [], ◌∷◌}
use Prim.Native.Nat.{ℕ, zero, suc, ◌≤◌, ◌<◌, min}
use native.Mathlib.Omega.{arith}
use lib.Dec.{eqb}
use lib.ListN.{length, take, length-take}
use borrow.Author.Tests.{ne_eqb, eq-eqb}
use Rattle.definition.specs.Chars.{◌is◌}
use Rattle.definition_replay.specs.Spec.{nothing, parts_of, rounds}
use Rattle.definition_replay.specs.SpecNumbers.{told_of, flag_of, spec_numbers}
use Rattle.definition_replay.specs.Integers.{Integer}
use Rattle.buffers.specs.Over.{over}
use Rattle.definition.proofs.Moves.CharLaws.{cases}
use Rattle.forms.specs.declared.Shape.{Shape}
use Rattle.integers.specs.Written.{integer, fitting, written_in}
use Rattle.integers.proofs.Joined.{written_short}
use Rattle.integers.proofs.Fitting.{fit, in_set}
use Rattle.formats.specs.declared.Parts.{Parts}
use Rattle.formats.specs.declared.Form.{Form as Answer}
use Rattle.formats.specs.declared.FormError.{FormError}
use Rattle.formats.specs.Parts.{PartsIs, FormIs, fill_of, rounds_from, written_with, written_part, written_by}
use Rattle.formats.proofs.Forms.{spec_none, spec_some}

-- ROUNDING
module _ (kind precision : ℕ) {float : Bool} (f : float ≡ (kind is "eEfFgGn%")) where
  pub rounds_float : float ≡ true → 1 ≡ rounds_from kind precision
  unfolding rounds_from
  rounds_float e = rw (sym f ∙ e)

  module _ (n : float ≡ false) where
    pub rounds_other : (kind ≡ 0 → ⊥) → 0 ≡ rounds_from kind precision
    unfolding rounds_from
    rounds_other k = rw (sym f ∙ n, ne_eqb kind 0 k)

    pub rounds_plain : kind ≡ 0 → precision ≡ 0 → 0 ≡ rounds_from kind precision
    unfolding rounds_from
    rounds_plain k p = rw (sym f ∙ n, eq-eqb kind 0 k, eq-eqb precision 0 p)

    pub rounds_exact : kind ≡ 0 → (precision ≡ 0 → ⊥) → 1 ≡ rounds_from kind precision
    unfolding rounds_from
    rounds_exact k p = rw (sym f ∙ n, eq-eqb kind 0 k, ne_eqb precision 0 p)

told_zero : (ds : List ℕ) (told : ℕ) → told ≡ told_of ds → eqb told 0 ≡ nothing ds
unfolding nothing told_of
told_zero [] told t = eq-eqb told 0 t
told_zero (d ∷ ds) told t = ne_eqb told 0 (λ e. omega arith)

-- THE NUMBERS
module _ (s : List ℕ) {p : Parts} (x : PartsIs s p) where
  rounds_is : rounds_from p.kind p.precision ≡ (if rounds (parts_of s) then 1 else 0)
  unfolding rounds_from rounds
  rounds_is = λ i. if x.kind i is "eEfFgGn%" || eqb (x.kind i) 0 && not (told_zero (parts_of s).precision p.precision x.precision i) then 1 else 0

  pub told_refused : {n : ℕ} → p.end < length s → n ≡ 68 → n ∷ 0 ∷ 0 ∷ 0 ∷ 0 ∷ 0 ∷ 0 ∷ 0 ∷ 0 ∷ 0 ∷ 0 ∷ 0 ∷ [] ≡ spec_numbers s
  unfolding spec_numbers
  told_refused h e = rw (e, spec_none s x h, spec_numbers)

  pub told_parts : {align sign z alternate nought grouping kind rounded : ℕ} → length s ≤ p.end → align ≡ p.align → sign ≡ p.sign → z ≡ flag_of p.z → alternate ≡ flag_of p.alternate
      → nought ≡ flag_of p.nought → grouping ≡ p.grouping → kind ≡ p.kind → rounded ≡ rounds_from p.kind p.precision
      → 0 ∷ p.code ∷ align ∷ sign ∷ z ∷ alternate ∷ nought ∷ p.width ∷ grouping ∷ p.precision ∷ kind ∷ rounded ∷ [] ≡ spec_numbers s
  unfolding spec_numbers
  told_parts h al si z a n g k r =
      (λ i.
      0
      ∷ x.code i
      ∷ (al ∙ x.align) i
      ∷ (si ∙ x.sign) i
      ∷ (z ∙ ap flag_of x.z) i
      ∷ (a ∙ ap flag_of x.alternate) i
      ∷ (n ∙ ap flag_of x.nought) i
      ∷ x.width i
      ∷ (g ∙ x.grouping) i
      ∷ x.precision i
      ∷ (k ∙ x.kind) i
      ∷ (r ∙ rounds_is) i
      ∷ [])
      ∙ rw (spec_some s x h, spec_numbers)

-- WRITTEN BY A FORM
front_same : (n : ℕ) (s : List ℕ) {k : ℕ} → k ≡ min n (length s) → take k s ≡ take n s
front_same n s e = ap (λ m. take m s) e ∙ take_min n s
  where
    take_min : (n : ℕ) (s : List ℕ) → take (min n (length s)) s ≡ take n s
    take_min zero s = let e : min 0 (length s) ≡ 0 = omega arith in ap (λ m. take m s) e
    take_min (suc n) [] = let e : min (suc n) 0 ≡ 0 = omega arith in ap (λ m. take m []) e
    take_min (suc n) (b ∷ s) = let e : min (suc n) (suc (length s)) ≡ suc (min n (length s)) = omega arith in ap (λ m. take m (b ∷ s)) e ∙ ap (λ t. b ∷ t) (take_min n s)

-- never more than this
written_most : (fill : List ℕ) (f : Shape) (negative : Bool) (size : ℕ) → size < 0x100000000 → length (written_in fill f (integer negative size)) ≤ 325
unfolding written_in
written_most fill f negative size small =
    cases (fitting (length fill) f)
    (λ e. let k = fit fill f (sym e) refl in let l = written_short fill f negative size k.0 k.1 k.2 small in rw e l)
    (λ e. rw e (omega arith))

module _ (s : List ℕ) (r : Answer) (negative : Bool) (size : ℕ) where
  abbrev v : Integer
  v = integer negative size

  abbrev As : (out : List ℕ) (result : ℕ) (now : List ℕ) → Type 0
  As out result now = (result ≡ length (written_with s r v)) × (now ≡ over out 0 (written_with s r v)) × (result ≤ 325)

  module _ (small : size < 0x100000000) (out : List ℕ) {result : ℕ} {now : List ℕ} where
    by : (fill : List ℕ) → fill ≡ fill_of s r → (result ≡ length (written_in fill r.shape v)) × (now ≡ over out 0 (written_in fill r.shape v)) → As out result now
    unfolding written_with
    by fill f w =
        let g : written_in fill r.shape v ≡ written_with s r v = ap (λ t. written_in t r.shape v) f in
        let l = written_most fill r.shape negative size small in
        let k = w.0 in
        (w.0 ∙ ap length g, w.1 ∙ ap (over out 0) g, omega arith)

    pub as_pad : r.fill ≡ 0 → (result ≡ length (written_in (r.pad ∷ []) r.shape v)) × (now ≡ over out 0 (written_in (r.pad ∷ []) r.shape v)) → As out result now
    as_pad f w = by (r.pad ∷ []) (ap (λ b. if b then r.pad ∷ [] else take r.fill s) (sym (eq-eqb r.fill 0 f))) w

    pub as_fill : (r.fill ≡ 0 → ⊥) → {fill : ℕ} → fill ≡ min r.fill (length s)
        → (result ≡ length (written_in (take fill s) r.shape v)) × (now ≡ over out 0 (written_in (take fill s) r.shape v)) → As out result now
    as_fill f {fill} m w = by (take fill s) (front_same r.fill s m ∙ ap (λ b. if b then r.pad ∷ [] else take r.fill s) (sym (ne_eqb r.fill 0 f))) w

  -- it is the text's
  pub written_by_lem : FormIs s (Ok r) → written_with s r v ≡ written_by s v
  unfolding written_with written_by written_part
  written_by_lem x =
      let i = x.form in
      let l : length (fill_of s r) ≤ 4 = cases (eqb r.fill 0) (λ f. rw f (omega arith)) (λ f. let k = length-take r.fill s in let m = i.short in rw f (omega arith)) in
      in_set (fill_of s r) r.shape v i.base i.width l ∙ ap (λ m. written_part m v) (x.told 0)

-- nothing is written by a text that has no form
pub written_none : (s : List ℕ) {e : FormError} (v : Integer) → FormIs s (Err e) → [] ≡ written_by s v
unfolding written_by written_part
written_none s v x = ap (λ m. written_part m v) (x.told 0)
