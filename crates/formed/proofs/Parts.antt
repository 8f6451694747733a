-- A part of a text, clipped at its ends. Assumes nothing.
use mathlib.Core.Path.{◌≡◌, refl, sym}
use mathlib.Core.List.{List}
use Prim.Native.Nat.{ℕ, ◌+◌, ◌-◌, min}
use native.Mathlib.Nat.{sub_self}
use native.Mathlib.Omega.{arith}
use lib.Dec.{leb}
use lib.ListN.{length, drop_of_length-le, length-drop, drop}
use lib.Seq.{drop-length, take_all, take-nil}
use borrow.Author.Tests.{leb-true, leb-false}
use Rattle.definition.specs.Chars.{part}
use Rattle.definition.proofs.Moves.CharLaws.{cases}

-- A PART is within its text
part_clip : (s : List ℕ) (i n : ℕ) → part s i (i + n) ≡ part s (min i (length s)) (min (i + n) (length s))
part_clip s i n =
    cases (leb (length s) i)
    (λ e.
    let h = leb-true (length s) i e in
    let a : min i (length s) ≡ length s = omega arith in
    let b : min (i + n) (length s) ≡ length s = omega arith in
    rw (a, b, drop_of_length-le s h, drop-length, sub_self) (take-nil (i + n - i)))
    (λ e.
    let h = leb-false (length s) i e in
    let a : min i (length s) ≡ i = omega arith in
    rw a
    (cases (leb (length s) (i + n))
    (λ f.
    let k = leb-true (length s) (i + n) f in
    let b : min (i + n) (length s) ≡ length s = omega arith in
    let l = length-drop i s in
    rw (b, take_all (i + n - i) (drop i s) (omega arith), take_all (length s - i) (drop i s) (omega arith)) refl)
    (λ f.
    let k = leb-false (length s) (i + n) f in
    let b : min (i + n) (length s) ≡ i + n = omega arith in
    rw b refl)))

pub part_within : (s : List ℕ) (i n a b : ℕ) → a ≡ min i (length s) → b ≡ min (i + n) (length s) → part s a b ≡ part s i (i + n)
part_within s i n a b e f = rw (e, f) (sym (part_clip s i n))
