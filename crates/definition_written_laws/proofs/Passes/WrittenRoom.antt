-- Room that is always enough for the body: four bytes for each byte of text and for each record. Assumes nothing.
use Rattle.std.specs.Prelude.{if◌then◌else◌}
use mathlib.Core.Path.{◌≡◌, refl, ap}
use mathlib.Core.Bool.{Bool, true, false}
use mathlib.Core.List.{List, [], ◌∷◌, ◌++◌}
use Prim.Native.Nat.{ℕ, zero, suc, ◌+◌, ◌*◌, ◌≤◌}
use native.Mathlib.Omega.{arith}
use lib.Dec.{eqb}
use lib.ListN.{length, length-append}
use borrow.Author.Tests.{eqb-true}
use Rattle.definition.specs.Chars.{◌is◌}
use Rattle.definition.specs.Records.{Record}
use Rattle.definition.specs.Words.{gapless}
use Rattle.definition_formed.specs.Formed.{Lent, lent_answer}
use Rattle.definition_written.specs.Written.{Where, top, early, late, own_text, content, spelled_byte, spelled_text, spelled_conversion, spelled, writable}
use Rattle.definition_written.specs.Passes.{Open, opened, standing, drained, closers, took_text, took_field, shut, passed}
use Rattle.definition.proofs.Moves.CharLaws.{cases}
use Rattle.definition_laws.proofs.Moves.Cases.{and_both}
use Rattle.definition_laws.proofs.Moves.Moves.{part_short}
use Rattle.definition_written_laws.proofs.Passes.WrittenLaw.{writable_parts, written_pass}

byte_short : (w : Where) (b : ℕ) → length (spelled_byte w b) ≤ 4
unfolding spelled_byte
byte_short top b = cases (b is "{}\\") (λ t. rw t (omega arith)) (λ t. rw t (omega arith))
byte_short early b = omega arith
byte_short late b = cases (eqb b 92) (λ t. rw t (omega arith)) (λ t. cases (eqb b 123) (λ u. rw (t, u) (omega arith)) (λ u. cases (eqb b 125) (λ v. rw (t, u, v) (omega arith)) (λ v. rw (t, u, v) (omega arith))))

text_short : (w : Where) (t : List ℕ) → length (spelled_text w t) ≤ 4 * length t
unfolding spelled_text
text_short w [] = omega arith
text_short w (b ∷ t) = omega (arith, byte_short w b, text_short w t, length-append (spelled_byte w b) (spelled_text w t))

conversion_short : (c : ℕ) → length (spelled_conversion c) ≤ 2
unfolding spelled_conversion
conversion_short zero = omega arith
conversion_short (suc c) = omega arith

shut_short : (os : List Open) → length (shut os) ≡ length os
unfolding shut
shut_short [] = refl
shut_short (o ∷ os) = ap suc (shut_short os)

closers_short : (os : List Open) → length (closers os) + length (drained os) ≡ length os
unfolding closers drained
closers_short [] = refl
closers_short (o ∷ os) = go (eqb o.left 0) refl (closers_short os)
  where
    go : (t : Bool) → eqb o.left 0 ≡ t → length (closers os) + length (drained os) ≡ length os → length (closers (o ∷ os)) + length (drained (o ∷ os)) ≡ length (o ∷ os)
    go true t ih = rw (t, closers, drained) (omega arith)
    go false t ih = rw (t, closers, drained) (omega arith)

took_text_lem : (os : List Open) → length (took_text os) ≡ length os
unfolding took_text
took_text_lem [] = refl
took_text_lem (o ∷ os) = refl

took_field_lem : (os : List Open) → length (took_field os) ≡ length os
unfolding took_field
took_field_lem [] = refl
took_field_lem (o ∷ os) = refl

-- the sizes of records together
abbrev sizes : List Record → ℕ
sizes [] = 0
sizes (r ∷ rs) = r.size + sizes rs

own_short : (text : List ℕ) (r : Record) → length (own_text text r) ≤ r.size
unfolding own_text
own_short text r = omega (arith, part_short text r.offset (r.offset + r.size))

pass_short : (text : List ℕ) (os : List Open) (rs : List Record) → length (passed text os rs) ≤ 4 * sizes rs + 4 * length rs + length os
unfolding passed
pass_short text os [] = omega (arith, shut_short os)
pass_short text os (r ∷ rs) = go (eqb r.kind 3) refl (eqb r.kind 1) refl (λ os. pass_short text os rs)
  where
    t : List ℕ
    t = own_text text r

    d : List Open
    d = drained os

    Goal : Type 0
    Goal = length (passed text os (r ∷ rs)) ≤ 4 * (r.size + sizes rs) + 4 * length (r ∷ rs) + length os

    Ih : Type 0
    Ih = (os : List Open) → length (passed text os rs) ≤ 4 * sizes rs + 4 * length rs + length os

    go : (a : Bool) → eqb r.kind 3 ≡ a → (b : Bool) → eqb r.kind 1 ≡ b → Ih → Goal
    go true e b f ih = rw (e, passed) (omega (arith, ih (opened r.parts early ∷ os)))
    go false e true f ih =
        let x = passed text (took_text d) rs in
        rw (e, f, passed)
        (omega (arith, ih (took_text d), took_text_lem d, closers_short os, own_short text r, text_short (standing d) t, length-append (closers os) (spelled_text (standing d) t ++ x), length-append (spelled_text (standing d) t) x))
    go false e false f ih =
        let x = passed text (took_field d) rs in
        let y : List ℕ = (if eqb r.parts 0 then 125 else 58) ∷ x in
        rw (e, f, passed)
        (omega (arith, ih (took_field d), took_field_lem d, closers_short os, own_short text r, conversion_short r.mode, length-append (closers os) (123 ∷ (t ++ (spelled_conversion r.mode ++ y))), length-append t (spelled_conversion r.mode ++ y), length-append (spelled_conversion r.mode) y))

gapless_sizes : (n : ℕ) (rs : List Record) (size : ℕ) → gapless n rs size ≡ true → n + sizes rs ≡ size
unfolding gapless
gapless_sizes n [] size h = omega (arith, eqb-true n size h)
gapless_sizes n (r ∷ rs) size h = omega (arith, gapless_sizes (n + r.size) rs size (and_both (eqb r.offset n) (gapless (n + r.size) rs size) h).1)

-- ROOM THAT IS ENOUGH
pub room_enough : (x : Lent) → writable x ≡ true → length (spelled top (content (lent_answer x))) ≤ 4 * length (lent_answer x).text + 4 * length (lent_answer x).records
room_enough x h =
    let y = lent_answer x in
    let g = gapless_sizes 0 y.records (length y.text) (writable_parts x h).formed.no_gap in
    omega (arith, ap length (written_pass x h), pass_short y.text [] y.records)
