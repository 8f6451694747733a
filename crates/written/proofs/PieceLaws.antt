-- What writing at one record goes by. Assumes nothing.
use Rattle.std.specs.Prelude.{if◌then◌else◌}
use mathlib.Core.Path.{◌≡◌, refl, sym, ◌∙◌}
use mathlib.Core.Bool.{Bool}
use mathlib.Core.List.{List, [], ◌∷◌, ◌++◌}
use Prim.Native.Nat.{ℕ, zero, suc, ◌+◌, ◌-◌, ◌*◌, ◌≤◌}
use native.Mathlib.Omega.{arith}
use lib.Dec.{eqb}
use lib.ListN.{length, length-append, replicate}
use borrow.Author.Tests.{eq-eqb, ne_eqb}
use Rattle.definition.specs.Chars.{◌is◌, part}
use Rattle.definition.specs.Records.{Record}
use Rattle.definition_written.specs.Written.{Where, top, early, late, spelled_byte, spelled_text, spelled_conversion}
use Rattle.definition.proofs.Moves.CharLaws.{cases}
use Rattle.definition_laws.proofs.Moves.Moves.{part_short}
use Rattle.formed.specs.declared.Head.{Head}
use Rattle.opens.specs.Opens.{where_of}
use Rattle.written.specs.Turns.{piece_of, Holds}

byte_short : (w : Where) (b : ℕ) → length (spelled_byte w b) ≤ 4
unfolding spelled_byte
byte_short top b = cases (b is "{}\\") (λ t. rw t (omega arith)) (λ t. rw t (omega arith))
byte_short early b = omega arith
byte_short late b = cases (eqb b 92) (λ t. rw t (omega arith)) (λ t. cases (eqb b 123) (λ u. rw (t, u) (omega arith)) (λ u. cases (eqb b 125) (λ v. rw (t, u, v) (omega arith)) (λ v. rw (t, u, v) (omega arith))))

text_short : (w : Where) (t : List ℕ) → length (spelled_text w t) ≤ 4 * length t
unfolding spelled_text
text_short w [] = omega arith
text_short w (b ∷ t) = omega (arith, byte_short w b, text_short w t, length-append (spelled_byte w b) (spelled_text w t))

pub own_short : (s : List ℕ) (from size : ℕ) → length (part s from (from + size)) ≤ size
own_short s from size = omega (arith, part_short s from (from + size))

pub spelled_short : (w : Where) (s : List ℕ) (from size : ℕ) → length (spelled_text w (part s from (from + size))) ≤ 4 * size
spelled_short w s from size = omega (arith, text_short w (part s from (from + size)), own_short s from size)

pub run_length : (n : ℕ) → n ≤ 2 → length (replicate {A = ℕ} n 125) ≤ 2
run_length zero h = omega arith
run_length (suc zero) h = omega arith
run_length (suc (suc zero)) h = omega arith
run_length (suc (suc (suc n))) h = absurd (omega arith)

module _ (text : List ℕ) (before after : ℕ) (l : Bool) (h : Head) (r : Record) (H : Holds r h) where
  pub at_spec : h.kind ≡ 3 → [] ≡ piece_of text r before after l
  unfolding piece_of
  at_spec k = rw (eq-eqb r.kind 3 (sym H.kind ∙ k)) refl

  pub at_text : (n : ℕ) → n ≡ before - after → (h.kind ≡ 3 → ⊥) → h.kind ≡ 1 → replicate n 125 ++ spelled_text (where_of after l) (part text h.offset (h.offset + h.size)) ≡ piece_of text r before after l
  unfolding piece_of
  at_text n e m k = rw (ne_eqb r.kind 3 (λ z. m (H.kind ∙ z)), eq-eqb r.kind 1 (sym H.kind ∙ k), e, H.offset, H.size) refl

  pub at_field : (n : ℕ) → n ≡ before - after → (h.kind ≡ 3 → ⊥) → (h.kind ≡ 1 → ⊥)
      → replicate n 125 ++ 123 ∷ (part text h.offset (h.offset + h.size) ++ (spelled_conversion h.mode ++ (if eqb h.parts 0 then 125 else 58) ∷ [])) ≡ piece_of text r before after l
  unfolding piece_of
  at_field n e m k = rw (ne_eqb r.kind 3 (λ z. m (H.kind ∙ z)), ne_eqb r.kind 1 (λ z. k (H.kind ∙ z)), e, H.offset, H.size, H.mode, H.parts) refl
