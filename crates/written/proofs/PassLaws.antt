-- What one record does to the open specs. Assumes nothing.
use mathlib.Core.Path.{◌≡◌, refl, sym, ◌∙◌, ap, ap₂}
use mathlib.Core.Bool.{true, false, ◌&&◌}
use mathlib.Core.List.{List, ◌∷◌, ◌++◌}
use Prim.Native.Nat.{ℕ, ◌+◌, ◌≤◌, ◌<◌}
use native.Mathlib.Omega.{arith}
use lib.Dec.{ltb}
use lib.ListN.{length}
use borrow.Author.Tests.{eq-eqb, ne_eqb, ltb-true}
use Rattle.definition.specs.Chars.{part}
use Rattle.definition.specs.Records.{Record}
use Rattle.definition_written.specs.Written.{early, own_text}
use Rattle.definition_written.specs.ReadsBack.{text_reads, field_reads}
use Rattle.definition.proofs.Moves.CharLaws.{cases, no}
use Rattle.definition_written.specs.Passes.{opened, standing, drained, took_text, took_field, passed, found}
use Rattle.opens.specs.declared.Opens.{Opens}
use Rattle.opens.specs.Opens.{where_of, os_of}
use Rattle.opens.proofs.OpenLaws.{standing_of, length_of, field_reads_lem}
use Rattle.std.specs.Prelude.{None}
use Rattle.written.specs.Turns.{piece_of, Turns, TurnsTo}

-- ONE RECORD
module _ (text : List ℕ) (o : Opens) (r : Record) where
  abbrev pub Wrote : Opens → Type 0
  Wrote p = (rs : List Record) → passed text (os_of o) (r ∷ rs) ≡ piece_of text r o.depth p.depth p.late ++ passed text (os_of p) rs

  pub turn_spec : (p : Opens) → r.kind ≡ 3 → os_of p ≡ opened r.parts early ∷ os_of o → p.depth ≤ 2 → Wrote p → Turns text o r p
  unfolding found
  turn_spec p k e h wr = record { deep = omega arith; wrote = wr; on = λ rs. rw (eq-eqb r.kind 3 k, found) (ap (λ os. found text os rs) (sym e)); due = λ f. absurd (omega arith) }

  module _ (n : r.kind ≡ 3 → ⊥) (d : Opens) (dr : os_of d ≡ drained (os_of o)) where
    text_found : r.kind ≡ 1 → (rs : List Record)
        → found text (os_of o) (r ∷ rs) ≡ (text_reads (where_of d.depth d.late) (part text r.offset (r.offset + r.size)) && found text (took_text (os_of d)) rs)
    unfolding found own_text
    text_found k rs =
        rw (ne_eqb r.kind 3 n, eq-eqb r.kind 1 k, found)
        (ap (λ os. text_reads (standing os) (part text r.offset (r.offset + r.size)) && found text (took_text os) rs) (sym dr)
        ∙ ap (λ z. text_reads z (part text r.offset (r.offset + r.size)) && found text (took_text (os_of d)) rs) (standing_of d.left d.late d.outer d.behind d.depth))

    pub turn_text : (p : Opens) → r.kind ≡ 1 → text_reads (where_of d.depth d.late) (part text r.offset (r.offset + r.size)) ≡ true → os_of p ≡ took_text (os_of d) → p.depth ≤ 2 → Wrote p → Turns text o r p
    turn_text p k t e h wr = record { deep = omega arith; wrote = wr; on = λ rs. text_found k rs ∙ rw t (ap (λ os. found text os rs) (sym e)); due = λ f. absurd (omega arith) }

    pub turn_brace : r.kind ≡ 1 → text_reads (where_of d.depth d.late) (part text r.offset (r.offset + r.size)) ≡ false → TurnsTo text o r None
    turn_brace k t rs = text_found k rs ∙ rw t refl

    module _ (few : d.depth ≤ 2) (k : r.kind ≡ 1 → ⊥) where
      field_found : (rs : List Record)
          → found text (os_of o) (r ∷ rs) ≡ (field_reads d.depth (where_of d.depth false) (part text r.offset (r.offset + r.size)) && found text (took_field (os_of d)) rs)
      unfolding found own_text
      field_found rs =
          let e = part text r.offset (r.offset + r.size) in
          rw (ne_eqb r.kind 3 n, ne_eqb r.kind 1 k, found)
          (ap (λ os. field_reads (length os) (standing os) e && found text (took_field os) rs) (sym dr)
          ∙ ap₂ (λ x z. field_reads x z e && found text (took_field (os_of d)) rs) (length_of d.left d.late d.outer d.behind d.depth few) (standing_of d.left d.late d.outer d.behind d.depth)
          ∙ ap (λ z. z && found text (took_field (os_of d)) rs) (field_reads_lem d.depth d.late e ∙ sym (field_reads_lem d.depth false e)))

      shallow : field_reads d.depth (where_of d.depth false) (part text r.offset (r.offset + r.size)) ≡ true → d.depth < 2
      shallow t = cases (ltb d.depth 2) (λ z. ltb-true d.depth 2 z) (λ z. no (sym (rw z refl) ∙ sym (field_reads_lem d.depth false (part text r.offset (r.offset + r.size))) ∙ t))

      pub turn_field : (p : Opens) → field_reads d.depth (where_of d.depth false) (part text r.offset (r.offset + r.size)) ≡ true → os_of p ≡ took_field (os_of d) → p.depth ≡ d.depth → Wrote p → Turns text o r p
      turn_field p t e h wr = let q = shallow t in record { deep = omega arith; wrote = wr; on = λ rs. field_found rs ∙ rw t (ap (λ os. found text os rs) (sym e)); due = λ f. omega arith }

      pub turn_other : field_reads d.depth (where_of d.depth false) (part text r.offset (r.offset + r.size)) ≡ false → TurnsTo text o r None
      turn_other t rs = field_found rs ∙ rw t refl
