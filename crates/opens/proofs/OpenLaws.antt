-- What a part does to the open specs, and what reads back in them. Assumes nothing.
use mathlib.Core.Path.{◌≡◌, refl, sym, ◌∙◌, ap}
use mathlib.Core.Bool.{Bool, true, false, ◌&&◌, not}
use mathlib.Core.List.{List, [], ◌∷◌}
use Prim.Native.Nat.{ℕ, zero, suc, ◌+◌, ◌-◌, ◌≤◌}
use native.Mathlib.Omega.{arith}
use lib.Dec.{ltb, eqb}
use lib.ListN.{length}
use borrow.Author.Tests.{ne_eqb}
use Rattle.definition.specs.Chars.{◌is◌, byte}
use Rattle.definition.specs.Matched.{clear, braceless, blank}
use Rattle.definition_written.specs.Written.{early, late, past_field}
use Rattle.definition_written.specs.ReadsBack.{clean, text_reads, begins_well, field_reads}
use Rattle.definition.proofs.Moves.CharLaws.{cases}
use Rattle.definition_written.specs.Passes.{opened, standing, drained, took_text, took_field}
use Rattle.opens.specs.Opens.{place, where_of, list_of}

-- THE OPEN SPECS
module _ (l : ℕ) (b : Bool) (m : ℕ) (c : Bool) where
  pub drain_none : (d : ℕ) → d ≡ 0 → list_of d l b m c ≡ drained (list_of d l b m c)
  unfolding list_of drained
  drain_none d e = rw e refl

  pub drain_some : (d : ℕ) → (l ≡ 0 → ⊥) → list_of d l b m c ≡ drained (list_of d l b m c)
  unfolding list_of drained
  drain_some zero n = refl
  drain_some (suc zero) n = rw (ne_eqb l 0 n, drained) refl
  drain_some (suc (suc d)) n = rw (ne_eqb l 0 n, drained) refl

  pub drain_one : (d : ℕ) → d ≡ 1 → l ≡ 0 → list_of 0 0 false 0 false ≡ drained (list_of d l b m c)
  unfolding list_of drained
  drain_one d e n = rw (e, n) refl

  pub drain_both : (d : ℕ) → (d ≡ 0 → ⊥) → (d ≡ 1 → ⊥) → l ≡ 0 → m ≡ 0 → list_of 0 0 false 0 false ≡ drained (list_of d l b m c)
  unfolding list_of drained
  drain_both zero e f n k = absurd (e refl)
  drain_both (suc zero) e f n k = absurd (f refl)
  drain_both (suc (suc d)) e f n k = rw (n, k) refl

  pub drain_inner : (d : ℕ) → (d ≡ 0 → ⊥) → (d ≡ 1 → ⊥) → l ≡ 0 → (m ≡ 0 → ⊥) → list_of 1 m c 0 false ≡ drained (list_of d l b m c)
  unfolding list_of drained
  drain_inner zero e f n k = absurd (e refl)
  drain_inner (suc zero) e f n k = absurd (f refl)
  drain_inner (suc (suc d)) e f n k = rw (n, ne_eqb m 0 k, drained) refl

  pub took_text_lem : (d n : ℕ) → n ≡ l - 1 → list_of d n b m c ≡ took_text (list_of d l b m c)
  unfolding list_of took_text
  took_text_lem zero n e = refl
  took_text_lem (suc zero) n e = rw e refl
  took_text_lem (suc (suc d)) n e = rw e refl

  past : past_field (place b) ≡ late
  unfolding past_field
  past = cases b (λ e. rw e refl) (λ e. rw e refl)

  pub took_field_lem : (d n : ℕ) → n ≡ l - 1 → list_of d n true m c ≡ took_field (list_of d l b m c)
  unfolding list_of took_field
  took_field_lem zero n e = refl
  took_field_lem (suc zero) n e = rw (e, past) refl
  took_field_lem (suc (suc d)) n e = rw (e, past) refl

  pub pushed : (d n : ℕ) → d ≤ 1 → list_of (d + 1) n false l b ≡ opened n early ∷ list_of d l b m c
  unfolding list_of
  pushed zero n h = refl
  pushed (suc zero) n h = refl
  pushed (suc (suc d)) n h = absurd (omega arith)

  pub standing_of : (d : ℕ) → standing (list_of d l b m c) ≡ where_of d b
  unfolding list_of standing
  standing_of zero = refl
  standing_of (suc zero) = refl
  standing_of (suc (suc d)) = rw (ne_eqb (suc (suc d)) 0 (λ (e : suc (suc d) ≡ 0). omega arith)) refl

  pub length_of : (d : ℕ) → d ≤ 2 → length (list_of d l b m c) ≡ d
  unfolding list_of
  length_of zero h = refl
  length_of (suc zero) h = refl
  length_of (suc (suc zero)) h = refl
  length_of (suc (suc (suc d))) h = absurd (omega arith)

-- WHERE A TEXT STANDS
pub reads_top : (d : ℕ) (b : Bool) (t : List ℕ) → d ≡ 0 → true ≡ text_reads (where_of d b) t
unfolding text_reads
reads_top d b t e = rw e refl

pub reads_late : (d : ℕ) (b : Bool) (t : List ℕ) → (d ≡ 0 → ⊥) → b ≡ true → true ≡ text_reads (where_of d b) t
unfolding text_reads
reads_late d b t e f = rw (ne_eqb d 0 e, f) refl

pub reads_early : (d : ℕ) (b : Bool) (t : List ℕ) (r : Bool) → (d ≡ 0 → ⊥) → b ≡ false → r ≡ braceless t → r ≡ text_reads (where_of d b) t
unfolding text_reads
reads_early d b t r e f g = rw (ne_eqb d 0 e, f) g

-- A FIELD
module _ (d : ℕ) (b : Bool) (e : List ℕ) where
  begins : begins_well (where_of d b) e ≡ not (eqb d 0 && byte e 0 is "{")
  unfolding begins_well
  begins = cases (eqb d 0) (λ t. rw t refl) (λ t. cases b (λ u. rw (t, u) refl) (λ u. rw (t, u) refl))

  pub field_reads_lem : field_reads d (where_of d b) e ≡ (ltb d 2 && not (eqb d 0 && byte e 0 is "{") && clean false (clear []) e && not (blank e))
  unfolding field_reads
  field_reads_lem = ap (λ z. ltb d 2 && z && clean false (clear []) e && not (blank e)) begins

-- the tests taken one after the other: the first two, then three of them
module _ (d : ℕ) (b : Bool) (e : List ℕ) (v w : Bool) (first : v ≡ (ltb d 2 && not (eqb d 0 && byte e 0 is "{"))) (second : w ≡ (v && clean false (clear []) e)) where
  pub field_on : (r : Bool) → w ≡ true → r ≡ not (blank e) → r ≡ field_reads d (where_of d b) e
  field_on r h f =
      f
      ∙ go (ltb d 2) (not (eqb d 0 && byte e 0 is "{")) (clean false (clear []) e) (not (blank e)) (sym h ∙ second ∙ ap (λ x. x && clean false (clear []) e) first)
      ∙ sym (field_reads_lem d b e)
    where
      go : (p q r s : Bool) → true ≡ ((p && q) && r) → s ≡ (p && q && r && s)
      go true true true s k = refl
      go true true false s k = cc
      go true false r s k = cc
      go false q r s k = cc

  pub field_off : w ≡ false → w ≡ field_reads d (where_of d b) e
  field_off h =
      h
      ∙ go (ltb d 2) (not (eqb d 0 && byte e 0 is "{")) (clean false (clear []) e) (not (blank e)) (sym h ∙ second ∙ ap (λ x. x && clean false (clear []) e) first)
      ∙ sym (field_reads_lem d b e)
    where
      go : (p q r s : Bool) → false ≡ ((p && q) && r) → false ≡ (p && q && r && s)
      go true true true s k = cc
      go true true false s k = refl
      go true false r s k = refl
      go false q r s k = refl
