-- One pass over the records, with the specs that are open: what it writes is the spelling, and what it finds is whether that reads back. Assumes nothing.
use mathlib.Core.Path.{◌≡◌, refl, sym, ◌∙◌, ap}
use mathlib.Core.Bool.{Bool, true, false, ◌&&◌, ◌||◌, not, and_assoc, beq}
use mathlib.Core.List.{List, [], ◌∷◌, ◌++◌, append_assoc}
use Prim.Native.Nat.{ℕ, zero, suc, ◌-◌, ◌≤◌}
use native.Mathlib.Omega.{arith}
use lib.Dec.{leb, eqb}
use lib.ListN.{length}
use borrow.Author.Tests.{eq-eqb, eqb-true, leb-true, not-true, eqb-false}
use Rattle.definition.specs.Records.{Record}
use Rattle.definition.specs.Words.{owing, is_conversion, fits, all_fit, has_spec, ordered, no_bytes}
use Rattle.definition_written.specs.Written.{Content, empty, says, puts, forms, first_parts, later_parts, next_parts, own_text, holding, content_from, top, early, past_field, spelled_text, spelled_conversion, spelled}
use Rattle.definition_written.specs.Passes.{Open, opened, standing, drained, closers, took_text, took_field, shut, passed, found}
use Rattle.definition_written.specs.ReadsBack.{text_reads, field_reads, parts_read}
use Rattle.definition.proofs.Moves.CharLaws.{cases, no}
use Rattle.definition_laws.proofs.Moves.Cases.{and_both}

-- WHAT IS LEFT TO WRITE of things that are held
unfoldable pub left_over : List Open → Content → List ℕ
left_over [] p = spelled top p
left_over (o ∷ os) p = spelled o.stands (first_parts o.left p) ++ 125 ∷ left_over os (later_parts o.left p)

unfoldable pub left_reads : List Open → Content → Bool
left_reads [] p = parts_read 0 top p
left_reads (o ∷ os) p = parts_read (suc (length os)) o.stands (first_parts o.left p) && left_reads os (later_parts o.left p)

first_empty : (n : ℕ) → first_parts n empty ≡ empty
unfolding first_parts
first_empty zero = refl
first_empty (suc n) = refl

after_empty : (n : ℕ) → later_parts n empty ≡ empty
unfolding later_parts
after_empty zero = refl
after_empty (suc n) = refl

left_empty : (os : List Open) → left_over os empty ≡ shut os
unfolding left_over shut spelled
left_empty [] = refl
left_empty (o ∷ os) = rw (first_empty o.left, after_empty o.left) (ap (λ t. 125 ∷ t) (left_empty os))

reads_empty : (os : List Open) → left_reads os empty ≡ true
unfolding left_reads parts_read
reads_empty [] = refl
reads_empty (o ∷ os) = rw (first_empty o.left, after_empty o.left) (reads_empty os)

-- specs that are over
left_drained : (os : List Open) (p : Content) → left_over os p ≡ closers os ++ left_over (drained os) p
unfolding left_over closers drained spelled first_parts later_parts
left_drained [] p = refl
left_drained (o ∷ os) p = go (eqb o.left 0) refl (left_drained os p)
  where
    go : (t : Bool) → eqb o.left 0 ≡ t → left_over os p ≡ closers os ++ left_over (drained os) p → left_over (o ∷ os) p ≡ closers (o ∷ os) ++ left_over (drained (o ∷ os)) p
    go true t ih = rw (t, closers, drained) (rw (eqb-true o.left 0 t) (none_first ih))
      where
        none_first : left_over os p ≡ closers os ++ left_over (drained os) p → spelled o.stands (first_parts 0 p) ++ 125 ∷ left_over os (later_parts 0 p) ≡ 125 ∷ (closers os ++ left_over (drained os) p)
        none_first ih = ap (λ t. 125 ∷ t) ih
    go false t ih = rw (t, closers, drained) refl

reads_drained : (os : List Open) (p : Content) → left_reads os p ≡ left_reads (drained os) p
unfolding left_reads drained parts_read first_parts later_parts
reads_drained [] p = refl
reads_drained (o ∷ os) p = go (eqb o.left 0) refl (reads_drained os p)
  where
    go : (t : Bool) → eqb o.left 0 ≡ t → left_reads os p ≡ left_reads (drained os) p → left_reads (o ∷ os) p ≡ left_reads (drained (o ∷ os)) p
    go true t ih = rw (t, drained) (rw (eqb-true o.left 0 t) ih)
    go false t ih = rw (t, drained) refl

-- the innermost spec has parts to come
abbrev Ready : List Open → Type 0
Ready [] = Unit {0}
Ready (o ∷ os) = (m : ℕ) × (o.left ≡ suc m)

drained_ready : (os : List Open) → Ready (drained os)
unfolding drained
drained_ready [] = tt
drained_ready (o ∷ os) = go (eqb o.left 0) refl (drained_ready os)
  where
    go : (t : Bool) → eqb o.left 0 ≡ t → Ready (drained os) → Ready (drained (o ∷ os))
    go true t ih = rw (t, drained) ih
    go false t ih = rw (t, drained) (o.left - 1, omega (arith, eqb-false o.left 0 t))

one_less : (m : ℕ) → suc m - 1 ≡ m
one_less m = omega arith

-- ONE THING MORE
left_says : (os : List Open) (t : List ℕ) (p : Content) → Ready os → left_over os (says t p) ≡ spelled_text (standing os) t ++ left_over (took_text os) p
unfolding left_over standing took_text spelled first_parts later_parts
left_says [] t p h = refl
left_says (o ∷ os) t p (m, e) = rw (e, one_less m) (append_assoc (spelled_text o.stands t) (spelled o.stands (first_parts m p)) (125 ∷ left_over os (later_parts m p)))

three : (u v : List ℕ) (x : ℕ) (a b : List ℕ) → (123 ∷ (u ++ (v ++ x ∷ a))) ++ b ≡ 123 ∷ (u ++ (v ++ x ∷ (a ++ b)))
three u v x a b = ap (λ t. 123 ∷ t) (append_assoc u (v ++ x ∷ a) b ∙ ap (λ t. u ++ t) (append_assoc v (x ∷ a) b))

left_puts : (os : List Open) (e : List ℕ) (c : ℕ) (p : Content) → Ready os → left_over os (puts e c p) ≡ 123 ∷ (e ++ (spelled_conversion c ++ 125 ∷ left_over (took_field os) p))
unfolding left_over took_field spelled first_parts later_parts past_field
left_puts [] e c p h = refl
left_puts (o ∷ os) e c p (m, q) = rw (q, one_less m) (three e (spelled_conversion c) 125 (spelled (past_field o.stands) (first_parts m p)) (125 ∷ left_over os (later_parts m p)))

left_forms : (os : List Open) (e : List ℕ) (c n : ℕ) (p : Content) → Ready os → left_over os (forms e c (first_parts n p) (later_parts n p)) ≡ 123 ∷ (e ++ (spelled_conversion c ++ 58 ∷ left_over (opened n early ∷ took_field os) p))
unfolding left_over took_field spelled past_field first_parts later_parts
left_forms [] e c n p h = refl
left_forms (o ∷ os) e c n p (m, q) = rw (q, one_less m) (three e (spelled_conversion c) 58 (spelled early (first_parts n p) ++ 125 ∷ spelled (past_field o.stands) (first_parts m (later_parts n p))) (125 ∷ left_over os (later_parts m (later_parts n p)))
    ∙ ap (λ t. 123 ∷ (e ++ (spelled_conversion c ++ 58 ∷ t))) (append_assoc (spelled early (first_parts n p)) (125 ∷ spelled (past_field o.stands) (first_parts m (later_parts n p))) (125 ∷ left_over os (later_parts m (later_parts n p)))))

reads_says : (os : List Open) (t : List ℕ) (p : Content) → Ready os → left_reads os (says t p) ≡ (text_reads (standing os) t && left_reads (took_text os) p)
unfolding left_reads standing took_text parts_read first_parts later_parts
reads_says [] t p h = refl
reads_says (o ∷ os) t p (m, e) = rw (e, one_less m) (and_assoc (text_reads o.stands t) (parts_read (suc (length os)) o.stands (first_parts m p)) (left_reads os (later_parts m p)))

reads_puts : (os : List Open) (e : List ℕ) (c : ℕ) (p : Content) → Ready os → left_reads os (puts e c p) ≡ (field_reads (length os) (standing os) e && left_reads (took_field os) p)
unfolding left_reads standing took_field parts_read first_parts later_parts past_field
reads_puts [] e c p h = refl
reads_puts (o ∷ os) e c p (m, q) = rw (q, one_less m) (and_assoc (field_reads (suc (length os)) o.stands e) (parts_read (suc (length os)) (past_field o.stands) (first_parts m p)) (left_reads os (later_parts m p)))

reads_forms : (os : List Open) (e : List ℕ) (c n : ℕ) (p : Content) → Ready os → left_reads os (forms e c (first_parts n p) (later_parts n p)) ≡ (field_reads (length os) (standing os) e && left_reads (opened n early ∷ took_field os) p)
unfolding left_reads standing took_field parts_read past_field first_parts later_parts
reads_forms [] e c n p h = and_assoc (field_reads 0 top e) (parts_read 1 early (first_parts n p)) (parts_read 0 top (later_parts n p))
reads_forms (o ∷ os) e c n p (m, q) =
    let a = field_reads (suc (length os)) o.stands e in
    let b = parts_read (suc (suc (length os))) early (first_parts n p) in
    let x = parts_read (suc (length os)) (past_field o.stands) (first_parts m (later_parts n p)) in
    let y = left_reads os (later_parts m (later_parts n p)) in
    rw (q, one_less m) (and_assoc (a && b) x y ∙ and_assoc a b (x && y))

-- RECORDS IN ORDER: a spec comes right after a field that has one and nowhere else; others are literals and fields
pub record Fits (due : Bool) (r : Record) : Type 0 where
  pub is_due_lem : eqb r.kind 3 ≡ due
  pub is_field_lem : eqb r.kind 1 ≡ false → eqb r.kind 3 ≡ false → eqb r.kind 2 ≡ true
  pub parted : eqb r.kind 2 ≡ true → leb r.parts 1 ≡ true

abbrev pub InOrder : Bool → List Record → Type 0
InOrder due [] = due ≡ false
InOrder due (r ∷ rs) = Fits due r × InOrder (has_spec r.kind r.parts) rs

-- the specs that are open, with one that is due
abbrev awaited : Bool → List Record → List Open → List Open
awaited false rs os = os
awaited true rs os = opened (next_parts rs) early ∷ os

module _ (text : List ℕ) where
  abbrev P : List Open → List Record → Type 0
  P os rs = (passed text os rs ≡ left_over os (content_from text rs)) × (found text os rs ≡ left_reads os (content_from text rs))

  abbrev PDue : Bool → List Record → Type 0
  PDue due rs = (os : List Open) → (passed text os rs ≡ left_over (awaited due rs os) (content_from text rs)) × (found text os rs ≡ left_reads (awaited due rs os) (content_from text rs))

  module _ (os : List Open) (r : Record) (rs : List Record) where
    abbrev t : List ℕ
    t = own_text text r

    abbrev c : Content
    c = content_from text rs

    at_text : eqb r.kind 3 ≡ false → eqb r.kind 1 ≡ true → P (took_text (drained os)) rs → P os (r ∷ rs)
    unfolding passed found content_from holding
    at_text a b ih = (
      rw (a, b, passed)
          (ap (λ u. closers os ++ (spelled_text (standing (drained os)) t ++ u)) ih.0
          ∙ ap (λ u. closers os ++ u) (sym (left_says (drained os) t c (drained_ready os))) ∙ sym (left_drained os (says t c))),
      rw (a, b, found)
          (ap (λ u. text_reads (standing (drained os)) t && u) ih.1 ∙ sym (reads_says (drained os) t c (drained_ready os)) ∙ sym (reads_drained os (says t c))),
    )

    at_field : eqb r.kind 3 ≡ false → eqb r.kind 1 ≡ false → eqb r.kind 2 ≡ true → eqb r.parts 0 ≡ true → P (took_field (drained os)) rs → P os (r ∷ rs)
    unfolding passed found content_from holding
    at_field a b f z ih = (
      rw (a, b, f, z, passed)
          (ap (λ u. closers os ++ 123 ∷ (t ++ (spelled_conversion r.mode ++ 125 ∷ u))) ih.0
          ∙ ap (λ u. closers os ++ u) (sym (left_puts (drained os) t r.mode c (drained_ready os))) ∙ sym (left_drained os (puts t r.mode c))),
      rw (a, b, f, z, found)
          (ap (λ u. field_reads (length (drained os)) (standing (drained os)) t && u) ih.1 ∙ sym (reads_puts (drained os) t r.mode c (drained_ready os)) ∙ sym (reads_drained os (puts t r.mode c))),
    )

    at_spec_field : eqb r.kind 3 ≡ false → eqb r.kind 1 ≡ false → eqb r.kind 2 ≡ true → eqb r.parts 0 ≡ false → PDue true rs → P os (r ∷ rs)
    unfolding passed found content_from holding
    at_spec_field a b f z ih =
        let i = ih (took_field (drained os)) in
        let n = next_parts rs in (
          rw (a, b, f, z, passed)
              (ap (λ u. closers os ++ 123 ∷ (t ++ (spelled_conversion r.mode ++ 58 ∷ u))) i.0
              ∙ ap (λ u. closers os ++ u) (sym (left_forms (drained os) t r.mode n c (drained_ready os))) ∙ sym (left_drained os (forms t r.mode (first_parts n c) (later_parts n c)))),
          rw (a, b, f, z, found)
              (ap (λ u. field_reads (length (drained os)) (standing (drained os)) t && u) i.1 ∙ sym (reads_forms (drained os) t r.mode n c (drained_ready os)) ∙ sym (reads_drained os (forms t r.mode (first_parts n c) (later_parts n c)))),
        )

    -- a spec that was due
    at_spec : eqb r.kind 3 ≡ true → P (opened r.parts early ∷ os) rs → (passed text os (r ∷ rs) ≡ left_over (opened r.parts early ∷ os) (content_from text (r ∷ rs))) × (found text os (r ∷ rs) ≡ left_reads (opened r.parts early ∷ os) (content_from text (r ∷ rs)))
    unfolding passed found content_from holding
    at_spec a ih = let k = eqb-true r.kind 3 a in (rw (a, passed) (rw k ih.0), rw (a, found) (rw k ih.1))

  spec_of_lem : (kind parts : ℕ) → eqb kind 2 ≡ true → eqb parts 0 ≡ false → leb parts 1 ≡ true → has_spec kind parts ≡ true
  spec_of_lem kind parts a b c = rw (a, one (leb-true parts 1 c) (eqb-false parts 0 b)) refl
    where
      one : parts ≤ 1 → (parts ≡ 0 → ⊥) → eqb parts 1 ≡ true
      one l n = eq-eqb parts 1 (omega arith)

  pub passes_all : (rs : List Record) (due : Bool) → InOrder due rs → PDue due rs
  unfolding passed found content_from next_parts
  passes_all [] false h os = (sym (left_empty os), sym (reads_empty os))
  passes_all [] true h os = no (sym h)
  passes_all (r ∷ rs) true h os = at_spec os r rs h.0.is_due_lem (go (has_spec r.kind r.parts) refl h.1 (passes_all rs (has_spec r.kind r.parts)))
    where
      go : (b : Bool) → has_spec r.kind r.parts ≡ b → InOrder b rs → (InOrder b rs → PDue b rs) → P (opened r.parts early ∷ os) rs
      go false e o ih = ih o (opened r.parts early ∷ os)
      go true e o ih = let z : has_spec r.kind r.parts ≡ false = rw (eqb-true r.kind 3 h.0.is_due_lem) refl in no (sym z ∙ e)
  passes_all (r ∷ rs) false h os = go (has_spec r.kind r.parts) refl h.1 (passes_all rs (has_spec r.kind r.parts))
    where
      go : (b : Bool) → has_spec r.kind r.parts ≡ b → InOrder b rs → (InOrder b rs → PDue b rs) → P os (r ∷ rs)
      go b e o ih =
          cases (eqb r.kind 1)
          (λ k. at_text os r rs h.0.is_due_lem k (rest b (sym e ∙ rw (eqb-true r.kind 1 k) refl) (ih o) (took_text (drained os))))
          (λ k.
          let f = h.0.is_field_lem k h.0.is_due_lem in
          cases (eqb r.parts 0)
          (λ z. at_field os r rs h.0.is_due_lem k f z (rest b (sym e ∙ rw (f, eqb-true r.parts 0 z) refl) (ih o) (took_field (drained os))))
          (λ z. at_spec_field os r rs h.0.is_due_lem k f z (due b (sym e ∙ spec_of_lem r.kind r.parts f z (h.0.parted f)) (ih o))))
        where
          rest : (b : Bool) → b ≡ false → PDue b rs → (os : List Open) → P os rs
          rest false e ih os = ih os
          rest true e ih os = no (sym e)

          due : (b : Bool) → b ≡ true → PDue b rs → PDue true rs
          due false e ih = no e
          due true e ih = ih

  -- THE PASS writes the spelling, and finds whether it reads back
  pub pass_spells : (rs : List Record) → InOrder false rs → passed text [] rs ≡ spelled top (content_from text rs)
  unfolding left_over
  pass_spells rs h = (passes_all rs false h []).0

  pub pass_finds : (rs : List Record) → InOrder false rs → found text [] rs ≡ parts_read 0 top (content_from text rs)
  unfolding left_reads
  pass_finds rs h = (passes_all rs false h []).1

-- RECORDS THAT MAY BE WRITTEN are in order
fits_in_order : (due : Bool) (r : Record) → fits r.kind r.size r.mode r.parts r.place ≡ true → beq (eqb r.kind 3) due ≡ true → eqb r.kind 4 ≡ false → Fits due r
unfolding fits
fits_in_order due r h b n = record {
  is_due_lem = same (eqb r.kind 3) due b;
  is_field_lem = λ k m. field k m (eqb r.kind 2) refl;
  parted = λ f. few f;
}
  where
    same : (x y : Bool) → beq x y ≡ true → x ≡ y
    same true true e = refl
    same true false e = no e
    same false true e = no e
    same false false e = refl

    field : eqb r.kind 1 ≡ false → eqb r.kind 3 ≡ false → (t : Bool) → eqb r.kind 2 ≡ t → eqb r.kind 2 ≡ true
    field k m true e = e
    field k m false e = no (rw (k, e, m, n) at h)

    few : eqb r.kind 2 ≡ true → leb r.parts 1 ≡ true
    few f = (and_both (is_conversion r.mode) (leb r.parts 1) (rw (eqb-true r.kind 2 f) at h)).1

pub in_order_lem : (due : Bool) (owed : ℕ) (rs : List Record) → all_fit rs ≡ true → ordered due owed rs ≡ true → no_bytes rs ≡ true → (due ≡ true → 1 ≤ owed) → InOrder due rs
unfolding all_fit ordered no_bytes
in_order_lem due owed [] a b c d = none-due due d
  where
    none-due : (due : Bool) → (due ≡ true → 1 ≤ owed) → due ≡ false
    none-due false d = refl
    none-due true d = let z = d refl in let e = eqb-true owed 0 b in absurd (omega arith)
in_order_lem due owed (r ∷ rs) a b c d =
    let a' = and_both (fits r.kind r.size r.mode r.parts r.place) (all_fit rs) a in
    let b' = and_both (beq (eqb r.kind 3) due && (not (eqb r.kind 4) || eqb owed 0)) (ordered (has_spec r.kind r.parts) (owing owed r.parts) rs) b in
    let b'' = and_both (beq (eqb r.kind 3) due) (not (eqb r.kind 4) || eqb owed 0) b'.0 in
    let c' = and_both (not (eqb r.kind 4)) (no_bytes rs) c in
    (fits_in_order due r a'.0 b''.0 (not-true (eqb r.kind 4) c'.0), in_order_lem (has_spec r.kind r.parts) (owing owed r.parts) rs a'.1 b'.1 c'.1 (λ e. owes e))
  where
    owes : has_spec r.kind r.parts ≡ true → 1 ≤ owing owed r.parts
    owes e = let z = eqb-true r.parts 1 (and_both (eqb r.kind 2) (eqb r.parts 1) e).1 in omega arith
