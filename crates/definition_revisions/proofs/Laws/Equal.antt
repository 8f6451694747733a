-- EQUAL RECORDS, and what does not count among them: ranges, places and u marks. Assumes nothing.
use Rattle.std.specs.Prelude.{if◌then◌else◌}
use mathlib.Core.Path.{◌≡◌, refl, sym, ◌∙◌, ap, ap₂}
use mathlib.Core.Bool.{true}
use mathlib.Core.List.{List, [], ◌∷◌, map}
use Prim.Native.Nat.{ℕ, ◌+◌}
use native.Mathlib.Omega.{arith}
use lib.Dec.{eqb}
use lib.ListN.{take}
use borrow.Author.Tests.{eqb-true, eq-eqb}
use Rattle.definition.specs.Chars.{part}
use Rattle.definition.specs.Records.{Record}
use Rattle.definition.specs.Words.{word, records_from, answer_from, held_from}
use Rattle.definition.proofs.Moves.CharLaws.{cases}
use Rattle.definition.proofs.Moves.CharLaws.{same_eq}
use Rattle.definition_formed.specs.Formed.{Lent, unplaced, lent_answer}
use Rattle.definition_formed.specs.Aside.{LentAlike}
use Rattle.definition_formed.proofs.Formed.AsideLaws.{Aside, AllAside, none, more, agree_aside}
use Rattle.definition_revisions.specs.Revisions.{shape_of, items_from, items_of, same_shape}
use Rattle.definition_revisions.specs.IsCompared.{SameRecord}
use Rattle.definition_revisions.proofs.Laws.Runs.{shape_true}

-- EQUAL RECORDS are those whose kinds, texts, parts and, of fields, conversions are equal
module _ (t u : List ℕ) (r s : Record) where
  pub same_record_lem : same_shape (shape_of t r) (shape_of u s) ≡ true → SameRecord t u r s
  unfolding shape_of
  same_record_lem h =
      let e = shape_true (shape_of t r) (shape_of u s) h in
      let k : r.kind ≡ s.kind = ap (λ x. x.kind) e in
      record {
        kinds = k;
        texts = ap (λ x. x.text) e;
        parts_same = ap (λ x. x.parts) e;
        conversions = λ f. rw (eq-eqb r.kind 2 f, eq-eqb s.kind 2 (sym k ∙ f)) at (ap (λ x. x.conversion) e);
      }

  conversion_same : r.kind ≡ s.kind → (r.kind ≡ 2 → r.mode ≡ s.mode) → (if eqb r.kind 2 then r.mode else 0) ≡ (if eqb s.kind 2 then s.mode else 0)
  conversion_same k f =
      cases (eqb r.kind 2) (λ e. rw (← k, e) (f (eqb-true r.kind 2 e))) (λ e. rw (← k, e) refl)

  pub record_same : SameRecord t u r s → same_shape (shape_of t r) (shape_of u s) ≡ true
  unfolding same_shape shape_of
  record_same h =
      rw (eq-eqb r.kind s.kind h.kinds, same_eq (part t r.offset (r.offset + r.size)) (part u s.offset (s.offset + s.size)) h.texts, eq-eqb (if eqb r.kind 2 then r.mode else 0) (if eqb s.kind 2 then s.mode else 0) (conversion_same h.kinds h.conversions), eq-eqb r.parts s.parts h.parts_same) refl

-- records that agree in all else have the same shape
shape_aside : (text : List ℕ) (r s : Record) → Aside r s → shape_of text (unplaced r) ≡ shape_of text (unplaced s)
unfolding shape_of unplaced
shape_aside text r s a =
    let c : (if eqb r.kind 2 then r.mode else 0) ≡ (if eqb s.kind 2 then s.mode else 0) =
    conversion_same [] [] r s a.kinds (λ e. a.modes (λ z. apart (sym e ∙ z)) (λ z. apart' (sym e ∙ z))) in
    λ i. record { kind = a.kinds i; text = part text (a.offsets i) (a.offsets i + a.sizes i); conversion = c i; parts = a.parts_same i }
  where
    apart : ◌≡◌ {A = ℕ} 2 1 → ⊥
    apart z = omega arith

    apart' : ◌≡◌ {A = ℕ} 2 4 → ⊥
    apart' z = omega arith

aside_shapes : (text : List ℕ) (rs ss : List Record) → AllAside rs ss → map (shape_of text) (map unplaced rs) ≡ map (shape_of text) (map unplaced ss)
aside_shapes text rs ss none = refl
aside_shapes text rs ss (more r s rs' ss' a as') = ap₂ ◌∷◌ (shape_aside text r s a) (aside_shapes text rs' ss' as')

-- TWO THAT ARE LENT, which agree in all else, have the same items
module _ (x y : Lent) (a : LentAlike x y) where
  abbrev rs : List Record
  rs = records_from (word x.numbers 5) 0 x.words

  abbrev ss : List Record
  ss = records_from (word x.numbers 5) 0 y.words

  abbrev text : List ℕ
  text = take (word x.numbers 6) x.text

  pub aside_items : items_of x ≡ items_of y
  unfolding items_of lent_answer held_from answer_from
  aside_items =
      ap (items_from 0) (aside_shapes text rs ss (agree_aside (word x.numbers 5) 0 0 x.words y.words a.agree))
      ∙ (λ i. items_from 0 (map (shape_of (take (a.lengths i) (a.texts i))) (map unplaced (records_from (a.counts i) 0 y.words))))
