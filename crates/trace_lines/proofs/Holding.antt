-- Steps that are worked out once. Assumes nothing.
use Rattle.std.specs.Prelude.{if◌then◌else◌, Some, None, Result, Ok}
use mathlib.Core.Path.{◌≡◌, refl, sym, ◌∙◌, ap, subst}
use mathlib.Core.Bool.{Bool, true, false, not}
use mathlib.Core.Logic.{inl, inr}
use mathlib.Core.List.{List, [], ◌∷◌}
use Prim.Native.Nat.{ℕ, zero, suc, ◌+◌, ◌-◌, ◌*◌, ◌%◌, ◌≤◌, ◌<◌}
use native.Mathlib.Omega.{arith}
use lib.Dec.{eqb}
use lib.ListN.{length, take}
use borrow.Author.Tests.{eqb-true, eqb-false}
use Rattle.definition.specs.Chars.{part}
use Rattle.definition.specs.Records.{Record}
use Rattle.definition.proofs.Moves.CharLaws.{cases}
use Rattle.buffers.specs.Over.{over}
use Rattle.buffers.proofs.Over.{length_over, over_before, over_part}
use Rattle.formats.specs.declared.Form.{Form}
use Rattle.formats.specs.declared.FormError.{FormError}
use Rattle.formats.specs.Parts.{InSet, FormIs}
use Rattle.templates.specs.declared.Place.{Place}
use Rattle.templates.specs.Walk.{records_in, Sized, Stand, PlaceIs, FoundIs}
use Rattle.trace_lines.specs.declared.Step.{Step}
use Rattle.trace_lines.specs.Steps.{StepIs, step_numbers, held_step, Held}

-- THE ITEM of a step, among records that lie in words
module _ (words : List ℕ) (count : ℕ) (text : List ℕ) (i at : ℕ) (s : Sized words count) (l : i < count) (b : at ≤ length text) where
  all_in : records_in words count ≡ count
  all_in = let w = s.0 in omega arith

  pub item_found : {r : Place} → FoundIs words (records_in words count) text i at (Some r)
      → ((rs : List Record) → Stand words count (length text) i at rs → PlaceIs words count text at rs r) × (i < r.next) × (r.next ≤ count) × (at ≤ r.own) × (r.own ≤ r.to) × (r.to ≤ length text)
  item_found {r} f = let g : FoundIs words count text i at (Some r) = subst (λ m. FoundIs words m text i at (Some r)) all_in f in g.2

  pub item_there : FoundIs words (records_in words count) text i at None → ⊥
  item_there f = let n = all_in in elim f [ inl h ↦ absurd (omega arith) | inr h ↦ absurd (omega arith) ]

-- A FORM that is there is one within the set
pub in_set : {spec : List ℕ} {r : Result Form FormError} {f : Form} → r ≡ Ok f → FormIs spec r → InSet spec f
in_set {spec} e x = (subst (FormIs spec) e x).form

-- A STEP comes back from its numbers
flag_back : (b : Bool) → not (eqb (if b then 1 else 0) 0) ≡ b
flag_back true = refl
flag_back false = refl

module _ (s : Step) (f : Form) (n : s.form ≡ Ok f) (pad : f.pad < 256) (align : f.shape.align < 256) (sign : f.shape.sign < 256) (grouping : f.shape.grouping < 256) (kind : f.shape.kind < 256) where
  pub step_back : held_step (step_numbers s f) ≡ s
  step_back =
      (λ i.
      record {
        first = s.first;
        at = s.at;
        item = record { kind = s.item.kind; mode = s.item.mode; own = s.item.own; nested = flag_back s.item.nested i; to = s.item.to; next = s.item.next };
        form = Ok (record {
          fill = f.fill;
          pad = mod-small f.pad pad i;
          shape = record {
            align = mod-small f.shape.align align i;
            sign = mod-small f.shape.sign sign i;
            alternate = flag_back f.shape.alternate i;
            width = f.shape.width;
            grouping = mod-small f.shape.grouping grouping i;
            kind = mod-small f.shape.kind kind i;
          };
        });
      })
      ∙ (λ i. record { first = s.first; at = s.at; item = s.item; form = sym n i })
    where
      mod-small : (m : ℕ) → m < 256 → m % 256 ≡ m
      mod-small m h = omega arith

take_all : (n : ℕ) (l : List ℕ) → length l ≤ n → take n l ≡ l
take_all n [] h = none n
  where
    none : (n : ℕ) → ◌≡◌ {A = List ℕ} (take n []) []
    none zero = refl
    none (suc n) = refl
take_all zero (x ∷ l) h = absurd (omega arith)
take_all (suc n) (x ∷ l) h = ap (λ t. x ∷ t) (take_all n l (omega arith))

-- A STEP that is held is one
module _ (words : List ℕ) (count : ℕ) (text : List ℕ) where
  abbrev Itself : Step → Type 0
  Itself s = StepIs words count text s.first s.at s

  abbrev slot : List ℕ → ℕ → List ℕ
  slot held k = part held (k * 16) (k * 16 + 16)

  pub held_none : (held : List ℕ) → 512 ≤ length held → Held held words count text 0
  held_none held h = record { room = h; few = omega arith; each = λ k l. absurd (omega arith) }

  module _ (held : List ℕ) (k : ℕ) (w : Held held words count text k) (l : k < 32) (i at : ℕ) (s : Step) (f : Form) (x : StepIs words count text i at s) {held' : List ℕ}
      (e : (held' ≡ over held (k * 16) (step_numbers s f)) × (held_step (step_numbers s f) ≡ s))
    where
      kept : (j : ℕ) → j < k → slot held' j ≡ slot held j
      kept j h = ap (λ b. slot b j) e.0 ∙ over_before held (k * 16) (step_numbers s f) (j * 16) (j * 16 + 16) (omega arith)

      put : held_step (slot held' k) ≡ s
      put =
          let r = w.room in
          ap held_step (ap (λ b. slot b k) e.0 ∙ over_part held (k * 16) (step_numbers s f) ∙ take_all (length held - k * 16) (step_numbers s f) (omega arith)) ∙ e.1

      itself : Itself s
      itself = record { record_is = refl; begins = refl; place = rw (x.record_is, x.begins) x.place; form = x.form }

      pub held_more : Held held' words count text (k + 1)
      held_more =
          let r = w.room in
          let n = ap length e.0 ∙ length_over held (k * 16) (step_numbers s f) in
          record {
            room = omega arith;
            few = omega arith;
            each = λ j h.
                cases (eqb j k) (λ b. subst (λ m. Itself (held_step (slot held' m))) (sym (eqb-true j k b)) (subst Itself (sym put) itself))
                (λ b. let q = eqb-false j k b in subst (λ m. Itself (held_step m)) (sym (kept j (omega arith))) (w.each j (omega arith)));
          }

  module _ (held : List ℕ) (steps k : ℕ) (w : Held held words count text steps) (h : k < steps) {s : Step} (e : s ≡ held_step (slot held k)) where
    pub held_is : (i at : ℕ) → s.first ≡ i → s.at ≡ at → StepIs words count text i at s
    held_is i at f g =
        let x : Itself s = subst Itself (sym e) (w.each k h) in
        record { record_is = f; begins = g; place = rw (← f, ← g) x.place; form = x.form }
