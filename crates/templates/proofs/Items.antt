-- The items of a template one after another: each is text, a field with its form, or refused. Assumes nothing.
use Rattle.std.specs.Prelude.{if◌then◌else◌, Result, Ok, Err}
use mathlib.Core.Path.{◌≡◌, refl, sym, ◌∙◌, ap}
use mathlib.Core.Bool.{Bool, true, false}
use mathlib.Core.List.{List, [], ◌∷◌}
use mathlib.Core.Option.{Option, none, some}
use Prim.Native.Nat.{ℕ, suc, ◌+◌, ◌≤◌, ◌<◌}
use native.Mathlib.Omega.{arith}
use lib.Dec.{eqb}
use lib.ListN.{length}
use borrow.Author.Tests.{eq-eqb, ne_eqb}
use Rattle.definition.specs.Chars.{part}
use Rattle.definition.specs.Records.{Record}
use Rattle.definition_replay.specs.Spec.{Spec, spec_of}
use Rattle.definition_replay.specs.Integers.{Form, form_of}
use Rattle.definition_replay.specs.Replay.{Made, made, stopped, followed, Part, stands, column, items_from, form_made, part_of, fields_past, parts_from, field_count}
use Rattle.definition.proofs.Moves.CharLaws.{cases}
use Rattle.definition_replay_laws.proofs.Replay.ReplayFirst.{items_none}
use Rattle.formats.specs.declared.Form as formats
use Rattle.formats.specs.declared.FormError.{FormError}
use Rattle.formats.specs.declared.FormError.TheVariants.{NotOfGrammar, OutsideSet}
use Rattle.formats.specs.Parts.{FormIs, number_of, says}
use Rattle.templates.specs.declared.Refused.{Refused}
use Rattle.templates.specs.declared.Place.{Place}
use Rattle.templates.specs.Walk.{records_in, laid_from, parts_laid, Stand, PlaceIs, field_part, number_in, fields_made, says_count, told_in}
use Rattle.templates.proofs.Walking.{laid_stands}

-- WHAT AN ITEM IS, whatever its number
pub data ItemView (kind mode : ℕ) (nested : Bool) (own spec : List ℕ) : Type 0 where
  is_text_lem : eqb kind 2 ≡ false → ((k : ℕ) → field_part k kind mode nested own spec ≡ made (stands own)) → ItemView kind mode nested own spec
  is_field_lem : eqb kind 2 ≡ true → (f : Form) → form_made 0 0 spec ≡ made (column f) → ((k : ℕ) → field_part k kind mode nested own spec ≡ made (column f)) → ItemView kind mode nested own spec
  is_refused : eqb kind 2 ≡ true → (n : ℕ) → (n ≡ 0 → ⊥) → ((k : ℕ) → field_part k kind mode nested own spec ≡ stopped n k) → ItemView kind mode nested own spec

module _ (kind mode : ℕ) (own spec : List ℕ) where
  by_form : (e : eqb kind 2 ≡ true) (p : Spec) → spec_of spec ≡ some p → (o : Option Form) → form_of p ≡ o → ItemView kind mode false own spec
  unfolding field_part form_made
  by_form e p f none g = is_refused e 69 (λ z. omega arith) (λ k. rw (e, f, form_made, g))
  by_form e p f (some x) g =
      cases (eqb mode 0) (λ m. is_field_lem e x (rw (f, form_made, g)) (λ k. rw (e, f, form_made, g, m)))
      (λ m. is_refused e 69 (λ z. omega arith) (λ k. rw (e, f, form_made, g, m)))

  by_spec : (e : eqb kind 2 ≡ true) (o : Option Spec) → spec_of spec ≡ o → ItemView kind mode false own spec
  unfolding field_part form_made
  by_spec e none f = is_refused e 68 (λ z. omega arith) (λ k. rw (e, f, form_made))
  by_spec e (some p) f = by_form e p f (form_of p) refl

  pub item_view : (n : Bool) → ItemView kind mode n own spec
  unfolding field_part
  item_view true =
      cases (eqb kind 2) (λ e. is_refused e 69 (λ z. omega arith) (λ k. rw e)) (λ e. is_text_lem e (λ k. rw e))
  item_view false = cases (eqb kind 2) (λ e. by_spec e (spec_of spec) refl) (λ e. is_text_lem e (λ k. rw e))

-- WHAT REFUSES IT. A conversion is looked at behind the form
unfoldable converted : (mode : ℕ) → Made Part → Made Part
converted mode (made p) = if eqb mode 0 then made p else stopped 69 0
converted mode (stopped m j) = stopped m j

by_mode : (mode : ℕ) (spec : List ℕ) → form_made 0 mode spec ≡ converted mode (form_made 0 0 spec)
unfolding form_made converted
by_mode mode spec = go (spec_of spec) refl
  where
    of-form : (p : Spec) → spec_of spec ≡ some p → (o : Option Form) → form_of p ≡ o → form_made 0 mode spec ≡ converted mode (form_made 0 0 spec)
    of-form p a none b = rw (a, form_made, b)
    of-form p a (some x) b = rw (a, form_made, b)

    go : (o : Option Spec) → spec_of spec ≡ o → form_made 0 mode spec ≡ converted mode (form_made 0 0 spec)
    go none a = rw (a, form_made)
    go (some p) a = of-form p a (form_of p) refl

refused_mode : (mode : ℕ) (p : Part) → eqb mode 0 ≡ false → number_in (converted mode (made p)) ≡ 69
unfolding number_in converted
refused_mode mode p e = rw e

fine_mode : (mode : ℕ) (p : Part) → eqb mode 0 ≡ true → number_in (converted mode (made p)) ≡ 0
unfolding number_in converted
fine_mode mode p e = rw e

module _ (kind mode : ℕ) (n : Bool) (spec : List ℕ) where
  abbrev Refuses : ℕ → Type 0
  Refuses r = r ≡ number_in (field_part 0 kind mode n [] spec)

  pub no_field : (kind ≡ 2 → ⊥) → Refuses 0
  unfolding number_in field_part
  no_field h = rw (ne_eqb kind 2 h)

  pub field_nested : kind ≡ 2 → n ≡ true → Refuses 69
  unfolding number_in field_part
  field_nested h e = rw (eq-eqb kind 2 h, e)

  module _ (h : kind ≡ 2) (e : n ≡ false) {form : Result formats.Form FormError} (f : FormIs spec form) where
    told : number_in (field_part 0 kind mode n [] spec) ≡ number_in (converted mode (form_made 0 0 spec))
    unfolding field_part
    told =
        (λ i. number_in (if eq-eqb kind 2 h i then (if e i then stopped 69 0 else form_made 0 mode spec) else made (stands [])))
        ∙ ap number_in (by_mode mode spec)

    pub field_form : {why : FormError} → form ≡ Err why → Refuses (number_of why)
    unfolding number_in converted
    field_form z = ap (λ o. number_in (converted mode o)) (ap (says spec 0) (sym z) ∙ f.told 0) ∙ sym told

    module _ {x : formats.Form} (z : form ≡ Ok x) where
      made_so : says spec 0 (Ok x) ≡ form_made 0 0 spec
      made_so = ap (says spec 0) (sym z) ∙ f.told 0

      pub field_converted : (mode ≡ 0 → ⊥) → Refuses 69
      unfolding number_in converted
      field_converted m = sym (told ∙ sym (ap (λ o. number_in (converted mode o)) made_so) ∙ refused_mode mode _ (ne_eqb mode 0 m))

      pub field_fine : mode ≡ 0 → Refuses 0
      unfolding number_in converted
      field_fine m = sym (told ∙ sym (ap (λ o. number_in (converted mode o)) made_so) ∙ fine_mode mode _ (eq-eqb mode 0 m))

-- THE ITEM AT A PLACE
abbrev pub part_at : (text : List ℕ) (at : ℕ) → Place → (k : ℕ) → Made Part
part_at text at p k = field_part k p.kind p.mode p.nested (part text at p.own) (part text p.own p.to)

abbrev pub View : (text : List ℕ) (at : ℕ) → Place → Type 0
View text at p = ItemView p.kind p.mode p.nested (part text at p.own) (part text p.own p.to)

pub view_at : (text : List ℕ) (at : ℕ) (p : Place) → View text at p
view_at text at p = item_view p.kind p.mode (part text at p.own) (part text p.own p.to) p.nested

-- its part, and then the others
pub parts_step : (words : List ℕ) (count : ℕ) (text : List ℕ) (at : ℕ) (p : Place) (k : ℕ) (rs : List Record) (x : PlaceIs words count text at rs p)
    → parts_from text k (items_from 0 rs) ≡ followed (part_at text at p k) (parts_from text (fields_past k x.item) (items_from 0 x.rest))
unfolding parts_from part_of field_part
parts_step words count text at p k rs x =
    ap (parts_from text k) x.items
    ∙ (λ j. followed (field_part k (sym x.kind j) (sym x.mode j) (sym x.among j) (sym x.own j) (sym x.spec j)) (parts_from text (fields_past k x.item) (items_from 0 x.rest)))

-- one part more
more_made : (k : ℕ) (p : Part) (o : Made (List Part)) → fields_made k (followed (made p) o) ≡ fields_made (k + field_count (p ∷ [])) o
unfolding fields_made followed field_count
more_made k (stands b) (made ps) = let n : k + field_count ps ≡ k + 0 + field_count ps = omega arith in ap made n
more_made k (column f) (made ps) = let n : k + suc (field_count ps) ≡ k + 1 + field_count ps = omega arith in ap made n
more_made k p (stopped n j) = refl

-- a refusal has a number
some_number : (e : FormError) → number_of e ≡ 0 → ⊥
some_number NotOfGrammar z = omega arith
some_number OutsideSet z = omega arith

-- THE WALK over all items
module _ (words : List ℕ) (count : ℕ) (text : List ℕ) where
  -- what is made of all of them is what is made of those to come, after k fields
  pub record Walk (rs₀ : List Record) (i at k : ℕ) : Type 0 where
    pub rest : List Record
    pub stand : Stand words count (length text) i at rest
    pub same : fields_made k (parts_from text k (items_from 0 rest)) ≡ fields_made 0 (parts_from text 0 (items_from 0 rs₀))

  pub record Template-at (i at k : ℕ) : Type 0 where
    pub walks : (rs : List Record) → Stand words count (length text) 0 0 rs → Walk rs i at k
    pub before_end : i ≤ count
    pub within : at ≤ length text
    pub few : k ≤ i

  pub template_start : Template-at 0 0 0
  template_start = record { walks = λ rs s. record { rest = rs; stand = s; same = refl }; before_end = omega arith; within = omega arith; few = omega arith }

  abbrev Says : Result ℕ Refused → Type 0
  Says r = ((rs : List Record) → Stand words count (length text) 0 0 rs → says_count r ≡ fields_made 0 (parts_from text 0 (items_from 0 rs))) × (told_in r ≤ count)

  module _ (i at k : ℕ) (w : Template-at i at k) where
    nothing_left : (rest : List Record) → i + length rest ≡ count → count ≤ i → made k ≡ fields_made k (parts_from text k (items_from 0 rest))
    unfolding parts_from fields_made field_count
    nothing_left [] e h = let n : k ≡ k + 0 = omega arith in ap made n ∙ sym (ap (λ l. fields_made k (parts_from text k l)) (items_none 0))
    nothing_left (r ∷ rs) e h = absurd (omega arith)

    pub template_end : count ≤ i → Says (Ok k)
    template_end h =
        let f = w.few in
        let b = w.before_end in
        ((λ rs s. let x = w.walks rs s in nothing_left x.rest x.stand.whole h ∙ x.same), omega arith)

    module _ (l : i < count) (p : Place)
        (q : ((rs : List Record) → Stand words count (length text) i at rs → PlaceIs words count text at rs p) × (i < p.next) × (p.next ≤ count) × (at ≤ p.own) × (p.own ≤ p.to) × (p.to ≤ length text))
        (number : ℕ) (e : number ≡ number_in (field_part 0 p.kind p.mode p.nested [] (part text p.own p.to)))
      where
        abbrev this : ℕ → Made Part
        this j = part_at text at p j

        view : View text at p
        view = view_at text at p

        -- its number does not depend on its own text
        own_free : number_in (field_part 0 p.kind p.mode p.nested [] (part text p.own p.to)) ≡ number_in (this 0)
        unfolding field_part number_in
        own_free = cases (eqb p.kind 2) (λ b. rw b) (λ b. rw b)

        number_of_lem : {o : Made Part} → this 0 ≡ o → number ≡ number_in o
        number_of_lem f = e ∙ own_free ∙ ap number_in f

        past_is : (r : Record) → p.kind ≡ r.kind → fields_past k r ≡ k + (if eqb p.kind 2 then 1 else 0)
        unfolding fields_past
        past_is r f = rw (← f) (cases (eqb p.kind 2) (λ b. rw b (omega arith)) (λ b. rw b (omega arith)))

        pub template_stop : (why : FormError) → number ≡ number_of why → Says (Err (record { why = why; field = k }))
        unfolding number_in followed fields_made
        template_stop why w' = by-view view
          where
            z : number ≡ 0 → ⊥
            z e' = some_number why (sym w' ∙ e')

            by-view : View text at p → Says (Err (record { why = why; field = k }))
            by-view (is_text_lem b f) = absurd (z (number_of_lem (f 0)))
            by-view (is_field_lem b x g f) = absurd (z (number_of_lem (f 0)))
            by-view (is_refused b m h f) = (
              (λ rs s.
                  let x = w.walks rs s in
                  let y = q.0 x.rest x.stand in
                  ap (λ j. stopped j k) (sym w' ∙ number_of_lem (f 0))
                  ∙ sym (ap (λ o. fields_made k (followed o (parts_from text (fields_past k y.item) (items_from 0 y.rest)))) (f k))
                  ∙ sym (ap (fields_made k) (parts_step words count text at p k x.rest y))
                  ∙ x.same),
              (let c = w.few in let b = w.before_end in omega arith),
            )

        module _ (z : number ≡ 0) where
          goes_on : (o : Part) → ((j : ℕ) → this j ≡ made o) → field_count (o ∷ []) ≡ (if eqb p.kind 2 then 1 else 0) → Template-at p.next p.to (k + (if eqb p.kind 2 then 1 else 0))
          goes_on o f c =
              let b = w.few in
              let d = few (eqb p.kind 2) in
              let a = q.1 in
              record {
                walks = λ rs s.
                    let x = w.walks rs s in
                    let y = q.0 x.rest x.stand in
                    let n = past_is y.item y.kind in
                    record {
                      rest = y.rest;
                      stand = y.stand;
                      same = ap (λ j. fields_made (k + (if eqb p.kind 2 then 1 else 0)) (parts_from text j (items_from 0 y.rest))) (sym n)
                          ∙ ap (λ j. fields_made (k + j) (parts_from text (fields_past k y.item) (items_from 0 y.rest))) (sym c)
                          ∙ sym (more_made k o (parts_from text (fields_past k y.item) (items_from 0 y.rest)))
                          ∙ sym (ap (λ u. fields_made k (followed u (parts_from text (fields_past k y.item) (items_from 0 y.rest)))) (f k))
                          ∙ sym (ap (fields_made k) (parts_step words count text at p k x.rest y))
                          ∙ x.same;
                    };
                before_end = q.2;
                within = q.5;
                few = omega arith;
              }
            where
              few : (b : Bool) → (if b then 1 else 0) ≤ 1
              few true = omega arith
              few false = omega arith

          pub template_next : Template-at p.next p.to (k + (if eqb p.kind 2 then 1 else 0))
          unfolding number_in field_count
          template_next = by-view view
            where
              by-view : View text at p → Template-at p.next p.to (k + (if eqb p.kind 2 then 1 else 0))
              by-view (is_text_lem b f) = goes_on (stands (part text at p.own)) f (sym (ap (λ (c : Bool). if c then 1 else 0) b))
              by-view (is_field_lem b x g f) = goes_on (column x) f (sym (ap (λ (c : Bool). if c then 1 else 0) b))
              by-view (is_refused b m h f) = absurd (h (sym (number_of_lem (f 0)) ∙ z))

-- OF ANY WORDS
pub said_laid : (words : List ℕ) (count : ℕ) (text : List ℕ) {n : ℕ} (r : Result ℕ Refused) → n ≡ records_in words count → Says words n text r
    → (says_count r ≡ fields_made 0 (parts_laid words count text)) × (told_in r ≤ records_in words count)
unfolding parts_laid
said_laid words count text r e s = let q = rw e at s in (q.0 (laid_from (records_in words count) 0 0 (length text) words) (laid_stands words (records_in words count) (length text)), q.1)
