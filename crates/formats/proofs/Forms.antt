-- The form of a text from its parts. Assumes nothing.
use Rattle.std.specs.Prelude.{if◌then◌else◌, Ok, Err}
use mathlib.Core.Path.{◌≡◌, refl, sym, ◌∙◌, ap}
use mathlib.Core.Bool.{Bool, true, false, ◌&&◌, not}
use mathlib.Core.List.{List, [], ◌∷◌}
use mathlib.Core.Option.{none, some}
use Prim.Native.Nat.{ℕ, zero, suc, ◌-◌, ◌≤◌, ◌<◌}
use native.Mathlib.Omega.{arith}
use lib.Dec.{eqb}
use lib.ListN.{length, take, drop_of_length-le}
use lib.Seq.{drop-cons}
use borrow.Author.Tests.{ne_eqb, eq-eqb, lt-ltb, le-ltb}
use Rattle.definition.specs.Chars.{◌is◌}
use Rattle.definition_replay.specs.Spec.{nothing, parts_of, behind_type, spec_of}
use Rattle.definition_replay.specs.Integers.{decimal, decimal_from, base_of, outside_of, form_in, form_of}
use Rattle.definition_replay.specs.Replay.{made, stopped, column, form_made}
use Rattle.definition_replay_laws.proofs.Integers.WrittenLaws.{base_big}
use Rattle.definition_replay.specs.SpecNumbers.{told_of}
use Rattle.integers.specs.Written.{formed}
use Rattle.formats.specs.declared.Parts.{Parts}
use Rattle.formats.specs.declared.FormError.{FormError}
use Rattle.formats.specs.declared.FormError.TheVariants.{NotOfGrammar, OutsideSet}
use Rattle.formats.specs.Parts.{PartsIs, number_of, FormIs}
use Rattle.formats.proofs.Sets.{told_none}

-- THE SMALL FUNCTIONS
pub apart_not : (grouping base : ℕ) → (grouping ≡ 44 → ⊥) → false ≡ (grouping is "," && not (eqb base 10))
apart_not grouping base n = rw (ne_eqb grouping 44 n)

pub apart_is : (grouping base : ℕ) → grouping ≡ 44 → not (eqb base 10) ≡ (grouping is "," && not (eqb base 10))
apart_is grouping base e = rw (eq-eqb grouping 44 e)

module _ (part nought with without : ℕ) where
  pub or_part : (part ≡ 0 → ⊥) → part ≡ (if eqb part 0 then (if eqb nought 0 then without else with) else part)
  or_part n = rw (ne_eqb part 0 n)

  pub or_without : part ≡ 0 → nought ≡ 0 → without ≡ (if eqb part 0 then (if eqb nought 0 then without else with) else part)
  or_without e f = rw (eq-eqb part 0 e, eq-eqb nought 0 f)

  pub or_with : part ≡ 0 → (nought ≡ 0 → ⊥) → with ≡ (if eqb part 0 then (if eqb nought 0 then without else with) else part)
  or_with e f = rw (eq-eqb part 0 e, ne_eqb nought 0 f)

-- WIDTHS
module _ (ds : List ℕ) {told : ℕ} (t : told ≡ told_of ds) where
  pub told_some : (told ≡ 0 → ⊥) → nothing ds ≡ false
  unfolding nothing told_of
  told_some n = go ds t
    where
      go : (ds : List ℕ) → told ≡ told_of ds → nothing ds ≡ false
      go [] t = absurd (n t)
      go (d ∷ ds) t = refl

  told_over : 65 < told → 64 < decimal ds
  unfolding told_of
  told_over h = go ds t
    where
      go : (ds : List ℕ) → told ≡ told_of ds → 64 < decimal ds
      go [] t = absurd (omega arith)
      go (d ∷ ds) t = omega arith

  told_under : told ≤ 65 → told - 1 ≡ decimal ds
  unfolding told_of decimal_from
  told_under h = go ds t
    where
      go : (ds : List ℕ) → told ≡ told_of ds → told - 1 ≡ decimal ds
      go [] t = omega arith
      go (d ∷ ds) t = omega arith

nothing_taken : (n : ℕ) (s : List ℕ) → n ≤ length s → nothing (take n s) ≡ eqb n 0
unfolding nothing
nothing_taken zero s h = refl
nothing_taken (suc n) [] h = absurd (omega arith)
nothing_taken (suc n) (b ∷ s) h = sym (ne_eqb (suc n) 0 (λ e. omega arith))

-- THE FORM
module _ (s : List ℕ) {p : Parts} (x : PartsIs s p) where
  pub spec_none : p.end < length s → spec_of s ≡ none
  unfolding spec_of nothing
  spec_none h = let e : nothing (behind_type s) ≡ false = sym (ap nothing x.rest) ∙ ap nothing (drop-cons s p.end 0 h) in rw e

  pub spec_some : length s ≤ p.end → spec_of s ≡ some (parts_of s)
  unfolding spec_of nothing
  spec_some h = let e : nothing (behind_type s) ≡ true = sym (ap nothing x.rest) ∙ ap nothing (drop_of_length-le s h) in rw e

  stops : (e : FormError) → ((k : ℕ) → stopped (number_of e) k ≡ form_made k 0 s) → FormIs s (Err e)
  stops e m = record { told = m; form = tt }

  pub form_none : p.end < length s → FormIs s (Err NotOfGrammar)
  unfolding form_made
  form_none h = stops NotOfGrammar (λ k. rw (spec_none h, form_made))

  form_out : length s ≤ p.end → outside_of (parts_of s) ≡ true → FormIs s (Err OutsideSet)
  unfolding form_made form_of
  form_out h o = stops OutsideSet (λ k. rw (spec_some h, form_made, o, form_made))

  module _ (h : length s ≤ p.end) where
    pub form_z : (p.z ≡ 0 → ⊥) → FormIs s (Err OutsideSet)
    unfolding outside_of
    form_z n = form_out h (rw (ne_eqb (parts_of s).z 0 (λ f. n (x.z ∙ f))))

    module _ (z : p.z ≡ 0) where
      z_is : eqb (parts_of s).z 0 ≡ true
      z_is = eq-eqb (parts_of s).z 0 (sym x.z ∙ z)

      pub form_precision : (p.precision ≡ 0 → ⊥) → FormIs s (Err OutsideSet)
      unfolding outside_of
      form_precision n = form_out h (rw (z_is, told_some (parts_of s).precision x.precision n))

      module _ (q : p.precision ≡ 0) {base : ℕ} (b : base ≡ base_of p.kind) where
        none_is : nothing (parts_of s).precision ≡ true
        unfolding nothing
        none_is = rw (told_none (parts_of s).precision x.precision q)

        base_is : base ≡ base_of (parts_of s).type
        base_is = b ∙ ap base_of x.kind

        pub form_base : base ≡ 0 → FormIs s (Err OutsideSet)
        unfolding outside_of
        form_base f = form_out h (rw (z_is, none_is, eq-eqb (base_of (parts_of s).type) 0 (sym base_is ∙ f)))

        module _ (n : base ≡ 0 → ⊥) where
          based : eqb (base_of (parts_of s).type) 0 ≡ false
          based = ne_eqb (base_of (parts_of s).type) 0 (λ f. n (base_is ∙ f))

          pub form_wide : 65 < p.width → FormIs s (Err OutsideSet)
          unfolding outside_of
          form_wide w = form_out h (rw (z_is, none_is, based, lt-ltb 64 (decimal (parts_of s).width) (told_over (parts_of s).width x.width w)))

          pub form_apart : {apart : Bool} → p.width ≤ 65 → apart ≡ (p.grouping is "," && not (eqb base 10)) → apart ≡ true → FormIs s (Err OutsideSet)
          unfolding outside_of
          form_apart w a y =
              let u = told_under (parts_of s).width x.width w in
              let v = le-ltb 64 (decimal (parts_of s).width) (omega arith) in
              let g : ((parts_of s).grouping is "," && not (eqb (base_of (parts_of s).type) 10)) ≡ true = sym (λ i. x.grouping i is "," && not (eqb (base_is i) 10)) ∙ sym a ∙ y in
              form_out h (rw (z_is, none_is, based, v, g))

  -- within the set
  module _ {base : ℕ} {apart : Bool} (h : length s ≤ p.end) (z : p.z ≡ 0) (q : p.precision ≡ 0) (b : base ≡ base_of p.kind) (n : base ≡ 0 → ⊥) (w : p.width ≤ 65)
      (a : apart ≡ (p.grouping is "," && not (eqb base 10))) (y : apart ≡ false)
    where
      inside : outside_of (parts_of s) ≡ false
      unfolding outside_of nothing
      inside =
          let u = told_under (parts_of s).width x.width w in
          let v = le-ltb 64 (decimal (parts_of s).width) (omega arith) in
          let k = b ∙ ap base_of x.kind in
          let g : ((parts_of s).grouping is "," && not (eqb (base_of (parts_of s).type) 10)) ≡ false = sym (λ i. x.grouping i is "," && not (eqb (k i) 10)) ∙ sym a ∙ y in
          rw (
            eq-eqb (parts_of s).z 0 (sym x.z ∙ z),
            told_none (parts_of s).precision x.precision q,
            ne_eqb (base_of (parts_of s).type) 0 (λ f. n (k ∙ f)),
            v,
            g,
          )

      fill_is : {pad : ℕ} → pad ≡ (if eqb p.nought 0 then 32 else 48) → (if eqb p.fill 0 then pad ∷ [] else take p.fill s) ≡ (form_in (parts_of s)).fill
      unfolding form_in parts_of
      fill_is {pad} d =
          let t = nothing_taken p.fill s x.within in
          let f : take p.fill s ≡ (parts_of s).fill = ap (λ m. take m s) x.fill in
          (λ i. if sym t i then (d ∙ ap (λ m. if eqb m 0 then 32 else 48) x.nought) i ∷ [] else take p.fill s)
          ∙ ap (λ l. if nothing l then (if eqb (parts_of s).nought 0 then 32 else 48) ∷ [] else l) f

      pub form_in_lem : {pad align width : ℕ} → pad ≡ (if eqb p.nought 0 then 32 else 48)
          → align ≡ (if eqb p.align 0 then (if eqb p.nought 0 then 62 else 61) else p.align) → width ≡ p.width - 1
          → FormIs s
          (Ok (record {
            fill = p.fill;
            pad = pad;
            shape = record { align = align; sign = p.sign; alternate = not (eqb p.alternate 0); width = width; grouping = p.grouping; kind = p.kind };
          }))
      unfolding form_made form_of form_in
      form_in_lem {pad} {align} {width} d al wi =
          record {
            told = λ k. ap (λ f. made (column f)) same ∙ rw (spec_some h, form_made, inside, form_made);
            form = record {
              base = base_big p.kind (ne_eqb (base_of p.kind) 0 (λ g. n (b ∙ g)));
              width = omega arith;
              short = x.short;
              within = x.within;
            };
          }
        where
          same : formed (if eqb p.fill 0 then pad ∷ [] else take p.fill s)
              (record { align = align; sign = p.sign; alternate = not (eqb p.alternate 0); width = width; grouping = p.grouping; kind = p.kind })
              ≡ form_in (parts_of s)
          same = λ i.
              record {
                fill = fill_is d i;
                align = (al ∙ (λ j. if eqb (x.align j) 0 then (if eqb (x.nought j) 0 then 62 else 61) else x.align j)) i;
                sign = x.sign i;
                alternate = not (eqb (x.alternate i) 0);
                width = (wi ∙ told_under (parts_of s).width x.width w) i;
                grouping = x.grouping i;
                type = x.kind i;
              }
