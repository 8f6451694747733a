-- The checks 4 to 7 in one pass: what holds before each literal. Assumes nothing.
use Rattle.std.specs.Prelude.{if◌then◌else◌}
use mathlib.Core.Path.{◌≡◌, refl, sym, ◌∙◌, ap, subst}
use mathlib.Core.Bool.{Bool, true, false}
use mathlib.Core.List.{List, [], ◌∷◌}
use mathlib.Core.Option.{none}
use Prim.Native.Nat.{ℕ, ◌+◌, ◌-◌, ◌≤◌, ◌<◌}
use native.Mathlib.Nat.{sub-zero}
use native.Mathlib.Numerals.{add-one}
use native.Mathlib.Omega.{arith}
use borrow.Author.Tests.{le-ltb}
use Rattle.definition.specs.Numbers.{is_bytes}
use Rattle.definition.specs.Entry.{Literal, Refusal, bad, ill_formed, first_bad, total, any_of, all_good, not_long, all_utf8, not_mixed, first_of}
use Rattle.definition.specs.Reading.{accepts, all_chars, outcome_of}
use Rattle.definition.proofs.Moves.CharLaws.{cases}
use Rattle.entry.specs.declared.Descriptor.{Descriptor}
use Rattle.entry.specs.declared.Class.{Class}
use Rattle.entry.specs.declared.Class.TheVariants.{Bytes, Others}
use Rattle.entry.specs.Answers.{described, six, is_of, later_checks, check_numbers}
use Rattle.entry.specs.Literals.{literal_at, literals}
use Rattle.checks.specs.Passing.{Passes}
use Rattle.entry.proofs.Literals.{end_before, bad_from, bad_turn, bad_none, total_turn, none_left, chars_turn, chars_none, any_turn, any_none}
use Rattle.entry.proofs.Checks.{checked_few}
use Rattle.entry.proofs.Passed.{why, why_not}

-- the class that must not stand beside a kind is nowhere: they are not mixed
abbrev pub other_of : Bool → Class
other_of b = if b then Others else Bytes

pub unmixed : (b : Bool) (ls : List Literal) → any_of (is_of (other_of b)) ls ≡ false → not_mixed ls ≡ none
unfolding not_mixed
unmixed true ls e = cases (any_of is_bytes ls) (λ t. rw (t, e) refl) (λ t. rw (t) refl)
unmixed false ls e = rw (e) refl

-- none of the four checks refuses
pub all_pass : (script : List ℕ) (ls : List Literal) → all_good script ls ≡ none → total ls ≤ 1048576 → all_utf8 script ls ≡ none → not_mixed ls ≡ none → later_checks script ls ≡ none
unfolding later_checks not_long first_of
all_pass script ls g t u m = rw (later_checks, g, le-ltb 1048576 (total ls) t, u, m)

module _ (script ns : List ℕ) (n : ℕ) (other : Class) where
  abbrev ls : List Literal
  ls = literals ns 0 n

  -- before literal i: it and those after it decide
  pub record Going (previous left chars i : ℕ) : Type 0 where
    pub ends : previous ≡ end_before ns i
    pub good : all_good script ls ≡ bad_from ns n (bad script) why i
    pub formed : all_utf8 script ls ≡ bad_from ns n (ill_formed script) (why_not script) i
    pub room : total ls + left ≡ 1048576 + total (literals ns i (n - i))
    pub counts : all_chars script ls ≡ chars + all_chars script (literals ns i (n - i))
    pub few : chars + left ≤ 1048576
    pub apart : any_of (is_of other) ls ≡ any_of (is_of other) (literals ns i (n - i))

  pub at_first : Going 0 1048576 0 0
  unfolding end_before all_good all_utf8
  at_first =
      record {
        ends = refl;
        good = rw sub-zero;
        formed = rw sub-zero;
        room = rw sub-zero (omega arith);
        counts = rw sub-zero (omega arith);
        few = omega arith;
        apart = rw sub-zero;
      }

  module _ (previous left chars i : ℕ) (g : Going previous left chars i) where
    pub at_next : i < n → (l : Descriptor) → described l ≡ literal_at ns i → is_of other l.kind ≡ false → (m : ℕ) → Passes script previous left (described l) m → Going l.end (left - l.size) (chars + m) (i + 1)
    unfolding end_before described
    at_next h l q t m p =
        record {
          ends = rw (add-one i) (ap (λ x. x.end) q);
          good = g.good ∙ bad_turn ns n (bad script) why i h (rw (← g.ends, ← q) p.good);
          formed = g.formed ∙ bad_turn ns n (ill_formed script) (why_not script) i h (rw (← q) (p.formed (end_before ns i)));
          room = omega (arith, g.room, p.short, total_turn ns n i h, ap (λ x. x.size) q);
          counts = omega (arith, g.counts, chars_turn ns n script i h, rw q at p.counts);
          few = omega (arith, g.few, p.few, p.short);
          apart = g.apart ∙ any_turn ns n (is_of other) i h (rw (← q) t);
        }

    pub at_end_lem : (b : Bool) → other ≡ other_of b → n ≤ i → (chars ≡ all_chars script ls) × (later_checks script ls ≡ none)
    unfolding total
    at_end_lem b e h = (
      omega (arith, g.counts, chars_none ns n script i h),
      all_pass script ls (g.good ∙ bad_none ns n (bad script) why i h) (omega (arith, g.room, ap total (none_left ns n i h)))
          (g.formed ∙ bad_none ns n (ill_formed script) (why_not script) i h) (unmixed b ls (subst (λ k. any_of (is_of k) ls ≡ false) e (g.apart ∙ any_none ns n (is_of other) i h))),
    )

-- a list of one literal
pub one_checked : (script : List ℕ) (l : Descriptor) → check_numbers script (six l) ≡ outcome_of (all_chars script (described l ∷ [])) (later_checks script (described l ∷ []))
unfolding six literals literal_at described
one_checked script l = checked_few script (six l) 1 refl (omega arith) (omega arith)

one_unmixed : (l : Literal) → not_mixed (l ∷ []) ≡ none
unfolding any_of
one_unmixed l = cases (is_bytes l.kind) (λ t. unmixed true (l ∷ []) (rw t)) (λ t. unmixed false (l ∷ []) (rw t))

one_not_bad : (test : ℕ → Literal → Bool) (r : ℕ → Literal → Refusal) (l : Literal) → test 0 l ≡ false → first_bad test r 0 0 (l ∷ []) ≡ none
unfolding first_bad
one_not_bad test r l e = rw (e, first_bad)

pub one_passes : (script : List ℕ) (l : Descriptor) (m : ℕ) → Passes script 0 1048576 (described l) m → accepts m ≡ check_numbers script (six l)
unfolding all_good all_utf8 total all_chars outcome_of
one_passes script l m p =
    let x = described l in
    let z : m ≡ all_chars script (x ∷ []) = omega (arith, p.counts) in
    let y = all_pass script (x ∷ []) (one_not_bad (bad script) why x p.good) (omega (arith, p.short)) (one_not_bad (ill_formed script) (why_not script) x (p.formed 0)) (one_unmixed x) in
    ap accepts z ∙ sym (one_checked script l ∙ ap (outcome_of (all_chars script (x ∷ []))) y)
