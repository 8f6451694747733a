-- What is known of numbers that pass the checks, and what flat numbers read as by them. Assumes nothing.
use Rattle.std.specs.Prelude.{if◌then◌else◌}
use mathlib.Core.Path.{◌≡◌, refl, sym, ◌∙◌}
use mathlib.Core.Bool.{Bool, true, false, ◌||◌}
use mathlib.Core.List.{List, [], ◌∷◌}
use mathlib.Core.Option.{Option, none, some}
use Prim.Native.Nat.{ℕ, zero, suc, ◌+◌, ◌-◌, ◌*◌, ◌/◌, ◌%◌, ◌≤◌, ◌<◌}
use native.Mathlib.Nat.{sub-zero}
use native.Mathlib.Numerals.{add-one}
use native.Mathlib.Omega.{arith}
use borrow.Author.Tests.{ltb-false, eqb-true, eqb-false}
use lib.Dec.{ltb, eqb}
use lib.ListN.{length, length-take, length-drop}
use Rattle.definition.specs.Numbers.{not_sixes, bad_descriptor, too_many_literals, bodies_too_long, not_utf8}
use Rattle.definition.specs.Chars.{well_formed}
use Rattle.definition.specs.Escapes.{Naming}
use Rattle.definition.specs.Entry.{Literal, sixes, opening, place_of, body, Refusal, refusal, not_empty, not_many, first_bad, bad, all_good, total, not_long, formed, ill_formed, all_utf8, not_mixed, first_of, entry}
use Rattle.definition.specs.Reading.{accepts, refuses, all_chars, and_then, read_literal, read_from, answered, read, roomed, called, read_into, read_numbers, numbers_by}
use Rattle.definition.proofs.Moves.CharLaws.{cases}
use Rattle.entry.specs.Answers.{check_numbers}
use Rattle.entry.specs.Literals.{literal_at, literals}
use Rattle.entry.proofs.Literals.{end_before, bad_from, bad_turn, bad_found, none_left, one_left, length_literals, sixes_some}
use Rattle.entry.proofs.Checks.{clash, passes, passes_all, refused, checked_not_sixes, checked}

-- A good descriptor
pub record Good (script : List ℕ) (l : Literal) : Type 0 where
  pub known : l.kind ≤ 6
  pub inside : l.offset + l.size ≤ length script
  pub fits : l.start + opening l + l.size ≤ l.end

-- tests that all failed
pub both : (a b : Bool) → a || b ≡ false → (a ≡ false) × (b ≡ false)
both true b e = (cc, cc)
both false b e = (refl, e)

-- a descriptor that is not bad is good
pub not_bad : (script : List ℕ) (previous : ℕ) (l : Literal) → bad script previous l ≡ false → Good script l
unfolding bad place_of
not_bad script previous l e =
    let h₅ = both _ _ e in
    let h₄ = both _ _ h₅.0 in
    let h₃ = both _ _ h₄.0 in
    let h₂ = both _ _ h₃.0 in
    let h₁ = both _ _ h₂.0 in
    record { known = ltb-false _ _ h₁.0; inside = ltb-false _ _ h₂.1; fits = ltb-false _ _ h₅.1 }

-- the refusal of a bad descriptor
abbrev pub why : ℕ → Literal → Refusal
why i l = refusal bad_descriptor i 0 0 0

-- that of a body that is not UTF-8
abbrev pub why_not : List ℕ → ℕ → Literal → Refusal
why_not script i l = refusal not_utf8 i (place_of l (formed script l)) 0 0

-- a test that finds no literal bad fails for each
module _ (ns : List ℕ) (n : ℕ) (test : ℕ → Literal → Bool) (why : ℕ → Literal → Refusal) (e : first_bad test why 0 0 (literals ns 0 n) ≡ none) where
  none_to : (i : ℕ) → i ≤ n → bad_from ns n test why i ≡ none
  unfolding end_before
  none_to zero h = rw sub-zero e
  none_to (suc i) h =
      let b = none_to i (omega arith) in
      let l : i < n = h in
      cases (test (end_before ns i) (literal_at ns i)) (λ t. (let z = sym (bad_found ns n test why i l t) ∙ b in cc))
      (λ t. rw (← add-one i) (sym (bad_turn ns n test why i l t) ∙ b))

  none_at : (i : ℕ) → i < n → test (end_before ns i) (literal_at ns i) ≡ false
  none_at i h =
      cases (test (end_before ns i) (literal_at ns i)) (λ t. clash (let y = sym (bad_found ns n test why i h t) ∙ none_to i (omega arith) in cc)) (λ t. t)

module _ (script ns : List ℕ) (n : ℕ) where
  -- 4 found none: each is good
  pub good_at : all_good script (literals ns 0 n) ≡ none → (i : ℕ) → i < n → Good script (literal_at ns i)
  unfolding all_good
  good_at e i h = not_bad script (end_before ns i) (literal_at ns i) (none_at ns n (bad script) why e i h)

  -- 6 found none: each body is well-formed up to its end
  formed_at : all_utf8 script (literals ns 0 n) ≡ none → (i : ℕ) → i < n → let s = body script (literal_at ns i) in length s ≤ well_formed s
  unfolding all_utf8 ill_formed formed
  formed_at e i h = ltb-false _ _ (none_at ns n (ill_formed script) (why_not script) e i h)

-- the body of a good descriptor is whole
pub length_body : (script : List ℕ) (l : Literal) → Good script l → length (body script l) ≡ l.size
unfolding body
length_body script l g = let h = g.inside in simp (length-take, length-drop) (omega arith)

-- what a list of checks without a refusal says of each
abbrev Nones : List (Option Refusal) → Type 0
Nones [] = Unit {0}
Nones (c ∷ cs) = (c ≡ none) × Nones cs

nones : (cs : List (Option Refusal)) → first_of cs ≡ none → Nones cs
unfolding first_of
nones [] e = tt
nones (none ∷ cs) e = (refl, nones cs e)
nones (some r ∷ cs) e = (e, clash cc)

-- a limit's check without a refusal
within : (limit n : ℕ) (r : Refusal) → (if ltb limit n then some r else none) ≡ none → n ≤ limit
within limit n r e = cases (ltb limit n) (λ t. clash (let y = rw t at e in cc)) (λ t. ltb-false _ _ t)

-- 5 without a refusal
pub not_long_lem : (ls : List Literal) → not_long ls ≡ none → total ls ≤ 1048576
unfolding not_long
not_long_lem ls e = within 1048576 (total ls) (refusal bodies_too_long 0 0 0 0) e

-- 1 without a refusal
some_literal : (ns : List ℕ) (n : ℕ) → not_empty (literals ns 0 n) ≡ none → 0 < n
unfolding literals not_empty
some_literal ns zero e = clash cc
some_literal ns (suc n) e = omega arith

-- What is known of n literals that passed
pub record Passed (script ns : List ℕ) (n : ℕ) : Type 0 where
  pub listed : sixes ns ≡ some (literals ns 0 n)
  pub enters : entry script (literals ns 0 n) ≡ none
  pub any : 0 < n
  pub few : n ≤ 1024
  pub good : (i : ℕ) → i < n → Good script (literal_at ns i)
  pub short : total (literals ns 0 n) ≤ 1048576
  pub formed : (i : ℕ) → i < n → let s = body script (literal_at ns i) in length s ≤ well_formed s
  pub unmixed : not_mixed (literals ns 0 n) ≡ none

module _ (script ns : List ℕ) where
  -- by the definition's checks
  entered : (n : ℕ) → length ns ≡ n * 6 → entry script (literals ns 0 n) ≡ none → Passed script ns n
  unfolding entry not_many
  entered n six e =
      let ls = literals ns 0 n in
      let h = nones (not_empty ls ∷ not_many ls ∷ all_good script ls ∷ not_long ls ∷ all_utf8 script ls ∷ not_mixed ls ∷ []) e in
      record {
        listed = sixes_some ns n six;
        enters = e;
        any = some_literal ns n h.0;
        few = rw (length_literals ns 0 n) at (within 1024 (length ls) (refusal too_many_literals 0 0 0 0) h.1.0);
        good = good_at script ns n h.1.1.0;
        short = not_long_lem ls h.1.1.1.0;
        formed = formed_at script ns n h.1.1.1.1.0;
        unmixed = h.1.1.1.1.1.0;
      }

  -- by what the checks of flat numbers say
  pub passed : (k : ℕ) → accepts k ≡ check_numbers script ns → Passed script ns (length ns / 6) × (k ≡ all_chars script (literals ns 0 (length ns / 6)))
  passed k e =
      cases (eqb (length ns % 6) 0)
      (λ t.
      let z : length ns % 6 ≡ 0 = eqb-true _ _ t in
      let six : length ns ≡ length ns / 6 * 6 = omega arith in
      let h = e ∙ checked script ns (length ns / 6) six in
      (entered (length ns / 6) six (passes _ _ _ h), passes_all _ _ _ h))
      (λ t. clash (let y = e ∙ checked_not_sixes script ns (eqb-false _ _ t) in cc))

module _ (look : Naming) (script ns : List ℕ) where
  -- what a call gives then: the refusal, or the literals' reading
  module _ (words text : List ℕ) where
    pub refused_reads : (r : Refusal) → refuses r ≡ check_numbers script ns → read_numbers look script ns words text ≡ called (refuses r) words text
    unfolding check_numbers read_numbers numbers_by read_into read roomed
    refused_reads r e = go (sixes ns) refl
      where
        go : (o : Option (List Literal)) → sixes ns ≡ o → read_numbers look script ns words text ≡ called (refuses r) words text
        go none q = let h : r ≡ refusal not_sixes 0 0 0 0 = (let y = rw (q, check_numbers) at e in cc) in rw (q, read_numbers, numbers_by, h)
        go (some ls) q = rw (q, read_numbers, numbers_by, read_into, refused _ r _ (rw (q, check_numbers) at e), read, roomed)

    pub passed_reads : (n : ℕ) → Passed script ns n → let ls = literals ns 0 n in read_numbers look script ns words text ≡ called (roomed (length words) (length text) (answered script ls (read_from look script 0 ls))) words text
    unfolding read_numbers numbers_by read_into read
    passed_reads n p = rw (p.listed, read_numbers, numbers_by, p.enters, read)

  -- literal by literal
  module _ (n i : ℕ) where
    pub read_turn : i < n → read_from look script i (literals ns i (n - i)) ≡ and_then (read_literal look script i (literal_at ns i)) (read_from look script (i + 1) (literals ns (i + 1) (n - (i + 1))))
    unfolding read_from
    read_turn h = rw (one_left ns n i h, add-one i)

    pub read_end : n ≤ i → read_from look script i (literals ns i (n - i)) ≡ accepts []
    unfolding read_from
    read_end h = rw (none_left ns n i h)
