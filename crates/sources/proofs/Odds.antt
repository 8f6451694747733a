-- Where Python reads a source otherwise, as the code goes over it. Assumes nothing.
use Rattle.std.specs.Prelude.{if◌then◌else◌, min, leb}
use mathlib.Core.Path.{◌≡◌, refl, sym, subst, ◌∙◌, ap, ap₂}
use mathlib.Core.Bool.{Bool, true, false, not}
use mathlib.Core.List.{List, []}
use Prim.Native.Nat.{ℕ, ◌+◌, ◌-◌, ◌≤◌, ◌<◌}
use native.Mathlib.Omega.{arith}
use borrow.Author.Tests.{lt-ltb, le-ltb, ltb-true, leb-true, leb-false, eq-eqb, ne_eqb}
use lib.Dec.{ltb, eqb}
use lib.ListN.{length, get_or, take, length-take, get_or-eq_default}
use Rattle.definition.specs.Chars.{◌is◌, byte}
use Rattle.definition_scripts.specs.Opening.{opens, is_sign, first_at}
use Rattle.definition_scripts.specs.IsRun.{IsLiteral}
use Rattle.definition_scripts.specs.IsCut.{reaches_end, breaks_off, Begins, IsCut}
use Rattle.definition_scripts.specs.Cut.{Cut, first_cut, cut_from, cut_part}
use Rattle.definition_scripts.specs.Listing.{reached, source_end, first_in, quoted_inside, first_odd, more_after, spec_backslash, least, otherwise}
use Rattle.definition.proofs.Moves.CharLaws.{cases, byte_is, before_here, before_next}
use Rattle.definition_scripts_laws.proofs.Literals.OpeningLaws.{opens_in}
use Rattle.definition_scripts_laws.proofs.Literals.LiteralFound.{literal_lies}
use Rattle.definition_scripts_laws.proofs.Cut.CutLaws.{cut_is}
use Rattle.found.specs.declared.Literal.{Literal}
use Rattle.found.specs.Found.{literal_of}
use Rattle.sources.specs.declared.Field.{Field}
use Rattle.sources.specs.Source.{capped, Inside, odd_from, odd_of, signs_of, row_of, Source, otherwise_of}

-- A SCAN from an index up to an end that has come to i
pub record Scanning (test : ℕ → Bool) (s : List ℕ) (from end i : ℕ) : Type 0 where
  pub within : i ≤ end
  pub same : first_at test s from ≡ first_at test s i

module _ (test : ℕ → Bool) (s : List ℕ) (from end i : ℕ) (p : Scanning test s from end i) where
  pub scan_here : i < end → end ≤ length s → test (get_or s i 0) ≡ true → i ≡ capped test s from end
  scan_here h l t =
      let e : first_at test s from ≡ i = p.same ∙ before_here test s i 0 (omega arith) t in sym (rw (e, lt-ltb i end h))

  pub scan_next : i < end → end ≤ length s → test (get_or s i 0) ≡ false → Scanning test s from end (i + 1)
  scan_next h l t = record { within = omega arith; same = p.same ∙ before_next test s i 0 (omega arith) t }

  pub scan_end : end ≤ i → end ≡ capped test s from end
  scan_end h =
      let w = p.within in
      let e = p.same in
      sym (rw (le-ltb (first_at test s from) end (omega arith)))

-- a literal with its own quote inside
module _ (s : List ℕ) (l : Literal) (p : Inside s l) where
  pub not_triple : (l.triple ≡ 1 → ⊥) → false ≡ quoted_inside s (literal_of l)
  unfolding quoted_inside
  not_triple n = rw (ne_eqb l.triple 1 n)

  pub is_triple : (b k : ℕ) → l.triple ≡ 1 → b ≡ get_or s (l.end - 1) 0 → k ≡ capped (λ x. eqb x b) s l.offset (l.offset + l.size) → ltb k (l.offset + l.size) ≡ quoted_inside s (literal_of l)
  unfolding quoted_inside
  is_triple b k t e f =
      let a = p.ahead in
      let d = p.end_in in
      let q : byte s (l.end - 1) ≡ b = sym (byte_is s (l.end - 1) (omega arith)) ∙ sym e in
      let first = first_at (λ x. eqb x b) s l.offset in
      rw (eq-eqb l.triple 1 t, q, f) (same (ltb first (l.offset + l.size)) first refl)
    where
      same : (t : Bool) (n : ℕ) → ltb n (l.offset + l.size) ≡ t → ltb (if t then n else (l.offset + l.size)) (l.offset + l.size) ≡ t
      same true n e = e
      same false n e = le-ltb (l.offset + l.size) (l.offset + l.size) (omega arith)

-- what was found before an end is the first
capped_found : (test : ℕ → Bool) (s : List ℕ) (i j n : ℕ) → (if ltb (capped test s i j) j then capped test s i j else n) ≡ (if ltb (first_at test s i) j then first_at test s i else n)
capped_found test s i j n = go (ltb (first_at test s i) j) refl
  where
    go : (t : Bool) → ltb (first_at test s i) j ≡ t → (if ltb (if t then first_at test s i else j) j then (if t then first_at test s i else j) else n) ≡ (if t then first_at test s i else n)
    go true e = rw e
    go false e = rw (le-ltb j j (omega arith))

capped_below : (test : ℕ → Bool) (s : List ℕ) (i j : ℕ) → capped test s i j < j → (ltb (first_at test s i) j ≡ true) × (capped test s i j ≡ first_at test s i)
capped_below test s i j h = cases (ltb (first_at test s i) j) (λ e. (e, rw e)) (λ e. let k : j < j = rw e at h in absurd (omega arith))

capped_none : (test : ℕ → Bool) (s : List ℕ) (i j : ℕ) → j ≤ capped test s i j → ltb (first_at test s i) j ≡ false
capped_none test s i j h = cases (ltb (first_at test s i) j) (λ e. let k : j ≤ first_at test s i = rw e at h in let l = ltb-true (first_at test s i) j e in absurd (omega arith)) (λ e. e)

-- A SOURCE of a script, walked literal by literal
pub record Odding (s : List ℕ) (from end at : ℕ) : Type 0 where
  pub within : at ≤ end
  pub same : odd_of s from end ≡ odd_of s at end

module _ (s : List ℕ) (from end at : ℕ) (h : end ≤ length s) (p : Odding s from end at) where
  abbrev t : List ℕ
  t = take end s

  pub long_not : length s ≤ 1048576 → 1048576 < length t → ⊥
  long_not l k = omega (arith, length-take end s)

  is_cut_lem : IsCut t at (cut_from t at).literals (cut_from t at).ending
  is_cut_lem = let w = p.within in cut_is t at (omega (arith, length-take end s))

  pub odd_end : cut_from t at ≡ record { literals = []; ending = reaches_end } → (k r : ℕ) → k ≡ capped is_sign s at end → r ≡ (if ltb k end then k else length s) → r ≡ odd_of s from end
  unfolding first_odd first_in reached
  odd_end e k r f g = g ∙ ap (λ x. if ltb x end then x else length s) f ∙ capped_found is_sign s at end (length s) ∙ sym (p.same ∙ ap (odd_from s at end) e)

  module _ (number place : ℕ) (e : cut_from t at ≡ record { literals = []; ending = breaks_off number place }) where
    pub broken_in : (at ≤ place) × (place ≤ length s)
    broken_in =
        let q = (subst (λ (c : Cut). IsCut t at c.literals c.ending) e is_cut_lem).0 in
        let l = opens_in t place q.opened in
        (q.after, omega (arith, length-take end s))

    pub odd_broken : (k r : ℕ) → k ≡ capped is_sign s at place → r ≡ (if ltb k place then k else length s) → r ≡ odd_of s from end
    unfolding first_odd first_in reached
    odd_broken k r f g = g ∙ ap (λ x. if ltb x place then x else length s) f ∙ capped_found is_sign s at place (length s) ∙ sym (p.same ∙ ap (odd_from s at end) e)

  module _ (l : Literal) (e : cut_from t at ≡ first_cut (literal_of l) (cut_from t l.end)) where
    first_is : Begins t at l.start × IsLiteral t (literal_of l)
    unfolding first_cut
    first_is = let q = subst (λ (c : Cut). IsCut t at c.literals c.ending) e is_cut_lem in (q.0, q.1)

    pub literal_in : (at ≤ l.start) × (l.start < l.end) × (l.end ≤ end) × Inside s l
    literal_in =
        let q = first_is in
        let w = literal_lies t (literal_of l) q.1 in
        let a = w.ahead in
        let b = w.within in
        let d = w.body_within in
        let n = length-take end s in
        (q.0.after, omega arith, omega arith, record { body_in = omega arith; end_in = omega arith; ahead = omega arith })

    found : odd_of s from end ≡ odd_from s at end (first_cut (literal_of l) (cut_from t l.end))
    found = p.same ∙ ap (odd_from s at end) e

    module _ (k : ℕ) (f : k ≡ capped is_sign s at l.start) where
      pub odd_sign : k < l.start → k ≡ odd_of s from end
      unfolding first_odd first_cut
      odd_sign b =
          let q = capped_below is_sign s at l.start (rw (← f) b) in f ∙ q.1 ∙ sym (found ∙ rw q.0)

      pub odd_quote : l.start ≤ k → true ≡ quoted_inside s (literal_of l) → l.start ≡ odd_of s from end
      unfolding first_odd first_cut
      odd_quote b q = sym (found ∙ rw (capped_none is_sign s at l.start (rw (← f) b), ← q))

      pub odd_goes : l.start ≤ k → false ≡ quoted_inside s (literal_of l) → Odding s from end l.end
      unfolding first_odd first_cut
      odd_goes b q = record { within = literal_in.2; same = found ∙ rw (capped_none is_sign s at l.start (rw (← f) b), ← q) }

-- WHAT FOLLOWS A SELF-DOCUMENTING `=`
module _ (s : List ℕ) (f : Field) (end : ℕ) (e : end ≡ source_end (signs_of f)) where
  abbrev text : ℕ → Bool
  text x = not (x is " ")

  pub more_none : f.equals ≡ 0 → length s ≡ more_after s (signs_of f)
  unfolding more_after
  more_none z = rw z

  pub more_past : (f.equals ≡ 0 → ⊥) → end < f.equals → length s ≡ more_after s (signs_of f)
  unfolding more_after
  more_past z h = rw (ne_eqb f.equals 0 z, ← e, le-ltb (first_at text s f.equals) end (omega arith))

  module _ (z : f.equals ≡ 0 → ⊥) (k : ℕ) (g : k ≡ capped text s f.equals end) where
    pub more_some : k < end → f.equals ≡ more_after s (signs_of f)
    unfolding more_after
    more_some h = rw (ne_eqb f.equals 0 z, ← e, (capped_below text s f.equals end (rw (← g) h)).0)

    pub more_spaces : end ≤ k → length s ≡ more_after s (signs_of f)
    unfolding more_after
    more_spaces h = rw (ne_eqb f.equals 0 z, ← e, capped_none text s f.equals end (rw (← g) h))

-- A BACKSLASH IN A SPEC
module _ (s : List ℕ) (f : Field) where
  abbrev Spec : ℕ → Type 0
  Spec r = r ≡ spec_backslash s f.start (signs_of f)

  pub spec_none : f.colon ≡ 0 → Spec (length s)
  unfolding spec_backslash
  spec_none z = rw z

  module _ (z : f.colon ≡ 0 → ⊥) (kind : ℕ) (k : kind ≡ opens s f.start) where
    pub spec_kind : (kind ≡ 1 → ⊥) → Spec (length s)
    unfolding spec_backslash
    spec_kind n = rw (ne_eqb f.colon 0 z, ← k, ne_eqb kind 1 n)

    module _ (one : kind ≡ 1) (i : ℕ) (g : i ≡ first_at (λ b. b is "{}\\") s f.colon) where
      pub spec_past : length s ≤ i → Spec (length s)
      unfolding spec_backslash
      spec_past h = let b : byte s i ≡ 256 = get_or-eq_default s 256 h in rw (ne_eqb f.colon 0 z, ← k, one, ← g, b)

      pub spec_brace : i < length s → (get_or s i 0 ≡ 92 → ⊥) → Spec (length s)
      unfolding spec_backslash
      spec_brace h n = rw (ne_eqb f.colon 0 z, ← k, one, ← g, ← byte_is s i h, ne_eqb (get_or s i 0) 92 n)

      pub spec_there : i < length s → get_or s i 0 ≡ 92 → Spec i
      unfolding spec_backslash
      spec_there h n = rw (ne_eqb f.colon 0 z, ← k, one, ← g, ← byte_is s i h, eq-eqb (get_or s i 0) 92 n)

-- the lesser of two
pub min_is : (a b : ℕ) → min a b ≡ least a b
min_is a b = cases (leb a b) (λ t. let h = leb-true a b t in rw t (omega arith)) (λ t. let h = leb-false a b t in rw t (omega arith))

-- THE FIRST OF ALL
pub otherwise_is : (s : List ℕ) (f : Field) (end odd back escaped more spec later first r : ℕ) → end ≡ source_end (signs_of f) → odd ≡ odd_of s f.place end
    → back ≡ capped (λ x. eqb x 92) s f.place end → escaped ≡ (if ltb back end then back else length s) → more ≡ more_after s (signs_of f) → spec ≡ spec_backslash s f.start (signs_of f)
    → later ≡ least more spec → first ≡ least escaped later → r ≡ least odd first → r ≡ otherwise s (row_of f) (cut_part s f.place (source_end (signs_of f)))
unfolding otherwise cut_part first_in
otherwise_is s f end odd back escaped more spec later first r e₁ e₂ e₃ e₄ e₅ e₆ e₇ e₈ e₉ =
    let x : escaped ≡ first_in (λ b. b is "\\") s f.place end = e₄ ∙ ap (λ k. if ltb k end then k else length s) e₃ ∙ capped_found (λ b. eqb b 92) s f.place end (length s) in
    e₉ ∙ ap₂ least e₂ (e₈ ∙ ap₂ least x (e₇ ∙ ap₂ least e₅ e₆))
    ∙ ap (λ j. least (odd_of s f.place j) (least (first_in (λ b. b is "\\") s f.place j) (least (more_after s (signs_of f)) (spec_backslash s f.start (signs_of f))))) e₁

-- a source that lies in the script
pub otherwise_source : (s : List ℕ) (f : Field) → Source s f → otherwise_of s f ≡ otherwise s (row_of f) (cut_part s f.place (source_end (signs_of f)))
unfolding otherwise_of
otherwise_source s f p = rw (le-ltb (source_end (signs_of f)) f.place p.ahead, le-ltb (length s) (source_end (signs_of f)) p.within, le-ltb 1048576 (length s) p.not_long_lem)
