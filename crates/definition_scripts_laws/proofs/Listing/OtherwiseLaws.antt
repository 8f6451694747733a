-- WHERE NO 75 IS TOLD, nothing in a field's source and spec is read otherwise by Python; and what a 75 names is there. Assumes nothing.
use mathlib.Core.Path.{◌≡◌, refl, sym, ◌∙◌}
use mathlib.Core.Bool.{Bool, true, false, ◌&&◌, not}
use mathlib.Core.List.{List, [], ◌∷◌}
use Prim.Native.Nat.{ℕ, ◌-◌, ◌≤◌, ◌<◌}
use native.Mathlib.Omega.{arith}
use borrow.Author.Tests.{eqb-true, eqb-false, ne_eqb, ltb-true, ltb-false, leb-true, leb-false, not-true}
use lib.Dec.{ltb, leb, eqb}
use lib.ListN.{length}
use Rattle.definition.specs.Chars.{◌is◌, byte}
use Rattle.definition.specs.Body.{Signs}
use Rattle.definition.specs.Entry.{Literal}
use Rattle.definition.specs.Rows.{Row}
use Rattle.definition_scripts.specs.Opening.{opens, is_sign, first_at}
use Rattle.definition_scripts.specs.IsRun.{body_end}
use Rattle.definition_scripts.specs.IsCut.{reaches_end, EachLiteral}
use Rattle.definition_scripts.specs.Cut.{Cut}
use Rattle.definition_scripts.specs.Listing.{source_end, reached, first_in, quoted_inside, first_odd, more_after, spec_backslash, least, otherwise}
use Rattle.definition_scripts_laws.specs.Complete.{NoneIn, NoneOutside, Likewise, InGap, last, here, later, OneOf, this, another, SomeIn, ReadOtherwise, comment, backslash, quoted, after_equals, in_spec}
use Rattle.definition.proofs.Moves.CharLaws.{cases, no, either, first_fails, first_passes}
use Rattle.definition_laws.proofs.Moves.Cases.{and_both}

least_past : (n a b : ℕ) → n ≤ least a b → (n ≤ a) × (n ≤ b)
least_past n a b h =
    cases (leb a b) (λ e. let k = rw e at h in let l = leb-true a b e in (omega arith, omega arith)) (λ e. let k = rw e at h in let l = leb-false a b e in (omega arith, omega arith))

-- what a literal of a source has, so that its places are in the script
abbrev pub Lying : List ℕ → Literal → Type 0
Lying s l = (l.start < length s) × (body_end l ≤ length s)

module _ (s : List ℕ) where
  -- none is found from i up to j
  none_before : (test : ℕ → Bool) (i j : ℕ) → ltb (first_at test s i) j ≡ false → NoneIn test s i j
  none_before test i j e m a b = let c = ltb-false (first_at test s i) j e in first_fails test s i m a (omega arith)

  none_in : (test : ℕ → Bool) (i j : ℕ) → j ≤ length s → length s ≤ first_in test s i j → NoneIn test s i j
  unfolding first_in
  none_in test i j l h =
      cases (ltb (first_at test s i) j) (λ e. let k = rw e at h in let c = ltb-true (first_at test s i) j e in absurd (omega arith)) (λ e. none_before test i j e)

  -- a `#` outside the literals, and triple-quoted ones with their own quote inside
  abbrev Unquoted : Literal → Type 0
  Unquoted l = l.triple ≡ 1 → NoneIn (λ b. eqb b (byte s (l.end - 1))) s l.offset (body_end l)

  not_inside : (l : Literal) → quoted_inside s l ≡ false → Unquoted l
  unfolding quoted_inside
  not_inside l e t = none_before (λ b. eqb b (byte s (l.end - 1))) l.offset (body_end l) (rw t at e)

  none_odd : (i j : ℕ) (ls : List Literal) → j ≤ length s → EachLiteral (Lying s) ls → length s ≤ first_odd s i j ls → NoneOutside is_sign s i j ls × EachLiteral Unquoted ls
  unfolding first_odd
  none_odd i j [] l p h = (none_in is_sign i j l h, tt)
  none_odd i j (x ∷ ls) l p h = go (ltb (first_at is_sign s i) x.start) refl (quoted_inside s x) refl (none_odd x.end j ls l p.1)
    where
      go : (t : Bool) → ltb (first_at is_sign s i) x.start ≡ t → (u : Bool) → quoted_inside s x ≡ u → (length s ≤ first_odd s x.end j ls → NoneOutside is_sign s x.end j ls × EachLiteral Unquoted ls)
          → (NoneIn is_sign s i x.start × NoneOutside is_sign s x.end j ls) × (Unquoted x × EachLiteral Unquoted ls)
      go true e u f r = let k = rw e at h in let c = ltb-true (first_at is_sign s i) x.start e in let d = p.0.0 in absurd (omega arith)
      go false e true f r = let k : length s ≤ x.start = rw (e, f) at h in let d = p.0.0 in absurd (omega arith)
      go false e false f r = let q = r (rw (e, f) at h) in ((none_before is_sign i x.start e, q.0), (not_inside x f, q.1))

  -- what follows a self-documenting `=`
  nothing_more : (g : Signs) → g.equals < length s → length s ≤ more_after s g → 1 ≤ g.equals → NoneIn (λ b. not (b is " ")) s g.equals (source_end g)
  unfolding more_after
  nothing_more g l h k =
      cases (ltb (first_at (λ b. not (b is " ")) s g.equals) (source_end g))
      (λ e. let c : length s ≤ g.equals = rw (ne_eqb g.equals 0 (λ z. omega arith), e) at h in absurd (omega arith))
      (λ e. none_before (λ b. not (b is " ")) g.equals (source_end g) e)

  -- a backslash in a spec before any brace
  spec_clear : (start : ℕ) (g : Signs) → length s ≤ spec_backslash s start g → 1 ≤ g.colon → opens s start ≡ 1 → (m : ℕ) → g.colon ≤ m → m < length s → NoneIn (λ b. b is "{}") s g.colon m → (byte s m is "\\") ≡ false
  unfolding spec_backslash
  spec_clear start g h c o m a b none_yet = cases (byte s m is "\\") (λ t. absurd (found t)) (λ t. t)
    where
      test : ℕ → Bool
      test = λ b. b is "{}\\"

      k : ℕ
      k = first_at test s g.colon

      is_backslash : (c : ℕ) → (c is "\\") ≡ true → (c is "{}\\") ≡ true
      is_backslash c t = let z = eqb-true c 92 t in rw z

      or_brace : (c : ℕ) → (c is "{}\\") ≡ true → (c is "{}") ≡ false → (c is "\\") ≡ true
      or_brace c t f =
          either (c is "{") (c is "}\\") t (λ z. let q = eqb-true c 123 z in no (sym (rw q at f)))
          (λ z. either (c is "}") (c is "\\") z (λ y. let q = eqb-true c 125 y in no (sym (rw q at f))) (λ y. y))

      -- nothing that passes stands before m, so m is the first
      at_first : (byte s m is "\\") ≡ true → k ≡ m
      at_first t =
          cases (ltb m k)
          (λ e. no (sym (first_fails test s g.colon m a (ltb-true m k e)) ∙ is_backslash (byte s m) t))
          (λ e. cases (ltb k m)
          (λ f.
          let q = ltb-true k m f in
          let z : (byte s k is "\\") ≡ true = or_brace (byte s k) (first_passes test s g.colon (omega arith)) (none_yet k (omega arith) q) in
          let w : length s ≤ k = rw (ne_eqb g.colon 0 (λ z. omega arith), o, z) at h in
          absurd (omega arith))
          (λ f. let q = ltb-false k m f in let r = ltb-false m k e in omega arith))

      found : (byte s m is "\\") ≡ true → ⊥
      found t =
          let e = at_first t in
          let z : (byte s k is "\\") ≡ true = rw e t in
          let w : length s ≤ k = rw (ne_eqb g.colon 0 (λ z. omega arith), o, z) at h in
          omega arith

  -- NO 75, of a cut that reached the end of the source
  pub none_told : (r : Row) (c : Cut) → c.ending ≡ reaches_end → source_end r.signs ≤ length s → r.signs.equals < length s → EachLiteral (Lying s) c.literals
      → length s ≤ otherwise s r c → Likewise s r c.literals
  unfolding otherwise reached
  none_told r c e l q p h =
      let g = r.signs in
      let end = source_end g in
      let t₁ = first_odd s r.place (reached end c.ending) c.literals in
      let t₂ = first_in (λ b. b is "\\") s r.place end in
      let t₃ = more_after s g in
      let t₄ = spec_backslash s r.start g in
      let a = least_past (length s) t₁ (least t₂ (least t₃ t₄)) h in
      let b = least_past (length s) t₂ (least t₃ t₄) a.1 in
      let d = least_past (length s) t₃ t₄ b.1 in
      let o = none_odd r.place end c.literals l p (rw e at a.0) in
      record {
        no_comment = o.0;
        no_backslash = none_in (λ b. b is "\\") r.place end l b.0;
        no_quote = o.1;
        nothing_after = nothing_more g q d.0;
        spec_plain = spec_clear r.start g d.1;
      }

  -- WHAT A 75 NAMES is there. A test that is passed before j
  some_before : (test : ℕ → Bool) (i j : ℕ) → j ≤ length s → ltb (first_at test s i) j ≡ true → SomeIn test s i j
  some_before test i j l e =
      let k = ltb-true (first_at test s i) j e in record { found = first_at test s i; after = omega arith; before = k; passes = first_passes test s i (omega arith) }

  in_some : (test : ℕ → Bool) (i j : ℕ) → first_in test s i j < length s → (i ≤ first_in test s i j) × (first_in test s i j < j) × (test (byte s (first_in test s i j)) ≡ true)
  unfolding first_in
  in_some test i j h =
      cases (ltb (first_at test s i) j) (λ e. let k = ltb-true (first_at test s i) j e in let l : first_at test s i < length s = rw e at h in rw e (omega arith, k, first_passes test s i l))
      (λ e. let k : length s < length s = rw e at h in absurd (omega arith))

  abbrev Quoted : ℕ → Literal → Type 0
  Quoted p l = (p ≡ l.start) × (l.triple ≡ 1) × SomeIn (λ b. eqb b (byte s (l.end - 1))) s l.offset (body_end l)

  is_inside : (l : Literal) → body_end l ≤ length s → quoted_inside s l ≡ true → Quoted l.start l
  unfolding quoted_inside
  is_inside l h e =
      let b = and_both (eqb l.triple 1) (ltb (first_at (λ b. eqb b (byte s (l.end - 1))) s l.offset) (body_end l)) e in
      (refl, eqb-true l.triple 1 b.0, some_before (λ b. eqb b (byte s (l.end - 1))) l.offset (body_end l) h b.1)

  -- a `#` in a gap, or a literal with its own quote inside
  data Odd (i j : ℕ) (ls : List Literal) (p : ℕ) : Type 0 where
    sign : is_sign (byte s p) ≡ true → InGap p i j ls → Odd i j ls p
    quote : OneOf (Quoted p) ls → Odd i j ls p

  odd_later : {i j : ℕ} {l : Literal} {ls : List Literal} {p : ℕ} → Odd l.end j ls p → Odd i j (l ∷ ls) p
  odd_later (sign e g) = sign e (later g)
  odd_later (quote q) = quote (another q)

  some_odd : (i j : ℕ) (ls : List Literal) → EachLiteral (Lying s) ls → first_odd s i j ls < length s → Odd i j ls (first_odd s i j ls)
  unfolding first_odd
  some_odd i j [] p h = let f = in_some is_sign i j h in sign f.2 (last f.0 f.1)
  some_odd i j (x ∷ ls) p h = go (ltb (first_at is_sign s i) x.start) refl (quoted_inside s x) refl (some_odd x.end j ls p.1)
    where
      go : (t : Bool) → ltb (first_at is_sign s i) x.start ≡ t → (u : Bool) → quoted_inside s x ≡ u → (first_odd s x.end j ls < length s → Odd x.end j ls (first_odd s x.end j ls)) → Odd i j (x ∷ ls) (first_odd s i j (x ∷ ls))
      go true e u f r = let l : first_at is_sign s i < length s = rw e at h in rw e (sign (first_passes is_sign s i l) (here {i = i} (omega arith) (ltb-true (first_at is_sign s i) x.start e)))
      go false e true f r = rw (e, f) (quote (this (is_inside x p.0.1 f)))
      go false e false f r = rw (e, f) (odd_later (r (rw (e, f) at h)))

  least_one : (P : ℕ → Type 0) (a b : ℕ) → least a b < length s → (a < length s → P a) → (b < length s → P b) → P (least a b)
  least_one P a b h f g = cases (leb a b) (λ e. rw e (f (rw e at h))) (λ e. rw e (g (rw e at h)))

  pub otherwise_told : (r : Row) (c : Cut) → source_end r.signs ≤ length s → EachLiteral (Lying s) c.literals → otherwise s r c < length s
      → ReadOtherwise s r (reached (source_end r.signs) c.ending) c.literals (otherwise s r c)
  unfolding otherwise more_after spec_backslash
  otherwise_told r c l p h =
      least_one Why (first_odd s r.place to c.literals) _ h (λ k. odd (some_odd r.place to c.literals p k))
      (λ k. least_one Why (first_in (λ b. b is "\\") s r.place end) _ k (λ m. let f = in_some (λ b. b is "\\") r.place end m in backslash f.2 f.0 f.1)
      (λ k. least_one Why (more_after s g) (spec_backslash s r.start g) k more spec))
    where
      g : Signs
      g = r.signs

      end : ℕ
      end = source_end g

      to : ℕ
      to = reached end c.ending

      Why : ℕ → Type 0
      Why = ReadOtherwise s r to c.literals

      odd : {q : ℕ} → Odd r.place to c.literals q → Why q
      odd (sign e f) = comment e f
      odd (quote q) = quoted q

      more : more_after s g < length s → Why (more_after s g)
      more h =
          let test : ℕ → Bool = λ b. not (b is " ") in
          cases (not (eqb g.equals 0) && ltb (first_at test s g.equals) end)
          (λ e.
          let b = and_both (not (eqb g.equals 0)) (ltb (first_at test s g.equals) end) e in
          let n = eqb-false g.equals 0 (not-true (eqb g.equals 0) b.0) in
          rw e (after_equals refl (omega arith) (some_before test g.equals end l b.1)))
          (λ e. let k : length s < length s = rw e at h in absurd (omega arith))

      spec : spec_backslash s r.start g < length s → Why (spec_backslash s r.start g)
      spec h =
          let test : ℕ → Bool = λ b. b is "{}\\" in
          let i = first_at test s g.colon in
          cases (not (eqb g.colon 0) && eqb (opens s r.start) 1 && byte s i is "\\")
          (λ e.
          let b = and_both (not (eqb g.colon 0) && eqb (opens s r.start) 1) (byte s i is "\\") e in
          let d = and_both (not (eqb g.colon 0)) (eqb (opens s r.start) 1) b.0 in
          let n = eqb-false g.colon 0 (not-true (eqb g.colon 0) d.0) in
          rw e (in_spec (omega arith) (eqb-true (opens s r.start) 1 d.1) (omega arith) b.1 (λ m a k. first_fails test s g.colon m a k)))
          (λ e. let k : length s < length s = rw e at h in absurd (omega arith))
