-- THE GRAMMAR EXACTLY: a well-formed text is read to parts if and only if it is the text of these, and they are the grammar's. Assumes nothing.
use mathlib.Core.Path.{◌≡◌, refl, sym, ◌∙◌, ap, subst}
use mathlib.Core.Logic.{◌↔◌}
use mathlib.Core.Bool.{Bool, true, false, ◌&&◌, ◌||◌, not}
use mathlib.Core.List.{List, [], ◌∷◌, ◌++◌}
use mathlib.Core.Option.{Option, none, some}
use Prim.Native.Nat.{ℕ, zero, suc, ◌+◌, ◌≤◌, ◌<◌}
use native.Mathlib.Omega.{arith}
use lib.Dec.{eqb, ltb}
use lib.ListN.{length}
use borrow.Author.Tests.{eqb-true, eqb-false, ltb-true, ltb-false, not-true, lt-leb}
use Rattle.definition.specs.Chars.{◌is◌, byte, Range, inside, table37, following, follow, width, next}
use Rattle.definition_replay.specs.Spec.{Spec, aligns, nothing, spec_of}
use Rattle.definition_replay.specs.IsSpec.{one, point, spelled, Legal}
use Rattle.definition.proofs.Moves.CharLaws.{cases, inside_not, Utf8, between, width_ascii}
use Rattle.definition_replay_laws.proofs.Spec.SpecLaws.{is_each, both_true, spec_sound}
use Rattle.definition_replay_laws.proofs.Spec.SpecWhole.{one_some, optional_cases, spec_whole}

-- a row whose characters have more than one byte
abbrev Longer : List (Range × List Range) → Type 0
Longer [] = Unit {0}
Longer (row ∷ rows) = (0 < length row.1) × Longer rows

longer_following : (rows : List (Range × List Range)) (b : ℕ) (rs : List Range) → Longer rows → following rows b ≡ some rs → 0 < length rs
unfolding following
longer_following [] b rs l e = let z : ◌≡◌ {A = ℕ} 0 1 = cc in absurd (omega arith)
longer_following (row ∷ rows) b rs l e = go (inside row.0 b) refl (longer_following rows b rs l.1)
  where
    go : (t : Bool) → inside row.0 b ≡ t → (following rows b ≡ some rs → 0 < length rs) → 0 < length rs
    go true t ih = let z : some row.1 ≡ some rs = rw (t, following) at e in let y : row.1 ≡ rs = cc in rw y at l.0
    go false t ih = ih (rw (t, following) at e)

-- past the first row
abbrev FirstOff : List (Range × List Range) → ℕ → Type 0
FirstOff [] b = Unit {0}
FirstOff (row ∷ rows) b = (inside row.0 b ≡ false) × Longer rows

after_first : (rows : List (Range × List Range)) (b : ℕ) (rs : List Range) → FirstOff rows b → following rows b ≡ some rs → 0 < length rs
unfolding following
after_first [] b rs l e = let z : ◌≡◌ {A = ℕ} 0 1 = cc in absurd (omega arith)
after_first (row ∷ rows) b rs l e = longer_following rows b rs l.1 (rw (l.0, following) at e)

table_longer : (b : ℕ) (rs : List Range) → 0x80 ≤ b → following table37 b ≡ some rs → 0 < length rs
unfolding table37
table_longer b rs h e = after_first table37 b rs (inside_not 0x00 0x7F b (λ p q. omega arith), (omega arith)) e

-- above ASCII no character has one byte
wide_more : (s : List ℕ) (i : ℕ) → 0x80 ≤ byte s i → width s i ≡ 1 → ⊥
unfolding width
wide_more s i h e = go (following table37 (byte s i)) refl
  where
    longer : (rs : List Range) → following table37 (byte s i) ≡ some rs → 0 < length rs
    longer rs f = table_longer (byte s i) rs h f

    go : (o : Option (List Range)) → following table37 (byte s i) ≡ o → ⊥
    go none f = let z : ◌≡◌ {A = ℕ} 0 1 = rw (f, width) at e in absurd (omega arith)
    go (some rs) f =
        let l = longer rs f in
        cases (follow rs s (i + 1)) (λ t. let z : suc (length rs) ≡ 1 = rw (f, t, width) at e in absurd (omega arith))
        (λ t. let z : ◌≡◌ {A = ℕ} 0 1 = rw (f, t, width) at e in absurd (omega arith))

-- A FILL in front of its align, in well-formed text, is well-formed
module _ (p : Spec) (l : Legal p) where
  align_ascii : (p.align is aligns) ≡ true → p.align < 0x80
  align_ascii e = ltb-true p.align 0x80 (is_each (λ b. ltb b 0x80) aligns p.align refl e)

  lone : (b a : ℕ) (t : List ℕ) → a < 0x80 → Utf8 (b ∷ a ∷ t) → width (b ∷ []) 0 ≡ 0 → (0x80 ≤ b) × (b ≤ 0xBF)
  unfolding next
  lone b a t h u z =
      cases (ltb b 0x80) (λ e. let k = width_ascii (b ∷ []) 0 (ltb-true b 0x80 e) in absurd (omega arith))
      (λ e. by_width (width (b ∷ a ∷ t) 0) refl (ltb-false b 0x80 e))
    where
      by_width : (w : ℕ) → width (b ∷ a ∷ t) 0 ≡ w → 0x80 ≤ b → (0x80 ≤ b) × (b ≤ 0xBF)
      by_width zero q g = u 0 (omega arith) q
      by_width (suc zero) q g = absurd (wide_more (b ∷ a ∷ t) 0 g q)
      by_width (suc (suc w)) q g = let k = between (b ∷ a ∷ t) 0 1 (omega arith) (rw (lt-leb (length (b ∷ a ∷ t)) 0 (omega arith), q) (omega arith)) in absurd (omega arith)

  rest : List ℕ
  rest = one p.sign ++ (one p.z ++ (one p.alternate ++ (one p.nought ++ (p.width ++ (one p.grouping ++ (point p.precision ++ one p.type))))))

  spelled_is : spelled p ≡ p.fill ++ (one p.align ++ rest)
  unfolding spelled rest
  spelled_is = refl

  fill_utf8 : Utf8 (spelled p) → Utf8 p.fill
  unfolding nothing next
  fill_utf8 u = go p.fill (rw spelled_is at u) l.fill
    where
      go : (f : List ℕ) → Utf8 (f ++ (one p.align ++ rest)) → (nothing f || eqb (next f 0) (length f) && not (eqb p.align 0)) ≡ true → Utf8 f
      go [] u h = λ i k z. absurd (omega arith)
      go (b ∷ f) u h =
          let d = both_true (eqb (next (b ∷ f) 0) (length (b ∷ f))) (not (eqb p.align 0)) h in
          let n = eqb-true (next (b ∷ f) 0) (length (b ∷ f)) d.0 in
          let a = optional_cases aligns p.align l.align (λ e. absurd (eqb-false p.align 0 (not-true (eqb p.align 0) d.1) e)) (λ e. e) in
          by_place b f n a u
        where
          first_byte : (b : ℕ) (f : List ℕ) → next (b ∷ f) 0 ≡ length (b ∷ f) → (p.align is aligns) ≡ true → Utf8 ((b ∷ f) ++ (one p.align ++ rest))
              → width (b ∷ f) 0 ≡ 0 → (0x80 ≤ b) × (b ≤ 0xBF)
          first_byte b [] n a u z = lone b p.align rest (align_ascii a) (subst (λ (x : List ℕ). Utf8 x) (ap (λ x. b ∷ (x ++ rest)) (one_some aligns p.align refl a)) u) z
          first_byte b (c ∷ f) n a u z = let k : next (b ∷ c ∷ f) 0 ≡ 1 = rw (lt-leb (length (b ∷ c ∷ f)) 0 (omega arith), z) (omega arith) in absurd (omega arith)

          by_place : (b : ℕ) (f : List ℕ) → next (b ∷ f) 0 ≡ length (b ∷ f) → (p.align is aligns) ≡ true → Utf8 ((b ∷ f) ++ (one p.align ++ rest)) → Utf8 (b ∷ f)
          by_place b f n a u zero k z = first_byte b f n a u z
          by_place b f n a u (suc i) k z = between (b ∷ f) 0 (suc i) (omega arith) (omega arith)

-- THE GRAMMAR EXACTLY
pub spec_exact : (s : List ℕ) (p : Spec) → Utf8 s → (spec_of s ≡ some p) ↔ ((spelled p ≡ s) × Legal p)
spec_exact s p u = (spec_sound s p u, λ (e, l). ap spec_of (sym e) ∙ spec_whole p l (fill_utf8 p l (rw (← e) at u)))
