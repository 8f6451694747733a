-- Numbers without groups: their figures counted, written from the units back, and what stands around them. Assumes nothing.
use mathlib.Core.Path.{◌≡◌, refl, sym, ◌∙◌, ap}
use mathlib.Core.Bool.{Bool, true, false, not}
use mathlib.Core.List.{List, [], ◌∷◌, ◌++◌, map, append-nil, append_assoc, reverse, reverse-append}
use Prim.Native.Nat.{ℕ, zero, suc, ◌+◌, ◌-◌, ◌/◌, ◌%◌, ◌≤◌, ◌<◌}
use native.Mathlib.Omega.{arith}
use lib.Dec.{eqb, ltb}
use lib.ListN.{length, replicate, length-append, length-map, length-replicate, length-reverse}
use borrow.Author.Tests.{eq-eqb, eqb-true, eqb-false, ltb-true, ltb-false, not-true}
use Rattle.definition_replay.specs.Integers.{Integer, digits, base_of, figure, figures, zeroed, copies, left_of, inner_of, written}
use Rattle.definition_replay_laws.proofs.Integers.IntegerSteps.{digits_last, digits_more}
use Rattle.definition_replay_laws.proofs.Integers.WrittenLaws.{base_big, Zeroed, zeroed_is}
use Rattle.definition.proofs.Moves.CharLaws.{cases, no}
use Rattle.buffers.specs.Over.{over}
use Rattle.buffers.proofs.Over.{over_append, over_comm}
use Rattle.forms.specs.declared.Shape.{Shape}
use Rattle.integers.specs.Written.{bare, numeral_units, figures_of, head_from, pads_from, least_from, formed, integer, written_in}
use Rattle.integers.proofs.Joined.{five_pieces, pads_align, pads_byte, least_none, least_some, left_inner, inner_all, pieces_are}
use Rattle.integers.proofs.Fitting.{in_set}

module _ (base n : ℕ) (big : 1 < base) where
  -- HOW MANY: one more, and the last
  pub count_more : (count : ℕ) {rest : ℕ} → base ≤ n → rest ≡ n / base → count + 1 + length (digits base rest) ≡ count + length (digits base n)
  count_more count h r = rw r (let e = ap length (digits_more base big n h) in omega arith)

  pub count_last : n < base → length (digits base n) ≡ 1
  count_last h = ap length (digits_last base big n h)

  pub figures_some : 1 ≤ length (digits base n)
  figures_some = cases (ltb n base) (λ t. let e = count_last (ltb-true n base t) in omega arith) (λ t. let e = ap length (digits_more base big n (ltb-false n base t)) in omega arith)

-- a base that is there
pub base_some : (kind : ℕ) {base : ℕ} → base ≡ base_of kind → not (eqb base 0) ≡ true → 1 < base_of kind
base_some kind {base} b e = base_big kind (ap (λ x. eqb x 0) (sym b) ∙ not-true (eqb base 0) e)

-- FIGURES as they are written
pub figures_long : (kind base n : ℕ) → length (figures_of kind base n) ≡ length (digits base n)
unfolding figures_of
figures_long kind base n = length-reverse (map (figure kind) (digits base n)) ∙ length-map (digits base n) (figure kind)

module _ (base n : ℕ) (big : 1 < base) (kind : ℕ) (out : List ℕ) (from : ℕ) where
  -- the units stand behind the others
  units_last : base ≤ n → figures_of kind base n ≡ figures_of kind base (n / base) ++ (figure kind (n % base) ∷ [])
  unfolding figures_of
  units_last h =
      ap (λ ds. reverse (map (figure kind) ds)) (digits_more base big n h) ∙ reverse-append (figure kind (n % base) ∷ []) (map (figure kind) (digits base (n / base)))

  pub figures_back : (at : ℕ) {rest fig : ℕ} {now : List ℕ} → base ≤ n → rest ≡ n / base → fig ≡ figure kind (n % base) → at ≡ from + length (digits base n) → now ≡ over out (at - 1) (fig ∷ [])
      → over now from (figures_of kind base rest) ≡ over out from (figures_of kind base n)
  figures_back at h r f a w =
      let xs = figures_of kind base (n / base) in
      let ys = figure kind (n % base) ∷ [] in
      let l = figures_long kind base (n / base) in
      let e = ap length (digits_more base big n h) in
      let p : at - 1 ≡ from + length xs = omega arith in
      rw (r, w, p, f) (sym (over_comm out from xs (from + length xs) ys (omega arith)) ∙ over_append out from xs ys ∙ ap (over out from) (sym (units_last h)))

  pub figures_first : {fig : ℕ} {now : List ℕ} → n < base → fig ≡ figure kind n → now ≡ over out from (fig ∷ []) → now ≡ over out from (figures_of kind base n)
  unfolding figures_of
  figures_first h f w = rw (digits_last base big n h) (w ∙ ap (λ x. over out from (x ∷ [])) f)

-- ZEROS that belong to a number are as many as lack
copies_snoc : (n x : ℕ) → copies n (x ∷ []) ++ (x ∷ []) ≡ x ∷ copies n (x ∷ [])
unfolding copies
copies_snoc zero x = refl
copies_snoc (suc n) x = ap (λ l. x ∷ l) (copies_snoc n x)

pub copies_one : (n x : ℕ) → length (copies n (x ∷ [])) ≡ n
unfolding copies
copies_one zero x = refl
copies_one (suc n) x = ap suc (copies_one n x)

zeros_back : (n : ℕ) → reverse (replicate n 48) ≡ copies n (48 ∷ [])
unfolding copies
zeros_back zero = refl
zeros_back (suc n) = reverse-append (48 ∷ []) (replicate n 48) ∙ ap (λ l. l ++ (48 ∷ [])) (zeros_back n) ∙ copies_snoc n 48

map_append : (g : ℕ → ℕ) (xs ys : List ℕ) → map g (xs ++ ys) ≡ map g xs ++ map g ys
map_append g [] ys = refl
map_append g (x ∷ xs) ys = ap (λ l. g x ∷ l) (map_append g xs ys)

module _ (kind : ℕ) {grouping : ℕ} (g : grouping ≡ 0) where
  plain_figures : (ds : List ℕ) → figures (bare kind grouping) ds ≡ map (figure kind) ds
  unfolding figures
  plain_figures ds = rw (eq-eqb grouping 0 g)

  zero_figures : (n : ℕ) → map (figure kind) (replicate n 0) ≡ replicate n 48
  unfolding figure
  zero_figures zero = refl
  zero_figures (suc n) = ap (λ l. 48 ∷ l) (zero_figures n)

  plain_wide : (ds : List ℕ) (n : ℕ) → length (figures (bare kind grouping) (ds ++ replicate n 0)) ≡ length ds + n
  plain_wide ds n =
      let a = ap length (plain_figures (ds ++ replicate n 0)) in
      let b = length-map (ds ++ replicate n 0) (figure kind) in
      let c = length-append ds (replicate n 0) in
      let d = length-replicate {A = ℕ} n 0 in
      omega arith

  zeros_lack : (least : ℕ) (ds r : List ℕ) (z : Zeroed least (bare kind grouping) ds r) → z.zeros ≡ least - length ds
  zeros_lack least ds r z = go z.zeros refl
    where
      wide : least ≤ length ds + z.zeros
      wide = let w = z.wide in let e = ap (λ x. length (figures (bare kind grouping) x)) z.same in let p = plain_wide ds z.zeros in omega arith

      go : (n : ℕ) → z.zeros ≡ n → z.zeros ≡ least - length ds
      go zero e = let w = wide in omega arith
      go (suc n) e = let w = wide in let f = z.fewest n e in let p = plain_wide ds n in omega arith

  plain_units : (least size : ℕ) → numeral_units kind grouping least size ≡ map (figure kind) (digits (base_of kind) size) ++ replicate (least - length (digits (base_of kind) size)) 48
  unfolding numeral_units
  plain_units least size = by (zeroed least least (bare kind grouping) ds) (zeroed_is least least (bare kind grouping) ds (omega arith))
    where
      ds : List ℕ
      ds = digits (base_of kind) size

      by : (r : List ℕ) → Zeroed least (bare kind grouping) ds r → figures (bare kind grouping) r ≡ map (figure kind) ds ++ replicate (least - length ds) 48
      by r z =
          ap (figures (bare kind grouping)) z.same
          ∙ plain_figures (ds ++ replicate z.zeros 0)
          ∙ map_append (figure kind) ds (replicate z.zeros 0)
          ∙ ap (λ x. map (figure kind) ds ++ x) (zero_figures z.zeros ∙ ap (λ n. replicate n 48) (zeros_lack least ds r z))

  plain_back : (least size : ℕ) → reverse (numeral_units kind grouping least size) ≡ copies (least - length (digits (base_of kind) size)) (48 ∷ []) ++ figures_of kind (base_of kind) size
  unfolding figures_of
  plain_back least size =
      let ds = digits (base_of kind) size in
      ap reverse (plain_units least size)
      ∙ reverse-append (map (figure kind) ds) (replicate (least - length ds) 48)
      ∙ ap (λ l. l ++ reverse (map (figure kind) ds)) (zeros_back (least - length ds))

  plain_count : (least size : ℕ) → length (numeral_units kind grouping least size) ≡ length (digits (base_of kind) size) + (least - length (digits (base_of kind) size))
  plain_count least size =
      let ds = digits (base_of kind) size in
      let a = ap length (plain_units least size) in
      let b = length-append (map (figure kind) ds) (replicate (least - length ds) 48) in
      let c = length-map ds (figure kind) in
      let d = length-replicate {A = ℕ} (least - length ds) 48 in
      omega arith

-- THE TEXT, with a fill of one byte: zeros that belong to the number are fills between head and figures
module _ (byte : ℕ) (f : Shape) (g : f.grouping ≡ 0) (negative : Bool) (size : ℕ) where
  abbrev head : List ℕ
  head = head_from f.sign f.alternate f.kind negative

  abbrev count : ℕ
  count = length (digits (base_of f.kind) size)

  abbrev figs : List ℕ
  figs = figures_of f.kind (base_of f.kind) size

  abbrev fills : ℕ → List ℕ
  fills n = copies n (byte ∷ [])

  abbrev whole : (left inner rest : ℕ) (text : List ℕ) → List ℕ
  whole left inner rest text = fills left ++ head ++ fills inner ++ text ++ fills rest

  abbrev plainly : ℕ → List ℕ
  plainly pad = whole (left_of f.align pad) (inner_of f.align pad) (pad - (left_of f.align pad + inner_of f.align pad)) figs

  written_whole : (least : ℕ) → least ≡ least_from (byte ∷ []) f.align f.width (length head)
      → let pad = f.width - (length head + (count + (least - count))) in
      written (formed (byte ∷ []) f) (integer negative size)
      ≡ whole (left_of f.align pad) (inner_of f.align pad) (pad - (left_of f.align pad + inner_of f.align pad)) (copies (least - count) (48 ∷ []) ++ figs)
  written_whole least l =
      let pad = f.width - (length head + (count + (least - count))) in
      pieces_are (byte ∷ []) f negative size least pad l (ap (λ n. f.width - (length head + n)) (sym (plain_count f.kind g least size)))
      ∙ ap (whole (left_of f.align pad) (inner_of f.align pad) (pad - (left_of f.align pad + inner_of f.align pad))) (plain_back f.kind g least size)

  no_zeros : (n : ℕ) → n ≡ 0 → copies n (48 ∷ []) ++ figs ≡ figs
  unfolding copies
  no_zeros n e = rw e

  zeros_within : (n : ℕ) → byte ≡ 48 → whole 0 0 0 (copies n (48 ∷ []) ++ figs) ≡ whole 0 n 0 figs
  unfolding copies
  zeros_within n e =
      ap (λ h. h ++ (copies n (48 ∷ []) ++ figs) ++ []) (append-nil head)
      ∙ ap (λ l. l ++ []) (sym (append_assoc head (copies n (48 ∷ [])) figs))
      ∙ ap (λ b. head ++ copies n (b ∷ []) ++ figs ++ []) (sym e)

  pub written_plain : written (formed (byte ∷ []) f) (integer negative size) ≡ plainly (f.width - (length head + count))
  written_plain = go (pads_from (byte ∷ []) f.align) refl
    where
      unpadded : pads_from (byte ∷ []) f.align ≡ false → written (formed (byte ∷ []) f) (integer negative size) ≡ plainly (f.width - (length head + count))
      unpadded e =
          let n : 0 - count ≡ 0 = omega arith in
          let p : f.width - (length head + (count + (0 - count))) ≡ f.width - (length head + count) = omega arith in
          written_whole 0 (least_none (byte ∷ []) f.align f.width (length head) refl e) ∙ (λ i.
          whole (left_of f.align (p i)) (inner_of f.align (p i)) (p i - (left_of f.align (p i) + inner_of f.align (p i))) (no_zeros (0 - count) n i))

      padded : f.align ≡ 61 → byte ≡ 48 → pads_from (byte ∷ []) f.align ≡ true → written (formed (byte ∷ []) f) (integer negative size) ≡ plainly (f.width - (length head + count))
      padded a b e =
          let least = f.width - length head in
          let pad = f.width - (length head + count) in
          let low = f.width - (length head + (count + (least - count))) in
          let other : f.align ≡ 60 → ⊥ = λ z. omega arith in
          let l0 : left_of f.align low ≡ 0 = sym (left_inner f.align low other a) in
          let i0 = inner_all f.align low a in
          let i0' : inner_of f.align low ≡ 0 = omega arith in
          let r0 : low - (left_of f.align low + inner_of f.align low) ≡ 0 = omega arith in
          let l1 : 0 ≡ left_of f.align pad = left_inner f.align pad other a in
          let i1 = inner_all f.align pad a in
          let i1' : least - count ≡ inner_of f.align pad = omega arith in
          let r1 : 0 ≡ pad - (left_of f.align pad + inner_of f.align pad) = omega arith in
          written_whole least (least_some (byte ∷ []) f.align f.width (length head) refl e)
          ∙ (λ i. whole (l0 i) (i0' i) (r0 i) (copies (least - count) (48 ∷ []) ++ figs))
          ∙ zeros_within (least - count) b
          ∙ (λ i. whole (l1 i) (i1' i) (r1 i) figs)

      go : (t : Bool) → pads_from (byte ∷ []) f.align ≡ t → written (formed (byte ∷ []) f) (integer negative size) ≡ plainly (f.width - (length head + count))
      go false e = unpadded e
      go true e =
          cases (eqb f.align 61)
          (λ a. let z = eqb-true f.align 61 a in padded z (eqb-true byte 48 (pads_byte (byte ∷ []) f.align z refl ∙ e)) e)
          (λ a. no (pads_align (byte ∷ []) f.align (eqb-false f.align 61 a) ∙ e))

  pub plain_written : (out : List ℕ) {base top number pad left inner one two three four five : ℕ} {out1 out2 out3 out4 out5 : List ℕ}
      → base ≡ base_of f.kind → top ≡ 0 + length head → number ≡ length (digits base size) → pad ≡ f.width - (top + number) → left ≡ left_of f.align pad → inner ≡ inner_of f.align pad
      → one ≡ 0 + length (fills left) → out1 ≡ over out 0 (fills left)
      → two ≡ one + length head → out2 ≡ over out1 one head
      → three ≡ two + length (fills inner) → out3 ≡ over out2 two (fills inner)
      → four ≡ three + number → out4 ≡ over out3 three (figures_of f.kind base size)
      → five ≡ four + length (fills (pad - (left + inner))) → out5 ≡ over out4 four (fills (pad - (left + inner)))
      → (five ≡ length (written (formed (byte ∷ []) f) (integer negative size))) × (out5 ≡ over out 0 (written (formed (byte ∷ []) f) (integer negative size)))
  plain_written out {base} {top} {number} {pad} {left} {inner} {one} {two} {three} {four} {five} {out1} {out2} {out3} b t m p q i r1 o1 r2 o2 r3 o3 r4 o4 r5 o5 =
      let n : number ≡ count = m ∙ ap (λ x. length (digits x size)) b in
      let o4' = o4 ∙ ap (λ x. over out3 three (figures_of f.kind x size)) b in
      let k = figures_long f.kind (base_of f.kind) size in
      let four' : four ≡ three + length figs = omega arith in
      let p' : pad ≡ f.width - (length head + count) = omega arith in
      let s = five_pieces out 0 (fills left) head (fills inner) figs (fills (pad - (left + inner))) r1 o1 r2 o2 r3 o3 four' o4' r5 o5 in
      let w = written_plain ∙ ap plainly (sym p') in
      let z = rw (q, i) at s in
      rw w ((let y = z.0 in omega arith), z.1)

-- by a form within the set
pub plain_in : (byte : ℕ) (f : Shape) (v : Integer) (out : List ℕ) {r : ℕ} {now : List ℕ} → 1 < base_of f.kind → f.width ≤ 64
    → (r ≡ length (written (formed (byte ∷ []) f) v)) × (now ≡ over out 0 (written (formed (byte ∷ []) f) v))
    → (r ≡ length (written_in (byte ∷ []) f v)) × (now ≡ over out 0 (written_in (byte ∷ []) f v))
plain_in byte f v out b w h = rw (in_set (byte ∷ []) f v b w (omega arith)) h
