-- FIGURES IN GROUPS, and the number back from its text. Assumes nothing.
use mathlib.Core.Path.{◌≡◌, refl, sym, ◌∙◌, ap, ap₂}
use mathlib.Core.Bool.{true, false, ◌||◌}
use mathlib.Core.List.{List, [], ◌∷◌, ◌++◌, map, reverse}
use Prim.Native.Nat.{ℕ, zero, suc, ◌+◌, ◌-◌, ◌*◌, ◌%◌, ◌≤◌, ◌<◌}
use native.Mathlib.Nat.{mod-eq_of_lt, add-mod_right, mod_self, not-suc-le-zero}
use native.Mathlib.Omega.{arith}
use lib.Dec.{ltb, eqb}
use lib.ListN.{length, get_or, replicate, length-append, length-reverse}
use borrow.Author.Tests.{ltb-true, ltb-false, eqb-true, eq-eqb, ne_eqb}
use Rattle.definition.specs.Chars.{◌is◌}
use Rattle.definition.specs.Escapes.{hex_digit}
use Rattle.definition_replay.specs.Spec.{groupings}
use Rattle.definition_replay.specs.IsSpec.{optional}
use Rattle.definition_replay.specs.Integers.{Integer, Form, base_of, figure, head_of, grouped, group_size, figures, copies}
use Rattle.definition_replay.specs.IsInteger.{value, Below, leading, without, IsGrouped, IsWritten}
use Rattle.definition.proofs.Moves.CharLaws.{cases, either, inside_yes, inside_not}
use Rattle.definition_replay_laws.proofs.Integers.Digits.{leading_tail}

-- none of these is b
abbrev pub Lacks : ℕ → List ℕ → Type 0
Lacks b [] = Unit {0}
Lacks b (x ∷ t) = (x ≡ b → ⊥) × Lacks b t

without_here : (b : ℕ) (t : List ℕ) → without b (b ∷ t) ≡ without b t
unfolding without
without_here b t = rw (eq-eqb b b refl)

without_not : (b x : ℕ) (t : List ℕ) → (x ≡ b → ⊥) → without b (x ∷ t) ≡ x ∷ without b t
unfolding without
without_not b x t h = rw (ne_eqb x b h)

without_lacks : (b : ℕ) (t : List ℕ) → Lacks b t → without b t ≡ t
unfolding without
without_lacks b [] h = refl
without_lacks b (x ∷ t) h = without_not b x t h.0 ∙ ap (λ l. x ∷ l) (without_lacks b t h.1)

module _ (separator size : ℕ) (one : 1 ≤ size) where
  grouped_without : (k : ℕ) (ds : List ℕ) → Lacks separator ds → without separator (grouped separator size k ds) ≡ ds
  unfolding grouped without
  grouped_without k [] h = refl
  grouped_without zero (d ∷ ds) h =
      without_here separator (d ∷ grouped separator size (size - 1) ds) ∙ without_not separator d (grouped separator size (size - 1) ds) h.0
      ∙ ap (λ l. d ∷ l) (grouped_without (size - 1) ds h.1)
  grouped_without (suc k) (d ∷ ds) h = without_not separator d (grouped separator size k ds) h.0 ∙ ap (λ l. d ∷ l) (grouped_without k ds h.1)

  one_past : (gone : ℕ) → gone ≡ size → 1 + gone ≡ size + 1
  one_past gone e = omega arith

  round : (i gone : ℕ) → gone ≡ size → suc (suc i) + gone ≡ (i + 1) + (size + 1)
  round i gone e = omega arith

  -- after `gone` figures since the last one
  grouped_every : (k gone : ℕ) (ds : List ℕ) → Lacks separator ds → k + gone ≡ size → (i : ℕ) → i < length (grouped separator size k ds)
      → eqb (get_or (grouped separator size k ds) i 0) separator ≡ eqb ((i + gone) % (size + 1)) size
  unfolding grouped
  grouped_every k gone [] h e i l = absurd (not-suc-le-zero l)
  grouped_every zero gone (d ∷ ds) h e zero l = eq-eqb separator separator refl ∙ sym (eq-eqb _ size (mod-eq_of_lt (omega arith) ∙ omega arith))
  grouped_every zero gone (d ∷ ds) h e (suc zero) l = ne_eqb d separator h.0 ∙ sym (ne_eqb _ size (λ q. let r : (1 + gone) % (size + 1) ≡ 0 = ap (λ n. n % (size + 1)) (one_past gone (omega arith)) ∙ mod_self (size + 1) in absurd (omega arith)))
  grouped_every zero gone (d ∷ ds) h e (suc (suc i)) l = grouped_every (size - 1) 1 ds h.1 (omega arith) i (omega arith) ∙ ap (λ n. eqb n size) (sym (ap (λ n. n % (size + 1)) (round i gone (omega arith)) ∙ add-mod_right (i + 1) (size + 1)))
  grouped_every (suc k) gone (d ∷ ds) h e zero l = ne_eqb d separator h.0 ∙ sym (ne_eqb _ size (λ q. let r : (0 + gone) % (size + 1) ≡ 0 + gone = mod-eq_of_lt (omega arith) in absurd (omega arith)))
  grouped_every (suc k) gone (d ∷ ds) h e (suc i) l = grouped_every k (suc gone) ds h.1 (omega arith) i (omega arith) ∙ ap (λ n. eqb (n % (size + 1)) size) (omega arith)

  grouped_some : (k d : ℕ) (ds : List ℕ) → 0 < length (grouped separator size k (d ∷ ds))
  unfolding grouped
  grouped_some zero d ds = omega arith
  grouped_some (suc k) d ds = omega arith

  grouped_front : (k : ℕ) (ds : List ℕ) → 0 < length ds → leading (grouped separator size k ds) ≡ leading ds
  unfolding grouped leading
  grouped_front k [] h = absurd (omega arith)
  grouped_front zero (d ∷ []) h = refl
  grouped_front zero (d ∷ d' ∷ ds) h = leading_tail d (grouped separator size (size - 1) (d' ∷ ds)) (grouped_some (size - 1) d' ds) ∙ grouped_front (size - 1) (d' ∷ ds) (omega arith)
  grouped_front (suc k) (d ∷ []) h = refl
  grouped_front (suc k) (d ∷ d' ∷ ds) h = leading_tail d (grouped separator size k (d' ∷ ds)) (grouped_some k d' ds) ∙ grouped_front k (d' ∷ ds) (omega arith)

  lacks_leading : (ds : List ℕ) → Lacks separator ds → 0 < length ds → leading ds ≡ separator → ⊥
  unfolding leading
  lacks_leading [] h l = absurd (omega arith)
  lacks_leading (d ∷ []) h l = h.0
  lacks_leading (d ∷ d' ∷ ds) h l = lacks_leading (d' ∷ ds) h.1 (omega arith)

  some_grouped : (ds : List ℕ) → 0 < length (grouped separator size size ds) → 0 < length ds
  unfolding grouped
  some_grouped [] h = h
  some_grouped (d ∷ ds) h = omega arith

  pub grouped_is : (ds : List ℕ) → Lacks separator ds → IsGrouped separator size ds (grouped separator size size ds)
  grouped_is ds h =
      record {
        figures = grouped_without size ds h;
        every = λ i l. grouped_every size 0 ds h (omega arith) i l ∙ ap (λ n. eqb (n % (size + 1)) size) (omega arith);
        front = λ l. ne_eqb _ separator (λ e. lacks_leading ds h (some_grouped ds l) (sym (grouped_front size ds (some_grouped ds l)) ∙ e));
      }

-- A FIGURE is read back, and is no separator
module _ (type d : ℕ) (h : d < 16) where
  pub figure_back : hex_digit (figure type d) ≡ d
  unfolding hex_digit figure
  figure_back =
      cases (ltb d 10) (λ e. let k = ltb-true d 10 e in rw e (rw (inside_yes 48 57 (48 + d) (omega arith) (omega arith)) (omega arith)))
      (λ e.
      let k = ltb-false d 10 e in
      cases (type is "X")
      (λ x. rw (e, x) (rw (inside_not 48 57 (55 + d) (λ p q. omega arith), inside_yes 65 70 (55 + d) (omega arith) (omega arith)) (omega arith)))
      (λ x.
      rw (e, x)
      (rw (inside_not 48 57 (87 + d) (λ p q. omega arith), inside_not 65 70 (87 + d) (λ p q. omega arith), inside_yes 97 102 (87 + d) (omega arith) (omega arith)) (omega arith))))

  pub figure_plain : (figure type d ≡ 44 → ⊥) × (figure type d ≡ 95 → ⊥) × (figure type d ≡ 0 → ⊥)
  unfolding figure
  figure_plain =
      cases (ltb d 10) (λ e. let k = ltb-true d 10 e in rw e (omega arith))
      (λ e. let k = ltb-false d 10 e in cases (type is "X") (λ x. rw (e, x) (omega arith)) (λ x. rw (e, x) (omega arith)))

pub base_most : (t : ℕ) → base_of t ≤ 16
unfolding base_of
base_most t =
    cases (eqb t 0 || t is "d") (λ a. rw a (omega arith))
    (λ a.
    cases (t is "b") (λ b. rw (a, b) (omega arith))
    (λ b.
    cases (t is "o") (λ c. rw (a, b, c) (omega arith)) (λ c. cases (t is "xX") (λ d. rw (a, b, c, d) (omega arith)) (λ d. rw (a, b, c, d) (omega arith)))))

-- THE NUMBER BACK: zeros in front add nothing
value_zeros : (base n : ℕ) (ds : List ℕ) → value base (ds ++ replicate n 0) ≡ value base ds
unfolding value
value_zeros base zero [] = refl
value_zeros base (suc n) [] = rw (value_zeros base n []) (omega arith)
value_zeros base n (d ∷ ds) = ap (λ v. d + base * v) (value_zeros base n ds)

below_zeros : (base n : ℕ) (ds : List ℕ) → 0 < base → Below base ds → Below base (ds ++ replicate n 0)
below_zeros base zero [] p b = tt
below_zeros base (suc n) [] p b = (p, below_zeros base n [] p tt)
below_zeros base n (d ∷ ds) p b = (b.0, below_zeros base n ds p b.1)

module _ (type base : ℕ) (most : base ≤ 16) where
  figures_back : (ds : List ℕ) → Below base ds → map hex_digit (map (figure type) ds) ≡ ds
  figures_back [] b = refl
  figures_back (d ∷ ds) b = ap₂ (λ x l. x ∷ l) (figure_back type d (omega (arith, b.0))) (figures_back ds b.1)

  figures_lack : (s : ℕ) → optional groupings s ≡ true → (ds : List ℕ) → Below base ds → Lacks s (map (figure type) ds)
  figures_lack s o [] b = tt
  figures_lack s o (d ∷ ds) b = (λ e. apart e (figure_plain type d (omega (arith, b.0))), figures_lack s o ds b.1)
    where
      apart : figure type d ≡ s → (figure type d ≡ 44 → ⊥) × (figure type d ≡ 95 → ⊥) × (figure type d ≡ 0 → ⊥) → ⊥
      apart e n =
          either (eqb s 0) (s is groupings) o (λ p. n.2 (e ∙ eqb-true s 0 p))
          (λ p. either (eqb s 95) (eqb s 44) p (λ q. n.1 (e ∙ eqb-true s 95 q)) (λ q. n.0 (e ∙ eqb-true s 44 q)))

-- the figures of a form: in groups if it has a separator, and without that the digits' figures
module _ (f : Form) (o : optional groupings f.grouping ≡ true) where
  size_some : 1 ≤ group_size f
  unfolding group_size
  size_some = cases (eqb (base_of f.type) 10) (λ e. rw e (omega arith)) (λ e. rw e (omega arith))

  pub figures_grouped : (ds : List ℕ) → Below (base_of f.type) ds → eqb f.grouping 0 ≡ false → IsGrouped f.grouping (group_size f) (map (figure f.type) ds) (figures f ds)
  unfolding figures
  figures_grouped ds b e =
      rw e (grouped_is f.grouping (group_size f) size_some (map (figure f.type) ds) (figures_lack f.type (base_of f.type) (base_most f.type) f.grouping o ds b))

  pub figures_without : (ds : List ℕ) → Below (base_of f.type) ds → without f.grouping (figures f ds) ≡ map (figure f.type) ds
  unfolding figures
  figures_without ds b =
      let l = figures_lack f.type (base_of f.type) (base_most f.type) f.grouping o ds b in
      cases (eqb f.grouping 0) (λ e. rw e (without_lacks f.grouping (map (figure f.type) ds) l))
      (λ e. rw e (grouped_without f.grouping (group_size f) size_some (group_size f) (map (figure f.type) ds) l))

  -- THE NUMBER BACK from its text: without fills, sign, prefix and separators, the figures' value in the base is the number
  pub written_back : (v : Integer) (t : List ℕ) → 1 < base_of f.type → (r : IsWritten f v t)
      → value (base_of f.type) (map hex_digit (without f.grouping (figures f (r.digits ++ replicate r.zeros 0)))) ≡ v.size
  written_back v t big r =
      let base = base_of f.type in
      let ds = r.digits ++ replicate r.zeros 0 in
      let b = below_zeros base r.zeros r.digits (omega arith) r.number.below in
      ap (λ l. value base (map hex_digit l)) (figures_without ds b)
      ∙ ap (value base) (figures_back f.type base (base_most f.type) ds b)
      ∙ value_zeros base r.zeros r.digits
      ∙ r.number.number

-- AT LEAST AS WIDE AS ASKED FOR, in bytes too
copies_length : (n : ℕ) (t : List ℕ) → 0 < length t → n ≤ length (copies n t)
unfolding copies
copies_length zero t h = omega arith
copies_length (suc n) t h = omega (arith, copies_length n t h, length-append t (copies n t))

pub written_wide : (f : Form) (v : Integer) (t : List ℕ) → 0 < length f.fill → IsWritten f v t → f.width ≤ length t
written_wide f v t h r =
    let figs = reverse (figures f (r.digits ++ replicate r.zeros 0)) in
    let a = copies r.left f.fill in
    let b = copies r.inner f.fill in
    let c = copies r.right f.fill in
    let e₁ = length-append (a ++ head_of f v ++ b ++ figs) c in
    let e₂ = length-append (a ++ head_of f v ++ b) figs in
    let e₃ = length-append (a ++ head_of f v) b in
    let e₄ = length-append a (head_of f v) in
    let e₅ = length-reverse (figures f (r.digits ++ replicate r.zeros 0)) in
    let l₁ = copies_length r.left f.fill h in
    let l₂ = copies_length r.inner f.fill h in
    let l₃ = copies_length r.right f.fill h in
    let w = r.wide in
    let q = ap length r.text in
    omega arith
