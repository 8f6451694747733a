-- THE TEXT OF THE GRAMMAR'S PARTS IS READ TO THEM. Assumes nothing.
use mathlib.Core.Path.{◌≡◌, refl, sym, ◌∙◌, ap}
use mathlib.Core.Bool.{Bool, true, false, ◌&&◌, ◌||◌, not}
use mathlib.Core.List.{List, [], ◌∷◌, ◌++◌, append-nil}
use mathlib.Core.Option.{some}
use Prim.Native.Nat.{ℕ}
use Prim.Native.String.{String}
use native.Mathlib.Nat.{zero-add}
use native.Mathlib.Omega.{arith}
use lib.Dec.{eqb, ltb}
use lib.ListN.{length, get_or, take, get_or-append}
use lib.Seq.{take-append_seam, drop-append_seam, get_or-append_seam}
use borrow.Author.Tests.{eqb-true, eqb-false, not-true, ltb-true, lt-ltb}
use Rattle.definition.specs.Chars.{◌is◌, byte, next}
use Rattle.definition_replay.specs.Spec.{Spec, aligns, signs, groupings, types, is_digit, first, past, front, behind, pointed, past_pointed, fill_size, all, nothing, behind_fill, behind_align, behind_sign, behind_z, behind_alternate, behind_nought, behind_width, behind_grouping, behind_precision, parts_of, spec_of}
use Rattle.definition_replay.specs.IsSpec.{one, point, optional, spelled, Legal}
use Rattle.definition.proofs.Moves.CharLaws.{cases, no, either, inside_true, Utf8, next_same, next_ascii}
use Rattle.definition_replay_laws.proofs.Spec.SpecLaws.{every, is_each, is_some, both_true, Off, front_found}

-- a part that is none, or is one of its characters
pub optional_cases : {A : Type 0} (set : String) (c : ℕ) → optional set c ≡ true → (c ≡ 0 → A) → ((c is set) ≡ true → A) → A
optional_cases set c o f g = either (eqb c 0) (c is set) o (λ e. f (eqb-true c 0 e)) g

pub one_none : one 0 ≡ []
unfolding one
one_none = refl

pub one_some : (set : String) (c : ℕ) → (0 is set) ≡ false → (c is set) ≡ true → one c ≡ c ∷ []
unfolding one
one_some set c z e = rw (is_some set c z e)

module _ (P : ℕ → Bool) where
  pub off_one : (set : String) (c : ℕ) (t : List ℕ) → (0 is set) ≡ false → every (λ b. not (P b)) set ≡ true → optional set c ≡ true → Off P t → Off P (one c ++ t)
  off_one set c t z v o h =
      optional_cases set c o (λ e. rw (e, one_none) h)
      (λ e. rw (one_some set c z e) (not-true (P c) (is_each (λ b. not (P b)) set c v e)))

  pub off_digits : (w t : List ℕ) → ((b : ℕ) → is_digit b ≡ true → P b ≡ false) → all is_digit w ≡ true → Off P t → Off P (w ++ t)
  unfolding all
  off_digits [] t v a h = h
  off_digits (b ∷ w) t v a h = v b (both_true (is_digit b) (all is_digit w) a).0

  off_point : (w t : List ℕ) → P 46 ≡ false → Off P t → Off P (point w ++ t)
  unfolding point
  off_point [] t v h = h
  off_point (b ∷ w) t v h = v

-- a set without digits
pub off_set : (set : String) → every (λ b. not (is_digit b)) set ≡ true → (b : ℕ) → is_digit b ≡ true → (b is set) ≡ false
off_set set v b d = cases (b is set) (λ e. no (sym (not-true (is_digit b) (is_each (λ b. not (is_digit b)) set b v e)) ∙ d)) (λ e. e)

-- EACH PART IS FOUND, and what follows it
module _ (set : String) (c : ℕ) (t : List ℕ) (z : (0 is set) ≡ false) (z' : (256 is set) ≡ false) (o : optional set c ≡ true) where
  first_none : (u : List ℕ) → Off (λ b. b is set) u → (first set u ≡ 0) × (past set u ≡ u)
  unfolding first past
  first_none [] h = (refl, refl)
  first_none (b ∷ u) h = (rw h, rw h)

  pub found : (c ≡ 0 → Off (λ b. b is set) t) → (first set (one c ++ t) ≡ c) × (past set (one c ++ t) ≡ t)
  unfolding first past
  found h =
      optional_cases set c o (λ e. let f = first_none t (h e) in rw (e, one_none) f)
      (λ e. rw (one_some set c z e) (rw e, rw e))

pointed_found : (w t : List ℕ) → all is_digit w ≡ true → Off is_digit t → Off (λ b. b is ".") t → (pointed (point w ++ t) ≡ w) × (past_pointed (point w ++ t) ≡ t)
unfolding pointed past_pointed point past
pointed_found [] [] a h k = (refl, refl)
pointed_found [] (b ∷ t) a h k = (rw k, rw (k, past_pointed))
pointed_found (b ∷ w) t a h k = let f = front_found is_digit (b ∷ w) t a h in (f.0, rw (f.0, past_pointed) f.1)

-- WHAT EACH BYTE OF A TEXT HAS
abbrev each : (ℕ → Bool) → List ℕ → Bool
each P [] = true
each P (b ∷ t) = P b && each P t

module _ (P : ℕ → Bool) where
  each_append : (t u : List ℕ) → each P t ≡ true → each P u ≡ true → each P (t ++ u) ≡ true
  each_append [] u h k = k
  each_append (b ∷ t) u h k = let d = both_true (P b) (each P t) h in rw (d.0, each_append t u d.1 k)

  each_one : (set : String) (c : ℕ) → (0 is set) ≡ false → every P set ≡ true → optional set c ≡ true → each P (one c) ≡ true
  each_one set c z v o = optional_cases set c o (λ e. rw (e, one_none)) (λ e. rw (one_some set c z e) (rw (is_each P set c v e)))

  each_digits : (w : List ℕ) → ((b : ℕ) → is_digit b ≡ true → P b ≡ true) → all is_digit w ≡ true → each P w ≡ true
  unfolding all
  each_digits [] v a = refl
  each_digits (b ∷ w) v a = let d = both_true (is_digit b) (all is_digit w) a in rw (v b d.0, each_digits w v d.1)

  each_point : (w : List ℕ) → ((b : ℕ) → is_digit b ≡ true → P b ≡ true) → P 46 ≡ true → all is_digit w ≡ true → each P (point w) ≡ true
  unfolding point
  each_point [] v h a = refl
  each_point (b ∷ w) v h a = rw (h, each_digits (b ∷ w) v a)

-- an ASCII character that is no align
plain : ℕ → Bool
plain b = ltb b 0x80 && not (b is aligns)

digit_plain : (b : ℕ) → is_digit b ≡ true → plain b ≡ true
unfolding plain
digit_plain b d = let h = inside_true 48 57 b d in rw (lt-ltb b 0x80 (omega arith), off_set aligns refl b d)

-- texts of such: none of the first two characters is an align
plain_first : (t : List ℕ) → each plain t ≡ true → (byte t 0 is aligns) ≡ false
unfolding plain
plain_first [] h = refl
plain_first (b ∷ t) h = not-true (b is aligns) (both_true (ltb b 0x80) (not (b is aligns)) (both_true (plain b) (each plain t) h).0).1

plain_off : (t : List ℕ) → each plain t ≡ true → (byte t (next t 0) is aligns) ≡ false
unfolding plain next
plain_off [] h = refl
plain_off (b ∷ t) h =
    let d = both_true (plain b) (each plain t) h in
    let a = both_true (ltb b 0x80) (not (b is aligns)) d.0 in
    rw (next_ascii (b ∷ t) 0 (ltb-true b 0x80 a.0)) (plain_first t d.1)

aligned_off : (a : ℕ) (t : List ℕ) → (a is aligns) ≡ true → each plain t ≡ true → (byte (a ∷ t) (next (a ∷ t) 0) is aligns) ≡ false
unfolding plain
aligned_off a t e h = rw (next_ascii (a ∷ t) 0 (ltb-true a 0x80 (is_each (λ b. ltb b 0x80) aligns a refl e))) (plain_first t h)

-- PARTS OF THE GRAMMAR, and their text
module _ (p : Spec) (l : Legal p) where
  abbrev t₉ : List ℕ
  t₉ = one p.type

  abbrev t₈ : List ℕ
  t₈ = point p.precision ++ t₉

  abbrev t₇ : List ℕ
  t₇ = one p.grouping ++ t₈

  abbrev t₆ : List ℕ
  t₆ = p.width ++ t₇

  abbrev t₅ : List ℕ
  t₅ = one p.nought ++ t₆

  abbrev t₄ : List ℕ
  t₄ = one p.alternate ++ t₅

  abbrev t₃ : List ℕ
  t₃ = one p.z ++ t₄

  abbrev t₂ : List ℕ
  t₂ = one p.sign ++ t₃

  abbrev t₁ : List ℕ
  t₁ = one p.align ++ t₂

  module _ (P : ℕ → Bool) (v₉ : every (λ b. not (P b)) types ≡ true) (w : P 256 ≡ false) where
    off₉ : Off P t₉
    off₉ = rw (← append-nil (one p.type)) (off_one P types p.type [] refl v₉ l.type w)

    module _ (v₈ : P 46 ≡ false) where
      off₈ : Off P t₈
      off₈ = off_point P p.precision t₉ v₈ off₉

      module _ (v₇ : every (λ b. not (P b)) groupings ≡ true) where
        off₇ : Off P t₇
        off₇ = off_one P groupings p.grouping t₈ refl v₇ l.grouping off₈

        module _ (v₆ : (b : ℕ) → is_digit b ≡ true → P b ≡ false) (v₅ : P 48 ≡ false) where
          off₅ : Off P t₅
          off₅ = off_one P "0" p.nought t₆ refl (rw v₅) l.nought (off_digits P p.width t₇ v₆ l.width off₇)

          module _ (v₄ : P 35 ≡ false) where
            off₄ : Off P t₄
            off₄ = off_one P "#" p.alternate t₅ refl (rw v₄) l.alternate off₅

            off₃ : P 122 ≡ false → Off P t₃
            off₃ v₃ = off_one P "z" p.z t₄ refl (rw v₃) l.z off₄

  plain_rest : each plain t₂ ≡ true
  unfolding plain
  plain_rest =
      each_append plain (one p.sign) t₃ (each_one plain signs p.sign refl refl l.sign)
      (each_append plain (one p.z) t₄ (each_one plain "z" p.z refl refl l.z)
      (each_append plain (one p.alternate) t₅ (each_one plain "#" p.alternate refl refl l.alternate)
      (each_append plain (one p.nought) t₆ (each_one plain "0" p.nought refl refl l.nought)
      (each_append plain p.width t₇ (each_digits plain p.width digit_plain l.width)
      (each_append plain (one p.grouping) t₈ (each_one plain groupings p.grouping refl refl l.grouping)
      (each_append plain (point p.precision) t₉ (each_point plain p.precision digit_plain refl l.precision)
      (each_one plain types p.type refl refl l.type)))))))

  -- the flag: where there is none, no `0` follows
  off_nought : p.nought ≡ 0 → Off (λ b. b is "0") t₆
  off_nought e = go p.width l.width (rw e at l.flag)
    where
      go : (w : List ℕ) → all is_digit w ≡ true → (not (eqb 0 0) || not (byte w 0 is "0")) ≡ true → Off (λ b. b is "0") (w ++ t₇)
      go [] a h = off₇ (λ b. b is "0") refl refl refl refl
      go (b ∷ w) a h = not-true (b is "0") h

  -- a fill: one character, and an align behind it
  module _ (b : ℕ) (f : List ℕ) (u : Utf8 (b ∷ f)) (n : next (b ∷ f) 0 ≡ length (b ∷ f)) (a : (p.align is aligns) ≡ true) where
    next_found : next ((b ∷ f) ++ t₁) 0 ≡ length (b ∷ f)
    next_found =
        let m =
        next_same (b ∷ f) ((b ∷ f) ++ t₁) 0 (omega arith) u
        (λ k m e h. ap (λ x. get_or (b ∷ f) x 256) (e ∙ zero-add m) ∙ sym (get_or-append (b ∷ f) t₁ 256 m (omega arith)))
        (omega arith) in
        omega arith

    align_found : byte ((b ∷ f) ++ t₁) (length (b ∷ f)) ≡ p.align
    align_found = rw (one_some aligns p.align refl a) (get_or-append_seam (b ∷ f) p.align t₂ 256)

    size_found : fill_size ((b ∷ f) ++ t₁) ≡ length (b ∷ f)
    unfolding fill_size
    size_found = rw (next_found, align_found, a)

  -- the fill
  fill_found : Utf8 p.fill → fill_size (p.fill ++ t₁) ≡ length p.fill
  unfolding fill_size nothing
  fill_found u = go p.fill u l.fill
    where
      none_found : (byte t₁ (next t₁ 0) is aligns) ≡ false
      none_found =
          optional_cases aligns p.align l.align (λ e. rw (e, one_none) (plain_off t₂ plain_rest))
          (λ e. rw (one_some aligns p.align refl e) (aligned_off p.align t₂ e plain_rest))

      go : (f : List ℕ) → Utf8 f → (nothing f || eqb (next f 0) (length f) && not (eqb p.align 0)) ≡ true → fill_size (f ++ t₁) ≡ length f
      go [] u h = rw none_found
      go (b ∷ f) u h =
          let d = both_true (eqb (next (b ∷ f) 0) (length (b ∷ f))) (not (eqb p.align 0)) h in
          size_found b f u (eqb-true _ _ d.0)
          (optional_cases aligns p.align l.align (λ e. absurd (eqb-false p.align 0 (not-true _ d.1) e)) (λ e. e))

  module _ (u : Utf8 p.fill) where
    abbrev s : List ℕ
    s = p.fill ++ t₁

    e₁ : behind_fill s ≡ t₁
    e₁ = rw (fill_found u) (drop-append_seam p.fill t₁)

    c₁ : (first aligns t₁ ≡ p.align) × (past aligns t₁ ≡ t₂)
    c₁ = found aligns p.align t₂ refl refl l.align (λ e. plain_first t₂ plain_rest)

    c₂ : (first signs t₂ ≡ p.sign) × (past signs t₂ ≡ t₃)
    c₂ = found signs p.sign t₃ refl refl l.sign (λ e. off₃ (λ b. b is signs) refl refl refl refl (off_set signs refl) refl refl refl)

    c₃ : (first "z" t₃ ≡ p.z) × (past "z" t₃ ≡ t₄)
    c₃ = found "z" p.z t₄ refl refl l.z (λ e. off₄ (λ b. b is "z") refl refl refl refl (off_set "z" refl) refl refl)

    c₄ : (first "#" t₄ ≡ p.alternate) × (past "#" t₄ ≡ t₅)
    c₄ = found "#" p.alternate t₅ refl refl l.alternate (λ e. off₅ (λ b. b is "#") refl refl refl refl (off_set "#" refl) refl)

    c₅ : (first "0" t₅ ≡ p.nought) × (past "0" t₅ ≡ t₆)
    c₅ = found "0" p.nought t₆ refl refl l.nought off_nought

    c₆ : (front is_digit t₆ ≡ p.width) × (behind is_digit t₆ ≡ t₇)
    c₆ = front_found is_digit p.width t₇ l.width (off₇ is_digit refl refl refl refl)

    c₇ : (first groupings t₇ ≡ p.grouping) × (past groupings t₇ ≡ t₈)
    c₇ = found groupings p.grouping t₈ refl refl l.grouping (λ e. off₈ (λ b. b is groupings) refl refl refl)

    c₈ : (pointed t₈ ≡ p.precision) × (past_pointed t₈ ≡ t₉)
    c₈ = pointed_found p.precision t₉ l.precision (off₉ is_digit refl refl) (off₉ (λ b. b is ".") refl refl)

    c₉ : (first types t₉ ≡ p.type) × (past types t₉ ≡ [])
    c₉ = rw (append-nil (one p.type)) at (found types p.type [] refl refl l.type (λ e. refl))

    e₂ : behind_align s ≡ t₂
    e₂ = ap (past aligns) e₁ ∙ c₁.1

    e₃ : behind_sign s ≡ t₃
    e₃ = ap (past signs) e₂ ∙ c₂.1

    e₄ : behind_z s ≡ t₄
    e₄ = ap (past "z") e₃ ∙ c₃.1

    e₅ : behind_alternate s ≡ t₅
    e₅ = ap (past "#") e₄ ∙ c₄.1

    e₆ : behind_nought s ≡ t₆
    e₆ = ap (past "0") e₅ ∙ c₅.1

    e₇ : behind_width s ≡ t₇
    e₇ = ap (behind is_digit) e₆ ∙ c₆.1

    e₈ : behind_grouping s ≡ t₈
    e₈ = ap (past groupings) e₇ ∙ c₇.1

    e₉ : behind_precision s ≡ t₉
    e₉ = ap past_pointed e₈ ∙ c₈.1

    parts : parts_of s ≡ p
    unfolding parts_of
    parts =
        λ i.
        record {
          fill = (ap (λ n. take n s) (fill_found u) ∙ take-append_seam p.fill t₁) i;
          align = (ap (first aligns) e₁ ∙ c₁.0) i;
          sign = (ap (first signs) e₂ ∙ c₂.0) i;
          z = (ap (first "z") e₃ ∙ c₃.0) i;
          alternate = (ap (first "#") e₄ ∙ c₄.0) i;
          nought = (ap (first "0") e₅ ∙ c₅.0) i;
          width = (ap (front is_digit) e₆ ∙ c₆.0) i;
          grouping = (ap (first groupings) e₇ ∙ c₇.0) i;
          precision = (ap pointed e₈ ∙ c₈.0) i;
          type = (ap (first types) e₉ ∙ c₉.0) i;
        }

    -- THE TEXT OF PARTS is read to them
    pub spec_whole : spec_of (spelled p) ≡ some p
    unfolding spec_of spelled nothing
    spec_whole = rw (ap (past types) e₉ ∙ c₉.1) (ap some parts)
