-- A TEXT OF THE GRAMMAR IS THE TEXT OF ITS PARTS, and no other text is of it: both ways. Assumes nothing.
use mathlib.Core.Path.{◌≡◌, refl, sym, ◌∙◌, ap}
use mathlib.Core.Bool.{Bool, true, false, ◌&&◌, ◌||◌, not}
use mathlib.Core.List.{List, [], ◌∷◌, ◌++◌, append-nil}
use mathlib.Core.Option.{Option, none, some}
use Prim.Native.Nat.{ℕ, ◌<◌}
use Prim.Native.Char.{code as code_of}
use Prim.Native.String.{String, [] as []ˢ, ◌∷◌ as ◌∷ˢ◌}
use native.Mathlib.Nat.{zero-add}
use native.Mathlib.Omega.{arith}
use lib.Dec.{eqb, ltb}
use lib.ListN.{length, get_or, take, drop, take-append-drop}
use lib.Seq.{drop-cons, get_or-take, length-take-le}
use borrow.Author.Tests.{eq-eqb, ne_eqb, eqb-true, ltb-true}
use Rattle.definition.specs.Chars.{◌is◌, byte, next}
use Rattle.definition_replay.specs.Spec.{Spec, aligns, signs, groupings, types, is_digit, first, past, front, behind, pointed, past_pointed, fill_size, all, nothing, behind_fill, behind_align, behind_sign, behind_z, behind_alternate, behind_nought, behind_width, behind_grouping, behind_precision, behind_type, parts_of, spec_of}
use Rattle.definition_replay.specs.IsSpec.{one, point, optional, spelled, Legal}
use Rattle.definition.proofs.Moves.CharLaws.{cases, no, either, Utf8, byte_in, next_same, next_past}

-- a character of a set that lacks 0 is not 0
pub is_some : (set : String) (b : ℕ) → (0 is set) ≡ false → (b is set) ≡ true → eqb b 0 ≡ false
is_some set b z e = ne_eqb b 0 (λ f. no (sym z ∙ ap (λ x. x is set) (sym f) ∙ e))

-- a text does not begin with a byte that passes a test
abbrev pub Off : (ℕ → Bool) → List ℕ → Type 0
Off P t = P (byte t 0) ≡ false

pub both_true : (x y : Bool) → (x && y) ≡ true → (x ≡ true) × (y ≡ true)
both_true true y e = (refl, e)
both_true false y e = no e

-- EACH PART and what follows it
module _ (set : String) (z : (0 is set) ≡ false) where
  pub one_past : (s : List ℕ) → one (first set s) ++ past set s ≡ s
  unfolding one first past
  one_past [] = refl
  one_past (b ∷ s) = cases (b is set) (λ e. rw (e, is_some set b z e)) (λ e. rw e)

  pub first_legal : (s : List ℕ) → optional set (first set s) ≡ true
  unfolding first
  first_legal [] = refl
  first_legal (b ∷ s) = cases (b is set) (λ e. rw (e) (rw (is_some set b z e) e)) (λ e. rw e)

module _ (test : ℕ → Bool) where
  pub front_behind : (s : List ℕ) → front test s ++ behind test s ≡ s
  unfolding front behind
  front_behind [] = refl
  front_behind (b ∷ s) = cases (test b) (λ e. rw e (ap (λ t. b ∷ t) (front_behind s))) (λ e. rw e)

  pub front_all : (s : List ℕ) → all test (front test s) ≡ true
  unfolding front all
  front_all [] = refl
  front_all (b ∷ s) = cases (test b) (λ e. rw e (rw (e, front_all s))) (λ e. rw e)

  -- a text of such bytes in front of one that does not begin so
  pub front_found : (w t : List ℕ) → all test w ≡ true → Off test t → (front test (w ++ t) ≡ w) × (behind test (w ++ t) ≡ t)
  unfolding front behind all
  front_found [] [] a h = (refl, refl)
  front_found [] (b ∷ t) a h = (rw h, rw h)
  front_found (b ∷ w) t a h =
      let d = both_true (test b) (all test w) a in
      let f = front_found w t d.1 h in
      (rw d.0 (ap (λ l. b ∷ l) f.0), rw d.0 f.1)

-- a precision: digits behind a point
at_point : (d : ℕ) (ds t : List ℕ) → pointed t ≡ d ∷ ds → (46 ∷ d ∷ ds) ++ behind is_digit (past "." t) ≡ t
unfolding pointed past
at_point d ds [] e = cc
at_point d ds (b ∷ t) e =
    cases (b is ".")
    (λ f. rw f (ap (λ u. 46 ∷ u) (ap (λ u. u ++ behind is_digit t) (sym (rw f at e)) ∙ front_behind is_digit t) ∙ ap (λ x. x ∷ t) (sym (eqb-true b 46 f))))
    (λ f. let g : ◌≡◌ {A = List ℕ} [] (d ∷ ds) = rw f at e in cc)

pointed_past : (s : List ℕ) → point (pointed s) ++ past_pointed s ≡ s
unfolding past_pointed point
pointed_past s = go (pointed s) refl
  where
    go : (l : List ℕ) → pointed s ≡ l → point (pointed s) ++ past_pointed s ≡ s
    go [] e = rw (e, past_pointed)
    go (d ∷ ds) e = rw (e, past_pointed) (at_point d ds s e)

pointed_legal : (s : List ℕ) → all is_digit (pointed s) ≡ true
unfolding pointed all
pointed_legal [] = refl
pointed_legal (b ∷ s) = cases (b is ".") (λ e. rw e (front_all is_digit s)) (λ e. rw e)

-- the first 0 is the flag
flag_first : (s : List ℕ) → (not (eqb (first "0" s) 0) || not (byte (front is_digit (past "0" s)) 0 is "0")) ≡ true
unfolding first past front
flag_first [] = refl
flag_first (b ∷ s) =
    cases (b is "0") (λ e. rw e (rw (is_some "0" b refl e)))
    (λ e. rw e (cases (is_digit b) (λ f. rw f (rw e)) (λ f. rw f)))

-- CHARACTERS OF A SET: what each of them has
abbrev pub every : (ℕ → Bool) → String → Bool
every P []ˢ = true
every P (a ∷ˢ s) = P (code_of a) && every P s

pub is_each : (P : ℕ → Bool) (set : String) (c : ℕ) → every P set ≡ true → (c is set) ≡ true → P c ≡ true
is_each P []ˢ c a e = no e
is_each P (b ∷ˢ []ˢ) c a e = ap P (eqb-true c (code_of b) e) ∙ (both_true (P (code_of b)) true a).0
is_each P (b ∷ˢ d ∷ˢ s) c a e =
    let h = both_true (P (code_of b)) (every P (d ∷ˢ s)) a in
    either (eqb c (code_of b)) (c is (d ∷ˢ s)) e (λ f. ap P (eqb-true c (code_of b) f) ∙ h.0) (λ f. is_each P (d ∷ˢ s) c h.1 f)

-- the fill
first_is : (set : String) (t : List ℕ) → (256 is set) ≡ false → (byte t 0 is set) ≡ true → first set t ≡ byte t 0
unfolding first
first_is set [] z e = no (sym z ∙ e)
first_is set (b ∷ t) z e = rw e

aligns_byte : (b : ℕ) → (b is aligns) ≡ true → b < 256
aligns_byte b e = ltb-true b 256 (is_each (λ c. ltb c 256) aligns b refl e)

some_first : (t : List ℕ) → 0 < length t → nothing t ≡ false
unfolding nothing
some_first [] h = absurd (omega arith)
some_first (b ∷ t) h = refl

module _ (s : List ℕ) (u : Utf8 s) (e : (byte s (next s 0) is aligns) ≡ true) where
  align_in : next s 0 < length s
  align_in = byte_in s (next s 0) (aligns_byte (byte s (next s 0)) e)

  begun : 0 < next s 0
  begun = next_past s 0 (omega (arith, align_in))

  front_length : length (take (next s 0) s) ≡ next s 0
  front_length = length-take-le (next s 0) s (omega (arith, align_in))

  front_one : next (take (next s 0) s) 0 ≡ length (take (next s 0) s)
  front_one =
      let l = front_length in
      let m =
      next_same s (take (next s 0) s) 0 (omega (arith, align_in)) u
      (λ k n p h. ap (λ x. get_or s x 256) (p ∙ zero-add n) ∙ sym (get_or-take (next s 0) s n 256 (omega arith)))
      (omega (arith, l, begun)) in
      omega arith

  align_first : eqb (first aligns (drop (next s 0) s)) 0 ≡ false
  unfolding first
  align_first = is_some aligns (first aligns (drop (next s 0) s)) refl (rw (drop-cons s (next s 0) 256 align_in, first) (rw e e))

  front_some : nothing (take (next s 0) s) ≡ false
  front_some = some_first (take (next s 0) s) (omega (arith, front_length, begun))

fill_legal : (s : List ℕ) → Utf8 s → (nothing (parts_of s).fill || eqb (next (parts_of s).fill 0) (length (parts_of s).fill) && not (eqb (parts_of s).align 0)) ≡ true
unfolding parts_of fill_size nothing
fill_legal s u =
    cases (byte s (next s 0) is aligns) (λ e. rw e (rw (front_some s u e, eq-eqb _ _ (front_one s u e), align_first s u e))) (λ e. rw e)

pub nothing_left : (s : List ℕ) → nothing s ≡ true → s ≡ []
unfolding nothing
nothing_left [] e = refl
nothing_left (b ∷ s) e = no e

onto : (a : List ℕ) {b c d : List ℕ} → b ≡ d → a ++ d ≡ c → a ++ b ≡ c
onto a e f = ap (λ t. a ++ t) e ∙ f

parts_spelled : (s : List ℕ) → behind_type s ≡ [] → spelled (parts_of s) ≡ s
unfolding spelled parts_of
parts_spelled s e =
    onto (take (fill_size s) s)
    (onto (one (first aligns (behind_fill s)))
    (onto (one (first signs (behind_align s)))
    (onto (one (first "z" (behind_sign s)))
    (onto (one (first "#" (behind_z s)))
    (onto (one (first "0" (behind_alternate s)))
    (onto (front is_digit (behind_nought s))
    (onto (one (first groupings (behind_width s)))
    (onto (point (pointed (behind_grouping s)))
    (sym (append-nil _) ∙ onto (one (first types (behind_precision s))) (sym e) (one_past types refl (behind_precision s)))
    (pointed_past (behind_grouping s)))
    (one_past groupings refl (behind_width s)))
    (front_behind is_digit (behind_nought s)))
    (one_past "0" refl (behind_alternate s)))
    (one_past "#" refl (behind_z s)))
    (one_past "z" refl (behind_sign s)))
    (one_past signs refl (behind_align s)))
    (one_past aligns refl (behind_fill s)))
    (take-append-drop (fill_size s) s)

-- A TEXT THAT IS READ is that of its parts, which are the grammar's
pub spec_sound : (s : List ℕ) (p : Spec) → Utf8 s → spec_of s ≡ some p → (spelled p ≡ s) × Legal p
unfolding spec_of parts_of
spec_sound s p u e =
    cases (nothing (behind_type s))
    (λ t.
    let q : parts_of s ≡ p = let r : ◌≡◌ {A = Option Spec} (some (parts_of s)) (some p) = rw t at e in cc in
    rw (← q) (parts_spelled s (nothing_left (behind_type s) t), legal))
    (λ t. let r : ◌≡◌ {A = Option Spec} none (some p) = rw t at e in let z : ◌≡◌ {A = ℕ} 0 1 = cc in absurd (omega arith))
  where
    legal : Legal (parts_of s)
    legal =
        record {
          fill = fill_legal s u;
          align = first_legal aligns refl (behind_fill s);
          sign = first_legal signs refl (behind_align s);
          z = first_legal "z" refl (behind_sign s);
          alternate = first_legal "#" refl (behind_z s);
          nought = first_legal "0" refl (behind_alternate s);
          width = front_all is_digit (behind_nought s);
          flag = flag_first (behind_alternate s);
          grouping = first_legal groupings refl (behind_width s);
          precision = pointed_legal (behind_grouping s);
          type = first_legal types refl (behind_precision s);
        }
