-- The held names by their lengths. Assumes nothing.
use Rattle.std.specs.Prelude.{if◌then◌else◌}
use Rattle.std.specs.Prelude.{unwrap_or}
use Rattle.std.specs.Option.{option_or}
use Rattle.std.specs.Bool.{then_some}
use mathlib.Core.Path.{◌≡◌, refl, sym, ap, ◌∙◌}
use mathlib.Core.Bool.{Bool, true, false, ◌&&◌}
use mathlib.Core.List.{List, [], ◌∷◌}
use Prim.Native.Nat.{ℕ}
use Prim.Native.String.{String}
use borrow.Author.Tests.{eq-eqb, ne_eqb}
use lib.Dec.{eqb}
use lib.ListN.{length}
use lib.Pointwise.{pointwise}
use Rattle.definition.specs.Chars.{ascii, same}
use Rattle.definition.specs.Escapes.{held, lookup}
use Rattle.definition.proofs.Moves.CharLaws.{cases, no, same_true}

-- the library's test of two texts is the definition's
pub same_pointwise : (xs ys : List ℕ) → pointwise eqb xs ys ≡ same xs ys
unfolding same
same_pointwise [] [] = refl
same_pointwise [] (y ∷ ys) = refl
same_pointwise (x ∷ xs) [] = refl
same_pointwise (x ∷ xs) (y ∷ ys) = ap (λ t. eqb x y && t) (same_pointwise xs ys)

-- those of a length
unfoldable pub of_length : ℕ → List (String × ℕ) → List (String × ℕ)
of_length n [] = []
of_length n (h ∷ hs) = if eqb n (length (ascii h.0)) then h ∷ of_length n hs else of_length n hs

-- the code of a name in a list, name by name
unfoldable pub chosen : List (String × ℕ) → List ℕ → ℕ
chosen [] t = 0x110000
chosen (h ∷ hs) t = if same (ascii h.0) t then h.1 else chosen hs t

-- texts of two lengths are not the same
apart : (xs ys : List ℕ) → eqb (length ys) (length xs) ≡ false → same xs ys ≡ false
apart xs ys e =
    cases (same xs ys)
    (λ h. no (sym (rw (same_true xs ys h, eq-eqb (length ys) (length ys) refl) at e)))
    (λ h. h)

-- a name is looked up among those of its length
pub by_length : (hs : List (String × ℕ)) (t : List ℕ) → lookup hs t ≡ chosen (of_length (length t) hs) t
unfolding lookup of_length chosen
by_length [] t = refl
by_length (h ∷ hs) t =
    cases (eqb (length t) (length (ascii h.0)))
    (λ e. cases (same (ascii h.0) t)
    (λ f. rw (e, lookup, chosen, f))
    (λ f. rw (e, lookup, chosen, f) (by_length hs t)))
    (λ e. rw (e, lookup, apart (ascii h.0) t e) (by_length hs t))

pub held_of : (n : ℕ) (t : List ℕ) → length t ≡ n → lookup held t ≡ chosen (of_length n held) t
held_of n t e = rw (sym e) (by_length held t)

-- no name of a list has a length
abbrev pub Without : ℕ → List (String × ℕ) → Type 0
Without n [] = Unit
Without n (h ∷ hs) = (n ≡ length (ascii h.0) → ⊥) × Without n hs

without : (n : ℕ) (hs : List (String × ℕ)) → Without n hs → of_length n hs ≡ []
unfolding of_length
without n [] w = refl
without n (h ∷ hs) w = rw (ne_eqb _ _ w.0) (without n hs w.1)

pub none_of : (t : List ℕ) → Without (length t) held → lookup held t ≡ 0x110000
unfolding chosen
none_of t w = by_length held t ∙ rw (without (length t) held w)

-- what stands where a code is none
pub code_one : (b : Bool) (x n : ℕ) → unwrap_or (then_some b x) n ≡ (if b then x else n)
code_one true x n = refl
code_one false x n = refl

pub code_two : (b d : Bool) (x y n : ℕ) → unwrap_or (option_or (then_some b x) (then_some d y)) n ≡ (if b then x else (if d then y else n))
code_two true d x y n = refl
code_two false d x y n = code_one d y n

pub code_three : (b d e : Bool) (x y z n : ℕ) → unwrap_or (option_or (option_or (then_some b x) (then_some d y)) (then_some e z)) n ≡ (if b then x else (if d then y else (if e then z else n)))
code_three true d e x y z n = refl
code_three false d e x y z n = code_two d e y z n
