-- THE INTEGERS OF COLUMNS, both ways; and what is written by the empty specification is read as the same integer. Assumes nothing.
use mathlib.Core.Path.{◌≡◌, refl, sym, ◌∙◌, ap, ap₂}
use mathlib.Core.Bool.{Bool, true, false, ◌&&◌, ◌||◌, not}
use mathlib.Core.List.{List, [], ◌∷◌, ◌++◌, map, reverse, reverse-cons, append-nil}
use mathlib.Core.Option.{Option, none, some}
use Prim.Native.Nat.{ℕ, ◌+◌, ◌*◌, ◌-◌, ◌<◌}
use native.Mathlib.Omega.{arith}
use lib.Dec.{eqb}
use lib.ListN.{length, length-map, length-reverse}
use borrow.Author.Tests.{lt-ltb, not-false}
use Rattle.definition.specs.Chars.{◌is◌, same, next}
use Rattle.definition_replay.specs.Spec.{is_digit, first, past, front, behind, pointed, past_pointed, fill_size, all, nothing, parts_of}
use Rattle.definition_replay.specs.IsSpec.{one}
use Rattle.definition_replay.specs.Integers.{Integer, decimal_from, decimal, digits, Form, base_of, form_in, figure, sign_of, prefix_of, head_of, figures, zero_pads, zeroed, least_of, numeral_of, copies, pad_of, left_of, inner_of, written}
use Rattle.definition_replay.specs.IsInteger.{value, Below, leading, IsDigits}
use Rattle.definition_replay.specs.Trace.{integer_of}
use Rattle.definition_replay.specs.IsTrace.{IsNumber}
use Rattle.definition_replay_laws.proofs.Integers.Digits.{digits_are}
use Rattle.definition.proofs.Moves.CharLaws.{cases, no, inside_yes}
use Rattle.definition_replay_laws.proofs.Spec.SpecLaws.{both_true, Off, one_past, first_legal}
use Rattle.definition_replay_laws.proofs.Spec.SpecWhole.{found, off_set}

pub or_false : (x y : Bool) → (x || y) ≡ false → (x ≡ false) × (y ≡ false)
or_false true y e = no (sym e)
or_false false y e = (refl, e)

pub integer_sound : (s : List ℕ) (v : Integer) → integer_of s ≡ some v → IsNumber s v
unfolding integer_of
integer_sound s v e =
    cases (nothing (past "-" s) || not (all is_digit (past "-" s)))
    (λ t. let z : ◌≡◌ {A = Option Integer} none (some v) = rw t at e in let y : ◌≡◌ {A = ℕ} 0 1 = cc in absurd (omega arith))
    (λ t.
    let o = or_false (nothing (past "-" s)) (not (all is_digit (past "-" s))) t in
    let w : Integer = record { negative = not (eqb (first "-" s) 0) && not (eqb (decimal (past "-" s)) 0); size = decimal (past "-" s) } in
    let z : some w ≡ some v = rw t at e in
    let y : w ≡ v = cc in
    record {
      minus = first "-" s;
      digits = past "-" s;
      text = sym (one_past "-" refl s);
      mark = first_legal "-" refl s;
      any = o.0;
      legal = not-false (all is_digit (past "-" s)) o.1;
      size = ap (λ x. x.size) (sym y);
      negative = ap (λ x. x.negative) (sym y);
    })

-- digits do not begin with a minus
pub digits_unmarked : (ds : List ℕ) → all is_digit ds ≡ true → Off (λ b. b is "-") ds
unfolding all
digits_unmarked [] h = refl
digits_unmarked (d ∷ ds) h = off_set "-" refl d (both_true (is_digit d) (all is_digit ds) h).0

pub integer_whole : (s : List ℕ) (v : Integer) → IsNumber s v → integer_of s ≡ some v
unfolding integer_of
integer_whole s v r =
    let f = found "-" r.minus r.digits refl refl r.mark (λ e. digits_unmarked r.digits r.legal) in
    rw (r.text, f.0, f.1, r.any, r.legal) (ap some (λ i. record { negative = sym r.negative i; size = sym r.size i }))

-- DECIMAL DIGITS as they are written, and their value
decimal_append : (v : ℕ) (a b : List ℕ) → decimal_from v (a ++ b) ≡ decimal_from (decimal_from v a) b
unfolding decimal_from
decimal_append v [] b = refl
decimal_append v (d ∷ a) b = decimal_append (v * 10 + (d - 48)) a b

figure_digit : (type d : ℕ) → d < 10 → figure type d ≡ 48 + d
unfolding figure
figure_digit type d h = rw (lt-ltb d 10 h)

pub decimal_back : (type : ℕ) (ds : List ℕ) → Below 10 ds → decimal (reverse (map (figure type) ds)) ≡ value 10 ds
unfolding decimal_from value
decimal_back type [] b = refl
decimal_back type (d ∷ ds) b =
    ap decimal (reverse-cons (figure type d) (map (figure type) ds))
    ∙ decimal_append 0 (reverse (map (figure type) ds)) (figure type d ∷ [])
    ∙ ap₂ (λ x y. x * 10 + (y - 48)) (decimal_back type ds b.1) (figure_digit type d b.0)
    ∙ omega arith

-- WRITTEN AND READ AGAIN: by the empty specification
digits_digits : (type : ℕ) (ds : List ℕ) → Below 10 ds → all is_digit (reverse (map (figure type) ds)) ≡ true
unfolding all
digits_digits type [] b = refl
digits_digits type (d ∷ ds) b =
    ap (all is_digit) (reverse-cons (figure type d) (map (figure type) ds))
    ∙ all_append (reverse (map (figure type) ds)) (figure type d ∷ []) (digits_digits type ds b.1) (rw (figure_digit type d b.0, inside_yes 48 57 (48 + d) (omega (arith, b.0)) (omega (arith, b.0))))
  where
    all_append : (s t : List ℕ) → all is_digit s ≡ true → all is_digit t ≡ true → all is_digit (s ++ t) ≡ true
    all_append [] t h k = k
    all_append (x ∷ s) t h k = let d = both_true (is_digit x) (all is_digit s) h in rw (d.0, all_append s t d.1 k)

some_left : (l : List ℕ) → 0 < length l → nothing l ≡ false
unfolding nothing
some_left [] h = absurd (omega arith)
some_left (b ∷ l) h = refl

pub plain : Form
plain = record { fill = 32 ∷ []; align = 62; sign = 0; alternate = false; width = 0; grouping = 0; type = 0 }

pub plain_empty : form_in (parts_of []) ≡ plain
unfolding plain form_in parts_of first past front behind pointed past_pointed fill_size nothing decimal_from next
plain_empty = refl

digits_some : (base n : ℕ) (ds : List ℕ) → IsDigits base n ds → 0 < length ds
unfolding leading
digits_some base n [] r = no r.front
digits_some base n (d ∷ ds) r = omega arith

-- its figures, and its text
numeral : Integer → List ℕ
numeral v = reverse (map (figure 0) (digits 10 v.size))

plain_text : (v : Integer) → written plain v ≡ sign_of 0 v.negative ++ numeral v
unfolding plain numeral written pad_of head_of prefix_of left_of inner_of copies numeral_of least_of zero_pads zeroed figures same base_of
plain_text v =
    let sign = sign_of 0 v.negative in
    let none-padded : 0 - (length (sign ++ []) + length (reverse (map (figure 0) (digits 10 v.size)))) ≡ 0 = omega arith in
    rw none-padded
    (append-nil ((sign ++ []) ++ [] ++ reverse (map (figure 0) (digits 10 v.size)))
    ∙ ap (λ l. l ++ reverse (map (figure 0) (digits 10 v.size))) (append-nil (sign ++ []) ∙ append-nil sign))

-- THE SAME INTEGER, if one that is below 0 is not 0
pub written_read : (v : Integer) → (v.negative && eqb v.size 0) ≡ false → integer_of (written plain v) ≡ some v
unfolding numeral sign_of one
written_read v h =
    let d = digits_are 10 (omega arith) v.size in
    let ds = digits 10 v.size in
    let z : decimal (numeral v) ≡ v.size = decimal_back 0 ds d.below ∙ d.number in
    let a : all is_digit (numeral v) ≡ true = digits_digits 0 ds d.below in
    let n : nothing (numeral v) ≡ false = some_left (numeral v) (let a = length-reverse (map (figure 0) ds) in let b = length-map ds (figure 0) in let c = digits_some 10 v.size ds d in omega arith) in
    ap integer_of (plain_text v) ∙ go v.negative refl z a n
  where
    go : (b : Bool) → v.negative ≡ b → decimal (numeral v) ≡ v.size → all is_digit (numeral v) ≡ true → nothing (numeral v) ≡ false
        → integer_of (sign_of 0 v.negative ++ numeral v) ≡ some v
    go true e z a n =
        rw (ap (sign_of 0) e)
        (integer_whole ((45 ∷ []) ++ numeral v) v
        (record { minus = 45; digits = numeral v; text = refl; mark = refl; any = n; legal = a; size = sym z; negative = e ∙ sym (ap (λ x. not (eqb x 0)) z ∙ ap not (rw e at h)) }))
    go false e z a n =
        rw (ap (sign_of 0) e)
        (integer_whole (numeral v) v (record { minus = 0; digits = numeral v; text = refl; mark = refl; any = n; legal = a; size = sym z; negative = e }))
