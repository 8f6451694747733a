-- Two lists of items: their longest equal runs at the front and at the back, and one side's middle in the other's place. Assumes nothing.
use mathlib.Core.Path.{◌≡◌, refl, sym, ◌∙◌, ap, ap₂}
use mathlib.Core.Bool.{true, false}
use mathlib.Core.List.{List, [], ◌∷◌, ◌++◌, reverse, reverse-append, reverse-reverse}
use Prim.Native.Nat.{ℕ, zero, suc, ◌+◌, ◌-◌, ◌≤◌}
use native.Mathlib.Nat.{le_of_suc-le-suc, not-suc-le-zero}
use native.Mathlib.Omega.{arith}
use lib.ListN.{length, take, drop, length-drop, length-reverse, take-append-drop}
use lib.Seq.{take-append_seam, drop-length, drop-drop}
use borrow.Author.Tests.{eqb-true, eq-eqb}
use Rattle.definition_revisions.specs.Revisions.{Shape, same_shape, same_item, run, front, back}
use Rattle.definition_revisions.specs.IsCompared.{BeginAlike, EndAlike, Longest, IsCompared, put_back}
use Rattle.definition.proofs.Moves.CharLaws.{cases}
use Rattle.definition_names.proofs.NameOrder.{never}
use Rattle.definition_formed.proofs.Formed.FormedLaws.{both}
use Rattle.definition.proofs.Moves.CharLaws.{same_true, same_refl}

abbrev pub Items : Type 0
Items = List (List Shape)

-- EQUAL ITEMS ARE THE SAME: kinds, texts, conversions, parts
pub shape_true : (x y : Shape) → same_shape x y ≡ true → x ≡ y
unfolding same_shape
shape_true x y h =
    let p = both _ _ h in
    let q = both _ _ p.0 in
    let r = both _ _ q.0 in
    let k = eqb-true x.kind y.kind r.0 in
    let t = same_true x.text y.text r.1 in
    let c = eqb-true x.conversion y.conversion q.1 in
    let n = eqb-true x.parts y.parts p.1 in
    λ i. record { kind = k i; text = t i; conversion = c i; parts = n i }

pub shape_refl : (x : Shape) → same_shape x x ≡ true
unfolding same_shape
shape_refl x = rw (eq-eqb x.kind x.kind refl, same_refl x.text, eq-eqb x.conversion x.conversion refl, eq-eqb x.parts x.parts refl) refl

pub item_true : (a b : List Shape) → same_item a b ≡ true → a ≡ b
unfolding same_item
item_true [] [] h = refl
item_true [] (y ∷ b) h = never refl h
item_true (x ∷ a) [] h = never refl h
item_true (x ∷ a) (y ∷ b) h = let p = both _ _ h in ap₂ ◌∷◌ (shape_true x y p.0) (item_true a b p.1)

pub item_refl : (a : List Shape) → same_item a a ≡ true
unfolding same_item
item_refl [] = refl
item_refl (x ∷ a) = rw (shape_refl x) (item_refl a)

-- one turn of a run
pub run_yes : (a b : List Shape) (as' bs : Items) → same_item a b ≡ true → run (a ∷ as') (b ∷ bs) ≡ suc (run as' bs)
unfolding run
run_yes a b as' bs e = rw (e, run)

pub run_no : (a b : List Shape) (as' bs : Items) → same_item a b ≡ false → run (a ∷ as') (b ∷ bs) ≡ 0
unfolding run
run_no a b as' bs e = rw (e, run)

-- WHAT A RUN COUNTS IS THE SAME ON BOTH SIDES
pub run_begins : (as' bs : Items) → BeginAlike as' bs (run as' bs)
unfolding run
run_begins [] bs = record { in_first = omega arith; in_second = omega arith; alike = refl }
run_begins (a ∷ as') [] = record { in_first = omega arith; in_second = omega arith; alike = refl }
run_begins (a ∷ as') (b ∷ bs) =
    cases (same_item a b)
    (λ e.
    let g = run_begins as' bs in
    rw (run_yes a b as' bs e) (record { in_first = let h = g.in_first in omega arith; in_second = let h = g.in_second in omega arith; alike = ap₂ ◌∷◌ (item_true a b e) g.alike }))
    (λ e. rw (run_no a b as' bs e) (record { in_first = omega arith; in_second = omega arith; alike = refl }))

-- AND NOTHING LONGER IS
pub run_most : (as' bs : Items) (n : ℕ) → BeginAlike as' bs n → n ≤ run as' bs
run_most as' bs zero h = omega arith
run_most [] bs (suc n) h = absurd (not-suc-le-zero h.in_first)
run_most (a ∷ as') [] (suc n) h = absurd (not-suc-le-zero h.in_second)
run_most (a ∷ as') (b ∷ bs) (suc n) h =
    let q = h.alike in
    let e : a ≡ b = cc in
    let t : take n as' ≡ take n bs = cc in
    let m = run_most as' bs n (record { in_first = le_of_suc-le-suc h.in_first; in_second = le_of_suc-le-suc h.in_second; alike = t }) in
    rw (run_yes a b as' bs (rw e (item_refl b))) (omega arith)

pub run_longest : (as' bs : Items) → Longest (BeginAlike as' bs) (run as' bs)
run_longest as' bs = (run_begins as' bs, run_most as' bs)

-- there is one longest
pub one_longest : (P : ℕ → Type 0) (j k : ℕ) → Longest P j → Longest P k → j ≡ k
one_longest P j k (p, f) (q, g) = let a = f k q in let b = g j p in omega arith

-- AT THE BACK: what ends alike begins alike, reversed
take_reverse : {A : Type 0} (k : ℕ) (l : List A) → k ≤ length l → take k (reverse l) ≡ reverse (drop (length l - k) l)
take_reverse k l h =
    let n = length l - k in
    let e : length (reverse (drop n l)) ≡ k = omega (arith, length-reverse (drop n l), length-drop n l) in
    ap (λ m. take k (reverse m)) (sym (take-append-drop n l))
    ∙ ap (take k) (reverse-append (take n l) (drop n l))
    ∙ ap (λ j. take j (reverse (drop n l) ++ reverse (take n l))) (sym e)
    ∙ take-append_seam (reverse (drop n l)) (reverse (take n l))

module _ {A : Type 0} (as' bs : List A) (k : ℕ) where
  ends_reverse : EndAlike as' bs k → BeginAlike (reverse as') (reverse bs) k
  ends_reverse h =
      record {
        in_first = let p = h.in_first in omega (arith, length-reverse as');
        in_second = let p = h.in_second in omega (arith, length-reverse bs);
        alike = take_reverse k as' h.in_first ∙ ap reverse h.alike ∙ sym (take_reverse k bs h.in_second);
      }

  reverse_ends : BeginAlike (reverse as') (reverse bs) k → EndAlike as' bs k
  reverse_ends h =
      let p : k ≤ length as' = let q = h.in_first in omega (arith, length-reverse as') in
      let p' : k ≤ length bs = let q = h.in_second in omega (arith, length-reverse bs) in
      record {
        in_first = p;
        in_second = p';
        alike = sym (reverse-reverse (drop (length as' - k) as')) ∙ ap reverse (sym (take_reverse k as' p) ∙ h.alike ∙ take_reverse k bs p') ∙ reverse-reverse (drop (length bs - k) bs);
      }

pub back_longest : (as' bs : Items) → Longest (EndAlike as' bs) (run (reverse as') (reverse bs))
back_longest as' bs = (reverse_ends as' bs (run (reverse as') (reverse bs)) (run_begins (reverse as') (reverse bs)), λ n h. run_most (reverse as') (reverse bs) n (ends_reverse as' bs n h))

-- WHAT IS COMPUTED IS THE LONGEST AT THE FRONT, THEN THE LONGEST OF WHAT REMAINS AT THE BACK
pub is_compared : (as' bs : Items) → IsCompared as' bs (front as' bs) (back as' bs)
unfolding front back
is_compared as' bs = record { at_front = run_longest as' bs; at_back = back_longest (drop (run as' bs) as') (drop (run as' bs) bs) }

-- and there is no other
pub compared_one : {A : Type 0} (as' bs : List A) (f b f' b' : ℕ) → IsCompared as' bs f b → IsCompared as' bs f' b' → (f ≡ f') × (b ≡ b')
compared_one as' bs f b f' b' p q =
    let e = one_longest (BeginAlike as' bs) f f' p.at_front q.at_front in
    (e, one_longest (EndAlike (drop f as') (drop f bs)) b b' p.at_back (rw (← e) at q.at_back))

-- SIDES EXCHANGED
module _ {A : Type 0} (as' bs : List A) (k : ℕ) where
  pub begins_other : BeginAlike as' bs k → BeginAlike bs as' k
  begins_other h = record { in_first = h.in_second; in_second = h.in_first; alike = sym h.alike }

  pub ends_other : EndAlike as' bs k → EndAlike bs as' k
  ends_other h = record { in_first = h.in_second; in_second = h.in_first; alike = sym h.alike }

pub run_other : (as' bs : Items) → run as' bs ≡ run bs as'
run_other as' bs =
    let p = run_most bs as' (run as' bs) (begins_other as' bs (run as' bs) (run_begins as' bs)) in
    let q = run_most as' bs (run bs as') (begins_other bs as' (run bs as') (run_begins bs as')) in
    omega arith

pub back_other : (as' bs : Items) → back as' bs ≡ back bs as'
unfolding front back
back_other as' bs = rw (← run_other as' bs) (run_other (reverse (drop (run as' bs) as')) (reverse (drop (run as' bs) bs)))

-- ONE SIDE'S MIDDLE IN THE OTHER'S PLACE gives the first side's items again
pub put_back_lem : {A : Type 0} (from into : List A) (f b : ℕ) → BeginAlike from into f → EndAlike (drop f from) (drop f into) b → put_back from into f b ≡ from
unfolding put_back
put_back_lem from into f b p q =
    let m = length from - f - b in
    let i = q.in_first in
    let j = q.in_second in
    let l = length-drop f from in
    let l' = length-drop f into in
    let g = p.in_second in
    let e : length (drop f from) - b ≡ m = omega arith in
    let e' : f + (length (drop f into) - b) ≡ length into - b = omega arith in
    let end : drop (length into - b) into ≡ drop m (drop f from) = ap (λ n. drop n into) (sym e') ∙ sym (drop-drop (length (drop f into) - b) f into) ∙ sym q.alike ∙ ap (λ n. drop n (drop f from)) e in
    ap₂ (λ s t. s ++ (take m (drop f from) ++ t)) (sym p.alike) end
    ∙ ap (λ t. take f from ++ t) (take-append-drop m (drop f from))
    ∙ take-append-drop f from

-- AN ANSWER AND ITSELF
pub run_self : (as' : Items) → run as' as' ≡ length as'
unfolding run
run_self [] = refl
run_self (a ∷ as') = run_yes a a as' as' (item_refl a) ∙ ap suc (run_self as')

pub back_self : (as' : Items) → back as' as' ≡ 0
unfolding back front run
back_self as' = rw (run_self as', drop-length as') refl
