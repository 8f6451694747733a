-- What a cut has next is one thing. Assumes nothing.
use mathlib.Core.Path.{◌≡◌, refl, sym, ◌∙◌, ap}
use mathlib.Core.List.{List, [], ◌∷◌}
use Prim.Native.Nat.{ℕ}
use native.Mathlib.Omega.{arith}
use lib.ListN.{length}
use Rattle.std.specs.Prelude.{Option, Some, None, Result, Ok, Err}
use Rattle.definition_scripts.specs.IsCut.{Ending, breaks_off}
use Rattle.definition_scripts.specs.Cut.{Cut, first_cut}
use Rattle.found.specs.declared.Literal.{Literal}
use Rattle.found.specs.declared.Refusal.{Refusal}
use Rattle.found.specs.declared.Broken.{Broken}
use Rattle.found.specs.declared.Broken.TheVariants as broken
use Rattle.found.specs.Found.{literal_of, NextIs}

-- WHAT A CUT HAS NEXT is one thing: two answers that the contract allows for one call are the same
first_same : (l m : Literal) (x y : Cut) → first_cut (literal_of l) x ≡ first_cut (literal_of m) y → l ≡ m
unfolding first_cut
first_same l m x y e =
    let f : literal_of l ∷ x.literals ≡ literal_of m ∷ y.literals = ap (λ c. c.literals) e in
    let g : literal_of l ≡ literal_of m = cc in
    λ i. record { kind = (g i).kind; triple = (g i).triple; offset = (g i).offset; size = (g i).size; start = (g i).start; end = (g i).end }

none_first : {P : Type 0} (l : Literal) (x : Cut) (w : Ending) → first_cut (literal_of l) x ≡ record { literals = []; ending = w } → P
unfolding first_cut
none_first l x w e =
    let f : literal_of l ∷ x.literals ≡ [] = ap (λ c. c.literals) e in
    let n = ap length f in absurd (omega arith)

ends_same : (v w : Ending) → ◌≡◌ {A = Cut} (record { literals = []; ending = v }) (record { literals = []; ending = w }) → v ≡ w
ends_same v w e = ap (λ c. c.ending) e

broken_same : (r t : Refusal) → breaks_off r.number r.place ≡ breaks_off t.number t.place → r ≡ t
broken_same r t e =
    let f : r.number ≡ t.number = cc in
    let g : r.place ≡ t.place = cc in
    λ i. record { number = f i; place = g i }

pub next_one : (s : List ℕ) (from : ℕ) (x y : Result (Option Literal) Broken) → NextIs s from x → NextIs s from y → x ≡ y
next_one s from (Ok (Some l)) (Ok (Some m)) p q = ap (λ (l : Literal). Ok (Some l)) (first_same l m _ _ (sym p.1 ∙ q.1))
next_one s from (Ok (Some l)) (Err (broken.Literal r)) p q = none_first l _ _ (sym p.1 ∙ q.1)
next_one s from (Ok (Some l)) (Ok None) p q = none_first l _ _ (sym p.1 ∙ q.1)
next_one s from (Ok (Some l)) (Err broken.TooLong) p q = absurd (omega (arith, p.0))
next_one s from (Err (broken.Literal r)) (Ok (Some m)) p q = none_first m _ _ (sym q.1 ∙ p.1)
next_one s from (Err (broken.Literal r)) (Err (broken.Literal t)) p q = ap (λ (r : Refusal). Err (broken.Literal r)) (broken_same r t (ends_same _ _ (sym p.1 ∙ q.1)))
next_one s from (Err (broken.Literal r)) (Ok None) p q = let e = ends_same _ _ (sym p.1 ∙ q.1) in let z : ◌≡◌ {A = ℕ} 0 1 = cc in absurd (omega arith)
next_one s from (Err (broken.Literal r)) (Err broken.TooLong) p q = absurd (omega (arith, p.0))
next_one s from (Ok None) (Ok (Some m)) p q = none_first m _ _ (sym q.1 ∙ p.1)
next_one s from (Ok None) (Err (broken.Literal r)) p q = let e = ends_same _ _ (sym p.1 ∙ q.1) in let z : ◌≡◌ {A = ℕ} 0 1 = cc in absurd (omega arith)
next_one s from (Ok None) (Ok None) p q = refl
next_one s from (Ok None) (Err broken.TooLong) p q = absurd (omega (arith, p.0))
next_one s from (Err broken.TooLong) (Ok (Some m)) p q = absurd (omega (arith, q.0))
next_one s from (Err broken.TooLong) (Err (broken.Literal r)) p q = absurd (omega (arith, q.0))
next_one s from (Err broken.TooLong) (Ok None) p q = absurd (omega (arith, q.0))
next_one s from (Err broken.TooLong) (Err broken.TooLong) p q = refl
