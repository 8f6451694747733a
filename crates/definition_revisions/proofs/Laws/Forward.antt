-- THE BACK IS COUNTED FORWARD: no walk backwards and no scratch. Assumes nothing.
use Rattle.std.specs.Prelude.{if◌then◌else◌}
use mathlib.Core.Path.{◌≡◌, refl, sym, ◌∙◌, ap}
use mathlib.Core.List.{List, [], ◌∷◌, ◌++◌, reverse, reverse_aux, reverse-append}
use Prim.Native.Nat.{ℕ, suc, ◌+◌, ◌-◌, ◌≤◌, min}
use native.Mathlib.Nat.{le_of_suc-le-suc, not-suc-le-zero}
use native.Mathlib.Omega.{arith}
use lib.Dec.{leb}
use borrow.Author.Tests.{leb-true, leb-false}
use lib.ListN.{length, take, drop, length-drop, length-reverse, take-append-drop}
use Rattle.definition_revisions.specs.Revisions.{Shape, same_item, run}
use Rattle.definition.proofs.Moves.CharLaws.{cases}
use Rattle.definition_revisions.proofs.Laws.Runs.{Items, run_yes, run_no, run_other}

-- the run that pairs end with: n so far, begun anew at each difference
unfoldable pub last_run : ℕ → Items → Items → ℕ
last_run n [] bs = n
last_run n (a ∷ as') [] = n
last_run n (a ∷ as') (b ∷ bs) = last_run (if same_item a b then suc n else 0) as' bs

run_turn : (a b : List Shape) (as' bs : Items) → run (a ∷ as') (b ∷ bs) ≡ (if same_item a b then suc (run as' bs) else 0)
run_turn a b as' bs = cases (same_item a b) (λ e. rw e (run_yes a b as' bs e)) (λ e. rw e (run_no a b as' bs e))

-- of lists as long as each other it is the run of the reversed lists
forward_from : (as' bs xs ys : Items) → length as' ≡ length bs → run (reverse_aux as' xs) (reverse_aux bs ys) ≡ last_run (run xs ys) as' bs
unfolding last_run
forward_from [] [] xs ys h = refl
forward_from [] (b ∷ bs) xs ys h = absurd (omega arith)
forward_from (a ∷ as') [] xs ys h = absurd (omega arith)
forward_from (a ∷ as') (b ∷ bs) xs ys h = forward_from as' bs (a ∷ xs) (b ∷ ys) (omega arith) ∙ ap (λ n. last_run n as' bs) (run_turn a b xs ys)

pub forward : (as' bs : Items) → length as' ≡ length bs → run (reverse as') (reverse bs) ≡ last_run 0 as' bs
unfolding run
forward as' bs h = forward_from as' bs [] [] h

-- THE LONGER SIDE'S SURPLUS is skipped
run_front : (xs s ys : Items) → length ys ≤ length xs → run (xs ++ s) ys ≡ run xs ys
unfolding run
run_front [] s [] h = run_other s []
run_front [] s (y ∷ ys) h = absurd (not-suc-le-zero h)
run_front (x ∷ xs) s [] h = refl
run_front (x ∷ xs) s (y ∷ ys) h =
    run_turn x y (xs ++ s) ys ∙ ap (λ n. if same_item x y then suc n else 0) (run_front xs s ys (le_of_suc-le-suc h)) ∙ sym (run_turn x y xs ys)

skip_first : (as' bs : Items) (d : ℕ) → d + length bs ≤ length as' → run (reverse as') (reverse bs) ≡ run (reverse (drop d as')) (reverse bs)
skip_first as' bs d h =
    ap (λ l. run (reverse l) (reverse bs)) (sym (take-append-drop d as'))
    ∙ ap (λ l. run l (reverse bs)) (reverse-append (take d as') (drop d as'))
    ∙ run_front (reverse (drop d as')) (reverse (take d as')) (reverse bs) (omega (arith, length-reverse bs, length-reverse (drop d as'), length-drop d as'))

-- the back of any two lists
pub forward_back : (as' bs : Items) (k : ℕ) → k ≡ min (length as') (length bs)
    → run (reverse as') (reverse bs) ≡ last_run 0 (drop (length as' - k) as') (drop (length bs - k) bs)
forward_back as' bs k e =
    cases (leb (length bs) (length as'))
    (λ t.
    let h = leb-true (length bs) (length as') t in
    let z : length bs - k ≡ 0 = omega arith in
    let d = length as' - k in
    rw z (skip_first as' bs d (omega arith) ∙ forward (drop d as') bs (omega (arith, length-drop d as'))))
    (λ t.
    let h = leb-false (length bs) (length as') t in
    let z : length as' - k ≡ 0 = omega arith in
    let d = length bs - k in
    rw z
    (run_other (reverse as') (reverse bs) ∙ skip_first bs as' d (omega arith) ∙ run_other (reverse (drop d bs)) (reverse as') ∙ forward as' (drop d bs) (omega (arith, length-drop d bs))))
