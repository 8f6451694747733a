-- The tests of held records, said of each record by what stands before it and behind it. Assumes nothing.
use Prim.Native.Nat.{ℕ, ◌+◌}
use native.Mathlib.Omega.{arith}
use mathlib.Core.Path.{◌≡◌, refl, ap}
use mathlib.Core.Bool.{Bool, true, false, ◌&&◌, ◌||◌, not}
use mathlib.Core.List.{List, [], ◌∷◌, ◌++◌}
use borrow.Author.Tests.{eqb-true, eq-eqb, not-true}
use lib.Dec.{eqb}
use Rattle.definition.specs.Chars.{part}
use Rattle.definition.specs.Records.{Record}
use Rattle.definition.specs.Matched.{matched, blank}
use Rattle.definition.specs.Words.{alike, apart, gapless, expressed}
use Rattle.definition.proofs.Moves.CharLaws.{cases}
use Rattle.definition_laws.proofs.Moves.Cases.{and_both}
use Rattle.definition_laws.proofs.Outcomes.Outcomes.{sizes}

-- NO TWO TOUCH: of any two records that stand side by side
pub apart_at : (xs ys : List Record) (r r' : Record) → apart (xs ++ (r ∷ r' ∷ ys)) ≡ true → alike r.role r'.role ≡ false
unfolding apart
apart_at [] ys r r' e = not-true _ (and_both (not (alike r.role r'.role)) (apart (r' ∷ ys)) e).0
apart_at (x ∷ []) ys r r' e = apart_at [] ys r r' (and_both (not (alike x.role r.role)) (apart (r ∷ r' ∷ ys)) e).1
apart_at (x ∷ x' ∷ xs) ys r r' e =
    apart_at (x' ∷ xs) ys r r' (and_both (not (alike x.role x'.role)) (apart (x' ∷ (xs ++ (r ∷ r' ∷ ys)))) e).1

pub apart_if : (rs : List Record) → ((xs ys : List Record) (r r' : Record) → rs ≡ xs ++ (r ∷ r' ∷ ys) → alike r.role r'.role ≡ false) → apart rs ≡ true
unfolding apart
apart_if [] h = refl
apart_if (r ∷ []) h = refl
apart_if (r ∷ r' ∷ rs) h = rw (h [] rs r r' refl) (apart_if (r' ∷ rs) (λ xs ys a b e. h (r ∷ xs) ys a b (ap (λ z. r ∷ z) e)))

-- NO GAPS: each text begins where those before it end, and the last ends with the text
pub gapless_at : (n : ℕ) (xs ys : List Record) (r : Record) (m : ℕ) → gapless n (xs ++ (r ∷ ys)) m ≡ true → r.offset ≡ n + sizes xs
unfolding gapless
gapless_at n [] ys r m e = let h = eqb-true r.offset n (and_both (eqb r.offset n) (gapless (n + r.size) ys m) e).0 in omega arith
gapless_at n (x ∷ xs) ys r m e =
    let h = gapless_at (n + x.size) xs ys r m (and_both (eqb x.offset n) (gapless (n + x.size) (xs ++ (r ∷ ys)) m) e).1 in omega arith

pub gapless_end : (n : ℕ) (rs : List Record) (m : ℕ) → gapless n rs m ≡ true → n + sizes rs ≡ m
unfolding gapless
gapless_end n [] m e = let h = eqb-true n m e in omega arith
gapless_end n (r ∷ rs) m e = let h = gapless_end (n + r.size) rs m (and_both (eqb r.offset n) (gapless (n + r.size) rs m) e).1 in omega arith

pub gapless_if : (n : ℕ) (rs : List Record) (m : ℕ) → ((xs ys : List Record) (r : Record) → rs ≡ xs ++ (r ∷ ys) → r.offset ≡ n + sizes xs) → n + sizes rs ≡ m → gapless n rs m ≡ true
unfolding gapless
gapless_if n [] m h e = eq-eqb n m (omega arith)
gapless_if n (r ∷ rs) m h e =
    let f = h [] rs r refl in
    rw (eq-eqb r.offset n (omega arith), gapless)
    (gapless_if (n + r.size) rs m (λ xs ys x k. let g = h (r ∷ xs) ys x (ap (λ z. r ∷ z) k) in omega arith) (omega arith))

-- EVERY FIELD'S EXPRESSION is matched and not blank
abbrev pub Expressed : (text : List ℕ) → Record → Type 0
Expressed text r =
    let e = part text r.offset (r.offset + r.size) in
    (matched e ≡ true) × (blank e ≡ false)

-- the test of one record
abbrev one : (text : List ℕ) → Record → Bool
one text r =
    let e = part text r.offset (r.offset + r.size) in
    not (eqb r.kind 2) || matched e && not (blank e)

one_says : (text : List ℕ) (r : Record) → one text r ≡ true → r.kind ≡ 2 → Expressed text r
one_says text r e k =
    let x = part text r.offset (r.offset + r.size) in
    let h = and_both (matched x) (not (blank x)) (rw (eq-eqb r.kind 2 k) at e) in (h.0, not-true (blank x) h.1)

one_if : (text : List ℕ) (r : Record) → (r.kind ≡ 2 → Expressed text r) → one text r ≡ true
one_if text r h = cases (eqb r.kind 2) (λ e. let k = h (eqb-true r.kind 2 e) in rw (e, k.0, k.1) refl) (λ e. rw e refl)

pub expressed_at : (text : List ℕ) (xs ys : List Record) (r : Record) → expressed text (xs ++ (r ∷ ys)) ≡ true → r.kind ≡ 2 → Expressed text r
unfolding expressed
expressed_at text [] ys r e k = one_says text r (and_both (one text r) (expressed text ys) e).0 k
expressed_at text (x ∷ xs) ys r e k = expressed_at text xs ys r (and_both (one text x) (expressed text (xs ++ (r ∷ ys))) e).1 k

pub expressed_if : (text : List ℕ) (rs : List Record) → ((xs ys : List Record) (r : Record) → rs ≡ xs ++ (r ∷ ys) → r.kind ≡ 2 → Expressed text r) → expressed text rs ≡ true
unfolding expressed
expressed_if text [] h = refl
expressed_if text (r ∷ rs) h =
    rw (one_if text r (h [] rs r refl), expressed) (expressed_if text rs (λ xs ys x e. h (r ∷ xs) ys x (ap (λ z. r ∷ z) e)))
