-- THE ONE PASS is the check. Assumes nothing.
use Rattle.std.specs.Prelude.{if◌then◌else◌}
use mathlib.Core.Path.{◌≡◌, refl, sym, ◌∙◌, ap, ap₂}
use mathlib.Core.Bool.{Bool, true, false, ◌&&◌, ◌||◌, not}
use mathlib.Core.List.{List, [], ◌∷◌, map}
use mathlib.Core.Option.{Option, none, some}
use Prim.Native.Nat.{ℕ, zero, suc, ◌+◌, ◌≤◌, ◌<◌}
use native.Mathlib.Omega.{arith}
use borrow.Author.Tests.{ltb-true, ltb-false, le-ltb, lt-ltb, leb-true, leb-false, ne_eqb}
use lib.Dec.{ltb, leb, eqb}
use lib.ListN.{length}
use Rattle.definition.specs.Chars.{at_end, well_formed}
use Rattle.definition_cuts.specs.Cuts.{rise, pieces, all_short, checked}
use Rattle.definition_cuts.specs.Tokens.{token_end, with_first, boundaries_n}
use Rattle.definition_cuts_laws.specs.Standing.{Standing, between, among_digits, within, octal_at, standing_n, standing, none_within, all_between, is_some, checked_by_tokens}
use Rattle.cuts.specs.OnePass.{Cursor, in_token, check_loop, number_of, checked_once}
use Rattle.definition.proofs.Moves.CharLaws.{cases}
use Rattle.definition_laws.proofs.Moves.Cases.{and_both}
use Rattle.definition_cuts_laws.proofs.Tokens.TokenMarks.{token_on}
use Rattle.definition_cuts_laws.proofs.Cuts.NumberLaw.{number_by_tokens}

-- standings, one after the other
abbrev fold : List Standing → Bool → Option Bool
fold [] d = some d
fold (between ∷ l) d = fold l d
fold (among_digits ∷ l) d = fold l true
fold (within ∷ l) d = none

-- cuts that rise, from i on, inside the body
abbrev Sorted : List ℕ → ℕ → List ℕ → Type 0
Sorted s i [] = Unit {0}
Sorted s i (c ∷ cs) = (i ≤ c) × (c < length s) × Sorted s c cs

sorted_from : (s : List ℕ) (i j : ℕ) (cs : List ℕ) → j ≤ i → Sorted s i cs → Sorted s j cs
sorted_from s i j [] h S = tt
sorted_from s i j (c ∷ cs) h (a, b, S) = (omega arith, b, S)

rise_sorted : (s : List ℕ) (i : ℕ) (cs : List ℕ) → rise (length s) i cs ≡ true → Sorted s i cs
unfolding rise
rise_sorted s i [] e = tt
rise_sorted s i (c ∷ cs) e =
    let a = and_both (ltb i c && ltb c (length s)) (rise (length s) c cs) e in
    let b = and_both (ltb i c) (ltb c (length s)) a.0 in
    let x = ltb-true i c b.0 in
    (omega arith, ltb-true c (length s) b.1, rise_sorted s c cs a.1)

module _ (s : List ℕ) (n i j : ℕ) (h : i < j) (e : token_end s i ≡ some j) where
  -- the standing of one cut, by its place in the token
  here : (c : ℕ) → eqb i c ≡ true → standing_n (suc n) s i c ≡ between
  unfolding standing_n
  here c t = rw (t, standing_n) refl

  digits : (c : ℕ) → eqb i c ≡ false → ltb c j ≡ true → octal_at s i && leb (i + 2) c ≡ true → standing_n (suc n) s i c ≡ among_digits
  unfolding standing_n
  digits c t u w = rw (t, e, u, w, standing_n) refl

  inner : (c : ℕ) → eqb i c ≡ false → ltb c j ≡ true → octal_at s i && leb (i + 2) c ≡ false → standing_n (suc n) s i c ≡ within
  unfolding standing_n
  inner c t u w = rw (t, e, u, w, standing_n) refl

  past : (c : ℕ) → j ≤ c → standing_n (suc n) s i c ≡ standing_n n s j c
  unfolding standing_n
  past c k = rw (ne_eqb i c (λ q. omega arith), e, le-ltb c j k, standing_n) refl

  all_past : (cs : List ℕ) (k : ℕ) → j ≤ k → Sorted s k cs → map (standing_n (suc n) s i) cs ≡ map (standing_n n s j) cs
  all_past [] k l S = refl
  all_past (c ∷ cs) k l (a, b, S) = ap₂ (λ (x : Standing) (r : List Standing). x ∷ r) (past c (omega arith)) (all_past cs c (omega arith) S)

  -- what the cursor gives
  abbrev After : List ℕ → Bool → Option Cursor → Type 0
  After cs d none = fold (map (standing_n (suc n) s i) cs) d ≡ none
  After cs d (some k) = (fold (map (standing_n (suc n) s i) cs) d ≡ fold (map (standing_n n s j) k.left) k.differs) × Sorted s j k.left

  one_more_lem : (c : ℕ) (cs : List ℕ) (d d' : Bool) (o : Option Cursor) → fold (map (standing_n (suc n) s i) (c ∷ cs)) d ≡ fold (map (standing_n (suc n) s i) cs) d' → After cs d' o → After (c ∷ cs) d o
  one_more_lem c cs d d' none f a = f ∙ a
  one_more_lem c cs d d' (some k) f a = (f ∙ a.0, a.1)

  in_token_lem : (cs : List ℕ) (d : Bool) (k : ℕ) → Sorted s k cs → After cs d (in_token s i j cs d)
  unfolding in_token
  in_token_lem [] d k S = (refl, tt)
  in_token_lem (c ∷ cs) d k (a, b, S) = go (ltb c j) refl (eqb i c) refl (octal_at s i && leb (i + 2) c) refl (in_token_lem cs d c S) (in_token_lem cs true c S)
    where
      go : (u : Bool) → ltb c j ≡ u → (t : Bool) → eqb i c ≡ t → (w : Bool) → octal_at s i && leb (i + 2) c ≡ w → After cs d (in_token s i j cs d) → After cs true (in_token s i j cs true) → After (c ∷ cs) d (in_token s i j (c ∷ cs) d)
      go true u true t w v x y = rw (u, t, in_token) (one_more_lem c cs d d (in_token s i j cs d) (ap (λ z. fold (z ∷ map (standing_n (suc n) s i) cs) d) (here c t)) x)
      go true u false t true v x y = rw (u, t, v, in_token) (one_more_lem c cs d true (in_token s i j cs true) (ap (λ z. fold (z ∷ map (standing_n (suc n) s i) cs) d) (digits c t u v)) y)
      go true u false t false v x y = rw (u, t, v, in_token) (ap (λ z. fold (z ∷ map (standing_n (suc n) s i) cs) d) (inner c t u v))
      go false u t t' w v x y = let jc = ltb-false c j u in rw (u, in_token) (ap (λ l. fold l d) (all_past (c ∷ cs) c jc (omega arith, b, S)), (jc, b, S))

-- the loop gives what the standings give, if the tokens go to the end
abbrev guarded : Bool → Option Bool → Option Bool
guarded true o = o
guarded false o = none

loop_fold : (n : ℕ) (s : List ℕ) (i : ℕ) (cs : List ℕ) (d : Bool) → i ≤ length s → Sorted s i cs → check_loop n s i cs d ≡ guarded (is_some (boundaries_n n s i)) (fold (map (standing_n n s i) cs) d)
unfolding check_loop boundaries_n is_some with_first
loop_fold zero s i cs d l S = refl
loop_fold (suc n) s i cs d l S = go (at_end s i) refl (token_end s i) refl (λ j cs d. loop_fold n s j cs d)
  where
    IH : Type 0
    IH = (j : ℕ) (cs : List ℕ) (d : Bool) → j ≤ length s → Sorted s j cs → check_loop n s j cs d ≡ guarded (is_some (boundaries_n n s j)) (fold (map (standing_n n s j) cs) d)

    none_left : (cs : List ℕ) → length s ≤ i → Sorted s i cs → cs ≡ []
    none_left [] h S = refl
    none_left (c ∷ cs) h (a, b, S) = absurd (omega arith)

    no_guard : (b : Bool) → guarded b none ≡ none
    no_guard true = refl
    no_guard false = refl

    some_first : (o : Option (List ℕ)) → is_some (with_first i o) ≡ is_some o
    some_first none = refl
    some_first (some ms) = refl

    rest : (j : ℕ) (h : i < j) → j ≤ length s → (q : token_end s i ≡ some j) → (o : Option Cursor) → After s n i j h q cs d o → IH
        → (elim o [ none ↦ none | some k ↦ check_loop n s j k.left k.differs ]) ≡ guarded (is_some (with_first i (boundaries_n n s j))) (fold (map (standing_n (suc n) s i) cs) d)
    rest j h m q none a ih = sym (ap (guarded (is_some (with_first i (boundaries_n n s j)))) a ∙ no_guard (is_some (with_first i (boundaries_n n s j))))
    rest j h m q (some k) (a, S') ih =
        ih j k.left k.differs m S'
        ∙ ap₂ guarded (sym (some_first (boundaries_n n s j))) (sym a)

    go : (x : Bool) → at_end s i ≡ x → (o : Option ℕ) → token_end s i ≡ o → IH → check_loop (suc n) s i cs d ≡ guarded (is_some (boundaries_n (suc n) s i)) (fold (map (standing_n (suc n) s i) cs) d)
    go true x o q ih = rw (x, check_loop, boundaries_n) (ap (λ l. fold (map (standing_n (suc n) s i) l) d) (sym (none_left cs (leb-true (length s) i x) S)))
    go false x none q ih = rw (x, q, check_loop, boundaries_n) refl
    go false x (some j) q ih = rw (x, q, check_loop, boundaries_n) (let O = token_on s i j (leb-false (length s) i x) q in rest j O.2 O.3 q (in_token s i j cs d) (in_token_lem s n i j O.2 q cs d i S) ih)

-- the standings of all cuts, and the two tests over them
fold_tests : (s : List ℕ) (cs : List ℕ) (d : Bool) → fold (map (standing s) cs) d ≡ (if none_within s cs then some (d || not (all_between s cs)) else none)
unfolding none_within all_between
fold_tests s [] d = ap some (or_false d)
  where
    or_false : (d : Bool) → d ≡ (d || false)
    or_false true = refl
    or_false false = refl
fold_tests s (c ∷ cs) d = go (standing s c) refl (fold_tests s cs d) (fold_tests s cs true)
  where
    or-true : (d : Bool) (o : Bool) → (if o then some true else none) ≡ (if o then some (d || true) else none)
    or-true true o = refl
    or-true false o = refl

    go : (x : Standing) → standing s c ≡ x → fold (map (standing s) cs) d ≡ (if none_within s cs then some (d || not (all_between s cs)) else none)
        → fold (map (standing s) cs) true ≡ (if none_within s cs then some true else none)
        → fold (map (standing s) (c ∷ cs)) d ≡ (if none_within s (c ∷ cs) then some (d || not (all_between s (c ∷ cs))) else none)
    go between q a b = rw (q, none_within, all_between) a
    go among_digits q a b = rw (q, none_within, all_between) (b ∙ or-true d (none_within s cs))
    go within q a b = rw (q, none_within) refl

standing_is : (s : List ℕ) (c : ℕ) → standing_n (suc (length s)) s 0 c ≡ standing s c
unfolding standing
standing_is s c = refl

opposite : (n : ℕ) → ltb 1048576 n ≡ not (leb n 1048576)
opposite n = cases (leb n 1048576) (λ t. rw (t, le-ltb 1048576 n (leb-true n 1048576 t)) refl) (λ t. rw (t, lt-ltb 1048576 n (leb-false n 1048576 t)) refl)

-- its number by the tests
abbrev number : (a d : Bool) (o : Option Bool) (g : Bool) → ℕ
number a d none g = 66
number a d (some x) g = if not (a && d) then 66 else if x || g then 67 else 0

number_is : (s cs : List ℕ) (o : Option Bool) → number_of s cs o ≡ number (leb (length s) (well_formed s)) (all_short 1048576 (pieces s 0 cs)) o (ltb 1048576 (length s))
unfolding number_of
number_is s cs none = refl
number_is s cs (some x) = refl

table : (a b c d e f : Bool) → ◌≡◌ {A = ℕ} (number a d (guarded b (if c then some (not e) else none)) (not f)) (if not (a && b && c && d) then 66 else if not (e && f) then 67 else 0)
table true true true true true f = refl
table true true true true false f = refl
table true true true false e f = refl
table true true false d e f = refl
table true false c d e f = refl
table false true true true e f = refl
table false true true false e f = refl
table false true false d e f = refl
table false false c d e f = refl

-- THE CHECK IN ONE PASS
pub once_by_tokens : (s : List ℕ) (cs : List ℕ) → rise (length s) 0 cs ≡ true → checked_once s cs ≡ checked_by_tokens s cs
unfolding checked_once checked_by_tokens
once_by_tokens s cs r =
    ap (number_of s cs) (loop_fold (suc (length s)) s 0 cs false (omega arith) (rise_sorted s 0 cs r) ∙ ap (guarded (is_some (boundaries_n (suc (length s)) s 0))) (standings ∙ fold_tests s cs false))
    ∙ number_is s cs (guarded (is_some (boundaries_n (suc (length s)) s 0)) (if none_within s cs then some (not (all_between s cs)) else none))
    ∙ ap (number (leb (length s) (well_formed s)) (all_short 1048576 (pieces s 0 cs)) (guarded (is_some (boundaries_n (suc (length s)) s 0)) (if none_within s cs then some (not (all_between s cs)) else none))) (opposite (length s))
    ∙ table (leb (length s) (well_formed s)) (is_some (boundaries_n (suc (length s)) s 0)) (none_within s cs) (all_short 1048576 (pieces s 0 cs)) (all_between s cs) (leb (length s) 1048576)
  where
    same-standing : (c : ℕ) → standing_n (suc (length s)) s 0 c ≡ standing s c
    same-standing c = standing_is s c

    all_same : (cs : List ℕ) → map (standing_n (suc (length s)) s 0) cs ≡ map (standing s) cs
    all_same [] = refl
    all_same (c ∷ cs) = ap₂ (λ (x : Standing) (l : List Standing). x ∷ l) (same-standing c) (all_same cs)

    standings : fold (map (standing_n (suc (length s)) s 0) cs) false ≡ fold (map (standing s) cs) false
    standings = ap (λ l. fold l false) (all_same cs)

-- what the code gives is what the check gives
pub checked_once_lem : (s : List ℕ) (limit : ℕ) (cs : List ℕ) → rise (length s) 0 cs ≡ true → all_short limit (pieces s 0 cs) ≡ true → checked s limit cs ≡ checked_once s cs
checked_once_lem s limit cs r k = number_by_tokens s limit cs r k ∙ sym (once_by_tokens s cs r)
