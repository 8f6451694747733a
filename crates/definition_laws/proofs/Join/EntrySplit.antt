-- A list that passes the entry checks passes them in two non-empty parts. Assumes nothing.
use Rattle.std.specs.Prelude.{if◌then◌else◌}
use mathlib.Core.Path.{◌≡◌, refl, sym, ◌∙◌, ap, ap₂}
use mathlib.Core.Bool.{Bool, true, false, ◌&&◌, ◌||◌, not, true≢false, false≢true}
use mathlib.Core.List.{List, [], ◌∷◌, ◌++◌}
use mathlib.Core.Option.{Option, none, some}
use Prim.Native.Nat.{ℕ, suc, ◌+◌, ◌≤◌, zero-le}
use native.Mathlib.Nat.{add_assoc}
use native.Mathlib.Omega.{arith}
use lib.Dec.{ltb}
use lib.ListN.{length, length-append}
use borrow.Author.Tests.{ltb-false, le-ltb}
use Rattle.definition.specs.Numbers.{is_bytes, is_fstring, bad_descriptor, not_utf8}
use Rattle.definition.specs.Records.{plain, joined, bytes_only}
use Rattle.definition.specs.Entry.{Literal, Refusal, refusal, not_empty, not_many, first_bad, bad, place_of, body, all_good, total, not_long, formed, ill_formed, all_utf8, any_of, first_start, not_mixed, first_of, entry}
use Rattle.definition.specs.Reading.{sort_of}
use Rattle.definition.specs.Join.{join_sort}
use Rattle.definition.proofs.Moves.CharLaws.{Utf8, formed_utf8}

first_head : (c : Option Refusal) (cs : List (Option Refusal)) → first_of (c ∷ cs) ≡ none → c ≡ none
unfolding first_of
first_head none cs e = refl
first_head (some r) cs e = e

first_tail : (c : Option Refusal) (cs : List (Option Refusal)) → first_of (c ∷ cs) ≡ none → first_of cs ≡ none
unfolding first_of
first_tail none cs e = e
first_tail (some r) cs e = cc

first_cons : (c : Option Refusal) (cs : List (Option Refusal)) → c ≡ none → first_of cs ≡ none → first_of (c ∷ cs) ≡ none
unfolding first_of
first_cons none cs e es = es
first_cons (some r) cs e es = e

-- a test that refusal nothing failed
pub failed : (b : Bool) (r : Refusal) → (if b then some r else none) ≡ none → b ≡ false
failed true r e = cc
failed false r e = refl

-- one of several tests that all failed, in another's place
swap : (a b b' c : Bool) → a || b || c ≡ false → b' ≡ false → a || b' || c ≡ false
swap true b b' c e h = e
swap false true b' c e h = absurd (true≢false e)
swap false false true c e h = h
swap false false false c e h = e

-- 3 and 5: a part is no longer than the whole
below : (n a b : ℕ) → ltb n b ≡ false → a ≤ b → ltb n a ≡ false
below n a b e h = le-ltb n a (omega (arith, ltb-false n b e))

many : (xs : List Literal) (n : ℕ) → length xs ≤ n → ltb 1024 n ≡ false → not_many xs ≡ none
unfolding not_many
many xs n h e = rw (below 1024 (length xs) n e h)

long : (xs : List Literal) (n : ℕ) → total xs ≤ n → ltb 1048576 n ≡ false → not_long xs ≡ none
unfolding not_long
long xs n h e = rw (below 1048576 (total xs) n e h)

total_append : (xs ys : List Literal) → total (xs ++ ys) ≡ total xs + total ys
unfolding total
total_append [] ys = omega arith
total_append (x ∷ xs) ys = ap (λ n. x.size + n) (total_append xs ys) ∙ (sym (add_assoc x.size (total xs) (total ys)))

-- 4 and 6: the checks that go literal by literal, where a test that passes also passes without a literal before
module _ (test : ℕ → Literal → Bool) (why : ℕ → Literal → Refusal) (alone : (p : ℕ) (l : Literal) → test p l ≡ false → test 0 l ≡ false) where
  pub bad_step : (p i : ℕ) (l : Literal) (ls : List Literal) → first_bad test why p i (l ∷ ls) ≡ none → (test p l ≡ false) × (first_bad test why l.end (suc i) ls ≡ none)
  unfolding first_bad
  bad_step p i l ls e = go (test p l) refl
    where
      go : (b : Bool) → test p l ≡ b → (test p l ≡ false) × (first_bad test why l.end (suc i) ls ≡ none)
      go true t = let z : ◌≡◌ {A = Option Refusal} (some (why i l)) none = rw (t, first_bad) at e in (cc, cc)
      go false t = (t, rw (t, first_bad) at e)

  bad_cons : (p i : ℕ) (l : Literal) (ls : List Literal) → test p l ≡ false → first_bad test why l.end (suc i) ls ≡ none → first_bad test why p i (l ∷ ls) ≡ none
  unfolding first_bad
  bad_cons p i l ls t e = rw (t, first_bad) e

  bad_left : (p i : ℕ) (xs ys : List Literal) → first_bad test why p i (xs ++ ys) ≡ none → first_bad test why p i xs ≡ none
  unfolding first_bad
  bad_left p i [] ys e = refl
  bad_left p i (x ∷ xs) ys e =
      let h = bad_step p i x (xs ++ ys) e in
      bad_cons p i x xs h.0 (bad_left x.end (suc i) xs ys h.1)

  bad_again : (p i j : ℕ) (ls : List Literal) → first_bad test why p i ls ≡ none → first_bad test why p j ls ≡ none
  unfolding first_bad
  bad_again p i j [] e = refl
  bad_again p i j (l ∷ ls) e =
      let h = bad_step p i l ls e in
      bad_cons p j l ls h.0 (bad_again l.end (suc i) (suc j) ls h.1)

  -- a part's first literal has no previous end
  bad_right : (p i : ℕ) (xs ys : List Literal) → first_bad test why p i (xs ++ ys) ≡ none → first_bad test why 0 0 ys ≡ none
  unfolding first_bad
  bad_right p i [] [] e = refl
  bad_right p i [] (y ∷ ys) e =
      let h = bad_step p i y ys e in
      bad_cons 0 0 y ys (alone p y h.0) (bad_again y.end (suc i) 1 ys h.1)
  bad_right p i (x ∷ xs) ys e = bad_right x.end (suc i) xs ys (bad_step p i x (xs ++ ys) e).1

  bad_parts : (xs ys : List Literal) → first_bad test why 0 0 (xs ++ ys) ≡ none → (first_bad test why 0 0 xs ≡ none) × (first_bad test why 0 0 ys ≡ none)
  bad_parts xs ys e = (bad_left 0 0 xs ys e, bad_right 0 0 xs ys e)

bad_alone : (script : List ℕ) (p : ℕ) (l : Literal) → bad script p l ≡ false → bad script 0 l ≡ false
unfolding bad
bad_alone script p l e =
    swap (ltb 6 l.kind || ltb 1 l.triple || ltb (length script) (l.offset + l.size) || ltb l.end l.start)
    (ltb l.start p) (ltb l.start 0) (ltb l.end (place_of l l.size)) e (le-ltb l.start 0 zero-le)

good_parts : (script : List ℕ) (xs ys : List Literal) → all_good script (xs ++ ys) ≡ none → (all_good script xs ≡ none) × (all_good script ys ≡ none)
unfolding all_good
good_parts script xs ys e = bad_parts (bad script) (λ i l. refusal bad_descriptor i 0 0 0) (bad_alone script) xs ys e

utf8_parts : (script : List ℕ) (xs ys : List Literal) → all_utf8 script (xs ++ ys) ≡ none → (all_utf8 script xs ≡ none) × (all_utf8 script ys ≡ none)
unfolding all_utf8 ill_formed
utf8_parts script xs ys e = bad_parts (ill_formed script) (λ i l. refusal not_utf8 i (place_of l (formed script l)) 0 0) (λ p l t. t) xs ys e

-- what holds of each literal
abbrev pub Each : (Literal → Type 0) → List Literal → Type 0
Each P [] = Unit {0}
Each P (l ∷ ls) = P l × Each P ls

pub utf8_each : (script : List ℕ) (ls : List Literal) → all_utf8 script ls ≡ none → Each (λ l. Utf8 (body script l)) ls
unfolding all_utf8 ill_formed formed
utf8_each script = go 0 0
  where
    why : ℕ → Literal → Refusal
    why i l = refusal not_utf8 i (place_of l (formed script l)) 0 0

    go : (p i : ℕ) (ls : List Literal) → first_bad (ill_formed script) why p i ls ≡ none → Each (λ l. Utf8 (body script l)) ls
    go p i [] e = tt
    go p i (l ∷ ls) e =
        let h = bad_step (ill_formed script) why (λ p l t. t) p i l ls e in
        (formed_utf8 (body script l) (ltb-false _ _ h.0), go l.end (suc i) ls h.1)

-- 7
any_append : (p : ℕ → Bool) (xs ys : List Literal) → any_of p (xs ++ ys) ≡ any_of p xs || any_of p ys
unfolding any_of
any_append p [] ys = refl
any_append p (x ∷ xs) ys = ap (λ b. p x.kind || b) (any_append p xs ys) ∙ regroup (p x.kind) (any_of p xs) (any_of p ys)
  where
    regroup : (a b c : Bool) → a || (b || c) ≡ a || b || c
    regroup true b c = refl
    regroup false b c = refl

abbrev pub not_bytes : ℕ → Bool
not_bytes k = not (is_bytes k)

one_of_lem : (x : Literal) (xs : List Literal) → any_of is_bytes (x ∷ xs) || any_of not_bytes (x ∷ xs) ≡ true
unfolding any_of
one_of_lem x xs = go (is_bytes x.kind) (any_of is_bytes xs) (any_of not_bytes xs)
  where
    go : (b c g : Bool) → b || c || (not b || g) ≡ true
    go true c g = refl
    go false true g = refl
    go false false g = refl

-- the tests of two parts: f any f-string, b any bytes, g any other
mixed_table : (b b' g g' : Bool) → (b || b') && (g || g') ≡ false → (b && g ≡ false) × (b' && g' ≡ false)
mixed_table true b' true g' e = absurd (true≢false e)
mixed_table true true false g' e = (refl, e)
mixed_table true false false g' e = (refl, refl)
mixed_table false true true g' e = absurd (true≢false e)
mixed_table false true false g' e = (refl, e)
mixed_table false false g g' e = (refl, refl)

sort_table : (f f' b b' g g' : Bool) → (b || b') && (g || g') ≡ false → b || g ≡ true → b' || g' ≡ true
    → (if f || f' then joined else if b || b' then bytes_only else plain) ≡ join_sort (if f then joined else if b then bytes_only else plain) (if f' then joined else if b' then bytes_only else plain)
unfolding join_sort
sort_table true f' b b' g g' e p q = refl
sort_table false true true b' g g' e p q = refl
sort_table false true false b' g g' e p q = refl
sort_table false false true true g g' e p q = refl
sort_table false false true false true g' e p q = absurd (true≢false e)
sort_table false false true false false g' e p q = absurd (true≢false (sym q ∙ e))
sort_table false false false true true g' e p q = absurd (true≢false e)
sort_table false false false true false g' e p q = absurd (false≢true p)
sort_table false false false false g g' e p q = refl

first_nil : first_of [] ≡ none
unfolding first_of
first_nil = refl

some_literal : (l : Literal) (ls : List Literal) → not_empty (l ∷ ls) ≡ none
unfolding not_empty
some_literal l ls = refl

-- the checks one by one
pub record Passes (script : List ℕ) (ls : List Literal) : Type 0 where
  pub few : not_many ls ≡ none
  pub good : all_good script ls ≡ none
  pub short : not_long ls ≡ none
  pub well : all_utf8 script ls ≡ none
  pub unmixed : not_mixed ls ≡ none

pub passes : (script : List ℕ) (ls : List Literal) → entry script ls ≡ none → Passes script ls
unfolding entry
passes script ls e =
    let c₁ = first_tail (not_empty ls) (not_many ls ∷ all_good script ls ∷ not_long ls ∷ all_utf8 script ls ∷ not_mixed ls ∷ []) e in
    let c₂ = first_tail (not_many ls) (all_good script ls ∷ not_long ls ∷ all_utf8 script ls ∷ not_mixed ls ∷ []) c₁ in
    let c₃ = first_tail (all_good script ls) (not_long ls ∷ all_utf8 script ls ∷ not_mixed ls ∷ []) c₂ in
    let c₄ = first_tail (not_long ls) (all_utf8 script ls ∷ not_mixed ls ∷ []) c₃ in
    record {
      few = first_head (not_many ls) (all_good script ls ∷ not_long ls ∷ all_utf8 script ls ∷ not_mixed ls ∷ []) c₁;
      good = first_head (all_good script ls) (not_long ls ∷ all_utf8 script ls ∷ not_mixed ls ∷ []) c₂;
      short = first_head (not_long ls) (all_utf8 script ls ∷ not_mixed ls ∷ []) c₃;
      well = first_head (all_utf8 script ls) (not_mixed ls ∷ []) c₄;
      unmixed = first_head (not_mixed ls) [] (first_tail (all_utf8 script ls) (not_mixed ls ∷ []) c₄);
    }

enters : (script : List ℕ) (l : Literal) (ls : List Literal) → Passes script (l ∷ ls) → entry script (l ∷ ls) ≡ none
unfolding entry
enters script l ls c =
    first_cons _ _ (some_literal l ls) (first_cons _ _ c.few (first_cons _ _ c.good (first_cons _ _ c.short (first_cons _ _ c.well (first_cons _ [] c.unmixed first_nil)))))

few_tests : (ls : List Literal) → not_many ls ≡ none → ltb 1024 (length ls) ≡ false
unfolding not_many
few_tests ls e = failed (ltb 1024 (length ls)) (refusal 3 0 0 0 0) e

short_tests : (ls : List Literal) → not_long ls ≡ none → ltb 1048576 (total ls) ≡ false
unfolding not_long
short_tests ls e = failed (ltb 1048576 (total ls)) (refusal 5 0 0 0 0) e

mixed_tests : (xs ys : List Literal) → not_mixed (xs ++ ys) ≡ none → (any_of is_bytes xs || any_of is_bytes ys) && (any_of not_bytes xs || any_of not_bytes ys) ≡ false
unfolding not_mixed
mixed_tests xs ys e =
    ap₂ ◌&&◌ (sym (any_append is_bytes xs ys)) (sym (any_append not_bytes xs ys))
    ∙ failed (any_of is_bytes (xs ++ ys) && any_of not_bytes (xs ++ ys)) (refusal 7 0 (first_start (xs ++ ys)) 0 0) e

mixed_none : (ls : List Literal) → any_of is_bytes ls && any_of not_bytes ls ≡ false → not_mixed ls ≡ none
unfolding not_mixed
mixed_none ls e = rw e

-- both parts of a list that passes
parts : (script : List ℕ) (xs ys : List Literal) → Passes script (xs ++ ys) → Passes script xs × Passes script ys
parts script xs ys c =
    let few = few_tests (xs ++ ys) c.few in
    let good = good_parts script xs ys c.good in
    let well = utf8_parts script xs ys c.well in
    let short = short_tests (xs ++ ys) c.short in
    let unmixed = mixed_table (any_of is_bytes xs) (any_of is_bytes ys) (any_of not_bytes xs) (any_of not_bytes ys) (mixed_tests xs ys c.unmixed) in (
      record {
        few = many xs (length (xs ++ ys)) (omega (arith, length-append xs ys)) few;
        good = good.0;
        short = long xs (total (xs ++ ys)) (omega (arith, total_append xs ys)) short;
        well = well.0;
        unmixed = mixed_none xs unmixed.0;
      },
      record {
        few = many ys (length (xs ++ ys)) (omega (arith, length-append xs ys)) few;
        good = good.1;
        short = long ys (total (xs ++ ys)) (omega (arith, total_append xs ys)) short;
        well = well.1;
        unmixed = mixed_none ys unmixed.1;
      },
    )

module _ (script : List ℕ) (x : Literal) (xs : List Literal) (y : Literal) (ys : List Literal) (passed : entry script ((x ∷ xs) ++ (y ∷ ys)) ≡ none) where
  pub entry_left : entry script (x ∷ xs) ≡ none
  entry_left = enters script x xs (parts script (x ∷ xs) (y ∷ ys) (passes script ((x ∷ xs) ++ (y ∷ ys)) passed)).0

  pub entry_right : entry script (y ∷ ys) ≡ none
  entry_right = enters script y ys (parts script (x ∷ xs) (y ∷ ys) (passes script ((x ∷ xs) ++ (y ∷ ys)) passed)).1

  pub sort_append : sort_of ((x ∷ xs) ++ (y ∷ ys)) ≡ join_sort (sort_of (x ∷ xs)) (sort_of (y ∷ ys))
  unfolding sort_of
  sort_append =
      rw (any_append is_fstring (x ∷ xs) (y ∷ ys), any_append is_bytes (x ∷ xs) (y ∷ ys))
      (sort_table (any_of is_fstring (x ∷ xs)) (any_of is_fstring (y ∷ ys)) (any_of is_bytes (x ∷ xs)) (any_of is_bytes (y ∷ ys)) (any_of not_bytes (x ∷ xs)) (any_of not_bytes (y ∷ ys))
      (mixed_tests (x ∷ xs) (y ∷ ys) (passes script ((x ∷ xs) ++ (y ∷ ys)) passed).unmixed) (one_of_lem x xs) (one_of_lem y ys))
