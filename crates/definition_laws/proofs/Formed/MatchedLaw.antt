-- What is computed to be matched is matched text, and nothing else is. Assumes nothing.
use Prim.Native.Nat.{ℕ}
use mathlib.Core.Path.{◌≡◌, refl, sym, ◌∙◌, ap, subst}
use mathlib.Core.Bool.{true, false, ◌&&◌, ◌||◌, not}
use mathlib.Core.List.{List, [], ◌∷◌, ◌++◌, append_assoc}
use borrow.Author.Tests.{eq-eqb, eqb-true, not-true}
use lib.Dec.{eqb}
use Rattle.definition.specs.Chars.{◌is◌}
use Rattle.definition.specs.Matched.{clear, quoted, broken, pairs, closed, see, see_all, settled, matched}
use Rattle.definition_laws.specs.IsMatched.{Calm, lacks, IsMatched, none, calm, run, bracketed}
use Rattle.definition.proofs.Moves.CharLaws.{cases, no, either}
use Rattle.definition_laws.proofs.Moves.Cases.{and_both}
use Rattle.definition_laws.proofs.Moves.Adds.{Sees, sees_both, mark_opener, mark_closer}

-- a quoted run from inside, up to its quote
run_on : (q : ℕ) (o t : List ℕ) → lacks q t ≡ true → see_all (quoted q o) (t ++ (q ∷ [])) ≡ clear o
unfolding see_all see lacks
run_on q o [] e = rw (eq-eqb q q refl) refl
run_on q o (b ∷ t) e = let h = and_both (not (eqb b q)) (lacks q t) e in rw (not-true (eqb b q) h.0, see_all) (run_on q o t h.1)

run_sees : (q : ℕ) (o t : List ℕ) → (q is "\"'") ≡ true → lacks q t ≡ true → Sees o (q ∷ (t ++ (q ∷ []))) o
unfolding see_all see
run_sees q o t h l = rw (h, see_all) (run_on q o t l)

calm_sees : (b : ℕ) (o : List ℕ) → Calm b → Sees o (b ∷ []) o
unfolding see_all see
calm_sees b o c = rw (c.0, c.1, c.2, c.3) refl

-- brackets of a kind
paired : {P : Type 0} (a b : ℕ) → pairs a b ≡ true → (a ≡ 40 → b ≡ 41 → P) → (a ≡ 91 → b ≡ 93 → P) → (a ≡ 123 → b ≡ 125 → P) → P
paired a b e f g h =
    either (a is "(" && b is ")" || a is "[" && b is "]") (a is "{" && b is "}") e
    (λ k. either (a is "(" && b is ")") (a is "[" && b is "]") k (of 40 41 f) (of 91 93 g))
    (of 123 125 h)
  where
    of : {P : Type 0} (m n : ℕ) → (a ≡ m → b ≡ n → P) → (eqb a m && eqb b n) ≡ true → P
    of m n f k = let l = and_both (eqb a m) (eqb b n) k in f (eqb-true a m l.0) (eqb-true b n l.1)

opener : (a b : ℕ) → pairs a b ≡ true → (a is "([{") ≡ true
opener a b e = paired a b e (λ h k. rw h refl) (λ h k. rw h refl) (λ h k. rw h refl)

closer : (a b : ℕ) → pairs a b ≡ true → (b is ")]}") ≡ true
closer a b e = paired a b e (λ h k. rw k refl) (λ h k. rw k refl) (λ h k. rw k refl)

-- MATCHED TEXT leaves what is open as it is
pub matched_level : {s : List ℕ} → IsMatched s → (o : List ℕ) → Sees o s o
unfolding see_all
matched_level none o = refl
matched_level (calm b s h m) o = sees_both o (b ∷ []) s (calm_sees b o h) (matched_level m o)
matched_level (run q t s h l m) o =
    ap (λ z. see_all (clear o) (q ∷ z)) (sym (append_assoc t (q ∷ []) s)) ∙ sees_both o (q ∷ (t ++ (q ∷ []))) s (run_sees q o t h l) (matched_level m o)
matched_level (bracketed a b t s p m n) o =
    sees_both o (a ∷ []) (t ++ (b ∷ s)) (mark_opener {o = o} a (opener a b p)).1.sees
    (sees_both (a ∷ o) t (b ∷ s) (matched_level m (a ∷ o))
    (sees_both (a ∷ o) (b ∷ []) s (mark_closer {a = a} {o = o} b (closer a b p) p).1.sees (matched_level n o)))

-- text that closes what is open, innermost first: matched text and a bracket for each, and matched text behind the last
abbrev Closes : (o s : List ℕ) → Type 0
Closes [] s = IsMatched s
Closes (a ∷ o) s = (t : List ℕ) × (b : ℕ) × (r : List ℕ) × (s ≡ t ++ (b ∷ r)) × (pairs a b ≡ true) × IsMatched t × Closes o r

closes_calm : (o : List ℕ) (b : ℕ) (s : List ℕ) → Calm b → Closes o s → Closes o (b ∷ s)
closes_calm [] b s h m = calm b s h m
closes_calm (a ∷ o) b s h (t, d, r, e, p, m, c) = (b ∷ t, d, r, ap (λ z. b ∷ z) e, p, calm b t h m, c)

closes_run : (o : List ℕ) (q : ℕ) (u s : List ℕ) → (q is "\"'") ≡ true → lacks q u ≡ true → Closes o s → Closes o (q ∷ (u ++ (q ∷ s)))
closes_run [] q u s h l m = run q u s h l m
closes_run (a ∷ o) q u s h l (t, d, r, e, p, m, c) = (
  q ∷ (u ++ (q ∷ t)),
  d,
  r,
  ap (λ z. q ∷ z) (ap (λ z. u ++ (q ∷ z)) e ∙ sym (append_assoc u (q ∷ t) (d ∷ r))),
  p,
  run q u t h l m,
  c,
)

closes_opener : (o : List ℕ) (a : ℕ) (s : List ℕ) → Closes (a ∷ o) s → Closes o (a ∷ s)
closes_opener [] a s (t, b, r, e, p, m, c) = subst (λ z. IsMatched (a ∷ z)) (sym e) (bracketed a b t r p m c)
closes_opener (x ∷ o) a s (t, b, r, e, p, m, (u, d, v, f, q, n, c)) = (
  a ∷ (t ++ (b ∷ u)),
  d,
  v,
  ap (λ z. a ∷ z) (e ∙ ap (λ z. t ++ (b ∷ z)) f ∙ sym (append_assoc t (b ∷ u) (d ∷ v))),
  q,
  bracketed a b t u p m n,
  c,
)

-- what is wrong stays so
broken_stays : (s : List ℕ) → settled (see_all broken s) ≡ false
unfolding settled see_all see
broken_stays [] = refl
broken_stays (b ∷ s) = broken_stays s

-- what ends settled closes what is open, and a run that is open first
record Settles (s : List ℕ) : Type 0 where
  of_clear : (o : List ℕ) → settled (see_all (clear o) s) ≡ true → Closes o s
  of_quoted : (q : ℕ) (o : List ℕ) → settled (see_all (quoted q o) s) ≡ true
      → (t : List ℕ) × (r : List ℕ) × (s ≡ t ++ (q ∷ r)) × (lacks q t ≡ true) × Closes o r

settles_none : Settles []
unfolding see_all settled
settles_none = record { of_clear = ends; of_quoted = λ q o e. no e }
  where
    ends : (o : List ℕ) → settled (clear o) ≡ true → Closes o []
    ends [] e = none
    ends (a ∷ o) e = no e

settles_more : (b : ℕ) (s : List ℕ) → Settles s → Settles (b ∷ s)
unfolding see_all see lacks closed
settles_more b s ih = record { of_clear = first; of_quoted = inside }
  where
    wrong : {P : Type 0} → settled (see_all broken s) ≡ true → P
    wrong e = no (sym (broken_stays s) ∙ e)

    closing : (o : List ℕ) → settled (see_all (closed o b) s) ≡ true → Closes o (b ∷ s)
    closing [] e = wrong e
    closing (a ∷ o) e = cases (pairs a b) (λ p. ([], b, s, refl, p, none, ih.of_clear o (rw p at e))) (λ p. wrong (rw p at e))

    first : (o : List ℕ) → settled (see_all (clear o) (b ∷ s)) ≡ true → Closes o (b ∷ s)
    first o e =
        cases (b is "\"'")
        (λ h. let x = ih.of_quoted b o (rw (h, see_all) at e) in subst (λ z. Closes o (b ∷ z)) (sym x.2) (closes_run o b x.0 x.1 h x.3 x.4))
        (λ h. cases (b is "([{") (λ k. closes_opener o b s (ih.of_clear (b ∷ o) (rw (h, k, see_all) at e)))
        (λ k. cases (b is ")]}") (λ l. closing o (rw (h, k, l, see_all) at e))
        (λ l. cases (b is "\\") (λ m. wrong (rw (h, k, l, m, see_all) at e)) (λ m. closes_calm o b s (h, k, l, m) (ih.of_clear o (rw (h, k, l, m, see_all) at e))))))

    inside : (q : ℕ) (o : List ℕ) → settled (see_all (quoted q o) (b ∷ s)) ≡ true
        → (t : List ℕ) × (r : List ℕ) × (b ∷ s ≡ t ++ (q ∷ r)) × (lacks q t ≡ true) × Closes o r
    inside q o e =
        cases (eqb b q)
        (λ h. ([], s, ap (λ z. z ∷ s) (eqb-true b q h), refl, ih.of_clear o (rw (h, see_all) at e)))
        (λ h. let x = ih.of_quoted q o (rw (h, see_all) at e) in (b ∷ x.0, x.1, ap (λ z. b ∷ z) x.2, rw h x.3, x.4))

settles : (s : List ℕ) → Settles s
settles [] = settles_none
settles (b ∷ s) = settles_more b s (settles s)

-- WHAT IS MATCHED, both ways
pub matched_is : (s : List ℕ) → matched s ≡ true → IsMatched s
unfolding matched
matched_is s e = (settles s).of_clear [] e

pub is_matched : {s : List ℕ} → IsMatched s → matched s ≡ true
unfolding matched settled
is_matched m = rw (matched_level m []) refl
