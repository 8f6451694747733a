-- A run of bytes that stand as they are, up to the first brace or backslash. Assumes nothing.
use mathlib.Core.Path.{◌≡◌, refl, sym, ◌∙◌, ap}
use mathlib.Core.Bool.{Bool, true, false, ◌||◌}
use mathlib.Core.List.{List, [], ◌∷◌, ◌++◌, append_assoc}
use Prim.Native.Nat.{ℕ, ◌+◌, ◌-◌, ◌^◌, ◌≤◌}
use native.Mathlib.Omega.{arith}
use lib.Dec.{eqb}
use lib.ListN.{length, take, drop, length-append, take-append-drop}
use lib.Seq.{take-add, take-length}
use Rattle.std.proofs.lemmas.Bool.{or_parts}
use Rattle.std.proofs.lemmas.List.{take_rest}
use Rattle.definition.specs.Chars.{before}
use Rattle.definition_written.specs.Written.{Where, top, early, late, spelled_byte, spelled_text}
use Rattle.searches.specs.Firsts.{one_of, first_of}
use Rattle.written.specs.Puts.{Puts}
use Rattle.written.proofs.PutLaws.{puts_then, puts_same}

-- a byte that is no brace and no backslash stands as it is
plain_byte : (w : Where) (x : ℕ) → one_of 123 125 92 x ≡ false → spelled_byte w x ≡ x ∷ []
unfolding spelled_byte
plain_byte w x e =
    let p = or_parts (eqb x 123) (eqb x 125 || eqb x 92) e in
    let q = or_parts (eqb x 125) (eqb x 92) p.1 in
    go w p.0 q.0 q.1
  where
    go : (w : Where) → eqb x 123 ≡ false → eqb x 125 ≡ false → eqb x 92 ≡ false → spelled_byte w x ≡ x ∷ []
    go top a b c = rw (a, b, c) refl
    go early a b c = refl
    go late a b c = rw (c, a, b) refl

-- and so do all bytes before the first that is one
stood : (test : ℕ → Bool) (w : Where) → ((x : ℕ) → test x ≡ false → spelled_byte w x ≡ x ∷ []) → (l : List ℕ) → take (before test l) l ++ spelled_text w (drop (before test l) l) ≡ spelled_text w l
unfolding spelled_text before
stood test w plain [] = refl
stood test w plain (x ∷ l) = go (stood test w plain l) (test x) refl
  where
    go : take (before test l) l ++ spelled_text w (drop (before test l) l) ≡ spelled_text w l → (t : Bool) → test x ≡ t → take (before test (x ∷ l)) (x ∷ l) ++ spelled_text w (drop (before test (x ∷ l)) (x ∷ l)) ≡ spelled_text w (x ∷ l)
    go h true e = rw (before, e) refl
    go h false e = rw (before, e, plain x e) (ap (λ z. x ∷ z) h)

spelled_run : (w : Where) (l : List ℕ) → take (before (one_of 123 125 92) l) l ++ spelled_text w (drop (before (one_of 123 125 92) l) l) ≡ spelled_text w l
spelled_run w l = stood (one_of 123 125 92) w (plain_byte w) l

-- how far that run goes
before_most : (test : ℕ → Bool) (l : List ℕ) → before test l ≤ length l
unfolding before
before_most test [] = omega arith
before_most test (x ∷ l) = go (before_most test l) (test x) refl
  where
    go : before test l ≤ length l → (t : Bool) → test x ≡ t → before test (x ∷ l) ≤ length (x ∷ l)
    go h true e = rw (before, e) (omega arith)
    go h false e = rw (before, e) (omega arith)

-- the first that is one, in a part, and what stands before it
run_most : (s : List ℕ) (to : ℕ) → to ≡ first_of 123 125 92 s 0 → to ≤ length s
run_most s to e = let k = before_most (one_of 123 125 92) s in rw e (omega (arith, k))

run_split : (w : Where) (s : List ℕ) (to : ℕ) → to ≡ first_of 123 125 92 s 0 → take to s ++ spelled_text w (drop to s) ≡ spelled_text w s
run_split w s to e = let n : to ≡ before (one_of 123 125 92) s = rw e (omega arith) in rw n (spelled_run w s)

-- a text is spelled part by part
spelled_more : (w : Where) (s t : List ℕ) → spelled_text w (s ++ t) ≡ spelled_text w s ++ spelled_text w t
unfolding spelled_text
spelled_more w [] t = refl
spelled_more w (x ∷ s) t = rw (spelled_more w s t) (sym (append_assoc (spelled_byte w x) (spelled_text w s) (spelled_text w t)))

spelled_on : (w : Where) (s : List ℕ) (i n : ℕ) → spelled_text w (take (i + n) s) ≡ spelled_text w (take i s) ++ spelled_text w (take n (drop i s))
spelled_on w s i n = ap (spelled_text w) (take-add i n s) ∙ spelled_more w (take i s) (take n (drop i s))

spelled_most : (w : Where) (s : List ℕ) (i : ℕ) → length (spelled_text w (take i s)) ≤ length (spelled_text w s)
spelled_most w s i =
    let k : length (spelled_text w s) ≡ length (spelled_text w (take i s)) + length (spelled_text w (drop i s)) =
    ap length (ap (spelled_text w) (sym (take-append-drop i s)) ∙ spelled_more w (take i s) (drop i s)) ∙ length-append (spelled_text w (take i s)) (spelled_text w (drop i s)) in
    omega (arith, k)

pub spelled_none : (w : Where) → [] ≡ spelled_text w []
unfolding spelled_text
spelled_none w = refl

pub all_taken : (s : List ℕ) (i : ℕ) → i ≡ length s → take i s ≡ s
all_taken s i e = rw e (take-length s)

-- A TEXT: a part more, of which `to` bytes stand as they are at the front
module _ (b : List ℕ) (used : ℕ) (w : Where) (s : List ℕ) (b' : List ℕ) (u i n to : ℕ) (P : Puts b used (spelled_text w (take i s)) b' u) (e : to ≡ first_of 123 125 92 (take n (drop i s)) 0) (h : used + length (spelled_text w s) ≤ 2 ^ 40) where
  pub run_within : to ≤ length (take n (drop i s))
  run_within = run_most (take n (drop i s)) to e

  whole : u + length (take to (take n (drop i s))) + length (spelled_text w (drop to (take n (drop i s)))) ≤ 2 ^ 40
  whole =
      let x = P.up in
      let y = ap length (spelled_on w s i n) ∙ length-append (spelled_text w (take i s)) (spelled_text w (take n (drop i s))) in
      let z = sym (length-append (take to (take n (drop i s))) (spelled_text w (drop to (take n (drop i s))))) ∙ ap length (run_split w (take n (drop i s)) to e) in
      let m = spelled_most w s (i + n) in
      omega (arith, x, y, z, m)

  pub run_small : u + length (take to (take n (drop i s))) ≤ 2 ^ 40
  run_small = omega (arith, whole)

  rest_is : spelled_text w (take (length (take n (drop i s)) - to) (drop to (take n (drop i s)))) ≡ spelled_text w (drop to (take n (drop i s)))
  rest_is = ap (spelled_text w) (take_rest (take n (drop i s)) to)

  pub rest_small : {b'' : List ℕ} {u'' : ℕ} → Puts b' u (take to (take n (drop i s))) b'' u'' → u'' + length (spelled_text w (take (length (take n (drop i s)) - to) (drop to (take n (drop i s))))) ≤ 2 ^ 40
  rest_small p = let x = p.up in let r = ap length rest_is in omega (arith, whole, r)

  pub part_put : {b'' b''' : List ℕ} {u'' u''' end : ℕ} → end ≡ i + n → Puts b' u (take to (take n (drop i s))) b'' u'' → Puts b'' u'' (spelled_text w (take (length (take n (drop i s)) - to) (drop to (take n (drop i s))))) b''' u''' → Puts b used (spelled_text w (take end s)) b''' u'''
  part_put k p q = puts_same (sym (spelled_on w s i n) ∙ ap (λ z. spelled_text w (take z s)) (sym k)) (puts_then P (puts_same (run_split w (take n (drop i s)) to e) (puts_then p (puts_same rest_is q))))
