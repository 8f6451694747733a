-- Laws of writing over a buffer.
-- Assumes nothing.
use mathlib.Core.Path.{◌≡◌, refl, sym, ◌∙◌}
use mathlib.Core.List.{List, [], ◌∷◌, ◌++◌}
use Prim.Native.Nat.{ℕ, zero, suc, ◌+◌, ◌-◌, ◌≤◌, ◌<◌, min}
use native.Mathlib.Nat.{suc-add, add-suc, add-zero, zero-add, zero-sub, sub-zero, suc-sub-suc, add-sub_cancel_left, min-eq_left, le_refl, not-suc-le-zero, le_of_suc-le-suc}
use native.Mathlib.Numerals.{add-one}
use native.Mathlib.Omega.{arith, min_cases}
use lib.ListN.{length, take, drop, set, get_or, replicate, length-set, length-take, length-replicate, take-append-drop}
use Rattle.std.proofs.lemmas.List.{replicate_more}
use lib.Seq.{set_out, set_comm, take-nil, drop-nil, take-suc, length-take-le}
use borrow.Rule.Slice.PartMut.{put_mid, mid_of}
use Rattle.definition.specs.Chars.{part}
use Rattle.buffers.specs.Over.{over}

module _ {A : Type 0} where
  -- nothing, and one element
  pub over_nil : (b : List A) (p : ℕ) → over b p [] ≡ b
  unfolding over
  over_nil b p = refl

  pub over_one : (b : List A) (p : ℕ) (x : A) → over b p (x ∷ []) ≡ set b p x
  unfolding over
  over_one b p x = refl

  -- by the buffer's first element
  over_empty : (p : ℕ) (xs : List A) → over [] p xs ≡ []
  unfolding over
  over_empty p [] = refl
  over_empty p (x ∷ xs) = over_empty (suc p) xs

  over_later : (y : A) (b : List A) (p : ℕ) (xs : List A) → over (y ∷ b) (suc p) xs ≡ y ∷ over b p xs
  unfolding over
  over_later y b p [] = refl
  over_later y b p (x ∷ xs) = over_later y (set b p x) (suc p) xs

  over_first : (y : A) (b : List A) (x : A) (xs : List A) → over (y ∷ b) 0 (x ∷ xs) ≡ x ∷ over b 0 xs
  unfolding over
  over_first y b x xs = over_later x b 0 xs

  -- the length stays
  pub length_over : (b : List A) (p : ℕ) (xs : List A) → length (over b p xs) ≡ length b
  unfolding over
  length_over b p [] = refl
  length_over b p (x ∷ xs) = length_over (set b p x) (suc p) xs ∙ length-set b p x

  -- at or past the end nothing changes
  pub over_out : (b : List A) (p : ℕ) (xs : List A) → length b ≤ p → over b p xs ≡ b
  unfolding over
  over_out b p [] h = refl
  over_out b p (x ∷ xs) h = rw (set_out b p x h) (over_out b (suc p) xs (omega arith))

  -- one run after another
  pub over_append : (b : List A) (p : ℕ) (xs ys : List A) → over (over b p xs) (p + length xs) ys ≡ over b p (xs ++ ys)
  unfolding over
  over_append b p [] ys = rw add-zero
  over_append b p (x ∷ xs) ys = rw (add-suc, ← suc-add p (length xs)) (over_append (set b p x) (suc p) xs ys)

  -- behind a front that is dropped, what of a run reaches there
  pub drop_over : (b : List A) (p s : ℕ) (xs : List A) → drop s (over b p xs) ≡ over (drop s b) (p - s) (drop (s - p) xs)
  drop_over b p zero xs = rw (sub-zero, zero-sub)
  drop_over [] p (suc s) xs = simp (over_empty, drop-nil)
  drop_over (y ∷ b) (suc p) (suc s) xs = rw (over_later, suc-sub-suc, suc-sub-suc) (drop_over b p s xs)
  drop_over (y ∷ b) zero (suc s) [] = simp (over_nil, drop-nil)
  drop_over (y ∷ b) zero (suc s) (x ∷ xs) = rw (over_first, drop_over b 0 s xs, zero-sub, sub-zero, zero-sub, sub-zero)

  -- two runs that do not meet, in either order
  over_set : (b : List A) (p : ℕ) (x : A) (q : ℕ) (ys : List A) → p < q → over (set b p x) q ys ≡ set (over b q ys) p x
  unfolding over
  over_set b p x q [] h = refl
  over_set b p x q (y ∷ ys) h =
      rw (set_comm b p q x y (λ (e : p ≡ q). omega arith)) (over_set (set b q y) p x (suc q) ys (omega arith))

  pub over_comm : (b : List A) (p : ℕ) (xs : List A) (q : ℕ) (ys : List A) → p + length xs ≤ q → over (over b p xs) q ys ≡ over (over b q ys) p xs
  unfolding over
  over_comm b p [] q ys h = refl
  over_comm b p (x ∷ xs) q ys h = rw (← over_set b p x q ys (omega arith)) (over_comm (set b p x) (suc p) xs q ys (omega arith))

  -- where a run fits it stands there
  pub over_front : (b xs : List A) → length xs ≤ length b → over b 0 xs ≡ xs ++ drop (length xs) b
  over_front b [] h = over_nil b 0
  over_front [] (x ∷ xs) h = absurd (not-suc-le-zero h)
  over_front (y ∷ b) (x ∷ xs) h = rw (over_first, over_front b xs (le_of_suc-le-suc h))

  pub over_inside : (b : List A) (p : ℕ) (xs : List A) → p + length xs ≤ length b → over b p xs ≡ take p b ++ xs ++ drop (p + length xs) b
  over_inside b zero xs h = rw zero-add (over_front b xs (omega arith))
  over_inside [] (suc p) xs h = absurd (omega arith)
  over_inside (y ∷ b) (suc p) xs h = rw (over_later, suc-add, over_inside b p xs (omega arith))

  -- of a run, as much as finds room is enough
  pub over_take : (b : List A) (p n : ℕ) (xs : List A) → min (length xs) (length b - p) ≤ n → over b p (take n xs) ≡ over b p xs
  over_take [] p n xs h = simp over_empty
  over_take (y ∷ b) (suc p) n xs h = simp (over_later, over_take b p n xs (omega arith))
  over_take (y ∷ b) zero n [] h = rw take-nil
  over_take (y ∷ b) zero zero (x ∷ xs) h = absurd (omega arith)
  over_take (y ∷ b) zero (suc n) (x ∷ xs) h = simp (over_first, over_take b 0 n xs (omega arith))

  -- one element more of a run
  pub over_more : (b : List A) (p i q : ℕ) (xs : List A) (d : A) → i < length xs → q ≡ p + i → set (over b p (take i xs)) q (get_or xs i d) ≡ over b p (take (i + 1) xs)
  over_more b p i q xs d h e =
      rw (add-one i, take-suc xs i d h, ← over_append, length-take-le i xs (omega arith), e) (sym (over_one _ _ _))

  -- what stands before a run stays
  pub get_d_over : (b : List A) (p : ℕ) (xs : List A) (i : ℕ) (d : A) → i < p → get_or (over b p xs) i d ≡ get_or b i d
  get_d_over [] p xs i d h = rw over_empty
  get_d_over (y ∷ b) zero xs i d h = absurd (not-suc-le-zero h)
  get_d_over (y ∷ b) (suc p) xs zero d h = rw over_later
  get_d_over (y ∷ b) (suc p) xs (suc i) d h = rw over_later (get_d_over b p xs i d (le_of_suc-le-suc h))

  take_before : (b : List A) (p : ℕ) (xs : List A) (i n : ℕ) → n ≤ p - i → take n (drop i (over b p xs)) ≡ take n (drop i b)
  take_before [] p xs i n h = rw over_empty
  take_before (y ∷ b) p xs i zero h = refl
  take_before (y ∷ b) zero xs i (suc n) h = absurd (omega arith)
  take_before (y ∷ b) (suc p) xs zero (suc n) h = rw (over_later, take_before b p xs 0 n (omega arith))
  take_before (y ∷ b) (suc p) xs (suc i) (suc n) h = rw over_later (take_before b p xs i (suc n) (omega arith))

  -- what was written, read back
  take_written : (b : List A) (p : ℕ) (xs : List A) → take (length xs) (drop p (over b p xs)) ≡ take (length b - p) xs
  take_written [] p xs = rw (over_empty, drop-nil, take-nil, zero-sub)
  take_written (y ∷ b) (suc p) xs = rw (over_later, suc-sub-suc) (take_written b p xs)
  take_written (y ∷ b) zero [] = rw sub-zero
  take_written (y ∷ b) zero (x ∷ xs) = rw (over_first, sub-zero, take_written b 0 xs, sub-zero)

  -- a part that was lent and written from its front, in its place
  front_lent : (b : List A) (k : ℕ) (xs : List A) → over (take k b) 0 xs ++ drop k b ≡ over b 0 (take k xs)
  front_lent b zero xs = rw (over_empty, over_nil)
  front_lent [] (suc k) xs = simp over_empty
  front_lent (y ∷ b) (suc k) [] = simp (over_nil, take-append-drop)
  front_lent (y ∷ b) (suc k) (x ∷ xs) = simp (over_first, front_lent b k xs)

  pub over_lent : (b : List A) (q k : ℕ) (xs : List A) → put_mid q k b (over (mid_of q k b) 0 xs) ≡ over b q (take k xs)
  over_lent b zero k xs = front_lent b k xs
  over_lent [] (suc q) k xs = simp (take-nil, drop-nil, over_empty)
  over_lent (y ∷ b) (suc q) k xs = rw (over_later, over_lent b q k xs)

  -- so from the used length q, or the end where that lies past it, when what finds room is lent
  over_min : (b : List A) (p : ℕ) (xs : List A) → over b (min p (length b)) xs ≡ over b p xs
  over_min b p xs = min_cases p (length b) _ (λ h e. rw e) (λ h e. rw (e, over_out b p xs h) (over_out b (length b) xs (le_refl _)))

  lent_enough : (b : List A) (p q k : ℕ) (xs : List A) → q ≡ min p (length b) → min (length xs) (length b - q) ≤ k → put_mid q k b (over (mid_of q k b) 0 xs) ≡ over b p xs
  lent_enough b p q k xs e h = over_lent b q k xs ∙ over_take b q k xs h ∙ rw e (over_min b p xs)

  pub over_tail : (b : List A) (p q : ℕ) (xs : List A) {last : List A} → q ≡ min p (length b) → last ≡ over (mid_of q (length b - q) b) 0 xs → put_mid q (length b - q) b last ≡ over b p xs
  over_tail b p q xs e l = rw l (lent_enough b p q (length b - q) xs e (omega arith))

  -- one more of the same element
  pub over_same_more : (b : List A) (i : ℕ) (x : A) → set (over b 0 (replicate i x)) i x ≡ over b 0 (replicate (i + 1) x)
  over_same_more b i x = rw (← replicate_more i x, ← over_append, length-replicate, zero-add) (sym (over_one _ _ _))

  -- and filled with one element
  pub over_all : (b : List A) (n : ℕ) (x : A) → length b ≤ n → over b 0 (replicate n x) ≡ replicate (length b) x
  over_all [] n x h = over_empty 0 (replicate n x)
  over_all (y ∷ b) zero x h = absurd (not-suc-le-zero h)
  over_all (y ∷ b) (suc n) x h = rw (over_first, over_all b n x (le_of_suc-le-suc h))

  pub over_filled : (b : List A) (p q k n : ℕ) (x : A) {last : List A} → q ≡ min p (length b) → k ≡ min n (length b - q) → last ≡ replicate (length (mid_of q k b)) x → put_mid q k b last ≡ over b p (replicate n x)
  over_filled b p q k n x e f l =
      rw (l, ← over_all (mid_of q k b) n x (rw length-take (omega arith)))
      (lent_enough b p q k (replicate n x) e (rw length-replicate (omega arith)))

-- the same of parts
pub over_before : (b : List ℕ) (p : ℕ) (xs : List ℕ) (i j : ℕ) → j ≤ p → part (over b p xs) i j ≡ part b i j
over_before b p xs i j h = take_before b p xs i (j - i) (omega arith)

pub over_part : (b : List ℕ) (p : ℕ) (xs : List ℕ) → part (over b p xs) p (p + length xs) ≡ take (length b - p) xs
over_part b p xs = rw add-sub_cancel_left (take_written b p xs)

-- a run that stands at p, as much of it as found room, copied behind itself is the run written there
pub over_again : (t : List ℕ) (p : ℕ) (xs : List ℕ) (q : ℕ) → p + length xs ≤ q → part t p (p + length xs) ≡ take (length t - p) xs → over t q (part t p (min (p + length xs) q)) ≡ over t q xs
over_again t p xs q h e = rw (min-eq_left h, e) (over_take t q (length t - p) xs (omega arith))
