-- The numbers of descriptors: what they read as, and how they are copied one by one. Assumes nothing.
use mathlib.Core.Path.{◌≡◌, refl}
use mathlib.Core.List.{List, [], ◌∷◌, ◌++◌, map}
use mathlib.Core.Option.{some}
use Prim.Native.Nat.{ℕ, ◌+◌, ◌*◌, ◌≤◌, ◌<◌, min}
use native.Mathlib.Nat.{not-suc-le-zero, min-le_left}
use native.Mathlib.Numerals.{add-one}
use native.Mathlib.Omega.{arith, min_cases}
use borrow.Author.Tests.{lt-ltb}
use lib.ListN.{length, get_or, take, length-map}
use lib.Seq.{take-suc, take-length, take-append-le, length-take-le}
use Rattle.definition.specs.Numbers.{too_many_literals}
use Rattle.definition.specs.Escapes.{held_names}
use Rattle.definition.specs.Entry.{Literal, sixes, one_more, refusal, not_empty, not_many, first_of, entry}
use Rattle.definition.specs.Reading.{read, read_into, read_numbers, numbers_by}
use Rattle.buffers.specs.Over.{over}
use Rattle.buffers.proofs.Over.{over_append, over_front}
use Rattle.entry.specs.Answers.{described}
use Rattle.entry.specs.declared.Descriptor.{Descriptor}
use Rattle.descriptors.specs.Descriptors.{six, flattened}

-- of one, of more, and how many there are
flattened_one : (d : Descriptor) → flattened (d ∷ []) ≡ six d
unfolding six flattened
flattened_one d = refl

flattened_append : (ds es : List Descriptor) → flattened (ds ++ es) ≡ flattened ds ++ flattened es
unfolding six flattened
flattened_append [] es = refl
flattened_append (d ∷ ds) es = rw (flattened_append ds es)

length_flattened : (ds : List Descriptor) → length (flattened ds) ≡ length ds * 6
unfolding six flattened
length_flattened [] = refl
length_flattened (d ∷ ds) = omega (arith, length_flattened ds)

-- in sixes they are the descriptors' literals
sixes_flattened : (ds : List Descriptor) → sixes (flattened ds) ≡ some (map described ds)
unfolding sixes one_more six flattened described
sixes_flattened [] = refl
sixes_flattened (d ∷ ds) = rw (sixes_flattened ds)

-- more than 1,024 literals are refused, whatever they are
too_many : (script : List ℕ) (ls : List Literal) → 1024 < length ls → entry script ls ≡ some (refusal too_many_literals 0 0 0 0)
unfolding entry not_empty not_many first_of
too_many script [] h = absurd (not-suc-le-zero h)
too_many script (l ∷ ls) h = rw (lt-ltb 1024 (length (l ∷ ls)) h)

-- how many are copied
abbrev pub counted : List Descriptor → ℕ
counted ds = min (length ds) 1025

module _ (script : List ℕ) (ds : List Descriptor) (words text : List ℕ) where
  -- THE TWO ENTRIES AGREE: over the numbers of descriptors, and over the descriptors
  pub agrees : read_numbers held_names script (flattened ds) words text ≡ read_into held_names script (map described ds) words text
  unfolding read_numbers numbers_by
  agrees = rw (sixes_flattened ds, read_numbers, numbers_by)

  -- the descriptors that are copied are read as all are
  first_enough : read_into held_names script (map described (take (counted ds) ds)) words text ≡ read_into held_names script (map described ds) words text
  unfolding read read_into
  first_enough =
      min_cases (length ds) 1025 _ (λ h e. rw (e, take-length ds))
      (λ h e.
      let first = too_many script (map described (take 1025 ds)) (rw (length-map (take 1025 ds) described, length-take-le 1025 ds h) (omega arith)) in
      let all = too_many script (map described ds) (rw (length-map ds described) (omega arith)) in
      rw (e, first, read, all))

-- z with the numbers of the first i descriptors over its front
abbrev pub copied : List ℕ → List Descriptor → ℕ → List ℕ
copied z ds i = over z 0 (flattened (take i ds))

module _ (z : List ℕ) (ds : List Descriptor) where
  length_first : (i : ℕ) → i ≤ length ds → length (flattened (take i ds)) ≡ i * 6
  length_first i h = rw (length_flattened (take i ds), length-take-le i ds h)

  pub copied_none : copied z ds 0 ≡ z
  unfolding over flattened
  copied_none = refl

  pub copied_more : (i : ℕ) (d : Descriptor) → i < length ds → over (copied z ds i) (i * 6) (six (get_or ds i d)) ≡ copied z ds (i + 1)
  copied_more i d h =
      let e : i * 6 ≡ 0 + length (flattened (take i ds)) = rw (length_first i (omega arith)) (omega arith) in
      rw (e, over_append z 0, add-one i, take-suc ds i d h, flattened_append, flattened_one)

  -- once all that are counted are copied, their numbers are read as all descriptors are
  pub read_copied : (script words text : List ℕ) → length z ≡ 6150 → read_numbers held_names script (take (counted ds * 6) (copied z ds (counted ds))) words text ≡ read_into held_names script (map described ds) words text
  read_copied script words text h =
      let xs = flattened (take (counted ds) ds) in
      let e = length_first (counted ds) (min-le_left (length ds) 1025) in
      rw (over_front z xs (omega arith), ← e, take-append-le (length xs) xs _ (omega arith), take-length, agrees) (first_enough script ds words text)
