-- The lines of a file, from an offset on. Assumes nothing.
use Rattle.std.specs.Prelude.{if◌then◌else◌}
use mathlib.Core.Path.{◌≡◌, refl, sym, ap, ◌∙◌}
use mathlib.Core.Bool.{◌&&◌, not}
use mathlib.Core.List.{List, [], ◌∷◌}
use mathlib.Core.Option.{none, some}
use Prim.Native.Nat.{ℕ, suc, ◌+◌, ◌≤◌, ◌<◌}
use native.Mathlib.Nat.{not-suc-le-zero, le_of_suc-le-suc}
use native.Mathlib.Omega.{arith}
use lib.Dec.{eqb, ltb}
use lib.ListN.{length, drop, drop_of_length-le, length-drop}
use lib.Seq.{drop-cons, drop-drop, get_or-drop}
use borrow.Author.Tests.{eq-eqb, ne_eqb, ltb-true, ltb-false}
use Rattle.definition.specs.Chars.{◌to◌, inside, byte}
use Rattle.definition_names.specs.Names.{up_to, first_field, name_at, on_first, parted, hex_value, no_value, Line, malformed, name_line, line_of, with_line, entries, named_from}
use Rattle.definition_names.specs.IsIndex.{count}
use Rattle.definition.proofs.Moves.CharLaws.{cases}
use Rattle.definition_names.proofs.NameLists.{same?, count_here, count_later, count_none}
use Rattle.definition_names.proofs.NameFields.{stop_at, go_on, up_to_none, up_to_not, up_to_stops, up_to_within, up_to_drop, count_up_to, count_past}

-- the pieces, by the first byte
module _ (b x : ℕ) (s : List ℕ) where
  parted_here : x ≡ b → parted b (x ∷ s) ≡ [] ∷ parted b s
  unfolding parted
  parted_here e = rw (eq-eqb x b e)

  parted_later : (x ≡ b → ⊥) → parted b (x ∷ s) ≡ on_first x (parted b s)
  unfolding parted
  parted_later e = rw (ne_eqb x b e)

parted_none : (b : ℕ) → parted b [] ≡ [] ∷ []
unfolding parted
parted_none b = refl

-- the first piece, and the rest
pub parted_first : (b : ℕ) (s : List ℕ) → length (up_to b s) < length s → parted b s ≡ up_to b s ∷ parted b (drop (suc (length (up_to b s))) s)
parted_first b [] h = absurd (not-suc-le-zero (rw up_to_none at h))
parted_first b (x ∷ s) h =
    same? x b (λ e. rw (parted_here b x s e, stop_at b x s e))
    (λ e. rw (parted_later b x s e, go_on b x s e, parted_first b s (le_of_suc-le-suc (rw (go_on b x s e) at h))))

pub parted_last : (b : ℕ) (s : List ℕ) → length s ≤ length (up_to b s) → parted b s ≡ s ∷ []
parted_last b [] h = parted_none b
parted_last b (x ∷ s) h =
    same? x b (λ e. absurd (not-suc-le-zero (rw (stop_at b x s e) at h)))
    (λ e. rw (parted_later b x s e, parted_last b s (le_of_suc-le-suc (rw (go_on b x s e) at h))))

pub parted_length : (b : ℕ) (s : List ℕ) → length (parted b s) ≡ suc (count b s)
parted_length b [] = rw (parted_none, count_none)
parted_length b (x ∷ s) =
    same? x b (λ e. rw (parted_here b x s e, count_here b x s (sym e)) (ap suc (parted_length b s)))
    (λ e. rw (parted_later b x s e, count_later b x s (λ z. e (sym z))) (on-first x (parted b s) (count b s) (parted_length b s)))
  where
    on-first : (x : ℕ) (ps : List (List ℕ)) (n : ℕ) → length ps ≡ suc n → length (on_first x ps) ≡ suc n
    on-first x [] n e = e
    on-first x (p ∷ ps) n e = e

-- a line with fifteen fields
abbrev pub judged : List ℕ → List ℕ → Line
judged d n =
    if inside (4 to 6) (length d) && not (eqb (hex_value 0 d) no_value) then name_line n (hex_value 0 d) else malformed

pub line_few : (l : List ℕ) → (count 59 l ≡ 14 → ⊥) → line_of l ≡ malformed
unfolding line_of
line_few l h = rw (parted_length 59 l, ne_eqb (suc (count 59 l)) 15 (λ e. h (omega arith)))

line_fields : (l : List ℕ) → count 59 l ≡ 14 → line_of l ≡ judged (first_field l) (first_field (drop (suc (length (first_field l))) l))
unfolding line_of
line_fields l h =
    let c = count_past 59 l (omega arith) in
    rw (parted_length 59 l, h, parted_first 59 l (count_up_to 59 l (omega arith)), parted_first 59 (drop (suc (length (first_field l))) l) (count_up_to 59 (drop (suc (length (first_field l))) l) (omega arith)))

pub line_is : (s : List ℕ) → count 59 (up_to 10 s) ≡ 14 → line_of (up_to 10 s) ≡ judged (first_field s) (first_field (drop (suc (length (first_field s))) s))
line_is s h =
    let one : 1 ≤ count 59 (up_to 10 s) = omega arith in
    let e = up_to_within 59 10 s one in
    let c = rw e at (count_past 59 (up_to 10 s) one) in
    let u : suc (length (first_field s)) ≤ length (up_to 10 s) = rw e at (count_up_to 59 (up_to 10 s) one) in
    let g = up_to_drop 10 s (suc (length (first_field s))) u in
    let d = rw g at c in
    line_fields (up_to 10 s) h ∙ rw (e, g, up_to_within 59 10 (drop (suc (length (first_field s))) s) (omega arith))

-- the lines from an offset on
entries_cons : (p : ℕ) (l m : List ℕ) (ls : List (List ℕ)) → entries p (l ∷ m ∷ ls) ≡ with_line p (line_of l) (entries (p + length l + 1) (m ∷ ls))
unfolding entries
entries_cons p [] m ls = refl
entries_cons p (x ∷ l) m ls = refl

entries_line : (p : ℕ) (l t : List ℕ) → entries p (l ∷ parted 10 t) ≡ with_line p (line_of l) (entries (p + length l + 1) (parted 10 t))
entries_line p l t =
    cases (ltb (length (up_to 10 t)) (length t)) (λ h. rw (parted_first 10 t (ltb-true _ _ h)) (entries_cons p l _ _))
    (λ h. rw (parted_last 10 t (ltb-false _ _ h)) (entries_cons p l _ _))

module _ (file : List ℕ) (p : ℕ) where
  pub from_end : length file ≤ p → named_from file p ≡ some []
  unfolding entries parted
  from_end h = rw (drop_of_length-le file h)

  pub from_line : p + length (up_to 10 (drop p file)) < length file → named_from file p ≡ with_line p (line_of (up_to 10 (drop p file))) (named_from file (p + length (up_to 10 (drop p file)) + 1))
  from_line h =
      let l = length-drop p file in
      let e : p + suc (length (up_to 10 (drop p file))) ≡ p + length (up_to 10 (drop p file)) + 1 = omega arith in
      rw (parted_first 10 (drop p file) (omega arith), entries_line, drop-drop, e)

  pub from_unended : p < length file → length file ≤ p + length (up_to 10 (drop p file)) → named_from file p ≡ none
  unfolding entries
  from_unended h k =
      let l = length-drop p file in
      rw (parted_last 10 (drop p file) (omega arith), drop-cons file p 0 h)

  -- where its name begins
  pub name_after : 4 ≤ length (first_field (drop p file)) → length (first_field (drop p file)) ≤ 6 → p + length (first_field (drop p file)) < length file → name_at file p ≡ p + length (first_field (drop p file)) + 1
  unfolding name_at
  name_after h k l =
      let dl = length-drop p file in
      let at_mark : byte file (p + length (first_field (drop p file))) ≡ 59 = sym (get_or-drop p file (length (first_field (drop p file))) 256) ∙ up_to_stops 59 (drop p file) 256 (omega arith) in
      same? (length (first_field (drop p file))) 4 (λ e. let m : byte file (p + 4) ≡ 59 = rw e at at_mark in rw (eq-eqb (byte file (p + 4)) 59 m, e) (omega arith))
      (λ e.
      let n4 : byte file (p + 4) ≡ 59 → ⊥ = λ z. up_to_not 59 (drop p file) 4 256 (omega arith) (get_or-drop p file 4 256 ∙ z) in
      rw (ne_eqb (byte file (p + 4)) 59 n4)
      (same? (length (first_field (drop p file))) 5 (λ f. let m : byte file (p + 5) ≡ 59 = rw f at at_mark in rw (eq-eqb (byte file (p + 5)) 59 m, f) (omega arith))
      (λ f.
      let n5 : byte file (p + 5) ≡ 59 → ⊥ = λ z. up_to_not 59 (drop p file) 5 256 (omega arith) (get_or-drop p file 5 256 ∙ z) in
      rw (ne_eqb (byte file (p + 5)) 59 n5) (omega arith))))
