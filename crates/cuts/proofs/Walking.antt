-- A body's pieces, cut by cut; and which number the check gives. Assumes nothing.
use Rattle.std.specs.Prelude.{if◌then◌else◌, Some, None, is_some}
use Rattle.std.specs.Prelude.{Option as Given}
use mathlib.Core.Path.{◌≡◌, refl, sym, ap, ◌∙◌}
use mathlib.Core.Bool.{Bool, true, false, ◌&&◌, ◌||◌}
use mathlib.Core.List.{List, [], ◌∷◌}
use mathlib.Core.Option.{Option, none, some}
use Prim.Native.Nat.{ℕ, ◌+◌, ◌-◌, ◌≤◌, ◌<◌, zero-le}
use native.Mathlib.Numerals.{add-one}
use native.Mathlib.Omega.{arith}
use borrow.Author.Tests.{le-ltb, lt-leb, le-leb, ltb-true, leb-false}
use lib.Dec.{ltb, leb}
use lib.ListN.{length, drop, get_or, length-drop, drop_of_length-le}
use lib.Seq.{drop-cons}
use Rattle.definition.specs.Chars.{part, well_formed}
use Rattle.definition.specs.Reading.{read_alone}
use Rattle.definition.specs.Escapes.{held_names}
use Rattle.definition_cuts.specs.Cuts.{rise, pieces, all_short, all_read, is_read, join_all, equal, checked}
use Rattle.cuts.specs.OnePass.{number_of, checked_once, check_at}
use Rattle.definition.proofs.Moves.CharLaws.{cases}
use Rattle.definition_cuts_laws.proofs.Tokens.PieceLaws.{piece_length}
use Rattle.definition_cuts_laws.proofs.Cuts.AloneLaws.{accepted_fit}
use Rattle.definition_cuts_laws.proofs.Cuts.CutsLaw.{last_piece, all_short_lem}
use Rattle.definition_cuts_laws.proofs.Cuts.NumberLaw.{longer_differs}
use Rattle.cuts.specs.Answers.{VerdictIs}
use Rattle.cuts.proofs.OnePassLaw.{checked_once_lem}

both : (a b : Bool) → (a && b) ≡ true → (a ≡ true) × (b ≡ true)
both true b e = (refl, e)
both false b e = let z : ◌≡◌ {A = ℕ} 0 1 = cc in absurd (omega arith)

-- PIECES, of which something is asked: up to cut number k it holds
pub record Walk (F : List (List ℕ) → Bool) (s cuts : List ℕ) (from k : ℕ) : Type 0 where
  pub is : F (pieces s 0 cuts) ≡ F (pieces s from (drop k cuts))
  pub rises : rise (length s) from (drop k cuts) ≡ true
  pub inside : from ≤ length s
  pub few : k ≤ length cuts

pub walk : (F : List (List ℕ) → Bool) (s cuts : List ℕ) → rise (length s) 0 cuts ≡ true → Walk F s cuts 0 0
walk F s cuts r = record { is = refl; rises = r; inside = zero-le; few = zero-le }

module _ (F : List (List ℕ) → Bool) (s cuts : List ℕ) (from k : ℕ) (w : Walk F s cuts from k) where
  walk_end : length cuts ≤ k → F (pieces s 0 cuts) ≡ F (drop from s ∷ [])
  unfolding pieces
  walk_end h = w.is ∙ rw (drop_of_length-le cuts h) refl

  module _ (h : k < length cuts) where
    walk_piece : F (pieces s 0 cuts) ≡ F (part s from (get_or cuts k 0) ∷ pieces s (get_or cuts k 0) (drop (k + 1) cuts))
    unfolding pieces
    walk_piece = w.is ∙ rw (drop-cons cuts k 0 h, pieces) (ap (λ m. F (part s from (get_or cuts k 0) ∷ pieces s (get_or cuts k 0) (drop m cuts))) (sym (add-one k)))

    walk_rise : (ltb from (get_or cuts k 0) && ltb (get_or cuts k 0) (length s) && rise (length s) (get_or cuts k 0) (drop (k + 1) cuts)) ≡ true
    unfolding rise
    walk_rise = ap (λ m. ltb from (get_or cuts k 0) && ltb (get_or cuts k 0) (length s) && rise (length s) (get_or cuts k 0) (drop m cuts)) (add-one k) ∙ (rw (drop-cons cuts k 0 h, rise) at w.rises)

    -- the next cut stands after, and inside
    pub next_cut : (from < get_or cuts k 0) × (get_or cuts k 0 < length s)
    next_cut =
        let a = both (ltb from (get_or cuts k 0) && ltb (get_or cuts k 0) (length s)) (rise (length s) (get_or cuts k 0) (drop (k + 1) cuts)) walk_rise in
        let b = both (ltb from (get_or cuts k 0)) (ltb (get_or cuts k 0) (length s)) a.0 in
        (ltb-true from (get_or cuts k 0) b.0, ltb-true (get_or cuts k 0) (length s) b.1)

    walk_on : F (part s from (get_or cuts k 0) ∷ pieces s (get_or cuts k 0) (drop (k + 1) cuts)) ≡ F (pieces s (get_or cuts k 0) (drop (k + 1) cuts)) → Walk F s cuts (get_or cuts k 0) (k + 1)
    walk_on e = record {
      is = walk_piece ∙ e;
      rises = (both (ltb from (get_or cuts k 0) && ltb (get_or cuts k 0) (length s)) (rise (length s) (get_or cuts k 0) (drop (k + 1) cuts)) walk_rise).1;
      inside = let z = next_cut in omega (arith, z.1);
      few = omega arith;
    }

-- THEIR LENGTHS
module _ (limit : ℕ) (s cuts : List ℕ) (from k : ℕ) (w : Walk (all_short limit) s cuts from k) where
  pub last_short : length cuts ≤ k → leb (length s - from) limit ≡ all_short limit (pieces s 0 cuts)
  unfolding all_short
  last_short h = sym (walk_end (all_short limit) s cuts from k w h ∙ rw (length-drop from s, all_short) (and_true (leb (length s - from) limit)))
    where
      and_true : (b : Bool) → (b && true) ≡ b
      and_true true = refl
      and_true false = refl

  module _ (h : k < length cuts) where
    long : length (part s from (get_or cuts k 0)) ≡ get_or cuts k 0 - from
    long = let z = next_cut (all_short limit) s cuts from k w h in piece_length s from (get_or cuts k 0) (omega (arith, z.0)) (omega (arith, z.1))

    pub not_short : limit < get_or cuts k 0 - from → false ≡ all_short limit (pieces s 0 cuts)
    unfolding all_short
    not_short l = sym (walk_piece (all_short limit) s cuts from k w h ∙ rw (long, lt-leb (get_or cuts k 0 - from) limit l, all_short) refl)

    pub short_on : get_or cuts k 0 - from ≤ limit → Walk (all_short limit) s cuts (get_or cuts k 0) (k + 1)
    unfolding all_short
    short_on l = walk_on (all_short limit) s cuts from k w h (rw (long, le-leb (get_or cuts k 0 - from) limit l, all_short) refl)

-- THEIR READINGS
module _ (s cuts : List ℕ) (from k : ℕ) (w : Walk all_read s cuts from k) where
  pub last_read : length cuts ≤ k → (b : Bool) → b ≡ is_read (read_alone held_names (part s from (length s))) → b ≡ all_read (pieces s 0 cuts)
  unfolding all_read
  last_read h b e = e ∙ ap (λ p. is_read (read_alone held_names p)) (last_piece s from) ∙ sym (walk_end all_read s cuts from k w h ∙ and_true (is_read (read_alone held_names (drop from s))))
    where
      and_true : (b : Bool) → (b && true) ≡ b
      and_true true = refl
      and_true false = refl

  module _ (h : k < length cuts) where
    pub not_read : false ≡ is_read (read_alone held_names (part s from (get_or cuts k 0))) → false ≡ all_read (pieces s 0 cuts)
    unfolding all_read
    not_read e = sym (walk_piece all_read s cuts from k w h ∙ rw (sym e, all_read) refl)

    pub read_on : true ≡ is_read (read_alone held_names (part s from (get_or cuts k 0))) → Walk all_read s cuts (get_or cuts k 0) (k + 1)
    unfolding all_read
    read_on e = walk_on all_read s cuts from k w h (rw (sym e, all_read) refl)

-- A BODY ALONE
module _ (s : List ℕ) where
  pub long_alone : 1048576 < length s → false ≡ is_read (read_alone held_names s)
  long_alone h = sym (cases (is_read (read_alone held_names s)) (λ t. absurd (omega (arith, (accepted_fit s t).0.0))) (λ t. t))

  pub ill_alone : false ≡ leb (length s) (well_formed s) → false ≡ is_read (read_alone held_names s)
  ill_alone h = sym (cases (is_read (read_alone held_names s)) (λ t. absurd (omega (arith, (accepted_fit s t).0.1, leb-false (length s) (well_formed s) (sym h)))) (λ t. t))

  -- the check without cuts, if it is read and if it is not
  whole_short : (limit : ℕ) → limit ≡ length s → all_short limit (pieces s 0 []) ≡ true
  unfolding rise
  whole_short limit e = all_short_lem s 0 limit [] zero-le refl (omega arith)

  unread_number : is_read (read_alone held_names s) ≡ false → checked s (length s) [] ≡ 66
  unfolding checked rise pieces all_read
  unread_number t = rw (whole_short (length s) refl, t, checked, rise, pieces, all_read) refl

  read_number : is_read (read_alone held_names s) ≡ true → checked s (length s) [] ≡ 66 → ⊥
  unfolding checked rise pieces all_read
  read_number t e = go (equal (join_all (pieces s 0 [])) (read_alone held_names s)) refl
    where
      go : (x : Bool) → equal (join_all (pieces s 0 [])) (read_alone held_names s) ≡ x → ⊥
      go true x = let z : ◌≡◌ {A = ℕ} 0 66 = rw (whole_short (length s) refl, t, x, checked, rise, pieces, all_read) at e in omega arith
      go false x = let z : ◌≡◌ {A = ℕ} 67 66 = rw (whole_short (length s) refl, t, x, checked, rise, pieces, all_read) at e in omega arith

  once : checked s (length s) [] ≡ checked_once s []
  unfolding rise
  once = checked_once_lem s (length s) [] refl (whole_short (length s) refl)

  pub refused_alone : check_at s 0 [] false ≡ none → false ≡ is_read (read_alone held_names s)
  unfolding checked_once number_of
  refused_alone e = sym (cases (is_read (read_alone held_names s)) (λ t. absurd (read_number t (once ∙ rw (e, checked_once, number_of) refl))) (λ t. t))

  pub passed_alone : length s ≤ 1048576 → leb (length s) (well_formed s) ≡ true → (d : Bool) → check_at s 0 [] false ≡ some d → true ≡ is_read (read_alone held_names s)
  unfolding checked_once number_of rise
  passed_alone l f d e =
      let a = all_short_lem s 0 1048576 [] zero-le refl l in
      let o : checked_once s [] ≡ (if d then 67 else 0) = rw (e, f, a, le-ltb 1048576 (length s) l, checked_once, number_of) (or d) in
      sym (cases (is_read (read_alone held_names s)) (λ t. t) (λ t. absurd (no d (sym o ∙ sym once ∙ unread_number t))))
    where
      or : (d : Bool) → ◌≡◌ {A = ℕ} (if (d || false) then 67 else 0) (if d then 67 else 0)
      or true = refl
      or false = refl

      no : (d : Bool) → ◌≡◌ {A = ℕ} (if d then 67 else 0) 66 → ⊥
      no true e = omega arith
      no false e = omega arith

  -- by what is told of it
  pub told_alone : length s ≤ 1048576 → leb (length s) (well_formed s) ≡ true → (o : Given Bool) → VerdictIs (check_at s 0 [] false) o → is_some o ≡ is_read (read_alone held_names s)
  told_alone l f None e = refused_alone e
  told_alone l f (Some d) e = passed_alone l f d e

-- THE NUMBER
module _ (s : List ℕ) (limit : ℕ) (cuts : List ℕ) where
  pub wrong_offsets_lem : false ≡ rise (length s) 0 cuts → 64 ≡ checked s limit cuts
  unfolding checked
  wrong_offsets_lem e = rw (sym e, checked) refl

  module _ (r : true ≡ rise (length s) 0 cuts) where
    pub piece_long : false ≡ all_short limit (pieces s 0 cuts) → 65 ≡ checked s limit cuts
    unfolding checked
    piece_long e = rw (sym r, sym e, checked) refl

    module _ (a : true ≡ all_short limit (pieces s 0 cuts)) where
      pub a_piece_refused : false ≡ all_read (pieces s 0 cuts) → 66 ≡ checked s limit cuts
      unfolding checked
      a_piece_refused e = rw (sym r, sym a, sym e, checked) refl

      pub longer : 1048576 < length s → true ≡ all_read (pieces s 0 cuts) → 67 ≡ checked s limit cuts
      longer l e = sym (longer_differs s limit cuts (sym r) (sym a) l (sym e))

      once_is : checked s limit cuts ≡ checked_once s cuts
      once_is = checked_once_lem s limit cuts (sym r) (sym a)

      pub ill_formed_lem : false ≡ leb (length s) (well_formed s) → 66 ≡ checked s limit cuts
      unfolding checked_once number_of
      ill_formed_lem f = sym (once_is ∙ go (check_at s 0 cuts false) refl)
        where
          go : (o : Option Bool) → check_at s 0 cuts false ≡ o → checked_once s cuts ≡ 66
          go none e = rw (e, checked_once, number_of) refl
          go (some d) e = rw (e, sym f, checked_once, number_of) refl

      pub refused_once : check_at s 0 cuts false ≡ none → 66 ≡ checked s limit cuts
      unfolding checked_once number_of
      refused_once e = sym (once_is ∙ rw (e, checked_once, number_of) refl)

      pub passed_once : length s ≤ 1048576 → true ≡ leb (length s) (well_formed s) → (d : Bool) → check_at s 0 cuts false ≡ some d → (if d then 67 else 0) ≡ checked s limit cuts
      unfolding checked_once number_of
      passed_once l f d e =
          let b = all_short_lem s 0 1048576 cuts zero-le (sym r) l in
          sym (once_is ∙ rw (e, sym f, b, le-ltb 1048576 (length s) l, checked_once, number_of) (or d))
        where
          or : (d : Bool) → ◌≡◌ {A = ℕ} (if (d || false) then 67 else 0) (if d then 67 else 0)
          or true = refl
          or false = refl
