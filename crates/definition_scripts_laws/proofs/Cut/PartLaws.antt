-- The cut of a part of a script: its literals lie in the script as those of the script do. Assumes nothing.
use mathlib.Core.Path.{◌≡◌, refl, sym, ◌∙◌, ap}
use mathlib.Core.Bool.{Bool, true, false, ◌&&◌, not, ◌||◌}
use mathlib.Core.List.{List, [], ◌∷◌}
use mathlib.Core.Option.{Option, none, some}
use Prim.Native.Nat.{ℕ, ◌+◌, ◌-◌, ◌≤◌}
use native.Mathlib.Omega.{arith}
use borrow.Author.Tests.{le-ltb}
use lib.ListN.{length, take, drop, length-take, length-drop, take-append-drop}
use lib.Seq.{take-append-le, drop-append-le}
use Rattle.definition.specs.Numbers.{is_bytes}
use Rattle.definition.specs.Chars.{part}
use Rattle.definition.specs.Entry.{Literal, body, Refusal, not_empty, not_many, first_bad, all_good, total, not_long, all_utf8, any_of, not_mixed, first_of, entry}
use Rattle.definition_scripts.specs.IsCut.{Ending, IsCut, EachLiteral}
use Rattle.definition_scripts.specs.Cut.{cut, cut_part}
use Rattle.definition_scripts_laws.proofs.Literals.LiteralFound.{Lies, literal_lies, lies_good}
use Rattle.definition_scripts_laws.proofs.Cut.CutLaws.{Meets, cut_is}

-- A LITERAL ALONE: only check 6 can refuse it
module _ (s : List ℕ) (l : Literal) (w : Lies s l) where
  good_alone : all_good s (l ∷ []) ≡ none
  unfolding all_good first_bad
  good_alone = rw (lies_good s 0 l w (omega arith), first_bad)

  short_alone : length s ≤ 1048576 → not_long (l ∷ []) ≡ none
  unfolding not_long total
  short_alone h = let b = w.body_within in rw (le-ltb 1048576 (total (l ∷ [])) (omega arith))

  one_sort : not_mixed (l ∷ []) ≡ none
  unfolding not_mixed any_of
  one_sort = rw (unmixed (is_bytes l.kind))
    where
      unmixed : (b : Bool) → ((b || false) && (not b || false)) ≡ false
      unmixed true = refl
      unmixed false = refl

  pub lies_alone : length s ≤ 1048576 → entry s (l ∷ []) ≡ all_utf8 s (l ∷ [])
  unfolding entry first_of not_empty not_many
  lies_alone h = rw (good_alone, short_alone h, one_sort) (last (all_utf8 s (l ∷ [])))
    where
      last : (c : Option Refusal) → first_of (c ∷ none ∷ []) ≡ c
      last none = refl
      last (some r) = refl

-- a part of the front of a script is the script's
part_take : (s : List ℕ) (e i j : ℕ) → i ≤ j → j ≤ e → e ≤ length s → part (take e s) i j ≡ part s i j
part_take s e i j h k l =
    let n = length-take e s in
    let a : i ≤ length (take e s) = omega arith in
    let b : j - i ≤ length (drop i (take e s)) = omega (arith, length-drop i (take e s)) in
    sym (ap (λ (x : List ℕ). part x i j) (sym (take-append-drop e s)) ∙ ap (take (j - i)) (drop-append-le i (take e s) (drop e s) a) ∙ take-append-le (j - i) (drop i (take e s)) (drop e s) b)

-- THE LITERALS OF A CUT of the part from `from` up to `end`
module _ (s : List ℕ) (from end : ℕ) where
  pub part_cut_is : from ≤ end → end ≤ length s → Meets (take end s) from (cut_part s from end)
  unfolding cut_part
  part_cut_is h k = cut_is (take end s) from (omega (arith, length-take end s))

  -- lie in the script as literals of its own do, each in that part and with the body that it has there
  pub record InPart (l : Literal) : Type 0 where
    pub starts : from ≤ l.start
    pub ends : l.end ≤ end
    pub lies : Lies s l
    pub same_body : body (take end s) l ≡ body s l

  pub in_part : end ≤ length s → (i : ℕ) → from ≤ i → (ls : List Literal) (e : Ending) → IsCut (take end s) i ls e → EachLiteral InPart ls
  unfolding body
  in_part k i h [] e p = tt
  in_part k i h (l ∷ ls) e p =
      let n = length-take end s in
      let w = literal_lies (take end s) l p.1 in
      let a = w.within in
      let b = w.body_within in
      let c = w.ahead in
      let f = p.0.after in (
        record {
          starts = omega arith;
          ends = omega arith;
          lies = record { known = w.known; flag = w.flag; ahead = c; within = omega arith; body_within = omega arith; room = w.room; begins = w.begins };
          same_body = part_take s end l.offset (l.offset + l.size) (omega arith) (omega arith) k;
        },
        in_part k l.end (omega arith) ls e p.2,
      )

-- of the whole script
take_whole : (s : List ℕ) → take (length s) s ≡ s
take_whole [] = refl
take_whole (b ∷ s) = ap (λ t. b ∷ t) (take_whole s)

pub cut_is_part : (s : List ℕ) → cut s ≡ cut_part s 0 (length s)
unfolding cut cut_part
cut_is_part s = rw (take_whole s)

-- EACH PASSES THE ENTRY CHECKS ALONE, all but 6
pub each_alone_lem : (s : List ℕ) (from end : ℕ) (ls : List Literal) → length s ≤ 1048576 → EachLiteral (InPart s from end) ls → EachLiteral (λ l. entry s (l ∷ []) ≡ all_utf8 s (l ∷ [])) ls
each_alone_lem s from end [] h p = tt
each_alone_lem s from end (l ∷ ls) h p = (lies_alone s l p.0.lies h, each_alone_lem s from end ls h p.1)
