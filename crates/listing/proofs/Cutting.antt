-- The rows of a part, written literal by literal. Assumes nothing.
use mathlib.Core.Path.{◌≡◌, refl, sym, subst, ◌∙◌, ap}
use mathlib.Core.List.{List, [], ◌∷◌, ◌++◌, append_assoc, append-nil}
use Prim.Native.Nat.{ℕ, ◌+◌, ◌-◌, ◌*◌, ◌≤◌, ◌<◌}
use native.Mathlib.Omega.{arith}
use lib.ListN.{length, take, length-append, length-take}
use Rattle.definition.specs.Escapes.{Naming}
use Rattle.definition.specs.Entry as d
use Rattle.definition_scripts.specs.IsCut.{Ending, reaches_end, breaks_off, EachLiteral}
use Rattle.definition_scripts.specs.Cut.{Cut, first_cut, cut_from, cut_part}
use Rattle.definition_scripts.specs.Listing.{ListRow, of_refusal, ten_of, own_rows, all_read, broken_row, cut_rows, reached}
use Rattle.definition_scripts_laws.proofs.Cut.CutSteps.{cut_after, cut_after_lem}
use Rattle.definition_scripts_laws.proofs.Cut.PartLaws.{part_cut_is, InPart, in_part}
use Rattle.definition_scripts_laws.proofs.Listing.RowCount.{count_rows}
use Rattle.definition_scripts_laws.proofs.Listing.FewRows.{own_few}
use Rattle.buffers.specs.Over.{over}
use Rattle.found.specs.declared.Literal.{Literal}
use Rattle.found.specs.Found.{literal_of}
use Rattle.alone.specs.Puts.{Puts}
use Rattle.listing.specs.Put.{Bounded, PartIs}
use Rattle.alone.proofs.Written.{puts_none, puts_one, puts_append}

-- rows without those below them
pub count_flat : (look : Naming) → (s : List ℕ) (rs : List ListRow) → count_rows look 1 s rs ≡ length rs
unfolding count_rows
count_flat look s [] = refl
count_flat look s (r ∷ rs) = omega (arith, count_flat look s rs)

all_append : (look : Naming) → (s : List ℕ) (w : ℕ) (ls ms : List d.Literal) → all_read look s w (ls ++ ms) ≡ all_read look s w ls ++ all_read look s w ms
unfolding all_read
all_append look s w [] ms = refl
all_append look s w (l ∷ ls) ms = ap (λ r. own_rows look s w l ++ r) (all_append look s w ls ms) ∙ sym (append_assoc (own_rows look s w l) (all_read look s w ls) (all_read look s w ms))

-- a part of a script that is not too long is not too long
pub short_part : (s : List ℕ) (from end count : ℕ) → Bounded s from end count → 1048576 < length (take end s) → ⊥
short_part s from end count b k = let h = b.not_long_lem in omega (arith, length-take end s)

-- a literal that a cut finds lies in its part
pub found_in : (s : List ℕ) (at end : ℕ) (l : Literal) → at ≤ end → end ≤ length s → cut_from (take end s) at ≡ first_cut (literal_of l) (cut_from (take end s) l.end) → InPart s at end (literal_of l)
unfolding first_cut cut_part
found_in s at end l a h e =
    let q : EachLiteral (InPart s at end) (first_cut (literal_of l) (cut_from (take end s) l.end)).literals = subst (λ (c : Cut). EachLiteral (InPart s at end) c.literals) e (in_part s at end h at (omega arith) (cut_part s at end).literals (cut_part s at end).ending (part_cut_is s at end a h)) in
    q.0

-- A CUT that has come to a place, the rows of the literals before it written
pub record Cutting (look : Naming) (s : List ℕ) (from end w : ℕ) (rows rows' : List ℕ) (count at done literals : ℕ) : Type 0 where
  pub before : List d.Literal
  pub ahead : at ≤ end
  pub same : cut_part s from end ≡ cut_after before (cut_from (take end s) at)
  pub counted : literals ≡ length before
  pub puts : Puts (all_read look s w before) rows rows' count done
  pub few : done + (end - at) ≤ count + (end - from)
  pub fewer : literals + (end - at) ≤ end - from

module _ (look : Naming) (s : List ℕ) (from end w : ℕ) (rows : List ℕ) (count : ℕ) (b : Bounded s from end count) where
  pub cutting_start : Cutting look s from end w rows rows count from count 0
  unfolding cut_part cut_after all_read
  cutting_start = record { before = []; ahead = b.ahead; same = refl; counted = refl; puts = puts_none rows count; few = omega arith; fewer = omega arith }

  module _ (rows' : List ℕ) (at done literals : ℕ) (p : Cutting look s from end w rows rows' count at done literals) where
    abbrev t : List ℕ
    t = take end s

    -- it ends
    module _ (ending : Ending) (e : cut_from t at ≡ record { literals = []; ending = ending }) where
      whole : cut_part s from end ≡ record { literals = p.before; ending = ending }
      unfolding cut_after
      whole = p.same ∙ rw e (ap (λ ls. record { literals = ls; ending = ending }) (append-nil p.before))

      cutting_ends : (rows'' : List ℕ) (n : ℕ) → Puts (broken_row w ending) rows' rows'' done n → PartIs look s from end w rows rows'' count (record { count = n; literals = literals; to = reached end ending })
      unfolding cut_rows
      cutting_ends rows'' n q =
          record {
            puts = rw whole (puts_append (all_read look s w p.before) (broken_row w ending) rows rows' rows'' count done n p.puts q);
            literals = rw whole p.counted;
            to = rw whole refl;
          }

    pub cutting_over : cut_from t at ≡ record { literals = []; ending = reaches_end } → PartIs look s from end w rows rows' count (record { count = done; literals = literals; to = end })
    unfolding broken_row reached
    cutting_over e = cutting_ends reaches_end e rows' done (puts_none rows' done)

    pub cutting_breaks : (number place : ℕ) → cut_from t at ≡ record { literals = []; ending = breaks_off number place } → (rows'' : List ℕ) → rows'' ≡ over rows' (done * 10) (ten_of (of_refusal w place place number 0 0 0))
        → PartIs look s from end w rows rows'' count (record { count = done + 1; literals = literals; to = place })
    unfolding broken_row reached
    cutting_breaks number place e rows'' q = cutting_ends (breaks_off number place) e rows'' (done + 1) (puts_one (of_refusal w place place number 0 0 0) rows' rows'' done q)

    pub cutting_few : (done < 4194304) × (literals < 4194304)
    cutting_few =
        let x = b.few in
        let y = b.within in
        let z = b.not_long_lem in
        let f = p.few in
        let g = p.fewer in
        (omega arith, omega arith)

    -- one literal more
    module _ (l : Literal) (e : cut_from t at ≡ first_cut (literal_of l) (cut_from t l.end)) where
      cut_in : InPart s at end (literal_of l)
      cut_in = found_in s at end l p.ahead b.within e

      pub cutting_less : end - l.end < end - at
      cutting_less = let i = cut_in in omega arith

      pub cutting_next : (rows'' : List ℕ) (n : ℕ) → Puts (own_rows look s w (literal_of l)) rows' rows'' done n → Cutting look s from end w rows rows'' count l.end n (literals + 1)
      unfolding all_read
      cutting_next rows'' n q =
          let i = cut_in in
          let x = i.starts in
          let y = i.ends in
          let k = q.counted in
          let m : length (own_rows look s w (literal_of l)) ≤ l.end - l.start = rw (count_flat look s (own_rows look s w (literal_of l))) at (own_few look 1 s w at end b.within (literal_of l) i) in
          let f = p.few in
          let g = p.fewer in
          record {
            before = p.before ++ literal_of l ∷ [];
            ahead = y;
            same = p.same ∙ ap (cut_after p.before) e ∙ cut_after_lem p.before (literal_of l) (cut_from t l.end);
            counted = omega (arith, p.counted, length-append p.before (literal_of l ∷ []));
            puts = rw (all_append look s w p.before (literal_of l ∷ []), append-nil (own_rows look s w (literal_of l))) (puts_append (all_read look s w p.before) (own_rows look s w (literal_of l)) rows rows' rows'' count done n p.puts q);
            few = omega arith;
            fewer = omega arith;
          }
