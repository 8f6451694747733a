-- THE LITERALS FROM AN OFFSET ON: what every list has, and what every refusal says. Assumes nothing.
use mathlib.Core.Path.{◌≡◌, refl, sym, subst, ◌∙◌, ap}
use mathlib.Core.Bool.{Bool, true, false}
use mathlib.Core.List.{List, [], ◌∷◌, append_assoc}
use mathlib.Core.Option.{Option, none, some}
use Prim.Native.Nat.{ℕ, suc, ◌+◌, ◌*◌, ◌≤◌, ◌<◌}
use native.Mathlib.Nat.{sub_self}
use native.Mathlib.Omega.{arith}
use borrow.Author.Tests.{leb-true, ltb-true, ltb-false, le-ltb}
use lib.Dec.{ltb, leb}
use lib.ListN.{length}
use Rattle.definition.specs.Numbers.{bad_descriptor, script_too_long, no_literal}
use Rattle.definition.specs.Chars.{part}
use Rattle.definition.specs.Entry.{Literal, sixes, one_more, Refusal, refusal, not_empty, not_many, first_bad, bad, all_good, total, not_long, all_utf8, not_mixed, first_of, entry}
use Rattle.definition.specs.Reading.{Outcome, accepts, refuses}
use Rattle.definition_scripts.specs.Opening.{no_kind, opens}
use Rattle.definition_scripts.specs.IsRun.{next_place, Adjacent, IsRun, NoRun, bytes_to}
use Rattle.definition_scripts.specs.Literals.{Run, run, literals_from, flat}
use Rattle.definition_laws.proofs.Moves.Adds.{part_split}
use Rattle.definition_scripts_laws.proofs.Literals.OpeningLaws.{opens_in}
use Rattle.definition_scripts_laws.proofs.Literals.LiteralFound.{literal_lies, literal_good}
use Rattle.definition_scripts_laws.proofs.Literals.RunLaws.{passed_ahead, opens_known, RunAt, run_is, run_found}
use Rattle.definition_scripts_laws.proofs.Literals.LiteralSteps.{from_run}

-- A LIST THAT IS GIVEN IS A RUN
pub record Given (script : List ℕ) (offset : ℕ) (x : Run) : Type 0 where
  pub not_long_lem : length script ≤ 1048576
  pub known : opens script offset ≤ 6
  pub is_run : IsRun script offset x.literals x.stop

-- A REFUSAL of 49 to 52 says what is so
pub data Refused (script : List ℕ) (offset : ℕ) : Refusal → Type 0 where
  too_long : 1048576 < length script → Refused script offset (refusal script_too_long 0 0 0 0)
  none_opens : no_kind ≤ opens script offset → Refused script offset (refusal no_literal 0 offset 0 0)
  never_closes : (r : Refusal) → NoRun script offset r → Refused script offset r

abbrev pub Told : List ℕ → ℕ → Outcome Run → Type 0
Told script offset (accepts x) = Given script offset x
Told script offset (refuses r) = Refused script offset r

-- in every case
pub list_told : (script : List ℕ) (offset : ℕ) → Told script offset (literals_from script offset)
unfolding literals_from run
list_told script offset = go (ltb 1048576 (length script)) (leb no_kind (opens script offset)) refl refl
  where
    ran : length script ≤ 1048576 → opens script offset ≤ 6 → (o : Outcome Run) → RunAt script offset o → Told script offset o
    ran h k (accepts x) p = record { not_long_lem = h; known = k; is_run = p }
    ran h k (refuses r) p = never_closes r p

    go : (t u : Bool) → ltb 1048576 (length script) ≡ t → leb no_kind (opens script offset) ≡ u → Told script offset (literals_from script offset)
    go true u e f = rw (e, literals_from) (too_long (ltb-true 1048576 (length script) e))
    go false true e f = rw (e, f, literals_from) (none_opens (leb-true no_kind (opens script offset) f))
    go false false e f =
        rw (e, f, literals_from)
        (ran (ltb-false 1048576 (length script) e) (opens_known script offset f) (run script offset) (run_is script (suc (length script)) offset (omega arith)))

pub given : (script : List ℕ) (offset : ℕ) (x : Run) → literals_from script offset ≡ accepts x → Given script offset x
given script offset x h = subst (λ (o : Outcome Run). Told script offset o) h (list_told script offset)

-- and what is a run is given
pub list_found : (script : List ℕ) (offset : ℕ) (ls : List Literal) (stop : ℕ) → length script ≤ 1048576 → opens script offset ≤ 6 → IsRun script offset ls stop
    → literals_from script offset ≡ accepts (record { literals = ls; stop = stop })
unfolding run
list_found script offset ls stop h o p = from_run script offset h o ∙ run_found script ls stop (suc (length script)) offset (omega arith) p

-- IT PASSES THE ENTRY CHECKS 1, 2 AND 4
good_from_lem : (s : List ℕ) (ls : List Literal) (stop previous n : ℕ) → previous ≤ next_place ls stop → Adjacent s ls stop → first_bad (bad s) (λ i l. refusal bad_descriptor i 0 0 0) previous n ls ≡ none
unfolding first_bad
good_from_lem s [] stop previous n h p = refl
good_from_lem s (l ∷ ls) stop previous n h p =
    let w = literal_lies s l p.0 in
    rw (literal_good s previous l p.0 h, first_bad)
    (good_from_lem s ls stop l.end (suc n) (passed_ahead s p.1 w.within).0 p.2)

pub sixes_flat : (ls : List Literal) → sixes (flat ls) ≡ some ls
unfolding sixes flat one_more
sixes_flat [] = refl
sixes_flat (l ∷ ls) = rw (sixes_flat ls)

pub flat_length : (ls : List Literal) → length (flat ls) ≡ 6 * length ls
unfolding flat
flat_length [] = refl
flat_length (l ∷ ls) = omega (arith, flat_length ls)

pub record Enters (script : List ℕ) (ls : List Literal) : Type 0 where
  pub check_1 : not_empty ls ≡ none
  pub check_2 : sixes (flat ls) ≡ some ls
  pub check_4 : all_good script ls ≡ none

some_first : (s : List ℕ) (ls : List Literal) (i stop : ℕ) → opens s i ≤ 6 → IsRun s i ls stop → not_empty ls ≡ none
unfolding not_empty
some_first s [] i stop o p = let h = p.ended in absurd (omega (arith, ap (opens s) p.first))
some_first s (l ∷ ls) i stop o p = refl

pub list_enters : (script : List ℕ) (offset : ℕ) (x : Run) → literals_from script offset ≡ accepts x → Enters script x.literals
unfolding all_good
list_enters script offset x h =
    let g = given script offset x h in
    record {
      check_1 = some_first script x.literals offset x.stop g.known g.is_run;
      check_2 = sixes_flat x.literals;
      check_4 = good_from_lem script x.literals x.stop 0 0 (omega arith) g.is_run.adjacent;
    }

-- so only 3, 6 and 7 can still refuse it: the bodies are parts of the script, so 5 cannot
adjacent_ahead : (s : List ℕ) (ls : List Literal) (stop : ℕ) → next_place ls stop ≤ length s → Adjacent s ls stop → (next_place ls stop + total ls ≤ stop) × (stop ≤ length s)
unfolding total
adjacent_ahead s [] stop h p = (omega arith, h)
adjacent_ahead s (l ∷ ls) stop h p =
    let w = literal_lies s l p.0 in
    let b = w.ahead in
    let a = passed_ahead s p.1 w.within in
    let k = adjacent_ahead s ls stop a.1 p.2 in
    (omega arith, k.1)

pub list_entry : (script : List ℕ) (offset : ℕ) (x : Run) → literals_from script offset ≡ accepts x
    → entry script x.literals ≡ first_of (not_many x.literals ∷ all_utf8 script x.literals ∷ not_mixed x.literals ∷ [])
unfolding entry not_long first_of
list_entry script offset x h =
    let g = given script offset x h in
    let e = list_enters script offset x h in
    let o = opens_in script offset g.known in
    let f = g.is_run.first in
    let r = adjacent_ahead script x.literals x.stop (omega arith) g.is_run.adjacent in
    let s = g.not_long_lem in
    rw (e.check_1, e.check_4, le-ltb 1048576 (total x.literals) (omega arith)) (without (not_many x.literals) (all_utf8 script x.literals ∷ not_mixed x.literals ∷ []))
  where
    without : (c : Option Refusal) (cs : List (Option Refusal)) → first_of (c ∷ none ∷ none ∷ cs) ≡ first_of (c ∷ cs)
    without none cs = refl
    without (some r) cs = refl

-- THE LITERALS WITH WHAT WAS PASSED OVER are the script's bytes from the offset to where the run stopped
bytes_to_lem : (s : List ℕ) (ls : List Literal) (stop : ℕ) → next_place ls stop ≤ length s → Adjacent s ls stop → bytes_to s ls stop ≡ part s (next_place ls stop) stop
unfolding bytes_to
bytes_to_lem s [] stop h p = rw (sub_self stop)
bytes_to_lem s (l ∷ ls) stop h p =
    let w = literal_lies s l p.0 in
    let b = w.ahead in
    let a = passed_ahead s p.1 w.within in
    let k = adjacent_ahead s ls stop a.1 p.2 in
    rw (bytes_to_lem s ls stop a.1 p.2, append_assoc, ← part_split s l.end (next_place ls stop) stop a.0 (omega arith))
    (sym (part_split s l.start l.end stop (omega arith) (omega arith)))

pub list_covers : (script : List ℕ) (offset : ℕ) (x : Run) → literals_from script offset ≡ accepts x → bytes_to script x.literals x.stop ≡ part script offset x.stop
list_covers script offset x h =
    let g = given script offset x h in
    let o = opens_in script offset g.known in
    let f = g.is_run.first in
    bytes_to_lem script x.literals x.stop (omega arith) g.is_run.adjacent ∙ ap (λ i. part script i x.stop) f

-- FROM THE SECOND LITERAL'S START ON a run gives the rest of the list
pub list_again : (script : List ℕ) (offset stop : ℕ) (l m : Literal) (ls : List Literal)
    → literals_from script offset ≡ accepts (record { literals = l ∷ m ∷ ls; stop = stop })
    → literals_from script m.start ≡ accepts (record { literals = m ∷ ls; stop = stop })
list_again script offset stop l m ls h =
    let g = given script offset (record { literals = l ∷ m ∷ ls; stop = stop }) h in
    let p = g.is_run in
    let q = p.adjacent.2.0 in
    list_found script m.start (m ∷ ls) stop g.not_long_lem (rw q.opened q.known) (record { first = refl; adjacent = p.adjacent.2; ended = p.ended })
