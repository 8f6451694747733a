-- EVERY LITERAL OF A WHOLE SCRIPT: what a call tells of it and leaves. Assumes nothing.
use Rattle.std.specs.Prelude.{if◌then◌else◌}
use mathlib.Core.Path.{◌≡◌, refl, ap}
use mathlib.Core.Bool.{Bool, true, false}
use mathlib.Core.List.{List}
use Prim.Native.Nat.{ℕ, ◌*◌, ◌≤◌, ◌<◌}
use native.Mathlib.Omega.{arith}
use borrow.Author.Tests.{ltb-true, ltb-false, lt-ltb, le-ltb}
use lib.Dec.{ltb, lit≤}
use lib.ListN.{length}
use Rattle.definition.specs.Numbers.{script_too_long}
use Rattle.definition.specs.Entry.{Literal, refusal}
use Rattle.definition.specs.Words.{word}
use Rattle.definition.specs.Left.{Left}
use Rattle.definition_scripts.specs.IsCut.{Ending, IsCut}
use Rattle.definition_scripts.specs.Literals.{Listing, lists, refused, short, fitting, list_into, list_numbers}
use Rattle.definition_scripts.specs.Cut.{Cut, cut}
use Rattle.definition_scripts.specs.Listing.{reached}
use Rattle.definition_scripts.specs.CutList.{ended_by, cut_fitting, cut_listed, cut_into}
use Rattle.definition_scripts_laws.proofs.Literals.ListOne.{Settled, fitting_settled, one_listing, LeavesList, refused_leaves, fitting_leaves}
use Rattle.definition_scripts_laws.proofs.Cut.CutLaws.{Meets, cut_is}
use Rattle.definition_scripts_laws.proofs.Cut.CutOnce.{cut_once}

-- by the length of the script
pub cut_long : (script : List ℕ) (room : ℕ) → 1048576 < length script → cut_listed script room ≡ refused (refusal script_too_long 0 0 0 0)
unfolding cut_listed
cut_long script room h = rw (lt-ltb 1048576 (length script) h, cut_listed)

pub cut_short : (script : List ℕ) (room : ℕ) → length script ≤ 1048576 → cut_listed script room ≡ cut_fitting room (length script) (cut script)
unfolding cut_listed
cut_short script room h = rw (le-ltb 1048576 (length script) h, cut_listed)

-- what holds of 49 and of every list that is made to fit holds of a call
cut_has : (P : Listing → Type 0) (script : List ℕ) (room : ℕ) → (1048576 < length script → P (refused (refusal script_too_long 0 0 0 0)))
    → (length script ≤ 1048576 → P (cut_fitting room (length script) (cut script))) → P (cut_listed script room)
cut_has P script room long fits = go (ltb 1048576 (length script)) refl
  where
    go : (t : Bool) → ltb 1048576 (length script) ≡ t → P (cut_listed script room)
    go true e = let h = ltb-true 1048576 (length script) e in rw (cut_long script room h) (long h)
    go false e = let h = ltb-false 1048576 (length script) e in rw (cut_short script room h) (fits h)

-- WHAT A CALL WITH SO MUCH ROOM TELLS, by what a cut is: that the script is too long, all its literals, or how many numbers they need
pub data Told (script : List ℕ) (room : ℕ) : Listing → Type 0 where
  too_long : 1048576 < length script → Told script room (refused (refusal script_too_long 0 0 0 0))
  is_cut : (ls : List Literal) (e : Ending) → length script ≤ 1048576 → IsCut script 0 ls e → 6 * length ls ≤ room → Told script room (lists ls (reached (length script) e) (ended_by e))
  too_little : (ls : List Literal) (e : Ending) → length script ≤ 1048576 → IsCut script 0 ls e → room < 6 * length ls → Told script room (short (6 * length ls))

pub cut_told : (script : List ℕ) (room : ℕ) → Told script room (cut_listed script room)
unfolding cut_fitting fitting cut
cut_told script room = cut_has (Told script room) script room too_long fits
  where
    go : length script ≤ 1048576 → (c : Cut) → Meets script 0 c → (t : Bool) → ltb room (6 * length c.literals) ≡ t
        → Told script room (if t then short (6 * length c.literals) else lists c.literals (reached (length script) c.ending) (ended_by c.ending))
    go h c p true e = too_little c.literals c.ending h p (ltb-true room (6 * length c.literals) e)
    go h c p false e = is_cut c.literals c.ending h p (ltb-false room (6 * length c.literals) e)

    fits : length script ≤ 1048576 → Told script room (cut_fitting room (length script) (cut script))
    fits h = go h (cut script) (cut_is script 0 (omega arith)) (ltb room (6 * length (cut script).literals)) refl

-- and nothing else is so
pub told_once : (script : List ℕ) (room : ℕ) {x y : Listing} → Told script room x → Told script room y → x ≡ y
told_once script room (too_long h) (too_long k) = refl
told_once script room (too_long h) (is_cut ls e k p f) = absurd (omega arith)
told_once script room (too_long h) (too_little ls e k p f) = absurd (omega arith)
told_once script room (is_cut ls e h p f) (too_long k) = absurd (omega arith)
told_once script room (is_cut ls e h p f) (is_cut ms v k q g) = let o = cut_once script 0 ls ms e v p q in λ i. lists (o.0 i) (reached (length script) (o.1 i)) (ended_by (o.1 i))
told_once script room (is_cut ls e h p f) (too_little ms v k q g) = let o : length ls ≡ length ms = ap length (cut_once script 0 ls ms e v p q).0 in absurd (omega arith)
told_once script room (too_little ls e h p f) (too_long k) = absurd (omega arith)
told_once script room (too_little ls e h p f) (is_cut ms v k q g) = let o : length ls ≡ length ms = ap length (cut_once script 0 ls ms e v p q).0 in absurd (omega arith)
told_once script room (too_little ls e h p f) (too_little ms v k q g) = λ i. short (6 * length ((cut_once script 0 ls ms e v p q).0 i))

-- WHAT IT LEAVES in the list buffer
long_settled : Settled (refused (refusal script_too_long 0 0 0 0))
unfolding refusal
long_settled = (refl, lit≤ tt, lit≤ tt)

pub cut_left : (script buffer : List ℕ) → let c = cut_into script buffer in let ns = list_numbers c.listing in Left (word ns 0) (word ns 1 * 6) buffer c.list
unfolding cut_into list_into cut_fitting
cut_left script buffer = cut_has (LeavesList buffer) script (length buffer) (λ h. refused_leaves buffer _ long_settled) (λ h. fitting_leaves buffer _ _ _)

-- TWO CALLS that return the same numbers and leave the same list have one listing
cut_settled : (script : List ℕ) (room : ℕ) → Settled (cut_listed script room)
unfolding cut_fitting
cut_settled script room = cut_has Settled script room (λ h. long_settled) (λ h. fitting_settled room _ _ _)

pub cut_one : (script buffer script' buffer' : List ℕ) → ((k : ℕ) → word (list_numbers (cut_into script buffer).listing) k ≡ word (list_numbers (cut_into script' buffer').listing) k)
    → (cut_into script buffer).list ≡ (cut_into script' buffer').list → (cut_into script buffer).listing ≡ (cut_into script' buffer').listing
unfolding cut_into list_into
cut_one script buffer script' buffer' n l =
    one_listing (cut_listed script (length buffer)) (cut_listed script' (length buffer')) buffer buffer' (cut_settled script (length buffer)) (cut_settled script' (length buffer')) n l
