-- EVERY LITERAL OF A WHOLE SCRIPT, listed, and what the list buffer holds afterwards.
use Rattle.std.specs.Prelude.{ℕ, true, false, List, ltb, length}
use Rattle.definition.specs.Numbers.{script_too_long}
use Rattle.definition.specs.Entry.{refusal}
use Rattle.definition_scripts.specs.IsCut.{Ending, reaches_end, breaks_off}
use Rattle.definition_scripts.specs.Literals.{Listing, refused, fitting, ListCall, list_into}
use Rattle.definition_scripts.specs.Cut.{Cut, cut}
use Rattle.definition_scripts.specs.Listing.{reached}

-- the number that a cut ends with: its 50 or 51, or 0
unfoldable pub ended_by : Ending → ℕ
ended_by reaches_end = 0
ended_by (breaks_off number place) = number

-- a cut of a script of so many bytes: how far it went, and the number that it ends with
unfoldable pub cut_fitting : (room end : ℕ) → Cut → Listing
cut_fitting room end c = fitting room c.literals (reached end c.ending) (ended_by c.ending)

-- in a buffer of so many numbers
unfoldable pub cut_listed : (script : List ℕ) (room : ℕ) → Listing
cut_listed s room =
    elim (ltb 1048576 (length s)) [
      | true ↦ refused (refusal script_too_long 0 0 0 0)
      | false ↦ cut_fitting room (length s) (cut s)
    ]

-- WHAT A CALL RETURNS AND LEAVES; its numbers are those of a listing
unfoldable pub cut_into : (script buffer : List ℕ) → ListCall
cut_into s buffer = list_into (cut_listed s (length buffer)) buffer
