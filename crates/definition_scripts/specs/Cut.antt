-- The cut of a whole script from the front: its literals, and how it ends.
use Rattle.std.specs.Prelude.{ℕ, zero, suc, ◌+◌, Bool, ◌&&◌, not, ◌||◌, List, [], ◌∷◌, leb, eqb, length, take, if◌then◌else◌}
use Rattle.definition.specs.Chars.{byte, at_end}
use Rattle.definition.specs.Entry.{Literal}
use Rattle.definition.specs.Reading.{accepts, refuses}
use Rattle.definition_scripts.specs.Opening.{no_kind, opens, is_sign, first_at, is_line_end, apart}
use Rattle.definition_scripts.specs.IsCut.{Ending, reaches_end, breaks_off}
use Rattle.definition_scripts.specs.Literals.{literal_at}

-- a literal begins at i: a prefix counts only if it stands apart
unfoldable pub begins : List ℕ → ℕ → Bool
begins s i = not (leb no_kind (opens s i)) && (eqb (opens s i) 0 || apart s i)

pub data CutCase : Type 0 where
  over comment literal other : CutCase

unfoldable pub cut_case : List ℕ → ℕ → CutCase
cut_case s i =
    if at_end s i then over else
    if is_sign (byte s i) then comment else
    if begins s i then literal else other

-- where the comment at i ends: before byte 10 or 13
abbrev pub comment_end : List ℕ → ℕ → ℕ
comment_end s i = first_at is_line_end s i

-- A CUT
pub record Cut : Type 0 where
  pub literals : List Literal
  pub ending : Ending

unfoldable pub first_cut : Literal → Cut → Cut
first_cut l c = record { literals = l ∷ c.literals; ending = c.ending }

-- from i on; n bounds the moves
unfoldable pub cut_n : ℕ → List ℕ → ℕ → Cut
cut_n zero s i = record { literals = []; ending = breaks_off 0 i }
cut_n (suc n) s i =
    elim (cut_case s i) [
      | over ↦ record { literals = []; ending = reaches_end }
      | comment ↦ cut_n n s (comment_end s i)
      | literal ↦ elim (literal_at s i) [
        | refuses r ↦ record { literals = []; ending = breaks_off r.number r.place }
        | accepts l ↦ first_cut l (cut_n n s l.end)
      ]
      | other ↦ cut_n n s (i + 1)
    ]

unfoldable pub cut_from : List ℕ → ℕ → Cut
cut_from s i = cut_n (suc (length s)) s i

-- THE CUT OF A SCRIPT
unfoldable pub cut : List ℕ → Cut
cut s = cut_from s 0

-- of its part from i up to `end`, by the script's places: a field's source is cut so
unfoldable pub cut_part : List ℕ → (i end : ℕ) → Cut
cut_part s i end = cut_from (take end s) i
