-- The tables of rows.py: the literals of a script are listed, and its cut begins, as they say, computed. Assumes nothing.
use Prim.Native.Nat.{ℕ}
use mathlib.Core.Path.{◌≡◌, refl}
use mathlib.Core.List.{List, [], ◌∷◌, ◌++◌, map}
use lib.ListN.{length, replicate}
use Rattle.definition.specs.Numbers.{prefix}
use Rattle.definition.specs.Chars.{ascii, before}
use Rattle.definition.specs.Entry.{Literal, refusal}
use Rattle.definition.specs.Reading.{Outcome, accepts, refuses, last_end}
use Rattle.definition.proofs.Computed.ByPython.{given, from}
use Rattle.definition_scripts.specs.Opening.{no_kind, one_letter, two_letters, opens, quotes_of, tripled, quotes_at, apart}
use Rattle.definition_scripts.specs.Literals.{body_case, closing_n, closing, closed_at, literal_at, blank_case, passed_n, passed, Run, first_run, run_n, run, literals_from, fitting, listed, flat, list_after, list_numbers, list_into, literals_into}
use Rattle.definition_scripts.specs.Cut.{begins, cut_case, first_cut, cut_n, cut_from, cut}
use Rattle.definition_scripts.proofs.Computed.LiteralRows.{runs, places, cut_places}

-- the answer's numbers, and a list buffer of just that room
abbrev listing : (script : List ℕ) (room : ℕ) → List (List ℕ)
listing script room = let c = literals_into script 0 (replicate room 9) in list_numbers c.listing ∷ c.list ∷ []

pub runs_listed : map (λ r. listing r.0 (length r.2)) runs ≡ map (λ r. r.1 ∷ r.2 ∷ []) runs
unfolding runs prefix ascii before refusal last_end one_letter two_letters opens quotes_of tripled quotes_at body_case closing_n closing closed_at literal_at blank_case passed_n passed first_run run_n run literals_from fitting listed flat list_after list_numbers list_into literals_into
runs_listed = refl

-- EVERY BYTE OF ASCII IN A PLACE: how many literals a run has, or its refusal's number
unfoldable pub counted : Outcome Run → ℕ
counted (accepts x) = length x.literals
counted (refuses r) = r.number

pub places_listed : map (λ r. map (λ b. counted (literals_from (r.0 ++ b ∷ r.1) 0)) (from 0 128)) places ≡ map (λ r. map (given r.2 r.3) (from 0 128)) places
unfolding places given from counted prefix ascii before refusal one_letter two_letters opens quotes_of tripled quotes_at body_case closing_n closing closed_at literal_at blank_case passed_n passed first_run run_n run literals_from
places_listed = refl

-- the kind of the first literal of a cut
unfoldable pub first_kind : List Literal → ℕ
first_kind [] = no_kind
first_kind (l ∷ ls) = l.kind

pub places_cut : map (λ r. map (λ b. first_kind (cut (r.0 ++ b ∷ r.1)).literals) (from 0 128)) cut_places ≡ map (λ r. map (given r.2 r.3) (from 0 128)) cut_places
unfolding cut_places given from first_kind prefix ascii before refusal one_letter two_letters opens quotes_of tripled quotes_at body_case closing_n closing closed_at literal_at apart begins cut_case first_cut cut_n cut_from cut
places_cut = refl
