-- What a literal and a refusal are in the definition's terms, what stands at a place, and what a cut has next.
use Rattle.std.specs.Prelude.{ℕ, ◌≤◌, ◌<◌, ◌≡◌, List, [], ◌∷◌, length, Option, Some, None, Result, Ok, Err}
use Rattle.definition.specs.Numbers.{script_too_long}
use Rattle.definition.specs.Entry as d
use Rattle.definition.specs.Entry.{refusal}
use Rattle.definition.specs.Reading.{Outcome, accepts, refuses}
use Rattle.definition_scripts.specs.Opening.{no_kind, opens}
use Rattle.definition_scripts.specs.Literals.{literal_at}
use Rattle.definition_scripts.specs.IsCut.{reaches_end, breaks_off}
use Rattle.definition_scripts.specs.Cut.{cut_from, first_cut}
use Rattle.found.specs.declared.Literal.{Literal}
use Rattle.found.specs.declared.Refusal.{Refusal}
use Rattle.found.specs.declared.Broken.{Broken}
use Rattle.found.specs.declared.Broken.TheVariants as broken

-- a literal of a kind opens there, in a script that is not too long
pub record Within (script : List ℕ) (at kind : ℕ) : Type 0 where
  pub not_long_lem : length script ≤ 1048576
  pub is_kind : kind ≡ opens script at
  pub known : kind ≤ 6

abbrev pub literal_of : Literal → d.Literal
literal_of l = record { kind = l.kind; triple = l.triple; offset = l.offset; size = l.size; start = l.start; end = l.end }

abbrev pub refusal_of : Refusal → d.Refusal
refusal_of r = refusal r.number 0 r.place 0 0

abbrev pub found_of : Result Literal Refusal → Outcome d.Literal
found_of (Ok l) = accepts (literal_of l)
found_of (Err r) = refuses (refusal_of r)

-- the refusal of what broke: of a script that is too long 49, at its front
abbrev pub refused_by : Broken → Refusal
refused_by (broken.Literal r) = r
refused_by broken.TooLong = record { number = script_too_long; place = 0 }

-- a literal's six numbers
abbrev pub numbers_of : Literal → List ℕ
numbers_of l = l.kind ∷ l.triple ∷ l.offset ∷ l.size ∷ l.start ∷ l.end ∷ []

-- what opens at a place of a script that is not too long
abbrev pub HereIs : List ℕ → ℕ → Result (Option Literal) Broken → Type 0
HereIs s at (Ok (Some l)) = (length s ≤ 1048576) × (opens s at ≤ 6) × (accepts (literal_of l) ≡ literal_at s at)
HereIs s at (Err (broken.Literal r)) = (length s ≤ 1048576) × (opens s at ≤ 6) × (refuses (refusal_of r) ≡ literal_at s at)
HereIs s at (Ok None) = (length s ≤ 1048576) × (no_kind ≤ opens s at)
HereIs s at (Err broken.TooLong) = 1048576 < length s

-- what the cut from a place on has next, in a script that is not too long
abbrev pub NextIs : List ℕ → ℕ → Result (Option Literal) Broken → Type 0
NextIs s from (Ok (Some l)) = (length s ≤ 1048576) × (cut_from s from ≡ first_cut (literal_of l) (cut_from s l.end))
NextIs s from (Err (broken.Literal r)) = (length s ≤ 1048576) × (cut_from s from ≡ record { literals = []; ending = breaks_off r.number r.place })
NextIs s from (Ok None) = (length s ≤ 1048576) × (cut_from s from ≡ record { literals = []; ending = reaches_end })
NextIs s from (Err broken.TooLong) = 1048576 < length s
