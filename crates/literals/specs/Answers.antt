-- What the answers say, in the definition's terms, and what a call over a list buffer leaves.
use Rattle.std.specs.Prelude.{ℕ, ◌*◌, ◌≤◌, ◌≡◌, List, [], ◌∷◌, length, ltb, if◌then◌else◌, Result, Ok, Err}
use Rattle.definition.specs.Numbers.{too_little_list_room}
use Rattle.definition.specs.Entry as d
use Rattle.definition_scripts.specs.Literals as s
use Rattle.definition_scripts.specs.Literals.{flat, fitting, ListCall, list_numbers}
use Rattle.buffers.specs.Over.{over}
use Rattle.literals.specs.declared.Listed.{Listed}
use Rattle.found.specs.Found.{refusal_of}
use Rattle.found.specs.declared.Refusal.{Refusal}
use Rattle.literals.specs.declared.Unlisted.{Unlisted}
use Rattle.literals.specs.declared.Unlisted.TheVariants.{Refused, Short}
use Rattle.literals.specs.declared.BlankCase.{BlankCase}
use Rattle.literals.specs.declared.BlankCase.TheVariants.{Space, Comment, Other}

abbrev pub blank_of : BlankCase → s.BlankCase
blank_of Space = s.space
blank_of Comment = s.comment
blank_of Other = s.other

-- Literals that were written from the front of a buffer on, as far as there is room, by what a call tells in any room
pub record Wrote (in_room : ℕ → s.Listing) (buffer buffer' : List ℕ) (x : Listed) : Type 0 where
  pub literals : List d.Literal
  pub tells : (room : ℕ) → in_room room ≡ fitting room literals x.to x.more
  pub counted : x.count ≡ length literals
  pub wrote : buffer' ≡ over buffer 0 (flat literals)

abbrev pub RanIs : (ℕ → s.Listing) → List ℕ → List ℕ → Result Listed Refusal → Type 0
RanIs in_room buffer buffer' (Ok x) = Wrote in_room buffer buffer' x
RanIs in_room buffer buffer' (Err r) = (room : ℕ) → in_room room ≡ s.refused (refusal_of r)

-- not more literals than a script has bytes
abbrev pub Few : Result Listed Refusal → Type 0
Few (Ok x) = x.count ≤ 1048576
Few (Err r) = Unit {0}

-- what a call gives of such a list, by the room that there is
abbrev pub fitted : (room : ℕ) → Result Listed Refusal → Result Listed Unlisted
fitted room (Ok x) = if ltb room (x.count * 6) then Err (Short (x.count * 6)) else Ok x
fitted room (Err r) = Err (Refused r)

-- the numbers of an answer (RULES 8.5)
abbrev pub says : Result Listed Unlisted → List ℕ
says (Ok x) = 0 ∷ x.count ∷ x.to ∷ x.more ∷ []
says (Err (Refused r)) = r.number ∷ 0 ∷ r.place ∷ []
says (Err (Short needed)) = too_little_list_room ∷ 0 ∷ 0 ∷ 0 ∷ 0 ∷ 0 ∷ 0 ∷ 0 ∷ 0 ∷ needed ∷ []

-- a call of the definition: what is answered, and the list buffer afterwards
pub record CallIs (call : ListCall) (list : List ℕ) (r : Result Listed Unlisted) : Type 0 where
  pub answer : says r ≡ list_numbers call.listing
  pub left : list ≡ call.list
