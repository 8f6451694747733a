-- THE LIMIT OF A SCRIPT: one byte more than 1,048,576 is 49, and nothing else is told. Assumes nothing.
use mathlib.Core.Path.{◌≡◌}
use mathlib.Core.List.{List, [], ◌∷◌}
use Prim.Native.Nat.{ℕ, ◌<◌}
use lib.ListN.{length}
use Rattle.definition.specs.Escapes.{Naming}
use Rattle.definition.specs.Entry.{refusal}
use Rattle.definition_scripts.specs.Literals.{listed, list_numbers, list_into, literals_into}
use Rattle.definition_scripts.specs.CutList.{cut_into}
use Rattle.definition_scripts.specs.Listing.{fields_call, fields_into, fields_numbers}
use Rattle.definition_scripts_laws.proofs.Literals.LiteralSteps.{from_long}
use Rattle.definition_scripts_laws.proofs.Cut.CutListLaws.{cut_long}
use Rattle.definition_scripts_laws.proofs.Listing.ListingSteps.{fields_long}

module _ (script buffer : List ℕ) (h : 1048576 < length script) where
  pub literals_numbered : (offset : ℕ) → list_numbers (literals_into script offset buffer).listing ≡ 49 ∷ 0 ∷ 0 ∷ []
  unfolding literals_into list_into listed list_numbers refusal
  literals_numbered offset = rw (from_long script offset h)

  pub cut_numbered : list_numbers (cut_into script buffer).listing ≡ 49 ∷ 0 ∷ 0 ∷ []
  unfolding cut_into list_into list_numbers refusal
  cut_numbered = rw (cut_long script (length buffer) h)

  pub fields_numbered : (look : Naming) → fields_numbers (fields_into look script buffer).listed ≡ 49 ∷ []
  unfolding fields_into fields_call fields_numbers
  fields_numbered look = rw (fields_long look script (length buffer) h)
