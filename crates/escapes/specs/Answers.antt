-- What an answer says, in the definition's terms.
use Rattle.std.specs.Prelude.{ℕ, List, [], ◌∷◌}
use Rattle.definition.specs.Escapes.{fault, Read, got, refused, Meaning, stands, stays, vanishes, Naming, held_names}
use Rattle.definition_names.specs.Names.{searched}
use Rattle.names.specs.declared.Names.{Names}
use Rattle.escapes.specs.declared.Escaped.{Escaped}
use Rattle.escapes.specs.declared.Escaped.TheVariants.{Code, Kept, Gone, Refused}

-- a code, the character kept, or nothing, and the bytes taken; or a refusal, with no details
abbrev pub says : Escaped → Read Meaning
says (Code c k) = got (stands c) k.at
says (Kept k) = got stays k.at
says (Gone k) = got vanishes k.at
says (Refused r) = refused (fault r.number r.at)

-- the lookup of a reading: by a search of a lent file; where that is empty, among the held names
unfoldable pub names_by : (file index : List ℕ) → Naming
names_by [] index = held_names
names_by (b ∷ file) index = searched (b ∷ file) index

-- the naming of a lent file with its index
abbrev pub naming : Names → Naming
naming n = names_by n.file.now n.index.now
