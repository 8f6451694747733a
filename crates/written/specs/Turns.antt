-- What one record does to the open specs, and what is written at it.
use Rattle.std.specs.Prelude.{ℕ, ◌+◌, ◌-◌, ◌≤◌, ◌≡◌, Bool, false, List, [], ◌∷◌, ◌++◌, eqb, replicate, Option, Some, None, if◌then◌else◌}
use Rattle.definition.specs.Chars.{part}
use Rattle.definition.specs.Records.{Record}
use Rattle.definition_written.specs.Written.{spelled_text, spelled_conversion}
use Rattle.definition_written.specs.Passes.{passed, found}
use Rattle.formed.specs.declared.Head.{Head}
use Rattle.opens.specs.declared.Opens.{Opens}
use Rattle.opens.specs.Opens.{where_of, os_of}

-- a record's words that are looked at
pub record Holds (r : Record) (h : Head) : Type 0 where
  pub kind : h.kind ≡ r.kind
  pub offset : h.offset ≡ r.offset
  pub size : h.size ≡ r.size
  pub mode : h.mode ≡ r.mode
  pub parts : h.parts ≡ r.parts

-- what is written at a record, by how deep it stands before and after
unfoldable pub piece_of : (text : List ℕ) → Record → (before after : ℕ) (late : Bool) → List ℕ
piece_of text r before after b =
    let own = part text r.offset (r.offset + r.size) in
    if eqb r.kind 3 then [] else
    replicate (before - after) 125
    ++ (if eqb r.kind 1 then spelled_text (where_of after b) own else 123 ∷ (own ++ (spelled_conversion r.mode ++ (if eqb r.parts 0 then 125 else 58) ∷ [])))

-- what a record does to the open specs: on with others
pub record Turns (text : List ℕ) (o : Opens) (r : Record) (p : Opens) : Type 0 where
  pub deep : p.depth ≤ 2
  pub on : (rs : List Record) → found text (os_of o) (r ∷ rs) ≡ found text (os_of p) rs
  pub due : r.kind ≡ 2 → p.depth ≤ 1
  pub wrote : (rs : List Record) → passed text (os_of o) (r ∷ rs) ≡ piece_of text r o.depth p.depth p.late ++ passed text (os_of p) rs

-- or none, for what does not read back
abbrev pub TurnsTo : (text : List ℕ) → Opens → Record → Option Opens → Type 0
TurnsTo text o r (Some p) = Turns text o r p
TurnsTo text o r None = (rs : List Record) → found text (os_of o) (r ∷ rs) ≡ false
