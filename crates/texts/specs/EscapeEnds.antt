-- Where an escape of a body of kind 1 ends, by the definition's reading of it.
use Rattle.std.specs.Prelude.{ℕ, ◌≤◌, ◌<◌, ◌≡◌, List, length, Result, Ok, Err}
use Rattle.definition.specs.Chars.{next}
use Rattle.definition.specs.Escapes.{held_names, Fault, Read, got, refused, Meaning, escape}
use Rattle.texts.specs.declared.NoEnd.{NoEnd}
use Rattle.texts.specs.declared.NoEnd.TheVariants.{Refused, Nowhere, TooLong}

-- the escape after the character at i
abbrev pub escape_after : List ℕ → ℕ → Read Meaning
escape_after s i = escape held_names 1 s (next s i)

-- for every body and place
abbrev pub EscapeIs : List ℕ → ℕ → Result ℕ NoEnd → Type 0
EscapeIs s i (Ok j) = (length s ≤ 1048576) × (i < length s) × ((m : Meaning) × (escape_after s i ≡ got m j))
EscapeIs s i (Err Refused) = (length s ≤ 1048576) × (i < length s) × ((x : Fault) × (escape_after s i ≡ refused x))
EscapeIs s i (Err Nowhere) = (length s ≤ 1048576) × (length s ≤ i)
EscapeIs s i (Err TooLong) = 1048576 < length s
