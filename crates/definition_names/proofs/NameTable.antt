-- The index of small files by a table, computed; what is expected comes from a model that was written from the rules alone. Assumes nothing.
use Prim.Native.Nat.{ℕ}
use Prim.Native.String.{String}
use mathlib.Core.Path.{◌≡◌, refl}
use mathlib.Core.List.{List, [], ◌∷◌, ◌++◌, map}
use lib.ListN.{replicate}
use Rattle.definition.specs.Chars.{ascii, same, no_code}
use Rattle.definition.specs.Escapes.{hex_digit}
use Rattle.definition.specs.Entry.{refusal}
use Rattle.definition_names.specs.Names.{parted, hex_value, line_of, entries, has, lookup_in, lookup_of, lookup_file, twice, at_most, insert, by_name, indexed, build, check, index_after, build_into, index_numbers, up_to, name_at, name_of, bound_n, bound, entry_of, scalar_at, searched}

-- lines by their first two fields, of fifteen
unfoldable pub lines : List String → List ℕ
unfolding ascii
lines [] = []
lines (s ∷ ss) = ascii s ++ ascii ";;;;;;;;;;;;;\n" ++ lines ss

unfoldable pub few : List ℕ
few = lines ("0041;B" ∷ "1F4a9;A" ∷ "FFFF;<n>" ∷ "10FFFF;AB" ∷ [])

pub record Asked : Type 0 where
  pub asks : List ℕ × List ℕ
  pub is : List ℕ × List ℕ

infix 3 ◌gives◌left◌
abbrev ◌gives◌left◌ : List ℕ × List ℕ → List ℕ → List ℕ → Asked
asks gives numbers left buffer = record { asks = asks; is = (numbers, buffer) }

-- the answer's numbers and the buffer, which held so many nines; of a check, the answer's numbers
abbrev built : List ℕ → ℕ → List ℕ × List ℕ
built file room = let c = build_into file (replicate room 9) in (index_numbers c.outcome, c.index)

abbrev checked : List ℕ → List ℕ → List ℕ × List ℕ
checked file index = (index_numbers (check file index), [])

pub files : List Asked
files =
    -- an empty file holds no name
    (built [] 1 gives (0 ∷ 0 ∷ []) left (9 ∷ []))
    -- ordered by name, a prefix first; what follows is unchanged
    ∷ (built (lines ("0041;B" ∷ "1F4a9;A" ∷ "10FFFF;AB" ∷ [])) 4 gives (0 ∷ 3 ∷ []) left (20 ∷ 41 ∷ 0 ∷ 9 ∷ []))
    -- a name that begins with `<` is none, whatever its code
    ∷ (built (lines ("D800;<H, First>" ∷ "0030;D" ∷ "FFFFFF;<>" ∷ [])) 2 gives (0 ∷ 1 ∷ []) left (29 ∷ 9 ∷ []))
    -- 60: an unended line, an empty one, fourteen fields and sixteen
    ∷ (built (ascii "0041;B;;;;;;;;;;;;;") 1 gives (60 ∷ []) left (0 ∷ []))
    ∷ (built (ascii "0041;B;;;;;;;;;;;;;\n\n") 1 gives (60 ∷ []) left (0 ∷ []))
    ∷ (built (ascii "0041;B;;;;;;;;;;;;\n") 1 gives (60 ∷ []) left (0 ∷ []))
    ∷ (built (ascii "0041;B;;;;;;;;;;;;;;\n") 1 gives (60 ∷ []) left (0 ∷ []))
    -- three digits and seven, another character, no name
    ∷ (built (lines ("041;B" ∷ [])) 1 gives (60 ∷ []) left (0 ∷ []))
    ∷ (built (lines ("0000041;B" ∷ [])) 1 gives (60 ∷ []) left (0 ∷ []))
    ∷ (built (lines ("004G;B" ∷ [])) 1 gives (60 ∷ []) left (0 ∷ []))
    ∷ (built (lines ("0041;" ∷ [])) 1 gives (60 ∷ []) left (0 ∷ []))
    -- no scalar
    ∷ (built (lines ("DFFF;B" ∷ [])) 1 gives (60 ∷ []) left (0 ∷ []))
    ∷ (built (lines ("110000;B" ∷ [])) 1 gives (60 ∷ []) left (0 ∷ []))
    -- 60 before 61, 61 before 62
    ∷ (built (lines ("0041;B" ∷ "0042;B" ∷ "43;C" ∷ [])) 0 gives (60 ∷ []) left [])
    ∷ (built (lines ("0041;B" ∷ "0042;B" ∷ [])) 1 gives (61 ∷ []) left (0 ∷ []))
    -- 62, and just enough room
    ∷ (built (lines ("0041;B" ∷ "0042;C" ∷ [])) 2 gives (0 ∷ 2 ∷ []) left (0 ∷ 20 ∷ []))
    ∷ (built (lines ("0041;B" ∷ "0042;C" ∷ [])) 1 gives (62 ∷ []) left (0 ∷ []))
    -- the index
    ∷ (checked few (20 ∷ 63 ∷ 0 ∷ []) gives (0 ∷ 3 ∷ []) left [])
    -- two entries swapped, one left out, one twice, a line without a name
    ∷ (checked few (63 ∷ 20 ∷ 0 ∷ []) gives (63 ∷ []) left [])
    ∷ (checked few (20 ∷ 63 ∷ []) gives (63 ∷ []) left [])
    ∷ (checked few (20 ∷ 63 ∷ 0 ∷ 0 ∷ []) gives (63 ∷ []) left [])
    ∷ (checked few (20 ∷ 63 ∷ 38 ∷ []) gives (63 ∷ []) left [])
    -- 60 and 61 before 63
    ∷ (checked (few ++ 10 ∷ []) (20 ∷ 63 ∷ 0 ∷ []) gives (60 ∷ []) left [])
    ∷ (checked (lines ("0041;B" ∷ "0042;B" ∷ [])) [] gives (61 ∷ []) left [])
    ∷ []

pub files_indexed : map (λ r. r.asks) files ≡ map (λ r. r.is) files
unfolding files few lines ascii same hex_digit refusal parted hex_value line_of entries has twice at_most insert by_name indexed build check index_after build_into index_numbers
files_indexed = refl

-- names searched by the index; and by lists that are none
pub found : List ℕ → List (List ℕ) → List ℕ
found index names = map (λ n. searched few index n) names

pub asked : List (List ℕ)
asked = ascii "A" ∷ ascii "AB" ∷ ascii "B" ∷ ascii "ABC" ∷ ascii "" ∷ ascii "<n>" ∷ ascii "B;" ∷ []

pub names_found : found (20 ∷ 63 ∷ 0 ∷ []) asked ≡ 0x1F4A9 ∷ 0x10FFFF ∷ 0x0041 ∷ no_code ∷ no_code ∷ no_code ∷ no_code ∷ []
unfolding found asked few lines ascii same hex_digit hex_value at_most up_to name_at name_of bound_n bound entry_of scalar_at searched
names_found = refl

pub names_held : map (λ n. lookup_file few n) asked ≡ 0x1F4A9 ∷ 0x10FFFF ∷ 0x0041 ∷ no_code ∷ no_code ∷ no_code ∷ no_code ∷ []
unfolding asked few lines ascii same hex_digit parted hex_value line_of entries lookup_in lookup_of
names_held = refl

pub names_missed : found (63 ∷ 20 ∷ 0 ∷ 38 ∷ 900 ∷ []) asked ≡ no_code ∷ no_code ∷ 0x0041 ∷ no_code ∷ no_code ∷ no_code ∷ no_code ∷ []
unfolding found asked few lines ascii same hex_digit hex_value at_most up_to name_at name_of bound_n bound entry_of scalar_at searched
names_missed = refl
