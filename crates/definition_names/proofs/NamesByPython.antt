-- The tables of rows.py: names are found with their codes, and codes are taken, as they say, computed. Assumes nothing.
use Prim.Native.Nat.{ℕ}
use mathlib.Core.Path.{◌≡◌, refl}
use mathlib.Core.List.{List, [], ◌∷◌, ◌++◌, map}
use lib.ListN.{length, replicate}
use Rattle.definition.specs.Chars.{ascii, same}
use Rattle.definition.specs.Escapes.{hex_digit}
use Rattle.definition.specs.Entry.{refusal}
use Rattle.definition_names.specs.Names.{parted, hex_value, line_of, entries, has, lookup_in, lookup_of, lookup_file, twice, at_most, insert, by_name, indexed, build, index_after, build_into, index_numbers, up_to, name_at, name_of, bound_n, bound, entry_of, scalar_at, searched}
use Rattle.definition_names.proofs.NameRows.{file_rows, asked_rows, code_rows}

-- lines by their first two fields, of fifteen
unfoldable pub file : List (List ℕ) → List ℕ
unfolding ascii
file [] = []
file (l ∷ ls) = l ++ ascii ";;;;;;;;;;;;;\n" ++ file ls

-- each name has its code in the file
pub codes_held : map (λ r. lookup_file (file file_rows) r.0) asked_rows ≡ map (λ r. r.1) asked_rows
unfolding file_rows asked_rows file ascii same hex_digit parted hex_value line_of entries lookup_in lookup_of
codes_held = refl

-- and is found with it by the index that is built
pub codes_found : map (λ r. searched (file file_rows) (build_into (file file_rows) (replicate (length file_rows) 9)).index r.0) asked_rows ≡ map (λ r. r.1) asked_rows
unfolding file_rows asked_rows file ascii same hex_digit refusal parted hex_value line_of entries has twice at_most insert by_name indexed build index_after build_into up_to name_at name_of bound_n bound entry_of scalar_at searched
codes_found = refl

-- a line alone gets these numbers
pub codes_taken : map (λ r. index_numbers (build (file (r.0 ∷ [])) 1)) code_rows ≡ map (λ r. r.1) code_rows
unfolding code_rows file ascii same hex_digit refusal parted hex_value line_of entries has twice at_most insert by_name indexed build index_numbers
codes_taken = refl
