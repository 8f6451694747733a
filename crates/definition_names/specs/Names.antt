-- A lent file of names, as Unicode publishes UnicodeData.txt: its lines, its index, and names looked up.
use Rattle.std.specs.Prelude.{ℕ, zero, suc, ◌+◌, ◌-◌, ◌*◌, ◌/◌, Bool, true, false, ◌&&◌, ◌||◌, not, List, [], ◌∷◌, map, ltb, leb, eqb, length, get_or, drop, if◌then◌else◌}
use Rattle.std.proofs.Math.Option.{Option, none, some}
use Rattle.definition.specs.Numbers.{line_malformed, name_twice, too_little_index_room, wrong_index}
use Rattle.definition.specs.Chars.{byte, no_code, ◌to◌, inside, same}
use Rattle.definition.specs.Escapes.{hex_digit}
use Rattle.definition.specs.Entry.{refusal}
use Rattle.definition.specs.Reading.{Outcome, accepts, refuses, in_front, zeros}

-- THE PIECES of a text that a byte parts, one more than there are such bytes
abbrev pub on_first : ℕ → List (List ℕ) → List (List ℕ)
on_first x [] = []
on_first x (p ∷ ps) = (x ∷ p) ∷ ps

unfoldable pub parted : ℕ → List ℕ → List (List ℕ)
parted b [] = [] ∷ []
parted b (x ∷ s) = let ps = parted b s in if eqb x b then [] ∷ ps else on_first x ps

-- past every value of six hex digits
abbrev pub no_value : ℕ
no_value = 0x1000000

-- the value of hex digits after digits of the value v; no value if a byte is none of them, or there are too many
unfoldable pub hex_value : ℕ → List ℕ → ℕ
hex_value v [] = v
hex_value v (d ∷ ds) = if leb 16 (hex_digit d) then no_value else if leb 0x100000 v then no_value else hex_value (v * 16 + hex_digit d) ds

abbrev pub is_scalar : ℕ → Bool
is_scalar c = ltb c 0xD800 || (leb 0xE000 c && ltb c no_code)

-- A LINE: malformed, one without a name, or a name and its code
pub data Line : Type 0 where
  malformed : Line
  nameless : Line
  names : (name : List ℕ) (code : ℕ) → Line

-- by its second field and the value of its first: a name that begins with `<` is none
abbrev pub name_line : List ℕ → ℕ → Line
name_line [] v = malformed
name_line (x ∷ s) v = if eqb x 60 then nameless else if is_scalar v then names (x ∷ s) v else malformed

-- fifteen fields parted by `;`, the first of four to six hex digits
unfoldable pub line_of : List ℕ → Line
line_of l =
    let fields = parted 59 l in
    let digits = get_or fields 0 [] in
    let v = hex_value 0 digits in
    if eqb (length fields) 15 && inside (4 to 6) (length digits) && not (eqb v no_value)
    then name_line (get_or fields 1 []) v else malformed

-- A NAME with its code and the offset of its line
pub record Entry : Type 0 where
  pub at : ℕ
  pub name : List ℕ
  pub code : ℕ

abbrev pub with_line : ℕ → Line → Option (List Entry) → Option (List Entry)
with_line at malformed es = none
with_line at nameless es = es
with_line at (names n c) none = none
with_line at (names n c) (some es) = some (record { at = at; name = n; code = c } ∷ es)

-- those of the pieces that byte 10 parts, the first of which begins at `at`: none if a line is malformed, or the last one is not ended
unfoldable pub entries : ℕ → List (List ℕ) → Option (List Entry)
entries at [] = none
entries at ([] ∷ []) = some []
entries at ((x ∷ l) ∷ []) = none
entries at (l ∷ m ∷ ls) = with_line at (line_of l) (entries (at + length l + 1) (m ∷ ls))

-- THE NAMES OF A FILE, and those from an offset on
abbrev pub named_from : List ℕ → ℕ → Option (List Entry)
named_from file p = entries p (parted 10 (drop p file))

abbrev pub named : List ℕ → Option (List Entry)
named file = named_from file 0

-- a name among entries, and its code
unfoldable pub has : List Entry → List ℕ → Bool
has [] n = false
has (e ∷ es) n = same e.name n || has es n

unfoldable pub lookup_in : List Entry → List ℕ → ℕ
lookup_in [] n = no_code
lookup_in (e ∷ es) n = if same e.name n then e.code else lookup_in es n

-- THE CODE OF A NAME; no code if the file doesn't have it
unfoldable pub lookup_of : Option (List Entry) → List ℕ → ℕ
lookup_of none n = no_code
lookup_of (some es) n = lookup_in es n

abbrev pub lookup_file : (file name : List ℕ) → ℕ
lookup_file file name = lookup_of (named file) name

-- a name stands twice
unfoldable pub twice : List Entry → Bool
twice [] = false
twice (e ∷ es) = has es e.name || twice es

-- a name stands before another or is it: byte for byte, a prefix first
unfoldable pub at_most : List ℕ → List ℕ → Bool
at_most [] b = true
at_most (x ∷ a) [] = false
at_most (x ∷ a) (y ∷ b) = if ltb x y then true else if ltb y x then false else at_most a b

unfoldable pub insert : Entry → List Entry → List Entry
insert e [] = e ∷ []
insert e (f ∷ es) = if at_most e.name f.name then e ∷ f ∷ es else f ∷ insert e es

unfoldable pub by_name : List Entry → List Entry
by_name [] = []
by_name (e ∷ es) = insert e (by_name es)

-- THE INDEX of entries: their offsets, ordered by name
abbrev pub at : Entry → ℕ
at e = e.at

abbrev pub index_of : List Entry → List ℕ
index_of es = map at (by_name es)

-- a refusal: its number alone
abbrev pub refuse : ℕ → Outcome (List ℕ)
refuse number = refuses (refusal number 0 0 0 0)

-- of a file's names, or the file's refusal
unfoldable pub indexed : Option (List Entry) → Outcome (List ℕ)
indexed none = refuse line_malformed
indexed (some es) = if twice es then refuse name_twice else accepts (index_of es)

-- offsets of 32 bits don't reach every byte
abbrev pub too_long : List ℕ → Bool
too_long file = leb 0x100000000 (length file)

abbrev pub in_room : ℕ → Outcome (List ℕ) → Outcome (List ℕ)
in_room room (refuses r) = refuses r
in_room room (accepts l) = if ltb room (length l) then refuse too_little_index_room else accepts l

abbrev pub against : List ℕ → Outcome (List ℕ) → Outcome (List ℕ)
against l (refuses r) = refuses r
against l (accepts m) = if same l m then accepts m else refuse wrong_index

-- AN INDEX BUILT in so much room, and a lent one checked
unfoldable pub build : (file : List ℕ) (room : ℕ) → Outcome (List ℕ)
build file room = if too_long file then refuse too_little_index_room else in_room room (indexed (named file))

unfoldable pub check : (file index : List ℕ) → Outcome (List ℕ)
check file index = if too_long file then refuse wrong_index else against index (indexed (named file))

-- WHAT A CALL THAT BUILDS RETURNS AND LEAVES
pub record BuildCall : Type 0 where
  pub outcome : Outcome (List ℕ)
  pub index : List ℕ

unfoldable pub index_after : Outcome (List ℕ) → List ℕ → List ℕ
index_after (accepts l) buffer = in_front l buffer
index_after (refuses r) buffer = zeros buffer

unfoldable pub build_into : (file buffer : List ℕ) → BuildCall
build_into file buffer =
    let o = build file (length buffer) in
    record { outcome = o; index = index_after o buffer }

-- The paper's numbers: 0 and how many entries there are, or a refusal's
unfoldable pub index_numbers : Outcome (List ℕ) → List ℕ
index_numbers (accepts l) = 0 ∷ length l ∷ []
index_numbers (refuses r) = r.number ∷ []

-- A NAME SEARCHED by any list of offsets. The bytes up to the first b, and up to the first `;`
unfoldable pub up_to : ℕ → List ℕ → List ℕ
up_to b [] = []
up_to b (x ∷ s) = if eqb x b then [] else x ∷ up_to b s

abbrev pub first_field : List ℕ → List ℕ
first_field s = up_to 59 s

-- where the name of the line at p begins: after four to six digits and a `;`
unfoldable pub name_at : List ℕ → ℕ → ℕ
name_at file p =
    if eqb (byte file (p + 4)) 59 then p + 5 else
    if eqb (byte file (p + 5)) 59 then p + 6 else p + 7

-- the name of the line at p, and its code
unfoldable pub name_of : List ℕ → ℕ → List ℕ
name_of file p = first_field (drop (name_at file p) file)

abbrev pub code_at : List ℕ → ℕ → ℕ
code_at file p = hex_value 0 (first_field (drop p file))

-- the first entry from `low` up to `high` whose name does not come before a name, found by halves; n bounds the steps
unfoldable pub bound_n : ℕ → (file index name : List ℕ) (low high : ℕ) → ℕ
bound_n zero file index name low high = low
bound_n (suc n) file index name low high =
    let mid = low + (high - low) / 2 in
    elim (ltb low high) [
      | false ↦ low
      | true ↦ elim (at_most name (name_of file (get_or index mid 0))) [
        | true ↦ bound_n n file index name low mid
        | false ↦ bound_n n file index name (mid + 1) high
      ]
    ]

unfoldable pub bound : (file index name : List ℕ) → ℕ
bound file index name = bound_n (suc (length index)) file index name 0 (length index)

-- the entry that has the name; the number of entries if it is not found
unfoldable pub entry_of : (file index name : List ℕ) → ℕ
entry_of file index name =
    let k = bound file index name in
    if ltb k (length index) && same (name_of file (get_or index k 0)) name then k else length index

-- the code of the line at p, if it is a scalar
unfoldable pub scalar_at : List ℕ → ℕ → ℕ
scalar_at file p = if is_scalar (code_at file p) then code_at file p else no_code

unfoldable pub searched : (file index name : List ℕ) → ℕ
searched file index name =
    let k = entry_of file index name in
    if ltb k (length index) then scalar_at file (get_or index k 0) else no_code
