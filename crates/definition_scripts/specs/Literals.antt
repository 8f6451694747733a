-- The adjacent literals of a script from an offset on, and what the list buffer holds afterwards.
use Rattle.std.specs.Prelude.{ℕ, zero, suc, ◌+◌, ◌-◌, ◌*◌, true, false, List, [], ◌∷◌, ltb, leb, length, if◌then◌else◌}
use Rattle.definition.specs.Numbers.{script_too_long, never_closed, newline_in_literal, no_literal, too_little_list_room}
use Rattle.definition.specs.Chars.{◌is◌, byte, at_end}
use Rattle.definition.specs.Entry.{Literal, Refusal, refusal}
use Rattle.definition.specs.Reading.{Outcome, accepts, refuses, last_end, in_front, zeros}
use Rattle.definition_scripts.specs.Opening.{no_kind, opens, quotes, quote_of, flag_of, body_of, quotes_at, breaks_at, is_space, is_sign, line_end}

-- A BODY'S END. A backslash takes the next byte with it, in every kind
pub data BodyCase : Type 0 where
  over takes closes breaks plain : BodyCase

unfoldable pub body_case : List ℕ → (quote flag i : ℕ) → BodyCase
body_case s quote flag i =
    if at_end s i then over else
    if byte s i is "\\" then takes else
    if quotes_at s quote flag i then closes else
    if breaks_at s flag i then breaks else plain

-- where the closing quotes begin, or the number that says why there are none
pub data Closing : Type 0 where
  closed : (at : ℕ) → Closing
  fails : (number : ℕ) → Closing

-- from i on; n bounds the moves
unfoldable pub closing_n : ℕ → List ℕ → (quote flag i : ℕ) → Closing
closing_n zero s quote flag i = fails 0
closing_n (suc n) s quote flag i =
    elim (body_case s quote flag i) [
      | over ↦ fails never_closed
      | takes ↦ closing_n n s quote flag (i + 2)
      | closes ↦ closed i
      | breaks ↦ fails newline_in_literal
      | plain ↦ closing_n n s quote flag (i + 1)
    ]

unfoldable pub closing : List ℕ → (quote flag i : ℕ) → Closing
closing s quote flag i = closing_n (suc (length s)) s quote flag i

-- the literal of a kind and a flag at i, whose body begins at `from`
unfoldable pub closed_at : (kind flag from i : ℕ) → Closing → Outcome Literal
closed_at kind flag from i (fails number) = refuses (refusal number 0 i 0 0)
closed_at kind flag from i (closed j) =
    accepts (record { kind = kind; triple = flag; offset = from; size = j - from; start = i; end = j + quotes flag })

-- the literal that opens at i
unfoldable pub literal_at : List ℕ → ℕ → Outcome Literal
literal_at s i =
    closed_at (opens s i) (flag_of s i) (body_of s i) i (closing s (quote_of s i) (flag_of s i) (body_of s i))

-- WHAT IS PASSED OVER: spaces, tabs, newlines, and comments up to before their newline
pub data BlankCase : Type 0 where
  space comment other : BlankCase

unfoldable pub blank_case : List ℕ → ℕ → BlankCase
blank_case s i = if is_space (byte s i) then space else if is_sign (byte s i) then comment else other

unfoldable pub passed_n : ℕ → List ℕ → ℕ → ℕ
passed_n zero s i = i
passed_n (suc n) s i =
    elim (blank_case s i) [ space ↦ passed_n n s (i + 1) | comment ↦ passed_n n s (line_end s i) | other ↦ i ]

unfoldable pub passed : List ℕ → ℕ → ℕ
passed s i = passed_n (suc (length s)) s i

-- A RUN: its literals, and the first place after them and what was passed over
pub record Run : Type 0 where
  pub literals : List Literal
  pub stop : ℕ

unfoldable pub first_run : Literal → Outcome Run → Outcome Run
first_run l (refuses r) = refuses r
first_run l (accepts x) = accepts (record { literals = l ∷ x.literals; stop = x.stop })

-- from i on
unfoldable pub run_n : ℕ → List ℕ → ℕ → Outcome Run
run_n zero s i = refuses (refusal 0 0 i 0 0)
run_n (suc n) s i =
    elim (leb no_kind (opens s i)) [
      | true ↦ accepts (record { literals = []; stop = i })
      | false ↦ elim (literal_at s i) [ refuses r ↦ refuses r | accepts l ↦ first_run l (run_n n s (passed s l.end)) ]
    ]

unfoldable pub run : List ℕ → ℕ → Outcome Run
run s i = run_n (suc (length s)) s i

-- THE LITERALS FROM AN OFFSET ON, with room for any list
unfoldable pub literals_from : List ℕ → ℕ → Outcome Run
literals_from script offset =
    elim (ltb 1048576 (length script)) [
      | true ↦ refuses (refusal script_too_long 0 0 0 0)
      | false ↦ elim (leb no_kind (opens script offset)) [
        | true ↦ refuses (refusal no_literal 0 offset 0 0)
        | false ↦ run script offset
      ]
    ]

-- the six numbers of each literal, in order
unfoldable pub flat : List Literal → List ℕ
flat [] = []
flat (l ∷ ls) = l.kind ∷ l.triple ∷ l.offset ∷ l.size ∷ l.start ∷ l.end ∷ flat ls

-- A listing: literals with two numbers that are told of them, why there are none, or how many numbers their list needs that a buffer does not hold
pub data Listing : Type 0 where
  lists : (literals : List Literal) (to more : ℕ) → Listing
  refused : (why : Refusal) → Listing
  short : (needed : ℕ) → Listing

-- in a buffer of so many numbers
unfoldable pub fitting : (room : ℕ) → List Literal → (to more : ℕ) → Listing
fitting room ls to more = let needed = 6 * length ls in if ltb room needed then short needed else lists ls to more

-- of a run: where its last literal ends, and where it stopped; 53 is given only if nothing else is
unfoldable pub listed : ℕ → Outcome Run → Listing
listed room (refuses r) = refused r
listed room (accepts x) = fitting room x.literals (last_end 0 x.literals) x.stop

-- what the list buffer holds after a listing
unfoldable pub list_after : Listing → List ℕ → List ℕ
list_after (lists ls to more) buffer = in_front (flat ls) buffer
list_after (refused r) buffer = zeros buffer
list_after (short n) buffer = zeros buffer

-- WHAT A CALL RETURNS AND LEAVES
pub record ListCall : Type 0 where
  pub listing : Listing
  pub list : List ℕ

unfoldable pub list_into : Listing → List ℕ → ListCall
list_into l buffer = record { listing = l; list = list_after l buffer }

unfoldable pub literals_into : (script : List ℕ) (offset : ℕ) (buffer : List ℕ) → ListCall
literals_into script offset buffer = list_into (listed (length buffer) (literals_from script offset)) buffer

-- The numbers of RULES 8.5 and 9.7: 0 first for a list, and with 53 at 9 how many are needed
unfoldable pub list_numbers : Listing → List ℕ
list_numbers (lists ls to more) = 0 ∷ length ls ∷ to ∷ more ∷ []
list_numbers (refused r) = r.number ∷ r.literal ∷ r.place ∷ []
list_numbers (short n) = too_little_list_room ∷ 0 ∷ 0 ∷ 0 ∷ 0 ∷ 0 ∷ 0 ∷ 0 ∷ 0 ∷ n ∷ []
