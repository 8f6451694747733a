-- What is lent: the literals' descriptors, and the entry checks 1 to 7.
use Rattle.std.specs.Prelude.{ℕ, suc, ◌+◌, Bool, true, false, ◌&&◌, ◌||◌, not, List, [], ◌∷◌, ltb, eqb, length, if◌then◌else◌}
use Rattle.std.proofs.Math.Option.{Option, none, some}
use Rattle.definition.specs.Numbers.{is_bytes, prefix, empty_list, too_many_literals, bad_descriptor, bodies_too_long, not_utf8, mixed_bytes}
use Rattle.definition.specs.Chars.{part, well_formed}

-- A literal: six numbers
pub record Literal : Type 0 where
  pub kind : ℕ
  pub triple : ℕ
  pub offset : ℕ
  pub size : ℕ
  pub start : ℕ
  pub end : ℕ

unfoldable pub one_more : Literal → Option (List Literal) → Option (List Literal)
one_more l none = none
one_more l (some ls) = some (l ∷ ls)

-- flat numbers, six at a time; none if some are left over
unfoldable pub sixes : List ℕ → Option (List Literal)
sixes [] = some []
sixes (a ∷ []) = none
sixes (a ∷ b ∷ []) = none
sixes (a ∷ b ∷ c ∷ []) = none
sixes (a ∷ b ∷ c ∷ d ∷ []) = none
sixes (a ∷ b ∷ c ∷ d ∷ e ∷ []) = none
sixes (a ∷ b ∷ c ∷ d ∷ e ∷ f ∷ ns) = one_more (record { kind = a; triple = b; offset = c; size = d; start = e; end = f }) (sixes ns)

-- the prefix plus 3 quotes if the flag is 1, else 1
unfoldable pub opening : Literal → ℕ
opening l = prefix l.kind + (if eqb l.triple 1 then 3 else 1)

-- the place of so many bytes taken
unfoldable pub place_of : Literal → ℕ → ℕ
place_of l taken = l.start + opening l + taken

unfoldable pub body : List ℕ → Literal → List ℕ
body script l = part script l.offset (l.offset + l.size)

-- A refusal; `literal` is an index from 0, `opened` the place just after the bracket that 23 names; line and column are its place's, in the
-- literal's body; `chars` are the characters that were read
pub record Refusal : Type 0 where
  pub number : ℕ
  pub literal : ℕ
  pub place : ℕ
  pub a : ℕ
  pub b : ℕ
  pub opened : ℕ
  pub line : ℕ
  pub column : ℕ
  pub chars : ℕ

-- one that names no bracket, line or column, before any character is read
unfoldable pub refusal : ℕ → ℕ → ℕ → ℕ → ℕ → Refusal
refusal number literal place a b =
    record { number = number; literal = literal; place = place; a = a; b = b; opened = 0; line = 0; column = 0; chars = 0 }

-- the same, of another literal and after so many characters
unfoldable pub moved : (literal chars : ℕ) → Refusal → Refusal
moved literal chars r =
    record { number = r.number; literal = literal; place = r.place; a = r.a; b = r.b; opened = r.opened; line = r.line; column = r.column; chars = chars }

-- THE ENTRY CHECKS: each gives its refusal, or none. 1
unfoldable pub not_empty : List Literal → Option Refusal
not_empty [] = some (refusal empty_list 0 0 0 0)
not_empty (l ∷ ls) = none

-- 3
unfoldable pub not_many : List Literal → Option Refusal
not_many ls = if ltb 1024 (length ls) then some (refusal too_many_literals 0 0 0 0) else none

-- the refusal of the first literal that a test finds bad, from literal i on; `previous` is the end before it
unfoldable pub first_bad : (ℕ → Literal → Bool) → (ℕ → Literal → Refusal) → ℕ → ℕ → List Literal → Option Refusal
first_bad test why previous i [] = none
first_bad test why previous i (l ∷ ls) =
    elim (test previous l) [ true ↦ some (why i l) | false ↦ first_bad test why l.end (suc i) ls ]

-- unknown kind, flag above 1, body outside the script, start above end, start below the previous end, start + opening + body length above end
unfoldable pub bad : List ℕ → ℕ → Literal → Bool
bad script previous l =
    ltb 6 l.kind
    || ltb 1 l.triple
    || ltb (length script) (l.offset + l.size)
    || ltb l.end l.start
    || ltb l.start previous
    || ltb l.end (place_of l l.size)

-- 4
unfoldable pub all_good : List ℕ → List Literal → Option Refusal
all_good script ls = first_bad (bad script) (λ i l. refusal bad_descriptor i 0 0 0) 0 0 ls

unfoldable pub total : List Literal → ℕ
total [] = 0
total (l ∷ ls) = l.size + total ls

-- 5
unfoldable pub not_long : List Literal → Option Refusal
not_long ls = if ltb 1048576 (total ls) then some (refusal bodies_too_long 0 0 0 0) else none

-- the length of a body's longest well-formed prefix
unfoldable pub formed : List ℕ → Literal → ℕ
formed script l = well_formed (body script l)

unfoldable pub ill_formed : List ℕ → ℕ → Literal → Bool
ill_formed script previous l = ltb (formed script l) (length (body script l))

-- 6
unfoldable pub all_utf8 : List ℕ → List Literal → Option Refusal
all_utf8 script ls = first_bad (ill_formed script) (λ i l. refusal not_utf8 i (place_of l (formed script l)) 0 0) 0 0 ls

unfoldable pub any_of : (ℕ → Bool) → List Literal → Bool
any_of test [] = false
any_of test (l ∷ ls) = test l.kind || any_of test ls

unfoldable pub first_start : List Literal → ℕ
first_start [] = 0
first_start (l ∷ ls) = l.start

-- 7
unfoldable pub not_mixed : List Literal → Option Refusal
not_mixed ls =
    if any_of is_bytes ls && any_of (λ kind. not (is_bytes kind)) ls then some (refusal mixed_bytes 0 (first_start ls) 0 0) else none

unfoldable pub first_of : List (Option Refusal) → Option Refusal
first_of [] = none
first_of (none ∷ cs) = first_of cs
first_of (some r ∷ cs) = some r

-- in that order, each over the whole list before the next (2 is given by flat numbers only)
unfoldable pub entry : List ℕ → List Literal → Option Refusal
entry script ls =
    first_of (not_empty ls ∷ not_many ls ∷ all_good script ls ∷ not_long ls ∷ all_utf8 script ls ∷ not_mixed ls ∷ [])
