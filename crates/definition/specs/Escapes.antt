-- Escapes: what stands after a backslash (parse_escaped_char, parse_octet, parse_unicode_literal, parse_unicode_name).
use Rattle.std.specs.Prelude.{ℕ, zero, suc, ◌+◌, ◌-◌, ◌*◌, ◌%◌, true, false, ◌&&◌, not, List, [], ◌∷◌, ltb, leb, eqb, length, drop, if◌then◌else◌}
use Prim.Native.String.{String}
use Rattle.definition.specs.Numbers.{is_bytes, string_error, unicode_error, non_ascii_in_bytes, name_not_held}
use Rattle.definition.specs.Chars.{ascii, ◌is◌, part, no_code, at_end, ◌to◌, inside, code, next, before, same, utf8}

-- A fault: a refusal's number, the bytes taken at its place, two details, and the bytes taken just after the bracket that it names
pub record Fault : Type 0 where
  pub number : ℕ
  pub taken : ℕ
  pub a : ℕ
  pub b : ℕ
  pub opened : ℕ

-- one without details, and one with the first alone
abbrev pub fault : ℕ → ℕ → Fault
fault number taken = record { number = number; taken = taken; a = 0; b = 0; opened = 0 }

abbrev pub detail : ℕ → ℕ → ℕ → Fault
detail number taken a = record { number = number; taken = taken; a = a; b = 0; opened = 0 }

-- A reading: a value, and the bytes taken once it is read; or a fault
pub data Read (A : Type 0) : Type 0 where
  got : (value : A) (taken : ℕ) → Read A
  refused : (why : Fault) → Read A

-- What an escape stands for: a code; the backslash and the character as they are; nothing
pub data Meaning : Type 0 where
  stands : (code : ℕ) → Meaning
  stays : Meaning
  vanishes : Meaning

-- the value of an octal digit; 8 if the character is none
unfoldable pub octal_digit : ℕ → ℕ
octal_digit c = if inside (48 to 55) c then c - 48 else 8

-- at most n more octal digits, from i on, after digits of the value v
unfoldable pub octal_from : ℕ → ℕ → List ℕ → ℕ → Read Meaning
octal_from zero v s i = got (stands v) i
octal_from (suc n) v s i =
    elim (ltb (octal_digit (code s i)) 8) [
      | true ↦ octal_from n (v * 8 + octal_digit (code s i)) s (next s i)
      | false ↦ got (stands v) i
    ]

-- the value of a hex digit; 16 if the character is none
unfoldable pub hex_digit : ℕ → ℕ
hex_digit c =
    if inside (48 to 57) c then c - 48 else
    if inside (65 to 70) c then c - 55 else
    if inside (97 to 102) c then c - 87 else 16

-- the code that hex digits gave, read up to i: D800 to DFFF give U+FFFD; above 10FFFF is refused after the letter, at `letter`
unfoldable pub scalar : ℕ → ℕ → ℕ → Read Meaning
scalar v i letter =
    if inside (0xD800 to 0xDFFF) v then got (stands 0xFFFD) i else
    if leb v 0x10FFFF then got (stands v) i else refused (fault unicode_error letter)

-- n more hex digits, from i on, after digits of the value v; a missing one is refused after the letter
unfoldable pub hex_from : ℕ → ℕ → List ℕ → ℕ → ℕ → Read Meaning
hex_from zero v s i letter = scalar v i letter
hex_from (suc n) v s i letter =
    elim (ltb (hex_digit (code s i)) 16) [
      | true ↦ hex_from n (v * 16 + hex_digit (code s i)) s (next s i) letter
      | false ↦ refused (fault unicode_error letter)
    ]

-- the held names and their codes
abbrev pub held : List (String × ℕ)
held =
    ("DEGREE SIGN", 0x00B0)
    ∷ ("PLUS-MINUS SIGN", 0x00B1)
    ∷ ("SUPERSCRIPT TWO", 0x00B2)
    ∷ ("MICRO SIGN", 0x00B5)
    ∷ ("MULTIPLICATION SIGN", 0x00D7)
    ∷ ("DIVISION SIGN", 0x00F7)
    ∷ ("GREEK CAPITAL LETTER DELTA", 0x0394)
    ∷ ("GREEK CAPITAL LETTER OMEGA", 0x03A9)
    ∷ ("GREEK SMALL LETTER MU", 0x03BC)
    ∷ ("OHM SIGN", 0x2126)
    ∷ ("INFINITY", 0x221E)
    ∷ ("ALMOST EQUAL TO", 0x2248)
    ∷ ("LESS-THAN OR EQUAL TO", 0x2264)
    ∷ ("GREATER-THAN OR EQUAL TO", 0x2265)
    ∷ []

-- the code of a name in a list; no code if the list doesn't have it
unfoldable pub lookup : List (String × ℕ) → List ℕ → ℕ
lookup [] t = no_code
lookup (h ∷ hs) t = elim (same (ascii h.0) t) [ true ↦ h.1 | false ↦ lookup hs t ]

-- A LOOKUP: the code of each name; no code for what is none
abbrev pub Naming : Type 0
Naming = List ℕ → ℕ

-- that of a reading to which no file of names is lent
abbrev pub held_names : Naming
held_names = lookup held

-- the name of m bytes, from i on: at most 88 bytes long, and one that the lookup has
unfoldable pub named : Naming → List ℕ → ℕ → ℕ → Read Meaning
named look s i m =
    let c = look (part s i (i + m)) in
    if ltb 88 m then refused (fault unicode_error (i + m + 1)) else
    if eqb c no_code then refused (fault name_not_held i) else got (stands c) (i + m + 1)

-- after \N, at i: a name in braces
unfoldable pub unicode_name : Naming → List ℕ → ℕ → Read Meaning
unicode_name look s i =
    let inner = next s i in
    let m = before (λ b. b is "}") (drop inner s) in
    if not (code s i is "{") then refused (fault string_error i) else
    if at_end s (inner + m) then refused (fault string_error (length s)) else named look s inner m

-- What the character after a backslash asks for
pub data EscapeCase : Type 0 where
  ended : EscapeCase  -- the body ends
  simple : (code : ℕ) → EscapeCase
  octal : EscapeCase
  hex : (digits : ℕ) → EscapeCase
  name : EscapeCase
  newline : EscapeCase
  foreign : EscapeCase  -- non-ASCII, in bytes
  other : EscapeCase

-- bytes kinds know no \u \U \N
unfoldable pub escape_case : ℕ → List ℕ → ℕ → EscapeCase
escape_case kind s i =
    let c = code s i in
    let texts = not (is_bytes kind) in
    if at_end s i then ended else
    if c is "\\'\"" then simple c else
    if c is "a" then simple 7 else
    if c is "b" then simple 8 else
    if c is "f" then simple 12 else
    if c is "n" then simple 10 else
    if c is "r" then simple 13 else
    if c is "t" then simple 9 else
    if c is "v" then simple 11 else
    if c is "01234567" then octal else
    if c is "x" then hex 2 else
    if c is "u" && texts then hex 4 else
    if c is "U" && texts then hex 8 else
    if c is "N" && texts then name else
    if c is "\n" then newline else
    if leb 0x80 c && is_bytes kind then foreign else other

-- the escape whose backslash was just taken, at i
unfoldable pub escape : Naming → ℕ → List ℕ → ℕ → Read Meaning
escape look kind s i =
    let after = next s i in
    elim (escape_case kind s i) [
      | ended ↦ refused (fault string_error i)
      | simple c ↦ got (stands c) after
      | octal ↦ octal_from 2 (octal_digit (code s i)) s after
      | hex n ↦ hex_from n 0 s after after
      | name ↦ unicode_name look s after
      | newline ↦ got vanishes after
      | foreign ↦ refused (fault non_ascii_in_bytes after)
      | other ↦ got stays after
    ]

-- the text of a code: in bytes, its low eight bits
unfoldable pub encode : ℕ → ℕ → List ℕ
encode kind c = if is_bytes kind then c % 256 ∷ [] else utf8 c

-- the text of an escape whose backslash stands at i and which was read up to j
unfoldable pub meant : ℕ → List ℕ → ℕ → ℕ → Meaning → List ℕ
meant kind s i j (stands c) = encode kind c
meant kind s i j stays = part s i j
meant kind s i j vanishes = []
