-- Numbers by their names: the kinds of a literal (RULES 2.2), and what a refusal returns (RULES 11).
use Rattle.std.specs.Prelude.{ℕ, Bool, true, false, ◌&&◌, ◌||◌, List, [], ◌∷◌, leb, eqb, get_or, if◌then◌else◌}
use Rattle.definition.specs.Chars.{◌is◌, ◌to◌, inside}

-- Kinds: 0 String, 1 FString, 2 Bytes, 3 RawString, 4 RawFString, 5 RawBytes, 6 Unicode
abbrev pub is_fstring : ℕ → Bool
is_fstring kind = eqb kind 1 || eqb kind 4

abbrev pub is_bytes : ℕ → Bool
is_bytes kind = eqb kind 2 || eqb kind 5

abbrev pub is_raw : ℕ → Bool
is_raw kind = leb 3 kind && leb kind 5

abbrev pub is_unicode : ℕ → Bool
is_unicode kind = eqb kind 6

-- the length of a kind's prefix
unfoldable pub prefix : ℕ → ℕ
prefix kind = get_or (0 ∷ 1 ∷ 1 ∷ 1 ∷ 2 ∷ 2 ∷ 1 ∷ []) kind 0

-- Refusals
abbrev pub empty_list : ℕ
empty_list = 1

abbrev pub not_sixes : ℕ
not_sixes = 2

abbrev pub too_many_literals : ℕ
too_many_literals = 3

abbrev pub bad_descriptor : ℕ
bad_descriptor = 4

abbrev pub bodies_too_long : ℕ
bodies_too_long = 5

abbrev pub not_utf8 : ℕ
not_utf8 = 6

abbrev pub mixed_bytes : ℕ
mixed_bytes = 7

abbrev pub string_error : ℕ
string_error = 10

abbrev pub unicode_error : ℕ
unicode_error = 11

abbrev pub non_ascii_in_bytes : ℕ
non_ascii_in_bytes = 12

abbrev pub name_not_held : ℕ
name_not_held = 13

abbrev pub unclosed_lbrace : ℕ
unclosed_lbrace = 20

abbrev pub invalid_conversion_flag : ℕ
invalid_conversion_flag = 21

abbrev pub empty_expression : ℕ
empty_expression = 22

abbrev pub mismatched_delimiter : ℕ
mismatched_delimiter = 23

abbrev pub expression_nested_too_deeply : ℕ
expression_nested_too_deeply = 24

abbrev pub single_rbrace : ℕ
single_rbrace = 25

abbrev pub unmatched : ℕ
unmatched = 26

abbrev pub unterminated_string : ℕ
unterminated_string = 27

abbrev pub too_many_brackets : ℕ
too_many_brackets = 28

abbrev pub too_few_record_places : ℕ
too_few_record_places = 30

abbrev pub too_little_text_room : ℕ
too_little_text_room = 31

-- of the literals from an offset on
abbrev pub script_too_long : ℕ
script_too_long = 49

abbrev pub never_closed : ℕ
never_closed = 50

abbrev pub newline_in_literal : ℕ
newline_in_literal = 51

abbrev pub no_literal : ℕ
no_literal = 52

abbrev pub too_little_list_room : ℕ
too_little_list_room = 53

-- of a body written back
abbrev pub not_writable : ℕ
not_writable = 54

abbrev pub not_read_back : ℕ
not_read_back = 55

abbrev pub too_little_body_room : ℕ
too_little_body_room = 56

-- of two revisions compared
abbrev pub first_ill_formed : ℕ
first_ill_formed = 57

abbrev pub second_ill_formed : ℕ
second_ill_formed = 58

abbrev pub too_little_middle_room : ℕ
too_little_middle_room = 59

-- of a lent file of names and its index
abbrev pub line_malformed : ℕ
line_malformed = 60

abbrev pub name_twice : ℕ
name_twice = 61

abbrev pub too_little_index_room : ℕ
too_little_index_room = 62

abbrev pub wrong_index : ℕ
wrong_index = 63

-- of cuts in a body, and of a plan's list
abbrev pub wrong_offsets : ℕ
wrong_offsets = 64

abbrev pub piece_too_long : ℕ
piece_too_long = 65

abbrev pub piece_refused : ℕ
piece_refused = 66

abbrev pub readings_differ : ℕ
readings_differ = 67

-- of a trace replayed through a template
abbrev pub not_of_grammar : ℕ
not_of_grammar = 68

abbrev pub outside_set : ℕ
outside_set = 69

abbrev pub row_malformed : ℕ
row_malformed = 70

abbrev pub wrong_columns : ℕ
wrong_columns = 71

abbrev pub out_of_range : ℕ
out_of_range = 72

abbrev pub too_little_line_room : ℕ
too_little_line_room = 73

abbrev pub too_little_cut_room : ℕ
too_little_cut_room = 74

-- of every field of a script: a number of our own, where Python reads otherwise
abbrev pub read_otherwise : ℕ
read_otherwise = 75

-- of every literal of a script, another: a word before it that Python 3.11 does not let stand there
abbrev pub unknown_prefix : ℕ
unknown_prefix = 76

-- those of a reading, in the table's order
abbrev pub refusals : List ℕ
refusals =
    empty_list
    ∷ not_sixes
    ∷ too_many_literals
    ∷ bad_descriptor
    ∷ bodies_too_long
    ∷ not_utf8
    ∷ mixed_bytes
    ∷ string_error
    ∷ unicode_error
    ∷ non_ascii_in_bytes
    ∷ name_not_held
    ∷ unclosed_lbrace
    ∷ invalid_conversion_flag
    ∷ empty_expression
    ∷ mismatched_delimiter
    ∷ expression_nested_too_deeply
    ∷ single_rbrace
    ∷ unmatched
    ∷ unterminated_string
    ∷ too_many_brackets
    ∷ too_few_record_places
    ∷ too_little_text_room
    ∷ []

-- Why a brace counts as unclosed, 20's first detail: the body ends right after `!`
abbrev pub after_bang : ℕ
after_bang = 1

-- the character after a conversion is neither `}` nor `:`, or there is none
abbrev pub after_conversion : ℕ
after_conversion = 2

-- something not allowed follows a self-documenting `=`
abbrev pub after_equals : ℕ
after_equals = 3

-- the body ends elsewhere inside a field
abbrev pub in_field : ℕ
in_field = 4

-- a `{` at depth 0 is the last character
abbrev pub last_brace : ℕ
last_brace = 5

-- a number is one of a list
infix 50 ◌among◌
abbrev pub ◌among◌ : ℕ → List ℕ → Bool
n among [] = false
n among (m ∷ ms) = eqb n m || n among ms

-- a refusal of the entry checks: 1 to 7, and in the table
abbrev pub of_entry : ℕ → Bool
of_entry n = leb n 7 && n among refusals

-- a refusal of a body: 10 to 28, and in the table
abbrev pub of_body : ℕ → Bool
of_body n = leb 10 n && leb n 28 && n among refusals

-- A REFUSAL'S DETAILS (RULES 11), by its number: 20's first is one of five reasons; 23 has an opener and a closer, 26 a closer, 30 and 31
-- two counts; all others have none
abbrev pub detailed : (number a b : ℕ) → Bool
detailed number a b =
    if eqb number unclosed_lbrace then inside (after_bang to last_brace) a && eqb b 0 else
    if eqb number mismatched_delimiter then a is "([{" && b is ")]}" else
    if eqb number unmatched then a is ")]}" && eqb b 0 else
    if leb too_few_record_places number then true else eqb a 0 && eqb b 0
