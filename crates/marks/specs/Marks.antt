-- What the answers about characters and fields are, by the definition's sets and numbers.
use Rattle.std.specs.Prelude.{ℕ, Bool, ◌&&◌, ◌||◌, [], eqb, leb, if◌then◌else◌}
use Rattle.std.proofs.Math.Option.{none, some}
use Rattle.definition.specs.Numbers.{is_bytes, after_bang, after_conversion, after_equals, in_field, last_brace}
use Rattle.definition.specs.Chars.{◌is◌, ◌to◌, inside}
use Rattle.definition.specs.Escapes.{Fault}
use Rattle.definition.specs.Body.{FieldCase, pair, converts, documents, formats, opener, closes, closer, quote, space, backslash, stray, plain, conversion_of}
use Rattle.marks.specs.declared.Refusal.{Refusal}
use Rattle.marks.specs.declared.Class.{Class}
use Rattle.marks.specs.declared.Class.TheVariants as class
use Rattle.marks.specs.declared.Unclosed.{Unclosed}
use Rattle.marks.specs.declared.Unclosed.TheVariants.{AfterBang, AfterConversion, AfterEquals, InField, LastBrace}

-- a byte that may be no plain text: a brace, a backslash, or in bytes one above ASCII
abbrev pub special : ℕ → ℕ → Bool
special kind b = b is "{}\\" || (is_bytes kind && leb 0x80 b)

-- the definition's case of a class
abbrev pub case_is : Class → FieldCase
case_is class.Pair = pair
case_is class.Converts = converts
case_is class.Documents = documents
case_is class.Formats = formats
case_is class.Opener = opener
case_is class.Closes = closes
case_is class.Closer = closer
case_is class.Quote = quote
case_is class.Space = space
case_is class.Backslash = backslash
case_is class.Stray = stray
case_is class.Plain = plain

-- a character with no rule of its own
abbrev pub plain_case : Bool → FieldCase
plain_case documented = if documented then stray else plain

-- a byte that has no rule of its own in a field: of * to 9, ? to Z and ^ to z
abbrev pub passing : ℕ → Bool
passing b = inside (42 to 57) b || inside (63 to 90) b || inside (94 to 122) b

-- a field's conversion, by the number of its parts: 1 with a spec, else 0
abbrev pub converted : Bool → ℕ → ℕ → ℕ
converted documented c parts = conversion_of documented c (if eqb parts 0 then none else some [])

-- the definition's number of a reason
abbrev pub reason_of : Unclosed → ℕ
reason_of AfterBang = after_bang
reason_of AfterConversion = after_conversion
reason_of AfterEquals = after_equals
reason_of InField = in_field
reason_of LastBrace = last_brace

-- the code's refusal of a fault, and back
abbrev pub refusal : Fault → Refusal
refusal x = record { number = x.number; opened = x.opened; taken = x.taken; a = x.a; b = x.b }

abbrev pub fault_of : Refusal → Fault
fault_of x = record { number = x.number; taken = x.taken; a = x.a; b = x.b; opened = x.opened }
