-- What a scan looks for, and what the answers say in the definition's terms.
use Rattle.std.specs.Prelude.{ℕ, Bool, ◌≤◌, eqb, if◌then◌else◌, Option, Some, None, Result, Ok, Err}
use Rattle.definition.specs.Numbers.{never_closed, newline_in_literal}
use Rattle.definition.specs.Chars.{◌is◌}
use Rattle.definition_scripts.specs.Opening.{no_kind}
use Rattle.definition_scripts.specs.Literals as s
use Rattle.searches.specs.Firsts.{one_of}
use Rattle.scans.specs.declared.BodyCase.{BodyCase}
use Rattle.scans.specs.declared.BodyCase.TheVariants.{Over, Takes, Closes, Breaks, Plain}
use Rattle.scans.specs.declared.Unclosed.{Unclosed}
use Rattle.scans.specs.declared.Unclosed.TheVariants.{NeverClosed, Newline}

-- the kind of what opens, and past every kind where nothing does
abbrev pub kind_of : Option ℕ → ℕ
kind_of (Some kind) = kind
kind_of None = no_kind

-- a kind is one of seven
abbrev pub Known : Option ℕ → Type 0
Known (Some kind) = kind ≤ 6
Known None = Unit {0}

-- what a scan over a body stops at, and its third byte by the literal's quote and flag
abbrev pub mark : ℕ → ℕ → ℕ → Bool
mark quote third = one_of quote 92 third

abbrev pub third_of : ℕ → ℕ → ℕ
third_of quote flag = if eqb flag 1 then quote else 10

abbrev pub case_of : BodyCase → s.BodyCase
case_of Over = s.over
case_of Takes = s.takes
case_of Closes = s.closes
case_of Breaks = s.breaks
case_of Plain = s.plain

-- why a body has none, as a number
abbrev pub number_of : Unclosed → ℕ
number_of NeverClosed = never_closed
number_of Newline = newline_in_literal

abbrev pub closing_of : Result ℕ Unclosed → s.Closing
closing_of (Ok at) = s.closed at
closing_of (Err e) = s.fails (number_of e)

-- what a scan over a gap stops at
abbrev pub cut_mark : ℕ → Bool
cut_mark b = b is "'\"#"
