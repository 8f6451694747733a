-- An index or what is wrong with it, in numbers.
use Rattle.std.specs.Prelude.{ℕ, Result, Ok, Err}
use Rattle.names.specs.declared.IndexError.{IndexError}
use Rattle.names.specs.Answers.{number_of}

-- how many entries, or the number of what is wrong
abbrev pub in_numbers : Result ℕ IndexError → Result ℕ ℕ
in_numbers (Ok n) = Ok n
in_numbers (Err e) = Err (number_of e)
