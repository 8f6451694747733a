-- What the answers say, in the definition's terms.
use Rattle.std.specs.Prelude.{ℕ, List, Some, None}
use Rattle.std.specs.Prelude as std
use Rattle.std.proofs.Math.Option.{Option, none, some}
use Rattle.record_words.specs.Words.{words_of}
use Rattle.record_words.specs.declared.Record.{Record}

-- a record's eight words, or none
abbrev pub says : std.Option Record → Option (List ℕ)
says (Some r) = some (words_of r)
says None = none
