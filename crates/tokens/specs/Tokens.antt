-- What the reader of tokens answers, by the definition of cuts.
use Rattle.std.specs.Prelude.{ℕ, ◌≤◌, ◌<◌, ◌≡◌, List, length, Result, Ok, Err}
use Rattle.std.proofs.Math.Option.{Option, none, some}
use Rattle.definition_cuts.specs.Tokens.{token_end}
use Rattle.texts.specs.declared.NoEnd.{NoEnd}
use Rattle.texts.specs.declared.NoEnd.TheVariants as e
use Rattle.tokens.specs.declared.NoToken.{NoToken}
use Rattle.tokens.specs.declared.NoToken.TheVariants.{Refused, TooLong}

-- why no token ends, where no escape or field does
abbrev pub of_end : NoEnd → NoToken
of_end e.Refused = Refused
of_end e.Nowhere = Refused
of_end e.TooLong = TooLong

-- an end, or none
abbrev pub EndIs : Option ℕ → Result ℕ NoToken → Type 0
EndIs o (Ok j) = o ≡ some j
EndIs o (Err Refused) = o ≡ none
EndIs o (Err TooLong) = ⊥

-- the token at i of a body, for every body and i
abbrev pub TokenIs : List ℕ → ℕ → Result ℕ NoToken → Type 0
TokenIs s i (Ok j) = (token_end s i ≡ some j) × (i < j) × (j ≤ length s) × (length s ≤ 1048576)
TokenIs s i (Err Refused) = (token_end s i ≡ none) × (length s ≤ 1048576)
TokenIs s i (Err TooLong) = 1048576 < length s
