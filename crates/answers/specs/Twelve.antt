-- The numbers of an answer, and the twelve of the C interface.
use Rattle.std.specs.Prelude.{ℕ, ◌-◌, List, [], ◌∷◌, ◌++◌, length, replicate, Result, Ok, Err, Option, Some, None}
use Rattle.definition.specs.Numbers.{script_too_long, too_little_list_room, too_little_cut_room}
use Rattle.entry.specs.declared.Refusal.{Refusal}
use Rattle.answers.specs.declared.Answer.{Answer}
use Rattle.answers.specs.declared.Outcome.{Outcome}
use Rattle.answers.specs.declared.Outcome.TheVariants.{Accepted, Refused}
use Rattle.answers.specs.declared.List as list
use Rattle.answers.specs.declared.Unlisted.{Unlisted}
use Rattle.answers.specs.declared.Unlisted.TheVariants.{TooLong, WrongNames, Short}
use Rattle.answers.specs.declared.Lines.{Lines}
use Rattle.answers.specs.declared.Unreplayed.{Unreplayed}
use Rattle.answers.specs.declared.Unreplayed.TheVariants.{Unread, Stopped}
use Rattle.answers.specs.declared.Unwritten.{Unwritten}
use Rattle.answers.specs.declared.NoRoom.{NoRoom}

-- a list of numbers, and zeros up to twelve
unfoldable pub twelve : List ℕ → List ℕ
twelve ns = ns ++ replicate (12 - length ns) 0

-- of a reading
abbrev pub read_numbers : Answer → List ℕ
read_numbers x = 0 ∷ x.sort ∷ x.mark ∷ x.start ∷ x.end ∷ x.records ∷ x.text ∷ 0 ∷ x.chars ∷ []

-- of a refusal
abbrev pub refused_numbers : Refusal → List ℕ
refused_numbers r = r.number ∷ r.literal ∷ r.place ∷ r.a ∷ r.b ∷ r.opened ∷ r.line ∷ r.column ∷ r.chars ∷ []

-- a number, and one that is told at place 9
abbrev pub told_numbers : ℕ → ℕ → List ℕ
told_numbers number told = number ∷ replicate 8 0 ++ (told ∷ [])

-- the numbers of an outcome (RULES 5.1, 5.6)
abbrev pub reading_says : Outcome → List ℕ
reading_says (Accepted x) = read_numbers x
reading_says (Refused r) = refused_numbers r

-- of a script's list
abbrev pub fields_says : Result list.List Unlisted → List ℕ
fields_says (Ok x) = 0 ∷ x.rows ∷ x.refusals ∷ x.literals ∷ x.to ∷ []
fields_says (Err TooLong) = script_too_long ∷ []
fields_says (Err (WrongNames n)) = n ∷ []
fields_says (Err (Short n)) = told_numbers too_little_list_room n

-- of a replay
abbrev pub replay_says : Result Lines Unreplayed → List ℕ
replay_says (Ok l) = read_numbers l.reading ++ (l.rows ∷ l.bytes ∷ [])
replay_says (Err (Unread r)) = refused_numbers r
replay_says (Err (Stopped s)) = told_numbers s.number s.told

-- of a body written back
abbrev pub writing_says : Result ℕ Unwritten → List ℕ
writing_says (Ok n) = 0 ∷ n ∷ []
writing_says (Err s) = told_numbers s.number s.needed

-- of a plan
abbrev pub plan_says : Result (Option ℕ) NoRoom → List ℕ
plan_says (Ok (Some n)) = 0 ∷ 1 ∷ n ∷ []
plan_says (Ok None) = 0 ∷ 0 ∷ []
plan_says (Err x) = told_numbers too_little_cut_room x.needed
