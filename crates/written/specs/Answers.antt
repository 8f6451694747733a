-- What a call answers, and what it leaves in the body.
use Rattle.std.specs.Prelude.{ℕ, ◌≡◌, List, Result}
use Rattle.definition_written.specs.Written.{WrittenCall, written_numbers}
use Rattle.answers.specs.declared.Unwritten.{Unwritten}
use Rattle.answers.specs.Twelve.{writing_says}

-- a call of the definition: what is answered, and the body afterwards
pub record WrittenIs (call : WrittenCall) (body' : List ℕ) (r : Result ℕ Unwritten) : Type 0 where
  pub answer : writing_says r ≡ written_numbers call.result
  pub body : body' ≡ call.body
