-- What a call over a list of literals answers and leaves, by the definition's reading.
use Rattle.std.specs.Prelude.{ℕ, ◌/◌, ◌≤◌, ◌≡◌, Bool, true, false, List, length}
use Rattle.definition.specs.Entry.{Literal, first_start}
use Rattle.definition.specs.Reading.{accepts, refuses, sort_of, sort_number, u_mark, last_end, Call, numbers}
use Rattle.definition.specs.Reading as lists
use Rattle.definition.specs.Rows.{SignsCall, rowed_numbers}
use Rattle.entry.specs.Literals.{literals}
use Rattle.bodies.specs.declared.Written.{Written}
use Rattle.bodies.specs.Emit as e
use Rattle.bodies.specs.Lists.{whole_for}
use Rattle.answers.specs.declared.Answer.{Answer}
use Rattle.answers.specs.declared.Outcome.{Outcome}
use Rattle.answers.specs.declared.Outcome.TheVariants.{Accepted, Refused}
use Rattle.answers.specs.Twelve.{reading_says}

-- whether an answer is an acceptance, and whether an outcome is one
abbrev pub is_accepted : Outcome → Bool
is_accepted (Accepted x) = true
is_accepted (Refused r) = false

abbrev pub is_acceptance : {A : Type 0} → lists.Outcome A → Bool
is_acceptance (accepts x) = true
is_acceptance (refuses r) = false

-- the literals of flat numbers
abbrev pub listed : List ℕ → List Literal
listed ns = literals ns 0 (length ns / 6)

-- few literals were read, and what their top-level records carry is theirs
pub record Few (ns : List ℕ) (w : Written) : Type 0 where
  pub few : length ns / 6 ≤ 1024
  pub whole : ◌≡◌ {A = e.Whole} (record { kind = w.kind; start = w.start; end = w.end; mark = w.mark }) (whole_for (listed ns))

-- the answer of literals, with so many records, text bytes and characters
abbrev pub answer_of : List Literal → (records text chars : ℕ) → Answer
answer_of ls records text chars =
    record { sort = sort_number (sort_of ls); mark = u_mark ls; start = first_start ls; end = last_end 0 ls; records = records; text = text; chars = chars }

-- a call of the definition: what is answered, and both buffers afterwards
pub record CallIs (call : Call) (words' text' : List ℕ) (r : Outcome) : Type 0 where
  pub accepted : is_accepted r ≡ is_acceptance call.outcome
  pub answer : reading_says r ≡ numbers call.outcome
  pub words : words' ≡ call.words
  pub text : text' ≡ call.text

-- a call of the definition for rows: what is answered, and the row buffer afterwards
pub record SignsIs (call : SignsCall) (rows' : List ℕ) (r : Outcome) : Type 0 where
  pub accepted : is_accepted r ≡ is_acceptance call.outcome
  pub answer : reading_says r ≡ rowed_numbers call.outcome
  pub rows : rows' ≡ call.rows
