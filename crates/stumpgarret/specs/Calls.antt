-- What a call over the C interface leaves: its answer's twelve numbers, and the lent buffers.
use Rattle.std.specs.Prelude.{ℕ, ◌≡◌, List}
use Rattle.definition.specs.Reading.{Call, numbers}
use Rattle.definition.specs.Rows.{SignsCall, rowed_numbers}
use Rattle.definition_scripts.specs.Literals.{ListCall, list_numbers}
use Rattle.definition_scripts.specs.Listing.{FieldsCall, fields_numbers}
use Rattle.definition_names.specs.Names.{BuildCall, index_numbers}
use Rattle.definition_replay.specs.Replay.{ReplayCall, replay_numbers_of}
use Rattle.definition_revisions.specs.Revisions.{CompareCall, compare_numbers}
use Rattle.definition_written.specs.Written.{WrittenCall, written_numbers}
use Rattle.definition_cuts.specs.Plan.{PlanCall, plan_numbers}
use Rattle.answers.specs.Twelve.{twelve}

-- a call of the definition: the twelve numbers, and both buffers afterwards
pub record CallIs (call : Call) (answer words text : List ℕ) : Type 0 where
  pub numbered : answer ≡ twelve (numbers call.outcome)
  pub words_left : words ≡ call.words
  pub text_left : text ≡ call.text

-- the same of a call for rows
pub record SignsIs (call : SignsCall) (answer rows : List ℕ) : Type 0 where
  pub numbered : answer ≡ twelve (rowed_numbers call.outcome)
  pub rows_left_lem : rows ≡ call.rows

-- the same of a call for the literals from an offset on, or for all
pub record ListIs (call : ListCall) (answer list : List ℕ) : Type 0 where
  pub numbered : answer ≡ twelve (list_numbers call.listing)
  pub list_left : list ≡ call.list

-- the same of a call for every field of a script
pub record FieldsIs (call : FieldsCall) (answer rows : List ℕ) : Type 0 where
  pub numbered : answer ≡ twelve (fields_numbers call.listed)
  pub rows_left_lem : rows ≡ call.rows

-- the same of a call that builds an index
pub record IndexIs (call : BuildCall) (answer index : List ℕ) : Type 0 where
  pub numbered : answer ≡ twelve (index_numbers call.outcome)
  pub index_left : index ≡ call.index

-- the same of a call that replays a trace: the twelve numbers, and the three buffers afterwards
pub record ReplayIs (call : ReplayCall) (answer words text output : List ℕ) : Type 0 where
  pub numbered : answer ≡ twelve (replay_numbers_of call.result)
  pub words_left : words ≡ call.words
  pub text_left : text ≡ call.text
  pub output_left : output ≡ call.output

-- the same of a call that compares two answers
pub record CompareIs (call : CompareCall) (answer list : List ℕ) : Type 0 where
  pub numbered : answer ≡ twelve (compare_numbers call.outcome)
  pub list_left : list ≡ call.list

-- the same of a call that writes a body
pub record WriteIs (call : WrittenCall) (answer body : List ℕ) : Type 0 where
  pub numbered : answer ≡ twelve (written_numbers call.result)
  pub body_left : body ≡ call.body

-- the same of a call for a plan of cuts
pub record PlanIs (call : PlanCall) (answer list : List ℕ) : Type 0 where
  pub numbered : answer ≡ twelve (plan_numbers call.result)
  pub list_left : list ≡ call.list
