-- What a replay answers, and what it leaves in the three buffers.
use Rattle.std.specs.Prelude.{ℕ, ◌≡◌, List, length, take, Result}
use Rattle.definition.specs.Records.{Answer}
use Rattle.definition.specs.Reading.{accepts, numbers}
use Rattle.definition.specs.Words.{records_from}
use Rattle.definition_replay.specs.Replay.{ReplayCall, replay_call, replay_numbers_of}
use Rattle.definition_laws.proofs.Outcomes.Outcomes.{Gapless}
use Rattle.answers.specs.declared.Answer.{Answer as Read}
use Rattle.answers.specs.declared.Lines.{Lines}
use Rattle.answers.specs.declared.Unreplayed.{Unreplayed}
use Rattle.answers.specs.Twelve.{read_numbers, replay_says}

-- a call of the definition: what is answered, and the three buffers afterwards
pub record ReplayIs (call : ReplayCall) (words' text' output' : List ℕ) (r : Result Lines Unreplayed) : Type 0 where
  pub answer : replay_says r ≡ replay_numbers_of call.result
  pub words : words' ≡ call.words
  pub text : text' ≡ call.text
  pub output : output' ≡ call.output

-- an answer of the definition that lies in words and text
pub record Holds (a : Answer) (x : Read) (words text : List ℕ) : Type 0 where
  pub numbered : read_numbers x ≡ numbers (accepts a)
  pub records : records_from x.records 0 words ≡ a.records
  pub texts : take x.text text ≡ a.text
  pub gapless : Gapless 0 a.records (length a.text)

-- the call that replays a trace through it
abbrev pub replay_of : Answer → (trace words text output : List ℕ) → ReplayCall
replay_of a trace words text output = replay_call (record { outcome = accepts a; words = words; text = text }) trace output
