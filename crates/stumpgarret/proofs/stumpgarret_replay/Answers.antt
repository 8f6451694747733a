use borrow.Author.Rules.{rules}
use mathlib.Core.Path.{◌∙◌, ap}
use Rattle.answers.specs.Twelve.{twelve}
use Rattle.stumpgarret.proofs.stumpgarret_replay.Goals as goal

pub returns : goal.returns
returns c = let r = c.replay_trace.ensures in record { numbered = c.of_replay.ensures ∙ ap twelve r.answer; words_left = r.words; text_left = r.text; output_left = r.output }
