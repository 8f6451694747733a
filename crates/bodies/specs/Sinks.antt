-- The counters of the code, and both buffers, as the state that emitting changes.
use Rattle.std.specs.Prelude.{ℕ, ◌+◌, ◌≤◌, ◌<◌, ◌≡◌, Bool, eqb, List, [], ◌∷◌, map}
use Rattle.definition.specs.Records.{item_of}
use Rattle.definition.specs.Body.{Piece, direct}
use Rattle.records.specs.declared.Whole.{Whole}
use Rattle.records.specs.declared.Frame.{Frame}
use Rattle.records.specs.declared.Sink.{Sink}
use Rattle.bodies.specs.Emit.{Out, bit, emits}
use Rattle.bodies.specs.Emit as e

abbrev pub whole_of : Whole → e.Whole
whole_of w = record { kind = w.kind; start = w.start; end = w.end; mark = w.mark }

-- a top-level text is held open
abbrev pub is_held : Sink → Bool
is_held k = eqb k.held 1

abbrev pub out_of : Sink → List ℕ → List ℕ → Out
out_of k words text = record { words = words; text = text; count = k.count; used = k.used; held = is_held k; from = k.from }

-- records and text bytes, with the record of what is held, and parts
abbrev pub load_of : Sink → ℕ
load_of k = k.count + bit (is_held k) + k.used + k.parts

-- nothing of the counters wraps, and what is held began before what is used
pub record Fits (k : Sink) : Type 0 where
  pub small : load_of k < 4294967295
  pub ordered : k.from ≤ k.used

-- pieces of a literal at a depth, emitted: words and text before and after, and the counters
pub record Emits (fr : Frame) (depth : ℕ) (ps : List Piece) (words text words' text' : List ℕ) (k r : Sink) : Type 0 where
  pub out : out_of r words' text' ≡ emits (whole_of fr.whole) (map (item_of fr.kind fr.start fr.end fr.base) ps) (out_of k words text)
  pub parts : r.parts ≡ k.parts + direct depth ps

-- a spec's words
abbrev pub spec_words : Frame → ℕ → ℕ → List ℕ
spec_words fr used parts = 3 ∷ used ∷ 0 ∷ fr.start ∷ fr.end ∷ 0 ∷ parts ∷ 0 ∷ []
