-- What the readers of an f-string answer and write, by the definition's readings.
use Rattle.std.specs.Prelude.{ℕ, suc, ◌+◌, ◌-◌, ◌*◌, ◌≤◌, ◌<◌, ◌≡◌, List, ◌∷◌, length}
use Rattle.definition.specs.Escapes.{got, refused}
use Rattle.definition.specs.Escapes as d
use Rattle.definition.specs.Body.{Piece, spec, direct}
use Rattle.records.specs.declared.Frame.{Frame}
use Rattle.records.specs.declared.Sink.{Sink}
use Rattle.bodies.specs.declared.fstring.Read.{Read}
use Rattle.bodies.specs.declared.fstring.Read.TheVariants.{Done, Refused}
use Rattle.marks.specs.Marks.{refusal}
use Rattle.bodies.specs.Rows.{Signed}
use Rattle.bodies.specs.Sinks.{load_of, Emits}

-- the body fits, its places too, and all that is still to come
pub record Room (s : List ℕ) (at : ℕ) (fr : Frame) (k : Sink) : Type 0 where
  pub low : at ≤ length s
  pub small : length s ≤ 1048576
  pub places : fr.base + length s < 4294967296
  pub load : load_of k + 8 * (length s - at) ≤ 16777216
  pub ordered : k.from ≤ k.used

-- what is read and written is the definition's reading of pieces at a depth, of which `more` makes the records
abbrev pub Written : (List Piece → List Piece) → d.Read (List Piece) → Frame → ℕ → List ℕ → List ℕ → List ℕ → List ℕ → Sink → Read → Type 0
Written more (got ps j) fr depth words text words' text' k (Done at r n) = (at.at ≡ j) × Emits fr depth (more ps) words text words' text' k r
Written more (got ps j) fr depth words text words' text' k (Refused x) = ⊥
Written more (refused y) fr depth words text words' text' k (Done at r n) = ⊥
Written more (refused y) fr depth words text words' text' k (Refused x) = x ≡ refusal y

abbrev pub ReadIs : d.Read (List Piece) → Frame → ℕ → List ℕ → List ℕ → List ℕ → List ℕ → Sink → Read → Type 0
ReadIs = Written (λ ps. ps)

-- a spec's record stands before its parts
abbrev pub SpecIs : d.Read (List Piece) → Frame → ℕ → List ℕ → List ℕ → List ℕ → List ℕ → Sink → Read → Type 0
SpecIs read fr depth = Written (λ ps. spec (direct (suc depth) ps) ∷ ps) read fr depth

-- a field that is read alone: where it ends, and no more
abbrev pub EndsAs : d.Read (List Piece) → Read → Type 0
EndsAs read (Done at r n) = (ps : List Piece) × (read ≡ got ps at.at)
EndsAs read (Refused x) = (y : d.Fault) × (read ≡ refused y)

-- and the rows of those pieces, after so many fields, are written
abbrev pub SignedBy : d.Read (List Piece) → Frame → List ℕ → List ℕ → ℕ → ℕ → Type 0
SignedBy (got ps j) fr rows rows' fields n = Signed fr ps rows rows' fields n
SignedBy (refused y) fr rows rows' fields n = Unit {0}

abbrev pub SignedIs : Read → d.Read (List Piece) → Frame → List ℕ → List ℕ → ℕ → Type 0
SignedIs (Done at r n) read fr rows rows' fields = SignedBy read fr rows rows' fields n
SignedIs (Refused x) read fr rows rows' fields = Unit {0}
