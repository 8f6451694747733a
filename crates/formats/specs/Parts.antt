-- The parts of a text as the code tells them.
use Rattle.std.specs.Prelude.{ℕ, ◌≤◌, ◌<◌, ◌≡◌, List, [], ◌∷◌, ◌&&◌, ◌||◌, not, eqb, length, take, drop, if◌then◌else◌, Result, Ok, Err, IfOk}
use Prim.Native.String.{String}
use Rattle.definition.specs.Chars.{◌is◌}
use Rattle.definition.specs.Numbers.{not_of_grammar, outside_set}
use Rattle.definition_replay.specs.Spec.{aligns, signs, groupings, types, fill_size, fill_code, pointed, parts_of, behind_type}
use Rattle.definition_replay.specs.Integers.{Integer, base_of, written}
use Rattle.definition_replay.specs.Replay.{Made, made, stopped, Part, stands, column, form_made}
use Rattle.definition_replay.specs.SpecNumbers.{told_of}
use Rattle.integers.specs.Written.{formed, written_in}
use Rattle.formats.specs.declared.Form.{Form}
use Rattle.formats.specs.declared.FormError.{FormError}
use Rattle.formats.specs.declared.FormError.TheVariants.{NotOfGrammar, OutsideSet}
use Rattle.formats.specs.declared.Parts.{Parts}
use Rattle.formats.specs.declared.Set.{Set}
use Rattle.formats.specs.declared.Set.TheVariants.{Aligns, Signs, Groupings, Types, Z, Hash, Nought}

-- the characters of each set
abbrev pub set_of : Set → String
set_of Aligns = aligns
set_of Signs = signs
set_of Groupings = groupings
set_of Types = types
set_of Z = "z"
set_of Hash = "#"
set_of Nought = "0"

-- why a text has no form, as a number
abbrev pub number_of : FormError → ℕ
number_of NotOfGrammar = not_of_grammar
number_of OutsideSet = outside_set

abbrev pub point_told : List ℕ → ℕ
point_told s = told_of (pointed s)

-- what was read of a text
pub record PartsIs (s : List ℕ) (r : Parts) : Type 0 where
  pub fill : r.fill ≡ fill_size s
  pub within : r.fill ≤ length s
  pub short : r.fill ≤ 4
  pub code : r.code ≡ fill_code s
  pub align : r.align ≡ (parts_of s).align
  pub sign : r.sign ≡ (parts_of s).sign
  pub z : r.z ≡ (parts_of s).z
  pub alternate : r.alternate ≡ (parts_of s).alternate
  pub nought : r.nought ≡ (parts_of s).nought
  pub width : r.width ≡ told_of (parts_of s).width
  pub grouping : r.grouping ≡ (parts_of s).grouping
  pub precision : r.precision ≡ told_of (parts_of s).precision
  pub kind : r.kind ≡ (parts_of s).type
  pub rest : drop r.end s ≡ behind_type s
  pub end : r.end ≤ length s

-- the fill of a form that was read
abbrev pub fill_of : List ℕ → Form → List ℕ
fill_of s r = if eqb r.fill 0 then r.pad ∷ [] else take r.fill s

-- what a form, or why there is none, says of field k
abbrev pub says : List ℕ → (k : ℕ) → Result Form FormError → Made Part
says s k (Ok r) = made (column (formed (fill_of s r) r.shape))
says s k (Err e) = stopped (number_of e) k

-- a form within the set, its fill in front of the text
pub record InSet (s : List ℕ) (r : Form) : Type 0 where
  pub base : 1 < base_of r.shape.kind
  pub width : r.shape.width ≤ 64
  pub short : r.fill ≤ 4
  pub within : r.fill ≤ length s

-- the form that was read of a text, or why it has none
pub record FormIs (s : List ℕ) (r : Result Form FormError) : Type 0 where
  pub told : (k : ℕ) → says s k r ≡ form_made k 0 s
  pub form : IfOk r (λ f. InSet s f)

-- 1 for a type and a told precision that round
unfoldable pub rounds_from : (kind precision : ℕ) → ℕ
rounds_from kind precision = if kind is "eEfFgGn%" || eqb kind 0 && not (eqb precision 0) then 1 else 0

-- an integer written by a form of a text; nothing by one outside the set
unfoldable pub written_with : (spec : List ℕ) → Form → Integer → List ℕ
written_with s r v = written_in (fill_of s r) r.shape v

-- an integer written by the form that was read of a text; nothing by one that is refused, or outside the set
abbrev pub written_as : {E : Type 0} → (spec : List ℕ) → Result Form E → Integer → List ℕ
written_as s (Ok r) v = written_with s r v
written_as s (Err e) v = []

-- an integer written by a text; nothing by one that is refused
unfoldable pub written_part : Made Part → Integer → List ℕ
written_part (made (column f)) v = written f v
written_part (made (stands t)) v = []
written_part (stopped n k) v = []

unfoldable pub written_by : (spec : List ℕ) → Integer → List ℕ
written_by s v = written_part (form_made 0 0 s) v
