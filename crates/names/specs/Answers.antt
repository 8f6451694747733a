-- What the readers of a file of names answer.
use Rattle.std.specs.Prelude.{ℕ, ◌≤◌, ◌<◌, ◌≡◌, ◌⊎◌, Bool, true, false, not, if◌then◌else◌, List, ◌++◌, map, length, take, get_or, Some, None, Result, Ok, Err, IfOk}
use Rattle.std.specs.Prelude as p
use Rattle.std.proofs.Math.Option.{Option, none, some}
use Rattle.definition.specs.Numbers.{line_malformed, name_twice, too_little_index_room, wrong_index}
use Rattle.definition.specs.Entry.{refusal}
use Rattle.definition.specs.Reading.{Outcome, accepts, refuses}
use Rattle.definition_names.specs.Names.{Entry, at, names, with_line, named_from, named, twice, index_of, name_of, code_at, no_value, BuildCall}
use Rattle.definition_names.specs.IsIndex.{Rising, is_start, in_order}
use Rattle.definition_names.proofs.NameScan.{DigitsOf}
use Rattle.definition_names.proofs.NameIndex.{All, Faithful}
use Rattle.ordering.specs.Sorting.{Sorted, Falls}
use Rattle.names.specs.declared.Digits.{Digits}
use Rattle.names.specs.declared.Line.{Line}
use Rattle.names.specs.declared.IndexError.{IndexError}
use Rattle.names.specs.declared.IndexError.TheVariants.{LineMalformed, NameTwice, TooLittleRoom, WrongIndex}

-- the value of the digits at p, and where they end
abbrev pub DigitsIs : List ℕ → ℕ → p.Option Digits → Type 0
DigitsIs file p None = code_at file p ≡ no_value
DigitsIs file p (Some d) = DigitsOf file p d.value d.mark × (d.value < no_value)

-- what the line at p adds, and where the next one begins
abbrev pub Steps : List ℕ → ℕ → p.Option Line → Type 0
Steps file p None = named_from file p ≡ none
Steps file p (Some l) =
    (p < l.next)
    × (l.next ≤ length file)
    × (named_from file p ≡ (if l.named then with_line p (names (name_of file p) (code_at file p)) (named_from file l.next) else named_from file l.next))

-- how many names
abbrev pub count_of : Option (List Entry) → p.Option ℕ
count_of none = None
count_of (some es) = Some (length es)

-- a line with a name begins at each of the first n offsets
abbrev pub Starts : List ℕ → List ℕ → ℕ → Type 0
Starts file l n = (k : ℕ) → k < n → is_start file (get_or l k 0) ≡ true

-- at some offset none does
pub record Strays (file l : List ℕ) : Type 0 where
  pub at : ℕ
  pub inside : at < length l
  pub strays : is_start file (get_or l at 0) ≡ false

-- r: one begins at each
abbrev pub StartsIs : List ℕ → List ℕ → Bool → Type 0
StartsIs file l true = Starts file l (length l)
StartsIs file l false = Strays file l

-- names read before others
abbrev pub onto : List Entry → Option (List Entry) → Option (List Entry)
onto es none = none
onto es (some fs) = some (es ++ fs)

-- the first `used` of a list are the offsets of the lines with a name from p up to `next`; there is no more room, or no more line
pub record FilledOf (file : List ℕ) (p : ℕ) (l : List ℕ) (used next : ℕ) : Type 0 where
  pub run : List Entry
  pub is : named_from file p ≡ onto run (named_from file next)
  pub count : used ≡ length run
  pub offsets : take used l ≡ map at run
  pub faithful : Faithful file run
  pub room : used ≤ length l
  pub moves : p < length file → 0 < length l → p < next
  pub ended : used < length l → length file ≤ next

-- the file has n names
pub record Sized (file : List ℕ) (n : ℕ) : Type 0 where
  pub names : List Entry
  pub is : named file ≡ some names
  pub size : n ≡ length names

-- r: no name stands twice, and the list is the index
abbrev pub OrderedIs : List ℕ → List ℕ → Bool → Type 0
OrderedIs file l true = (es : List Entry) → named file ≡ some es → (twice es ≡ false) × (l ≡ index_of es)
OrderedIs file l false = (es : List Entry) → named file ≡ some es → twice es ≡ true

-- r: the list is the index
abbrev pub CheckedIs : List ℕ → List ℕ → Bool → Type 0
CheckedIs file l true = (es : List Entry) → named file ≡ some es → (twice es ≡ false) × (l ≡ index_of es)
CheckedIs file l false = (es : List Entry) → named file ≡ some es → twice es ≡ false → l ≡ index_of es → ⊥

-- an entry has not the name of one of a block; no entry has
abbrev pub FreeOf : List ℕ → List ℕ → Entry → Type 0
FreeOf file block e = (i : ℕ) → i < length block → name_of file (get_or block i 0) ≡ e.name → ⊥

abbrev pub Free : List ℕ → List ℕ → List Entry → Type 0
Free file block es = All (FreeOf file block) es

-- r: an entry from p on has
abbrev pub MeetsIs : List ℕ → ℕ → List ℕ → Bool → Type 0
MeetsIs file p block true = (es : List Entry) → named_from file p ≡ some es → Free file block es → ⊥
MeetsIs file p block false = (es : List Entry) → named_from file p ≡ some es → Free file block es

-- r: a sorted list rises, and meets no line from `next` on
abbrev pub ApartIs : List ℕ → List ℕ → ℕ → Bool → Type 0
ApartIs file l next true = Rising (in_order file) l × MeetsIs file next l false
ApartIs file l next false = Falls (in_order file) l ⊎ (Rising (in_order file) l × MeetsIs file next l true)

pub record PartIs (file l : List ℕ) (next : ℕ) (r : Bool) : Type 0 where
  pub list : List ℕ
  pub sorted : Sorted (in_order file) l list
  pub is : ApartIs file list next r

-- r: the names of a run are distinct, and none stands among those from `next` on
abbrev pub NewIs : List ℕ → List Entry → ℕ → Bool → Type 0
NewIs file run next true = (es : List Entry) → named_from file next ≡ some es → twice es ≡ false → twice (run ++ es) ≡ false
NewIs file run next false = (es : List Entry) → named_from file next ≡ some es → twice (run ++ es) ≡ true

-- the run is that from p up to `next`
pub record RunIs (file : List ℕ) (p : ℕ) (r : Bool) (next : ℕ) : Type 0 where
  pub run : List Entry
  pub is : named_from file p ≡ onto run (named_from file next)
  pub on : p < next
  pub once : (es : List Entry) → twice (run ++ es) ≡ false → twice es ≡ false
  pub new : NewIs file run next r

-- r: no name stands twice
abbrev pub DistinctIs : List ℕ → Bool → Type 0
DistinctIs file r = (es : List Entry) → named file ≡ some es → r ≡ not (twice es)

-- the number of a refusal
abbrev pub number_of : IndexError → ℕ
number_of LineMalformed = line_malformed
number_of NameTwice = name_twice
number_of TooLittleRoom = too_little_index_room
number_of WrongIndex = wrong_index

-- how many entries, or the refusal
abbrev pub says : Result ℕ IndexError → Outcome ℕ
says (Ok n) = accepts n
says (Err e) = refuses (refusal (number_of e) 0 0 0 0)

-- what a call returns, and what it leaves
abbrev pub answer_of : Outcome (List ℕ) → Outcome ℕ
answer_of (accepts l) = accepts (length l)
answer_of (refuses r) = refuses r

abbrev pub CallIs : BuildCall → List ℕ → Result ℕ IndexError → Type 0
CallIs c index r = (says r ≡ answer_of c.outcome) × (index ≡ c.index)

-- the same, but for what it leaves where it refuses
abbrev pub WrittenIs : BuildCall → List ℕ → Result ℕ IndexError → Type 0
WrittenIs c index r = (says r ≡ answer_of c.outcome) × IfOk r (λ n. index ≡ c.index)
