-- What writing an item does to the buffers and the counters.
use Rattle.std.specs.Prelude.{ℕ, ◌+◌, ◌-◌, ◌*◌, ◌≡◌, Bool, true, false, List, [], ◌∷◌, length, if◌then◌else◌}
use Rattle.definition.specs.Records.{Role, Item, covers, words_of, record_at}
use Rattle.buffers.specs.Over.{over}

-- What every top-level record of a call carries: its kind (1 literal, 4 bytes), the call's first start and last end, and its u mark
pub record Whole : Type 0 where
  pub kind : ℕ
  pub start : ℕ
  pub end : ℕ
  pub mark : ℕ

-- Both buffers, how many records and text bytes are written, and whether a top-level text is held open, and from where
pub record Out : Type 0 where
  pub words : List ℕ
  pub text : List ℕ
  pub count : ℕ
  pub used : ℕ
  pub held : Bool
  pub from : ℕ

-- more top-level text: it touches what is held
unfoldable pub hold : List ℕ → Out → Out
hold t o =
    record {
      words = o.words;
      text = over o.text o.used t;
      count = o.count;
      used = o.used + length t;
      held = true;
      from = if o.held then o.from else o.used;
    }

-- the words of the held text's record
unfoldable pub held_words : Whole → Out → List ℕ
held_words w o = w.kind ∷ o.from ∷ (o.used - o.from) ∷ w.start ∷ w.end ∷ w.mark ∷ 0 ∷ 0 ∷ []

-- the held text becomes a record
unfoldable pub closed : Whole → Out → Out
closed w o =
    if o.held then
    record {
      words = over o.words (o.count * 8) (held_words w o);
      text = o.text;
      count = o.count + 1;
      used = o.used;
      held = false;
      from = 0;
    } else o

-- a record with its text
unfoldable pub put : Item → Out → Out
put x o =
    record {
      words = over o.words (o.count * 8) (words_of (record_at o.used x));
      text = over o.text o.used x.text;
      count = o.count + 1;
      used = o.used + length x.text;
      held = o.held;
      from = o.from;
    }

unfoldable pub emit : Whole → Item → Out → Out
emit w x o = if covers x.role then hold x.text o else put x (closed w o)

unfoldable pub emits : Whole → List Item → Out → Out
emits w [] o = o
emits w (x ∷ xs) o = emits w xs (emit w x o)

-- a record place is kept for a spec, and filled once its parts are counted
unfoldable pub reserved : Out → Out
reserved o = record { words = o.words; text = o.text; count = o.count + 1; used = o.used; held = o.held; from = o.from }

unfoldable pub filled_in : ℕ → List ℕ → Out → Out
filled_in place ws o = record { words = over o.words (place * 8) ws; text = o.text; count = o.count; used = o.used; held = o.held; from = o.from }

-- one for what is held
abbrev pub bit : Bool → ℕ
bit true = 1
bit false = 0

-- a top-level item, as the call's whole has it
pub record Top (w : Whole) (role : Role) (x : Item) : Type 0 where
  pub role_is : x.role ≡ role
  pub kind : x.kind ≡ w.kind
  pub parts : x.parts ≡ 0
  pub place : x.place ≡ 0

-- every top-level item of a list is as the whole has it
abbrev pub Tops : Whole → Role → List Item → Type 0
Tops w role [] = Unit {0}
Tops w role (x ∷ xs) = (covers x.role ≡ true → Top w role x) × Tops w role xs
