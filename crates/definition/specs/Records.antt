-- Records (RULES 5): a literal's pieces with their ranges, touching ones joined, and all laid out over one text.
use Rattle.std.specs.Prelude.{ℕ, zero, suc, ◌+◌, Bool, true, false, List, [], ◌∷◌, ◌++◌, map, length, if◌then◌else◌}
use Rattle.definition.specs.Numbers.{is_bytes}
use Rattle.definition.specs.Body.{Piece, literal, field, spec}

-- What a record is for joining: a top-level literal, a bytes record, or any other. It is not written
pub data Role : Type 0 where
  top raw inner : Role

unfoldable pub touching : Role → Role → Bool
touching top top = true
touching top raw = false
touching top inner = false
touching raw top = false
touching raw raw = true
touching raw inner = false
touching inner m = false

-- top-level literals and a bytes record carry the whole call's range and u mark
unfoldable pub covers : Role → Bool
covers top = true
covers raw = true
covers inner = false

-- A record's text and numbers before it is laid out; `mode` is a field's conversion or a literal's u mark
pub record Item : Type 0 where
  pub role : Role
  pub kind : ℕ
  pub text : List ℕ
  pub start : ℕ
  pub end : ℕ
  pub mode : ℕ
  pub parts : ℕ
  pub place : ℕ

-- A record
pub record Record : Type 0 where
  pub role : Role
  pub kind : ℕ
  pub offset : ℕ
  pub size : ℕ
  pub start : ℕ
  pub end : ℕ
  pub mode : ℕ
  pub parts : ℕ
  pub place : ℕ

-- its eight words
unfoldable pub words_of : Record → List ℕ
words_of r = r.kind ∷ r.offset ∷ r.size ∷ r.start ∷ r.end ∷ r.mode ∷ r.parts ∷ r.place ∷ []

unfoldable pub item : Role → ℕ → List ℕ → ℕ → ℕ → ℕ → ℕ → ℕ → Item
item role kind text start end mode parts place =
    record { role = role; kind = kind; text = text; start = start; end = end; mode = mode; parts = parts; place = place }

-- a piece of a literal of a kind, from start to end, whose body begins at `base`; any word a record's kind has no use for is 0
unfoldable pub item_of : (kind start end base : ℕ) → Piece → Item
item_of kind start end base (literal zero t) = if is_bytes kind then item raw 4 t start end 0 0 0 else item top 1 t start end 0 0 0
item_of kind start end base (literal (suc d) t) = item inner 1 t start end 0 0 0
item_of kind start end base (field d e c n i g) = item inner 2 e start end c n (base + i)
item_of kind start end base (spec n) = item inner 3 [] start end 0 n 0

-- Lists of things where those that touch become one
module _ {A : Type 0} (role : A → Role) (both : A → A → A) where
  unfoldable pub glue : A → List A → List A
  glue a [] = a ∷ []
  glue a (b ∷ bs) = elim (touching (role a) (role b)) [ true ↦ both a b ∷ bs | false ↦ a ∷ b ∷ bs ]

  -- all that touch
  unfoldable pub merge : List A → List A
  merge [] = []
  merge (a ∷ as') = glue a (merge as')

-- two items become one, texts joined
unfoldable pub both_items : Item → Item → Item
both_items x y =
    record { role = x.role; kind = x.kind; text = x.text ++ y.text; start = x.start; end = x.end; mode = x.mode; parts = x.parts; place = x.place }

unfoldable pub merged : List Item → List Item
unfolding merge
merged = merge (λ x. x.role) both_items

-- the text, in record order without gaps
unfoldable pub texts : List Item → List ℕ
texts [] = []
texts (x ∷ xs) = x.text ++ texts xs

-- the record of an item whose text begins at n
unfoldable pub record_at : ℕ → Item → Record
record_at n x =
    record { role = x.role; kind = x.kind; offset = n; size = length x.text; start = x.start; end = x.end; mode = x.mode; parts = x.parts; place = x.place }

unfoldable pub laid : ℕ → List Item → List Record
laid n [] = []
laid n (x ∷ xs) = record_at n x ∷ laid (n + length x.text) xs

-- a record with the whole call's start, end and u mark, if it carries them
unfoldable pub cover : ℕ → ℕ → ℕ → Record → Record
cover start end u r =
    record {
      role = r.role;
      kind = r.kind;
      offset = r.offset;
      size = r.size;
      start = if covers r.role then start else r.start;
      end = if covers r.role then end else r.end;
      mode = if covers r.role then u else r.mode;
      parts = r.parts;
      place = r.place;
    }

-- the sort of an answer
pub data Sort : Type 0 where
  plain joined bytes_only : Sort

-- AN ACCEPTANCE; `chars` are the characters of all bodies
pub record Answer : Type 0 where
  pub sort : Sort
  pub u_mark : ℕ
  pub start : ℕ
  pub end : ℕ
  pub records : List Record
  pub text : List ℕ
  pub chars : ℕ

unfoldable pub answer_of : Sort → ℕ → ℕ → ℕ → ℕ → List Item → Answer
answer_of sort u start end chars xs =
    record {
      sort = sort;
      u_mark = u;
      start = start;
      end = end;
      records = map (cover start end u) (laid 0 (merged xs));
      text = texts (merged xs);
      chars = chars;
    }
