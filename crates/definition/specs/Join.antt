-- The join of two answers, and of two outcomes (RULES 6). Nothing of the reading uses it.
use Rattle.std.specs.Prelude.{ℕ, ◌+◌, ◌/◌, ◌≤◌, List, [], ◌∷◌, ◌++◌, map, length}
use Rattle.definition.specs.Records.{Role, Record, glue, cover, Sort, plain, joined, bytes_only, Answer}
use Rattle.definition.specs.Entry.{Refusal, moved}
use Rattle.definition.specs.Reading.{Outcome, accepts, refuses}

-- two records become one, texts joined
unfoldable pub both_records : Record → Record → Record
both_records x y =
    record { role = x.role; kind = x.kind; offset = x.offset; size = x.size + y.size; start = x.start; end = x.end; mode = x.mode; parts = x.parts; place = x.place }

-- a record's text offset raised by n
unfoldable pub raise : ℕ → Record → Record
raise n r =
    record { role = r.role; kind = r.kind; offset = n + r.offset; size = r.size; start = r.start; end = r.end; mode = r.mode; parts = r.parts; place = r.place }

-- B's things after A's: only A's last and B's first may become one
module _ {A : Type 0} (role : A → Role) (both : A → A → A) where
  unfoldable pub seam : List A → List A → List A
  seam [] bs = bs
  seam (a ∷ []) bs = glue role both a bs
  seam (a ∷ a' ∷ as') bs = a ∷ seam (a' ∷ as') bs

unfoldable pub seamed : List Record → List Record → List Record
unfolding seam
seamed = seam (λ r. r.role) both_records

-- bytes if both are, plain if both are, else joined
unfoldable pub join_sort : Sort → Sort → Sort
join_sort plain plain = plain
join_sort plain joined = joined
join_sort plain bytes_only = joined
join_sort joined sort = joined
join_sort bytes_only plain = joined
join_sort bytes_only joined = joined
join_sort bytes_only bytes_only = bytes_only

-- start and u mark are A's, end is B's, also in every top-level literal and bytes record; characters are the sum
unfoldable pub join : Answer → Answer → Answer
join x y =
    record {
      sort = join_sort x.sort y.sort;
      u_mark = x.u_mark;
      start = x.start;
      end = y.end;
      records = map (cover x.start y.end x.u_mark) (seamed x.records (map (raise (length x.text)) y.records));
      text = x.text ++ y.text;
      chars = x.chars + y.chars;
    }

-- a refusal of the second of two runs, whose first has n literals and so many characters
unfoldable pub shifted : (n chars : ℕ) → Refusal → Refusal
shifted n chars r = moved (n + r.literal) (chars + r.chars) r

-- the first's refusal, else the second's with its literal number raised by n and the first's characters added, else the join
unfoldable pub join_outcomes : ℕ → Outcome Answer → Outcome Answer → Outcome Answer
join_outcomes n (refuses r) o = refuses r
join_outcomes n (accepts x) (refuses r) = refuses (shifted n x.chars r)
join_outcomes n (accepts x) (accepts y) = accepts (join x y)

-- room enough for an outcome in w words and t bytes: a refusal needs none
unfoldable pub Enough : ℕ → ℕ → Outcome Answer → Type 0
Enough w t (refuses r) = Unit {0}
Enough w t (accepts x) = (length x.records ≤ w / 8) × (length x.text ≤ t)
