-- Rows that are written field by field are those of the pieces. Assumes nothing.
use mathlib.Core.Path.{◌≡◌, refl, sym, ◌∙◌, ap}
use mathlib.Core.Bool.{Bool, true, false, false≢true}
use mathlib.Core.List.{List, [], ◌∷◌, ◌++◌, map, append_assoc, append-nil}
use Prim.Native.Nat.{ℕ, ◌+◌, ◌-◌, ◌*◌, ◌≤◌, ◌<◌}
use native.Mathlib.Omega.{arith}
use lib.ListN.{length, drop, length-append}
use Rattle.definition.specs.Chars.{next}
use Rattle.definition.specs.Escapes as d
use Rattle.definition.specs.Escapes.{Naming, got}
use Rattle.definition.specs.Body.{Signs, Piece, literal, field, spec, filled, Field, fresh, Move, calls, self_documenting, field_n, enough}
use Rattle.definition.specs.Records.{Item, item, item_of, covers}
use Rattle.definition.specs.Rows.{Row, row_numbers, signs_at, field_rows, all_numbers}
use Rattle.definition.proofs.Moves.CharLaws.{next_in}
use Rattle.marks.specs.Marks.{converted}
use Rattle.buffers.specs.Over.{over}
use Rattle.buffers.proofs.Over.{over_nil, over_append, over_comm}
use Rattle.records.specs.declared.Frame.{Frame}
use Rattle.records.specs.declared.Sink.{Sink}
use Rattle.records.specs.declared.Head.{Head}
use Rattle.bodies.specs.Emit.{Whole, Out, hold, put, closed, emit, emits}
use Rattle.bodies.specs.Sinks.{whole_of, out_of, Emits}
use Rattle.heads.specs.FieldTurns.{is_marked, HeadIs}
use Rattle.texts.specs.Text.{StopsBy}
use Rattle.bodies.specs.Fstring.{Room, SignedBy}
use Rattle.bodies.specs.Rows.{row_of, Through, rows_of, Signed}
use Rattle.bodies.proofs.RecordLaws.{Placed}
use Rattle.bodies.proofs.FstringLaws.{before_spec, signs_of, small_head, Gave, Sofar, start, start_pieces, content, one, field_read, read_pieces}

-- THE NUMBERS OF ROWS: ten for each, one row after another
module _ (within : ℕ) where
  pub length_numbers : (rs : List Row) → length (all_numbers within rs) ≡ length rs * 10
  unfolding all_numbers row_numbers
  length_numbers [] = refl
  length_numbers (r ∷ rs) = omega (arith, length_numbers rs)

  pub numbers_append : (xs ys : List Row) → all_numbers within (xs ++ ys) ≡ all_numbers within xs ++ all_numbers within ys
  unfolding all_numbers
  numbers_append [] ys = refl
  numbers_append (x ∷ xs) ys = ap (λ ns. row_numbers within x ++ ns) (numbers_append xs ys) ∙ sym (append_assoc (row_numbers within x) (all_numbers within xs) (all_numbers within ys))

  -- written from m on, where xs are m
  pub over_rows : (rows : List ℕ) (fields m : ℕ) (xs ys : List Row) → m ≡ fields + length xs
      → over (over rows (fields * 10) (all_numbers within xs)) (m * 10) (all_numbers within ys) ≡ over rows (fields * 10) (all_numbers within (xs ++ ys))
  over_rows rows fields m xs ys e =
      let n : m * 10 ≡ fields * 10 + length (all_numbers within xs) = omega (arith, length_numbers xs) in
      rw (n, numbers_append xs ys) (over_append rows (fields * 10) (all_numbers within xs) (all_numbers within ys))

module _ (fr : Frame) where
  rows_append : (ps qs : List Piece) → rows_of fr (ps ++ qs) ≡ rows_of fr ps ++ rows_of fr qs
  unfolding field_rows
  rows_append [] qs = refl
  rows_append (literal d t ∷ ps) qs = rows_append ps qs
  rows_append (field d e c n i g ∷ ps) qs = ap (λ r. record { start = fr.start; place = fr.base + i; expression = length e; conversion = c; signs = signs_at fr.base g } ∷ r) (rows_append ps qs)
  rows_append (spec n ∷ ps) qs = rows_append ps qs

  filled_rows : (depth : ℕ) (t : List ℕ) → rows_of fr (filled depth t) ≡ []
  unfolding field_rows filled
  filled_rows depth [] = refl
  filled_rows depth (b ∷ t) = refl

  documented_rows : (depth : ℕ) (d : Bool) (e : List ℕ) (w : ℕ) → rows_of fr (self_documenting depth d e w) ≡ []
  unfolding field_rows self_documenting
  documented_rows depth true e w = refl
  documented_rows depth false e w = refl

  -- the one row before a field's spec
  pub one_row : (depth : ℕ) (ex : List ℕ) (h : Head) (parts at colon close : ℕ) → rows_of fr (before_spec depth ex h parts at (signs_of h colon close)) ≡ row_of fr h (length ex) parts at colon close ∷ []
  unfolding field_rows
  one_row depth ex h parts at colon close =
      rows_append (self_documenting depth (is_marked h.equals) ex h.spaces) (field depth ex (converted (is_marked h.equals) h.conversion parts) parts at (signs_of h colon close) ∷ []) ∙ ap (λ r. r ++ (row_of fr h (length ex) parts at colon close ∷ [])) (documented_rows depth (is_marked h.equals) ex h.spaces)

  abbrev within : ℕ
  within = fr.window.within

  -- SIGNED: nothing, and one after another
  none_signed : (ps : List Piece) (rows : List ℕ) (fields : ℕ) → rows_of fr ps ≡ [] → Signed fr ps rows rows fields fields
  unfolding all_numbers
  none_signed ps rows fields e = record { wrote = λ whole q. rw (e, over_nil whole (fields * 10)) q; counted = rw e (omega arith) }

  pub both_signed : (ps qs : List Piece) (rows rows₁ rows₂ : List ℕ) (fields m n : ℕ) → Signed fr ps rows rows₁ fields m → Signed fr qs rows₁ rows₂ m n → Signed fr (ps ++ qs) rows rows₂ fields n
  both_signed ps qs rows rows₁ rows₂ fields m n a b =
      record {
        wrote = λ whole q.
            b.wrote (over whole (fields * 10) (all_numbers within (rows_of fr ps))) (a.wrote whole q)
            ∙ ap (drop (fr.window.skip * 10)) (over_rows within whole fields m (rows_of fr ps) (rows_of fr qs) a.counted ∙ ap (λ r. over whole (fields * 10) (all_numbers within r)) (sym (rows_append ps qs)));
        counted = omega (arith, b.counted, a.counted, ap length (rows_append ps qs), length-append (rows_of fr ps) (rows_of fr qs));
      }

  pub no_signs : (rows : List ℕ) (fields : ℕ) → Signed fr [] rows rows fields fields
  unfolding field_rows
  no_signs rows fields = none_signed [] rows fields refl

  pub filled_signed : (depth : ℕ) (t : List ℕ) (rows : List ℕ) (fields : ℕ) → Signed fr (filled depth t) rows rows fields fields
  filled_signed depth t rows fields = none_signed (filled depth t) rows fields (filled_rows depth t)

  pub literal_signed : (depth : ℕ) (t : List ℕ) (rows : List ℕ) (fields : ℕ) → Signed fr (literal depth t ∷ []) rows rows fields fields
  unfolding field_rows
  literal_signed depth t rows fields = none_signed (literal depth t ∷ []) rows fields refl

  -- text with what was read before it, and a field behind it
  pub text_signed : (ps : List Piece) (depth : ℕ) (t : List ℕ) (rows rows₁ : List ℕ) (fields n : ℕ) → Signed fr ps rows rows₁ fields n → Signed fr (ps ++ filled depth t) rows rows₁ fields n
  text_signed ps depth t rows rows₁ fields n a = both_signed ps (filled depth t) rows rows₁ rows₁ fields n n a (filled_signed depth t rows₁ n)

  -- A FIELD'S ROW is written at the place kept for it, behind which stand those of its spec
  module _ (depth : ℕ) (ex : List ℕ) (h : Head) (parts at colon close size : ℕ) (rows rows₁ rows₂ : List ℕ) (fields : ℕ) (s : size ≡ length ex)
      (put : Through fr.window rows₁ rows₂ (fields * 10) (row_numbers within (row_of fr h size parts at colon close))) where
    row : Row
    row = row_of fr h (length ex) parts at colon close

    pub closed_signed : rows₁ ≡ rows → Signed fr (before_spec depth ex h parts at (signs_of h colon close)) rows rows₂ fields (fields + 1)
    unfolding row all_numbers
    closed_signed e =
        record {
          wrote = λ whole q.
              put whole (e ∙ q)
              ∙ rw (s, one_row depth ex h parts at colon close) (ap (λ ns. drop (fr.window.skip * 10) (over whole (fields * 10) ns)) (sym (append-nil (row_numbers within row))));
          counted = rw (one_row depth ex h parts at colon close) refl;
        }

    pub field_signed : (ps : List Piece) (n m : ℕ) → Signed fr ps rows rows₁ (fields + 1) n → Signed fr (before_spec depth ex h parts at (signs_of h colon close) ++ (spec m ∷ ps)) rows rows₂ fields n
    unfolding row all_numbers row_numbers field_rows
    field_signed ps n m a =
        let e : rows_of fr (before_spec depth ex h parts at (signs_of h colon close) ++ (spec m ∷ ps)) ≡ row ∷ rows_of fr ps =
        rows_append (before_spec depth ex h parts at (signs_of h colon close)) (spec m ∷ ps) ∙ ap (λ r. r ++ rows_of fr ps) (one_row depth ex h parts at colon close) in
        let next : (fields + 1) * 10 ≡ fields * 10 + length (row_numbers within row) = omega arith in
        record {
          wrote = λ whole q.
              put (over whole ((fields + 1) * 10) (all_numbers within (rows_of fr ps))) (a.wrote whole q)
              ∙ rw (s, next, e)
              (ap (drop (fr.window.skip * 10))
              (sym (over_comm whole (fields * 10) (row_numbers within row) (fields * 10 + length (row_numbers within row)) (all_numbers within (rows_of fr ps)) (omega arith))
              ∙ over_append whole (fields * 10) (row_numbers within row) (all_numbers within (rows_of fr ps))));
          counted = rw e (omega (arith, a.counted));
        }

-- WHAT A READER SIGNED, by the definition's reading
pub read_signed : (read : d.Read (List Piece)) (ps : List Piece) (j n : ℕ) (fr : Frame) (rows rows' : List ℕ) (fields : ℕ)
    → read ≡ got ps j → SignedBy read fr rows rows' fields n → Signed fr ps rows rows' fields n
read_signed read ps j n fr rows rows' fields e h = rw e at h

pub to_sign : (read : d.Read (List Piece)) (ps : List Piece) (j n : ℕ) (fr : Frame) (rows rows' : List ℕ) (fields : ℕ)
    → read ≡ got ps j → Signed fr ps rows rows' fields n → SignedBy read fr rows rows' fields n
to_sign read ps j n fr rows rows' fields e h = rw e h

-- EACH FIELD HAS A RECORD, so there are no more fields than records
module _ (w : Whole) (kind start end base : ℕ) where
  abbrev of : Piece → Item
  of = item_of kind start end base

  closed_count : (o : Out) → o.count ≤ (closed w o).count
  unfolding closed
  closed_count o = go o.held refl
    where
      go : (b : Bool) → o.held ≡ b → o.count ≤ (closed w o).count
      go true e = rw e (omega arith)
      go false e = rw e (omega arith)

  emit_count : (x : Item) (o : Out) → (o.count ≤ (emit w x o).count) × (covers x.role ≡ false → o.count + 1 ≤ (emit w x o).count)
  unfolding emit hold put
  emit_count x o = go (covers x.role) refl
    where
      go : (b : Bool) → covers x.role ≡ b → (o.count ≤ (emit w x o).count) × (covers x.role ≡ false → o.count + 1 ≤ (emit w x o).count)
      go true e = rw e (omega arith, λ z. absurd (false≢true (sym z)))
      go false e = rw e (omega (arith, closed_count o), λ z. omega (arith, closed_count o))

  field_inner : (d : ℕ) (ex : List ℕ) (c n i : ℕ) (g : Signs) → covers (of (field d ex c n i g)).role ≡ false
  unfolding item_of item covers
  field_inner d ex c n i g = refl

  emits_count : (ps : List Piece) (o : Out) → o.count + length (field_rows start base ps) ≤ (emits w (map of ps) o).count
  unfolding emits field_rows
  emits_count [] o = omega arith
  emits_count (literal d t ∷ ps) o = omega (arith, emits_count ps (emit w (of (literal d t)) o), (emit_count (of (literal d t)) o).0)
  emits_count (field d ex c n i g ∷ ps) o = omega (arith, emits_count ps (emit w (of (field d ex c n i g)) o), (emit_count (of (field d ex c n i g)) o).1 (field_inner d ex c n i g))
  emits_count (spec n ∷ ps) o = omega (arith, emits_count ps (emit w (of (spec n)) o), (emit_count (of (spec n)) o).0)

pub fewer : (fr : Frame) (depth : ℕ) (ps : List Piece) (words text words' text' : List ℕ) (k r : Sink) → Emits fr depth ps words text words' text' k r → k.count + length (rows_of fr ps) ≤ r.count
fewer fr depth ps words text words' text' k r m =
    omega (arith, ap (λ o. o.count) m.out, emits_count (whole_of fr.whole) fr.kind fr.start fr.end fr.base ps (out_of k words text))

-- as many as there are rows
pub few_on : (fr : Frame) (depth : ℕ) (ps : List Piece) (words text words' text' rows rows' : List ℕ) (k r : Sink) (fields n : ℕ) → Emits fr depth ps words text words' text' k r → Signed fr ps rows rows' fields n
    → fields ≤ k.count → n ≤ r.count
few_on fr depth ps words text words' text' rows rows' k r fields n m a h = omega (arith, fewer fr depth ps words text words' text' k r m, a.counted)

pub few_field : (fr : Frame) (depth : ℕ) (ex : List ℕ) (h : Head) (parts at : ℕ) (words text words' text' : List ℕ) (k r : Sink) (fields : ℕ)
    → ((g : Signs) → Emits fr depth (before_spec depth ex h parts at g) words text words' text' k r) → fields ≤ k.count → fields + 1 ≤ r.count
few_field fr depth ex h parts at words text words' text' k r fields m l =
    let g = signs_of h 0 0 in
    omega (arith, fewer fr depth (before_spec depth ex h parts at g) words text words' text' k r (m g), ap length (one_row fr depth ex h parts at 0 0))

-- THE LOOP OF TEXT, with the rows of what was read: at its start
abbrev pub Rowing : (look : Naming) → List ℕ → (kind depth at : ℕ) → Frame → (words text words₁ text₁ rows rows₁ : List ℕ) → Sink → (fields i : ℕ) → Sink → ℕ → Type 0
Rowing look s kind depth at fr words text words₁ text₁ rows rows₁ k fields i r n =
    (S : Sofar look s kind depth at fr words text words₁ text₁ k i r) × Signed fr S.pieces rows rows₁ fields n × (n ≤ r.count)

pub begun : (look : Naming) → (s : List ℕ) (kind depth at : ℕ) (fr : Frame) (words text rows : List ℕ) (k : Sink) (fields : ℕ) → Room s at fr k → fields ≤ k.count
    → Rowing look s kind depth at fr words text words text rows rows k fields at k fields
begun look s kind depth at fr words text rows k fields h l =
    (start look s kind depth at fr words text k h, rw (start_pieces look s kind depth at fr words text k h) (no_signs fr rows fields), l)

-- text up to i' and a field there
module _ (look : Naming) (s : List ℕ) (depth at : ℕ) (fr : Frame) (words text words₁ text₁ : List ℕ) (k : Sink) (i : ℕ) (a : Sink) (S : Sofar look s fr.kind depth at fr words text words₁ text₁ k i a)
    (i' end : ℕ) (m : Move (List ℕ)) (text₂ : List ℕ) (R : StopsBy look m fr.kind s depth i a.used text₁ text₂ i' end) (words₂ : List ℕ) (b : Sink)
    (g : (t T : List ℕ) → end ≡ a.used + length t → Emits fr depth (filled depth t) words₁ T words₂ (over T a.used t) a b) where
  pub text_few : (n : ℕ) → n ≤ a.count → n ≤ b.count
  text_few n l =
      few_on fr depth (filled depth (content look s depth at fr words text words₁ text₁ k i a S i' end m text₂ R words₂ b g)) words₁ text₁ words₂ text₂ [] [] a b n n
      (one look s depth at fr words text words₁ text₁ k i a S i' end m text₂ R words₂ b g) (filled_signed fr depth (content look s depth at fr words text words₁ text₁ k i a S i' end m text₂ R words₂ b g) [] n) l

  pub goes_on : (f : ℕ) (h : m ≡ calls) (l : i' < length s) (e : f ≡ next s i') (words' text' : List ℕ) (j : ℕ) (r : Sink)
      (G : Gave (λ l. l) (field_n look (enough s) fr.kind s depth f f fresh) fr depth words₂ text₂ words' text' b j r)
      (rows rows₁ rows₂ : List ℕ) (fields n n' : ℕ) → Signed fr S.pieces rows rows₁ fields n → n ≤ a.count → Signed fr G.pieces rows₁ rows₂ n n'
      → Rowing look s fr.kind depth at fr words text words' text' rows rows₂ k fields j r n'
  goes_on f h l e words' text' j r G rows rows₁ rows₂ fields n n' p q z =
      let t = content look s depth at fr words text words₁ text₁ k i a S i' end m text₂ R words₂ b g in (
        field_read look s depth at fr words text words₁ text₁ k i a S i' end m text₂ R words₂ b g f h l e words' text' j r G,
        rw (read_pieces look s depth at fr words text words₁ text₁ k i a S i' end m text₂ R words₂ b g f h l e words' text' j r G)
            (both_signed fr (S.pieces ++ filled depth t) G.pieces rows rows₁ rows₂ fields n n' (text_signed fr S.pieces depth t rows rows₁ fields n p) z),
        few_on fr depth G.pieces words₂ text₂ words' text' rows₁ rows₂ b r n n' G.emits z (text_few n q),
      )

-- THE PLACES OF A ROW are numbers
pub placed : (m : Move Field) (s : List ℕ) (from used : ℕ) (fr : Frame) (k : Sink) (h : Head) (text text' : List ℕ) (colon close : ℕ) → HeadIs m s from used h text text' → Room s from fr k
    → colon ≤ length s → close ≤ length s → Placed fr h (h.used - used) from colon close
placed m s from used fr k h text text' colon close c R l n =
    let S = small_head m s from used h text text' c in
    record {
      expression = omega (arith, S.bounded, R.small);
      place = omega (arith, R.places, R.low);
      equals = omega (arith, R.places, c.equals_in, c.there);
      bang = omega (arith, R.places, c.bang_in, c.there);
      spec = omega (arith, R.places);
      end = omega (arith, R.places);
    }

-- a head ends in the body
pub head_in : (m : Move Field) (s : List ℕ) (from used : ℕ) (h : Head) (text text' : List ℕ) → HeadIs m s from used h text text' → h.at.at ≤ length s
head_in m s from used h text text' c = rw c.after (next_in s c.place (omega (arith, c.there)))
