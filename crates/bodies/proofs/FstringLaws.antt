-- The readers of an f-string: what each does to the counters and buffers is the definition's reading, emitted. Assumes nothing.
use mathlib.Core.Path.{◌≡◌, refl, sym, ◌∙◌, ap, subst}
use mathlib.Core.Bool.{Bool, true, false}
use mathlib.Core.Option.{none, some}
use mathlib.Core.List.{List, [], ◌∷◌, ◌++◌, map, map-append, append_assoc}
use Prim.Native.Nat.{ℕ, suc, ◌+◌, ◌-◌, ◌*◌, ◌≤◌, ◌<◌}
use native.Mathlib.Omega.{arith}
use lib.ListN.{length, drop, length-append, length-replicate, length-take, length-drop}
use Rattle.definition.specs.Chars.{◌is◌, part, at_end, code, next}
use Rattle.definition.specs.Numbers.{unclosed_lbrace, empty_expression, in_field}
use Rattle.definition.specs.Escapes as d
use Rattle.definition.specs.Escapes.{Naming, Fault, fault, detail, got, refused}
use Rattle.definition.specs.Body.{Signs, signs, with_colon, with_close, formatted, Piece, field, spec, filled, direct, Field, fresh, Move, calls, ends, text_n, field_n, spec_n, enough, conversion_of, field_pieces, self_documenting, finished, specified, first_end}
use Rattle.definition.specs.Records.{Item, item, item_of, covers, words_of, record_at}
use Rattle.utf8.specs.declared.Cursor.{Cursor}
use Rattle.buffers.specs.Over.{over}
use Rattle.marks.specs.declared.Refusal.{Refusal}
use Rattle.records.specs.declared.Frame.{Frame}
use Rattle.records.specs.declared.Sink.{Sink}
use Rattle.records.specs.declared.Head.{Head}
use Rattle.bodies.specs.declared.fstring.Read.TheVariants.{Done, Refused}
use Rattle.std.specs.Prelude.{Result, Ok, Err}
use Rattle.bodies.specs.Emit as E
use Rattle.bodies.specs.Emit.{bit, emits, reserved, filled_in}
use Rattle.bodies.specs.Sinks.{whole_of, out_of, is_held, load_of, Fits, Emits, spec_words}
use Rattle.marks.specs.Marks.{converted, fault_of}
use Rattle.bodies.specs.Fstring.{Room, Written, ReadIs, SpecIs}
use Rattle.edges.specs.Edges.{field_end}
use Rattle.bodies.proofs.Emitted.{spec_last, emits_append, put_free}
use Rattle.definition_laws.proofs.Moves.Moves.{weight, field_size, filled_light, part_short}
use Rattle.definition.proofs.Moves.CharLaws.{next_past, next_in, next_from}
use Rattle.texts.specs.Text.{too_large, StopsBy}
use Rattle.texts.proofs.Laws.{Bounds, not_large, text_bounds, text_same}
use Rattle.bodies.proofs.SinkLaws.{emits_both, grown}
use Rattle.definition_laws.proofs.Moves.Steps.{first_piece}
use Rattle.definition_laws.proofs.Moves.Whole.{text_end, text_field, text_field_stop, field_end_lem, field_spec, field_spec_stop, spec_text_lem, spec_end}
use Rattle.definition_laws.proofs.Moves.Fuel.{Reading, text_reading, field_reading, spec_reading, first_in_lem}
use Rattle.definition_laws.proofs.Moves.Depths.{spec_apart}
use Rattle.definition_laws.proofs.Moves.Prefix.{following, text_prefix}
use Rattle.heads.specs.FieldTurns.{is_marked, head_state, HeadIs, EndedIs}
use Rattle.heads.proofs.FieldLoop.{read_on}

part_length : (s : List ℕ) (i j : ℕ) → j ≤ length s → length (part s i j) ≡ j - i
part_length s i j h = omega (arith, length-take (j - i) (drop i s), length-drop i s)

-- WHAT A READER GAVE, BY THE DEFINITION'S READING
pub record Gave (more : List Piece → List Piece) (read : d.Read (List Piece)) (fr : Frame) (depth : ℕ) (words text words' text' : List ℕ) (k : Sink) (at : ℕ) (r : Sink) : Type 0 where
  pub pieces : List Piece
  pub reads : read ≡ got pieces at
  pub emits : Emits fr depth (more pieces) words text words' text' k r

module _ (more : List Piece → List Piece) (fr : Frame) (depth : ℕ) (words text words' text' : List ℕ) (k : Sink) where
  pub gave : (read : d.Read (List Piece)) (at : Cursor) (r : Sink) (n : ℕ) → Written more read fr depth words text words' text' k (Done at r n) → Gave more read fr depth words text words' text' k at.at r
  gave (got ps j) at r n h = record { pieces = ps; reads = ap (λ n. got ps n) (sym h.0); emits = h.1 }
  gave (refused y) at r n h = absurd h

  pub refuses : (read : d.Read (List Piece)) (x : Refusal) → Written more read fr depth words text words' text' k (Refused x) → read ≡ refused (fault_of x)
  refuses (got ps j) x h = absurd h
  refuses (refused y) x h = sym (ap (λ z. refused (fault_of z)) h)

  pub to_give : (read : d.Read (List Piece)) (ps : List Piece) (at : Cursor) (r : Sink) (n : ℕ) → read ≡ got ps at.at → Emits fr depth (more ps) words text words' text' k r → Written more read fr depth words text words' text' k (Done at r n)
  to_give read ps at r n e h = rw e (refl, h)

  pub to_refuse : (read : d.Read (List Piece)) (x : Refusal) → read ≡ refused (fault_of x) → Written more read fr depth words text words' text' k (Refused x)
  to_refuse read x e = rw e refl

-- a spec's item and words
spec_inner : (fr : Frame) (n : ℕ) → (covers (item_of fr.kind fr.start fr.end fr.base (spec n)).role ≡ false) × ((item_of fr.kind fr.start fr.end fr.base (spec n)).text ≡ [])
unfolding item_of item covers
spec_inner fr n = (refl, refl)

spec_words_lem : (fr : Frame) (n used : ℕ) (P : List ℕ → Type 0) → P (words_of (record_at used (item_of fr.kind fr.start fr.end fr.base (spec n)))) → P (spec_words fr used n)
unfolding item_of item words_of record_at
spec_words_lem fr n used P h = h

field_inner : (fr : Frame) (depth : ℕ) (ex : List ℕ) (c n at : ℕ) (g : Signs) → covers (item_of fr.kind fr.start fr.end fr.base (field depth ex c n at g)).role ≡ false
unfolding item_of item covers
field_inner fr depth ex c n at g = refl

-- A SPEC: its record is filled in once its parts are emitted
pub spec_done : (fr : Frame) (depth : ℕ) (ps : List Piece) (words text words₁ text₁ words₂ : List ℕ) (k a b r : Sink)
    → is_held k ≡ false → direct depth ps ≡ 0
    → ((words T : List ℕ) → out_of a words T ≡ reserved (out_of k words T)) → a.parts ≡ 0
    → Emits fr (suc depth) ps words text words₁ text₁ a b
    → ((T : List ℕ) → out_of r words₂ T ≡ filled_in k.count (spec_words fr k.used b.parts) (out_of b words₁ T)) → r.parts ≡ k.parts
    → Emits fr depth (spec (direct (suc depth) ps) ∷ ps) words text words₂ text₁ k r
unfolding direct
spec_done fr depth ps words text words₁ text₁ words₂ k a b r free apart res z m fill parts =
    record {
      out =
          fill text₁
          ∙ ap (filled_in k.count (spec_words fr k.used b.parts)) (m.out ∙ ap (emits w (map f ps)) (res words text))
          ∙ ap (λ n. filled_in k.count (spec_words fr k.used n) (emits w (map f ps) (reserved (out_of k words text)))) counted
          ∙ sym last;
      parts = omega (arith, parts, apart);
    }
  where
    w : E.Whole
    w = whole_of fr.whole

    f : Piece → Item
    f = item_of fr.kind fr.start fr.end fr.base

    n : ℕ
    n = direct (suc depth) ps

    counted : b.parts ≡ n
    counted = omega (arith, m.parts, z)

    last : emits w (f (spec n) ∷ map f ps) (out_of k words text) ≡ filled_in k.count (spec_words fr k.used n) (emits w (map f ps) (reserved (out_of k words text)))
    last = spec_words_lem fr n k.used (λ ws. emits w (f (spec n) ∷ map f ps) (out_of k words text) ≡ filled_in k.count ws (emits w (map f ps) (reserved (out_of k words text)))) (spec_last w (f (spec n)) (map f ps) (out_of k words text) (spec_inner fr n).0 (spec_inner fr n).1 free)

-- what a spec's pieces are: the first piece, and what text one depth further gives from the first `{` on
module _ (look : Naming) (kind : ℕ) (s : List ℕ) (depth i : ℕ) where
  pub spec_reads : i ≤ length s → (code s (first_end s i) is "{") ≡ true → (qs : List Piece) (j : ℕ) → text_n look (enough s) kind s (suc depth) (first_end s i) [] [] ≡ got qs j
      → spec_n look (enough s) kind s depth i ≡ got (first_piece s depth i ++ qs) j
  spec_reads l c qs j e =
      spec_text_lem look kind s depth i l c ∙ text_prefix look (enough s) kind s (suc depth) (first_end s i) [] (first_piece s depth i) ∙ ap (following (first_piece s depth i)) e

  pub spec_stops : i ≤ length s → (code s (first_end s i) is "{") ≡ true → (y : Fault) → text_n look (enough s) kind s (suc depth) (first_end s i) [] [] ≡ refused y
      → spec_n look (enough s) kind s depth i ≡ refused y
  spec_stops l c y e =
      spec_text_lem look kind s depth i l c ∙ text_prefix look (enough s) kind s (suc depth) (first_end s i) [] (first_piece s depth i) ∙ ap (following (first_piece s depth i)) e

-- A FIELD
converted_none : (d : Bool) (c : ℕ) → converted d c 0 ≡ conversion_of d c none
unfolding conversion_of
converted_none true c = refl
converted_none false c = refl

converted_some : (d : Bool) (c : ℕ) (ps : List Piece) → converted d c 1 ≡ conversion_of d c (some ps)
unfolding conversion_of
converted_some true c ps = refl
converted_some false c ps = refl

-- the pieces of a field before its spec, and its signs at its end
abbrev pub before_spec : ℕ → List ℕ → Head → ℕ → ℕ → Signs → List Piece
before_spec depth ex h parts at g =
    self_documenting depth (is_marked h.equals) ex h.spaces ++ (field depth ex (converted (is_marked h.equals) h.conversion parts) parts at g ∷ [])

abbrev pub signs_of : Head → (colon close : ℕ) → Signs
signs_of h colon close = signs h.equals h.bang colon close

module _ (s : List ℕ) (depth from : ℕ) (ex : List ℕ) (h : Head) where
  finished_plain : (j : ℕ) → h.blank ≡ false → finished depth from j (head_state ex h) none ≡ got (before_spec depth ex h 0 from (signs_of h 0 j)) j
  unfolding finished field_pieces with_close
  finished_plain j b = rw (b, converted_none (is_marked h.equals) h.conversion)

  module _ (colon : ℕ) (ps : List Piece) where
    -- all pieces of a field that ends after its spec
    abbrev pub with_spec : ℕ → List Piece
    with_spec close = before_spec depth ex h 1 from (signs_of h colon close) ++ (spec (direct (suc depth) ps) ∷ ps)

    finished_formatted : (j : ℕ) → h.blank ≡ false → finished depth from j (formatted colon (head_state ex h)) (some ps) ≡ got (with_spec j) j
    unfolding finished field_pieces formatted with_colon with_close
    finished_formatted j b =
        rw (b, converted_some (is_marked h.equals) h.conversion ps)
        (ap (λ l. got l j) (sym (append_assoc (self_documenting depth (is_marked h.equals) ex h.spaces) (field depth ex (conversion_of (is_marked h.equals) h.conversion (some ps)) 1 from (signs_of h colon j) ∷ []) (spec (direct (suc depth) ps) ∷ ps))))

    finished_blank : (j : ℕ) → h.blank ≡ true → finished depth from j (formatted colon (head_state ex h)) (some ps) ≡ refused (fault empty_expression j)
    unfolding finished formatted
    finished_blank j b = rw b

    -- the end of a field after its spec
    specified_end : (j : ℕ) → at_end s j ≡ true → specified s depth from j (formatted colon (head_state ex h)) ps ≡ refused (detail unclosed_lbrace j in_field)
    unfolding specified
    specified_end j e = rw e

    specified_on : (j : ℕ) → at_end s j ≡ false → specified s depth from j (formatted colon (head_state ex h)) ps ≡ finished depth from (next s j) (formatted colon (head_state ex h)) (some ps)
    unfolding specified
    specified_on j e = rw e

    abbrev Ends : ℕ → Result Cursor Refusal → Type 0
    Ends j (Ok q) = (specified s depth from j (formatted colon (head_state ex h)) ps ≡ got (with_spec q.at) q.at) × (q.at ≤ length s)
    Ends j (Err x) = specified s depth from j (formatted colon (head_state ex h)) ps ≡ refused (fault_of x)

    pub ended : (j : ℕ) → j ≤ length s → Ends j (field_end s j h.blank)
    ended j l = go (at_end s j) refl h.blank refl
      where
        go : (x : Bool) → at_end s j ≡ x → (y : Bool) → h.blank ≡ y → Ends j (field_end s j y)
        go true p y q = rw p (specified_end j p)
        go false p true q = rw p (specified_on j p ∙ finished_blank (next s j) q)
        go false p false q = rw p (specified_on j p ∙ finished_formatted (next s j) q, next_in s j l)

-- a head that no `}` ended has one part
pub one_part : (s : List ℕ) (from used : ℕ) (h : Head) (parts : ℕ) (text text' : List ℕ) → EndedIs s from used h parts text text' → (parts ≡ 0 → ⊥) → parts ≡ 1
one_part s from used h parts text text' c n = omega (arith, c.few)

-- A FIELD THAT ITS `}` ENDS
module _ (look : Naming) (s : List ℕ) (depth from used : ℕ) (fr : Frame) (text text₁ : List ℕ) (h : Head) (c : EndedIs s from used h 0 text text₁) where
  abbrev pub closed_pieces : List Piece
  closed_pieces = before_spec depth c.head.expression h 0 from (signs_of h 0 h.at.at)

  pub closed_reads : field_n look (enough s) fr.kind s depth from from fresh ≡ got closed_pieces h.at.at
  closed_reads =
      read_on c.head.leads look fr.kind depth
      ∙ field_end_lem look fr.kind s depth from c.head.place (head_state c.head.expression h) c.head.moves
      ∙ finished_plain s depth from c.head.expression h (next s c.head.place) (c.full refl)
      ∙ ap (λ n. got (before_spec depth c.head.expression h 0 from (signs_of h 0 n)) n) (sym c.head.after)

  pub closed_field : (words words' text' : List ℕ) (k r : Sink) (n : ℕ) → Emits fr depth closed_pieces words text words' text' k r
      → ReadIs (field_n look (enough s) fr.kind s depth from from fresh) fr depth words text words' text' k (Done h.at r n)
  closed_field words words' text' k r n m =
      to_give (λ l. l) fr depth words text words' text' k (field_n look (enough s) fr.kind s depth from from fresh) closed_pieces h.at r n closed_reads m

-- A FIELD WHOSE SPEC WAS READ up to j, as far as its pieces ps
module _ (look : Naming) (s : List ℕ) (depth from used : ℕ) (fr : Frame) (text text₁ : List ℕ) (h : Head) (c : HeadIs calls s from used h text text₁) where
  abbrev reading : d.Read (List Piece)
  reading = field_n look (enough s) fr.kind s depth from from fresh

  module _ (ps : List Piece) (j : ℕ) (e : spec_n look (enough s) fr.kind s depth h.at.at ≡ got ps j) where
    abbrev pub spec_pieces : ℕ → List Piece
    spec_pieces close = with_spec s depth from c.expression h h.at.at ps close

    to_end_lem : reading ≡ specified s depth from j (formatted h.at.at (head_state c.expression h)) ps
    to_end_lem =
        read_on c.leads look fr.kind depth
        ∙ field_spec look fr.kind s depth from c.place (head_state c.expression h) c.there c.moves ps j (ap (spec_n look (enough s) fr.kind s depth) (sym c.after) ∙ e)
        ∙ ap (λ n. specified s depth from j (formatted n (head_state c.expression h)) ps) (sym c.after)

    within : j ≤ length s
    within =
        let low : h.at.at ≤ length s = rw c.after (next_in s c.place (omega (arith, c.there))) in
        (subst (λ x. Reading weight 0 s h.at.at x) e (spec_reading look (enough s) fr.kind s depth h.at.at low (omega arith))).0.1

    ends_at : (x : Result Cursor Refusal) → x ≡ field_end s j h.blank → Ends s depth from c.expression h h.at.at ps j x
    ends_at x q = rw q (ended s depth from c.expression h h.at.at ps j within)

    -- it is refused there, or ends
    pub spec_unended : (x : Refusal) → Err x ≡ field_end s j h.blank → reading ≡ refused (fault_of x)
    spec_unended x q = to_end_lem ∙ ends_at (Err x) q

    pub spec_ended : (q : Cursor) → Ok q ≡ field_end s j h.blank → (reading ≡ got (spec_pieces q.at) q.at) × (q.at ≤ length s)
    spec_ended q p = let w = ends_at (Ok q) p in (to_end_lem ∙ w.0, w.1)

    pub specified_field : (q : Cursor) → Ok q ≡ field_end s j h.blank → (words words₁ text₂ words' text' : List ℕ) (k a b : Sink) (n : ℕ)
        → ((g : Signs) → Emits fr depth (before_spec depth c.expression h 1 from g) words text words₁ text₂ k a)
        → Emits fr depth (spec (direct (suc depth) ps) ∷ ps) words₁ text₂ words' text' a b
        → ReadIs reading fr depth words text words' text' k (Done q b n)
    specified_field q p words words₁ text₂ words' text' k a b n m f =
        to_give (λ l. l) fr depth words text words' text' k reading (spec_pieces q.at) q b n (spec_ended q p).0
        (emits_both fr depth (before_spec depth c.expression h 1 from (signs_of h h.at.at q.at)) (spec (direct (suc depth) ps) ∷ ps) words text words₁ text₂ words' text' k a b (m (signs_of h h.at.at q.at)) f)

-- what a field's reading is, once its head was read up to a `:` and its spec gave something
module _ (look : Naming) (s : List ℕ) (depth from used : ℕ) (kind : ℕ) (text text₁ : List ℕ) (h : Head) (c : HeadIs calls s from used h text text₁) where
  pub unformatted_field : (y : Fault) → spec_n look (enough s) kind s depth h.at.at ≡ refused y → field_n look (enough s) kind s depth from from fresh ≡ refused y
  unformatted_field y e =
      read_on c.leads look kind depth
      ∙ field_spec_stop look kind s depth from c.place (head_state c.expression h) c.there c.moves y (ap (spec_n look (enough s) kind s depth) (sym c.after) ∙ e)

-- TEXT: the loop's state. The definition has come to i with pieces, which are emitted
pub record Sofar (look : Naming) (s : List ℕ) (kind depth at : ℕ) (fr : Frame) (words text words₁ text₁ : List ℕ) (k : Sink) (i : ℕ) (r : Sink) : Type 0 where
  pub pieces : List Piece
  pub same : text_n look (enough s) kind s depth at [] [] ≡ text_n look (enough s) kind s depth i [] pieces
  pub emitted : Emits fr depth pieces words text words₁ text₁ k r
  pub room : Room s i fr r
  pub later : at ≤ i

-- ROOM is kept by what is light
pub room_on : (s : List ℕ) (i j depth : ℕ) (fr : Frame) (ps : List Piece) (words text words' text' : List ℕ) (k r : Sink)
    → Emits fr depth ps words text words' text' k r → Room s i fr k → i ≤ j → j ≤ length s → weight ps + 4 * i ≤ 4 * j → Room s j fr r
room_on s i j depth fr ps words text words' text' k r m h l b w =
    record {
      low = b;
      small = h.small;
      places = h.places;
      load = omega (arith, (grown fr depth ps words text words' text' k r m).load, h.load);
      ordered = (grown fr depth ps words text words' text' k r m).ordered h.ordered;
    }

pub fits : (s : List ℕ) (i : ℕ) (fr : Frame) (k : Sink) → Room s i fr k → Fits k
fits s i fr k h = record { small = omega (arith, h.load); ordered = h.ordered }

-- where there is room, text is read
pub readable : (s : List ℕ) (i : ℕ) (fr : Frame) (k : Sink) → Room s i fr k → too_large s k.used ≡ false
readable s i fr k h = not_large s k.used h.small (omega (arith, h.load))

-- what a field writes before its spec leaves room for the spec's record
pub before_spec_light : (s : List ℕ) (depth from : ℕ) (ex : List ℕ) (h : Head) (parts place : ℕ) → field_size (head_state ex h) + 4 * from ≤ 4 * place → place < length s
    → (g : Signs) → weight (before_spec depth ex h parts from g) + 4 * from + 1 ≤ 4 * next s place
unfolding self_documenting
before_spec_light s depth from ex h parts place l p g = go (is_marked h.equals) refl (next_past s place p)
  where
    go : (b : Bool) → is_marked h.equals ≡ b → place < next s place → weight (before_spec depth ex h parts from g) + 4 * from + 1 ≤ 4 * next s place
    go true e n = let z = rw e at l in rw e (omega (arith, length-append ex (61 ∷ []), length-replicate {A = ℕ} h.spaces 32))
    go false e n = let z = rw e at l in rw e (omega arith)

-- the head's numbers are small
pub record Small (h : Head) (used n : ℕ) : Type 0 where
  pub more : used ≤ h.used
  pub bounded : h.used + h.spaces ≤ used + 2 * n

pub small_head : (m : Move Field) (s : List ℕ) (from used : ℕ) (h : Head) (text text' : List ℕ) → HeadIs m s from used h text text' → Small h used (length s)
small_head m s from used h text text' c = go (is_marked h.equals) refl
  where
    go : (b : Bool) → is_marked h.equals ≡ b → Small h used (length s)
    go true e = let z = rw e at c.small in record { more = omega (arith, c.grown); bounded = omega (arith, c.grown, c.there) }
    go false e = let z = rw e at c.small in record { more = omega (arith, c.grown); bounded = omega (arith, c.grown, c.there) }

-- nothing is held after a field
pub free_field : (fr : Frame) (depth : ℕ) (ex : List ℕ) (h : Head) (parts at : ℕ) (g : Signs) (words text words' text' : List ℕ) (k r : Sink)
    → Emits fr depth (before_spec depth ex h parts at g) words text words' text' k r → is_held r ≡ false
free_field fr depth ex h parts at g words text words' text' k r m =
    ap (λ o. o.held) (m.out ∙ ap (λ xs. emits w xs (out_of k words text)) (map-append f front last) ∙ emits_append w (map f front) (map f last) (out_of k words text))
    ∙ put_free w (f (field depth ex (converted (is_marked h.equals) h.conversion parts) parts at g)) (emits w (map f front) (out_of k words text)) (field_inner fr depth ex (converted (is_marked h.equals) h.conversion parts) parts at g)
  where
    w : E.Whole
    w = whole_of fr.whole

    f : Piece → Item
    f = item_of fr.kind fr.start fr.end fr.base

    front : List Piece
    front = self_documenting depth (is_marked h.equals) ex h.spaces

    last : List Piece
    last = field depth ex (converted (is_marked h.equals) h.conversion parts) parts at g ∷ []

-- THE LOOP OF TEXT
pub start : (look : Naming) → (s : List ℕ) (kind depth at : ℕ) (fr : Frame) (words text : List ℕ) (k : Sink) → Room s at fr k → Sofar look s kind depth at fr words text words text k at k
unfolding emits direct
start look s kind depth at fr words text k h = record { pieces = []; same = refl; emitted = record { out = refl; parts = omega arith }; room = h; later = omega arith }

pub start_pieces : (look : Naming) → (s : List ℕ) (kind depth at : ℕ) (fr : Frame) (words text : List ℕ) (k : Sink) (h : Room s at fr k) → (start look s kind depth at fr words text k h).pieces ≡ []
unfolding start
start_pieces look s kind depth at fr words text k h = refl

module _ (look : Naming) (s : List ℕ) (depth at : ℕ) (fr : Frame) (words text words₁ text₁ : List ℕ) (k : Sink) (i : ℕ) (a : Sink) (S : Sofar look s fr.kind depth at fr words text words₁ text₁ k i a) where
  -- text up to i', which is emitted if it is not empty
  module _ (i' end : ℕ) (m : Move (List ℕ)) (text₂ : List ℕ) (R : StopsBy look m fr.kind s depth i a.used text₁ text₂ i' end) (words₂ : List ℕ) (b : Sink)
      (g : (t T : List ℕ) → end ≡ a.used + length t → Emits fr depth (filled depth t) words₁ T words₂ (over T a.used t) a b) where
    abbrev pub content : List ℕ
    content = R.upto.content

    pub one : Emits fr depth (filled depth content) words₁ text₁ words₂ text₂ a b
    one = subst (λ x. Emits fr depth (filled depth content) words₁ text₁ words₂ x a b) (sym R.upto.wrote) (g content text₁ R.upto.ended)

    all : Emits fr depth (S.pieces ++ filled depth content) words text words₂ text₂ k b
    all = emits_both fr depth S.pieces (filled depth content) words text words₁ text₁ words₂ text₂ k a b S.emitted one

    same : text_n look (enough s) fr.kind s depth at [] [] ≡ text_n look (enough s) fr.kind s depth i' content S.pieces
    same = S.same ∙ text_same look fr.kind s depth i i' content R.upto.leads S.pieces

    bounds : Bounds s i i' content
    bounds = text_bounds look fr.kind s depth i i' content R.upto.leads

    pub room_text : (j : ℕ) → i' ≤ j → j ≤ length s → Room s j fr b
    room_text j l n = room_on s i j depth fr (filled depth content) words₁ text₁ words₂ text₂ a b one S.room (omega (arith, bounds.ahead)) n (omega (arith, filled_light depth content, bounds.light))

    -- the text ends there
    pub over_reads : (j : ℕ) → j ≡ i' → m ≡ ends → text_n look (enough s) fr.kind s depth at [] [] ≡ got (S.pieces ++ filled depth content) j
    over_reads j e h = same ∙ text_end look fr.kind s depth i' content S.pieces (R.move ∙ h) ∙ ap (got (S.pieces ++ filled depth content)) (sym e)

    pub text_over : (q : Cursor) (n : ℕ) → q.at ≡ i' → m ≡ ends → ReadIs (text_n look (enough s) fr.kind s depth at [] []) fr depth words text words₂ text₂ k (Done q b n)
    text_over q n e h =
        to_give (λ l. l) fr depth words text words₂ text₂ k (text_n look (enough s) fr.kind s depth at [] []) (S.pieces ++ filled depth content) q b n (over_reads q.at e h) all

    -- a field opens there, which is refused
    pub field_refused : (f : ℕ) (x : Refusal) → m ≡ calls → i' < length s → f ≡ next s i'
        → field_n look (enough s) fr.kind s depth f f fresh ≡ refused (fault_of x)
        → (words' text' : List ℕ) → ReadIs (text_n look (enough s) fr.kind s depth at [] []) fr depth words text words' text' k (Refused x)
    field_refused f x h l e q words' text' =
        to_refuse (λ l. l) fr depth words text words' text' k (text_n look (enough s) fr.kind s depth at [] []) x
        (same ∙ text_field_stop look fr.kind s depth i' content S.pieces (omega arith) (R.move ∙ h) (fault_of x) (ap (λ n. field_n look (enough s) fr.kind s depth n n fresh) (sym e) ∙ q))

    -- or read, and the text goes on behind it
    pub field_read : (f : ℕ) → m ≡ calls → i' < length s → f ≡ next s i' → (words' text' : List ℕ) (j : ℕ) (r : Sink)
        → Gave (λ l. l) (field_n look (enough s) fr.kind s depth f f fresh) fr depth words₂ text₂ words' text' b j r
        → Sofar look s fr.kind depth at fr words text words' text' k j r
    unfolding fresh
    field_read f h l e words' text' j r G =
        record {
          pieces = S.pieces ++ filled depth content ++ G.pieces;
          same = same ∙ text_field look fr.kind s depth i' content S.pieces (omega arith) (R.move ∙ h) G.pieces j sound.1 q;
          emitted = emits_both fr depth (S.pieces ++ filled depth content) G.pieces words text words₂ text₂ words' text' k b r all G.emits;
          room = room_on s f j depth fr G.pieces words₂ text₂ words' text' b r G.emits (room_text f after low) sound.0 sound.1 (omega (arith, light));
          later = omega (arith, S.later, bounds.ahead, sound.0, after);
        }
      where
        after : i' ≤ f
        after = rw e (next_from s i')

        low : f ≤ length s
        low = rw e (next_in s i' (omega arith))

        q : field_n look (enough s) fr.kind s depth (next s i') (next s i') fresh ≡ got G.pieces j
        q = ap (λ n. field_n look (enough s) fr.kind s depth n n fresh) (sym e) ∙ G.reads

        both : Reading weight (field_size fresh) s f (got G.pieces j)
        both = subst (λ x. Reading weight (field_size fresh) s f x) G.reads (field_reading look (enough s) fr.kind s depth f f low (omega arith))

        sound : (f ≤ j) × (j ≤ length s)
        sound = both.0

        light : weight G.pieces + 4 * f ≤ 0 + 4 * j
        light = both.1

    pub read_pieces : (f : ℕ) (h : m ≡ calls) (l : i' < length s) (e : f ≡ next s i') (words' text' : List ℕ) (j : ℕ) (r : Sink)
        (G : Gave (λ l. l) (field_n look (enough s) fr.kind s depth f f fresh) fr depth words₂ text₂ words' text' b j r)
        → (field_read f h l e words' text' j r G).pieces ≡ S.pieces ++ filled depth content ++ G.pieces
    unfolding field_read
    read_pieces f h l e words' text' j r G = refl

    -- past where the text began
    pub field_further : (f : ℕ) → i' < length s → f ≡ next s i' → (words' text' : List ℕ) (j : ℕ) (r : Sink)
        → Gave (λ l. l) (field_n look (enough s) fr.kind s depth f f fresh) fr depth words₂ text₂ words' text' b j r → (i < j) × (j ≤ length s)
    field_further f l e words' text' j r G = (omega (arith, both.0.0, next_past s i' l, e, bounds.ahead), both.0.1)
      where
        both : Reading weight (field_size fresh) s f (got G.pieces j)
        both = subst (λ x. Reading weight (field_size fresh) s f x) G.reads (field_reading look (enough s) fr.kind s depth f f (rw e (next_in s i' (omega arith))) (omega arith))

-- a text's run leaves numbers small
pub record Ended (used end n : ℕ) : Type 0 where
  pub more : used ≤ end
  pub bounded : end ≤ used + 2 * n

pub run_ended : (look : Naming) → (m : Move (List ℕ)) (kind : ℕ) (s : List ℕ) (depth from used : ℕ) (text text' : List ℕ) (i end : ℕ) → StopsBy look m kind s depth from used text text' i end → Ended used end (length s)
run_ended look m kind s depth from used text text' i end R =
    let b = text_bounds look kind s depth from i R.upto.content R.upto.leads in
    record { more = omega (arith, R.upto.ended); bounded = omega (arith, R.upto.ended, b.light, b.near) }

-- THE SPEC OF A FIELD: its room, after what comes before it
pub record SpecRoom (s : List ℕ) (from at : ℕ) (fr : Frame) (a : Sink) : Type 0 where
  pub room : Room s at fr a
  pub free : is_held a ≡ false
  pub strict : load_of a + 8 * (length s - at) < 16777216
  pub further : from < at

pub spec_room : (s : List ℕ) (depth from used : ℕ) (fr : Frame) (words text words' text₁ text' : List ℕ) (k a : Sink) (h : Head) (c : HeadIs calls s from used h text text₁)
    → Room s from fr k → (g : Signs) → Emits fr depth (before_spec depth c.expression h 1 from g) words text words' text' k a → SpecRoom s from h.at.at fr a
spec_room s depth from used fr words text words' text₁ text' k a h c R g m =
    record {
      room = room_on s from h.at.at depth fr ps words text words' text' k a m R (omega (arith, c.later, past)) low (omega (arith, light));
      free = free_field fr depth c.expression h 1 from g words text words' text' k a m;
      strict = omega (arith, (grown fr depth ps words text words' text' k a m).load, R.load, R.low, light, low);
      further = omega (arith, c.later, past);
    }
  where
    ps : List Piece
    ps = before_spec depth c.expression h 1 from g

    past : c.place < h.at.at
    past = rw c.after (next_past s c.place c.there)

    low : h.at.at ≤ length s
    low = rw c.after (next_in s c.place (omega (arith, c.there)))

    light : weight ps + 4 * from + 1 ≤ 4 * h.at.at
    light = rw c.after (before_spec_light s depth from c.expression h 1 c.place c.small c.there g)

-- a place kept for a spec
pub record Kept (k a : Sink) : Type 0 where
  pub used : a.used ≡ k.used
  pub count : a.count ≡ k.count + 1
  pub held : is_held a ≡ is_held k
  pub load : load_of a ≤ load_of k + 1
  pub ordered : k.from ≤ k.used → a.from ≤ a.used

pub kept : (k a : Sink) → ((words T : List ℕ) → out_of a words T ≡ reserved (out_of k words T)) → a.parts ≡ 0 → Kept k a
unfolding reserved
kept k a e z =
    let o = e [] [] in
    record {
      used = ap (λ x. x.used) o;
      count = ap (λ x. x.count) o;
      held = ap (λ x. x.held) o;
      load = omega (arith, ap (λ x. x.count) o, ap (λ x. x.used) o, ap (λ x. bit x.held) o, z);
      ordered = λ h. rw (ap (λ x. x.from) o, ap (λ x. x.used) o) h;
    }

-- the room behind it
pub room_kept : (s : List ℕ) (at : ℕ) (fr : Frame) (k a : Sink) → Room s at fr k → load_of k + 8 * (length s - at) < 16777216 → Kept k a → Room s at fr a
room_kept s at fr k a R l q = record { low = R.low; small = R.small; places = R.places; load = omega (arith, q.load); ordered = q.ordered R.ordered }

-- a spec's first piece, emitted behind the place kept for the spec
module _ (s : List ℕ) (depth i : ℕ) (fr : Frame) (words text words₁ text₁ : List ℕ) (k a b : Sink) (end j : ℕ)
    (R : Room s i fr k) (l : load_of k + 8 * (length s - i) < 16777216) (q : Kept k a)
    (at : j ≡ first_end s i) (size : end + i ≡ k.used + j) (wrote : text₁ ≡ over text k.used (part s i j))
    (g : (t T : List ℕ) → end ≡ a.used + length t → Emits fr (suc depth) (filled (suc depth) t) words T words₁ (over T a.used t) a b) where
  first_size : length (part s i j) ≡ j - i
  first_size = rw at (part_length s i (first_end s i) (first_in_lem s i R.low))

  pub first_emits : Emits fr (suc depth) (first_piece s depth i) words text words₁ text₁ a b
  first_emits =
      subst (λ x. Emits fr (suc depth) (filled (suc depth) (part s i x)) words text words₁ text₁ a b) at
      (subst (λ x. Emits fr (suc depth) (filled (suc depth) (part s i j)) words text words₁ x a b) (sym (wrote ∙ ap (λ n. over text n (part s i j)) (sym q.used)))
      (g (part s i j) text (omega (arith, first_size, q.used, at))))

  pub first_room : Room s j fr b
  first_room =
      room_on s i j (suc depth) fr (first_piece s depth i) words text words₁ text₁ a b first_emits (room_kept s i fr k a R l q) (omega (arith, at)) (rw at (first_in_lem s i R.low))
      (omega (arith, at, filled_light (suc depth) (part s i (first_end s i)), part_short s i (first_end s i)))

  module _ (look : Naming) (free : is_held k ≡ false) (res : (words T : List ℕ) → out_of a words T ≡ reserved (out_of k words T)) (z : a.parts ≡ 0) where
    -- the spec's record is filled in behind pieces that it gave
    spec_filled : (ps : List Piece) (n : ℕ) (words₂ text₂ words₃ : List ℕ) (c r : Sink)
        → spec_n look (enough s) fr.kind s depth i ≡ got ps n → Emits fr (suc depth) ps words text words₂ text₂ a c
        → ((T : List ℕ) → out_of r words₃ T ≡ filled_in k.count (spec_words fr k.used c.parts) (out_of c words₂ T)) → r.parts ≡ k.parts
        → (to : Cursor) (fields : ℕ) → to.at ≡ n → SpecIs (spec_n look (enough s) fr.kind s depth i) fr depth words text words₃ text₂ k (Done to r fields)
    spec_filled ps n words₂ text₂ words₃ c r e m f p to fields w =
        to_give (λ ps. spec (direct (suc depth) ps) ∷ ps) fr depth words text words₃ text₂ k (spec_n look (enough s) fr.kind s depth i) ps to r fields
        (e ∙ ap (got ps) (sym w))
        (spec_done fr depth ps words text words₂ text₂ words₃ k a c r free (spec_apart look (enough s) fr.kind s depth i ps n e) res z m f p)

    pub plain_reads : (n : ℕ) → n ≡ j → (code s j is "{") ≡ false → spec_n look (enough s) fr.kind s depth i ≡ got (first_piece s depth i) n
    plain_reads n w c = spec_end look fr.kind s depth i (ap (λ n. code s n is "{") (sym at) ∙ c) ∙ ap (got (first_piece s depth i)) (sym (w ∙ at))

    pub spec_plain : (words₂ : List ℕ) (r : Sink) (to : Cursor) (fields : ℕ) → to.at ≡ j → (code s j is "{") ≡ false
        → ((T : List ℕ) → out_of r words₂ T ≡ filled_in k.count (spec_words fr k.used b.parts) (out_of b words₁ T)) → r.parts ≡ k.parts
        → SpecIs (spec_n look (enough s) fr.kind s depth i) fr depth words text words₂ text₁ k (Done to r fields)
    spec_plain words₂ r to fields w c f p =
        spec_filled (first_piece s depth i) to.at words₁ text₁ words₂ b r (plain_reads to.at w c) first_emits f p to fields refl

    -- the counters once its parts are emitted
    pub spec_fits : (words₂ text₂ : List ℕ) (b' : Sink) (to : ℕ)
        → Gave (λ l. l) (text_n look (enough s) fr.kind s (suc depth) j [] []) fr (suc depth) words₁ text₁ words₂ text₂ b to b' → Fits b'
    spec_fits words₂ text₂ b' to G =
        fits s to fr b'
        (room_on s j to (suc depth) fr G.pieces words₁ text₁ words₂ text₂ b b' G.emits first_room both.0.0 both.0.1 (omega (arith, both.1)))
      where
        both : Reading weight 0 s j (got G.pieces to)
        both = subst (λ x. Reading weight 0 s j x) G.reads (text_reading look (enough s) fr.kind s (suc depth) j [] [] first_room.low (omega arith))

    module _ (c : (code s j is "{") ≡ true) where
      brace : (code s (first_end s i) is "{") ≡ true
      brace = ap (λ n. code s n is "{") (sym at) ∙ c

      pub braced_reads : (ps : List Piece) (n : ℕ) → text_n look (enough s) fr.kind s (suc depth) j [] [] ≡ got ps n → spec_n look (enough s) fr.kind s depth i ≡ got (first_piece s depth i ++ ps) n
      braced_reads ps n e = spec_reads look fr.kind s depth i R.low brace ps n (ap (λ n. text_n look (enough s) fr.kind s (suc depth) n [] []) (sym at) ∙ e)

      pub spec_braced : (words₂ text₂ words₃ : List ℕ) (b' r : Sink) (to : Cursor) (fields : ℕ)
          → Gave (λ l. l) (text_n look (enough s) fr.kind s (suc depth) j [] []) fr (suc depth) words₁ text₁ words₂ text₂ b to.at b'
          → ((T : List ℕ) → out_of r words₃ T ≡ filled_in k.count (spec_words fr k.used b'.parts) (out_of b' words₂ T)) → r.parts ≡ k.parts
          → SpecIs (spec_n look (enough s) fr.kind s depth i) fr depth words text words₃ text₂ k (Done to r fields)
      spec_braced words₂ text₂ words₃ b' r to fields G f p =
          spec_filled (first_piece s depth i ++ G.pieces) to.at words₂ text₂ words₃ b' r (braced_reads G.pieces to.at G.reads)
          (emits_both fr (suc depth) (first_piece s depth i) G.pieces words text words₁ text₁ words₂ text₂ a b b' first_emits G.emits) f p to fields refl

      pub spec_refused : (words₂ text₂ : List ℕ) (x : Refusal) → text_n look (enough s) fr.kind s (suc depth) j [] [] ≡ refused (fault_of x)
          → SpecIs (spec_n look (enough s) fr.kind s depth i) fr depth words text words₂ text₂ k (Refused x)
      spec_refused words₂ text₂ x e =
          to_refuse (λ ps. spec (direct (suc depth) ps) ∷ ps) fr depth words text words₂ text₂ k (spec_n look (enough s) fr.kind s depth i) x
          (spec_stops look fr.kind s depth i R.low brace (fault_of x) (ap (λ n. text_n look (enough s) fr.kind s (suc depth) n [] []) (sym at) ∙ e))
