-- What the callees of the cycle answer, put together: each law takes contracts as they stand, so that no answer writes out what it read. Assumes nothing.
use mathlib.Core.Path.{◌≡◌, refl, subst, ◌∙◌}
use mathlib.Core.Bool.{false, true}
use mathlib.Core.List.{List, [], ◌∷◌}
use Prim.Native.Nat.{ℕ, suc, ◌+◌, ◌-◌, ◌*◌, ◌≤◌, ◌<◌}
use native.Mathlib.Omega.{arith}
use lib.ListN.{length}
use Rattle.definition.specs.Chars.{◌is◌, code, part}
use Rattle.definition.specs.Escapes.{Naming}
use Rattle.definition.specs.Escapes as d
use Rattle.definition.specs.Body.{Signs, Piece, spec, direct, filled, fresh, Move, calls, text_n, field_n, spec_n, enough, first_end}
use Rattle.definition.specs.Rows.{row_numbers}
use Rattle.definition.proofs.Moves.CharLaws.{next_past, next_in}
use Rattle.definition_laws.proofs.Moves.Steps.{first_piece}
use Rattle.definition_laws.proofs.Moves.Fuel.{first_in_lem}
use Rattle.utf8.specs.declared.Cursor.{Cursor}
use Rattle.buffers.specs.Over.{over}
use Rattle.marks.specs.declared.Refusal.{Refusal}
use Rattle.records.specs.declared.Frame.{Frame}
use Rattle.records.specs.declared.Sink.{Sink}
use Rattle.records.specs.declared.Head.{Head}
use Rattle.bodies.specs.declared.fstring.Read.TheVariants.{Done, Refused}
use Rattle.std.specs.Prelude.{Ok, Err}
use Rattle.records.specs.Written.{written, ended, spec_text, specified, documented_text}
use Rattle.records.specs.Written as w
use Rattle.records.specs.Rows.{windowed}
use Rattle.records.specs.Rows as r
use Rattle.bodies.specs.Emit.{reserved, filled_in}
use Rattle.bodies.specs.Sinks.{out_of, is_held, load_of, Fits, Emits, spec_words}
use Rattle.marks.specs.Marks.{fault_of}
use Rattle.texts.specs.Text.{StopsBy, OpensBefore}
use Rattle.texts.proofs.Laws.{text_bounds, opens_shallow}
use Rattle.heads.specs.FieldTurns.{HeadIs, EndedIs, end_of}
use Rattle.bodies.specs.Fstring.{Room, ReadIs, SpecIs, SignedBy}
use Rattle.edges.specs.Edges.{field_end}
use Rattle.bodies.specs.Rows.{Signed}
use Rattle.bodies.proofs.RecordLaws.{Placed, ended_written, spec_text_ended, specified_filled, field_written, row_written}
use Rattle.bodies.proofs.FstringLaws.{before_spec, signs_of, one_part, gave, refuses, to_refuse, fits, small_head, run_ended, Gave, Sofar, SpecRoom, Kept, spec_room, closed_field, closed_reads, unformatted_field, spec_unended, spec_ended, specified_field, room_text, field_refused, field_further, spec_fits, spec_braced, braced_reads}
use Rattle.bodies.proofs.RowLaws.{Rowing, closed_signed, field_signed, filled_signed, both_signed, read_signed, to_sign, few_field, text_few, goes_on, placed, head_in}

-- A FIELD, whose head was read and emitted
module _ (s : List ℕ) (depth from : ℕ) (fr : Frame) (k : Sink) (h : Head) (parts : ℕ) (text text₁ words words₁ text₂ : List ℕ) (a : Sink) (c : EndedIs s from k.used h parts text text₁)
    (R : Room s from fr k) (wrote : (written words₁ a ≡ w.field fr h parts from depth (written words k)) × (text₂ ≡ documented_text h k.used text₁)) where
  abbrev read : Naming → d.Read (List Piece)
  read look = field_n look (enough s) fr.kind s depth from from fresh

  m : (e T : List ℕ) (g : Signs) → h.used ≡ k.used + length e → text₁ ≡ over T k.used e → Emits fr depth (before_spec depth e h parts from g) words T words₁ text₂ k a
  m =
      let S = small_head (end_of parts) s from k.used h text text₁ c.head in
      field_written fr h depth k words (fits s from fr k R) S.more (omega (arith, R.load, R.small, S.bounded)) parts from (omega (arith, R.places, R.low)) words₁ text₁ text₂ a wrote

  -- its `}` ended it
  module _ (z : parts ≡ 0) where
    closed : EndedIs s from k.used h 0 text text₁
    closed = rw z at c

    emitted : (g : Signs) → Emits fr depth (before_spec depth closed.head.expression h 0 from g) words text words₁ text₂ k a
    emitted g =
        subst (λ x. Emits fr depth (before_spec depth closed.head.expression h x from g) words text words₁ text₂ k a) z (m closed.head.expression text g closed.head.grown closed.head.wrote)

    module _ (look : Naming) where
      pub closed_returns : (rows rows₁ : List ℕ) (fields : ℕ) → rows₁ ≡ windowed fr.window fields (row_numbers fr.window.within (r.row_of fr h (h.used - k.used) parts from 0 h.at.at)) rows
          → ReadIs (read look) fr depth words text words₁ text₂ k (Done h.at a (fields + 1)) × SignedBy (read look) fr rows rows₁ fields (fields + 1)
      closed_returns rows rows₁ fields p = (
        closed_field look s depth from k.used fr text text₁ h closed words words₁ text₂ k a (fields + 1) (emitted (signs_of h 0 h.at.at)),
        to_sign (read look) _ h.at.at (fields + 1) fr rows rows₁ fields (closed_reads look s depth from k.used fr text text₁ h closed)
            (closed_signed fr depth closed.head.expression h 0 from 0 h.at.at (h.used - k.used) rows rows rows₁ fields (omega (arith, closed.head.grown))
            (rw z at (row_written fr h fields (h.used - k.used) parts from 0 h.at.at rows rows₁ there p)) refl),
      )
        where
          there : Placed fr h (h.used - k.used) from 0 h.at.at
          there = placed (end_of parts) s from k.used fr k h text text₁ 0 h.at.at c.head R (omega arith) (head_in (end_of parts) s from k.used h text text₁ c.head)

  -- a `:` ended it
  module _ (n : parts ≡ 0 → ⊥) where
    one : parts ≡ 1
    one = one_part s from k.used h parts text text₁ c n

    opened : HeadIs calls s from k.used h text text₁
    opened = (rw one at c).head

    begun : (g : Signs) → Emits fr depth (before_spec depth opened.expression h 1 from g) words text words₁ text₂ k a
    begun g =
        subst (λ x. Emits fr depth (before_spec depth opened.expression h x from g) words text words₁ text₂ k a) one (m opened.expression text g opened.grown opened.wrote)

    pub spec_asks : (fields : ℕ) → fields ≤ k.count → SpecRoom s from h.at.at fr a × (fields + 1 ≤ a.count)
    spec_asks fields l = (
      spec_room s depth from k.used fr words text words₁ text₁ text₂ k a h opened R (signs_of h 0 0) (begun (signs_of h 0 0)),
      few_field fr depth opened.expression h 1 from words text words₁ text₂ k a fields begun l,
    )

    module _ (look : Naming) where
      -- its spec was refused
      pub spec_refuses : (words' text' words₂ text₃ : List ℕ) (x : Refusal) → SpecIs (spec_n look (enough s) fr.kind s depth h.at.at) fr depth words₁ text₂ words₂ text₃ a (Refused x) → ReadIs (read look) fr depth words text words' text' k (Refused x)
      spec_refuses words' text' words₂ text₃ x q =
          to_refuse (λ l. l) fr depth words text words' text' k (read look) x
          (unformatted_field look s depth from k.used fr.kind text text₁ h opened (fault_of x) (refuses _ fr depth words₁ text₂ words₂ text₃ a _ x q))

      -- or read
      module _ (words₂ text₃ : List ℕ) (to : Cursor) (b : Sink) (count : ℕ) (q : SpecIs (spec_n look (enough s) fr.kind s depth h.at.at) fr depth words₁ text₂ words₂ text₃ a (Done to b count)) where
        answer : Gave (λ ps. spec (direct (suc depth) ps) ∷ ps) (spec_n look (enough s) fr.kind s depth h.at.at) fr depth words₁ text₂ words₂ text₃ a to.at b
        answer = gave _ fr depth words₁ text₂ words₂ text₃ a _ to b count q

        pub end_refuses : (words' text' : List ℕ) (x : Refusal) → Err x ≡ field_end s to.at h.blank → ReadIs (read look) fr depth words text words' text' k (Refused x)
        end_refuses words' text' x e =
            to_refuse (λ l. l) fr depth words text words' text' k (read look) x (spec_unended look s depth from k.used fr text text₁ h opened answer.pieces to.at answer.reads x e)

        module _ (close : Cursor) (e : Ok close ≡ field_end s to.at h.blank) where
          there : Placed fr h (h.used - k.used) from h.at.at close.at
          there =
              placed calls s from k.used fr k h text text₁ h.at.at close.at opened R (head_in calls s from k.used h text text₁ opened)
              (spec_ended look s depth from k.used fr text text₁ h opened answer.pieces to.at answer.reads close e).1

          pub spec_returns : (rows rows₁ rows₂ : List ℕ) (fields : ℕ) → rows₂ ≡ windowed fr.window fields (row_numbers fr.window.within (r.row_of fr h (h.used - k.used) parts from h.at.at close.at)) rows₁
              → SignedBy (spec_n look (enough s) fr.kind s depth h.at.at) fr rows rows₁ (fields + 1) count
              → ReadIs (read look) fr depth words text words₂ text₃ k (Done close b count) × SignedBy (read look) fr rows rows₂ fields count
          spec_returns rows rows₁ rows₂ fields p y = (
            specified_field look s depth from k.used fr text text₁ h opened answer.pieces to.at answer.reads close e words words₁ text₂ words₂ text₃ k a b count begun answer.emits,
            to_sign (read look) _ close.at count fr rows rows₂ fields (spec_ended look s depth from k.used fr text text₁ h opened answer.pieces to.at answer.reads close e).0
                (field_signed fr depth opened.expression h 1 from h.at.at close.at (h.used - k.used) rows rows₁ rows₂ fields (omega (arith, opened.grown)) (rw one at (row_written fr h fields (h.used - k.used) parts from h.at.at close.at rows₁ rows₂ there p)) answer.pieces count _
                (read_signed _ answer.pieces to.at count fr rows rows₁ (fields + 1) answer.reads y)),
          )

-- TEXT up to a place
pub text_written : (look : Naming) (s : List ℕ) (depth at : ℕ) (fr : Frame) (words text words₁ text₁ : List ℕ) (k : Sink) (i : ℕ) (a : Sink) → Sofar look s fr.kind depth at fr words text words₁ text₁ k i a
    → (i' end : ℕ) (m : Move (List ℕ)) (text₂ : List ℕ) → StopsBy look m fr.kind s depth i a.used text₁ text₂ i' end → (words₂ : List ℕ) (b : Sink) → written words₂ b ≡ ended fr end depth (written words₁ a)
    → (t T : List ℕ) → end ≡ a.used + length t → Emits fr depth (filled depth t) words₁ T words₂ (over T a.used t) a b
text_written look s depth at fr words text words₁ text₁ k i a S i' end m text₂ U words₂ b q =
    let R = S.room in
    let D = run_ended look m fr.kind s depth i a.used text₁ text₂ i' end U in
    ended_written fr end a words₁ (fits s i fr a R) D.more (omega (arith, D.bounded, R.load, R.small)) depth words₂ b q

-- and the field there
module _ (look : Naming) (s : List ℕ) (depth at : ℕ) (fr : Frame) (words text words₁ text₁ : List ℕ) (k : Sink) (i : ℕ) (a : Sink) (S : Sofar look s fr.kind depth at fr words text words₁ text₁ k i a)
    (f end : ℕ) (text₂ : List ℕ) (U : OpensBefore look fr.kind s depth i a.used text₁ text₂ f end) (words₂ : List ℕ) (b : Sink)
    (wrote : written words₂ b ≡ ended fr end depth (written words₁ a)) where
  g : (t T : List ℕ) → end ≡ a.used + length t → Emits fr depth (filled depth t) words₁ T words₂ (over T a.used t) a b
  g = text_written look s depth at fr words text words₁ text₁ k i a S U.brace end calls text₂ U.stops words₂ b wrote

  -- there is room for it, and it lies ahead
  pub field_asks : (n : ℕ) → n ≤ a.count → Room s f fr b × (n ≤ b.count) × (at < f) × (depth < 2)
  field_asks n l =
      let p = next_past s U.brace U.there in
      let q = next_in s U.brace (omega (arith, U.there)) in
      let t = U.stops.upto in (
        room_text look s depth at fr words text words₁ text₁ k i a S U.brace end calls text₂ U.stops words₂ b g f (omega (arith, p, U.after)) (omega (arith, q, U.after)),
        text_few look s depth at fr words text words₁ text₁ k i a S U.brace end calls text₂ U.stops words₂ b g n l,
        omega (arith, S.later, (text_bounds look fr.kind s depth i U.brace t.content t.leads).ahead, p, U.after),
        opens_shallow look fr.kind s depth U.brace t.content U.stops.move,
      )

  pub field_refuses : (words₃ text₃ : List ℕ) (x : Refusal) → ReadIs (field_n look (enough s) fr.kind s depth f f fresh) fr depth words₂ text₂ words₃ text₃ b (Refused x)
      → (words' text' : List ℕ) → ReadIs (text_n look (enough s) fr.kind s depth at [] []) fr depth words text words' text' k (Refused x)
  field_refuses words₃ text₃ x q words' text' =
      field_refused look s depth at fr words text words₁ text₁ k i a S U.brace end calls text₂ U.stops words₂ b g f x refl U.there U.after (refuses _ fr depth words₂ text₂ words₃ text₃ b _ x q) words' text'

  module _ (words₃ text₃ : List ℕ) (to : Cursor) (r : Sink) (count : ℕ) (q : ReadIs (field_n look (enough s) fr.kind s depth f f fresh) fr depth words₂ text₂ words₃ text₃ b (Done to r count)) where
    given : Gave (λ l. l) (field_n look (enough s) fr.kind s depth f f fresh) fr depth words₂ text₂ words₃ text₃ b to.at r
    given = gave _ fr depth words₂ text₂ words₃ text₃ b _ to r count q

    pub further : (i < to.at) × (to.at ≤ length s)
    further = field_further look s depth at fr words text words₁ text₁ k i a S U.brace end calls text₂ U.stops words₂ b g f U.there U.after words₃ text₃ to.at r given

    pub goes_further : (rows rows₁ rows₂ : List ℕ) (fields n : ℕ) → Signed fr S.pieces rows rows₁ fields n → n ≤ a.count → SignedBy (field_n look (enough s) fr.kind s depth f f fresh) fr rows₁ rows₂ n count
        → Rowing look s fr.kind depth at fr words text words₃ text₃ rows rows₂ k fields to.at r count
    goes_further rows rows₁ rows₂ fields n p l y =
        goes_on look s depth at fr words text words₁ text₁ k i a S U.brace end calls text₂ U.stops words₂ b g f refl U.there U.after words₃ text₃ to.at r given rows rows₁ rows₂ fields n count p l
        (read_signed _ given.pieces to.at count fr rows₁ rows₂ n given.reads y)

-- A SPEC's first piece behind the place kept for its record
pub first_written : (s : List ℕ) (depth i : ℕ) (fr : Frame) (words words₁ : List ℕ) (k a b : Sink) (end j : ℕ) → Room s i fr k → is_held k ≡ false → Kept k a → j ≡ first_end s i → end + i ≡ k.used + j
    → written words₁ b ≡ spec_text fr end (written words a)
    → (t T : List ℕ) → end ≡ a.used + length t → Emits fr (suc depth) (filled (suc depth) t) words T words₁ (over T a.used t) a b
first_written s depth i fr words words₁ k a b end j R free K at size q =
    let lo = first_in_lem s i R.low in
    ended_written fr end a words (record { small = omega (arith, K.load, R.load); ordered = K.ordered R.ordered })
    (omega (arith, K.used, at, size)) (omega (arith, at, size, R.load, R.small)) (suc depth) words₁ b (q ∙ spec_text_ended fr end depth a words (K.held ∙ free))

-- and text behind it
module _ (look : Naming) (s : List ℕ) (depth i : ℕ) (fr : Frame) (words text words₁ text₁ : List ℕ) (k a b : Sink) (end j : ℕ)
    (R : Room s i fr k) (l : load_of k + 8 * (length s - i) < 16777216) (K : Kept k a)
    (at : j ≡ first_end s i) (size : end + i ≡ k.used + j) (wrote : text₁ ≡ over text k.used (part s i j))
    (g : (t T : List ℕ) → end ≡ a.used + length t → Emits fr (suc depth) (filled (suc depth) t) words T words₁ (over T a.used t) a b)
    (free : is_held k ≡ false) (res : (words T : List ℕ) → out_of a words T ≡ reserved (out_of k words T)) (z : a.parts ≡ 0)
    (words₂ text₂ : List ℕ) (to : Cursor) (b' : Sink) (count : ℕ) (q : ReadIs (text_n look (enough s) fr.kind s (suc depth) j [] []) fr (suc depth) words₁ text₁ words₂ text₂ b (Done to b' count)) where
  behind : Gave (λ l. l) (text_n look (enough s) fr.kind s (suc depth) j [] []) fr (suc depth) words₁ text₁ words₂ text₂ b to.at b'
  behind = gave _ fr (suc depth) words₁ text₁ words₂ text₂ b _ to b' count q

  behind_fits : Fits b'
  behind_fits = spec_fits s depth i fr words text words₁ text₁ k a b end j R l K at size wrote g look free res z words₂ text₂ b' to.at behind

  pub braced_returns : (code s j is "{") ≡ true → (words₃ : List ℕ) (r : Sink) → written words₃ r ≡ specified fr k (written words₂ b')
      → (rows rows₁ : List ℕ) (fields : ℕ) → SignedBy (text_n look (enough s) fr.kind s (suc depth) j [] []) fr rows rows₁ fields count
      → SpecIs (spec_n look (enough s) fr.kind s depth i) fr depth words text words₃ text₂ k (Done to r count) × SignedBy (spec_n look (enough s) fr.kind s depth i) fr rows rows₁ fields count
  braced_returns c words₃ r f rows rows₁ fields y = (
    spec_braced s depth i fr words text words₁ text₁ k a b end j R l K at size wrote g look free res z c words₂ text₂ words₃ b' r to count behind filled_in_lem.0 filled_in_lem.1,
    to_sign (spec_n look (enough s) fr.kind s depth i) _ to.at count fr rows rows₁ fields (braced_reads s depth i fr words text words₁ text₁ k a b end j R l K at size wrote g look free res z c behind.pieces to.at behind.reads)
        (both_signed fr (first_piece s depth i) behind.pieces rows rows rows₁ fields fields count (filled_signed fr (suc depth) _ rows fields) (read_signed _ behind.pieces to.at count fr rows rows₁ fields behind.reads y)),
  )
    where
      filled_in_lem : ((T : List ℕ) → out_of r words₃ T ≡ filled_in k.count (spec_words fr k.used b'.parts) (out_of b' words₂ T)) × (r.parts ≡ k.parts)
      filled_in_lem = specified_filled fr k b' r words₂ words₃ (fits s i fr k R) behind_fits f
