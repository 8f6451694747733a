-- What `records` writes, where no number wraps, is what emitting does. Assumes nothing.
use mathlib.Core.Path.{◌≡◌, refl, sym, ◌∙◌, ap, subst}
use mathlib.Core.Bool.{Bool, true, false}
use mathlib.Core.List.{List, [], ◌∷◌, ◌++◌}
use Prim.Native.Nat.{ℕ, zero, suc, ◌+◌, ◌-◌, ◌*◌, ◌≤◌, ◌<◌, min}
use native.Mathlib.Omega.{arith}
use lib.Dec.{eqb, ltb}
use lib.ListN.{length, drop, drop_of_length-le, replicate}
use borrow.Author.Tests.{eqb-true, eqb-false, ne_eqb, ltb-true, ltb-false}
use Rattle.definition.specs.Chars.{part}
use Rattle.definition.specs.Body.{Signs, literal, field, filled, self_documenting}
use Rattle.definition.specs.Rows.{row_numbers, sign_at, signs_at}
use Rattle.marks.specs.Marks.{converted}
use Rattle.buffers.specs.Over.{over}
use Rattle.buffers.proofs.Over.{over_nil, drop_over}
use Rattle.records.specs.declared.Whole.{Whole}
use Rattle.records.specs.declared.Window.{Window}
use Rattle.records.specs.declared.Frame.{Frame}
use Rattle.records.specs.declared.Sink.{Sink}
use Rattle.records.specs.declared.Head.{Head}
use Rattle.records.specs.Counts.{word, plus, minus}
use Rattle.records.specs.Written.{Written, written, held_words, closed, put, held, ended, spec_text, reserved, specified, equal_end, spaces_end, documented, spaced, documented_text, field_put}
use Rattle.records.specs.Written as w
use Rattle.records.specs.Rows.{windowed}
use Rattle.records.specs.Rows as r
use Rattle.records.proofs.Counting.{word_small, plus_small, minus_small}
use Rattle.bodies.specs.Emit as e
use Rattle.bodies.specs.Sinks.{out_of, is_held, load_of, Fits, Emits, spec_words}
use Rattle.heads.specs.FieldTurns.{is_marked}
use Rattle.bodies.specs.Rows.{row_of, Through}
use Rattle.bodies.proofs.SinkLaws.{Closes, Writes, Documents, UpTo, closed_fits, put_writes, held_literal, inner_literal, no_text, some_text, put_field, documents, documents_none, literal_upto, upto_both, documented_field}

-- A HELD TEXT IS CLOSED
closes : (w : Whole) (k : Sink) (words : List ℕ) → Fits k → Closes w words (closed w (written words k)).words k (closed w (written words k)).sink
unfolding closed held_words e.closed e.held_words
closes w k words f = go (is_held k) refl
  where
    go : (b : Bool) → is_held k ≡ b → Closes w words (closed w (written words k)).words k (closed w (written words k)).sink
    go true h =
        rw (h, word_small k.from (omega arith), minus_small k.used k.from f.ordered (omega arith), word_small (k.used - k.from) (omega arith), plus_small k.count 1 (omega arith))
        (record { out = λ T. rw h; parts = refl })
    go false h = rw h (record { out = λ T. rw h; parts = refl })

pub closed_written : (w : Whole) (k r : Sink) (words words' : List ℕ) → Fits k → written words' r ≡ closed w (written words k) → Closes w words words' k r
closed_written w k r words words' f q = subst (λ o. Closes w words o.words k o.sink) (sym q) (closes w k words f)

-- A RECORD IS PUT behind what was closed
writes : (fr : Frame) (to kind conversion parts place : ℕ) (k a : Sink) (t words words₁ T : List ℕ) → Fits a → a.used ≤ to → to < 4294967296 → to ≡ k.used + length t → Closes fr.whole words words₁ k a
    → Writes fr kind conversion parts place t words (put fr to kind conversion parts place (written words₁ a)).words T k (put fr to kind conversion parts place (written words₁ a)).sink
unfolding put
writes fr to kind conversion parts place k a t words words₁ T f l m s c =
    rw (word_small a.used (omega arith), minus_small to a.used l (omega arith), word_small (to - a.used) (omega arith), plus_small a.count 1 (omega arith), plus_small a.parts 1 (omega arith))
    (put_writes fr kind conversion parts place t words words₁ _ T k a to s c refl)

module _ (fr : Frame) (to : ℕ) (k : Sink) (words : List ℕ) (f : Fits k) (l : k.used ≤ to) (m : to < 4294967296) where
  put_closed : (kind conversion parts place : ℕ) (t T : List ℕ) → to ≡ k.used + length t
      → Writes fr kind conversion parts place t words (put fr to kind conversion parts place (closed fr.whole (written words k))).words T k (put fr to kind conversion parts place (closed fr.whole (written words k))).sink
  put_closed kind conversion parts place t T s =
      let c = closes fr.whole k words f in
      let a = closed fr.whole (written words k) in
      let z = closed_fits fr.whole k a.sink words a.words to c f l m in
      writes fr to kind conversion parts place k a.sink t words a.words T z.0 z.1.0 m s c

  -- A LITERAL
  literal_emits : (depth : ℕ) (t T : List ℕ) → to ≡ k.used + length t → Emits fr depth (literal depth t ∷ []) words T (w.literal fr to depth (written words k)).words (over T k.used t) k (w.literal fr to depth (written words k)).sink
  unfolding w.literal held
  literal_emits zero t T s = rw (plus_small k.parts 1 (omega arith)) (held_literal fr t words T k _ to s refl)
  literal_emits (suc depth) t T s =
      let n : suc depth ≡ 0 → ⊥ = λ q. omega arith in
      rw (ne_eqb (suc depth) 0 n) (inner_literal fr (suc depth) t words _ T k _ n (put_closed 1 0 0 0 t T s))

  ended_emits : (depth : ℕ) (t T : List ℕ) → to ≡ k.used + length t → Emits fr depth (filled depth t) words T (ended fr to depth (written words k)).words (over T k.used t) k (ended fr to depth (written words k)).sink
  unfolding ended
  ended_emits depth t T s = go (eqb k.used to) refl
    where
      go : (b : Bool) → eqb k.used to ≡ b → Emits fr depth (filled depth t) words T (ended fr to depth (written words k)).words (over T k.used t) k (ended fr to depth (written words k)).sink
      go true h = rw h (no_text fr depth t words T k (omega (arith, eqb-true k.used to h)))
      go false h = rw (h, some_text depth t (λ z. eqb-false k.used to h (omega arith))) (literal_emits depth t T s)

  module _ (depth : ℕ) (words' : List ℕ) (r : Sink) where
    pub literal_written : written words' r ≡ w.literal fr to depth (written words k) → (t T : List ℕ) → to ≡ k.used + length t → Emits fr depth (literal depth t ∷ []) words T words' (over T k.used t) k r
    literal_written q t T s = subst (λ o. Emits fr depth (literal depth t ∷ []) words T o.words (over T k.used t) k o.sink) (sym q) (literal_emits depth t T s)

    pub ended_written : written words' r ≡ ended fr to depth (written words k) → (t T : List ℕ) → to ≡ k.used + length t → Emits fr depth (filled depth t) words T words' (over T k.used t) k r
    ended_written q t T s = subst (λ o. Emits fr depth (filled depth t) words T o.words (over T k.used t) k o.sink) (sym q) (ended_emits depth t T s)

-- A SPEC'S FIRST TEXT is a literal one depth further, since nothing is held
pub spec_text_ended : (fr : Frame) (to depth : ℕ) (k : Sink) (words : List ℕ) → is_held k ≡ false → spec_text fr to (written words k) ≡ ended fr to (suc depth) (written words k)
unfolding spec_text ended w.literal closed
spec_text_ended fr to depth k words free = rw (ne_eqb (suc depth) 0 (λ q. omega arith), free)

-- A PLACE KEPT FOR A SPEC, and filled in
pub reserved_kept : (k r : Sink) → Fits k → r ≡ reserved k → ((words T : List ℕ) → out_of r words T ≡ e.reserved (out_of k words T)) × (r.parts ≡ 0)
unfolding reserved e.reserved
reserved_kept k r f q =
    subst (λ x. ((words T : List ℕ) → out_of x words T ≡ e.reserved (out_of k words T)) × (x.parts ≡ 0)) (sym q)
    (λ words T. ap (λ n. record { words = words; text = T; count = n; used = k.used; held = is_held k; from = k.from }) (plus_small k.count 1 (omega arith)), refl)

pub specified_filled : (fr : Frame) (before k r : Sink) (words words' : List ℕ) → Fits before → Fits k → written words' r ≡ specified fr before (written words k)
    → ((T : List ℕ) → out_of r words' T ≡ e.filled_in before.count (spec_words fr before.used k.parts) (out_of k words T)) × (r.parts ≡ before.parts)
unfolding specified e.filled_in
specified_filled fr before k r words words' b f q =
    subst (λ o. ((T : List ℕ) → out_of o.sink o.words T ≡ e.filled_in before.count (spec_words fr before.used k.parts) (out_of k words T)) × (o.sink.parts ≡ before.parts)) (sym q)
    (λ T. rw (word_small before.used (omega arith), word_small k.parts (omega arith)), refl)

-- A FIELD: its literals, if it documents itself
record Documented (fr : Frame) (h : Head) (depth : ℕ) (k : Sink) (words : List ℕ) (o : Written) : Type 0 where
  upto : UpTo 2 o.sink.used k o.sink
  near : o.sink.used ≤ h.used + 1 + h.spaces
  emitted : (text e T : List ℕ) → h.used ≡ k.used + length e → text ≡ over T k.used e
      → Documents fr depth (is_marked h.equals) e h.spaces words T o.words (documented_text h k.used text) k o.sink

module _ (fr : Frame) (h : Head) (depth : ℕ) (k : Sink) (words : List ℕ) (f : Fits k) (l : k.used ≤ h.used)
    (m : load_of k + h.used + h.used + h.used + h.spaces + h.spaces < 4294967200) where
  equal : equal_end h ≡ h.used + 1
  equal = plus_small h.used 1 (omega arith)

  spaces : spaces_end h ≡ h.used + 1 + h.spaces
  spaces = ap (λ n. plus n h.spaces) equal ∙ plus_small (h.used + 1) h.spaces (omega arith)

  -- both literals
  abbrev first : Written
  first = w.literal fr (equal_end h) depth (written words k)

  abbrev both : Written
  both = w.literal fr (spaces_end h) depth first

  first_emits : (t T : List ℕ) → equal_end h ≡ k.used + length t → Emits fr depth (literal depth t ∷ []) words T first.words (over T k.used t) k first.sink
  first_emits = literal_emits fr (equal_end h) k words f (omega (arith, equal)) (omega (arith, equal)) depth

  first_upto : UpTo 1 (equal_end h) k first.sink
  first_upto = literal_upto fr depth (equal_end h) words first.words k first.sink (omega (arith, equal)) first_emits

  first_fits : Fits first.sink
  first_fits = record { small = omega (arith, first_upto.load, equal); ordered = first_upto.ordered f.ordered }

  both_emits : (t T : List ℕ) → spaces_end h ≡ first.sink.used + length t → Emits fr depth (literal depth t ∷ []) first.words T both.words (over T first.sink.used t) first.sink both.sink
  both_emits = literal_emits fr (spaces_end h) first.sink first.words first_fits (omega (arith, first_upto.used, equal, spaces)) (omega (arith, spaces)) depth

  both_upto : UpTo 1 (spaces_end h) first.sink both.sink
  both_upto = literal_upto fr depth (spaces_end h) first.words both.words first.sink both.sink (omega (arith, first_upto.used, equal, spaces)) both_emits

  documented_is : Documented fr h depth k words (documented fr h depth (written words k))
  unfolding documented documented_text spaced
  documented_is = go (is_marked h.equals) refl
    where
      go : (b : Bool) → is_marked h.equals ≡ b → Documented fr h depth k words (documented fr h depth (written words k))
      go true z =
          rw z
          (record {
            upto = upto_both (equal_end h) (spaces_end h) k first.sink both.sink first_upto both_upto;
            near = omega (arith, both_upto.used, spaces);
            emitted = λ text e T s p.
                rw z
                (documents fr depth e h.spaces T words first.words both.words text (over text h.used (61 ∷ [])) (spaced h text) _ k first.sink both.sink h.used s p refl
                (ap (λ n. over (over text h.used (61 ∷ [])) n (replicate h.spaces 32)) equal) (ap (λ n. over (spaced h text) n (part (spaced h text) k.used (min h.used n))) spaces)
                (λ t T q. first_emits t T (equal ∙ q)) (λ t T q. both_emits t T (spaces ∙ q)));
          })
      go false z =
          rw z
          (record {
            upto = record { used = refl; load = omega arith; ordered = λ o. o };
            near = omega arith;
            emitted = λ text e T s p. rw z (documents_none fr depth e h.spaces T words text k p);
          })

  -- and the field's record behind them
  module _ (parts at : ℕ) (n : fr.base + at < 4294967296) where
    abbrev front : Written
    front = documented fr h depth (written words k)

    end : plus front.sink.used (minus h.used k.used) ≡ front.sink.used + (h.used - k.used)
    end = let d = documented_is.near in ap (plus front.sink.used) (minus_small h.used k.used l (omega arith)) ∙ plus_small front.sink.used (h.used - k.used) (omega arith)

    front_fits : Fits front.sink
    front_fits = let u = documented_is.upto in let d = documented_is.near in record { small = omega (arith, u.load); ordered = u.ordered f.ordered }

    pub field_written : (words' text text' : List ℕ) (r : Sink) → (written words' r ≡ w.field fr h parts at depth (written words k)) × (text' ≡ documented_text h k.used text)
        → (e T : List ℕ) (g : Signs) → h.used ≡ k.used + length e → text ≡ over T k.used e
        → Emits fr depth (self_documenting depth (is_marked h.equals) e h.spaces ++ (field depth e (converted (is_marked h.equals) h.conversion parts) parts at g ∷ [])) words T words' text' k r
    unfolding w.field field_put
    field_written words' text text' r q e T g s p =
        subst (λ x. Emits fr depth (self_documenting depth (is_marked h.equals) e h.spaces ++ (field depth e c parts at g ∷ [])) words T words' x k r) (sym q.1)
        (documented_field fr depth (is_marked h.equals) e h.spaces c parts at g T words front.words words' (documented_text h k.used text) k front.sink r (documented_is.emitted text e T s p)
        (λ T'. put_field fr depth c parts at (word (fr.base + at)) g e front.words words' T' front.sink r (word_small (fr.base + at) n)
        (subst (λ o. Writes fr 2 c parts (word (fr.base + at)) e front.words o.words T' front.sink o.sink) (sym q.0) (wrote T'))))
      where
        c : ℕ
        c = converted (is_marked h.equals) h.conversion parts

        to : ℕ
        to = plus front.sink.used (minus h.used k.used)

        wrote : (T' : List ℕ) → Writes fr 2 c parts (word (fr.base + at)) e front.words (put fr to 2 c parts (word (fr.base + at)) (closed fr.whole front)).words T' front.sink (put fr to 2 c parts (word (fr.base + at)) (closed fr.whole front)).sink
        wrote T' = put_closed fr to front.sink front.words front_fits (omega (arith, end)) (omega (arith, end, documented_is.near)) 2 c parts (word (fr.base + at)) e T' (omega (arith, end))

-- A ROW, whose places are numbers
pub record Placed (fr : Frame) (h : Head) (size at colon close : ℕ) : Type 0 where
  pub expression : size < 4294967296
  pub place : fr.base + at < 4294967296
  pub equals : fr.base + h.equals < 4294967296
  pub bang : fr.base + h.bang < 4294967296
  pub spec : fr.base + colon < 4294967296
  pub end : fr.base + close < 4294967296

sign_small : (base taken : ℕ) → base + taken < 4294967296 → word (sign_at base taken) ≡ sign_at base taken
unfolding sign_at
sign_small base zero h = word_small 0 (omega arith)
sign_small base (suc j) h = word_small (base + suc j) h

-- through a window, before it or in it
through : (v : Window) (fields : ℕ) (ns rows : List ℕ) → length ns ≤ 10 → Through v rows (windowed v fields ns rows) (fields * 10) ns
unfolding windowed
through v fields ns rows l whole q = go (ltb fields v.skip) refl
  where
    go : (b : Bool) → ltb fields v.skip ≡ b → windowed v fields ns rows ≡ drop (v.skip * 10) (over whole (fields * 10) ns)
    go true h =
        let n = ltb-true fields v.skip h in
        rw (h, drop_over, ← q, drop_of_length-le ns {i = v.skip * 10 - fields * 10} (omega arith)) (sym (over_nil rows _))
    go false h =
        let n = ltb-false fields v.skip h in
        let at : fields * 10 - v.skip * 10 ≡ (fields - v.skip) * 10 = omega arith in
        let all : v.skip * 10 - fields * 10 ≡ 0 = omega arith in
        rw (h, drop_over, ← q, at, all)

pub row_written : (fr : Frame) (h : Head) (fields size parts at colon close : ℕ) (rows rows' : List ℕ) → Placed fr h size at colon close
    → rows' ≡ windowed fr.window fields (row_numbers fr.window.within (r.row_of fr h size parts at colon close)) rows
    → Through fr.window rows rows' (fields * 10) (row_numbers fr.window.within (row_of fr h size parts at colon close))
unfolding row_numbers signs_at
row_written fr h fields size parts at colon close rows rows' p q =
    subst (λ x. Through fr.window rows x (fields * 10) (row_numbers fr.window.within (row_of fr h size parts at colon close))) (sym (q ∙ same))
    (through fr.window fields (row_numbers fr.window.within (row_of fr h size parts at colon close)) rows (omega arith))
  where
    same : windowed fr.window fields (row_numbers fr.window.within (r.row_of fr h size parts at colon close)) rows ≡ windowed fr.window fields (row_numbers fr.window.within (row_of fr h size parts at colon close)) rows
    same =
        rw (word_small (fr.base + at) p.place, word_small size p.expression, sign_small fr.base h.equals p.equals, sign_small fr.base h.bang p.bang, sign_small fr.base colon p.spec, sign_small fr.base close p.end)
