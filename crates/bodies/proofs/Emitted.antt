-- Emitting items one by one, and closing what is held, is laying them out. Assumes nothing.
use Rattle.std.specs.Prelude.{if◌then◌else◌}
use mathlib.Core.Path.{◌≡◌, refl, sym, ◌∙◌, ap, ap₂}
use mathlib.Core.Bool.{Bool, true, false, true≢false, false≢true}
use mathlib.Core.List.{List, [], ◌∷◌, ◌++◌, map}
use Prim.Native.Nat.{ℕ, zero, suc, ◌+◌, ◌-◌, ◌*◌, ◌≤◌, ◌<◌}
use native.Mathlib.Nat.{add-zero}
use native.Mathlib.Omega.{arith}
use lib.ListN.{length, length-append}
use Rattle.definition.specs.Records.{Role, top, raw, inner, touching, covers, Item, item, item_of, words_of, glue, merge, both_items, merged, texts, record_at, laid, cover}
use Rattle.definition.specs.Reading.{all_words}
use Rattle.definition.specs.Numbers.{is_bytes}
use Rattle.definition.specs.Body.{Piece, literal, field, spec, direct}
use Rattle.definition_laws.proofs.Moves.Moves.{weight}
use lib.Dec.{eqb}
use Rattle.definition_laws.proofs.Join.Seam.{glue_false, glue_both}
use Rattle.definition_laws.proofs.Join.Laid.{item_role, items_assoc}
use Rattle.buffers.specs.Over.{over}
use Rattle.buffers.proofs.Over.{over_nil, over_append, over_comm}
use Rattle.bodies.specs.Emit.{Whole, Out, hold, held_words, closed, put, emit, emits, reserved, filled_in, bit, Top, Tops}

-- the state with the records of laid-out items written behind it, and nothing held
unfoldable pub done : Whole → Out → List Item → Out
done w o xs =
    record {
      words = over o.words (o.count * 8) (all_words (map (cover w.start w.end w.mark) (laid o.used xs)));
      text = over o.text o.used (texts xs);
      count = o.count + length xs;
      used = o.used + length (texts xs);
      held = false;
      from = 0;
    }

-- nothing is held
record Free (o : Out) : Type 0 where
  held : o.held ≡ false
  from : o.from ≡ 0

done_nil : (w : Whole) (o : Out) → Free o → o ≡ done w o []
unfolding done laid texts all_words
done_nil w o f =
    λ i. record {
      words = sym (over_nil o.words (o.count * 8)) i;
      text = sym (over_nil o.text o.used) i;
      count = sym (add-zero o.count) i;
      used = sym (add-zero o.used) i;
      held = f.held i;
      from = f.from i;
    }

-- one record more in front, of any words: what follows is written behind it
step : (w : Whole) (o : Out) (x : Item) (ys : List Item) (ws : List ℕ) → length ws ≡ 8
    → words_of (cover w.start w.end w.mark (record_at o.used x)) ≡ ws
    → (p : Out) → p.words ≡ over o.words (o.count * 8) ws → p.text ≡ over o.text o.used x.text → p.count ≡ o.count + 1 → p.used ≡ o.used + length x.text
    → done w p ys ≡ done w o (x ∷ ys)
unfolding done laid texts all_words
step w o x ys ws l e p pw pt pc pu =
    λ i. record { words = words i; text = text i; count = count i; used = used i; held = false; from = 0 }
  where
    rest : ℕ → List ℕ
    rest n = all_words (map (cover w.start w.end w.mark) (laid n ys))

    count : p.count + length ys ≡ o.count + suc (length ys)
    count = omega arith

    used : p.used + length (texts ys) ≡ o.used + length (x.text ++ texts ys)
    used = omega (arith, length-append x.text (texts ys))

    text : over p.text p.used (texts ys) ≡ over o.text o.used (x.text ++ texts ys)
    text = ap₂ (λ a n. over a n (texts ys)) pt pu ∙ over_append o.text o.used x.text (texts ys)

    far : p.count * 8 ≡ o.count * 8 + length ws
    far = omega arith

    words : over p.words (p.count * 8) (rest p.used) ≡ over o.words (o.count * 8) (words_of (cover w.start w.end w.mark (record_at o.used x)) ++ rest (o.used + length x.text))
    words =
        ap₂ (λ a n. over a n (rest p.used)) pw far
        ∙ ap (λ n. over (over o.words (o.count * 8) ws) (o.count * 8 + length ws) (rest n)) pu
        ∙ over_append o.words (o.count * 8) ws (rest (o.used + length x.text))
        ∙ ap (λ v. over o.words (o.count * 8) (v ++ rest (o.used + length x.text))) (sym e)

-- an inner item is put
done_put : (w : Whole) (o : Out) (x : Item) (ys : List Item) → covers x.role ≡ false → done w (put x o) ys ≡ done w o (x ∷ ys)
unfolding put words_of cover record_at
done_put w o x ys e =
    step w o x ys (words_of (record_at o.used x)) refl (rw e) (put x o) refl refl refl refl

-- a top-level item is held, and then closed
done_closed : (w : Whole) (role : Role) (o : Out) (x : Item) (ys : List Item) → Free o → Top w role x → covers role ≡ true → done w (closed w (hold x.text o)) ys ≡ done w o (x ∷ ys)
unfolding hold closed held_words words_of cover record_at
done_closed w role o x ys f t e =
    step w o x ys (w.kind ∷ o.used ∷ length x.text ∷ w.start ∷ w.end ∷ w.mark ∷ 0 ∷ 0 ∷ []) refl
    (rw (t.role_is, e, t.kind, t.parts, t.place))
    (closed w (hold x.text o))
    (rw f.held (ap (λ n. over o.words (o.count * 8) (w.kind ∷ o.used ∷ n ∷ w.start ∷ w.end ∷ w.mark ∷ 0 ∷ 0 ∷ [])) size))
    refl refl refl
  where
    size : o.used + length x.text - o.used ≡ length x.text
    size = omega arith

-- two texts held, one behind the other
hold_hold : (t u : List ℕ) (o : Out) → hold u (hold t o) ≡ hold (t ++ u) o
unfolding hold
hold_hold t u o =
    λ i. record {
      words = o.words;
      text = over_append o.text o.used t u i;
      count = o.count;
      used = used i;
      held = true;
      from = if o.held then o.from else o.used;
    }
  where
    used : o.used + length t + length u ≡ o.used + length (t ++ u)
    used = omega (arith, length-append t u)

-- closing what is not held changes nothing; a put leaves as much held as was
pub closed_free : (w : Whole) (o : Out) → o.held ≡ false → closed w o ≡ o
unfolding closed
closed_free w o e = rw e

free_closed : (w : Whole) (t : List ℕ) (o : Out) → Free (closed w (hold t o))
unfolding closed hold
free_closed w t o = record { held = refl; from = refl }

free_put : (x : Item) (o : Out) → Free o → Free (put x o)
unfolding put
free_put x o f = record { held = f.held; from = f.from }

touch_same : (role : Role) → covers role ≡ true → touching role role ≡ true
unfolding covers touching
touch_same top e = refl
touch_same raw e = refl
touch_same inner e = absurd (false≢true e)

touch_inner : (m n : Role) → covers n ≡ false → touching m n ≡ false
unfolding covers touching
touch_inner top top e = absurd (true≢false e)
touch_inner top raw e = refl
touch_inner top inner e = refl
touch_inner raw top e = refl
touch_inner raw raw e = absurd (true≢false e)
touch_inner raw inner e = refl
touch_inner inner n e = refl

inner_touches : (m n : Role) → covers m ≡ false → touching m n ≡ false
unfolding covers touching
inner_touches top n e = absurd (true≢false e)
inner_touches raw n e = absurd (true≢false e)
inner_touches inner n e = refl

-- an inner item touches nothing
glue_inner : (x : Item) (ys : List Item) → covers x.role ≡ false → glue item_role both_items x ys ≡ x ∷ ys
unfolding glue
glue_inner x [] e = refl
glue_inner x (y ∷ ys) e = glue_false item_role both_items x y ys (inner_touches x.role y.role e)

record Emitting (w : Whole) (role : Role) (xs : List Item) : Type 0 where
  free : (o : Out) → Free o → closed w (emits w xs o) ≡ done w o (merged xs)
  holding : (o : Out) (x : Item) → Free o → Top w role x → closed w (emits w xs (hold x.text o)) ≡ done w o (glue item_role both_items x (merged xs))

module _ (w : Whole) (role : Role) (c : covers role ≡ true) where
  emitting : (xs : List Item) → Tops w role xs → Emitting w role xs
  unfolding emits merged merge glue emit both_items
  emitting [] t =
      record {
        free = λ o f. closed_free w o f.held ∙ done_nil w o f;
        holding = λ o x f h. done_nil w (closed w (hold x.text o)) (free_closed w x.text o) ∙ done_closed w role o x [] f h c;
      }
  emitting (y ∷ ys) t = go (covers y.role) refl (emitting ys t.1)
    where
      rest : List Item
      rest = merge item_role both_items ys

      both_top : (x : Item) → Top w role x → Top w role (both_items x y)
      both_top x h = record { role_is = h.role_is; kind = h.kind; parts = h.parts; place = h.place }

      go : (b : Bool) → covers y.role ≡ b → Emitting w role ys → Emitting w role (y ∷ ys)
      go true e E =
          record {
            free = λ o f. rw e (E.holding o y f (t.0 e));
            holding = λ o x f h.
                let same : touching x.role y.role ≡ true = ap₂ touching h.role_is (t.0 e).role_is ∙ touch_same role c in
                rw e
                (ap (λ p. closed w (emits w ys p)) (hold_hold x.text y.text o)
                ∙ E.holding o (both_items x y) f (both_top x h)
                ∙ ap (done w o) (sym (glue_both item_role both_items (λ a b. refl) items_assoc x y rest same)));
          }
      go false e E =
          record {
            free = λ o f.
                rw e
                (ap (λ p. closed w (emits w ys (put y p))) (closed_free w o f.held)
                ∙ E.free (put y o) (free_put y o f)
                ∙ done_put w o y rest e
                ∙ ap (done w o) (sym (glue_inner y rest e)));
            holding = λ o x f h.
                let p = closed w (hold x.text o) in
                rw e
                (E.free (put y p) (free_put y p (free_closed w x.text o))
                ∙ done_put w p y rest e
                ∙ done_closed w role o x (y ∷ rest) f h c
                ∙ ap (done w o) (sym (glue_false item_role both_items x y rest (touch_inner x.role y.role e)))
                ∙ ap (λ l. done w o (glue item_role both_items x l)) (sym (glue_inner y rest e)));
          }

-- ALL ITEMS EMITTED, AND THEN CLOSED, ARE LAID OUT
pub emitted : (w : Whole) (role : Role) (xs : List Item) (o : Out) → covers role ≡ true → Tops w role xs → o.held ≡ false → o.from ≡ 0 → closed w (emits w xs o) ≡ done w o (merged xs)
emitted w role xs o c t h k = (emitting w role c xs t).free o (record { held = h; from = k })

pub emits_append : (w : Whole) (xs ys : List Item) (o : Out) → emits w (xs ++ ys) o ≡ emits w ys (emits w xs o)
unfolding emits
emits_append w [] ys o = refl
emits_append w (x ∷ xs) ys o = emits_append w xs ys (emit w x o)

-- A PLACE KEPT FOR A SPEC: what is emitted behind it does not touch it
closed_filled : (w : Whole) (place : ℕ) (ws : List ℕ) (o : Out) → length ws ≡ 8 → place < o.count → closed w (filled_in place ws o) ≡ filled_in place ws (closed w o)
unfolding closed filled_in held_words
closed_filled w place ws o l h = go o.held refl
  where
    go : (b : Bool) → o.held ≡ b → closed w (filled_in place ws o) ≡ filled_in place ws (closed w o)
    go true e = rw e (ap (λ v. record { words = v; text = o.text; count = o.count + 1; used = o.used; held = false; from = 0 }) (over_comm o.words (place * 8) ws (o.count * 8) (held_words w o) (omega arith)))
    go false e = rw e

put_filled : (x : Item) (place : ℕ) (ws : List ℕ) (o : Out) → length ws ≡ 8 → place < o.count → put x (filled_in place ws o) ≡ filled_in place ws (put x o)
unfolding put filled_in
put_filled x place ws o l h =
    ap (λ v. record { words = v; text = over o.text o.used x.text; count = o.count + 1; used = o.used + length x.text; held = o.held; from = o.from })
    (over_comm o.words (place * 8) ws (o.count * 8) (words_of (record_at o.used x)) (omega arith))

closed_count : (w : Whole) (o : Out) → o.count ≤ (closed w o).count
unfolding closed
closed_count w o = go o.held
  where
    go : (b : Bool) → o.count ≤ (if b then record { words = over o.words (o.count * 8) (held_words w o); text = o.text; count = o.count + 1; used = o.used; held = false; from = 0 } else o).count
    go true = omega arith
    go false = omega arith

hold_filled : (t : List ℕ) (place : ℕ) (ws : List ℕ) (o : Out) → hold t (filled_in place ws o) ≡ filled_in place ws (hold t o)
unfolding hold filled_in
hold_filled t place ws o = refl

-- an item does one of two things
by_role : (P : Out → Type 0) (w : Whole) (x : Item) (o : Out) → P (hold x.text o) → P (put x (closed w o)) → P (emit w x o)
unfolding emit
by_role P w x o h k = go (covers x.role)
  where
    go : (b : Bool) → P (if b then hold x.text o else put x (closed w o))
    go true = h
    go false = k

emit_filled : (w : Whole) (x : Item) (place : ℕ) (ws : List ℕ) (o : Out) → length ws ≡ 8 → place < o.count → emit w x (filled_in place ws o) ≡ filled_in place ws (emit w x o)
unfolding emit
emit_filled w x place ws o l h = go (covers x.role)
  where
    go : (b : Bool) → (if b then hold x.text (filled_in place ws o) else put x (closed w (filled_in place ws o))) ≡ filled_in place ws (if b then hold x.text o else put x (closed w o))
    go true = hold_filled x.text place ws o
    go false = ap (put x) (closed_filled w place ws o l h) ∙ put_filled x place ws (closed w o) l (omega (arith, closed_count w o))

put_count : (x : Item) (o : Out) → (put x o).count ≡ o.count + 1
unfolding put
put_count x o = refl

hold_count : (t : List ℕ) (o : Out) → (hold t o).count ≡ o.count
unfolding hold
hold_count t o = refl

emit_count : (w : Whole) (x : Item) (o : Out) → o.count ≤ (emit w x o).count
emit_count w x o =
    by_role (λ p. o.count ≤ p.count) w x o (omega (arith, hold_count x.text o)) (omega (arith, put_count x (closed w o), closed_count w o))

emits_filled : (w : Whole) (xs : List Item) (place : ℕ) (ws : List ℕ) (o : Out) → length ws ≡ 8 → place < o.count → emits w xs (filled_in place ws o) ≡ filled_in place ws (emits w xs o)
unfolding emits
emits_filled w [] place ws o l h = refl
emits_filled w (x ∷ xs) place ws o l h =
    ap (emits w xs) (emit_filled w x place ws o l h) ∙ emits_filled w xs place ws (emit w x o) l (omega (arith, emit_count w x o))

-- a record without text, put where nothing is held, is a place kept and filled in
put_reserved : (x : Item) (o : Out) → x.text ≡ [] → put x o ≡ filled_in o.count (words_of (record_at o.used x)) (reserved o)
unfolding put filled_in reserved
put_reserved x o e =
    λ i. record {
      words = over o.words (o.count * 8) (words_of (record_at o.used x));
      text = text i;
      count = o.count + 1;
      used = used i;
      held = o.held;
      from = o.from;
    }
  where
    text : over o.text o.used x.text ≡ o.text
    text = rw e (over_nil o.text o.used)

    used : o.used + length x.text ≡ o.used
    used = rw e (add-zero o.used)

-- so the record of a spec may be written once its parts are emitted
pub spec_last : (w : Whole) (x : Item) (xs : List Item) (o : Out) → covers x.role ≡ false → x.text ≡ [] → o.held ≡ false
    → emits w (x ∷ xs) o ≡ filled_in o.count (words_of (record_at o.used x)) (emits w xs (reserved o))
unfolding emits emit words_of reserved
spec_last w x xs o c e h =
    rw c
    (ap (λ p. emits w xs (put x p)) (closed_free w o h)
    ∙ ap (emits w xs) (put_reserved x o e)
    ∙ emits_filled w xs o.count (words_of (record_at o.used x)) (reserved o) refl (omega arith))

-- WHAT IS EMITTED IS NO HEAVIER THAN ITS PIECES
-- records and text bytes, with the record of what is held
abbrev pub load : Out → ℕ
load o = o.count + bit o.held + o.used

pub load_closed : (w : Whole) (o : Out) → load (closed w o) ≡ load o
unfolding closed
load_closed w o = go o.held refl
  where
    go : (b : Bool) → o.held ≡ b → load (closed w o) ≡ load o
    go true e = rw e (omega arith)
    go false e = rw e refl

load_hold : (t : List ℕ) (o : Out) → load (hold t o) ≤ load o + 1 + length t
unfolding hold
load_hold t o = omega arith

load_put : (x : Item) (o : Out) → load (put x o) ≡ load o + 1 + length x.text
unfolding put
load_put x o = omega arith

load_emit : (w : Whole) (x : Item) (o : Out) → load (emit w x o) ≤ load o + 1 + length x.text
load_emit w x o =
    by_role (λ p. load p ≤ load o + 1 + length x.text) w x o (load_hold x.text o) (omega (arith, load_put x (closed w o), load_closed w o))

-- what is held began before what is used
abbrev pub Ordered : Out → Type 0
Ordered o = o.from ≤ o.used

ordered_hold : (t : List ℕ) (o : Out) → Ordered o → Ordered (hold t o)
unfolding hold
ordered_hold t o h = go o.held
  where
    go : (b : Bool) → (if b then o.from else o.used) ≤ o.used + length t
    go true = omega arith
    go false = omega arith

pub ordered_closed : (w : Whole) (o : Out) → Ordered o → Ordered (closed w o)
unfolding closed
ordered_closed w o h = go o.held refl
  where
    go : (b : Bool) → o.held ≡ b → Ordered (closed w o)
    go true e = rw e (omega arith)
    go false e = rw e h

ordered_put : (x : Item) (o : Out) → Ordered o → Ordered (put x o)
unfolding put
ordered_put x o h = omega arith

ordered_emit : (w : Whole) (x : Item) (o : Out) → Ordered o → Ordered (emit w x o)
ordered_emit w x o h = by_role Ordered w x o (ordered_hold x.text o h) (ordered_put x (closed w o) (ordered_closed w o h))

-- what is used grows by the text
hold_used : (t : List ℕ) (o : Out) → (hold t o).used ≡ o.used + length t
unfolding hold
hold_used t o = refl

put_used : (x : Item) (o : Out) → (put x o).used ≡ o.used + length x.text
unfolding put
put_used x o = refl

closed_used : (w : Whole) (o : Out) → (closed w o).used ≡ o.used
unfolding closed
closed_used w o = go o.held refl
  where
    go : (b : Bool) → o.held ≡ b → (closed w o).used ≡ o.used
    go true e = rw e
    go false e = rw e

pub emit_used : (w : Whole) (x : Item) (o : Out) → (emit w x o).used ≡ o.used + length x.text
emit_used w x o =
    by_role (λ p. p.used ≡ o.used + length x.text) w x o (hold_used x.text o) (put_used x (closed w o) ∙ ap (λ n. n + length x.text) (closed_used w o))

-- the items of pieces
module _ (w : Whole) (kind start end base : ℕ) where
  abbrev pub items : List Piece → List Item
  items ps = map (item_of kind start end base) ps

  item_text : (p : Piece) (ps : List Piece) → 1 + length (item_of kind start end base p).text + weight ps ≡ weight (p ∷ ps)
  unfolding item_of item
  item_text (literal zero t) ps = go (is_bytes kind)
    where
      go : (b : Bool) → 1 + length (if b then item raw 4 t start end 0 0 0 else item top 1 t start end 0 0 0).text + weight ps ≡ 1 + length t + weight ps
      go true = refl
      go false = refl
  item_text (literal (suc d) t) ps = refl
  item_text (field d e c n i g) ps = refl
  item_text (spec n) ps = omega arith

  pub load_emits : (ps : List Piece) (o : Out) → load (emits w (items ps) o) ≤ load o + weight ps
  unfolding emits
  load_emits [] o = omega arith
  load_emits (p ∷ ps) o =
      omega (arith, load_emits ps (emit w (item_of kind start end base p) o), load_emit w (item_of kind start end base p) o, item_text p ps)

  pub ordered_emits : (ps : List Piece) (o : Out) → Ordered o → Ordered (emits w (items ps) o)
  unfolding emits
  ordered_emits [] o h = h
  ordered_emits (p ∷ ps) o h = ordered_emits ps (emit w (item_of kind start end base p) o) (ordered_emit w (item_of kind start end base p) o h)

-- the direct parts are no more than the pieces
one_light : (b : Bool) (n m k : ℕ) → n ≤ m → (if b then 1 else 0) + n ≤ 1 + k + m
one_light true n m k h = omega arith
one_light false n m k h = omega arith

pub direct_light : (depth : ℕ) (ps : List Piece) → direct depth ps ≤ weight ps
unfolding direct
direct_light depth [] = omega arith
direct_light depth (literal d t ∷ ps) = one_light (eqb d depth) (direct depth ps) (weight ps) (length t) (direct_light depth ps)
direct_light depth (field d e c n i g ∷ ps) = one_light (eqb d depth) (direct depth ps) (weight ps) (length e) (direct_light depth ps)
direct_light depth (spec n ∷ ps) = omega (arith, direct_light depth ps)

-- nothing is held after an inner item
closed_held : (w : Whole) (o : Out) → (closed w o).held ≡ false
unfolding closed
closed_held w o = go o.held refl
  where
    go : (b : Bool) → o.held ≡ b → (closed w o).held ≡ false
    go true e = rw e
    go false e = rw e

pub put_free : (w : Whole) (x : Item) (o : Out) → covers x.role ≡ false → (emits w (x ∷ []) o).held ≡ false
unfolding emits emit put
put_free w x o c = rw c (closed_held w o)
