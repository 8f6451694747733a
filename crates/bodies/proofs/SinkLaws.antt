-- What each write does to the counters and buffers is what emitting does. Assumes nothing.
use Rattle.std.specs.Prelude.{if◌then◌else◌}
use mathlib.Core.Path.{◌≡◌, refl, sym, ◌∙◌, ap}
use mathlib.Core.Bool.{Bool, true, false}
use mathlib.Core.List.{List, [], ◌∷◌, ◌++◌, map, map-append, append_assoc}
use Prim.Native.Nat.{ℕ, zero, suc, ◌+◌, ◌-◌, ◌*◌, ◌≤◌, ◌<◌, min}
use native.Mathlib.Omega.{arith}
use lib.ListN.{length, length-append, take, replicate, length-replicate}
use Rattle.definition.specs.Records.{Item, item, item_of, inner, raw, top, covers, words_of, record_at}
use Rattle.definition.specs.Numbers.{is_bytes}
use Rattle.definition.specs.Chars.{part}
use Rattle.definition.specs.Body.{Signs, Piece, literal, field, spec, filled, direct, self_documenting}
use Rattle.buffers.proofs.Over.{over_nil, over_append, over_before, over_part, over_again, length_over}
use lib.Dec.{eqb}
use borrow.Author.Tests.{eq-eqb}
use Rattle.buffers.specs.Over.{over}
use Rattle.records.specs.declared.Whole.{Whole}
use Rattle.records.specs.declared.Frame.{Frame}
use Rattle.records.specs.declared.Sink.{Sink}
use Rattle.bodies.specs.Emit as e
use Rattle.bodies.specs.Emit.{Out, hold, put, closed, emit, emits}
use Rattle.bodies.specs.Sinks.{whole_of, out_of, is_held, load_of, Fits, Emits}
use Rattle.bodies.proofs.Emitted.{emits_append, emit_used, load, load_closed, load_emits, ordered_closed, ordered_emits, direct_light}
use Rattle.definition_laws.proofs.Moves.Moves.{weight}

-- what is held becomes a record: the words and counters before and after
pub record Closes (w : Whole) (words words' : List ℕ) (k r : Sink) : Type 0 where
  pub out : (T : List ℕ) → out_of r words' T ≡ closed (whole_of w) (out_of k words T)
  pub parts : r.parts ≡ k.parts

-- a record that is no top-level literal, with its text t written over T: the words and counters before and after
pub record Writes (fr : Frame) (kind conversion parts place : ℕ) (t words words' T : List ℕ) (k r : Sink) : Type 0 where
  pub out : out_of r words' (over T k.used t) ≡ put (item inner kind t fr.start fr.end conversion parts place) (closed (whole_of fr.whole) (out_of k words T))
  pub parts_more : r.parts ≡ k.parts + 1

-- the text of a field's literals, if it documents itself
abbrev pub documentation : Bool → List ℕ → ℕ → List ℕ
documentation false e spaces = []
documentation true e spaces = e ++ (61 ∷ []) ++ replicate spaces 32

-- a field's literals, if it documents itself, emitted, and its expression e written behind them
pub record Documents (fr : Frame) (depth : ℕ) (documented : Bool) (e : List ℕ) (spaces : ℕ) (words text words' text' : List ℕ) (k r : Sink) : Type 0 where
  pub emitted : Emits fr depth (self_documenting depth documented e spaces) words text words' (over text k.used (documentation documented e spaces)) k r
  pub used : r.used ≡ k.used + length (documentation documented e spaces)
  pub again : text' ≡ over (over text k.used (documentation documented e spaces)) r.used e

-- the counters after n literals whose text goes up to `to`
pub record UpTo (n to : ℕ) (k r : Sink) : Type 0 where
  pub used : r.used ≡ to
  pub load : load_of r + 2 * k.used ≤ load_of k + 2 * to + 2 * n
  pub ordered : k.from ≤ k.used → r.from ≤ r.used

-- what closing leaves as it was
pub record After (k r : Sink) : Type 0 where
  pub used : r.used ≡ k.used
  pub count : r.count ≤ k.count + 1

pub after_closed : (w : Whole) (k r : Sink) (words words' : List ℕ) → Closes w words words' k r → After k r
unfolding closed
after_closed w k r words words' c = go (is_held k) refl (c.out [])
  where
    go : (b : Bool) → is_held k ≡ b → out_of r words' [] ≡ closed (whole_of w) (out_of k words []) → After k r
    go true h e = let z = rw h at e in record { used = ap (λ o. o.used) z; count = omega (arith, ap (λ o. o.count) z) }
    go false h e = let z = rw h at e in record { used = ap (λ o. o.used) z; count = omega (arith, ap (λ o. o.count) z) }

pub closed_fits : (w : Whole) (k r : Sink) (words words' : List ℕ) (to : ℕ) → Closes w words words' k r → Fits k → k.used ≤ to → to < 4294967296
    → Fits r × ((r.used ≤ to) × (to < 4294967296))
closed_fits w k r words words' to c f l m = (
  record {
    small = omega (arith, ap load (c.out []) ∙ load_closed (whole_of w) (out_of k words []), c.parts, f.small);
    ordered = rw (← c.out []) at (ordered_closed (whole_of w) (out_of k words []) f.ordered);
  },
  (omega (arith, (after_closed w k r words words' c).used), m),
)

-- A RECORD THAT IS NO TOP-LEVEL LITERAL IS PUT
pub put_writes : (fr : Frame) (kind conversion parts place : ℕ) (t words words₁ words' T : List ℕ) (k a : Sink) (to : ℕ)
    → to ≡ k.used + length t → Closes fr.whole words words₁ k a
    → words' ≡ over words₁ (a.count * 8) (kind ∷ a.used ∷ (to - a.used) ∷ fr.start ∷ fr.end ∷ conversion ∷ parts ∷ place ∷ [])
    → Writes fr kind conversion parts place t words words' T k (record { count = a.count + 1; used = to; held = a.held; from = a.from; parts = a.parts + 1 })
unfolding put item words_of record_at
put_writes fr kind conversion parts place t words words₁ words' T k a to l c v =
    record {
      out =
          (λ i. record { words = W i; text = over T (sym same i) t; count = a.count + 1; used = U i; held = is_held a; from = a.from })
          ∙ ap (put (item inner kind t fr.start fr.end conversion parts place)) (c.out T);
      parts_more = ap (λ n. n + 1) c.parts;
    }
  where
    same : a.used ≡ k.used
    same = (after_closed fr.whole k a words words₁ c).used

    size : to - a.used ≡ length t
    size = omega (arith, same)

    W : words' ≡ over words₁ (a.count * 8) (kind ∷ a.used ∷ length t ∷ fr.start ∷ fr.end ∷ conversion ∷ parts ∷ place ∷ [])
    W = v ∙ ap (λ n. over words₁ (a.count * 8) (kind ∷ a.used ∷ n ∷ fr.start ∷ fr.end ∷ conversion ∷ parts ∷ place ∷ [])) size

    U : to ≡ a.used + length t
    U = omega (arith, same)

-- a top-level literal is held
pub top_holds : (w : e.Whole) (kind start end base : ℕ) (t : List ℕ) (o : Out) → emit w (item_of kind start end base (literal 0 t)) o ≡ hold t o
unfolding emit item_of item covers
top_holds w kind start end base t o = go (is_bytes kind)
  where
    go : (b : Bool) → emit w (if b then item raw 4 t start end 0 0 0 else item top 1 t start end 0 0 0) o ≡ hold t o
    go true = refl
    go false = refl

-- PIECES: a literal that is held, and one that is a record
pub held_literal : (fr : Frame) (t words T : List ℕ) (k : Sink) (from to : ℕ) → to ≡ k.used + length t → from ≡ (if is_held k then k.from else k.used)
    → Emits fr 0 (literal 0 t ∷ []) words T words (over T k.used t) k (record { count = k.count; used = to; held = 1; from = from; parts = k.parts + 1 })
unfolding emits hold direct
held_literal fr t words T k from to l f =
    record {
      out =
          (λ i. record { words = words; text = over T k.used t; count = k.count; used = l i; held = true; from = f i })
          ∙ sym (top_holds (whole_of fr.whole) fr.kind fr.start fr.end fr.base t (out_of k words T));
      parts = omega arith;
    }

pub inner_literal : (fr : Frame) (depth : ℕ) (t words words' T : List ℕ) (k r : Sink) → (depth ≡ 0 → ⊥) → Writes fr 1 0 0 0 t words words' T k r
    → Emits fr depth (literal depth t ∷ []) words T words' (over T k.used t) k r
unfolding emits emit item_of item covers direct
inner_literal fr zero t words words' T k r n h = absurd (n refl)
inner_literal fr (suc depth) t words words' T k r n h = record { out = h.out; parts = h.parts_more ∙ one }
  where
    one : k.parts + 1 ≡ k.parts + ((if eqb (suc depth) (suc depth) then 1 else 0) + 0)
    one = rw (eq-eqb (suc depth) (suc depth) refl)

-- text of no bytes gives no literal
pub no_text : (fr : Frame) (depth : ℕ) (t words T : List ℕ) (k : Sink) → length t ≡ 0 → Emits fr depth (filled depth t) words T words (over T k.used t) k k
unfolding filled emits direct
no_text fr depth [] words T k e = record { out = ap (λ x. out_of k words x) (over_nil T k.used); parts = omega arith }
no_text fr depth (b ∷ t) words T k e = absurd (omega arith)

pub some_text : (depth : ℕ) (t : List ℕ) → (length t ≡ 0 → ⊥) → filled depth t ≡ literal depth t ∷ []
unfolding filled
some_text depth [] n = absurd (n refl)
some_text depth (b ∷ t) n = refl

pub put_field : (fr : Frame) (depth conversion parts at place : ℕ) (g : Signs) (t words words' T : List ℕ) (k r : Sink) → place ≡ fr.base + at → Writes fr 2 conversion parts place t words words' T k r
    → Emits fr depth (field depth t conversion parts at g ∷ []) words T words' (over T k.used t) k r
unfolding emits emit item_of item covers direct
put_field fr depth conversion parts at place g t words words' T k r e h =
    record {
      out = h.out ∙ ap (λ n. put (item inner 2 t fr.start fr.end conversion parts n) (closed (whole_of fr.whole) (out_of k words T))) e;
      parts = h.parts_more ∙ one;
    }
  where
    one : k.parts + 1 ≡ k.parts + ((if eqb depth depth then 1 else 0) + 0)
    one = rw (eq-eqb depth depth refl)

-- ONE AFTER THE OTHER
direct_append : (depth : ℕ) (ps qs : List Piece) → direct depth (ps ++ qs) ≡ direct depth ps + direct depth qs
unfolding direct
direct_append depth [] qs = omega arith
direct_append depth (literal d t ∷ ps) qs = omega (arith, direct_append depth ps qs)
direct_append depth (field d e c n i g ∷ ps) qs = omega (arith, direct_append depth ps qs)
direct_append depth (spec n ∷ ps) qs = direct_append depth ps qs

pub emits_both : (fr : Frame) (depth : ℕ) (ps qs : List Piece) (words text words₁ text₁ words' text' : List ℕ) (k a r : Sink)
    → Emits fr depth ps words text words₁ text₁ k a → Emits fr depth qs words₁ text₁ words' text' a r → Emits fr depth (ps ++ qs) words text words' text' k r
emits_both fr depth ps qs words text words₁ text₁ words' text' k a r h g =
    record {
      out =
          g.out
          ∙ ap (emits w (map f qs)) h.out
          ∙ sym (emits_append w (map f ps) (map f qs) (out_of k words text))
          ∙ ap (λ xs. emits w xs (out_of k words text)) (sym (map-append f ps qs));
      parts = omega (arith, h.parts, g.parts, direct_append depth ps qs);
    }
  where
    w : e.Whole
    w = whole_of fr.whole

    f : Piece → Item
    f = item_of fr.kind fr.start fr.end fr.base

-- WHAT EMITTING LEAVES OF THE COUNTERS
pub used_one : (fr : Frame) (depth : ℕ) (p : Piece) (t words text words' text' : List ℕ) (k r : Sink) → (item_of fr.kind fr.start fr.end fr.base p).text ≡ t
    → Emits fr depth (p ∷ []) words text words' text' k r → r.used ≡ k.used + length t
unfolding emits
used_one fr depth p t words text words' text' k r e h =
    ap (λ o. o.used) h.out
    ∙ emit_used (whole_of fr.whole) (item_of fr.kind fr.start fr.end fr.base p) (out_of k words text)
    ∙ ap (λ x. k.used + length x) e

pub record Grown (ps : List Piece) (k r : Sink) : Type 0 where
  pub load : load_of r ≤ load_of k + 2 * weight ps
  pub ordered : k.from ≤ k.used → r.from ≤ r.used

pub grown : (fr : Frame) (depth : ℕ) (ps : List Piece) (words text words' text' : List ℕ) (k r : Sink) → Emits fr depth ps words text words' text' k r → Grown ps k r
grown fr depth ps words text words' text' k r h =
    record {
      load = omega (arith, rw (← h.out) at (load_emits (whole_of fr.whole) fr.kind fr.start fr.end fr.base ps (out_of k words text)), h.parts, direct_light depth ps);
      ordered = λ o. rw (← h.out) at (ordered_emits (whole_of fr.whole) fr.kind fr.start fr.end fr.base ps (out_of k words text) o);
    }

-- a top-level or inner literal's text
pub literal_text : (fr : Frame) (depth : ℕ) (t : List ℕ) → (item_of fr.kind fr.start fr.end fr.base (literal depth t)).text ≡ t
unfolding item_of item
literal_text fr zero t = go (is_bytes fr.kind)
  where
    go : (b : Bool) → (if b then item raw 4 t fr.start fr.end 0 0 0 else item top 1 t fr.start fr.end 0 0 0).text ≡ t
    go true = refl
    go false = refl
literal_text fr (suc depth) t = refl

-- A SELF-DOCUMENTING FIELD: the text before the expression is written again, and with it
documentation_text : (T e : List ℕ) (u spaces : ℕ) → over (over (over T u e) (u + length e) (61 ∷ [])) (u + length e + 1) (replicate spaces 32) ≡ over T u (documentation true e spaces)
documentation_text T e u spaces =
    ap (λ b. over b (u + length e + 1) (replicate spaces 32)) (over_append T u e (61 ∷ []))
    ∙ ap (λ n. over (over T u (e ++ (61 ∷ []))) n (replicate spaces 32)) far
    ∙ over_append T u (e ++ (61 ∷ [])) (replicate spaces 32)
  where
    far : u + length e + 1 ≡ u + length (e ++ (61 ∷ []))
    far = omega (arith, length-append e (61 ∷ []))

again_text : (T e : List ℕ) (u spaces end : ℕ) → u + length e ≤ end → over (over T u (documentation true e spaces)) end (part (over T u (documentation true e spaces)) u (min (u + length e) end)) ≡ over (over T u (documentation true e spaces)) end e
again_text T e u spaces end h = over_again D u e end h there
  where
    D : List ℕ
    D = over T u (documentation true e spaces)

    behind : D ≡ over (over T u e) (u + length e) ((61 ∷ []) ++ replicate spaces 32)
    behind = ap (over T u) (append_assoc e (61 ∷ []) (replicate spaces 32)) ∙ sym (over_append T u e ((61 ∷ []) ++ replicate spaces 32))

    there : part D u (u + length e) ≡ take (length D - u) e
    there =
        ap (λ b. part b u (u + length e)) behind
        ∙ over_before (over T u e) (u + length e) ((61 ∷ []) ++ replicate spaces 32) u (u + length e) (omega arith)
        ∙ over_part T u e
        ∙ ap (λ n. take (n - u) e) (sym (length_over T u (documentation true e spaces)))

pub documents : (fr : Frame) (depth : ℕ) (e : List ℕ) (spaces : ℕ) (T words words₁ words' t₁ t₂ t₃ t₄ : List ℕ) (k a r : Sink) (to : ℕ)
    → to ≡ k.used + length e → t₁ ≡ over T k.used e
    → t₂ ≡ over t₁ to (61 ∷ []) → t₃ ≡ over t₂ (to + 1) (replicate spaces 32) → t₄ ≡ over t₃ (to + 1 + spaces) (part t₃ k.used (min to (to + 1 + spaces)))
    → ((t T : List ℕ) → to + 1 ≡ k.used + length t → Emits fr depth (literal depth t ∷ []) words T words₁ (over T k.used t) k a)
    → ((t T : List ℕ) → to + 1 + spaces ≡ a.used + length t → Emits fr depth (literal depth t ∷ []) words₁ T words' (over T a.used t) a r)
    → Documents fr depth true e spaces words T words' t₄ k r
unfolding self_documenting
documents fr depth e spaces T words words₁ words' t₁ t₂ t₃ t₄ k a r to l p₁ p₂ p₃ p₄ h g =
    record {
      emitted = rw (← text) at both;
      used = used;
      again = p₄ ∙ ap (λ b. over b (to + 1 + spaces) (part b k.used (min to (to + 1 + spaces)))) whole ∙ last;
    }
  where
    t : List ℕ
    t = e ++ (61 ∷ [])

    size : to + 1 ≡ k.used + length t
    size = omega (arith, length-append e (61 ∷ []))

    first : Emits fr depth (literal depth t ∷ []) words T words₁ (over T k.used t) k a
    first = h t T size

    middle : a.used ≡ k.used + length t
    middle = used_one fr depth (literal depth t) t words T words₁ (over T k.used t) k a (literal_text fr depth t) first

    second : Emits fr depth (literal depth (replicate spaces 32) ∷ []) words₁ (over T k.used t) words' (over (over T k.used t) a.used (replicate spaces 32)) a r
    second = g (replicate spaces 32) (over T k.used t) (omega (arith, length-replicate {A = ℕ} spaces 32, middle, size))

    both : Emits fr depth (literal depth t ∷ literal depth (replicate spaces 32) ∷ []) words T words' (over (over T k.used t) a.used (replicate spaces 32)) k r
    both = emits_both fr depth (literal depth t ∷ []) (literal depth (replicate spaces 32) ∷ []) words T words₁ (over T k.used t) words' _ k a r first second

    text : over T k.used (documentation true e spaces) ≡ over (over T k.used t) a.used (replicate spaces 32)
    text = sym (ap (λ n. over (over T k.used t) n (replicate spaces 32)) middle ∙ over_append T k.used t (replicate spaces 32))

    end : r.used ≡ to + 1 + spaces
    end =
        used_one fr depth (literal depth (replicate spaces 32)) (replicate spaces 32) words₁ (over T k.used t) words' _ a r (literal_text fr depth (replicate spaces 32)) second
        ∙ sizes
      where
        sizes : a.used + length (replicate {A = ℕ} spaces 32) ≡ to + 1 + spaces
        sizes = omega (arith, length-replicate {A = ℕ} spaces 32, middle, size)

    used : r.used ≡ k.used + length (documentation true e spaces)
    used = omega (arith, end, size, length-append t (replicate spaces 32), length-replicate {A = ℕ} spaces 32)

    whole : t₃ ≡ over T k.used (documentation true e spaces)
    whole = rw (p₃, p₂, p₁, l) (documentation_text T e k.used spaces)

    D : List ℕ
    D = over T k.used (documentation true e spaces)

    last : over D (to + 1 + spaces) (part D k.used (min to (to + 1 + spaces))) ≡ over D r.used e
    last =
        ap (λ n. over D (to + 1 + spaces) (part D k.used (min n (to + 1 + spaces)))) l
        ∙ again_text T e k.used spaces (to + 1 + spaces) (omega arith)
        ∙ ap (λ n. over D n e) (sym end)

-- the counters after a literal up to `to`, and after two
pub literal_upto : (fr : Frame) (depth to : ℕ) (words words' : List ℕ) (k r : Sink) → k.used ≤ to
    → ((t T : List ℕ) → to ≡ k.used + length t → Emits fr depth (literal depth t ∷ []) words T words' (over T k.used t) k r) → UpTo 1 to k r
literal_upto fr depth to words words' k r l h =
    record { used = omega (arith, used_one fr depth (literal depth t) t words [] words' _ k r (literal_text fr depth t) e, size); load = omega (arith, g.load, size); ordered = g.ordered }
  where
    t : List ℕ
    t = replicate (to - k.used) 0

    size : length t ≡ to - k.used
    size = length-replicate {A = ℕ} (to - k.used) 0

    e : Emits fr depth (literal depth t ∷ []) words [] words' (over [] k.used t) k r
    e = h t [] (omega (arith, size))

    g : Grown (literal depth t ∷ []) k r
    g = grown fr depth (literal depth t ∷ []) words [] words' _ k r e

pub upto_both : (to to' : ℕ) (k a r : Sink) → UpTo 1 to k a → UpTo 1 to' a r → UpTo 2 r.used k r
upto_both to to' k a r h g = record { used = refl; load = omega (arith, h.load, h.used, g.load, g.used); ordered = λ o. g.ordered (h.ordered o) }

-- A FIELD, WITH WHAT COMES BEFORE ITS SPEC
pub documents_none : (fr : Frame) (depth : ℕ) (e : List ℕ) (spaces : ℕ) (T words text : List ℕ) (k : Sink) → text ≡ over T k.used e → Documents fr depth false e spaces words T words text k k
unfolding self_documenting filled
documents_none fr depth e spaces T words text k p =
    record { emitted = no_text fr depth [] words T k refl; used = omega arith; again = p ∙ ap (λ b. over b k.used e) (sym (over_nil T k.used)) }

pub documented_field : (fr : Frame) (depth : ℕ) (d : Bool) (e : List ℕ) (spaces c parts at : ℕ) (g : Signs) (T words words₁ words' text : List ℕ) (k a r : Sink)
    → Documents fr depth d e spaces words T words₁ text k a
    → ((T : List ℕ) → Emits fr depth (field depth e c parts at g ∷ []) words₁ T words' (over T a.used e) a r)
    → Emits fr depth (self_documenting depth d e spaces ++ (field depth e c parts at g ∷ [])) words T words' text k r
documented_field fr depth d e spaces c parts at g T words words₁ words' text k a r h f =
    rw h.again
    (emits_both fr depth (self_documenting depth d e spaces) (field depth e c parts at g ∷ []) words T words₁ D words' _ k a r h.emitted (f D))
  where
    D : List ℕ
    D = over T k.used (documentation d e spaces)
