-- Laws of the check of what is lent: one pass over the records is what the record rules say. Assumes nothing.
use mathlib.Core.Path.{◌≡◌, refl, sym, ◌∙◌, ap, ap₂}
use mathlib.Core.Bool.{Bool, true, false, ◌&&◌, ◌||◌, not, and-true, and-false}
use mathlib.Core.List.{List, [], ◌∷◌, map}
use Prim.Native.Nat.{ℕ, zero, suc, ◌+◌, ◌-◌, ◌*◌, ◌≤◌, ◌<◌, min}
use native.Mathlib.Nat.{add-zero, sub-zero}
use native.Mathlib.Omega.{arith}
use lib.Dec.{eqb, leb}
use lib.ListN.{length, get_or, take, drop, length-drop}
use lib.Seq.{get_or-drop, drop-drop, length-take-le}
use borrow.Author.Tests.{eq-eqb, ne_eqb, le-leb, lt-leb, leb-true}
use Rattle.definition.specs.Chars.{part, well_formed}
use Rattle.definition.specs.Records.{Record}
use Rattle.definition.specs.Words.{owing, role_at, records_from, sort_from, answer_from, held_from, lie, fits, all_fit, has_spec, ordered, gapless, no_bytes, one_of, sorted, records_formed}
use Rattle.definition_formed.specs.Formed.{lent, unplaced, lent_answer, is_utf8, texts_utf8, is_formed}
use Rattle.definition.proofs.Moves.CharLaws.{cases}
use Rattle.definition_formed.proofs.Formed.FormedLaws.{both, is_formed_lem}
use Rattle.formed.specs.declared.Head.{Head}
use Rattle.formed.specs.Heads.{head_at}
use Rattle.formed.specs.Good.{records_at, follows_in, good_head, good_from}
use Rattle.formed.proofs.Parts.{part_within}

-- A TEXT THAT IS UTF-8
pub utf8_is : (text : List ℕ) (i n a b len : ℕ) → a ≡ min i (length text) → b ≡ min (i + n) (length text) → len ≡ well_formed (part text a b) → leb (b - a) len ≡ is_utf8 (part text i (i + n))
unfolding is_utf8
utf8_is text i n a b len e f g =
    let l : length (part text a b) ≡ b - a = length-take-le (b - a) (drop a text) (omega (arith, length-drop a text)) in
    rw (← part_within text i n a b e f, l, ← g) refl

-- RECORD BY RECORD
unfoldable pub rec : (w : List ℕ) (i owed : ℕ) → Record
rec w i owed =
    record {
      role = role_at owed (get_or w (i * 8) 0);
      kind = get_or w (i * 8) 0;
      offset = get_or w (i * 8 + 1) 0;
      size = get_or w (i * 8 + 2) 0;
      start = get_or w (i * 8 + 3) 0;
      end = get_or w (i * 8 + 4) 0;
      mode = get_or w (i * 8 + 5) 0;
      parts = get_or w (i * 8 + 6) 0;
      place = 0;
    }

pub records_turn : (w : List ℕ) (count i owed : ℕ) → i < count → records_at w count i owed ≡ rec w i owed ∷ records_at w count (i + 1) (owing owed (head_at w i).parts)
unfolding records_from unplaced head_at rec
records_turn w count i owed h =
    let n : count - i ≡ suc (count - (i + 1)) = omega arith in
    let m : (i + 1) * 8 ≡ i * 8 + 8 = omega arith in
    rw (n, m, drop-drop 8 (i * 8) w, get_or-drop (i * 8) w 0 0, add-zero (i * 8), get_or-drop (i * 8) w 1 0, get_or-drop (i * 8) w 2 0, get_or-drop (i * 8) w 3 0, get_or-drop (i * 8) w 4 0, get_or-drop (i * 8) w 5 0, get_or-drop (i * 8) w 6 0) refl

pub records_none : (w : List ℕ) (count i owed : ℕ) → count ≤ i → records_at w count i owed ≡ []
unfolding records_from
records_none w count i owed h = let e : count - i ≡ 0 = omega arith in rw e refl

module _ (text w : List ℕ) (count i owed at : ℕ) (due : Bool) where
  abbrev rest : Bool
  rest = good_from text due owed at (records_at w count i owed)

  module _ (h : i < count) (r : Head) (e : r ≡ head_at w i) {g : Bool} (f : g ≡ good_head text due owed at r) where
    good_turn : rest ≡ (g && good_from text (has_spec r.kind r.parts) (owing owed r.parts) (at + r.size) (records_at w count (i + 1) (owing owed r.parts)))
    unfolding good_from head_at rec
    good_turn = rw (f, e, records_turn w count i owed h) refl

    pub good_stops : g ≡ false → rest ≡ false
    good_stops t = good_turn ∙ rw t refl

    pub good_next : g ≡ true → {due' : Bool} {owed' : ℕ} → due' ≡ has_spec r.kind r.parts → owed' ≡ owing owed r.parts → rest ≡ good_from text due' owed' (at + r.size) (records_at w count (i + 1) owed')
    good_next t p q = good_turn ∙ rw (t, p, q) refl

  pub good_owes : count ≤ i → (owed ≡ 0 → ⊥) → rest ≡ false
  unfolding good_from
  good_owes h n = rw (records_none w count i owed h, ne_eqb owed 0 n) refl

  pub good_ends : count ≤ i → owed ≡ 0 → rest ≡ eqb at (length text)
  unfolding good_from
  good_ends h n = ap (good_from text due owed at) (records_none w count i owed h) ∙ rw (eq-eqb owed 0 n) refl

-- THE RECORD RULES in one pass
swap : (a b c d : Bool) → ((a && b) && (c && d)) ≡ ((a && c) && (b && d))
swap true true c d = refl
swap true false true d = refl
swap true false false d = refl
swap false b c d = refl

pub rules : (text : List ℕ) (due : Bool) (owed at : ℕ) (rs : List Record)
    → good_from text due owed at (map unplaced rs) ≡ (all_fit (map unplaced rs) && ordered due owed (map unplaced rs) && gapless at (map unplaced rs) (length text) && texts_utf8 text (map unplaced rs))
unfolding good_from good_head all_fit ordered gapless texts_utf8 unplaced
rules text due owed at [] = sym (and-true (eqb owed 0 && eqb at (length text)))
rules text due owed at (r ∷ rs) =
    let f = fits r.kind r.size r.mode r.parts 0 in
    let o = follows_in due owed r.kind in
    let g = eqb r.offset at in
    let u = eqb r.kind 4 || is_utf8 (part text r.offset (r.offset + r.size)) in
    let F = all_fit (map unplaced rs) in
    let O = ordered (has_spec r.kind r.parts) (owing owed r.parts) (map unplaced rs) in
    let G = gapless (at + r.size) (map unplaced rs) (length text) in
    let U = texts_utf8 text (map unplaced rs) in
    ap (λ t. (f && o && g && u) && t) (rules text (has_spec r.kind r.parts) (owing owed r.parts) (at + r.size) rs)
    ∙ swap (f && o && g) u (F && O && G) U
    ∙ ap (λ t. t && (u && U)) (swap (f && o) g (F && O) G ∙ ap (λ t. t && (g && G)) (swap f o F O))

-- SORTS
pub no_bytes_turn : (w : List ℕ) (count i owed : ℕ) → i < count → no_bytes (records_at w count i owed) ≡ (not (eqb (head_at w i).kind 4) && no_bytes (records_at w count (i + 1) (owing owed (head_at w i).parts)))
unfolding no_bytes head_at rec
no_bytes_turn w count i owed h = rw (records_turn w count i owed h) refl

pub no_bytes_none : (w : List ℕ) (count i owed : ℕ) → count ≤ i → no_bytes (records_at w count i owed) ≡ true
unfolding no_bytes
no_bytes_none w count i owed h = rw (records_none w count i owed h) refl

-- none so far, whatever is owed
abbrev pub NoneYet : (w : List ℕ) (count i : ℕ) → Type 0
NoneYet w count i = (owed : ℕ) × (no_bytes (records_at w count 0 0) ≡ no_bytes (records_at w count i owed))

module _ (w : List ℕ) (count i : ℕ) (p : NoneYet w count i) where
  module _ (h : i < count) {kind : ℕ} (e : kind ≡ (head_at w i).kind) where
    pub none_here : kind ≡ 4 → false ≡ no_bytes (records_at w count 0 0)
    none_here k = sym (p.1 ∙ no_bytes_turn w count i p.0 h ∙ rw (← e, eq-eqb kind 4 k) refl)

    pub none_next : (kind ≡ 4 → ⊥) → NoneYet w count (i + 1)
    none_next k = (owing p.0 (head_at w i).parts, p.1 ∙ no_bytes_turn w count i p.0 h ∙ rw (← e, ne_eqb kind 4 k) refl)

  pub none_all : count ≤ i → true ≡ no_bytes (records_at w count 0 0)
  none_all h = sym (p.1 ∙ no_bytes_none w count i p.0 h)

module _ (w : List ℕ) (count sort : ℕ) where
  abbrev S : Bool
  S = sorted (sort_from sort) (records_at w count 0 0)

  pub sorted_joined : sort ≡ 1 → no_bytes (records_at w count 0 0) ≡ S
  unfolding sorted sort_from
  sorted_joined e = rw e refl

  one_of_lem : (k : ℕ) → (count ≡ 1 → ⊥) → one_of k (records_at w count 0 0) ≡ false
  unfolding one_of
  one_of_lem k n = go count n
    where
      go : (m : ℕ) → (m ≡ 1 → ⊥) → one_of k (records_at w m 0 0) ≡ false
      go zero n = rw (records_none w 0 0 0 (omega arith)) refl
      go (suc zero) n = absurd (n refl)
      go (suc (suc m)) n = rw (records_turn w (suc (suc m)) 0 0 (omega arith), records_turn w (suc (suc m)) 1 (owing 0 (head_at w 0).parts) (omega arith)) refl

  of_one : (k : ℕ) → count ≡ 1 → one_of k (records_at w count 0 0) ≡ eqb (head_at w 0).kind k
  unfolding one_of head_at rec
  of_one k e = rw (e, records_turn w 1 0 0 (omega arith), records_none w 1 1 (owing 0 (head_at w 0).parts) (omega arith)) refl

  module _ (n : sort ≡ 1 → ⊥) where
    pub sorted_many : (count ≡ 1 → ⊥) → false ≡ S
    unfolding sorted sort_from
    sorted_many h = cases (eqb sort 0) (λ e. rw (e, one_of_lem 1 h) refl) (λ e. rw (e, ne_eqb sort 1 n, one_of_lem 4 h) refl)

    pub sorted_plain : count ≡ 1 → {kind : ℕ} → kind ≡ (head_at w 0).kind → sort ≡ 0 → eqb kind 1 ≡ S
    unfolding sorted sort_from
    sorted_plain h e z = rw (e, eq-eqb sort 0 z) (sym (of_one 1 h))

    pub sorted_bytes : count ≡ 1 → {kind : ℕ} → kind ≡ (head_at w 0).kind → (sort ≡ 0 → ⊥) → eqb kind 4 ≡ S
    unfolding sorted sort_from
    sorted_bytes h e z = rw (e, ne_eqb sort 0 z, ne_eqb sort 1 n) (sym (of_one 4 h))

-- WELL FORMED
module _ (ns w t : List ℕ) where
  abbrev W : Bool
  W = is_formed (lent ns w t)

  abbrev count : ℕ
  count = get_or ns 5 0

  abbrev text : List ℕ
  text = take (get_or ns 6 0) t

  pub formed_refusal : (get_or ns 0 0 ≡ 0 → ⊥) → false ≡ W
  unfolding is_formed
  formed_refusal h = rw (ne_eqb (get_or ns 0 0) 0 h) refl

  module _ (e0 : get_or ns 0 0 ≡ 0) where
    pub formed_sort : 2 < get_or ns 1 0 → false ≡ W
    unfolding is_formed
    formed_sort h = rw (eq-eqb (get_or ns 0 0) 0 e0, lt-leb (get_or ns 1 0) 2 h) refl

    module _ (e1 : get_or ns 1 0 ≤ 2) where
      pub formed_words : length w < count * 8 → false ≡ W
      unfolding is_formed lie
      formed_words h = rw (eq-eqb (get_or ns 0 0) 0 e0, le-leb (get_or ns 1 0) 2 e1, lt-leb (count * 8) (length w) h) refl

      module _ (e2 : count * 8 ≤ length w) where
        pub formed_text : length t < get_or ns 6 0 → false ≡ W
        unfolding is_formed lie
        formed_text h = rw (eq-eqb (get_or ns 0 0) 0 e0, le-leb (get_or ns 1 0) 2 e1, le-leb (count * 8) (length w) e2, lt-leb (get_or ns 6 0) (length t) h) refl

        module _ (e3 : get_or ns 6 0 ≤ length t) where
          both_rules : W ≡ (good_from text false 0 0 (records_at w count 0 0) && sorted (sort_from (get_or ns 1 0)) (records_at w count 0 0))
          unfolding is_formed lie records_formed lent_answer held_from answer_from
          both_rules =
              let rs = records_from count 0 w in
              let F = all_fit (map unplaced rs) && ordered false 0 (map unplaced rs) && gapless 0 (map unplaced rs) (length text) in
              let Q = sorted (sort_from (get_or ns 1 0)) (map unplaced rs) in
              let U = texts_utf8 text (map unplaced rs) in
              rw (eq-eqb (get_or ns 0 0) 0 e0, le-leb (get_or ns 1 0) 2 e1, le-leb (count * 8) (length w) e2, le-leb (get_or ns 6 0) (length t) e3, sub-zero count, rules text false 0 0 rs)
              (last F Q U)
            where
              last : (a b c : Bool) → ((a && b) && c) ≡ ((a && c) && b)
              last true true c = sym (and-true c)
              last true false c = sym (and-false c)
              last false b c = refl

          pub formed_bad : {g : Bool} → g ≡ good_from text false 0 0 (records_at w count 0 0) → g ≡ false → false ≡ W
          formed_bad e f = sym (both_rules ∙ rw (sym e ∙ f) refl)

          pub formed_by : {g s : Bool} → g ≡ good_from text false 0 0 (records_at w count 0 0) → g ≡ true → s ≡ sorted (sort_from (get_or ns 1 0)) (records_at w count 0 0) → s ≡ W
          formed_by e f q = q ∙ sym (both_rules ∙ rw (sym e ∙ f) refl)

  pub formed_lies : is_formed (lent ns w t) ≡ true → (count * 8 ≤ length w) × (get_or ns 6 0 ≤ length t)
  unfolding lie
  formed_lies h =
      let p = both (leb (count * 8) (length w)) (leb (get_or ns 6 0) (length t)) (is_formed_lem (lent ns w t) h).lies in
      (leb-true (count * 8) (length w) p.0, leb-true (get_or ns 6 0) (length t) p.1)

  -- from the numbers as they were read
  pub good_read : {g : Bool} {m n : ℕ} → m ≡ get_or ns 6 0 → n ≡ count → g ≡ good_from (take m t) false 0 0 (records_at w n 0 0) → g ≡ good_from text false 0 0 (records_at w count 0 0)
  good_read {g} {m} {n} e f h = h ∙ ap₂ (λ k l. good_from (take k t) false 0 0 (records_at w l 0 0)) e f

  pub sorted_read : {g : Bool} {k n : ℕ} → k ≡ get_or ns 1 0 → n ≡ count → g ≡ sorted (sort_from k) (records_at w n 0 0) → g ≡ sorted (sort_from (get_or ns 1 0)) (records_at w count 0 0)
  sorted_read e f h = h ∙ ap₂ (λ k l. sorted (sort_from k) (records_at w l 0 0)) e f
