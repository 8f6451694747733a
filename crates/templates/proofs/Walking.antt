-- The walk over a template's records: those below one are passed, and each item is found. Assumes nothing.
use mathlib.Core.Path.{◌≡◌, refl, sym, ◌∙◌, ap, ap₂}
use mathlib.Core.Bool.{Bool, true, false, ◌||◌}
use mathlib.Core.Logic.{◌⊎◌, inl, inr}
use Rattle.std.specs.Prelude.{Some, None}
use mathlib.Core.List.{List, [], ◌∷◌, ◌++◌, append-nil, append_assoc}
use Prim.Native.Nat.{ℕ, zero, suc, ◌+◌, ◌-◌, ◌*◌, ◌≤◌, ◌<◌, min}
use native.Mathlib.Nat.{sub_self}
use native.Mathlib.Omega.{arith}
use lib.Dec.{eqb}
use lib.ListN.{length, drop}
use lib.Seq.{get_or-drop, drop-drop}
use Rattle.definition.specs.Chars.{part}
use Rattle.definition.specs.Records.{Record}
use Rattle.definition.specs.Words.{word, owing, role_at, records_from}
use Rattle.definition_replay.specs.Replay.{records_below, items_from, nested, texts_of}
use Rattle.definition_laws.proofs.Moves.Adds.{part_split}
use Rattle.definition_laws.proofs.Outcomes.Outcomes.{Gapless, gapless_sum}
use Rattle.definition_replay_laws.proofs.Replay.ReplayFirst.{items_top, items_below, items_none}
use Rattle.templates.specs.declared.Below.{Below}
use Rattle.templates.specs.declared.Place.{Place}
use Rattle.templates.specs.Walk.{laid_from, Lies, Stand, BelowIs, PlaceIs, FoundIs}

-- RECORDS as they lie in words
lies_from : (n owed i at size : ℕ) (words : List ℕ) → at ≤ size → Lies words size i at (laid_from n owed at size (drop (i * 8) words))
unfolding laid_from
lies_from zero owed i at size words h = tt
lies_from (suc n) owed i at size words h =
    let e : i * 8 + 8 ≡ (i + 1) * 8 = omega arith in
    let z : i * 8 + 0 ≡ i * 8 = omega arith in
    let d = get_or-drop (i * 8) words 2 0 in (
      sym (get_or-drop (i * 8) words 0 0 ∙ ap (word words) z),
      (let x : word (drop (i * 8) words) 2 ≡ word words (i * 8 + 2) = d in omega arith),
      sym (get_or-drop (i * 8) words 5 0),
      sym (get_or-drop (i * 8) words 6 0),
      refl,
      rw (d, drop-drop 8 (i * 8) words, e) (lies_from n (owing owed (word (drop (i * 8) words) 6)) (i + 1) (min (at + word words (i * 8 + 2)) size) size words (omega arith)),
    )

length_laid : (n owed at size : ℕ) (words : List ℕ) → length (laid_from n owed at size words) ≡ n
unfolding laid_from
length_laid zero owed at size words = refl
length_laid (suc n) owed at size words = ap suc (length_laid n (owing owed (word words 6)) (min (at + word words 2) size) size (drop 8 words))

-- there are some for any words
pub laid_stands : (words : List ℕ) (count size : ℕ) → Stand words count size 0 0 (laid_from count 0 0 size words)
laid_stands words count size = record { lies = lies_from count 0 0 0 size words (omega arith); whole = let l = length_laid count 0 0 size words in omega arith }

-- their texts end where they end
most : (n : ℕ) (rs : List Record) (m : ℕ) → Gapless n rs m → n ≤ m
most n rs m g = omega (arith, gapless_sum n rs m g)

-- and are those of an answer, whose texts lie so
pub laid_records : (n owed at size : ℕ) (w : List ℕ) → Gapless at (records_from n owed w) size → laid_from n owed at size w ≡ records_from n owed w
unfolding laid_from records_from
laid_records zero owed at size w g = refl
laid_records (suc n) owed at size w g =
    let o = owing owed (word w 6) in
    let a = most (at + word w 2) (records_from n o (drop 8 w)) size g.1 in
    let b : min (at + word w 2) size ≡ at + word w 2 = omega arith in
    let c : min (at + word w 2) size - at ≡ word w 2 = omega arith in
    let t = ap (λ p. laid_from n o p size (drop 8 w)) b ∙ laid_records n o (at + word w 2) size (drop 8 w) g.1 in
    λ i. record { role = role_at owed (word w 0); kind = word w 0; offset = sym g.0 i; size = c i; start = word w 3; end = word w 4; mode = word w 5; parts = word w 6; place = word w 7 } ∷ t i

part_none : (s : List ℕ) (i : ℕ) → part s i i ≡ []
part_none s i = rw (sub_self i)

below_none : (rs : List Record) → records_below 0 rs ≡ []
unfolding records_below
below_none [] = refl
below_none (r ∷ rs) = refl

below_empty : (owed : ℕ) → records_below owed [] ≡ []
unfolding records_below
below_empty zero = refl
below_empty (suc owed) = refl

or_false : (b : Bool) → (b || false) ≡ b
or_false true = refl
or_false false = refl

pub or_yes : {a : Bool} (b : Bool) → a ≡ true → a ≡ (a || b)
or_yes {a} b e = e ∙ sym (ap (λ x. x || b) e)

pub or_no : {a : Bool} (b : Bool) → a ≡ false → b ≡ (a || b)
or_no b e = sym (ap (λ x. x || b) e)

or_assoc : (a b c : Bool) → ((a || b) || c) ≡ (a || (b || c))
or_assoc true b c = refl
or_assoc false b c = refl

-- THOSE BELOW ONE
pub record Passing (words : List ℕ) (count : ℕ) (text : List ℕ) (at owed₀ : ℕ) (rs₀ : List Record) (owed next to : ℕ) (found : Bool) : Type 0 where
  pub rest : List Record
  pub stand : Stand words count (length text) next to rest
  pub among : (found || nested (records_below owed rest)) ≡ nested (records_below owed₀ rs₀)
  pub texts : part text at to ++ texts_of text (records_below owed rest) ≡ texts_of text (records_below owed₀ rs₀)
  pub items : items_from owed rest ≡ items_from owed₀ rs₀

module _ (words : List ℕ) (count : ℕ) (text : List ℕ) (at owed₀ : ℕ) (rs₀ : List Record) where
  pub pass_start : (from : ℕ) → Stand words count (length text) from at rs₀ → Passing words count text at owed₀ rs₀ owed₀ from at false
  pass_start from s =
      record { rest = rs₀; stand = s; among = refl; texts = rw (part_none text at); items = refl }

  module _ (owed next to : ℕ) (found : Bool) (p : Passing words count text at owed₀ rs₀ owed next to found) where
    ended : records_below owed p.rest ≡ [] → items_from 0 p.rest ≡ items_from owed p.rest → BelowIs words count text at owed₀ rs₀ (record { nested = found; next = next; to = to })
    unfolding nested texts_of
    ended e i =
        record {
          rest = p.rest;
          stand = p.stand;
          among = sym (or_false found) ∙ sym (ap (λ l. found || nested l) e) ∙ p.among;
          texts = sym (append-nil (part text at to)) ∙ sym (ap (λ l. part text at to ++ texts_of text l) e) ∙ p.texts;
          items = i ∙ p.items;
        }

    pub pass_done : owed ≡ 0 → BelowIs words count text at owed₀ rs₀ (record { nested = found; next = next; to = to })
    pass_done z = ended (ap (λ n. records_below n p.rest) z ∙ below_none p.rest) (ap (λ n. items_from n p.rest) (sym z))

    pub pass_out : count ≤ next → BelowIs words count text at owed₀ rs₀ (record { nested = found; next = next; to = to })
    pass_out h = go p.rest refl
      where
        go : (rs : List Record) → p.rest ≡ rs → BelowIs words count text at owed₀ rs₀ (record { nested = found; next = next; to = to })
        go [] e = ended (ap (records_below owed) e ∙ below_empty owed) (ap (items_from 0) e ∙ items_none 0 ∙ sym (items_none owed) ∙ sym (ap (items_from owed) e))
        go (r ∷ rs) e = let w = p.stand.whole in let l = ap length e in absurd (omega arith)

    module _ (o : at ≤ to) (l : next < count) (n : owed ≡ 0 → ⊥) {found' : Bool} {to' : ℕ}
        (f : found' ≡ (found || eqb (word words (next * 8)) 2)) (t : to' ≡ min (to + word words (next * 8 + 2)) (length text))
      where
        pub pass-next : Passing words count text at owed₀ rs₀ (owed - 1 + word words (next * 8 + 6)) (next + 1) to' found'
        unfolding records_below nested texts_of
        pass-next = go p.rest refl owed refl
          where
            go : (rs : List Record) → p.rest ≡ rs → (k : ℕ) → owed ≡ k → Passing words count text at owed₀ rs₀ (owed - 1 + word words (next * 8 + 6)) (next + 1) to' found'
            go [] e k d = let w = p.stand.whole in let m = ap length e in absurd (omega arith)
            go (r ∷ rs) e zero d = absurd (n d)
            go (r ∷ rs) e (suc k) d =
                let s : Stand words count (length text) next to (r ∷ rs) = rw e at p.stand in
                let w = s.whole in
                let b : to' ≡ to + r.size = t ∙ s.lies.1 in
                let c : owed - 1 + word words (next * 8 + 6) ≡ k + r.parts = more d s.lies.3 in
                record {
                  rest = rs;
                  stand = record { lies = rw t s.lies.5; whole = omega arith };
                  among = ap₂ (λ x y. x || nested (records_below y rs)) (f ∙ ap (λ x. found || eqb x 2) s.lies.0) c
                      ∙ or_assoc found (eqb r.kind 2) (nested (records_below (k + r.parts) rs))
                      ∙ sym (λ i. found || nested (records_below (d i) (e i)))
                      ∙ p.among;
                  texts = ap₂ (λ x y. part text at x ++ texts_of text (records_below y rs)) b c
                      ∙ ap (λ x. x ++ texts_of text (records_below (k + r.parts) rs)) (part_split text at to (to + r.size) o (omega arith))
                      ∙ append_assoc (part text at to) (part text to (to + r.size)) (texts_of text (records_below (k + r.parts) rs))
                      ∙ ap (λ x. part text at to ++ (part text x (x + r.size) ++ texts_of text (records_below (k + r.parts) rs))) (sym s.lies.4)
                      ∙ sym (λ i. part text at to ++ texts_of text (records_below (d i) (e i)))
                      ∙ p.texts;
                  items = ap (λ y. items_from y rs) c ∙ sym (items_below k r rs) ∙ sym (λ i. items_from (d i) (e i)) ∙ p.items;
                }
              where
                more : {x y : ℕ} → owed ≡ suc k → x ≡ y → owed - 1 + x ≡ k + y
                more d q = omega arith

-- the loop over them
pub record Below-at (words : List ℕ) (count from parts : ℕ) (text : List ℕ) (at owed next to : ℕ) (found : Bool) : Type 0 where
  pub passes : (rs : List Record) → Stand words count (length text) from at rs → Passing words count text at parts rs owed next to found
  pub after : from ≤ next
  pub before_end : next ≤ count
  pub behind : at ≤ to
  pub within : to ≤ length text
  pub few : owed ≤ (next - from + 1) * 0xFFFFFFFF

module _ (words : List ℕ) (count from parts : ℕ) (text : List ℕ) (at : ℕ) where
  pub below_start : from ≤ count → at ≤ length text → parts ≤ 0xFFFFFFFF → Below-at words count from parts text at parts from at false
  below_start h g p =
      record { passes = λ rs s. pass_start words count text at parts rs from s; after = omega arith; before_end = h; behind = omega arith; within = g; few = omega arith }

  module _ (owed next to : ℕ) (found : Bool) (b : Below-at words count from parts text at owed next to found) where
    abbrev Passed : (found : Bool) (next to : ℕ) → Type 0
    Passed f n t =
        ((rs : List Record) → Stand words count (length text) from at rs → BelowIs words count text at parts rs (record { nested = f; next = n; to = t }))
        × (from ≤ n)
        × (n ≤ count)
        × (at ≤ t)
        × (t ≤ length text)

    pub below_done : owed ≡ 0 → Passed found next to
    below_done z = ((λ rs s. pass_done words count text at parts rs owed next to found (b.passes rs s) z), b.after, b.before_end, b.behind, b.within)

    pub below_out : count ≤ next → Passed found next to
    below_out h = ((λ rs s. pass_out words count text at parts rs owed next to found (b.passes rs s) h), b.after, b.before_end, b.behind, b.within)

    pub below_next : next < count → (owed ≡ 0 → ⊥) → {found' : Bool} {to' : ℕ} → found' ≡ (found || eqb (word words (next * 8)) 2)
        → to' ≡ min (to + word words (next * 8 + 2)) (length text) → word words (next * 8 + 6) ≤ 0xFFFFFFFF
        → Below-at words count from parts text at (owed - 1 + word words (next * 8 + 6)) (next + 1) to' found'
    below_next l n f t m =
        let a = b.after in
        let o = b.behind in
        let w = b.within in
        let k = b.few in
        record {
          passes = λ rs s. pass-next words count text at parts rs owed next to found (b.passes rs s) o l n f t;
          after = omega arith;
          before_end = omega arith;
          behind = omega arith;
          within = omega arith;
          few = omega arith;
        }

-- AN ITEM
module _ (words : List ℕ) (count : ℕ) (text : List ℕ) (i at : ℕ) (rs : List Record) (s : Stand words count (length text) i at rs) (h : i < count) where
  pub place_is : {own : ℕ} {below : Below} → own ≡ min (at + word words (i * 8 + 2)) (length text)
      → ((rs' : List Record) → Stand words count (length text) (i + 1) own rs' → BelowIs words count text own (word words (i * 8 + 6)) rs' below)
      → PlaceIs words count text at rs (record { kind = word words (i * 8); mode = word words (i * 8 + 5); own = own; nested = below.nested; to = below.to; next = below.next })
  place_is {own} {below} e b = go rs refl
    where
      go : (l : List Record) → rs ≡ l → PlaceIs words count text at rs (record { kind = word words (i * 8); mode = word words (i * 8 + 5); own = own; nested = below.nested; to = below.to; next = below.next })
      go [] f = let w = s.whole in let m = ap length f in absurd (omega arith)
      go (r ∷ l) f =
          let q : Stand words count (length text) i at (r ∷ l) = rw f at s in
          let w = q.whole in
          let d : own ≡ at + r.size = e ∙ q.lies.1 in
          let x = b l (record { lies = rw e q.lies.5; whole = omega arith }) in
          let p = q.lies.3 in
          record {
            item = r;
            under = records_below r.parts l;
            rest = x.rest;
            items = ap (items_from 0) f ∙ items_top 0 r l refl ∙ ap (λ y. (r, records_below r.parts l) ∷ y) (ap (λ y. items_from y l) (sym p) ∙ sym x.items);
            stand = x.stand;
            kind = q.lies.0;
            mode = q.lies.2;
            among = x.among ∙ ap (λ y. nested (records_below y l)) p;
            own = ap₂ (λ y z. part text y z) (sym q.lies.4) (d ∙ ap (λ y. y + r.size) (sym q.lies.4));
            spec = x.texts ∙ ap (λ y. texts_of text (records_below y l)) p;
          }

-- AN ITEM AT ANY NUMBER AND PLACE
module _ (words : List ℕ) (count : ℕ) (text : List ℕ) (i at : ℕ) where
  pub found_none : {n : ℕ} → n ≡ count → (n ≤ i) ⊎ (length text < at) → FoundIs words count text i at None
  found_none e h = elim h [ inl l ↦ inl (omega arith) | inr l ↦ inr l ]

  pub found_there : {n : ℕ} → n ≡ count → i < n → at ≤ length text → (r : Place)
      → ((rs : List Record) → Stand words n (length text) i at rs → PlaceIs words n text at rs r) × (i < r.next) × (r.next ≤ n) × (at ≤ r.own) × (r.own ≤ r.to) × (r.to ≤ length text)
      → FoundIs words count text i at (Some r)
  found_there e h b r q = (omega arith, b, rw e at q)
