-- What 30 and 31 tell: their details are what an acceptance needs, and with so much room there is one. Assumes nothing.
use Prim.Native.Nat.{ℕ, ◌/◌, ◌≤◌}
use mathlib.Core.Path.{◌≡◌, refl, ◌∙◌, ap}
use mathlib.Core.Bool.{Bool, true, false, ◌&&◌}
use mathlib.Core.List.{List}
use mathlib.Core.Option.{Option, none, some}
use native.Mathlib.Omega.{arith}
use lib.Dec.{T, ltb, leb}
use lib.ListN.{length}
use borrow.Author.Tests.{le-ltb, leb-true}
use Rattle.definition.specs.Numbers.{refusals, ◌among◌, not_sixes, too_few_record_places, too_little_text_room, detailed}
use Rattle.definition.specs.Escapes.{Naming}
use Rattle.definition.specs.Records.{Answer}
use Rattle.definition.specs.Entry.{Literal, Refusal, refusal, moved, sixes, entry}
use Rattle.definition.specs.Reading.{Outcome, accepts, refuses, read, outcome_of, short_of, room_for, roomed, Call, called, read_into, read_numbers, numbers_by}
use Rattle.definition_laws.proofs.Moves.Moves.{OfBody}
use Rattle.definition_laws.proofs.Outcomes.Outcomes.{Numbered, read_numbered}

-- with any room, of what is accepted as x with some: an acceptance is x, a refusal's details are how many records and text bytes x has
abbrev pub Needed : Answer → Outcome Answer → Type 0
Needed x (accepts y) = y ≡ x
Needed x (refuses r) = (r.a ≡ length x.records) × (r.b ≡ length x.text)

module _ (w t : ℕ) where
  roomed_needed : (x : Answer) → Needed x (roomed w t (accepts x))
  unfolding outcome_of room_for short_of roomed refusal moved
  roomed_needed x = go (ltb (w / 8) (length x.records)) refl (ltb t (length x.text)) refl
    where
      go : (a : Bool) → ltb (w / 8) (length x.records) ≡ a → (b : Bool) → ltb t (length x.text) ≡ b → Needed x (roomed w t (accepts x))
      go true p b q = rw p (refl, refl)
      go false p true q = rw (p, q) (refl, refl)
      go false p false q = rw (p, q) refl

  pub roomed_enough : (x : Answer) → length x.records ≤ w / 8 → length x.text ≤ t → roomed w t (accepts x) ≡ accepts x
  unfolding outcome_of room_for roomed
  roomed_enough x h k = rw (le-ltb (w / 8) (length x.records) h, le-ltb t (length x.text) k)

  pub roomed_accepts : (o : Outcome Answer) (x : Answer) → roomed w t o ≡ accepts x → o ≡ accepts x
  unfolding outcome_of room_for roomed
  roomed_accepts (refuses r) x e = e
  roomed_accepts (accepts y) x e = go (ltb (w / 8) (length y.records)) refl (ltb t (length y.text)) refl
    where
      go : (a : Bool) → ltb (w / 8) (length y.records) ≡ a → (b : Bool) → ltb t (length y.text) ≡ b → accepts y ≡ accepts x
      go true p b q = let h = rw p at e in cc
      go false p true q = let h = rw (p, q) at e in cc
      go false p false q = rw (p, q) at e

module _ (look : Naming) (script words text words' text' : List ℕ) (x : Answer) where
  -- of descriptors
  pub into_needed : (ls : List Literal) → (read_into look script ls words text).outcome ≡ accepts x → Needed x (read_into look script ls words' text').outcome
  unfolding read_into called
  into_needed ls e = rw (roomed_accepts (length words) (length text) (read look script ls) x e) (roomed_needed (length words') (length text') x)

  pub into_enough : (ls : List Literal) → (read_into look script ls words text).outcome ≡ accepts x → length x.records ≤ length words' / 8 → length x.text ≤ length text'
      → (read_into look script ls words' text').outcome ≡ accepts x
  unfolding read_into called
  into_enough ls e h k = rw (roomed_accepts (length words) (length text) (read look script ls) x e) (roomed_enough (length words') (length text') x h k)

  -- of flat numbers
  module _ (ns : List ℕ) (e : (read_numbers look script ns words text).outcome ≡ accepts x) where
    -- numbers that are accepted are a list of descriptors
    listed : (P : Call → Type 0) → ((ls : List Literal) → (read_into look script ls words text).outcome ≡ accepts x → P (read_into look script ls words' text')) → P (read_numbers look script ns words' text')
    unfolding read_numbers numbers_by called
    listed P given = go (sixes ns) refl
      where
        go : (o : Option (List Literal)) → sixes ns ≡ o → P (read_numbers look script ns words' text')
        go none i = let h = rw (i, read_numbers, numbers_by) at e in let z : ◌≡◌ {A = ℕ} 0 1 = cc in absurd (omega arith)
        go (some ls) i = rw (i, read_numbers, numbers_by) (given ls (rw (i, read_numbers, numbers_by) at e))

    pub numbers_needed : Needed x (read_numbers look script ns words' text').outcome
    numbers_needed = listed (λ c. Needed x c.outcome) into_needed

    pub numbers_enough : length x.records ≤ length words' / 8 → length x.text ≤ length text' → (read_numbers look script ns words' text').outcome ≡ accepts x
    numbers_enough h k = listed (λ c. c.outcome ≡ accepts x) (λ ls i. into_enough ls i h k)

-- WITH ROOM FOR ANYTHING no number is above 28
abbrev pub Below : Outcome Answer → Type 0
Below (accepts x) = Unit {0}
Below (refuses r) = r.number ≤ 28

under : (n m : ℕ) → m ≤ 28 → (b c : Bool) → T ((leb n m && b) && c) → n ≤ 28
under n m h b c t = go (leb n m) refl t
  where
    go : (a : Bool) → leb n m ≡ a → T ((a && b) && c) → n ≤ 28
    go true e t = omega (arith, leb-true n m e)
    go false e t = absurd t

body_below : (n a b : ℕ) → OfBody n a b → n ≤ 28
body_below n a b h = go (leb 10 n) (detailed n a b) h
  where
    go : (x y : Bool) → T ((x && leb n 28 && n among refusals) && y) → n ≤ 28
    go true y h = under n 28 (omega arith) (n among refusals) y h
    go false y h = absurd h

pub read_below : (look : Naming) → (script : List ℕ) (ls : List Literal) → Below (read look script ls)
read_below look script ls = go (entry script ls) (read look script ls) (read_numbered look script ls)
  where
    go : (c : Option Refusal) (o : Outcome Answer) → Numbered c o → Below o
    go (some r) o h = rw h.1 (under r.number 7 (omega arith) (r.number among refusals) (detailed r.number r.a r.b) h.0)
    go none (accepts x) h = tt
    go none (refuses r) h = body_below r.number r.a r.b h

-- an acceptance of the counts that a refusal tells
abbrev pub Told : Refusal → Outcome Answer → Type 0
Told r o = (x : Answer) × (o ≡ accepts x) × (length x.records ≡ r.a) × (length x.text ≡ r.b)

differ : {P : Type 0} (x : Answer) (r : Refusal) → accepts x ≡ refuses r → P
differ x r e = let z : ◌≡◌ {A = ℕ} 0 1 = cc in absurd (omega arith)

same_refusal : (a b : Refusal) → ◌≡◌ {A = Outcome Answer} (refuses a) (refuses b) → a ≡ b
same_refusal a b e = cc

roomed_told : (w t : ℕ) (o : Outcome Answer) (r : Refusal) → Below o → 30 ≤ r.number → roomed w t o ≡ refuses r → Told r o
unfolding outcome_of room_for short_of roomed refusal moved
roomed_told w t (refuses r') r b h e = let s = same_refusal r' r e in let b' = rw s at b in absurd (omega arith)
roomed_told w t (accepts x) r b h e = go (ltb (w / 8) (length x.records)) refl (ltb t (length x.text)) refl
  where
    short : (number : ℕ) → ◌≡◌ {A = Outcome Answer} (refuses (short_of number (length x.records) (length x.text) x.chars)) (refuses r) → Told r (accepts x)
    short number q = rw (← same_refusal (short_of number (length x.records) (length x.text) x.chars) r q) (x, refl, refl, refl)

    go : (p : Bool) → ltb (w / 8) (length x.records) ≡ p → (q : Bool) → ltb t (length x.text) ≡ q → Told r (accepts x)
    go true p q k = short too_few_record_places (rw p at e)
    go false p true k = short too_little_text_room (rw (p, k) at e)
    go false p false k = differ x r (rw (p, k) at e)

-- FROM 30 OR 31 an acceptance follows: with the room that it tells, and with just those counts
module _ (look : Naming) (script words text words' text' : List ℕ) (r : Refusal) (h : 30 ≤ r.number) (w : r.a ≤ length words' / 8) (t : r.b ≤ length text') where
  -- of descriptors
  pub into_told : (ls : List Literal) → (read_into look script ls words text).outcome ≡ refuses r → Told r (read_into look script ls words' text').outcome
  unfolding read_into called
  into_told ls e = go (roomed_told (length words) (length text) (read look script ls) r (read_below look script ls) h e)
    where
      go : Told r (read look script ls) → Told r (read_into look script ls words' text').outcome
      go (x, o, m, n) = (x, ap (roomed (length words') (length text')) o ∙ roomed_enough (length words') (length text') x (omega arith) (omega arith), m, n)

  -- of flat numbers
  pub numbers_told : (ns : List ℕ) → (read_numbers look script ns words text).outcome ≡ refuses r → Told r (read_numbers look script ns words' text').outcome
  unfolding read_numbers numbers_by called refusal
  numbers_told ns e = go (sixes ns) refl
    where
      go : (o : Option (List Literal)) → sixes ns ≡ o → Told r (read_numbers look script ns words' text').outcome
      go none i = let s = same_refusal (refusal not_sixes 0 0 0 0) r (rw (i, read_numbers, numbers_by) at e) in let h' = rw (← s) at h in absurd (omega arith)
      go (some ls) i = rw (i, read_numbers, numbers_by) (into_told ls (rw (i, read_numbers, numbers_by) at e))
