-- What a caller holds after a call is the answer, so that two calls that leave the same have one outcome. Assumes nothing.
use mathlib.Core.Path.{◌≡◌, refl, sym, ◌∙◌, ap}
use mathlib.Core.Bool.{true}
use mathlib.Core.List.{List, ◌++◌}
use mathlib.Core.Option.{Option, none, some}
use Prim.Native.Nat.{ℕ, ◌*◌, ◌≤◌}
use native.Mathlib.Omega.{arith}
use lib.ListN.{length, drop, length-append}
use borrow.Author.Tests.{le-leb}
use Rattle.definition.specs.Numbers.{not_sixes}
use Rattle.definition.specs.Escapes.{Naming}
use Rattle.definition.specs.Records.{Answer}
use Rattle.definition.specs.Entry.{Literal, sixes, Refusal, refusal}
use Rattle.definition.specs.Reading.{Outcome, accepts, refuses, read, all_words, words_after, text_after, numbers, Call, called, read_into, read_numbers, numbers_by}
use Rattle.definition.specs.Words.{word, answer_from, lie, held_from, records_well_formed, assured}
use Rattle.definition_laws.proofs.Outcomes.Outcomes.{all_words_lem}
use Rattle.definition_laws.proofs.Outcomes.Leaving.{Nonzero, into_nonzero, numbers_nonzero}
use Rattle.definition_laws.proofs.Outcomes.Room.{roomed_accepts}
use Rattle.definition_laws.proofs.Formed.WellFormed.{well_formed_lem, answer_back, all_assured}

-- what a call leaves: the returned numbers and both buffers
abbrev pub held : Call → Answer
held c = held_from (numbers c.outcome) c.words c.text

-- AFTER A CALL THAT ACCEPTS that is the answer, roles too; it is well formed, it lies in the buffers, and its expressions have what they must
abbrev pub Held : Call → Type 0
Held c =
    (x : Answer) → c.outcome ≡ accepts x
    → (held c ≡ x) × (records_well_formed x ≡ true) × (lie (length x.records) (length x.text) c.words c.text ≡ true) × (assured x ≡ true)

module _ (look : Naming) (words text : List ℕ) (x : Answer) where
  accepted_held : (script : List ℕ) (ls : List Literal) → read look script ls ≡ accepts x
      → held_from (numbers (accepts x)) (words_after (accepts x) words) (text_after (accepts x) text) ≡ x
  unfolding held_from numbers words_after text_after
  accepted_held script ls e = answer_back look script ls x e (drop (length (all_words x.records)) words) (drop (length x.text) text)

  accepted_lies : lie (length x.records) (length x.text) (words_after (accepts x) words) (text_after (accepts x) text) ≡ true
  unfolding lie words_after text_after
  accepted_lies =
      let w = drop (length (all_words x.records)) words in
      let t = drop (length x.text) text in
      let v = length-append (all_words x.records) w in
      rw (le-leb (length x.records * 8) (length (all_words x.records ++ w)) (omega (arith, all_words_lem x.records, v)), le-leb (length x.text) (length (x.text ++ t)) (omega (arith, length-append x.text t))) refl

-- of descriptors
pub into_held : (look : Naming) → (script : List ℕ) (ls : List Literal) (words text : List ℕ) → Held (read_into look script ls words text)
unfolding read_into called
into_held look script ls words text x e =
    let r = roomed_accepts (length words) (length text) (read look script ls) x e in
    (rw e (accepted_held look words text x script ls r), well_formed_lem look script ls x r, rw e (accepted_lies look words text x), all_assured look script ls x r)

-- of flat numbers
pub numbers_held : (look : Naming) → (script ns words text : List ℕ) → Held (read_numbers look script ns words text)
unfolding read_numbers numbers_by called
numbers_held look script ns words text = go (sixes ns) refl
  where
    no : {P : Type 0} (x : Answer) (r : Refusal) → ◌≡◌ {A = Outcome Answer} (refuses r) (accepts x) → P
    no x r e = let z : ◌≡◌ {A = ℕ} 0 1 = cc in absurd (omega arith)

    go : (o : Option (List Literal)) → sixes ns ≡ o → Held (read_numbers look script ns words text)
    go none i = rw (i, read_numbers, numbers_by) (λ x e. no x (refusal not_sixes 0 0 0 0) e)
    go (some ls) i = rw (i, read_numbers, numbers_by) (into_held look script ls words text)

-- WHAT YOU MAY ASSUME OF EVERY EXPRESSION, of what a caller holds
abbrev pub Assured : Call → Type 0
Assured c = (x : Answer) → c.outcome ≡ accepts x → assured (held c) ≡ true

held_assured : (c : Call) → Held c → Assured c
held_assured c h x e = let k = h x e in ap assured k.0 ∙ k.3

pub numbers_assured : (look : Naming) → (script ns words text : List ℕ) → Assured (read_numbers look script ns words text)
numbers_assured look script ns words text = held_assured (read_numbers look script ns words text) (numbers_held look script ns words text)

pub into_assured : (look : Naming) → (script : List ℕ) (ls : List Literal) (words text : List ℕ) → Assured (read_into look script ls words text)
into_assured look script ls words text = held_assured (read_into look script ls words text) (into_held look script ls words text)

-- NO TWO OUTCOMES. Calls that return the same numbers, 0 where they end, and leave the same words and text
abbrev pub Alike : Call → Call → Type 0
Alike c c' = ((k : ℕ) → word (numbers c.outcome) k ≡ word (numbers c'.outcome) k) × (c.words ≡ c'.words) × (c.text ≡ c'.text)

same_refusal : (r r' : Refusal) → ((k : ℕ) → word (numbers (refuses r)) k ≡ word (numbers (refuses r')) k) → r ≡ r'
unfolding numbers
same_refusal r r' h = λ i. record { number = h 0 i; literal = h 1 i; place = h 2 i; a = h 3 i; b = h 4 i; opened = h 5 i; line = h 6 i; column = h 7 i; chars = h 8 i }

-- no refusal has an acceptance's 0
differ : {P : Type 0} (x : Answer) (r : Refusal) → 1 ≤ r.number → word (numbers (accepts x)) 0 ≡ word (numbers (refuses r)) 0 → P
unfolding numbers
differ x r h e = absurd (omega arith)

pub one_outcome : (c c' : Call) → Held c → Held c' → Nonzero c.outcome → Nonzero c'.outcome → Alike c c' → c.outcome ≡ c'.outcome
unfolding held_from
one_outcome c c' h h' s s' (n, w, t) = go c.outcome refl c'.outcome refl
  where
    same : (k : ℕ) (o o' : Outcome Answer) → c.outcome ≡ o → c'.outcome ≡ o' → word (numbers o) k ≡ word (numbers o') k
    same k o o' e f = rw (← e, ← f) (n k)

    answers : held c ≡ held c'
    answers = λ i. answer_from (n 1 i) (n 2 i) (n 3 i) (n 4 i) (n 5 i) (n 6 i) (n 8 i) (w i) (t i)

    go : (o : Outcome Answer) → c.outcome ≡ o → (o' : Outcome Answer) → c'.outcome ≡ o' → c.outcome ≡ c'.outcome
    go (accepts x) e (accepts y) f = e ∙ ap accepts (sym (h x e).0 ∙ answers ∙ (h' y f).0) ∙ sym f
    go (accepts x) e (refuses r) f = differ x r (rw f at s') (same 0 (accepts x) (refuses r) e f)
    go (refuses r) e (accepts x) f = differ x r (rw e at s) (sym (same 0 (refuses r) (accepts x) e f))
    go (refuses r) e (refuses r') f = e ∙ ap refuses (same_refusal r r' (λ k. same k (refuses r) (refuses r') e f)) ∙ sym f

-- of flat numbers
pub numbers_one : (look look' : Naming) (script ns words text script' ns' words' text' : List ℕ) → Alike (read_numbers look script ns words text) (read_numbers look' script' ns' words' text')
    → (read_numbers look script ns words text).outcome ≡ (read_numbers look' script' ns' words' text').outcome
numbers_one look look' script ns words text script' ns' words' text' =
    one_outcome (read_numbers look script ns words text) (read_numbers look' script' ns' words' text') (numbers_held look script ns words text) (numbers_held look' script' ns' words' text') (numbers_nonzero look script ns words text) (numbers_nonzero look' script' ns' words' text')

-- of descriptors
pub into_one : (look look' : Naming) (script : List ℕ) (ls : List Literal) (words text script' : List ℕ) (ls' : List Literal) (words' text' : List ℕ)
    → Alike (read_into look script ls words text) (read_into look' script' ls' words' text') → (read_into look script ls words text).outcome ≡ (read_into look' script' ls' words' text').outcome
into_one look look' script ls words text script' ls' words' text' =
    one_outcome (read_into look script ls words text) (read_into look' script' ls' words' text') (into_held look script ls words text) (into_held look' script' ls' words' text') (into_nonzero look script ls words text) (into_nonzero look' script' ls' words' text')
