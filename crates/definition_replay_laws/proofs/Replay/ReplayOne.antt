-- CALLS THAT RETURN AND LEAVE THE SAME have one result. Assumes nothing.
use mathlib.Core.Path.{◌≡◌, refl, sym, ◌∙◌, ap, ap₂}
use mathlib.Core.Bool.{Bool, true, false, ◌&&◌}
use mathlib.Core.List.{List, [], ◌∷◌}
use Prim.Native.Nat.{ℕ, ◌≤◌, ◌<◌}
use native.Mathlib.Omega.{arith}
use lib.Dec.{T, eqb, leb}
use lib.ListN.{length, take, drop}
use lib.Seq.{take-append_seam}
use borrow.Author.Tests.{eqb-true, eqb-false, leb-true}
use Rattle.definition.specs.Numbers.{refusals, ◌among◌, detailed}
use Rattle.definition.specs.Escapes.{Naming}
use Rattle.definition.specs.Records.{Answer}
use Rattle.definition.specs.Entry.{Refusal}
use Rattle.definition.specs.Reading.{accepts, refuses, numbers}
use Rattle.definition.specs.Words.{word, answer_from, held_from}
use Rattle.definition_replay.specs.Replay.{Replayed, replays, unread, stops, ReplayCall, replay_numbers, replay_numbers_of}
use Rattle.definition.proofs.Moves.CharLaws.{cases, no, either}
use Rattle.definition_replay_laws.proofs.Spec.SpecLaws.{both_true}
use Rattle.definition_laws.proofs.Outcomes.Outcomes.{Listed}
use Rattle.definition_laws.proofs.Formed.Held.{numbers_held}
use Rattle.definition_replay_laws.proofs.Replay.ReplayShown.{Told, replay_told, accepted_holds}

-- the numbers of a table are at most its greatest
abbrev all_most : ℕ → List ℕ → Bool
all_most b [] = true
all_most b (m ∷ ms) = leb m b && all_most b ms

among_most : (n b : ℕ) (l : List ℕ) → all_most b l ≡ true → (n among l) ≡ true → n ≤ b
among_most n b [] h e = no e
among_most n b (m ∷ l) h e =
    let d = both_true (leb m b) (all_most b l) h in
    either (eqb n m) (n among l) e (λ q. let x = eqb-true n m q in let y = leb-true m b d.0 in omega arith) (λ q. among_most n b l d.1 q)

test_true : (b c : Bool) → T (b && c) → b ≡ true
test_true true c t = refl
test_true false c t = absurd t

listed_most : (r : Refusal) → Listed r → (0 < r.number) × (r.number ≤ 31)
listed_most r h =
    let e : (r.number among refusals) ≡ true = test_true (r.number among refusals) (detailed r.number r.a r.b) h in
    (some e, among_most r.number 31 refusals refl e)
  where
    some : (r.number among refusals) ≡ true → 0 < r.number
    some e = cases (eqb r.number 0) (λ q. no (ap (λ n. n among refusals) (sym (eqb-true r.number 0 q)) ∙ e)) (λ q. let f = eqb-false r.number 0 q in omega arith)

-- calls that return the same numbers, 0 where they end, and leave the same in all three buffers
abbrev pub Alike : ReplayCall → ReplayCall → Type 0
Alike c c' =
    ((k : ℕ) → word (replay_numbers_of c.result) k ≡ word (replay_numbers_of c'.result) k) × (c.words ≡ c'.words) × (c.text ≡ c'.text) × (c.output ≡ c'.output)

-- what a call's result and buffers have
record Good (c : ReplayCall) : Type 0 where
  told : Told c.result
  answer : (x : Answer) (n : ℕ) (l : List ℕ) → c.result ≡ replays x n l → held_from (numbers (accepts x)) c.words c.text ≡ x
  lines : (x : Answer) (n : ℕ) (l : List ℕ) → c.result ≡ replays x n l → take (length l) c.output ≡ l

good : (look : Naming) (script ns trace words text output : List ℕ) → Good (replay_numbers look script ns trace words text output)
good look script ns trace words text output =
    record {
      told = replay_told look script ns trace words text output;
      answer = λ x n l e.
          let r = accepted_holds look script ns trace words text output x n l e in
          (λ i. held_from (numbers (sym r.accepted i)) (r.words_held i) (r.text_held i)) ∙ (numbers_held look script ns words text x r.accepted).0;
      lines = λ x n l e.
          let r = accepted_holds look script ns trace words text output x n l e in
          ap (take (length l)) r.lines_held ∙ take-append_seam l (drop (length l) output);
    }

same_refusal : (r r' : Refusal) → ((k : ℕ) → word (numbers (refuses r)) k ≡ word (numbers (refuses r')) k) → r ≡ r'
unfolding numbers
same_refusal r r' h = λ i. record { number = h 0 i; literal = h 1 i; place = h 2 i; a = h 3 i; b = h 4 i; opened = h 5 i; line = h 6 i; column = h 7 i; chars = h 8 i }

one_result : (c c' : ReplayCall) → Good c → Good c' → Alike c c' → c.result ≡ c'.result
unfolding replay_numbers_of numbers held_from
one_result c c' g g' (n, w, t, o) = go c.result refl c'.result refl
  where
    same : (k : ℕ) (a b : Replayed) → c.result ≡ a → c'.result ≡ b → word (replay_numbers_of a) k ≡ word (replay_numbers_of b) k
    same k a b e f = rw (← e, ← f) (n k)

    go : (a : Replayed) → c.result ≡ a → (b : Replayed) → c'.result ≡ b → c.result ≡ c'.result
    go (replays x m l) e (replays y m' l') f =
        let s : (k : ℕ) → word (replay_numbers_of (replays x m l)) k ≡ word (replay_numbers_of (replays y m' l')) k = λ k. same k (replays x m l) (replays y m' l') e f in
        let p : x ≡ y = sym (g.answer x m l e) ∙ (λ i. answer_from (s 1 i) (s 2 i) (s 3 i) (s 4 i) (s 5 i) (s 6 i) (s 8 i) (w i) (t i)) ∙ g'.answer y m' l' f in
        let q : m ≡ m' = s 9 in
        let r : length l ≡ length l' = s 10 in
        let u : l ≡ l' = sym (g.lines x m l e) ∙ ap₂ take r o ∙ g'.lines y m' l' f in
        e ∙ (λ i. replays (p i) (q i) (u i)) ∙ sym f
    go (replays x m l) e (unread r) f = let h = listed_most r (rw f at g'.told) in let z : 0 ≡ r.number = same 0 (replays x m l) (unread r) e f in absurd (omega arith)
    go (replays x m l) e (stops m' k) f = let h : (68 ≤ m') × (m' ≤ 73) = rw f at g'.told in let z : 0 ≡ m' = same 0 (replays x m l) (stops m' k) e f in absurd (omega arith)
    go (unread r) e (replays y m' l') f = let h = listed_most r (rw e at g.told) in let z : r.number ≡ 0 = same 0 (unread r) (replays y m' l') e f in absurd (omega arith)
    go (unread r) e (unread r') f = e ∙ ap unread (same_refusal r r' (λ k. same k (unread r) (unread r') e f)) ∙ sym f
    go (unread r) e (stops m k) f =
        let h = listed_most r (rw e at g.told) in
        let h' : (68 ≤ m) × (m ≤ 73) = rw f at g'.told in
        let z : r.number ≡ m = same 0 (unread r) (stops m k) e f in
        absurd (omega arith)
    go (stops m k) e (replays y m' l') f = let h : (68 ≤ m) × (m ≤ 73) = rw e at g.told in let z : m ≡ 0 = same 0 (stops m k) (replays y m' l') e f in absurd (omega arith)
    go (stops m k) e (unread r) f =
        let h = listed_most r (rw f at g'.told) in
        let h' : (68 ≤ m) × (m ≤ 73) = rw e at g.told in
        let z : m ≡ r.number = same 0 (stops m k) (unread r) e f in
        absurd (omega arith)
    go (stops m k) e (stops m' k') f = e ∙ ap₂ stops (same 0 (stops m k) (stops m' k') e f) (same 9 (stops m k) (stops m' k') e f) ∙ sym f

-- NO TWO RESULTS
pub replay_one : (look look' : Naming) (script ns trace words text output script' ns' trace' words' text' output' : List ℕ)
    → Alike (replay_numbers look script ns trace words text output) (replay_numbers look' script' ns' trace' words' text' output')
    → (replay_numbers look script ns trace words text output).result ≡ (replay_numbers look' script' ns' trace' words' text' output').result
replay_one look look' script ns trace words text output script' ns' trace' words' text' output' =
    one_result (replay_numbers look script ns trace words text output) (replay_numbers look' script' ns' trace' words' text' output')
    (good look script ns trace words text output) (good look' script' ns' trace' words' text' output')
