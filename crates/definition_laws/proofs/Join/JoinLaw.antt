-- DEMAND 3: two runs read as one list. Assumes nothing.
use mathlib.Core.Path.{◌≡◌, refl, sym, ◌∙◌, ap, ap₂}
use mathlib.Core.List.{List, [], ◌∷◌, ◌++◌, append_assoc}
use mathlib.Core.Option.{Option, none, some}
use Prim.Native.Nat.{ℕ, zero, suc, ◌+◌, ◌/◌, ◌≤◌}
use native.Mathlib.Nat.{add-zero, zero-add, add-suc, suc-add, add_assoc}
use native.Mathlib.Omega.{arith}
use lib.ListN.{length, take}
use borrow.Author.Tests.{le-ltb}
use Rattle.definition.specs.Escapes.{Naming, Read, got, refused}
use Rattle.definition.specs.Body.{Piece, read_body}
use Rattle.definition.specs.Records.{Item, Answer, answer_of}
use Rattle.definition.specs.Entry.{Literal, one_more, sixes, body, moved, first_start, entry}
use Rattle.definition.specs.Reading.{Outcome, accepts, refuses, all_chars, refusal_in, read_literal, and_then, read_from, sort_of, u_mark, last_end, answered, read, outcome_of, room_for, roomed, called, read_into, read_numbers, numbers_by}
use Rattle.definition.specs.Join.{shifted, join_outcomes, Enough}
use Rattle.definition_laws.proofs.Join.Laid.{answer_append}
use Rattle.definition_laws.proofs.Outcomes.Placed.{Standing, from_stands, number_in}
use Rattle.definition_laws.proofs.Join.EntrySplit.{entry_left, entry_right, sort_append}

-- a refusal's literal number, raised by n
shift : ℕ → Outcome (List Item) → Outcome (List Item)
shift n (accepts xs) = accepts xs
shift n (refuses r) = refuses (moved (n + r.literal) r.chars r)

shift_literal : (look : Naming) → (script : List ℕ) (n i : ℕ) (l : Literal) → read_literal look script (n + i) l ≡ shift n (read_literal look script i l)
unfolding refusal_in read_literal shift moved
shift_literal look script n i l = go (read_body look l.kind (body script l)) refl
  where
    go : (r : Read (List Piece)) → read_body look l.kind (body script l) ≡ r → read_literal look script (n + i) l ≡ shift n (read_literal look script i l)
    go (got ps j) e = rw (e, read_literal)
    go (refused x) e = rw (e, read_literal)

shift_then : (n : ℕ) (o p : Outcome (List Item)) → and_then (shift n o) (shift n p) ≡ shift n (and_then o p)
unfolding shift and_then
shift_then n (refuses r) p = refl
shift_then n (accepts xs) (refuses r) = refl
shift_then n (accepts xs) (accepts ys) = refl

-- reading from a later number on
shift_from : (look : Naming) → (script : List ℕ) (n i : ℕ) (ls : List Literal) → read_from look script (n + i) ls ≡ shift n (read_from look script i ls)
unfolding read_from shift
shift_from look script n i [] = refl
shift_from look script n i (l ∷ ls) =
    ap₂ and_then (shift_literal look script n i l) (ap (λ k. read_from look script k ls) (sym (add-suc n i)) ∙ shift_from look script n (suc i) ls)
    ∙ shift_then n (read_literal look script i l) (read_from look script (suc i) ls)

then_assoc : (o p q : Outcome (List Item)) → and_then o (and_then p q) ≡ and_then (and_then o p) q
unfolding and_then
then_assoc (refuses r) p q = refl
then_assoc (accepts xs) (refuses r) q = refl
then_assoc (accepts xs) (accepts ys) (refuses r) = refl
then_assoc (accepts xs) (accepts ys) (accepts zs) = ap accepts (sym (append_assoc xs ys zs))

then_nil : (o : Outcome (List Item)) → and_then (accepts []) o ≡ o
unfolding and_then
then_nil (refuses r) = refl
then_nil (accepts xs) = refl

from_append : (look : Naming) → (script : List ℕ) (i : ℕ) (xs ys : List Literal) → read_from look script i (xs ++ ys) ≡ and_then (read_from look script i xs) (read_from look script (i + length xs) ys)
unfolding read_from
from_append look script i [] ys = ap (λ k. read_from look script k ys) (sym (add-zero i)) ∙ sym (then_nil (read_from look script (i + 0) ys))
from_append look script i (x ∷ xs) ys =
    ap (and_then (read_literal look script i x))
    (from_append look script (suc i) xs ys ∙ ap (λ k. and_then (read_from look script (suc i) xs) (read_from look script k ys)) (suc-add i (length xs) ∙ sym (add-suc i (length xs))))
    ∙ then_assoc (read_literal look script i x) (read_from look script (suc i) xs) (read_from look script (i + suc (length xs)) ys)

pub end_append : (e : ℕ) (xs : List Literal) (y : Literal) (ys : List Literal) → last_end e (xs ++ (y ∷ ys)) ≡ last_end 0 (y ∷ ys)
unfolding last_end
end_append e [] y ys = refl
end_append e (x ∷ xs) y ys = end_append x.end xs y ys

read_passed : (look : Naming) → (script : List ℕ) (ls : List Literal) → entry script ls ≡ none → read look script ls ≡ answered script ls (read_from look script 0 ls)
unfolding read
read_passed look script ls e = rw (e, read)

-- the characters of two runs, and of the literals before one of either
chars_append : (script : List ℕ) (xs ys : List Literal) → all_chars script (xs ++ ys) ≡ all_chars script xs + all_chars script ys
unfolding all_chars
chars_append script [] ys = omega arith
chars_append script (x ∷ xs) ys = omega (arith, chars_append script xs ys)

take_first : (n : ℕ) (xs ys : List Literal) → n ≤ length xs → take n (xs ++ ys) ≡ take n xs
take_first zero xs ys h = refl
take_first (suc n) [] ys h = absurd (omega arith)
take_first (suc n) (x ∷ xs) ys h = ap (λ l. x ∷ l) (take_first n xs ys (omega arith))

take_second : (n : ℕ) (xs ys : List Literal) → take (length xs + n) (xs ++ ys) ≡ xs ++ take n ys
take_second n [] ys = ap (λ k. take k ys) (zero-add n)
take_second n (x ∷ xs) ys = ap (λ k. take k (x ∷ (xs ++ ys))) (suc-add (length xs) n) ∙ ap (λ l. x ∷ l) (take_second n xs ys)

module _ (look : Naming) (script : List ℕ) (x : Literal) (xs : List Literal) (y : Literal) (ys : List Literal) (passed : entry script ((x ∷ xs) ++ (y ∷ ys)) ≡ none) where
  answered_join : (o p : Outcome (List Item)) → Standing script 0 (x ∷ xs) o
      → answered script ((x ∷ xs) ++ (y ∷ ys)) (and_then o (shift (length (x ∷ xs)) p)) ≡ join_outcomes (length (x ∷ xs)) (answered script (x ∷ xs) o) (answered script (y ∷ ys) p)
  unfolding answered and_then shift join_outcomes shifted moved u_mark first_start answer_of
  answered_join (refuses r) p h =
      ap (λ l. refuses (moved r.literal (all_chars script l + r.chars) r)) (take_first r.literal (x ∷ xs) (y ∷ ys) (omega (arith, number_in h.named)))
  answered_join (accepts ps) (refuses r) h =
      ap (λ n. refuses (moved (length (x ∷ xs) + r.literal) (n + r.chars) r))
      (ap (all_chars script) (take_second r.literal (x ∷ xs) (y ∷ ys)) ∙ chars_append script (x ∷ xs) (take r.literal (y ∷ ys)))
      ∙ ap (λ n. refuses (moved (length (x ∷ xs) + r.literal) n r)) (add_assoc (all_chars script (x ∷ xs)) (all_chars script (take r.literal (y ∷ ys))) r.chars)
  answered_join (accepts ps) (accepts qs) h =
      ap accepts
      ((λ i. answer_of (sort_append script x xs y ys passed i) (u_mark (x ∷ xs)) x.start (end_append 0 (x ∷ xs) y ys i) (chars_append script (x ∷ xs) (y ∷ ys) i) (ps ++ qs))
      ∙ answer_append (sort_of (x ∷ xs)) (sort_of (y ∷ ys)) (u_mark (x ∷ xs)) (u_mark (y ∷ ys)) x.start y.start (last_end 0 (x ∷ xs)) (last_end 0 (y ∷ ys)) (all_chars script (x ∷ xs)) (all_chars script (y ∷ ys)) ps qs)

  -- DEMAND 3, with room for anything: two runs, each not empty, that together pass the entry checks
  pub read_join : read look script ((x ∷ xs) ++ (y ∷ ys)) ≡ join_outcomes (length (x ∷ xs)) (read look script (x ∷ xs)) (read look script (y ∷ ys))
  read_join =
      read_passed look script ((x ∷ xs) ++ (y ∷ ys)) passed
      ∙ ap (answered script ((x ∷ xs) ++ (y ∷ ys)))
      (from_append look script 0 (x ∷ xs) (y ∷ ys)
      ∙ ap (λ k. and_then (read_from look script 0 (x ∷ xs)) (read_from look script k (y ∷ ys))) (zero-add (length (x ∷ xs)) ∙ sym (add-zero (length (x ∷ xs))))
      ∙ ap (and_then (read_from look script 0 (x ∷ xs))) (shift_from look script (length (x ∷ xs)) 0 (y ∷ ys)))
      ∙ answered_join (read_from look script 0 (x ∷ xs)) (read_from look script 0 (y ∷ ys)) (from_stands look script 0 (x ∷ xs))
      ∙ ap₂ (join_outcomes (length (x ∷ xs)))
      (sym (read_passed look script (x ∷ xs) (entry_left script x xs y ys passed)))
      (sym (read_passed look script (y ∷ ys) (entry_right script x xs y ys passed)))

room : (w t : ℕ) (o : Outcome Answer) → Enough w t o → roomed w t o ≡ o
unfolding outcome_of room_for roomed Enough
room w t (refuses r) h = refl
room w t (accepts x) h = rw (le-ltb (w / 8) (length x.records) h.0, le-ltb t (length x.text) h.1)

-- with buffers, each of three readings into its own: what the whole leaves is the join's
pub called_join : (n : ℕ) (o o₁ o₂ : Outcome Answer) (w t w₁ t₁ w₂ t₂ : List ℕ) → o ≡ join_outcomes n o₁ o₂
    → Enough (length w) (length t) o → Enough (length w₁) (length t₁) o₁ → Enough (length w₂) (length t₂) o₂
    → called (roomed (length w) (length t) o) w t ≡ called (join_outcomes n (roomed (length w₁) (length t₁) o₁) (roomed (length w₂) (length t₂) o₂)) w t
called_join n o o₁ o₂ w t w₁ t₁ w₂ t₂ e h h₁ h₂ =
    ap (λ p. called p w t)
    (room (length w) (length t) o h ∙ e ∙ ap₂ (join_outcomes n) (sym (room (length w₁) (length t₁) o₁ h₁)) (sym (room (length w₂) (length t₂) o₂ h₂)))

-- DEMAND 3, over descriptors and with buffers: what the whole returns and leaves is the join's
pub into_join : (look : Naming) (script : List ℕ) (x : Literal) (xs : List Literal) (y : Literal) (ys : List Literal) (w t w₁ t₁ w₂ t₂ : List ℕ)
    → entry script ((x ∷ xs) ++ (y ∷ ys)) ≡ none
    → Enough (length w) (length t) (read look script ((x ∷ xs) ++ (y ∷ ys)))
    → Enough (length w₁) (length t₁) (read look script (x ∷ xs))
    → Enough (length w₂) (length t₂) (read look script (y ∷ ys))
    → read_into look script ((x ∷ xs) ++ (y ∷ ys)) w t ≡ called (join_outcomes (length (x ∷ xs)) (read_into look script (x ∷ xs) w₁ t₁).outcome (read_into look script (y ∷ ys) w₂ t₂).outcome) w t
unfolding read_into called
into_join look script x xs y ys w t w₁ t₁ w₂ t₂ passed =
    called_join (length (x ∷ xs)) (read look script ((x ∷ xs) ++ (y ∷ ys))) (read look script (x ∷ xs)) (read look script (y ∷ ys)) w t w₁ t₁ w₂ t₂ (read_join look script x xs y ys passed)

-- FLAT NUMBERS: the literals of two lists of numbers
pub sixes_append : (ns ms : List ℕ) (xs ys : List Literal) → sixes ns ≡ some xs → sixes ms ≡ some ys → sixes (ns ++ ms) ≡ some (xs ++ ys)
unfolding sixes one_more
sixes_append [] ms xs ys p q = let z : xs ≡ [] = cc in rw z q
sixes_append (a ∷ []) ms xs ys p q = cc
sixes_append (a ∷ b ∷ []) ms xs ys p q = cc
sixes_append (a ∷ b ∷ c ∷ []) ms xs ys p q = cc
sixes_append (a ∷ b ∷ c ∷ d ∷ []) ms xs ys p q = cc
sixes_append (a ∷ b ∷ c ∷ d ∷ e ∷ []) ms xs ys p q = cc
sixes_append (a ∷ b ∷ c ∷ d ∷ e ∷ f ∷ ns) ms xs ys p q = go (λ ls r. sixes_append ns ms ls ys r q) (sixes ns) refl p
  where
    l : Literal
    l = record { kind = a; triple = b; offset = c; size = d; start = e; end = f }

    go : ((ls : List Literal) → sixes ns ≡ some ls → sixes (ns ++ ms) ≡ some (ls ++ ys)) → (o : Option (List Literal)) → sixes ns ≡ o
        → one_more l (sixes ns) ≡ some xs → one_more l (sixes (ns ++ ms)) ≡ some (xs ++ ys)
    go ih none r p = let z : ◌≡◌ {A = Option (List Literal)} none (some xs) = rw r at p in cc
    go ih (some ls) r p =
        let z : ◌≡◌ {A = Option (List Literal)} (some (l ∷ ls)) (some xs) = rw r at p in
        let y : xs ≡ l ∷ ls = cc in
        rw (ih ls r, y)

read_numbers_lem : (look : Naming) → (script ns : List ℕ) (w t : List ℕ) (ls : List Literal) → sixes ns ≡ some ls → read_numbers look script ns w t ≡ read_into look script ls w t
unfolding read_numbers numbers_by
read_numbers_lem look script ns w t ls e = rw (e, read_numbers, numbers_by)

-- DEMAND 3, over flat numbers
pub numbers_join : (look : Naming) → (script ns ms : List ℕ) (x : Literal) (xs : List Literal) (y : Literal) (ys : List Literal) (w t w₁ t₁ w₂ t₂ : List ℕ)
    → sixes ns ≡ some (x ∷ xs) → sixes ms ≡ some (y ∷ ys)
    → entry script ((x ∷ xs) ++ (y ∷ ys)) ≡ none
    → Enough (length w) (length t) (read look script ((x ∷ xs) ++ (y ∷ ys)))
    → Enough (length w₁) (length t₁) (read look script (x ∷ xs))
    → Enough (length w₂) (length t₂) (read look script (y ∷ ys))
    → read_numbers look script (ns ++ ms) w t ≡ called (join_outcomes (length (x ∷ xs)) (read_numbers look script ns w₁ t₁).outcome (read_numbers look script ms w₂ t₂).outcome) w t
numbers_join look script ns ms x xs y ys w t w₁ t₁ w₂ t₂ p q passed h h₁ h₂ =
    read_numbers_lem look script (ns ++ ms) w t ((x ∷ xs) ++ (y ∷ ys)) (sixes_append ns ms (x ∷ xs) (y ∷ ys) p q)
    ∙ into_join look script x xs y ys w t w₁ t₁ w₂ t₂ passed h h₁ h₂
    ∙ ap₂ (λ a b. called (join_outcomes (length (x ∷ xs)) a.outcome b.outcome) w t)
    (sym (read_numbers_lem look script ns w₁ t₁ (x ∷ xs) p))
    (sym (read_numbers_lem look script ms w₂ t₂ (y ∷ ys) q))
