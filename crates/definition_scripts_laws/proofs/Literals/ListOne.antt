-- What a call for literals leaves in its list buffer; and two that return the same numbers and leave the same list have one listing. Assumes nothing.
use Rattle.std.specs.Prelude.{if◌then◌else◌}
use mathlib.Core.Path.{◌≡◌, refl, sym, ◌∙◌, ap}
use mathlib.Core.Bool.{Bool, true, false}
use mathlib.Core.List.{List, ◌++◌}
use mathlib.Core.Option.{some}
use Prim.Native.Nat.{ℕ, ◌*◌, ◌≤◌, ◌<◌}
use native.Mathlib.Omega.{arith}
use borrow.Author.Tests.{ltb-true, ltb-false, lt-ltb}
use lib.Dec.{ltb, lit≤}
use lib.ListN.{length, take}
use lib.Seq.{take-append_seam}
use Rattle.definition.specs.Entry.{Literal, Refusal, refusal, sixes}
use Rattle.definition.specs.Reading.{Outcome, accepts, refuses}
use Rattle.definition.specs.Words.{word}
use Rattle.definition.specs.Left.{Left}
use Rattle.definition_scripts.specs.IsRun.{Unclosed, to_end, to_newline}
use Rattle.definition_scripts.specs.Literals.{Run, literals_from, flat, Listing, lists, refused, short, fitting, listed, list_after, list_into, literals_into, list_numbers}
use Rattle.definition.proofs.Moves.CharLaws.{cases}
use Rattle.definition_laws.proofs.Outcomes.Leaving.{left_zeros, left_front}
use Rattle.definition_scripts_laws.proofs.Literals.ListLaw.{Refused, too_long, none_opens, never_closes, Told, list_told, sixes_flat, flat_length}

-- what the numbers do not show of a listing
abbrev pub Settled : Listing → Type 0
Settled (lists ls to more) = Unit {0}
Settled (refused r) = (r ≡ refusal r.number 0 r.place 0 0) × (49 ≤ r.number) × (r.number ≤ 52)
Settled (short n) = Unit {0}

unclosed_within : {s : List ℕ} {quote flag i n : ℕ} → Unclosed s quote flag i n → (49 ≤ n) × (n ≤ 52)
unclosed_within (to_end u h) = (lit≤ tt, lit≤ tt)
unclosed_within (to_newline u h) = (lit≤ tt, lit≤ tt)

refused_settled : {script : List ℕ} {offset : ℕ} {r : Refusal} → Refused script offset r → Settled (refused r)
unfolding refusal
refused_settled (too_long h) = (refl, lit≤ tt, lit≤ tt)
refused_settled (none_opens h) = (refl, lit≤ tt, lit≤ tt)
refused_settled (never_closes r h) = let w = unclosed_within h.unclosed in (h.bare, w.0, w.1)

pub fitting_settled : (room : ℕ) (ls : List Literal) (to more : ℕ) → Settled (fitting room ls to more)
unfolding fitting
fitting_settled room ls to more = go (ltb room (6 * length ls))
  where
    go : (b : Bool) → Settled (if b then short (6 * length ls) else lists ls to more)
    go true = tt
    go false = tt

listed_settled : (script : List ℕ) (offset room : ℕ) (o : Outcome Run) → Told script offset o → Settled (listed room o)
unfolding listed
listed_settled script offset room (refuses r) t = refused_settled t
listed_settled script offset room (accepts x) t = fitting_settled room x.literals _ _

-- lists of one length whose numbers stand in front are the same
flat_same : (ls ms : List Literal) (r t : List ℕ) → length ls ≡ length ms → flat ls ++ r ≡ flat ms ++ t → ls ≡ ms
flat_same ls ms r t n e =
    let l : length (flat ls) ≡ length (flat ms) = omega (arith, flat_length ls, flat_length ms) in
    let f : flat ls ≡ flat ms = sym (take-append_seam (flat ls) r) ∙ ap (take (length (flat ls))) e ∙ ap (λ k. take k (flat ms ++ t)) l ∙ take-append_seam (flat ms) t in
    let s : some ls ≡ some ms = sym (sixes_flat ls) ∙ ap sixes f ∙ sixes_flat ms in
    cc

pub one_listing : (x y : Listing) (b b' : List ℕ) → Settled x → Settled y → ((k : ℕ) → word (list_numbers x) k ≡ word (list_numbers y) k) → list_after x b ≡ list_after y b' → x ≡ y
unfolding list_numbers list_after
one_listing (lists ls to more) (lists ms to' more') b b' p q n l = let e = flat_same ls ms _ _ (n 1) l in λ i. lists (e i) (n 2 i) (n 3 i)
one_listing (lists ls to more) (refused r) b b' p q n l = let z = n 0 in absurd (omega (arith, q.1))
one_listing (lists ls to more) (short m) b b' p q n l = let z = n 0 in absurd (omega arith)
one_listing (refused r) (lists ms to more) b b' p q n l = let z = n 0 in absurd (omega (arith, p.1))
one_listing (refused r) (refused t) b b' p q n l = ap refused (p.0 ∙ (λ i. refusal (n 0 i) 0 (n 2 i) 0 0) ∙ sym q.0)
one_listing (refused r) (short m) b b' p q n l = let z = n 0 in absurd (omega (arith, p.2))
one_listing (short m) (lists ms to more) b b' p q n l = let z = n 0 in absurd (omega arith)
one_listing (short m) (refused t) b b' p q n l = let z = n 0 in absurd (omega (arith, q.2))
one_listing (short m) (short k) b b' p q n l = ap short (n 9)

pub list_one : (script : List ℕ) (offset : ℕ) (buffer script' : List ℕ) (offset' : ℕ) (buffer' : List ℕ)
    → ((k : ℕ) → word (list_numbers (literals_into script offset buffer).listing) k ≡ word (list_numbers (literals_into script' offset' buffer').listing) k)
    → (literals_into script offset buffer).list ≡ (literals_into script' offset' buffer').list
    → (literals_into script offset buffer).listing ≡ (literals_into script' offset' buffer').listing
unfolding literals_into list_into
list_one script offset buffer script' offset' buffer' n l =
    one_listing (listed (length buffer) (literals_from script offset)) (listed (length buffer') (literals_from script' offset')) buffer buffer'
    (listed_settled script offset (length buffer) (literals_from script offset) (list_told script offset))
    (listed_settled script' offset' (length buffer') (literals_from script' offset') (list_told script' offset')) n l

-- THE LIST BUFFER: six numbers for a literal
abbrev pub LeavesList : List ℕ → Listing → Type 0
LeavesList buffer x = let ns = list_numbers x in Left (word ns 0) (word ns 1 * 6) buffer (list_after x buffer)

pub refused_leaves : (buffer : List ℕ) (r : Refusal) → Settled (refused r) → LeavesList buffer (refused r)
unfolding list_after list_numbers
refused_leaves buffer r p = left_zeros r.number (r.literal * 6) buffer (let h = p.1 in omega arith)

pub fitting_leaves : (buffer : List ℕ) (ls : List Literal) (to more : ℕ) → LeavesList buffer (fitting (length buffer) ls to more)
unfolding fitting list_after list_numbers
fitting_leaves buffer ls to more = go (ltb (length buffer) needed) refl
  where
    needed : ℕ
    needed = 6 * length ls

    go : (t : Bool) → ltb (length buffer) needed ≡ t → LeavesList buffer (if t then short needed else lists ls to more)
    go true e = left_zeros 53 0 buffer (lit≤ tt)
    go false e =
        let h = ltb-false (length buffer) needed e in
        let f = flat_length ls in
        left_front (length ls * 6) (flat ls) buffer (omega arith) (omega arith)

listed_leaves : (buffer : List ℕ) (o : Outcome Run) → Settled (listed (length buffer) o) → LeavesList buffer (listed (length buffer) o)
unfolding listed
listed_leaves buffer (refuses r) p = refused_leaves buffer r p
listed_leaves buffer (accepts x) p = fitting_leaves buffer x.literals _ _

pub list_left : (script : List ℕ) (offset : ℕ) (buffer : List ℕ)
    → let c = literals_into script offset buffer in let ns = list_numbers c.listing in Left (word ns 0) (word ns 1 * 6) buffer c.list
unfolding literals_into list_into
list_left script offset buffer =
    listed_leaves buffer (literals_from script offset) (listed_settled script offset (length buffer) (literals_from script offset) (list_told script offset))

-- 49 BEFORE ALL ELSE, whatever offset and buffer
pub list_long : (script : List ℕ) (offset : ℕ) (buffer : List ℕ) → 1048576 < length script → word (list_numbers (literals_into script offset buffer).listing) 0 ≡ 49
unfolding literals_into list_into literals_from listed list_numbers refusal
list_long script offset buffer h = rw (lt-ltb 1048576 (length script) h, literals_from)

-- 53 ONLY IF NOTHING ELSE IS GIVEN: there is a run, and its literals need more than there is
pub list_short : (script : List ℕ) (offset : ℕ) (buffer : List ℕ) → word (list_numbers (literals_into script offset buffer).listing) 0 ≡ 53
    → (x : Run) × (literals_from script offset ≡ accepts x) × (length buffer < 6 * length x.literals)
unfolding literals_into list_into listed fitting list_numbers
list_short script offset buffer e = go (literals_from script offset) refl (listed_settled script offset (length buffer) (literals_from script offset) (list_told script offset)) e
  where
    go : (o : Outcome Run) → literals_from script offset ≡ o → Settled (listed (length buffer) o) → word (list_numbers (listed (length buffer) o)) 0 ≡ 53
        → (x : Run) × (literals_from script offset ≡ accepts x) × (length buffer < 6 * length x.literals)
    go (refuses r) f p n = let k = p.2 in absurd (omega arith)
    go (accepts x) f p n =
        cases (ltb (length buffer) (6 * length x.literals)) (λ t. (x, f, ltb-true (length buffer) (6 * length x.literals) t))
        (λ t. let z = rw t at n in absurd (omega arith))
