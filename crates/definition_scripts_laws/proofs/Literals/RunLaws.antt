-- What is passed over, what a run is, and that running out of moves never shows. Assumes nothing.
use Rattle.std.specs.Prelude.{if◌then◌else◌}
use mathlib.Core.Path.{◌≡◌, refl, sym, subst, ◌∙◌, ap}
use mathlib.Core.Bool.{Bool, true, false}
use mathlib.Core.List.{List, [], ◌∷◌}
use Prim.Native.Nat.{ℕ, zero, suc, ◌+◌, ◌-◌, ◌≤◌, ◌<◌}
use native.Mathlib.Nat.{le_of_suc-le-suc}
use native.Mathlib.Omega.{arith, by_contra}
use borrow.Author.Tests.{leb-true, leb-false, le-leb, lt-leb, eqb-true}
use lib.Dec.{leb}
use lib.ListN.{length, get_or-eq_default}
use Rattle.definition.specs.Chars.{◌is◌, byte}
use Rattle.definition.specs.Entry.{Literal, Refusal, refusal}
use Rattle.definition.specs.Reading.{Outcome, accepts, refuses}
use Rattle.definition_scripts.specs.Opening.{no_kind, opens, is_space, is_sign, line_end}
use Rattle.definition_scripts.specs.IsRun.{Blanks, none, space, comment, Passed, next_place, IsRun, NoRun}
use Rattle.definition_scripts.specs.Literals.{literal_at, BlankCase, space as space_case, comment as comment_case, other, blank_case, passed_n, passed, Run, first_run, run_n}
use Rattle.definition.proofs.Moves.CharLaws.{no, before_in, before_next, byte_in}
use Rattle.definition_scripts_laws.proofs.Literals.LiteralFound.{LiteralAt, literal_at_lem, literal_is, literal_lies}

-- WHAT IS PASSED OVER, case by case
abbrev pub BlankFacts : List ℕ → ℕ → BlankCase → Type 0
BlankFacts s i space_case = is_space (byte s i) ≡ true
BlankFacts s i comment_case = is_sign (byte s i) ≡ true
BlankFacts s i other = (is_space (byte s i) ≡ false) × (is_sign (byte s i) ≡ false)

pub blank_facts : (s : List ℕ) (i : ℕ) → BlankFacts s i (blank_case s i)
unfolding blank_case
blank_facts s i = go (is_space (byte s i)) (is_sign (byte s i)) refl refl
  where
    go : (x y : Bool) → is_space (byte s i) ≡ x → is_sign (byte s i) ≡ y → BlankFacts s i (if x then space_case else if y then comment_case else other)
    go true y e f = e
    go false true e f = f
    go false false e f = (e, f)

-- a byte that is one of few is there
pub space_in : (s : List ℕ) (i : ℕ) → is_space (byte s i) ≡ true → i < length s
space_in s i e = by_contra (suc i) (length s) (λ (k : length s < suc i). no (rw (get_or-eq_default s 256 (le_of_suc-le-suc k)) at e))

pub sign_in : (s : List ℕ) (i : ℕ) → is_sign (byte s i) ≡ true → i < length s
sign_in s i e = let h = eqb-true (byte s i) 35 e in byte_in s i (omega arith)

-- a comment has its sign at least
pub comment_ahead : (s : List ℕ) (i : ℕ) → is_sign (byte s i) ≡ true → i < line_end s i
comment_ahead s i e =
    let h = eqb-true (byte s i) 35 e in omega (arith, before_next (λ c. c is "\n") s i 256 (sign_in s i e) (rw h))

-- blanks lead ahead, and stay in the script
blanks_ahead : (s : List ℕ) {i j : ℕ} → Blanks s i j → (i ≤ j) × (i ≤ length s → j ≤ length s)
blanks_ahead s none = (omega arith, λ h. h)
blanks_ahead s {i} {j} (space e b) = let h = blanks_ahead s b in let k = space_in s i e in (omega arith, λ l. h.1 (omega arith))
blanks_ahead s {i} {j} (comment e b) =
    let h = blanks_ahead s b in
    let k = comment_ahead s i e in
    (omega arith, λ l. h.1 (before_in (λ c. c is "\n") s i l))

-- so many moves being enough
passed_is : (n : ℕ) (s : List ℕ) (i : ℕ) → length s - i < n → Passed s i (passed_n n s i)
unfolding passed_n
passed_is zero s i h = absurd (omega arith)
passed_is (suc n) s i h = go (passed_is n s) (blank_case s i) refl (blank_facts s i)
  where
    earlier : {j k : ℕ} → (Blanks s j k → Blanks s i k) → Passed s j k → Passed s i k
    earlier f p = record { blanks = f p.blanks; no_space = p.no_space; no_sign = p.no_sign }

    go : ((j : ℕ) → length s - j < n → Passed s j (passed_n n s j)) → (x : BlankCase) → blank_case s i ≡ x → BlankFacts s i (blank_case s i) → Passed s i (passed_n (suc n) s i)
    go ih space_case e f = let k = rw e at f in let l = space_in s i k in rw (e, passed_n) (earlier (space k) (ih (i + 1) (omega arith)))
    go ih comment_case e f = let k = rw e at f in let l = comment_ahead s i k in let m = sign_in s i k in rw (e, passed_n) (earlier (comment k) (ih (line_end s i) (omega arith)))
    go ih other e f = let k = rw e at f in rw (e, passed_n) (record { blanks = none; no_space = k.0; no_sign = k.1 })

pub passed_over : (s : List ℕ) (i : ℕ) → Passed s i (passed s i)
unfolding passed
passed_over s i = passed_is (suc (length s)) s i (omega arith)

pub passed_ahead : (s : List ℕ) {i j : ℕ} → Passed s i j → i ≤ length s → (i ≤ j) × (j ≤ length s)
passed_ahead s p h = let b = blanks_ahead s p.blanks in (b.0, b.1 h)

-- all that stand there end in one place
blanks_once : (s : List ℕ) {i j k : ℕ} → Blanks s i j → Blanks s i k → Passed s j j → Passed s k k → j ≡ k
blanks_once s none none p q = refl
blanks_once s none (space e b) p q = no (sym p.no_space ∙ e)
blanks_once s none (comment e b) p q = no (sym p.no_sign ∙ e)
blanks_once s (space e b) none p q = no (sym q.no_space ∙ e)
blanks_once s (space e b) (space f c) p q = blanks_once s b c p q
blanks_once s {i} (space e b) (comment f c) p q = let h = eqb-true (byte s i) 35 f in no (rw h at e)
blanks_once s (comment e b) none p q = no (sym q.no_sign ∙ e)
blanks_once s {i} (comment e b) (space f c) p q = let h = eqb-true (byte s i) 35 e in no (rw h at f)
blanks_once s (comment e b) (comment f c) p q = blanks_once s b c p q

pub passed_once : (s : List ℕ) {i j k : ℕ} → Passed s i j → Passed s i k → j ≡ k
passed_once s p q = blanks_once s p.blanks q.blanks (here p) (here q)
  where
    here : {i j : ℕ} → Passed s i j → Passed s j j
    here p = record { blanks = none; no_space = p.no_space; no_sign = p.no_sign }

pub passed_fuel : (n m : ℕ) (s : List ℕ) (i : ℕ) → length s - i < n → length s - i < m → passed_n n s i ≡ passed_n m s i
passed_fuel n m s i h k = passed_once s (passed_is n s i h) (passed_is m s i k)

-- A RUN
pub opens_known : (s : List ℕ) (i : ℕ) → leb no_kind (opens s i) ≡ false → opens s i ≤ 6
opens_known s i e = let h = leb-false no_kind (opens s i) e in omega arith

-- what an outcome says of the run from i on
abbrev pub RunAt : List ℕ → ℕ → Outcome Run → Type 0
RunAt s i (accepts x) = IsRun s i x.literals x.stop
RunAt s i (refuses r) = NoRun s i r

module _ (s : List ℕ) where
  -- a literal is followed by fewer moves
  pub fewer : (n i : ℕ) (l : Literal) → LiteralAt s i (accepts l) → length s - i < suc n → length s - passed s l.end < n
  fewer n i l p h =
      let w = literal_lies s l p.1 in
      let a = passed_ahead s (passed_over s l.end) w.within in
      let e = p.0 in
      let b = w.ahead in
      let c = w.within in
      omega arith

  -- one literal more in front
  in_front_lem : (i : ℕ) (l : Literal) (o : Outcome Run) → LiteralAt s i (accepts l) → RunAt s (passed s l.end) o → RunAt s i (first_run l o)
  unfolding first_run
  in_front_lem i l (refuses r) p k =
      record {
        earlier = l ∷ k.earlier;
        first = p.0;
        adjacent = (p.1, subst (λ (j : ℕ). Passed s l.end j) (sym k.first) (passed_over s l.end), k.adjacent);
        opened = k.opened;
        unclosed = k.unclosed;
        bare = k.bare;
      }
  in_front_lem i l (accepts x) p k =
      record {
        first = p.0;
        adjacent = (p.1, subst (λ (j : ℕ). Passed s l.end j) (sym k.first) (passed_over s l.end), k.adjacent);
        ended = k.ended;
      }

  never_closes_lem : (i : ℕ) (r : Refusal) → opens s i ≤ 6 → LiteralAt s i (refuses r) → NoRun s i r
  unfolding refusal
  never_closes_lem i r o p =
      let e : r.place ≡ i = ap (λ q. q.place) p.0 in
      record {
        earlier = [];
        first = e;
        adjacent = tt;
        opened = rw e o;
        unclosed = rw e p.1;
        bare = subst (λ (j : ℕ). r ≡ refusal r.number 0 j 0 0) (sym e) p.0;
      }

  pub run_is : (n i : ℕ) → length s - i < n → RunAt s i (run_n n s i)
  unfolding run_n
  run_is zero i h = absurd (omega arith)
  run_is (suc n) i h = go (run_is n) (leb no_kind (opens s i)) refl
    where
      found : ((j : ℕ) → length s - j < n → RunAt s j (run_n n s j)) → leb no_kind (opens s i) ≡ false → (o : Outcome Literal) → literal_at s i ≡ o → LiteralAt s i o → RunAt s i (run_n (suc n) s i)
      found ih e (refuses r) f p = rw (e, f, run_n) (never_closes_lem i r (opens_known s i e) p)
      found ih e (accepts l) f p = rw (e, f, run_n) (in_front_lem i l (run_n n s (passed s l.end)) p (ih (passed s l.end) (fewer n i l p h)))

      go : ((j : ℕ) → length s - j < n → RunAt s j (run_n n s j)) → (t : Bool) → leb no_kind (opens s i) ≡ t → RunAt s i (run_n (suc n) s i)
      go ih true e = rw (e, run_n) (record { first = refl; adjacent = tt; ended = leb-true no_kind (opens s i) e })
      go ih false e = found ih e (literal_at s i) refl (literal_at_lem s i (opens_known s i e))

  -- with enough moves their number does not matter
  pub run_fuel : (n m i : ℕ) → length s - i < n → length s - i < m → run_n n s i ≡ run_n m s i
  unfolding run_n
  run_fuel zero m i h k = absurd (omega arith)
  run_fuel (suc n) zero i h k = absurd (omega arith)
  run_fuel (suc n) (suc m) i h k = go (run_fuel n m) (leb no_kind (opens s i)) refl
    where
      found : ((j : ℕ) → length s - j < n → length s - j < m → run_n n s j ≡ run_n m s j) → leb no_kind (opens s i) ≡ false → (o : Outcome Literal) → literal_at s i ≡ o → LiteralAt s i o → run_n (suc n) s i ≡ run_n (suc m) s i
      found ih e (refuses r) f p = rw (e, f, run_n)
      found ih e (accepts l) f p = rw (e, f, run_n) (ap (first_run l) (ih (passed s l.end) (fewer n i l p h) (fewer m i l p k)))

      go : ((j : ℕ) → length s - j < n → length s - j < m → run_n n s j ≡ run_n m s j) → (t : Bool) → leb no_kind (opens s i) ≡ t → run_n (suc n) s i ≡ run_n (suc m) s i
      go ih true e = rw (e, run_n)
      go ih false e = found ih e (literal_at s i) refl (literal_at_lem s i (opens_known s i e))

  -- what is a run is found
  pub run_found : (ls : List Literal) (stop n i : ℕ) → length s - i < n → IsRun s i ls stop → run_n n s i ≡ accepts (record { literals = ls; stop = stop })
  unfolding run_n first_run
  run_found ls stop zero i h p = absurd (omega arith)
  run_found [] stop (suc n) i h p =
      let e = p.first in rw (le-leb no_kind (opens s i) (subst (λ (j : ℕ). no_kind ≤ opens s j) e p.ended), run_n, e)
  run_found (l ∷ ls) stop (suc n) i h p =
      let q = p.adjacent.0 in
      let k : opens s i ≤ 6 = subst (λ (j : ℕ). opens s j ≤ 6) p.first (rw q.opened q.known) in
      let f : literal_at s i ≡ accepts l = subst (λ (j : ℕ). literal_at s j ≡ accepts l) p.first (literal_is s l q) in
      let a : next_place ls stop ≡ passed s l.end = passed_once s p.adjacent.1 (passed_over s l.end) in
      rw (lt-leb no_kind (opens s i) (omega arith), f, run_n, run_found ls stop n (passed s l.end) (fewer n i l (p.first, q) h) (record { first = a; adjacent = p.adjacent.2; ended = p.ended }))
