-- What the search for literals does at each move, whatever moves are left: the equations that code is proved by. Assumes nothing.
use mathlib.Core.Path.{◌≡◌, refl, ap}
use mathlib.Core.List.{List, [], ◌∷◌, ◌++◌, append_assoc}
use Prim.Native.Nat.{ℕ, zero, suc, ◌+◌, ◌-◌, ◌≤◌, ◌<◌}
use native.Mathlib.Omega.{arith}
use borrow.Author.Tests.{lt-ltb, le-ltb, le-leb, lt-leb}
use lib.ListN.{length}
use Rattle.definition.specs.Numbers.{script_too_long, never_closed, newline_in_literal, no_literal}
use Rattle.definition.specs.Entry.{Literal, Refusal, refusal}
use Rattle.definition.specs.Reading.{Outcome, accepts, refuses}
use Rattle.definition_scripts.specs.Opening.{no_kind, opens, line_end}
use Rattle.definition_scripts.specs.Literals.{BodyCase, over, takes, closes, breaks, plain, body_case, closed, fails, closing_n, closing, literal_at, space, comment, other, blank_case, passed_n, passed, Run, first_run, run_n, run, literals_from}
use Rattle.definition_scripts_laws.proofs.Literals.LiteralLaws.{Facts, facts}
use Rattle.definition_scripts_laws.proofs.Literals.LiteralFound.{LiteralAt, literal_at_lem}
use Rattle.definition_scripts_laws.proofs.Literals.RunLaws.{sign_in, blank_facts, space_in, comment_ahead, passed_fuel, run_fuel, fewer}

-- THE CLOSING QUOTES
module _ (s : List ℕ) (quote flag : ℕ) where
  closing_fuel : (n m i : ℕ) → length s - i < n → length s - i < m → closing_n n s quote flag i ≡ closing_n m s quote flag i
  unfolding closing_n
  closing_fuel zero m i h k = absurd (omega arith)
  closing_fuel (suc n) zero i h k = absurd (omega arith)
  closing_fuel (suc n) (suc m) i h k = go (closing_fuel n m) (body_case s quote flag i) refl (facts s quote flag i)
    where
      go : ((j : ℕ) → length s - j < n → length s - j < m → closing_n n s quote flag j ≡ closing_n m s quote flag j) → (x : BodyCase) → body_case s quote flag i ≡ x → Facts s quote flag i (body_case s quote flag i) → closing_n (suc n) s quote flag i ≡ closing_n (suc m) s quote flag i
      go ih over e f = rw (e, closing_n)
      go ih takes e f = let l = (rw e at f).0 in rw (e, closing_n) (ih (i + 2) (omega arith) (omega arith))
      go ih closes e f = rw (e, closing_n)
      go ih breaks e f = rw (e, closing_n)
      go ih plain e f = let l = (rw e at f).0 in rw (e, closing_n) (ih (i + 1) (omega arith) (omega arith))

  module _ (i : ℕ) where
    pub closing_over : body_case s quote flag i ≡ over → closing s quote flag i ≡ fails never_closed
    unfolding closing closing_n
    closing_over e = rw (e, closing_n)

    pub closing_closes : body_case s quote flag i ≡ closes → closing s quote flag i ≡ closed i
    unfolding closing closing_n
    closing_closes e = rw (e, closing_n)

    pub closing_breaks : body_case s quote flag i ≡ breaks → closing s quote flag i ≡ fails newline_in_literal
    unfolding closing closing_n
    closing_breaks e = rw (e, closing_n)

    pub closing_takes : body_case s quote flag i ≡ takes → closing s quote flag i ≡ closing s quote flag (i + 2)
    unfolding closing closing_n
    closing_takes e = let l = (rw e at (facts s quote flag i)).0 in rw (e, closing_n) (closing_fuel (length s) (suc (length s)) (i + 2) (omega arith) (omega arith))

    pub closing_plain : body_case s quote flag i ≡ plain → closing s quote flag i ≡ closing s quote flag (i + 1)
    unfolding closing closing_n
    closing_plain e = let l = (rw e at (facts s quote flag i)).0 in rw (e, closing_n) (closing_fuel (length s) (suc (length s)) (i + 1) (omega arith) (omega arith))

-- WHAT IS PASSED OVER
module _ (s : List ℕ) (i : ℕ) where
  pub passed_other : blank_case s i ≡ other → passed s i ≡ i
  unfolding passed passed_n
  passed_other e = rw (e, passed_n)

  pub passed_space : blank_case s i ≡ space → passed s i ≡ passed s (i + 1)
  unfolding passed passed_n
  passed_space e = let l = space_in s i (rw e at (blank_facts s i)) in rw (e, passed_n) (passed_fuel (length s) (suc (length s)) s (i + 1) (omega arith) (omega arith))

  pub passed_comment : blank_case s i ≡ comment → passed s i ≡ passed s (line_end s i)
  unfolding passed passed_n
  passed_comment e =
      let f = rw e at (blank_facts s i) in
      let l = sign_in s i f in
      let a = comment_ahead s i f in
      rw (e, passed_n) (passed_fuel (length s) (suc (length s)) s (line_end s i) (omega arith) (omega arith))

-- A RUN
module _ (s : List ℕ) (i : ℕ) where
  pub run_ends : no_kind ≤ opens s i → run s i ≡ accepts (record { literals = []; stop = i })
  unfolding run run_n
  run_ends h = rw (le-leb no_kind (opens s i) h, run_n)

  pub run_refuses : opens s i ≤ 6 → (r : Refusal) → literal_at s i ≡ refuses r → run s i ≡ refuses r
  unfolding run run_n
  run_refuses h r e = rw (lt-leb no_kind (opens s i) (omega arith), e, run_n)

  pub run_goes : opens s i ≤ 6 → (l : Literal) → literal_at s i ≡ accepts l → run s i ≡ first_run l (run s (passed s l.end))
  unfolding run run_n
  run_goes h l e =
      let p : LiteralAt s i (accepts l) = rw e at (literal_at_lem s i h) in
      let w = fewer s (length s) i l p (omega arith) in
      rw (lt-leb no_kind (opens s i) (omega arith), e, run_n)
      (ap (first_run l) (run_fuel s (length s) (suc (length s)) (passed s l.end) w (omega arith)))

-- a loop keeps: what it has listed, in front of what there is from here on
abbrev pub run_after : List Literal → Outcome Run → Outcome Run
run_after ls (refuses r) = refuses r
run_after ls (accepts x) = accepts (record { literals = ls ++ x.literals; stop = x.stop })

pub run_after_lem : (ls : List Literal) (l : Literal) (o : Outcome Run) → run_after ls (first_run l o) ≡ run_after (ls ++ l ∷ []) o
unfolding first_run
run_after_lem ls l (refuses r) = refl
run_after_lem ls l (accepts x) = rw (append_assoc ls (l ∷ []) x.literals)

-- FROM AN OFFSET ON
module _ (script : List ℕ) (offset : ℕ) where
  pub from_long : 1048576 < length script → literals_from script offset ≡ refuses (refusal script_too_long 0 0 0 0)
  unfolding literals_from
  from_long h = rw (lt-ltb 1048576 (length script) h, literals_from)

  pub from_none : length script ≤ 1048576 → no_kind ≤ opens script offset → literals_from script offset ≡ refuses (refusal no_literal 0 offset 0 0)
  unfolding literals_from
  from_none h k = rw (le-ltb 1048576 (length script) h, le-leb no_kind (opens script offset) k, literals_from)

  pub from_run : length script ≤ 1048576 → opens script offset ≤ 6 → literals_from script offset ≡ run script offset
  unfolding literals_from
  from_run h k = rw (le-ltb 1048576 (length script) h, lt-leb no_kind (opens script offset) (omega arith), literals_from)
