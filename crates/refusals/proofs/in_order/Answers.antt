use Rattle.std.proofs.Common.{◌≡◌, refl, ℕ, List, ◌∷◌}
use Rattle.std.proofs.lemmas.Result.{err_from_is_err_and}
use mathlib.Core.Option.{Option}
use Rattle.definition.specs.Entry as d
use Rattle.definition.specs.Entry.{first_of}
use Rattle.definition.specs.Reading.{Outcome, accepts, refuses, outcome_of}
use Rattle.entry.specs.Answers.{later_checks}
use Rattle.entry.proofs.Checks.{passes, passes_all, stops_here, goes_on, none_stops}
use Rattle.refusals.proofs.in_order.Goals as goal

-- a check that refuses ends the list; one that passes leaves it to the others
stops : (n m : ℕ) (c : Option d.Refusal) (cs : List (Option d.Refusal)) (r : d.Refusal) → refuses r ≡ outcome_of m c → refuses r ≡ outcome_of n (first_of (c ∷ cs))
stops n m c cs r h = stops_here n c cs m r (refuses r) refl h

goes : (n : ℕ) (cs : List (Option d.Refusal)) (o : Outcome ℕ) (m k : ℕ) (c : Option d.Refusal) → accepts k ≡ outcome_of m c → o ≡ outcome_of n (first_of cs) → o ≡ outcome_of n (first_of (c ∷ cs))
goes n cs o m k c h g = goes_on n c cs m k (accepts k) o refl h g

pub returns-in_err-all_good : goal.returns-in_err-all_good
unfolding later_checks
returns-in_err-all_good c =
    let p = err_from_is_err_and c.from_residual.result c.from_residual.ensures.1 in
    rw (p.1, p.2) (stops _ _ _ _ _ c.in_err-all_good.ensures)

pub returns-in_err-not_long : goal.returns-in_err-not_long
unfolding later_checks
returns-in_err-not_long c =
    let p = err_from_is_err_and c.from_residual-in_err-not_long.result c.from_residual-in_err-not_long.ensures.1 in
    rw (p.1, p.2) (goes _ _ _ _ _ _ c.in_ok-all_good.ensures (stops _ _ _ _ _ c.in_err-not_long.ensures))

pub all_utf8-requires : goal.all_utf8-requires
all_utf8-requires c = (passes _ _ _ c.in_ok-all_good.ensures, passes _ _ _ c.in_ok-not_long.ensures)

pub returns-in_err-chars : goal.returns-in_err-chars
unfolding later_checks
returns-in_err-chars c =
    let p = err_from_is_err_and c.from_residual-in_err-chars.result c.from_residual-in_err-chars.ensures.1 in
    rw (p.1, p.2) (goes _ _ _ _ _ _ c.in_ok-all_good.ensures (goes _ _ _ _ _ _ c.in_ok-not_long.ensures (stops _ _ _ _ _ c.in_err-chars.ensures)))

pub returns-in_err-not_mixed : goal.returns-in_err-not_mixed
unfolding later_checks
returns-in_err-not_mixed c =
    let p = err_from_is_err_and c.from_residual-in_err-not_mixed.result c.from_residual-in_err-not_mixed.ensures.1 in
    rw (p.1, p.2) (goes _ _ _ _ _ _ c.in_ok-all_good.ensures (goes _ _ _ _ _ _ c.in_ok-not_long.ensures (goes _ _ _ _ _ _ c.in_ok-chars.ensures (stops _ _ _ _ _ c.in_err-not_mixed.ensures))))

pub returns : goal.returns
unfolding later_checks
returns c =
    goes _ _ _ _ _ _ c.in_ok-all_good.ensures (goes _ _ _ _ _ _ c.in_ok-not_long.ensures (goes _ _ _ _ _ _ c.in_ok-chars.ensures (goes _ _ _ _ _ _ c.in_ok-not_mixed.ensures (rw (passes_all _ _ _ c.in_ok-chars.ensures) (none_stops _)))))
