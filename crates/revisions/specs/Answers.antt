-- What the answers say, in the definition's terms.
use Rattle.std.specs.Prelude.{ℕ, ◌+◌, ◌≤◌, ◌≡◌, List, Result, Ok, Err}
use Rattle.definition_revisions.specs.Revisions as d
use Rattle.definition_revisions.specs.Revisions.{Comparing, compares, ill_formed, short, CompareCall}
use Rattle.revisions.specs.declared.Comparison.{Comparison}
use Rattle.revisions.specs.declared.Uncompared.{Uncompared}
use Rattle.revisions.specs.declared.Uncompared.TheVariants.{Refused, Short}

abbrev pub comparison_of : Comparison → d.Comparison
comparison_of x = record { front = x.front; back = x.back; first = x.first; second = x.second }

-- front and back lie in both sides
pub record Within (x : Comparison) : Type 0 where
  pub in_first : x.front + x.back ≤ x.first
  pub in_second : x.front + x.back ≤ x.second

abbrev pub says : Result Comparison Uncompared → Comparing
says (Ok x) = compares (comparison_of x)
says (Err (Refused number)) = ill_formed number
says (Err (Short needed)) = short needed

-- a call of the definition: what is answered, and the list buffer afterwards
pub record CallIs (call : CompareCall) (list : List ℕ) (r : Result Comparison Uncompared) : Type 0 where
  pub answer : says r ≡ call.outcome
  pub left : list ≡ call.list
