-- Two answers that say the same are the same, so one promise allows one answer and one list. Assumes nothing.
use mathlib.Core.Path.{◌≡◌, sym, ◌∙◌, ap}
use mathlib.Core.List.{List}
use Prim.Native.Nat.{ℕ}
use Rattle.definition_revisions.specs.Revisions.{CompareCall}
use Rattle.revisions.specs.declared.Comparison.{Comparison}
use Rattle.std.specs.Prelude.{Result, Ok, Err}
use Rattle.revisions.specs.declared.Uncompared.{Uncompared}
use Rattle.revisions.specs.declared.Uncompared.TheVariants.{Refused, Short}
use Rattle.revisions.specs.Answers.{comparison_of, says, CallIs}

comparison_one : (x y : Comparison) → comparison_of x ≡ comparison_of y → x ≡ y
comparison_one x y e = λ i. record { front = (e i).front; back = (e i).back; first = (e i).first; second = (e i).second }

pub says_one : (r r' : Result Comparison Uncompared) → says r ≡ says r' → r ≡ r'
says_one (Ok x) (Ok y) e = let w : comparison_of x ≡ comparison_of y = cc in ap Ok (comparison_one x y w)
says_one (Ok x) (Err (Refused n)) e = cc
says_one (Ok x) (Err (Short n)) e = cc
says_one (Err (Refused n)) (Ok y) e = cc
says_one (Err (Refused n)) (Err (Refused m)) e = let w : n ≡ m = cc in ap (λ k. Err (Refused k)) w
says_one (Err (Refused n)) (Err (Short m)) e = cc
says_one (Err (Short n)) (Ok y) e = cc
says_one (Err (Short n)) (Err (Refused m)) e = cc
says_one (Err (Short n)) (Err (Short m)) e = let w : n ≡ m = cc in ap (λ k. Err (Short k)) w

pub call_one : (call : CompareCall) (list list' : List ℕ) (r r' : Result Comparison Uncompared) → CallIs call list r → CallIs call list' r' → (r ≡ r') × (list ≡ list')
call_one call list list' r r' p q = (says_one r r' (p.answer ∙ sym q.answer), p.left ∙ sym q.left)
