-- Two answers with the same numbers are the same. Assumes nothing.
use mathlib.Core.Path.{◌≡◌, ap}
use native.Mathlib.Omega.{arith}
use lib.ListN.{length, get_or}
use Rattle.std.specs.Prelude.{Result, Ok, Err}
use Rattle.literals.specs.declared.Listed.{Listed}
use Rattle.literals.specs.declared.Unlisted.{Unlisted}
use Rattle.literals.specs.declared.Unlisted.TheVariants.{Refused, Short}
use Rattle.literals.specs.Answers.{says}

pub says_one : (o p : Result Listed Unlisted) → says o ≡ says p → o ≡ p
says_one (Ok x) (Ok y) e = λ i. Ok (record { count = get_or (e i) 1 0; to = get_or (e i) 2 0; more = get_or (e i) 3 0 })
says_one (Ok x) (Err (Refused r)) e = let l = ap length e in absurd (omega arith)
says_one (Ok x) (Err (Short n)) e = let l = ap length e in absurd (omega arith)
says_one (Err (Refused r)) (Ok x) e = let l = ap length e in absurd (omega arith)
says_one (Err (Refused r)) (Err (Refused t)) e = λ i. Err (Refused (record { number = get_or (e i) 0 0; place = get_or (e i) 2 0 }))
says_one (Err (Refused r)) (Err (Short n)) e = let l = ap length e in absurd (omega arith)
says_one (Err (Short n)) (Ok x) e = let l = ap length e in absurd (omega arith)
says_one (Err (Short n)) (Err (Refused r)) e = let l = ap length e in absurd (omega arith)
says_one (Err (Short n)) (Err (Short m)) e = λ i. Err (Short (get_or (e i) 9 0))
