-- Two answers that say the same are the same. Assumes nothing.
use mathlib.Core.Path.{◌≡◌, sym, ap}
use Prim.Native.Nat.{ℕ}
use native.Mathlib.Omega.{arith}
use Rattle.definition.specs.Entry as d
use Rattle.definition.specs.Reading.{Outcome, accepts, refuses}
use Rattle.entry.specs.declared.Descriptor.{Descriptor}
use Rattle.entry.specs.declared.Refusal.{Refusal}
use Rattle.std.specs.Prelude.{Result, Ok, Err}
use Rattle.entry.specs.Answers.{described, refusal_of, says}

pub described_one : (l m : Descriptor) → described l ≡ described m → l ≡ m
unfolding described
described_one l m e =
    λ i. record { kind = (e i).kind; triple = (e i).triple; offset = (e i).offset; size = (e i).size; start = (e i).start; end = (e i).end }

differ : {P : Type 0} (n : ℕ) (r : d.Refusal) → accepts n ≡ refuses r → P
differ n r e = let z : ◌≡◌ {A = ℕ} 0 1 = cc in absurd (omega arith)

refusal_one : (r r' : Refusal) → refusal_of r ≡ refusal_of r' → r ≡ r'
refusal_one r r' e =
    λ i. record { number = (e i).number; literal = (e i).literal; place = (e i).place; a = (e i).a; b = (e i).b; opened = (e i).opened; line = (e i).line; column = (e i).column; chars = (e i).chars }

pub says_one : (r r' : Result ℕ Refusal) → says r ≡ says r' → r ≡ r'
says_one (Ok n) (Ok m) e = let s : n ≡ m = cc in ap Ok s
says_one (Ok n) (Err r) e = differ n _ e
says_one (Err r) (Ok n) e = differ n _ (sym e)
says_one (Err r) (Err r') e = ap Err (refusal_one r r' (same _ _ e))
  where
    same : (a b : d.Refusal) → ◌≡◌ {A = Outcome ℕ} (refuses a) (refuses b) → a ≡ b
    same a b q = cc
