-- The paper's numbers of an index are the definition's. Assumes nothing.
use Rattle.std.specs.Prelude.{Result, Ok, Err}
use mathlib.Core.Path.{◌≡◌, refl}
use mathlib.Core.List.{List, [], ◌∷◌}
use Prim.Native.Nat.{ℕ}
use native.Mathlib.Omega.{arith}
use lib.ListN.{length}
use Rattle.definition.specs.Entry.{refusal}
use Rattle.definition.specs.Reading.{Outcome, accepts, refuses}
use Rattle.definition_names.specs.Names.{index_numbers}
use Rattle.names.specs.declared.IndexError.{IndexError}
use Rattle.names.specs.Answers.{number_of, says, answer_of}
use Rattle.twelve.specs.Index.{index_says}
use Rattle.stumpgarret.specs.Indexes.{in_numbers}

pub index_says_lem : (r : Result ℕ IndexError) (o : Outcome (List ℕ)) → says r ≡ answer_of o → index_says (in_numbers r) ≡ index_numbers o
unfolding index_numbers refusal
index_says_lem (Ok n) (accepts l) h = let e : n ≡ length l = cc in rw e refl
index_says_lem (Ok n) (refuses r) h = let y : ◌≡◌ {A = ℕ} 0 1 = cc in absurd (omega arith)
index_says_lem (Err e) (accepts l) h = let y : ◌≡◌ {A = ℕ} 0 1 = cc in absurd (omega arith)
index_says_lem (Err e) (refuses r) h = let z : r ≡ refusal (number_of e) 0 0 0 0 = cc in rw z refl
