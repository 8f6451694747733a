-- The rows of a call from a number on, as far as there is room for them.
use Rattle.std.specs.Prelude.{ℕ, ◌*◌, List, length, take, drop}
use Rattle.std.proofs.Math.Option.{none, some}
use Rattle.definition.specs.Numbers.{not_sixes}
use Rattle.definition.specs.Escapes.{Naming}
use Rattle.definition.specs.Entry.{Literal, sixes, refusal}
use Rattle.definition.specs.Reading.{Outcome, accepts, refuses, in_front, zeros, read}
use Rattle.definition.specs.Rows.{all_rows, all_numbers, Rowed, rowed, SignsCall}

-- what the row buffer holds after an outcome: the rows from number `skip` on, each with `within` as its last number
unfoldable pub window_after : (within skip : ℕ) → Outcome Rowed → List ℕ → List ℕ
window_after within skip (refuses r) buffer = zeros buffer
window_after within skip (accepts x) buffer = in_front (take (length buffer) (drop (skip * 10) (all_numbers within x.rows))) buffer

-- over descriptors
unfoldable pub window_into : (look : Naming) → (within skip : ℕ) (script : List ℕ) → List Literal → (buffer : List ℕ) → SignsCall
window_into look within skip script ls buffer =
    let o = rowed (all_rows look script ls) (read look script ls) in
    record { outcome = o; rows = window_after within skip o buffer }

-- over flat numbers
unfoldable pub window_numbers : (look : Naming) → (within skip : ℕ) (script ns buffer : List ℕ) → SignsCall
window_numbers look within skip script ns buffer =
    elim (sixes ns) [
      | none ↦ record { outcome = refuses (refusal not_sixes 0 0 0 0); rows = zeros buffer }
      | some ls ↦ window_into look within skip script ls buffer
    ]
