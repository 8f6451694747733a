use Rattle.std.proofs.Common.{◌≡◌, ℕ, sym, length}
use Rattle.std.proofs.lemmas.List.{length-replicate}
use Rattle.std.specs.Prelude.{replicate}
use Rattle.try_readings.proofs.large.Goals as goal

-- apart from its number, which would else be counted out
counted : (n x : ℕ) → n ≡ length (replicate n x)
counted n x = sym (length-replicate n x)

pub returns : goal.returns
returns c = counted 1048640 0
