use Rattle.integers.proofs.Plain.{base_some}
use Rattle.integers.proofs.is_plain.Goals as goal

pub returns-then-shape-le64 : goal.returns-then-shape-le64
returns-then-shape-le64 c e = let a = c.if-shape-le64.true in (a.1, base_some _ c.base_of.ensures e, a.3, a.0)
