use native.Mathlib.Omega.{arith}
use mathlib.Core.Path.{ap}
use mathlib.Core.List.{[], ◌∷◌}
use Rattle.written.proofs.PutLaws.{puts_same, puts_then, conversion_small}
use Rattle.written.proofs.spell.put_field.Goals as goal

pub put_one-requires : goal.put_one-requires
put_one-requires c = let x = c.put_one-a.ensures.up in let y = c.put_run-b.ensures.up in let z = c.put_conversion-c.ensures.up in let q = conversion_small c.args.mode in let h = c.requires in omega arith

pub returns : goal.returns
returns c = puts_then c.put_one-a.ensures (puts_then c.put_run-b.ensures (puts_then c.put_conversion-c.ensures (puts_same (ap (λ b. b ∷ []) c.end_of.ensures) c.put_one.ensures)))
