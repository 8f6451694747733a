use native.Mathlib.Omega.{arith}
use Rattle.objects.proofs.Short.{refusal_short, in_front_lem}
use Rattle.objects.proofs.put_refusal.Goals as goal

pub write_refusal-requires : goal.write_refusal-requires
write_refusal-requires c = omega (arith, refusal_short c.args.number c.args.place c.args.a c.args.b (omega arith) (omega arith) (omega arith) (omega arith))

pub returns : goal.returns
returns c = in_front_lem c.write_refusal.ensures
