use native.Mathlib.Omega.{arith}
use Prim.Native.Nat.{◌+◌, ◌*◌}
use Rattle.templates.proofs.Walking.{place_is}
use Rattle.templates.proofs.place_at.Goals as goal

pub overflow_cast-size : goal.overflow_cast-size
overflow_cast-size c = omega (arith, c.type_inv.words (c.args.i * 8 + 2))

pub returns : goal.returns
returns c = let b = c.pass_below-nested.ensures in ((λ rs s. place_is _ _ _ _ _ rs s c.requires.1 c.text_end-own.ensures b.0), (let l = b.1 in omega arith), b.2, (let e = c.text_end-own.ensures in let p = c.requires.2 in omega arith), b.3, b.4)
