use borrow.Author.Rules.{rules}
use native.Mathlib.Omega.{arith}
use mathlib.Core.Path.{◌≡◌, sym, ◌∙◌}
use Prim.Native.Nat.{◌+◌, ◌-◌}
use Rattle.prefixes.proofs.Fitting.{fitted}
use Rattle.prefixes.proofs.formed_blocks.Goals as goal

pub bounds-s-from : goal.bounds-s-from
bounds-s-from c = omega (arith, c.requires.within)

pub bounds-s-from-2 : goal.bounds-s-from-2
bounds-s-from-2 c = omega (arith, c.requires.within)

pub bounds-s-from-3 : goal.bounds-s-from-3
bounds-s-from-3 c = omega (arith, c.requires.within)

pub fitting_blocks-to-requires : goal.fitting_blocks-to-requires
fitting_blocks-to-requires c = omega (arith, c.requires.within)

pub last_start-requires : goal.last_start-requires
last_start-requires c = c.fitting_blocks-to.ensures.within

pub returns : goal.returns
returns c =
    let a = c.args in
    let e : a.at ≡ a.at - 3 + 3 = search rules in
    rw c.last_start.ensures
    (fitted a.s.now a.at (a.at - 3) _ e c.fitting_blocks-to.ensures (sym c.is_due.ensures ∙ c.if-is_due.false) (search rules))
