use native.Mathlib.Omega.{arith}
use mathlib.Core.Bool.{true, false}
use mathlib.Core.Path.{◌≡◌, sym, ap, ◌∙◌}
use Prim.Native.Nat.{◌<◌}
use Rattle.definition.specs.Chars.{byte}
use Rattle.utf8.specs.Classes.{class_of}
use Rattle.definition.proofs.Moves.CharLaws.{byte_is}
use Rattle.utf8.proofs.Classes.{class_small, more_small, width_none, width_class}
use Rattle.utf8.proofs.len_in.Goals as goal
use Rattle.utf8.proofs.len_in.Goals.{After-class_in-class}

here : (c : After-class_in-class) → let a = c.args in class_of (byte a.s.now a.at) ≡ c.class_in-class.result
here c =
    let a = c.args in
    sym (c.class_in-class.ensures ∙ ap class_of (byte_is a.s.now a.at c.requires.0))

small : (c : After-class_in-class) → c.class_in-class.result < 10
small c = rw c.class_in-class.ensures (class_small _)

pub returns-then-class-eq0 : goal.returns-then-class-eq0
returns-then-class-eq0 c = let a = c.args in sym (width_none a.s.now a.at (here (goal.at.returns-then-class-eq0 c).After-class_in-class ∙ c.if-class-eq0.true))

pub bounds-class : goal.bounds-class
bounds-class c = small (goal.at.bounds-class c).After-class_in-class

pub overflow_cast-more : goal.overflow_cast-more
overflow_cast-more c = omega (arith, more_small _ (small (goal.at.overflow_cast-more c).After-class_in-class))

pub bounds-class-2 : goal.bounds-class-2
bounds-class-2 c = small (goal.at.bounds-class-2 c).After-class_in-class

pub bounds-class-3 : goal.bounds-class-3
bounds-class-3 c = small (goal.at.bounds-class-3 c).After-class_in-class

pub overflow_add-result : goal.overflow_add-result
overflow_add-result c = omega (arith, more_small _ (small (goal.at.overflow_add-result c).After-class_in-class))

pub returns-then-follows : goal.returns-then-follows
returns-then-follows c = sym (width_class _ _ _ (here (goal.at.returns-then-follows c).After-class_in-class) c.if-class-eq0.false true (sym c.if-follows.true ∙ c.follows.ensures))

pub returns-else-follows : goal.returns-else-follows
returns-else-follows c = sym (width_class _ _ _ (here (goal.at.returns-else-follows c).After-class_in-class) c.if-class-eq0.false false (sym c.if-follows.false ∙ c.follows.ensures))
