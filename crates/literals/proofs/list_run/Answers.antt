use Rattle.std.proofs.lemmas.Result.{err_from_is_err_and}
use Rattle.std.proofs.Common.{◌∙◌, refl, arith}
use Rattle.definition_scripts.specs.Literals.{flat}
use Rattle.literals.proofs.Listings.{running_starts, running_ends, running_broken, literal_in, running_goes}
use Rattle.literals.proofs.list_run.Goals as goal

pub loop-l-init : goal.loop-l-init
loop-l-init c = (refl, running_starts _ _ _ c.requires.1)

pub returns-in_err-l : goal.returns-in_err-l
returns-in_err-l c =
    let p = err_from_is_err_and c.from_residual.result c.from_residual.ensures.1 in
    rw (p.1, p.2) (tt, running_broken _ _ _ _ _ _ _ c.loop-l.invariant.1 c.requires.0 _ c.in_err-l.ensures)

pub overflow_add-count : goal.overflow_add-count
overflow_add-count c = let h = rw c.in-Some.is at c.in_ok-l.ensures in omega (arith, h.0, c.loop-l.invariant.1.puts.few, c.loop-l.invariant.1.puts.within)

pub passed-at-requires : goal.passed-at-requires
unfolding flat
passed-at-requires c = let h = rw c.in-Some.is at c.in_ok-l.ensures in literal_in _ _ _ _ _ _ _ c.loop-l.invariant.1 h.0 _ refl h.1 _ h.2

pub loop-l-smaller : goal.loop-l-smaller
unfolding flat
loop-l-smaller c = let h = rw c.in-Some.is at c.in_ok-l.ensures in let l = running_goes _ _ _ _ _ _ _ c.loop-l.invariant.1 h.0 _ refl h.1 _ h.2 _ _ c.put_literal.ensures c.passed-at.ensures in omega (arith, l.0, l.1.puts.within)

pub loop-l-preserved : goal.loop-l-preserved
unfolding flat
loop-l-preserved c = let h = rw c.in-Some.is at c.in_ok-l.ensures in (c.put_literal.auto.numbers ∙ c.loop-l.invariant.0, (running_goes _ _ _ _ _ _ _ c.loop-l.invariant.1 h.0 _ refl h.1 _ h.2 _ _ c.put_literal.ensures c.passed-at.ensures).1)

pub returns : goal.returns
returns c = let h = rw c.in_default.is at c.in_ok-l.ensures in running_ends _ _ _ _ _ _ _ c.loop-l.invariant.1 h.0 h.1
