use Rattle.std.proofs.Common.{ap, arith}
use Rattle.definition_scripts.specs.Literals.{listed}
use Rattle.definition_scripts_laws.proofs.Literals.LiteralSteps.{from_long, from_none, from_run}
use Rattle.literals.proofs.Listings.{opens_there}
use Rattle.literals.proofs.list_from.Goals as goal

pub returns-then-script-gt-MOST_BYTES : goal.returns-then-script-gt-MOST_BYTES
unfolding listed
returns-then-script-gt-MOST_BYTES c = (tt, λ room. ap (listed room) (from_long _ _ (omega (arith, c.if-script-gt-MOST_BYTES.true))))

pub returns-in-None : goal.returns-in-None
unfolding listed
returns-in-None c = (tt, λ room. ap (listed room) (from_none _ _ c.if-script-gt-MOST_BYTES.false (omega (arith, c.in-None.ensures.kind))))

pub list_run-requires : goal.list_run-requires
list_run-requires c = let o = opens_there _ _ _ c.in-Some.ensures.kind (omega (arith, c.in-Some.ensures.known)) in (c.if-script-gt-MOST_BYTES.false, omega (arith, o.1))

pub returns-in-Some : goal.returns-in-Some
returns-in-Some c =
    let o = opens_there _ _ _ c.in-Some.ensures.kind (omega (arith, c.in-Some.ensures.known)) in
    rw (from_run c.args.script.now c.args.offset c.if-script-gt-MOST_BYTES.false o.0) c.list_run.ensures
