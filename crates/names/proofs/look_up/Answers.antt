use Rattle.std.proofs.Common.{arith, ◌≡◌, ◌∙◌, get_or, eqb-true, zero-le}
use Rattle.std.proofs.lemmas.Bool.{eqb-false}
use Rattle.definition_names.specs.Names.{first_field}
use Rattle.definition_names.proofs.NameLists.{count_at}
use Rattle.names.proofs.Answers.{no_mark, search_marked, search_missed, search_found}
use Rattle.names.proofs.look_up.Goals as goal

pub returns-then-contains-clause-code : goal.returns-then-contains-clause-code
returns-then-contains-clause-code c =
    let a = c.if-contains.ensures.cases in
    let e : get_or c.args.name.now a.0 0 ≡ 59 = eqb-true _ _ (a.2 0) in
    search_marked _ _ _ (rw e at (count_at c.args.name.now a.0 a.1))

pub returns-in_err-k-clause-code : goal.returns-in_err-k-clause-code
returns-in_err-k-clause-code c =
    let f : first_field c.args.name.now ≡ c.args.name.now = no_mark _ (λ i h. eqb-false _ _ (c.if-contains.ensures.cases i 0 zero-le h)) in
    let k = rw f at c.in_err-k.ensures.entry in
    rw c.from_residual.ensures (search_missed _ _ _ (omega arith))

pub returns-clause-code : goal.returns-clause-code
returns-clause-code c =
    let f : first_field c.args.name.now ≡ c.args.name.now = no_mark _ (λ i h. eqb-false _ _ (c.if-contains.ensures.cases i 0 zero-le h)) in
    let k = rw f at c.in_ok-k.ensures.entry in
    c.scalar_at.ensures.code ∙ rw k (search_found _ _ _ (rw k at c.in_ok-k.ensures.inside))
