use Rattle.std.proofs.Common.{sym, ◌∙◌, refl}
use Rattle.definition.proofs.Moves.CharLaws.{no}
use Rattle.literals.proofs.Listings.{finished}
use Rattle.literals.proofs.finish.Goals as goal

pub returns-then-is_err : goal.returns-then-is_err
returns-then-is_err c = λ in_room buffer e p.
    let k = rw c.fit-given.ensures at (sym c.is_err.ensures.value ∙ c.if-is_err.true) in
    rw c.fit-given.ensures (finished in_room buffer c.args.numbers.now _ c.args.r e p (λ h. c.fill.ensures) (λ h. no (sym h ∙ k)))

pub returns-else-is_err : goal.returns-else-is_err
returns-else-is_err c = λ in_room buffer e p.
    let k = rw c.fit-given.ensures at (sym c.is_err.ensures.value ∙ c.if-is_err.false) in
    rw c.fit-given.ensures (finished in_room buffer c.args.numbers.now _ c.args.r e p (λ h. no (sym k ∙ h)) (λ h. refl))
