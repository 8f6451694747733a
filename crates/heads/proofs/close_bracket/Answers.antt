use native.Mathlib.Omega.{arith}
use Prim.Native.Nat.{◌-◌}
use mathlib.Core.Path.{◌≡◌, refl, sym, ap, ◌∙◌}
use mathlib.Core.Bool.{false}
use lib.ListN.{get_or}
use borrow.Author.Tests.{le-ltb, ne_eqb}
use Rattle.definition.specs.Body.{Bracket}
use Rattle.brackets.specs.Brackets.{unpacked, bracket_of}
use Rattle.heads.proofs.FieldLaws.{ahead, keeps, close_none, close_goes, close_other}
use Rattle.heads.proofs.close_bracket.Goals as goal
use Rattle.heads.proofs.close_bracket.Goals.{After-innermost-opener}

-- the bracket that is met
met : (c : After-innermost-opener) → bracket_of c.innermost-opener.result ≡ unpacked (get_or c.args.places.now (c.args.f.depth - 1) 0)
met c = rw (ne_eqb _ _ c.if-depth-eq0.false, le-ltb _ _ c.requires) at c.innermost-opener.ensures

bracket : (c : After-innermost-opener) → c.innermost-opener.result.bracket ≡ (unpacked (get_or c.args.places.now (c.args.f.depth - 1) 0)).bracket
bracket c = ap (λ (b : Bracket). b.bracket) (met c)

pub returns-then-depth-eq0 : goal.returns-then-depth-eq0
returns-then-depth-eq0 c = λ s text p. rw c.refused_at.ensures (refl, λ e. close_none p _ e c.if-depth-eq0.true)

pub returns-then-matches : goal.returns-then-matches
returns-then-matches c =
    let a = c.args in
    λ s text p. keeps p.room a.places.now a.after.at (a.f.depth - 1) false (omega (arith, (ahead p.here).0)) (omega (arith, p.room.deep)) refl
    c.kept.ensures (λ e. close_goes p _ e (omega arith) (bracket (goal.at.returns-then-matches c).After-innermost-opener) (sym c.matches.ensures ∙ c.if-matches.true))

pub returns : goal.returns
returns c = λ s text p. (refl, λ e. close_other p _ e (omega arith) (bracket (goal.at.returns c).After-innermost-opener) (ap (λ (b : Bracket). b.taken) (met (goal.at.returns c).After-innermost-opener)) (sym c.matches.ensures ∙ c.if-matches.false))
