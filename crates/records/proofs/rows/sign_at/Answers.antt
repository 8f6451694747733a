use Rattle.std.proofs.Common.{◌≡◌, ℕ, zero, suc, ◌+◌, refl, ap, ◌∙◌}
use Rattle.definition.specs.Rows.{sign_at}
use Rattle.records.specs.Counts.{word}
use Rattle.records.proofs.rows.sign_at.Goals as goal

more : (base n : ℕ) → (n ≡ 0 → ⊥) → base + n ≡ sign_at base n
unfolding sign_at
more base zero h = absurd (h refl)
more base (suc n) h = refl

pub returns-then-taken-eq0 : goal.returns-then-taken-eq0
unfolding sign_at word
returns-then-taken-eq0 c = rw c.if-taken-eq0.true

pub returns-else-taken-eq0 : goal.returns-else-taken-eq0
unfolding sign_at word
returns-else-taken-eq0 c = c.place_in.ensures ∙ ap word (more _ _ c.if-taken-eq0.false)
