use mathlib.Core.Path.{◌≡◌, sym, ◌∙◌}
use Prim.Native.Nat.{◌+◌}
use mathlib.Core.Bool.{Bool}
use Rattle.definition_revisions.specs.Revisions.{same_shape}
use Rattle.revisions.specs.Walks.{shape_at}
use Rattle.revisions.proofs.Walking.{items_longer, items_start, items_next, items_differ, items_end}
use Rattle.revisions.proofs.same_items.Goals as goal
use Rattle.revisions.proofs.same_items.Goals.{After-same_record}

-- what the test says of the two records
told : (c : After-same_record) (b : Bool) → c.same_record.result ≡ b → let a = c.args in let k = c.loop-k.k in same_shape (shape_at a.words.now a.text.now (a.i + k)) (shape_at a.others.now a.other.now (a.j + k)) ≡ b
told c b t = rw (← c.record_at-a.ensures, ← c.record_at-b.ensures) (sym c.same_record.ensures ∙ t)

pub returns-then-end-j : goal.returns-then-end-j
returns-then-end-j c = sym (items_longer _ _ _ _ _ _ _ _ c.if-end-j.true)

pub loop-k-init : goal.loop-k-init
loop-k-init c = items_start _ _ _ _ _ _ _ _ c.if-end-j.false

pub returns-then-not-same_record : goal.returns-then-not-same_record
returns-then-not-same_record c = sym (c.loop-k.invariant ∙ items_differ _ _ _ _ _ _ _ c.loop-k.k c.loop-k-test.true (told (goal.at.returns-then-not-same_record c).After-same_record _ (c.if-not-same_record.true)))

pub loop-k-preserved : goal.loop-k-preserved
loop-k-preserved c = c.loop-k.invariant ∙ items_next _ _ _ _ _ _ _ c.loop-k.k c.loop-k-test.true (told (goal.at.loop-k-preserved c).After-same_record _ (c.if-not-same_record.false))

pub returns : goal.returns
returns c = sym (c.loop-k.invariant ∙ items_end _ _ _ _ _ _ _ c.loop-k.k c.loop-k-test.false)
