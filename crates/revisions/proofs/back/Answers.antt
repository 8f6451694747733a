use native.Mathlib.Omega.{arith}
use mathlib.Core.Path.{◌∙◌}
use Rattle.revisions.specs.Walks.{items_at}
use Rattle.revisions.proofs.Running.{surplus_first, surplus_second}
use Rattle.revisions.proofs.back.Goals as goal

pub ends_alike-requires : goal.ends_alike-requires
ends_alike-requires c = let a = c.args in let p = c.requires in let k = c.skip-to.ensures in (k.within, p.1, (surplus_first (items_at a.words.now a.text.now a.count a.at) (items_at a.words.now a.text.now a.count c.skip-to.result) (items_at a.others.now a.other.now a.total a.from) a.more a.rest p.2 p.3 (omega (arith, c.if-rest-more.true)) (k.skips _)).0)

pub returns-then-rest-more : goal.returns-then-rest-more
returns-then-rest-more c = let a = c.args in let p = c.requires in let k = c.skip-to.ensures in c.ends_alike.ensures ∙ (surplus_first (items_at a.words.now a.text.now a.count a.at) (items_at a.words.now a.text.now a.count c.skip-to.result) (items_at a.others.now a.other.now a.total a.from) a.more a.rest p.2 p.3 (omega (arith, c.if-rest-more.true)) (k.skips _)).1

pub ends_alike-requires-2 : goal.ends_alike-requires-2
ends_alike-requires-2 c = let a = c.args in let p = c.requires in let k = c.skip-end.ensures in (p.0, k.within, (surplus_second (items_at a.words.now a.text.now a.count a.at) (items_at a.others.now a.other.now a.total a.from) (items_at a.others.now a.other.now a.total c.skip-end.result) a.more a.rest p.2 p.3 (omega (arith, c.if-rest-more.false)) (k.skips _)).0)

pub returns : goal.returns
returns c = let a = c.args in let p = c.requires in let k = c.skip-end.ensures in c.ends_alike-2.ensures ∙ (surplus_second (items_at a.words.now a.text.now a.count a.at) (items_at a.others.now a.other.now a.total a.from) (items_at a.others.now a.other.now a.total c.skip-end.result) a.more a.rest p.2 p.3 (omega (arith, c.if-rest-more.false)) (k.skips _)).1
