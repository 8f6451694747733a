use Rattle.revisions.specs.Walks.{items_at}
use Rattle.revisions.proofs.Running.{in_both, compared_is}
use Rattle.revisions.proofs.compare_items.Goals as goal

pub back-back-requires : goal.back-back-requires
back-back-requires c = let f = c.front_of-f.ensures in (f.within, f.also_within, c.items_from-more.ensures.counts _, c.items_from-rest.ensures.counts _)

pub write-requires : goal.write-requires
write-requires c = let a = c.args in let t = c.front_of-f.result in let f = c.front_of-f.ensures in in_both (items_at a.words.now a.text.now a.count 0) (items_at a.others.now a.other.now a.total 0) (items_at a.words.now a.text.now a.count t.first) (items_at a.others.now a.other.now a.total t.second) t.items c.items_from-more.result c.items_from-rest.result c.back-back.result f.runs f.first_after f.second_after (c.items_from-more.ensures.counts _) (c.items_from-rest.ensures.counts _) c.back-back.ensures

pub returns : goal.returns
returns c = let a = c.args in let t = c.front_of-f.result in let f = c.front_of-f.ensures in rw (compared_is (items_at a.words.now a.text.now a.count 0) (items_at a.others.now a.other.now a.total 0) (items_at a.words.now a.text.now a.count t.first) (items_at a.others.now a.other.now a.total t.second) t.items c.items_from-more.result c.items_from-rest.result c.back-back.result f.runs f.first_after f.second_after (c.items_from-more.ensures.counts _) (c.items_from-rest.ensures.counts _) c.back-back.ensures) c.write.ensures
