use Rattle.integers.proofs.Plain.{plain_in}
use Rattle.integers.proofs.write_one.Goals as goal

pub write_plain-requires : goal.write_plain-requires
write_plain-requires c = c.is_plain.ensures c.if-is_plain.true

pub returns-then-is_plain : goal.returns-then-is_plain
returns-then-is_plain c =
    let p = c.is_plain.ensures c.if-is_plain.true in
    plain_in c.args.byte c.args.shape _ _ p.1 p.2 c.write_plain.ensures

pub returns : goal.returns
returns c = rw c.anew.ensures at c.write.ensures
