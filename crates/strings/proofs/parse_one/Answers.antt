use Rattle.strings.proofs.CallLaws.{six_numbers, refused_is, few}
use Rattle.strings.proofs.parse_one.Goals as goal

pub finish-requires : goal.finish-requires
finish-requires c = few (rw (six_numbers c.args.numbers.now c.literal_at-l.result c.requires c.literal_at-l.ensures, c.in-Ok.is) at c.read_one.ensures)

pub returns-in-Err : goal.returns-in-Err
returns-in-Err c = refused_is (rw (six_numbers c.args.numbers.now c.literal_at-l.result c.requires c.literal_at-l.ensures, c.in-Err.is) at c.read_one.ensures)

pub returns-in-Ok : goal.returns-in-Ok
returns-in-Ok c = let R = rw (six_numbers c.args.numbers.now c.literal_at-l.result c.requires c.literal_at-l.ensures, c.in-Ok.is) at c.read_one.ensures in c.finish.ensures _ _ _ _ _ _ _ _ R
