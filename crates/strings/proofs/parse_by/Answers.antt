use mathlib.Core.Path.{refl}
use Rattle.strings.proofs.CallLaws.{refused_flat, refused_call, few}
use Rattle.strings.proofs.parse_by.Goals as goal

pub finish-requires : goal.finish-requires
finish-requires c = few (rw c.in-Ok.is at c.read_all.ensures)

pub returns-in-Err : goal.returns-in-Err
returns-in-Err c = let R = rw c.in-Err.is at c.read_all.ensures in refused_call c.args.words.now c.args.text.now c.args.words.now c.args.text.now _ _ c.in-Err.r _ _ (refused_flat _ c.args.script.now c.args.numbers.now c.args.words.now c.args.text.now _ R.reads) refl refl (refl, R.words_are, R.text_is)

pub returns-in-Ok : goal.returns-in-Ok
returns-in-Ok c = let R = rw c.in-Ok.is at c.read_all.ensures in c.finish.ensures _ _ _ _ _ _ _ _ R
