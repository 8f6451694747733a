use native.Mathlib.Omega.{arith}
use mathlib.Core.Path.{refl}
use Rattle.entry.proofs.Passed.{passed}
use Rattle.entry.specs.Answers.{refusal_of}
use Rattle.bodies.proofs.CallLaws.{refused_flat, refused_all, refused_list, done_all}
use Rattle.bodies.proofs.read_all.Goals as goal

pub overflow_cast-count : goal.overflow_cast-count
overflow_cast-count c = let p = passed c.args.script.now c.args.numbers.now c.in-Ok.chars (rw c.in-Ok.is at c.check.ensures) in omega (arith, p.0.few)

pub whole_of-whole-requires : goal.whole_of-whole-requires
whole_of-whole-requires c = let p = passed c.args.script.now c.args.numbers.now c.in-Ok.chars (rw c.in-Ok.is at c.check.ensures) in (p.0.any, p.0.unmixed)

pub read_list-requires : goal.read_list-requires
read_list-requires c = (passed c.args.script.now c.args.numbers.now c.in-Ok.chars (rw c.in-Ok.is at c.check.ensures)).0

pub written_of-requires : goal.written_of-requires
written_of-requires c = let R = rw c.in-Ok-read_list.is at c.read_list.ensures in (R.0.wrote.fits, R.1.few)

pub returns-in-Err : goal.returns-in-Err
returns-in-Err c = let x = c.in-Err.r in refused_all _ _ _ c.args.script.now c.args.numbers.now c.args.words.now c.args.text.now c.args.rows.now c.args.words.now c.args.text.now c.args.rows.now c.refuse.new.words c.refuse.new.text c.refuse.new.rows x c.refuse.result (refused_flat _ c.args.script.now c.args.numbers.now (refusal_of x) (rw c.in-Err.is at c.check.ensures)) refl refl refl c.refuse.ensures

pub returns-in-Err-read_list : goal.returns-in-Err-read_list
returns-in-Err-read_list c = let x = c.in-Err-read_list.r in let P = (passed c.args.script.now c.args.numbers.now c.in-Ok.chars (rw c.in-Ok.is at c.check.ensures)).0 in let R = rw c.in-Err-read_list.is at c.read_list.ensures in refused_all _ _ _ c.args.script.now c.args.numbers.now c.args.words.now c.args.text.now c.args.rows.now c.read_list.new.words c.read_list.new.text c.read_list.new.rows c.refuse-in-Err-read_list.new.words c.refuse-in-Err-read_list.new.text c.refuse-in-Err-read_list.new.rows x c.refuse-in-Err-read_list.result (refused_list _ c.args.script.now c.args.numbers.now _ P x R.0) c.read_list.auto.words c.read_list.auto.text c.read_list.auto.rows c.refuse-in-Err-read_list.ensures

pub returns-in-Ok-read_list : goal.returns-in-Ok-read_list
returns-in-Ok-read_list c =
    let a = c.args in
    let Q = passed a.script.now a.numbers.now c.in-Ok.chars (rw c.in-Ok.is at c.check.ensures) in
    let R = rw c.in-Ok-read_list.is at c.read_list.ensures in
    done_all _ a.within a.skip a.script.now a.numbers.now a.words.now a.text.now a.rows.now _ _ _ _ c.whole_of-whole.result c.in-Ok-read_list.done.sink c.in-Ok-read_list.done.fields c.in-Ok.chars c.written_of.result Q c.whole_of-whole.ensures R.0 R.1 c.written_of.ensures
