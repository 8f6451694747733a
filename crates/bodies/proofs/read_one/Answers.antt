use borrow.Author.Rules.{rules}
use mathlib.Core.Path.{◌≡◌, refl}
use mathlib.Core.List.{[]}
use Prim.Native.Nat.{◌<◌}
use Rattle.definition.specs.Escapes.{held_names}
use Rattle.definition.specs.Reading.{all_chars}
use Rattle.entry.specs.Answers.{six, refusal_of}
use Rattle.entry.specs.Literals.{literals}
use Rattle.entry.proofs.Passed.{Passed, passed}
use Rattle.bodies.proofs.CallLaws.{refused_flat, refused_all, done_all}
use Rattle.bodies.proofs.AloneLaws.{none_before, alone_room, alone_stands, alone_refused, alone_all, alone_rowed, alone_whole}
use Rattle.bodies.proofs.read_one.Goals as goal
use Rattle.bodies.proofs.read_one.Goals.{In-Ok}

-- the literal passed the checks
pass : (c : In-Ok) → Passed c.args.script.now (six c.args.l) 1 × (c.in-Ok.chars ≡ all_chars c.args.script.now (literals (six c.args.l) 0 1))
unfolding six
pass c = passed _ _ _ (rw c.in-Ok.is at c.check_one.ensures)

-- and its end is a word
fits : (c : In-Ok) → c.args.l.end < 4294967296
fits c = search rules

pub literal_alone-requires : goal.literal_alone-requires
unfolding six
literal_alone-requires c = alone_room held_names _ _ (record { kind = 0; start = 0; end = 0; mark = 0 }) [] [] (pass (goal.at.literal_alone-requires c).In-Ok).0 (fits (goal.at.literal_alone-requires c).In-Ok)

pub refusal_in-requires : goal.refusal_in-requires
unfolding six
refusal_in-requires c = let Q = rw c.in-Refused.is at c.literal_alone.ensures in (alone_stands held_names _ _ _ _ _ (pass (goal.at.refusal_in-requires c).In-Ok).0 (fits (goal.at.refusal_in-requires c).In-Ok) _ _ c.in-Refused.x Q.0, none_before _)

pub written_of-requires : goal.written_of-requires
unfolding six
written_of-requires c =
    let R = rw c.in-Done.is at c.literal_alone.ensures in (
      (alone_all held_names _ _ _ _ _ (pass (goal.at.written_of-requires c).In-Ok).0 (fits (goal.at.written_of-requires c).In-Ok) _ _ c.in-Done.field-0 c.in-Done.sink c.in-Done.fields R.0).wrote.fits,
      (alone_rowed held_names _ _ _ _ _ (pass (goal.at.written_of-requires c).In-Ok).0 (fits (goal.at.written_of-requires c).In-Ok) _ _ c.in-Done.field-0 c.in-Done.sink c.in-Done.fields R.0 R.1).few,
    )

pub returns-in-Err : goal.returns-in-Err
unfolding six
returns-in-Err c =
    let a = c.args in
    let x = c.in-Err.r in
    let E = c.refuse.ensures in
    refused_all held_names 0 0 a.script.now (six a.l) a.words.now a.text.now [] a.words.now a.text.now [] c.refuse.new.words c.refuse.new.text [] x c.refuse.result
    (refused_flat held_names a.script.now (six a.l) (refusal_of x) (rw c.in-Err.is at c.check_one.ensures)) refl refl refl (E.0, E.1, E.2, refl)

pub returns-in-Refused : goal.returns-in-Refused
unfolding six
returns-in-Refused c =
    let a = c.args in
    let x = c.refusal_in.result in
    let Q = rw c.in-Refused.is at c.literal_alone.ensures in
    let E = c.refuse-in-Refused.ensures in
    refused_all held_names 0 0 a.script.now (six a.l) a.words.now a.text.now [] c.literal_alone.new.words c.literal_alone.new.text [] c.refuse-in-Refused.new.words c.refuse-in-Refused.new.text [] x c.refuse-in-Refused.result
    (alone_refused held_names _ _ _ _ _ (pass (goal.at.returns-in-Refused c).In-Ok).0 (fits (goal.at.returns-in-Refused c).In-Ok) _ _ c.in-Refused.x Q.0 (refusal_of x) c.refusal_in.ensures) c.literal_alone.auto.words c.literal_alone.auto.text refl (E.0, E.1, E.2, refl)

pub returns-in-Done : goal.returns-in-Done
unfolding six
returns-in-Done c =
    let a = c.args in
    let R = rw c.in-Done.is at c.literal_alone.ensures in
    let A = alone_all held_names _ _ _ _ _ (pass (goal.at.returns-in-Done c).In-Ok).0 (fits (goal.at.returns-in-Done c).In-Ok) _ _ c.in-Done.field-0 c.in-Done.sink c.in-Done.fields R.0 in
    let W = alone_rowed held_names _ _ _ _ _ (pass (goal.at.returns-in-Done c).In-Ok).0 (fits (goal.at.returns-in-Done c).In-Ok) _ _ c.in-Done.field-0 c.in-Done.sink c.in-Done.fields R.0 R.1 in
    done_all held_names 0 0 a.script.now (six a.l) a.words.now a.text.now [] _ _ [] _ c.whole_between-whole.result c.in-Done.sink c.in-Done.fields c.in-Ok.chars c.written_of.result (pass (goal.at.returns-in-Done c).In-Ok)
    (rw c.whole_between-whole.ensures (alone_whole a.script.now a.l (pass (goal.at.returns-in-Done c).In-Ok).0)) A W c.written_of.ensures
