use mathlib.Core.Path.{refl, sym, ◌∙◌, ap}
use Rattle.definition.specs.Reading.{refuses, called}
use Rattle.entry.specs.Answers.{refusal_of}
use Rattle.strings.proofs.CallLaws.{refused_call}
use Rattle.strings.proofs.NamedCalls.{refused_entry, wrong_names_lem, right_names}
use Rattle.strings.proofs.parse_named.Goals as goal

pub returns-in-Err : goal.returns-in-Err
returns-in-Err c =
    let a = c.args in
    let x = c.in-Err.r in
    refused_call a.words.now a.text.now a.words.now a.text.now _ _ x _ _
    (refused_entry a.file.now a.index.now a.script.now a.numbers.now a.words.now a.text.now (refusal_of x) (rw c.in-Err.is at c.check.ensures))
    refl refl c.refuse.ensures

pub returns-in-Err-check : goal.returns-in-Err-check
returns-in-Err-check c =
    let a = c.args in
    let p = rw c.in-Ok.is at c.check.ensures in
    let n = rw c.in-Err-check.is at c.check-in-Ok.ensures in
    let x = c.of_names.result in
    refused_call a.words.now a.text.now a.words.now a.text.now _ _ x _ _
    (wrong_names_lem a.file.now a.index.now a.script.now a.numbers.now a.words.now a.text.now _ _ p n ∙ ap (λ r. called (refuses r) a.words.now a.text.now) (sym c.of_names.ensures))
    refl refl c.refuse-in-Err-check.ensures

pub returns-in-Ok-check : goal.returns-in-Ok-check
returns-in-Ok-check c =
    let a = c.args in
    let n = rw c.in-Ok-check.is at c.check-in-Ok.ensures in
    rw (right_names a.file.now a.index.now a.script.now a.numbers.now a.words.now a.text.now _ n) c.parse_searched.ensures
