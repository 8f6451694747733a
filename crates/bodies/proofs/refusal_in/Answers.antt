use mathlib.Core.Path.{◌∙◌}
use Rattle.definition.specs.Entry.{body}
use Rattle.entry.specs.Answers.{described}
use Rattle.bodies.proofs.ListLaws.{refused_told}
use Rattle.bodies.proofs.refusal_in.Goals as goal

pub chars_before-requires : goal.chars_before-requires
unfolding body described
chars_before-requires c = c.requires.1

pub returns : goal.returns
unfolding body described
returns c =
    let a = c.args in
    let p = c.requires in
    c.refused_in.ensures ∙ refused_told a.script.now a.numbers.now a.i a.l a.x c.count_before-k.result c.chars_before.result p.0 p.1 c.count_before-k.ensures c.chars_before.ensures
