use Rattle.std.proofs.Common.{sym, ◌∙◌, ap, replicate}
use Rattle.names.proofs.Answers.{build_zeroed}
use Rattle.names.proofs.build.Goals as goal

pub returns-then-is_err : goal.returns-then-is_err
returns-then-is_err c =
    build_zeroed _ _ c.write_index-built.new.index _ _ (sym c.is_err.ensures.value ∙ c.if-is_err.true) c.write_index-built.ensures
    (c.fill.ensures ∙ ap (λ n. replicate n 0) c.write_index-built.auto.index)
