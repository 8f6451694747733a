use Rattle.std.proofs.lemmas.Result.{err_from_is_err_and}
use Rattle.templates.proofs.Items.{no_field, field_nested, field_form, field_converted, field_fine}
use Rattle.templates.proofs.check_item.Goals as goal

pub returns-then-kind-ne-FIELD : goal.returns-then-kind-ne-FIELD
returns-then-kind-ne-FIELD c = no_field _ _ _ _ c.if-kind-ne-FIELD.true

pub returns-then-nested : goal.returns-then-nested
returns-then-nested c = field_nested _ _ _ _ c.if-kind-ne-FIELD.false c.if-nested.true

pub returns-in_err-_form : goal.returns-in_err-_form
returns-in_err-_form c =
    let p = err_from_is_err_and c.from_residual.result c.from_residual.ensures.1 in
    rw (p.1, p.2) (field_form _ _ _ _ c.if-kind-ne-FIELD.false c.if-nested.false c.read_form.ensures c.in_err-_form.was)

pub returns-then-mode-ne0 : goal.returns-then-mode-ne0
returns-then-mode-ne0 c = field_converted _ _ _ _ c.if-kind-ne-FIELD.false c.if-nested.false c.read_form.ensures c.in_ok-_form.was c.if-mode-ne0.true

pub returns : goal.returns
returns c = field_fine _ _ _ _ c.if-kind-ne-FIELD.false c.if-nested.false c.read_form.ensures c.in_ok-_form.was c.if-mode-ne0.false
