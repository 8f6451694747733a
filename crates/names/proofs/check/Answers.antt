use Rattle.std.proofs.Common.{◌≡◌, sym, ◌∙◌}
use Rattle.std.proofs.lemmas.Result.{err_from_is_err_and}
use Rattle.names.specs.declared.IndexError.TheVariants.{LineMalformed}
use Rattle.names.proofs.Answers.{counted_sized, check_long, check_malformed, check_right, check_wrong, check_twice}
use Rattle.names.proofs.check.Goals as goal

pub returns-then-file-ge4294967296 : goal.returns-then-file-ge4294967296
returns-then-file-ge4294967296 c = check_long _ c.if-file-ge4294967296.true _

pub returns-in_err-n : goal.returns-in_err-n
returns-in_err-n c =
    let p = err_from_is_err_and c.from_residual.result c.from_residual.ensures.1 in
    let v = rw c.in_err-n.ensures.ok_part at c.in_err-n.ensures.value in
    let q : c.in_err-n.field-0.0 ≡ LineMalformed = cc in
    rw (p.1, p.2, q) (check_malformed _ c.if-file-ge4294967296.false (sym c.in_err-n.ensures.ok_part ∙ c.count_named.ensures) _)

pub returns-then-is_index : goal.returns-then-is_index
returns-then-is_index c = check_right _ c.if-file-ge4294967296.false _ (counted_sized _ _ (sym c.in_ok-n.ensures.ok_part ∙ c.count_named.ensures)) _ (rw c.if-is_index.true at c.is_index.ensures)

pub returns-then-is_distinct : goal.returns-then-is_distinct
returns-then-is_distinct c = check_wrong _ c.if-file-ge4294967296.false _ (counted_sized _ _ (sym c.in_ok-n.ensures.ok_part ∙ c.count_named.ensures)) _ (rw c.if-is_index.false at c.is_index.ensures) (rw c.if-is_distinct.true at c.is_distinct.ensures)

pub returns : goal.returns
returns c = check_twice _ c.if-file-ge4294967296.false _ (counted_sized _ _ (sym c.in_ok-n.ensures.ok_part ∙ c.count_named.ensures)) _ (rw c.if-is_distinct.false at c.is_distinct.ensures)
