use Rattle.std.proofs.Common.{◌≡◌, sym, refl, ◌∙◌}
use Rattle.std.proofs.lemmas.Result.{err_from_is_err_and}
use Rattle.names.specs.declared.IndexError.TheVariants.{LineMalformed, NameTwice, TooLittleRoom}
use Rattle.names.proofs.Answers.{counted_sized, write_refused, build_long, build_malformed, build_short, build_met, build_twice, build_done}
use Rattle.names.proofs.write_index.Goals as goal

pub returns-then-file-ge4294967296 : goal.returns-then-file-ge4294967296
returns-then-file-ge4294967296 c = write_refused _ c.args.index.now c.args.index.now TooLittleRoom (build_long _ c.if-file-ge4294967296.true _)

pub returns-in_err-n : goal.returns-in_err-n
returns-in_err-n c =
    let p = err_from_is_err_and c.from_residual.result c.from_residual.ensures.1 in
    let v = rw c.in_err-n.ensures.ok_part at c.in_err-n.ensures.value in
    let q : c.in_err-n.field-0.0 ≡ LineMalformed = cc in
    rw (p.1, p.2, q) (write_refused _ c.args.index.now c.args.index.now LineMalformed (build_malformed _ c.if-file-ge4294967296.false (sym c.in_err-n.ensures.ok_part ∙ c.count_named.ensures) _))

pub returns-then-is_distinct : goal.returns-then-is_distinct
returns-then-is_distinct c =
    write_refused _ c.args.index.now c.args.index.now TooLittleRoom
    (build_short _ c.if-file-ge4294967296.false _ (counted_sized _ _ (sym c.in_ok-n.ensures.ok_part ∙ c.count_named.ensures)) _ c.if-index-places.true (rw c.if-is_distinct.true at c.is_distinct.ensures))

pub returns-then-index-places : goal.returns-then-index-places
returns-then-index-places c =
    write_refused _ c.args.index.now c.args.index.now NameTwice
    (build_met _ c.if-file-ge4294967296.false _ (counted_sized _ _ (sym c.in_ok-n.ensures.ok_part ∙ c.count_named.ensures)) _ (rw c.if-is_distinct.false at c.is_distinct.ensures))

pub returns : goal.returns
returns c =
    build_done _ c.if-file-ge4294967296.false _ (counted_sized _ _ (sym c.in_ok-n.ensures.ok_part ∙ c.count_named.ensures)) c.args.index.now _ _ c.if-index-places.false (rw c.if-not-order_names.false at c.order_names.ensures) refl

pub returns-then-not-order_names : goal.returns-then-not-order_names
returns-then-not-order_names c =
    write_refused _ c.args.index.now c.args.index.now NameTwice
    (build_twice _ c.if-file-ge4294967296.false _ (counted_sized _ _ (sym c.in_ok-n.ensures.ok_part ∙ c.count_named.ensures)) c.args.index.now c.order_names.new.index (rw c.if-not-order_names.true at c.order_names.ensures))
