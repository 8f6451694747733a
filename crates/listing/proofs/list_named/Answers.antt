use Rattle.listing.proofs.NamedList.{named_long, named_not, named_listed}
use Rattle.listing.proofs.list_named.Goals as goal

pub returns-then-script-gt-MOST_BYTES : goal.returns-then-script-gt-MOST_BYTES
returns-then-script-gt-MOST_BYTES c = named_long _ _ _ _ _ c.if-script-gt-MOST_BYTES.true c.fill.ensures

pub returns-in-Err : goal.returns-in-Err
returns-in-Err c =
    let a = c.args in
    named_not a.file.now a.index.now a.script.now a.rows.now c.in-Err.e _ _ c.if-script-gt-MOST_BYTES.false c.in-Err.ensures c.from.ensures c.fill-in-Err.ensures

pub returns-in-Ok : goal.returns-in-Ok
returns-in-Ok c =
    let a = c.args in
    rw (named_listed a.file.now a.index.now a.script.now a.rows.now _ c.in-Ok.ensures) c.list_searched.ensures
