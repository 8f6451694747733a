use mathlib.Core.Path.{refl}
use mathlib.Core.List.{[]}
use Rattle.escapes.proofs.Lent.{names_none}
use Rattle.listing.proofs.Filling.{call_long}
use Rattle.listing.proofs.list_fields.Goals as goal

pub returns-then-script-gt-MOST_BYTES : goal.returns-then-script-gt-MOST_BYTES
returns-then-script-gt-MOST_BYTES c = call_long _ _ _ _ c.if-script-gt-MOST_BYTES.true c.fill.ensures

pub returns : goal.returns
returns c = rw (names_none [] [] refl) at c.list_by.ensures
