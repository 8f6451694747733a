use mathlib.Core.Path.{refl}
use Rattle.formats.proofs.Sets.{in_set}
use Rattle.formats.proofs.is_in.Goals as goal

pub returns-in-Aligns : goal.returns-in-Aligns
returns-in-Aligns c = in_set c.args.b c.is_align.ensures c.in-Aligns.is

pub returns-in-Signs : goal.returns-in-Signs
returns-in-Signs c = in_set c.args.b c.is_sign.ensures c.in-Signs.is

pub returns-in-Groupings : goal.returns-in-Groupings
returns-in-Groupings c = in_set c.args.b c.is_grouping.ensures c.in-Groupings.is

pub returns-in-Types : goal.returns-in-Types
returns-in-Types c = in_set c.args.b c.is_kind.ensures c.in-Types.is

pub returns-in-Z : goal.returns-in-Z
returns-in-Z c = in_set c.args.b refl c.in-Z.is

pub returns-in-Hash : goal.returns-in-Hash
returns-in-Hash c = in_set c.args.b refl c.in-Hash.is

pub returns-in-Nought : goal.returns-in-Nought
returns-in-Nought c = in_set c.args.b refl c.in-Nought.is
