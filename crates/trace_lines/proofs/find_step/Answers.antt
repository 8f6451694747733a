use native.Mathlib.Omega.{arith}
use mathlib.Core.Path.{refl}
use Rattle.trace_lines.proofs.Holding.{item_found, item_there}
use Rattle.trace_lines.proofs.find_step.Goals as goal

pub slice_bounds-read_form-count : goal.slice_bounds-read_form-count
slice_bounds-read_form-count c = let p = c.requires in let q = item_found _ _ _ _ _ p.0 p.1 p.2 c.in-Some.ensures in let a = q.4 in omega arith

pub slice_bounds-read_form-start : goal.slice_bounds-read_form-start
slice_bounds-read_form-start c = let p = c.requires in let q = item_found _ _ _ _ _ p.0 p.1 p.2 c.in-Some.ensures in let a = q.4 in omega arith

pub slice_bounds-read_form-end : goal.slice_bounds-read_form-end
slice_bounds-read_form-end c = let p = c.requires in let q = item_found _ _ _ _ _ p.0 p.1 p.2 c.in-Some.ensures in let a = q.5 in omega arith

pub returns : goal.returns
returns c = let p = c.requires in record { record_is = refl; begins = refl; place = item_found _ _ _ _ _ p.0 p.1 p.2 c.in-Some.ensures; form = c.read_form.ensures }

pub unreachable-requires : goal.unreachable-requires
unreachable-requires c = let p = c.requires in item_there _ _ _ _ _ p.0 p.1 p.2 c.in_default.ensures
