use Rattle.formats.proofs.Forms.{form_none, form_z, form_precision, form_base, form_wide, form_apart, form_in_lem}
use Rattle.formats.proofs.read_form.Goals as goal
use Rattle.formats.proofs.read_form.Goals.{then-p-ne0-via-then-p-ne0, then-p-ne0-via-else-p-ne0+then-p-ne0-2, then-base-eq0-via-then-base-eq0, then-base-eq0-via-else-base-eq0+then-p-gt65, then-base-eq0-via-else-base-eq0+else-p-gt65+then-is_apart}

pub returns-then-p-s : goal.returns-then-p-s
returns-then-p-s c = form_none _ c.read-p.ensures c.if-p-s.true

pub returns-then-p-ne0 : goal.returns-then-p-ne0
returns-then-p-ne0 c =
    let p = c.read-p.ensures in
    let e = c.if-p-s.false in
    elim c.then-p-ne0.branch [
      | then-p-ne0-via-then-p-ne0 w ↦ form_z _ p e w.if-p-ne0.true
      | then-p-ne0-via-else-p-ne0+then-p-ne0-2 w ↦ form_precision _ p e w.if-p-ne0.false w.if-p-ne0-2.true
    ]

pub returns-then-base-eq0 : goal.returns-then-base-eq0
returns-then-base-eq0 c =
    let p = c.read-p.ensures in
    let e = c.if-p-s.false in
    let z = c.if-p-ne0.false in
    let q = c.if-p-ne0-2.false in
    let b = c.base_of-base.ensures in
    elim c.then-base-eq0.branch [
      | then-base-eq0-via-then-base-eq0 w ↦ form_base _ p e z q b w.if-base-eq0.true
      | then-base-eq0-via-else-base-eq0+then-p-gt65 w ↦ form_wide _ p e z q b w.if-base-eq0.false w.if-p-gt65.true
      | then-base-eq0-via-else-base-eq0+else-p-gt65+then-is_apart w ↦ form_apart _ p e z q b w.if-base-eq0.false w.if-p-gt65.false w.is_apart.ensures w.if-is_apart.true
    ]

pub returns : goal.returns
returns c =
    form_in_lem _ c.read-p.ensures c.if-p-s.false c.if-p-ne0.false c.if-p-ne0-2.false c.base_of-base.ensures c.if-base-eq0.false c.if-p-gt65.false c.is_apart.ensures c.if-is_apart.false
    c.part_or.ensures c.part_or-2.ensures c.saturating_sub.ensures
