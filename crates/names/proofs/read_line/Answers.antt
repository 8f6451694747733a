use Rattle.std.proofs.Common.{arith, refl, sym}
use Rattle.definition_names.specs.Names.{is_scalar, no_value}
use Rattle.definition.proofs.Moves.CharLaws.{cases}
use Rattle.definition_names.proofs.NameScan.{scan_unended, scan_few, scan_novalue, scan_short, scan_long, mark_inside, scan_empty, scan_nameless, scan_named, scan_none}
use Rattle.names.proofs.read_line.Goals as goal
use Rattle.names.proofs.read_line.Goals.{then-file-end-via-then-file-end, then-file-end-via-else-file-end+then-marks-ne14, then-mark-at-via-then-mark-at, then-mark-at-via-else-mark-at+then-at-mark}

pub returns-then-file-end : goal.returns-then-file-end
returns-then-file-end c =
    elim c.then-file-end.branch [
      | then-file-end-via-then-file-end w ↦ scan_unended _ _ _ _ c.requires.0 c.line_ends-end.ensures w.if-file-end.true
      | then-file-end-via-else-file-end+then-marks-ne14 w ↦ scan_few _ _ _ _ c.requires.0 c.line_ends-end.ensures w.if-file-end.false w.if-marks-ne14.true
    ]

pub returns-in_err-value : goal.returns-in_err-value
returns-in_err-value c =
    rw c.from_residual.ensures
    (scan_novalue _ _ _ _ c.requires.0 c.line_ends-end.ensures c.if-file-end.false no_value 0 c.if-marks-ne14.false (record { is = sym c.in_err-value.ensures; ends = λ n. absurd (n refl) }) refl)

pub returns-then-mark-at : goal.returns-then-mark-at
returns-then-mark-at c =
    let d = c.in_ok-value.ensures in
    elim c.then-mark-at.branch [
      | then-mark-at-via-then-mark-at w ↦ scan_short _ _ _ _ c.requires.0 c.line_ends-end.ensures c.if-file-end.false _ _ c.if-marks-ne14.false d.0 (λ z. omega (arith, d.1)) w.if-mark-at.true
      | then-mark-at-via-else-mark-at+then-at-mark w ↦ scan_long _ _ _ _ c.requires.0 c.line_ends-end.ensures c.if-file-end.false _ _ c.if-marks-ne14.false d.0 (λ z. omega (arith, d.1)) w.if-at-mark.true
    ]

pub bounds-file-mark : goal.bounds-file-mark
bounds-file-mark c =
    let d = c.in_ok-value.ensures in
    let m = mark_inside _ _ _ _ c.requires.0 c.line_ends-end.ensures c.if-file-end.false _ _ c.if-marks-ne14.false d.0 (λ z. omega (arith, d.1)) in omega arith

pub returns-in-59 : goal.returns-in-59
returns-in-59 c =
    let d = c.in_ok-value.ensures in
    scan_empty _ _ _ _ c.requires.0 c.line_ends-end.ensures c.if-file-end.false _ _ c.if-marks-ne14.false d.0 (λ z. omega (arith, d.1)) c.if-mark-at.false c.if-at-mark.false c.in-59.is

pub returns-in-60 : goal.returns-in-60
returns-in-60 c =
    let e = c.line_ends-end.ensures.ends in
    let d = c.in_ok-value.ensures in
    (omega arith, omega arith, scan_nameless _ _ _ _ c.requires.0 c.line_ends-end.ensures c.if-file-end.false _ _ c.if-marks-ne14.false d.0 (λ z. omega (arith, d.1)) c.if-mark-at.false c.if-at-mark.false (λ z. omega arith) c.in-60.is)

pub returns-in_default : goal.returns-in_default
returns-in_default c =
    let e = c.line_ends-end.ensures.ends in
    let d = c.in_ok-value.ensures in
    rw (c.then_some.ensures, c.is_scalar.ensures)
    (cases (is_scalar c.in_ok-value.field-0.value)
    (λ t. rw t (omega arith, omega arith, scan_named _ _ _ _ c.requires.0 c.line_ends-end.ensures c.if-file-end.false _ _ c.if-marks-ne14.false d.0 (λ z. omega (arith, d.1)) c.if-mark-at.false c.if-at-mark.false (λ z. omega arith) (λ z. omega arith) t))
    (λ t. rw t (scan_none _ _ _ _ c.requires.0 c.line_ends-end.ensures c.if-file-end.false _ _ c.if-marks-ne14.false d.0 (λ z. omega (arith, d.1)) c.if-mark-at.false c.if-at-mark.false (λ z. omega arith) (λ z. omega arith) t)))
