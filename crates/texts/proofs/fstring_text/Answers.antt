use borrow.Author.Rules.{rules}
use native.Mathlib.Omega.{arith}
use Rattle.plain.proofs.Runs.{plain_told, end_later}
use Rattle.texts.proofs.Laws.{text_bounds, start, long, text_more, text_opens, text_over, text_refused}
use Rattle.texts.proofs.Runs.{text_run}
use Rattle.texts.proofs.fstring_text.Goals as goal

pub loop-text-init : goal.loop-text-init
loop-text-init c = start _ _ _ _

pub plain_text-run-requires : goal.plain_text-run-requires
plain_text-run-requires c = let u = c.loop-text.invariant in let b = text_bounds _ _ _ _ _ _ _ u.leads in let a = c.args in let p = plain_told a.kind a.s.now c.loop-text.cursor.at _ c.is_plain_at.ensures c.if-is_plain_at.true in search rules

pub loop-text-smaller-then-is_plain_at : goal.loop-text-smaller-then-is_plain_at
loop-text-smaller-then-is_plain_at c =
    let a = c.args in
    let p = plain_told a.kind a.s.now c.loop-text.cursor.at _ c.is_plain_at.ensures c.if-is_plain_at.true in
    omega (arith, p.0, c.plain_text-run.ensures.0, end_later a.kind a.s.now _ p.0 p.1)

pub loop-text-preserved-then-is_plain_at : goal.loop-text-preserved-then-is_plain_at
loop-text-preserved-then-is_plain_at c =
    let a = c.args in
    let p = plain_told a.kind a.s.now c.loop-text.cursor.at _ c.is_plain_at.ensures c.if-is_plain_at.true in
    text_run _ _ _ _ _ _ _ _ _ _ c.requires.0 c.loop-text.invariant p.0 _ c.plain_text-run.result c.plain_text-run.ensures

pub text_piece-piece-requires : goal.text_piece-piece-requires
text_piece-piece-requires c = let u = c.loop-text.invariant in let b = text_bounds _ _ _ _ _ _ _ u.leads in search rules

pub loop-text-smaller : goal.loop-text-smaller
loop-text-smaller c = let m = text_more _ _ _ _ _ _ _ _ _ _ c.loop-text.invariant _ _ c.text_piece-piece.ensures _ _ c.in-On.is in omega (arith, m.0, m.1)

pub loop-text-preserved : goal.loop-text-preserved
loop-text-preserved c = (text_more _ _ _ _ _ _ _ _ _ _ c.loop-text.invariant _ _ c.text_piece-piece.ensures _ _ c.in-On.is).2

pub shape_of-text-in-Field : goal.shape_of-text-in-Field
shape_of-text-in-Field c = let l = long _ _ _ _ _ _ _ c.loop-text.invariant in search rules

pub returns-in-Field : goal.returns-in-Field
returns-in-Field c = text_opens _ _ _ _ _ _ _ _ _ _ c.loop-text.invariant _ _ c.text_piece-piece.ensures _ c.in-Field.is

pub shape_of-text-in-Over : goal.shape_of-text-in-Over
shape_of-text-in-Over c = let l = long _ _ _ _ _ _ _ c.loop-text.invariant in search rules

pub returns-in-Over : goal.returns-in-Over
returns-in-Over c = text_over _ _ _ _ _ _ _ _ _ _ c.loop-text.invariant _ _ c.text_piece-piece.ensures c.in-Over.is

pub shape_of-text-in-Refused : goal.shape_of-text-in-Refused
shape_of-text-in-Refused c = let l = long _ _ _ _ _ _ _ c.loop-text.invariant in search rules

pub returns-in-Refused : goal.returns-in-Refused
returns-in-Refused c = text_refused _ _ _ _ _ _ _ _ _ _ c.loop-text.invariant _ _ c.text_piece-piece.ensures _ c.in-Refused.is
