use borrow.Author.Rules.{rules}
use native.Mathlib.Omega.{arith}
use mathlib.Core.Path.{sym, ◌∙◌}
use Prim.Native.Nat.{◌≤◌}
use lib.ListN.{length}
use Rattle.escapes.specs.Answers.{names_by}
use Rattle.plain.proofs.Runs.{plain_told, end_later}
use Rattle.texts.specs.Text.{Begun}
use Rattle.texts.proofs.Laws.{string_bounds, long, string_more, string_coded, string_refused, string_over}
use Rattle.texts.proofs.Runs.{string_run}
use Rattle.texts.proofs.string_from.Goals as goal
use Rattle.texts.proofs.string_from.Goals.{At-loop-text}

so_far : (c : At-loop-text) → let a = c.args in Begun (names_by a.names.now.file.now a.names.now.index.now) a.kind a.s.now c.loop-text.text c.loop-text.cursor.at c.loop-text.end
so_far c =
    let p = c.requires.1 in
    record { used = p.used; lent = p.lent; few = p.few; upto = c.loop-text.invariant p.used p.lent p.upto }

pub loop-text-init : goal.loop-text-init
unfolding so_far
loop-text-init c = λ first lent u. u

pub plain_text-run-requires : goal.plain_text-run-requires
unfolding so_far
plain_text-run-requires c =
    let u = so_far (goal.at.plain_text-run-requires c).At-loop-text in
    let f = u.few in
    let e = u.upto.ended in
    let b = string_bounds _ _ _ _ _ u.upto.leads in
    let a = c.args in
    let p = plain_told a.kind a.s.now c.loop-text.cursor.at _ c.is_plain_at.ensures c.if-is_plain_at.true in
    search rules

pub loop-text-smaller-then-is_plain_at : goal.loop-text-smaller-then-is_plain_at
unfolding so_far
loop-text-smaller-then-is_plain_at c =
    let a = c.args in
    let p = plain_told a.kind a.s.now c.loop-text.cursor.at _ c.is_plain_at.ensures c.if-is_plain_at.true in
    omega (arith, p.0, c.plain_text-run.ensures.0, end_later a.kind a.s.now _ p.0 p.1)

pub loop-text-preserved-then-is_plain_at : goal.loop-text-preserved-then-is_plain_at
unfolding so_far
loop-text-preserved-then-is_plain_at c =
    λ first lent u. let a = c.args in
    let p = plain_told a.kind a.s.now c.loop-text.cursor.at _ c.is_plain_at.ensures c.if-is_plain_at.true in
    let h : c.loop-text.cursor.at ≤ length a.s.now = omega (arith, p.0) in
    string_run _ _ _ _ _ _ _ _ (c.loop-text.invariant first lent u) h _ c.plain_text-run.result c.plain_text-run.ensures

pub coded_at-requires : goal.coded_at-requires
unfolding so_far
coded_at-requires c = let b = string_bounds _ _ _ _ _ (so_far (goal.at.coded_at-requires c).At-loop-text).upto.leads in (b.inside (omega arith), c.requires.0)

pub add_code-end-requires : goal.add_code-end-requires
unfolding so_far
add_code-end-requires c = let u = so_far (goal.at.add_code-end-requires c).At-loop-text in let f = u.few in let e = u.upto.ended in let b = string_bounds _ _ _ _ _ u.upto.leads in search rules

pub loop-text-smaller-in-Some : goal.loop-text-smaller-in-Some
unfolding so_far
loop-text-smaller-in-Some c = let m = string_coded _ _ _ _ _ _ _ _ (so_far (goal.at.loop-text-smaller-in-Some c).At-loop-text).upto c.in-Some.escaped.code c.in-Some.escaped.to _ _ c.in-Some.ensures c.add_code-end.ensures.0 c.add_code-end.ensures.1 in omega (arith, m.0, m.1)

pub loop-text-preserved-in-Some : goal.loop-text-preserved-in-Some
unfolding so_far
loop-text-preserved-in-Some c = λ first lent u. (string_coded _ _ _ _ _ _ _ _ (c.loop-text.invariant first lent u) c.in-Some.escaped.code c.in-Some.escaped.to _ _ c.in-Some.ensures c.add_code-end.ensures.0 c.add_code-end.ensures.1).2

pub string_piece-piece-requires : goal.string_piece-piece-requires
unfolding so_far
string_piece-piece-requires c = let u = so_far (goal.at.string_piece-piece-requires c).At-loop-text in let f = u.few in let e = u.upto.ended in let b = string_bounds _ _ _ _ _ u.upto.leads in search rules

pub loop-text-smaller : goal.loop-text-smaller
unfolding so_far
loop-text-smaller c = let m = string_more _ _ _ _ _ _ _ _ (so_far (goal.at.loop-text-smaller c).At-loop-text).upto _ _ c.string_piece-piece.ensures _ _ c.in-On.is in omega (arith, m.0, m.1)

pub loop-text-preserved : goal.loop-text-preserved
unfolding so_far
loop-text-preserved c = λ first lent u. (string_more _ _ _ _ _ _ _ _ (c.loop-text.invariant first lent u) _ _ c.string_piece-piece.ensures _ _ c.in-On.is).2

pub shape_of-text-in-Refused : goal.shape_of-text-in-Refused
unfolding so_far
shape_of-text-in-Refused c = let l = long _ _ _ _ _ _ _ (so_far (goal.at.shape_of-text-in-Refused c).At-loop-text).upto ∙ sym (long _ _ _ _ _ _ _ c.requires.1.upto) in search rules

pub returns-in-Refused : goal.returns-in-Refused
unfolding so_far
returns-in-Refused c = λ first lent u. string_refused _ _ _ _ _ _ _ _ (c.loop-text.invariant first lent u) _ _ c.string_piece-piece.ensures _ c.in-Refused.is

pub returns-in-Field : goal.returns-in-Field
unfolding so_far
returns-in-Field c = λ first lent u. string_over _ _ _ _ _ _ _ _ (c.loop-text.invariant first lent u) _ _ c.string_piece-piece.ensures c.in-Field.is
