use borrow.Author.Rules.{rules}
use native.Mathlib.Omega.{arith}
use Prim.Native.Nat.{ℕ, ◌≤◌}
use mathlib.Core.Bool.{false}
use mathlib.Core.List.{List}
use mathlib.Core.Path.{◌≡◌, sym, ◌∙◌, ap}
use borrow.Author.Tests.{le-ltb}
use lib.ListN.{length}
use Rattle.definition.specs.Chars.{well_formed}
use Rattle.definition.specs.Counts.{counted}
use Rattle.definition.specs.Entry.{Literal, body, bad, formed, ill_formed}
use Rattle.definition_laws.proofs.Moves.Counted.{counted_small, counted_end}
use Rattle.prefixes.proofs.FirstBytes.{ascii_whole}
use Rattle.entry.specs.Answers.{described}
use Rattle.checks.specs.Passing.{Passes}
use Rattle.entry.proofs.Passed.{not_bad, length_body}
use Rattle.checks.proofs.pass_one.Goals as goal

-- a good literal that is short and well-formed up to its end passes
passes : (script : List ℕ) (previous left : ℕ) (l : Literal) (n : ℕ) → bad script previous l ≡ false → l.size ≤ left → l.size ≤ well_formed (body script l) → n ≡ (counted (body script l) (length (body script l))).chars → Passes script previous left l n
unfolding ill_formed formed
passes script previous left l n b h w e =
    let s = body script l in
    let k = length_body script l (not_bad script previous l b) in
    record { good = b; short = h; formed = λ p. le-ltb (well_formed s) (length s) (omega (arith, k, w)); few = omega (arith, e, (counted_small s (length s)).1, k); counts = e }

-- a good literal that is short, by what the counting of its body gives
counted_passes : (script : List ℕ) (previous left : ℕ) (l : Literal) (n chars : ℕ) → bad script previous l ≡ false → l.size ≤ left → n ≡ well_formed (body script l) → chars ≡ (counted (body script l) n).chars → l.size ≤ n → Passes script previous left l chars
counted_passes script previous left l n chars b h w e f =
    let k = length_body _ _ (not_bad _ previous l b) in
    passes script previous left l chars b h (omega (arith, w, f)) (e ∙ ap (λ n. n.chars) (counted_end _ _ (omega (arith, k, f))))

pub slice_bounds-body-end : goal.slice_bounds-body-end
unfolding described
slice_bounds-body-end c = let g = (not_bad _ c.args.previous _ (sym c.is_bad.ensures ∙ c.if-is_bad.false)).inside in omega arith

pub returns-then-all_ascii : goal.returns-then-all_ascii
unfolding described body
returns-then-all_ascii c =
    let a = c.args in
    let s = body a.script.now (described a.l) in
    let b = sym c.is_bad.ensures ∙ c.if-is_bad.false in
    let k = length_body _ _ (not_bad _ a.previous _ b) in
    let w = ascii_whole s (sym c.all_ascii.ensures ∙ c.if-all_ascii.true) in
    passes a.script.now a.previous a.left (described a.l) _ b c.if-left-l.false (omega (arith, k, w.0)) (sym k ∙ w.1)

pub overflow_cast-result : goal.overflow_cast-result
unfolding described body
overflow_cast-result c =
    let p = counted_passes _ _ _ (described c.args.l) _ _ (sym c.is_bad.ensures ∙ c.if-is_bad.false) c.if-left-l.false c.well_formed-formed.ensures.0 c.well_formed-formed.ensures.1 (omega arith) in
    let f = p.few in search rules

pub returns : goal.returns
unfolding described body
returns c = counted_passes _ _ _ (described c.args.l) _ _ (sym c.is_bad.ensures ∙ c.if-is_bad.false) c.if-left-l.false c.well_formed-formed.ensures.0 c.well_formed-formed.ensures.1 (omega arith)
