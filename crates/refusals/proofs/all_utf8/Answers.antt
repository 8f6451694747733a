use native.Mathlib.Omega.{arith}
use native.Mathlib.Nat.{sub-zero, add-sub_cancel_left}
use Prim.Native.Nat.{◌+◌, ◌-◌, ◌≤◌}
use mathlib.Core.Path.{◌≡◌, ◌∙◌, ap}
use mathlib.Core.Bool.{Bool}
use borrow.Author.Tests.{lt-ltb, le-ltb}
use lib.Dec.{ltb}
use lib.ListN.{length}
use Rattle.definition.specs.Counts.{counted}
use Rattle.definition.specs.Entry.{place_of, body, formed, ill_formed, all_utf8}
use Rattle.definition.specs.Reading.{all_chars, outcome_of}
use Rattle.definition_laws.proofs.Moves.Counted.{counted_end}
use Rattle.entry.specs.Answers.{described}
use Rattle.entry.specs.Literals.{literal_at, literals}
use Rattle.entry.proofs.Literals.{end_before, bad_turn, bad_found, bad_none, chars_turn, chars_none, chars_most}
use Rattle.entry.proofs.Passed.{Good, good_at, length_body, not_long_lem}
use Rattle.refusals.proofs.all_utf8.Goals as goal
use Rattle.refusals.proofs.all_utf8.Goals.{After-literal_at-l, After-well_formed-formed}

-- the literal is good
good : (c : After-literal_at-l) → Good c.args.script.now (described c.literal_at-l.result)
good c = rw c.literal_at-l.ensures (good_at _ _ _ c.requires.0 c.loop-i.i c.loop-i-test.true)

-- the length of its well-formed prefix
formed_is : (c : After-well_formed-formed) → c.well_formed-formed.result.len ≡ formed c.args.script.now (described c.literal_at-l.result)
unfolding formed described body
formed_is c = c.well_formed-formed.ensures.0

-- what the test says of the literal
told : (c : After-well_formed-formed) (b : Bool) → let l = c.literal_at-l.result in ltb c.well_formed-formed.result.len (l.offset + l.size - l.offset) ≡ b
    → let a = c.args in let i = c.loop-i.i in ill_formed a.script.now (end_before a.numbers.now i) (literal_at a.numbers.now i) ≡ b
unfolding ill_formed described
told c b t =
    rw (← c.literal_at-l.ensures, ← formed_is c, length_body _ _ (good (record { before = c.before.before.before.before.before; type_inv = record { numbers = c.type_inv.numbers; script = c.type_inv.script } })), ← add-sub_cancel_left c.literal_at-l.result.offset c.literal_at-l.result.size) t

-- the characters of its body, which is well-formed up to the end
chars_are : (c : After-well_formed-formed) → let l = c.literal_at-l.result in l.offset + l.size - l.offset ≤ c.well_formed-formed.result.len
    → let s = body c.args.script.now (literal_at c.args.numbers.now c.loop-i.i) in c.well_formed-formed.result.chars ≡ (counted s (length s)).chars
unfolding described body
chars_are c h =
    let k = length_body _ _ (good (record { before = c.before.before.before.before.before; type_inv = record { numbers = c.type_inv.numbers; script = c.type_inv.script } })) in
    rw (← c.literal_at-l.ensures) (c.well_formed-formed.ensures.1 ∙ ap (λ n. n.chars) (counted_end _ _ (omega arith)))

-- with all that follow they are no more than 5 lets pass
few : (c : After-well_formed-formed) → let l = c.literal_at-l.result in l.offset + l.size - l.offset ≤ c.well_formed-formed.result.len
    → c.loop-i.chars + c.well_formed-formed.result.chars ≤ 1048576
few c h =
    let a = c.args in
    omega (arith, c.loop-i.invariant.1, chars_are c h, chars_turn a.numbers.now a.count a.script.now c.loop-i.i c.loop-i-test.true, chars_most a.script.now (literals a.numbers.now 0 a.count), not_long_lem (literals a.numbers.now 0 a.count) c.requires.1)

pub loop-i-init : goal.loop-i-init
unfolding outcome_of place_of all_utf8 described end_before
loop-i-init c = (rw sub-zero, rw sub-zero (omega arith))

pub slice_bounds-well_formed-end : goal.slice_bounds-well_formed-end
unfolding outcome_of place_of all_utf8 described end_before
slice_bounds-well_formed-end c = let g = (good (goal.at.slice_bounds-well_formed-end c).After-literal_at-l).inside in omega arith

pub overflow_cast-place : goal.overflow_cast-place
unfolding outcome_of place_of all_utf8 described end_before
overflow_cast-place c = let g = (good (goal.at.overflow_cast-place c).After-literal_at-l).fits in omega (arith, c.literal_at-l.type_inv)

pub returns-then-formed-to : goal.returns-then-formed-to
unfolding outcome_of place_of all_utf8 described end_before
returns-then-formed-to c = rw (c.refuse.ensures, c.loop-i.invariant.0, bad_found _ _ _ _ c.loop-i.i c.loop-i-test.true (told (goal.at.returns-then-formed-to c).After-well_formed-formed _ (lt-ltb _ _ c.if-formed-to.true)), ← c.literal_at-l.ensures, c.place.ensures, formed_is (goal.at.returns-then-formed-to c).After-well_formed-formed)

pub overflow_cast-chars : goal.overflow_cast-chars
unfolding outcome_of place_of all_utf8 described end_before
overflow_cast-chars c = let f = few (goal.at.overflow_cast-chars c).After-well_formed-formed c.if-formed-to.false in omega arith

pub overflow_add-chars : goal.overflow_add-chars
unfolding outcome_of place_of all_utf8 described end_before
overflow_add-chars c = let f = few (goal.at.overflow_add-chars c).After-well_formed-formed c.if-formed-to.false in omega arith

pub loop-i-preserved : goal.loop-i-preserved
unfolding outcome_of place_of all_utf8 described end_before
loop-i-preserved c =
    let a = c.args in (
      c.loop-i.invariant.0 ∙ bad_turn _ _ _ _ c.loop-i.i c.loop-i-test.true (told (goal.at.loop-i-preserved c).After-well_formed-formed _ (le-ltb _ _ c.if-formed-to.false)),
      omega (arith, c.loop-i.invariant.1, chars_are (goal.at.loop-i-preserved c).After-well_formed-formed c.if-formed-to.false, chars_turn a.numbers.now a.count a.script.now c.loop-i.i c.loop-i-test.true),
    )

pub returns : goal.returns
unfolding outcome_of place_of all_utf8 described end_before
returns c =
    let a = c.args in
    let n : all_chars a.script.now (literals a.numbers.now 0 a.count) ≡ c.loop-i.chars = omega (arith, c.loop-i.invariant.1, chars_none a.numbers.now a.count a.script.now c.loop-i.i c.loop-i-test.false) in
    rw (c.loop-i.invariant.0, bad_none _ _ _ _ c.loop-i.i c.loop-i-test.false, n)
