use borrow.Author.Tests.{lt-ltb, le-ltb}
use mathlib.Core.Path.{◌≡◌, refl, ◌∙◌, ap}
use mathlib.Core.Bool.{false, ◌&&◌, not}
use mathlib.Core.List.{[]}
use lib.Dec.{ltb, eqb}
use Rattle.definition.specs.Chars.{◌is◌, byte}
use Rattle.definition.specs.Matched.{clear}
use Rattle.definition_written.specs.ReadsBack.{clean}
use Rattle.opens.proofs.OpenLaws.{field_on, field_off}
use Rattle.opens.proofs.field_reads.Goals as goal
use Rattle.opens.proofs.field_reads.Goals.{then-depth-lt-DEEPEST, else-depth-lt-DEEPEST, then-not-begins_badly, else-not-begins_badly}

pub returns-then-is_clean : goal.returns-then-is_clean
returns-then-is_clean c =
    let a = c.args in
    let first : c.if-depth-lt-DEEPEST.value ≡ (ltb a.depth 2 && not (eqb a.depth 0 && byte a.text.now 0 is "{")) =
    elim c.if-depth-lt-DEEPEST.branch [
      | then-depth-lt-DEEPEST w ↦ w.value-is ∙ rw (lt-ltb _ _ w.if-depth-lt-DEEPEST.true) (ap not w.begins_badly.ensures)
      | else-depth-lt-DEEPEST w ↦ w.value-is ∙ rw (le-ltb _ _ w.if-depth-lt-DEEPEST.false) refl
    ] in
    let second : c.if-not-begins_badly.value ≡ (c.if-depth-lt-DEEPEST.value && clean false (clear []) a.text.now) =
    elim c.if-not-begins_badly.branch [
      | then-not-begins_badly w ↦ w.value-is ∙ rw (w.if-not-begins_badly.true) w.is_clean.ensures
      | else-not-begins_badly w ↦ w.value-is ∙ rw (w.if-not-begins_badly.false) refl
    ] in
    field_on a.depth false a.text.now _ _ first second _ c.if-is_clean.true (ap not c.is_blank_text.ensures)

pub returns-else-is_clean : goal.returns-else-is_clean
returns-else-is_clean c =
    let a = c.args in
    let first : c.if-depth-lt-DEEPEST.value ≡ (ltb a.depth 2 && not (eqb a.depth 0 && byte a.text.now 0 is "{")) =
    elim c.if-depth-lt-DEEPEST.branch [
      | then-depth-lt-DEEPEST w ↦ w.value-is ∙ rw (lt-ltb _ _ w.if-depth-lt-DEEPEST.true) (ap not w.begins_badly.ensures)
      | else-depth-lt-DEEPEST w ↦ w.value-is ∙ rw (le-ltb _ _ w.if-depth-lt-DEEPEST.false) refl
    ] in
    let second : c.if-not-begins_badly.value ≡ (c.if-depth-lt-DEEPEST.value && clean false (clear []) a.text.now) =
    elim c.if-not-begins_badly.branch [
      | then-not-begins_badly w ↦ w.value-is ∙ rw (w.if-not-begins_badly.true) w.is_clean.ensures
      | else-not-begins_badly w ↦ w.value-is ∙ rw (w.if-not-begins_badly.false) refl
    ] in
    field_off a.depth false a.text.now _ _ first second c.if-is_clean.false
