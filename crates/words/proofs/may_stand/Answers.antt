use Rattle.std.proofs.Common.{sym, ◌∙◌, arith, eq-eqb}
use Rattle.definition.proofs.Moves.CharLaws.{no, byte_is}
use Rattle.words.proofs.WordBefore.{may_none, word_some, may_keyword, may_number, may_not}
use Rattle.words.proofs.may_stand.Goals as goal
use Rattle.words.proofs.may_stand.Goals.{then-from-at, else-from-at}

pub is_keyword-requires : goal.is_keyword-requires
is_keyword-requires c = let k = word_some _ _ _ c.word_start-from.ensures c.if-from-at.false in (omega (arith, k.0), k.1)

pub bounds-s-from : goal.bounds-s-from
bounds-s-from c =
    elim c.if-from-at.branch [
      | then-from-at w ↦ no (sym c.if-is_keyword.false ∙ w.value-is ∙ eq-eqb _ _ w.if-from-at.true)
      | else-from-at w ↦ let k = word_some _ _ _ c.word_start-from.ensures w.if-from-at.false in omega (arith, k.0, k.1)
    ]

pub ends_in_keyword-requires : goal.ends_in_keyword-requires
ends_in_keyword-requires c =
    elim c.if-from-at.branch [
      | then-from-at w ↦ no (sym c.if-is_keyword.false ∙ w.value-is ∙ eq-eqb _ _ w.if-from-at.true)
      | else-from-at w ↦ let k = word_some _ _ _ c.word_start-from.ensures w.if-from-at.false in (omega (arith, k.0), k.1)
    ]

pub returns-then-is_keyword : goal.returns-then-is_keyword
returns-then-is_keyword c =
    c.if-is_keyword.true ∙ sym (elim c.if-from-at.branch [
      | then-from-at w ↦ may_none _ _ _ c.word_start-from.ensures w.if-from-at.true
      | else-from-at w ↦ may_keyword _ _ _ c.word_start-from.ensures w.if-from-at.false (sym w.is_keyword.ensures ∙ sym w.value-is ∙ c.if-is_keyword.true)
    ])

pub returns-then-is_ascii_digit : goal.returns-then-is_ascii_digit
returns-then-is_ascii_digit c =
    elim c.if-from-at.branch [
      | then-from-at w ↦ no (sym c.if-is_keyword.false ∙ w.value-is ∙ eq-eqb _ _ w.if-from-at.true)
      | else-from-at w ↦ let k = word_some _ _ _ c.word_start-from.ensures w.if-from-at.false in
          c.ends_in_keyword.ensures ∙ sym (may_number _ _ _ c.word_start-from.ensures w.if-from-at.false (sym w.is_keyword.ensures ∙ sym w.value-is ∙ c.if-is_keyword.false) (rw (← byte_is c.args.s.now c.word_start-from.result (omega (arith, k.0, k.1))) (sym c.is_ascii_digit.ensures.value ∙ c.if-is_ascii_digit.true)))
    ]

pub returns-else-is_ascii_digit : goal.returns-else-is_ascii_digit
returns-else-is_ascii_digit c =
    elim c.if-from-at.branch [
      | then-from-at w ↦ no (sym c.if-is_keyword.false ∙ w.value-is ∙ eq-eqb _ _ w.if-from-at.true)
      | else-from-at w ↦ let k = word_some _ _ _ c.word_start-from.ensures w.if-from-at.false in
          c.if-is_ascii_digit.false ∙ sym (may_not _ _ _ c.word_start-from.ensures w.if-from-at.false (sym w.is_keyword.ensures ∙ sym w.value-is ∙ c.if-is_keyword.false) (rw (← byte_is c.args.s.now c.word_start-from.result (omega (arith, k.0, k.1))) (sym c.is_ascii_digit.ensures.value ∙ c.if-is_ascii_digit.false)))
    ]
