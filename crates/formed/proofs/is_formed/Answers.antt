use Rattle.std.proofs.Common.{arith, sym, ◌∙◌}
use Rattle.formed.proofs.Goods.{formed_refusal, formed_sort, formed_words, formed_text, formed_bad, formed_by, good_read, sorted_read}
use Rattle.formed.proofs.is_formed.Goals as goal
use Rattle.formed.proofs.is_formed.Goals.{then-number_at-ne0-via-then-number_at-ne0, then-number_at-ne0-via-else-number_at-ne0+then-sort-gt2, then-number_at-ne0-via-else-number_at-ne0+else-sort-gt2+then-words-count, then-number_at-ne0-via-else-number_at-ne0+else-sort-gt2+else-words-count+then-text-size}

pub returns-then-number_at-ne0 : goal.returns-then-number_at-ne0
returns-then-number_at-ne0 c =
    let a = c.args in
    elim c.then-number_at-ne0.branch [
      | then-number_at-ne0-via-then-number_at-ne0 w ↦ formed_refusal a.numbers.now a.words.now a.text.now (λ e. w.if-number_at-ne0.true (c.number_at.ensures ∙ e))
      | then-number_at-ne0-via-else-number_at-ne0+then-sort-gt2 w ↦ formed_sort a.numbers.now a.words.now a.text.now (sym c.number_at.ensures ∙ w.if-number_at-ne0.false) (omega (arith, c.number_at-sort.ensures, w.if-sort-gt2.true))
      | then-number_at-ne0-via-else-number_at-ne0+else-sort-gt2+then-words-count w ↦ formed_words a.numbers.now a.words.now a.text.now (sym c.number_at.ensures ∙ w.if-number_at-ne0.false) (omega (arith, c.number_at-sort.ensures, w.if-sort-gt2.false)) (omega (arith, c.number_at-count.ensures, w.if-words-count.true))
      | then-number_at-ne0-via-else-number_at-ne0+else-sort-gt2+else-words-count+then-text-size w ↦ formed_text a.numbers.now a.words.now a.text.now (sym c.number_at.ensures ∙ w.if-number_at-ne0.false) (omega (arith, c.number_at-sort.ensures, w.if-sort-gt2.false)) (omega (arith, c.number_at-count.ensures, w.if-words-count.false)) (omega (arith, c.number_at-size.ensures, w.if-text-size.true))
    ]

pub returns-then-are_good : goal.returns-then-are_good
returns-then-are_good c = let a = c.args in formed_by a.numbers.now a.words.now a.text.now (sym c.number_at.ensures ∙ c.if-number_at-ne0.false) (omega (arith, c.number_at-sort.ensures, c.if-sort-gt2.false)) (omega (arith, c.number_at-count.ensures, c.if-words-count.false)) (omega (arith, c.number_at-size.ensures, c.if-text-size.false)) (good_read a.numbers.now a.words.now a.text.now c.number_at-size.ensures c.number_at-count.ensures c.are_good.ensures) (c.if-are_good.true) (sorted_read a.numbers.now a.words.now a.text.now c.number_at-sort.ensures c.number_at-count.ensures c.is_sorted.ensures)

pub returns-else-are_good : goal.returns-else-are_good
returns-else-are_good c = let a = c.args in c.if-are_good.false ∙ formed_bad a.numbers.now a.words.now a.text.now (sym c.number_at.ensures ∙ c.if-number_at-ne0.false) (omega (arith, c.number_at-sort.ensures, c.if-sort-gt2.false)) (omega (arith, c.number_at-count.ensures, c.if-words-count.false)) (omega (arith, c.number_at-size.ensures, c.if-text-size.false)) (good_read a.numbers.now a.words.now a.text.now c.number_at-size.ensures c.number_at-count.ensures c.are_good.ensures) (c.if-are_good.false)
