-- Two answers of one call are the same. Assumes nothing.
use mathlib.Core.Path.{◌≡◌, sym, ◌∙◌, ap}
use mathlib.Core.Bool.{true≢false, false≢true}
use mathlib.Core.List.{List}
use Prim.Native.Nat.{ℕ}
use lib.ListN.{get_or}
use Rattle.definition.specs.Reading.{Call}
use Rattle.definition.specs.Rows.{SignsCall}
use Rattle.entry.specs.declared.Refusal.{Refusal}
use Rattle.answers.specs.declared.Answer.{Answer}
use Rattle.answers.specs.declared.Outcome.{Outcome}
use Rattle.answers.specs.declared.Outcome.TheVariants.{Accepted, Refused}
use Rattle.answers.specs.Twelve.{reading_says as says}
use Rattle.strings.specs.Strings.{is_accepted, CallIs, SignsIs}

answer_one : (x y : Answer) → says (Accepted x) ≡ says (Accepted y) → x ≡ y
answer_one x y e =
    λ i. record { sort = get_or (e i) 1 0; mark = get_or (e i) 2 0; start = get_or (e i) 3 0; end = get_or (e i) 4 0; records = get_or (e i) 5 0; text = get_or (e i) 6 0; chars = get_or (e i) 8 0 }

refusal_one : (r r' : Refusal) → says (Refused r) ≡ says (Refused r') → r ≡ r'
refusal_one r r' e =
    λ i. record { number = get_or (e i) 0 0; literal = get_or (e i) 1 0; place = get_or (e i) 2 0; a = get_or (e i) 3 0; b = get_or (e i) 4 0; opened = get_or (e i) 5 0; line = get_or (e i) 6 0; column = get_or (e i) 7 0; chars = get_or (e i) 8 0 }

says_one : (o p : Outcome) → is_accepted o ≡ is_accepted p → says o ≡ says p → o ≡ p
says_one (Accepted x) (Accepted y) a e = ap Accepted (answer_one x y e)
says_one (Accepted x) (Refused r) a e = absurd (true≢false a)
says_one (Refused r) (Accepted x) a e = absurd (false≢true a)
says_one (Refused r) (Refused r') a e = ap Refused (refusal_one r r' e)

pub call_one : (call : Call) (words text words' text' : List ℕ) (o p : Outcome) → CallIs call words text o → CallIs call words' text' p → o ≡ p
call_one call words text words' text' o p c d = says_one o p (c.accepted ∙ sym d.accepted) (c.answer ∙ sym d.answer)

pub signs_one : (call : SignsCall) (rows rows' : List ℕ) (o p : Outcome) → SignsIs call rows o → SignsIs call rows' p → o ≡ p
signs_one call rows rows' o p c d = says_one o p (c.accepted ∙ sym d.accepted) (c.answer ∙ sym d.answer)
