-- What a call with a file of names gives: an entry check's refusal, that of the file or its index, or what is read by a search. Assumes nothing.
use Rattle.std.specs.Prelude.{Ok, Err}
use mathlib.Core.Path.{◌≡◌, refl, subst}
use mathlib.Core.List.{List}
use mathlib.Core.Option.{Option, none, some}
use Prim.Native.Nat.{ℕ}
use Rattle.definition.specs.Numbers.{not_sixes}
use Rattle.definition.specs.Entry.{Literal, sixes, Refusal, refusal}
use Rattle.definition.specs.Escapes.{Naming}
use Rattle.definition.specs.Reading.{accepts, refuses, roomed, called, read_numbers, numbers_by}
use Rattle.definition_names.specs.Names.{check, searched}
use Rattle.definition_names.specs.NamedReading.{named_into, named_numbers}
use Rattle.definition_names.proofs.NamedShown.{named_entered, named_wrong, named_numbers_lem}
use Rattle.entry.specs.Answers.{check_numbers}
use Rattle.entry.proofs.Checks.{refused}
use Rattle.entry.proofs.Passed.{passed}
use Rattle.names.specs.declared.IndexError.{IndexError}
use Rattle.names.specs.Answers.{number_of, says, answer_of}
use Rattle.names.proofs.Answers.{answer_refused, answer_indexed}
use Rattle.answers.specs.declared.Outcome.{Outcome}
use Rattle.strings.specs.Strings.{CallIs}

-- a call by one lookup is the call by another that is the same
pub by_names : (look look' : Naming) (script ns words text words' text' : List ℕ) (r : Outcome) → look ≡ look'
    → CallIs (read_numbers look script ns words text) words' text' r → CallIs (read_numbers look' script ns words text) words' text' r
by_names look look' script ns words text words' text' r e h = subst (λ f. CallIs (read_numbers f script ns words text) words' text' r) e h

module _ (file index script ns words text : List ℕ) where
  pub refused_entry : (r : Refusal) → refuses r ≡ check_numbers script ns → named_numbers file index script ns words text ≡ called (refuses r) words text
  unfolding check_numbers named_numbers numbers_by named_into roomed
  refused_entry r e = go (sixes ns) refl
    where
      go : (o : Option (List Literal)) → sixes ns ≡ o → named_numbers file index script ns words text ≡ called (refuses r) words text
      go none q = let h : r ≡ refusal not_sixes 0 0 0 0 = (let y = rw (q, check_numbers) at e in cc) in rw (q, named_numbers, numbers_by, named_into, h)
      go (some ls) q = rw (q, named_numbers, numbers_by, named_into, named_entered file index script ls r (refused _ r _ (rw (q, check_numbers) at e)), roomed)

  pub wrong_names_lem : (k : ℕ) (e : IndexError) → accepts k ≡ check_numbers script ns → says (Err e) ≡ answer_of (check file index) → named_numbers file index script ns words text ≡ called (refuses (refusal (number_of e) 0 0 0 0)) words text
  unfolding named_numbers numbers_by named_into roomed
  wrong_names_lem k e p h =
      let P = (passed script ns k p).0 in
      rw (P.listed, named_numbers, numbers_by, named_into, named_wrong file index script _ (refusal (number_of e) 0 0 0 0) P.enters (answer_refused file index e h), roomed)

  pub right_names : (n : ℕ) → says (Ok n) ≡ answer_of (check file index) → named_numbers file index script ns words text ≡ read_numbers (searched file index) script ns words text
  right_names n h = let m = answer_indexed file index n h in named_numbers_lem file index script ns words text m.list m.is
