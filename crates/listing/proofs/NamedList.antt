-- What a call for the list of a script with a file of names gives. Assumes nothing.
use mathlib.Core.Path.{◌≡◌, refl}
use mathlib.Core.List.{List}
use Prim.Native.Nat.{ℕ, ◌≤◌, ◌<◌}
use borrow.Author.Tests.{lt-ltb, le-ltb}
use lib.ListN.{length}
use Rattle.definition.specs.Entry.{refusal}
use Rattle.definition.specs.Reading.{zeros}
use Rattle.definition_names.specs.Names.{check, searched}
use Rattle.definition_scripts.specs.Listing.{fields_after, fields_call, fields_into, fields_numbers}
use Rattle.definition_names.specs.NamedReading.{of_names, fields_named_of, fields_named_into}
use Rattle.definition_names.proofs.NamedShown.{named_fields}
use Rattle.std.specs.Prelude.{Ok, Err}
use Rattle.names.specs.declared.IndexError.{IndexError}
use Rattle.names.specs.Answers.{number_of, says, answer_of}
use Rattle.names.proofs.Answers.{answer_refused, answer_indexed}
use Rattle.answers.specs.declared.Unlisted.TheVariants.{TooLong, WrongNames}
use Rattle.listing.specs.Answers.{CallIs}

module _ (file index s rows : List ℕ) where
  pub named_long : (rows' : List ℕ) → 1048576 < length s → rows' ≡ zeros rows → CallIs (fields_named_into file index s rows) rows' (Err TooLong)
  unfolding fields_named_into fields_named_of fields_call fields_after fields_numbers
  named_long rows' h e = rw (lt-ltb 1048576 (length s) h, fields_named_of) (record { answer = refl; rows = e })

  pub named_not : (e : IndexError) (n : ℕ) (rows' : List ℕ) → length s ≤ 1048576 → says (Err e) ≡ answer_of (check file index) → n ≡ number_of e → rows' ≡ zeros rows → CallIs (fields_named_into file index s rows) rows' (Err (WrongNames n))
  unfolding fields_named_into fields_named_of fields_call fields_after fields_numbers of_names refusal
  named_not e n rows' h w m z = rw (m, le-ltb 1048576 (length s) h, answer_refused file index e w, fields_named_of, of_names) (record { answer = refl; rows = z })

  pub named_listed : (n : ℕ) → says (Ok n) ≡ answer_of (check file index) → fields_named_into file index s rows ≡ fields_into (searched file index) s rows
  named_listed n w = let m = answer_indexed file index n w in named_fields file index s rows m.list m.is
