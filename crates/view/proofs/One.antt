-- Two answers that say the same are the same. Assumes nothing.
use mathlib.Core.Path.{◌≡◌, ap}
use lib.ListN.{get_or}
use Rattle.record_words.specs.Words.{words_of}
use Rattle.record_words.specs.declared.Record as b
use Rattle.std.specs.Prelude.{Some, None}
use Rattle.std.specs.Prelude as std
use Rattle.view.specs.Answers.{says}

record_one : (r r' : b.Record) → words_of r ≡ words_of r' → r ≡ r'
record_one r r' e =
    λ i. record {
      kind = get_or (e i) 0 0;
      offset = get_or (e i) 1 0;
      length = get_or (e i) 2 0;
      start = get_or (e i) 3 0;
      end = get_or (e i) 4 0;
      conversion = get_or (e i) 5 0;
      parts = get_or (e i) 6 0;
      place = get_or (e i) 7 0;
    }

pub says_one : (r r' : std.Option b.Record) → says r ≡ says r' → r ≡ r'
says_one (Some r) (Some r') e = let w : words_of r ≡ words_of r' = cc in ap Some (record_one r r' w)
says_one (Some r) None e = cc
says_one None (Some r) e = cc
says_one None None e = cc
