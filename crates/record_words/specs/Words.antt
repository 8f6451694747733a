-- A record's eight words.
use Rattle.std.specs.Prelude.{ℕ, List, [], ◌∷◌}
use Rattle.record_words.specs.declared.Record.{Record}

-- in the order of RULES 5.2
abbrev pub words_of : Record → List ℕ
words_of r = r.kind ∷ r.offset ∷ r.length ∷ r.start ∷ r.end ∷ r.conversion ∷ r.parts ∷ r.place ∷ []
