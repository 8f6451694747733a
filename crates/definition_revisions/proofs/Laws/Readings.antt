-- TWO READINGS COMPARED: what any two accepted calls left gives neither 57 nor 58. Assumes nothing.
use mathlib.Core.Path.{◌≡◌}
use mathlib.Core.List.{List}
use Prim.Native.Nat.{ℕ}
use Rattle.definition.specs.Escapes.{held_names}
use Rattle.definition.specs.Records.{Answer}
use Rattle.definition.specs.Reading.{accepts, Call, read_numbers}
use Rattle.definition_names.specs.NamedReading.{named_numbers}
use Rattle.definition_formed.proofs.Formed.LentAgain.{lent_of}
use Rattle.definition_formed.proofs.Formed.ReadFormed.{LeavesFormed, held_formed, named_formed}
use Rattle.definition_revisions.specs.Revisions.{items_of, comparison, compares, compared}
use Rattle.definition_revisions.proofs.Laws.Told.{called_other}

pub calls_compared : (c d : Call) → LeavesFormed c → LeavesFormed d → (x y : Answer) → c.outcome ≡ accepts x → d.outcome ≡ accepts y
    → compared (lent_of c) (lent_of d) ≡ compares (comparison (items_of (lent_of c)) (items_of (lent_of d)))
calls_compared c d f g x y e h = (called_other (lent_of c) (lent_of d) (f x e) (g y h)).0

-- with the held names
pub readings_compared : (script ns words text script' ns' words' text' : List ℕ) (x y : Answer)
    → let c = read_numbers held_names script ns words text in let d = read_numbers held_names script' ns' words' text' in
    c.outcome ≡ accepts x → d.outcome ≡ accepts y → compared (lent_of c) (lent_of d) ≡ compares (comparison (items_of (lent_of c)) (items_of (lent_of d)))
readings_compared script ns words text script' ns' words' text' =
    calls_compared (read_numbers held_names script ns words text) (read_numbers held_names script' ns' words' text') (held_formed script ns words text) (held_formed script' ns' words' text')

-- with those of a lent file, each of its own
pub named_compared : (file index script ns words text file' index' script' ns' words' text' : List ℕ) (x y : Answer)
    → let c = named_numbers file index script ns words text in let d = named_numbers file' index' script' ns' words' text' in
    c.outcome ≡ accepts x → d.outcome ≡ accepts y → compared (lent_of c) (lent_of d) ≡ compares (comparison (items_of (lent_of c)) (items_of (lent_of d)))
named_compared file index script ns words text file' index' script' ns' words' text' =
    calls_compared (named_numbers file index script ns words text) (named_numbers file' index' script' ns' words' text') (named_formed file index script ns words text) (named_formed file' index' script' ns' words' text')
