-- The numbers of descriptors.
use Rattle.std.specs.Prelude.{ℕ, List, [], ◌∷◌, ◌++◌}
use Rattle.entry.specs.declared.Descriptor.{Descriptor}

-- the six of one, in order
unfoldable pub six : Descriptor → List ℕ
six d = d.kind ∷ d.triple ∷ d.offset ∷ d.size ∷ d.start ∷ d.end ∷ []

-- those of all
unfoldable pub flattened : List Descriptor → List ℕ
flattened [] = []
flattened (d ∷ ds) = six d ++ flattened ds
