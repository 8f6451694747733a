-- Writing over a lent buffer.
use Rattle.std.specs.Prelude.{ℕ, suc, List, [], ◌∷◌, set}

-- b with xs written over it from p on; what would stand past the end is left out
unfoldable pub over : {A : Type 0} → List A → ℕ → List A → List A
over b p [] = b
over b p (x ∷ xs) = over (set b p x) (suc p) xs
