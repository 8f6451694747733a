-- WHAT THE INDEX OF A FILE OF NAMES IS, without a word of how it is made, and what a name stands for.
use Rattle.std.specs.Prelude.{ℕ, zero, suc, ◌+◌, ◌<◌, ◌≡◌, Bool, true, false, ◌&&◌, not, List, [], ◌∷◌, ltb, eqb, length, get_or}
use Rattle.definition.specs.Chars.{byte, no_code}
use Rattle.definition_names.specs.Names.{is_scalar, at_most, name_at, name_of, code_at}

-- how often x stands in a list
unfoldable pub bit : Bool → ℕ
bit true = 1
bit false = 0

unfoldable pub count : ℕ → List ℕ → ℕ
count x [] = 0
count x (y ∷ l) = bit (eqb x y) + count x l

-- two lists have the same elements, each as often
abbrev pub Perm : List ℕ → List ℕ → Type 0
Perm a b = (x : ℕ) → count x a ≡ count x b

-- no element stands at or before an earlier one, by the order `le`
abbrev pub Rising : (ℕ → ℕ → Bool) → List ℕ → Type 0
Rising le l = (i j : ℕ) → i < j → j < length l → le (get_or l j 0) (get_or l i 0) ≡ false

-- a line begins at p, and it has a name
abbrev pub starts_at : List ℕ → ℕ → Bool
starts_at file zero = true
starts_at file (suc q) = eqb (get_or file q 0) 10

unfoldable pub is_start : List ℕ → ℕ → Bool
is_start file p = ltb p (length file) && starts_at file p && not (eqb (byte file (name_at file p)) 60)

-- the name of the line at p does not come after that of the line at q
unfoldable pub in_order : List ℕ → ℕ → ℕ → Bool
in_order file p q = at_most (name_of file p) (name_of file q)

-- THE INDEX: each line with a name exactly once and nothing else, and the names rise
pub record IsIndex (file l : List ℕ) : Type 0 where
  pub once : (p : ℕ) → count p l ≡ bit (is_start file p)
  pub rises : Rising (in_order file) l

-- WHAT A NAME STANDS FOR by a file's lines: the code of the one line that has it, a scalar; or no code if none has it
pub data StandsFor (file name : List ℕ) (code : ℕ) : Type 0 where
  of_line : (p : ℕ) → is_start file p ≡ true → name_of file p ≡ name → ((q : ℕ) → is_start file q ≡ true → name_of file q ≡ name → q ≡ p) → code ≡ code_at file p → is_scalar code ≡ true
      → StandsFor file name code
  of_none : ((p : ℕ) → is_start file p ≡ true → name_of file p ≡ name → ⊥) → code ≡ no_code → StandsFor file name code
