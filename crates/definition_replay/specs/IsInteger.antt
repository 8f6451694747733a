-- WHAT THE TEXT OF AN INTEGER IS, without a word of how it is made.
use Rattle.std.specs.Prelude.{ℕ, suc, ◌+◌, ◌*◌, ◌%◌, ◌≤◌, ◌<◌, ◌≡◌, Bool, true, false, ◌&&◌, ◌||◌, not, List, [], ◌∷◌, ◌++◌, reverse, leb, eqb, length, get_or, replicate, if◌then◌else◌}
use Rattle.definition.specs.Chars.{◌is◌}
use Rattle.definition_replay.specs.Integers.{Integer, Form, base_of, head_of, figures, zero_pads, copies}

-- the value of digits in a base, the units first
unfoldable pub value : (base : ℕ) → List ℕ → ℕ
value base [] = 0
value base (d ∷ ds) = d + base * value base ds

-- each is below the base
abbrev pub Below : (base : ℕ) → List ℕ → Type 0
Below base [] = Unit {0}
Below base (d ∷ ds) = (d < base) × Below base ds

-- the one that is written first
unfoldable pub leading : List ℕ → ℕ
leading [] = 0
leading (d ∷ []) = d
leading (d ∷ e ∷ ds) = leading (e ∷ ds)

-- THE DIGITS OF A NUMBER: their value is the number, each is below the base, and none is a zero in front unless it is alone
pub record IsDigits (base n : ℕ) (ds : List ℕ) : Type 0 where
  pub number : value base ds ≡ n
  pub below : Below base ds
  pub front : (eqb (length ds) 1 || not (eqb (leading ds) 0)) ≡ true

-- a text without a byte
unfoldable pub without : ℕ → List ℕ → List ℕ
without b [] = []
without b (x ∷ t) = if eqb x b then without b t else x ∷ without b t

-- FIGURES IN GROUPS, the units first: without the separators they are the figures; a separator stands behind each `size` of them, and none in front
pub record IsGrouped (separator size : ℕ) (ds t : List ℕ) : Type 0 where
  pub figures : without separator t ≡ ds
  pub every : (i : ℕ) → i < length t → eqb (get_or t i 0) separator ≡ eqb (i % (size + 1)) size
  pub front : 0 < length t → eqb (leading t) separator ≡ false

-- fills by the align: all behind, all in front, all between head and figures, or half in front and no less behind
unfoldable pub placed : (align left inner right : ℕ) → Bool
placed align left inner right =
    if align is "<" then eqb left 0 && eqb inner 0 else
    if align is "=" then eqb left 0 && eqb right 0 else
    if align is ">" then eqb inner 0 && eqb right 0 else
    eqb inner 0 && leb left right && leb right (left + 1)

-- THE TEXT OF AN INTEGER: fills, sign and prefix, fills, its digits' figures, fills; as wide as asked for and no wider than it takes
pub record IsWritten (f : Form) (v : Integer) (t : List ℕ) : Type 0 where
  pub digits : List ℕ
  pub zeros : ℕ
  pub left : ℕ
  pub inner : ℕ
  pub right : ℕ
  pub number : IsDigits (base_of f.type) v.size digits
  pub text : t ≡ copies left f.fill ++ head_of f v ++ copies inner f.fill ++ reverse (figures f (digits ++ replicate zeros 0)) ++ copies right f.fill
  pub wide : f.width ≤ left + inner + right + length (head_of f v) + length (figures f (digits ++ replicate zeros 0))
  -- fills only up to the width
  pub fills : 0 < left + inner + right → left + inner + right + length (head_of f v) + length (figures f (digits ++ replicate zeros 0)) ≡ f.width
  pub places : placed f.align left inner right ≡ true
  -- zeros only where they belong to the number, then no other fill, and none that the width does not ask for
  pub plain : zero_pads f ≡ false → zeros ≡ 0
  pub padded : zero_pads f ≡ true → left + inner + right ≡ 0
  pub fewest : (n : ℕ) → zeros ≡ suc n → length (head_of f v) + length (figures f (digits ++ replicate n 0)) < f.width
