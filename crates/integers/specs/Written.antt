-- Figures one at a time, in the definition's terms.
use Rattle.std.specs.Prelude.{ℕ, zero, suc, ◌+◌, ◌-◌, Bool, true, false, ◌&&◌, not, List, [], ◌∷◌, ◌++◌, map, reverse, leb, eqb, length, if◌then◌else◌}
use Rattle.definition.specs.Chars.{same}
use Rattle.definition_replay.specs.Integers.{Integer, digits, Form, base_of, figure, sign_of, grouped, figures, zeroed, written}
use Rattle.forms.specs.declared.Shape.{Shape}

-- a figure, behind a separator if none is to come before the next one
unfoldable pub one_more : (grouping come fig : ℕ) → List ℕ
one_more grouping come fig = if eqb grouping 0 then fig ∷ [] else if eqb come 0 then grouping ∷ fig ∷ [] else fig ∷ []

-- how many are to come then
unfoldable pub come_after : (size come : ℕ) → ℕ
come_after size zero = size - 1
come_after size (suc come) = come

-- the figures of digits, so many to come before the next separator
unfoldable pub rest_of : (grouping size come kind : ℕ) → List ℕ → List ℕ
rest_of grouping size come kind ds =
    let t = map (figure kind) ds in
    if eqb grouping 0 then t else grouped grouping size come t

-- after several
unfoldable pub comes_after : (size come : ℕ) → List ℕ → ℕ
comes_after size come [] = come
comes_after size come (d ∷ ds) = comes_after size (come_after size come) ds

-- zeros from an index on, until there are `least` bytes; n bounds them
unfoldable pub zeros_n : (n least grouping size at come : ℕ) → List ℕ
zeros_n zero least grouping size at come = []
zeros_n (suc n) least grouping size at come =
    elim (leb least at) [
      | true ↦ []
      | false ↦ one_more grouping come 48 ++ zeros_n n least grouping size (at + length (one_more grouping come 48)) (come_after size come)
    ]

-- how many figures a group has, by the base
unfoldable pub group_of : ℕ → ℕ
group_of base = if eqb base 10 then 3 else 4

-- the form of figures alone
abbrev pub bare : (kind grouping : ℕ) → Form
bare kind grouping = record { fill = []; align = 0; sign = 0; alternate = false; width = 0; grouping = grouping; type = kind }

-- the figures of a number, the units first, with zeros until there are `least` bytes
unfoldable pub numeral_units : (kind grouping least number : ℕ) → List ℕ
numeral_units kind grouping least number =
    let f = bare kind grouping in
    figures f (zeroed least least f (digits (base_of kind) number))

-- the figures of a number without separators, as they are written
unfoldable pub figures_of : (kind base number : ℕ) → List ℕ
figures_of kind base number = reverse (map (figure kind) (digits base number))

-- the head's parts, by themselves
unfoldable pub prefix_from : (alternate : Bool) (kind : ℕ) → List ℕ
prefix_from alternate kind = if alternate && not (eqb (base_of kind) 10) then 48 ∷ kind ∷ [] else []

unfoldable pub head_from : (sign : ℕ) (alternate : Bool) (kind : ℕ) (negative : Bool) → List ℕ
head_from sign alternate kind negative = sign_of sign negative ++ prefix_from alternate kind

unfoldable pub pads_from : (fill : List ℕ) (align : ℕ) → Bool
pads_from fill align = same fill (48 ∷ []) && eqb align 61

unfoldable pub least_from : (fill : List ℕ) (align width head : ℕ) → ℕ
least_from fill align width head = if pads_from fill align then width - head else 0

-- the form of a shape and a fill
abbrev pub formed : List ℕ → Shape → Form
formed fill f =
    record { fill = fill; align = f.align; sign = f.sign; alternate = f.alternate; width = f.width; grouping = f.grouping; type = f.kind }

abbrev pub integer : (negative : Bool) (size : ℕ) → Integer
integer negative size = record { negative = negative; size = size }

-- a form within the set, by the bytes of its fill: an integer's type, a width up to 64, and a fill of one character
unfoldable pub fitting : (fill : ℕ) → Shape → Bool
fitting fill f = not (eqb (base_of f.kind) 0) && leb f.width 64 && leb fill 4

-- what is written by it: nothing by one outside the set
unfoldable pub written_in : (fill : List ℕ) → Shape → Integer → List ℕ
written_in fill f v = if fitting (length fill) f then written (formed fill f) v else []
