-- AN INTEGER BY A FORMAT SPECIFICATION: the text that Python writes. One statement covers the bases, by the base.
use Rattle.std.specs.Prelude.{ℕ, zero, suc, ◌+◌, ◌-◌, ◌*◌, ◌/◌, ◌%◌, Bool, true, false, ◌&&◌, ◌||◌, not, List, [], ◌∷◌, ◌++◌, map, reverse, ltb, leb, eqb, length, if◌then◌else◌}
use Rattle.std.proofs.Math.Option.{Option, none, some}
use Rattle.definition.specs.Chars.{◌is◌, same}
use Rattle.definition_replay.specs.Spec.{Spec, nothing}

-- An integer: its size, and whether it is below 0
pub record Integer : Type 0 where
  pub negative : Bool
  pub size : ℕ

-- the value of decimal digits as they are written, after digits of the value v
unfoldable pub decimal_from : ℕ → List ℕ → ℕ
decimal_from v [] = v
decimal_from v (d ∷ ds) = decimal_from (v * 10 + (d - 48)) ds

abbrev pub decimal : List ℕ → ℕ
decimal ds = decimal_from 0 ds

-- DIGITS of a number in a base, the units first; k bounds them
unfoldable pub digits_n : (k base n : ℕ) → List ℕ
digits_n zero base n = []
digits_n (suc k) base n = elim (ltb n base) [ true ↦ n ∷ [] | false ↦ n % base ∷ digits_n k base (n / base) ]

unfoldable pub digits : (base n : ℕ) → List ℕ
digits base n = digits_n (suc n) base n

-- THE FORM of an integer: a specification within the set, nothing left open. Grouping 0 is none, type 0 is that of `d`
pub record Form : Type 0 where
  pub fill : List ℕ
  pub align : ℕ
  pub sign : ℕ
  pub alternate : Bool
  pub width : ℕ
  pub grouping : ℕ
  pub type : ℕ

-- the base of a type; 0 if it is none of an integer
unfoldable pub base_of : ℕ → ℕ
base_of t =
    if eqb t 0 || t is "d" then 10 else
    if t is "b" then 2 else
    if t is "o" then 8 else
    if t is "xX" then 16 else 0

-- what 69 refuses of a specification: `z`, a precision, another type, a width above 64, a comma in another base than ten
unfoldable pub outside_of : Spec → Bool
outside_of p =
    not (eqb p.z 0)
    || not (nothing p.precision)
    || eqb (base_of p.type) 0
    || ltb 64 (decimal p.width)
    || p.grouping is "," && not (eqb (base_of p.type) 10)

-- without a fill it is a space and without an align `>`; with the flag `0` a zero and `=`
unfoldable pub form_in : Spec → Form
form_in p =
    record {
      fill = if nothing p.fill then (if eqb p.nought 0 then 32 else 48) ∷ [] else p.fill;
      align = if eqb p.align 0 then (if eqb p.nought 0 then 62 else 61) else p.align;
      sign = p.sign;
      alternate = not (eqb p.alternate 0);
      width = decimal p.width;
      grouping = p.grouping;
      type = p.type;
    }

unfoldable pub form_of : Spec → Option Form
form_of p = if outside_of p then none else some (form_in p)

-- a digit as it is written, capitals for `X`
unfoldable pub figure : (type d : ℕ) → ℕ
figure type d = if ltb d 10 then 48 + d else if type is "X" then 55 + d else 87 + d

-- the minus of a number below 0; for the others the sign that is asked for, `-` and none ask for nothing
unfoldable pub sign_of : ℕ → Bool → List ℕ
sign_of sign true = 45 ∷ []
sign_of sign false = if sign is "+ " then sign ∷ [] else []

-- `0` and the type's letter, if asked for; in base ten nothing
unfoldable pub prefix_of : Form → List ℕ
prefix_of f = if f.alternate && not (eqb (base_of f.type) 10) then 48 ∷ f.type ∷ [] else []

-- sign and prefix
unfoldable pub head_of : Form → Integer → List ℕ
head_of f v = sign_of f.sign v.negative ++ prefix_of f

-- figures with a separator behind each `size` of them where more follow, the units first; k are to come before the next one
unfoldable pub grouped : (separator size k : ℕ) → List ℕ → List ℕ
grouped separator size k [] = []
grouped separator size zero (d ∷ ds) = separator ∷ d ∷ grouped separator size (size - 1) ds
grouped separator size (suc k) (d ∷ ds) = d ∷ grouped separator size k ds

-- three in base ten, else four
unfoldable pub group_size : Form → ℕ
group_size f = if eqb (base_of f.type) 10 then 3 else 4

-- THE FIGURES of digits, the units first
unfoldable pub figures : Form → List ℕ → List ℕ
figures f ds =
    let t = map (figure f.type) ds in
    if eqb f.grouping 0 then t else grouped f.grouping (group_size f) (group_size f) t

-- zeros belong to the number if the fill is `0` between its head and its digits
unfoldable pub zero_pads : Form → Bool
zero_pads f = same f.fill (48 ∷ []) && eqb f.align 61

-- one zero more, until the figures have `least` bytes; n bounds them
unfoldable pub zeroed : (n least : ℕ) → Form → List ℕ → List ℕ
zeroed zero least f ds = ds
zeroed (suc n) least f ds = elim (leb least (length (figures f ds))) [ true ↦ ds | false ↦ zeroed n least f (ds ++ (0 ∷ [])) ]

-- the bytes that a width leaves to figures behind a head, if zeros belong to the number
unfoldable pub least_of : Form → Integer → ℕ
least_of f v = if zero_pads f then f.width - length (head_of f v) else 0

-- the figures of an integer, as they are written
unfoldable pub numeral_of : Form → Integer → List ℕ
numeral_of f v = reverse (figures f (zeroed (least_of f v) (least_of f v) f (digits (base_of f.type) v.size)))

-- so many copies of a text
unfoldable pub copies : ℕ → List ℕ → List ℕ
copies zero t = []
copies (suc n) t = t ++ copies n t

-- how many fills a width asks for; those before the head, and those between it and the figures; the others come last
unfoldable pub pad_of : Form → Integer → ℕ
pad_of f v = f.width - (length (head_of f v) + length (numeral_of f v))

unfoldable pub left_of : (align pad : ℕ) → ℕ
left_of align pad = if align is "<=" then 0 else if align is ">" then pad else pad / 2

unfoldable pub inner_of : (align pad : ℕ) → ℕ
inner_of align pad = if align is "=" then pad else 0

-- THE TEXT OF AN INTEGER
unfoldable pub written : Form → Integer → List ℕ
written f v =
    let pad = pad_of f v in
    let left = left_of f.align pad in
    let inner = inner_of f.align pad in
    copies left f.fill ++ head_of f v ++ copies inner f.fill ++ numeral_of f v ++ copies (pad - (left + inner)) f.fill
