-- What is matched, blank or without braces, and how deep fields lie: small examples, computed. Assumes nothing.
use Prim.Native.Nat.{ℕ}
use Prim.Native.String.{String}
use mathlib.Core.Path.{◌≡◌, refl}
use mathlib.Core.Bool.{Bool, true, false}
use mathlib.Core.List.{List, [], ◌∷◌, ◌++◌, map}
use lib.ListN.{length}
use Rattle.definition.specs.Chars.{ascii, inside_any, table37, following, follow, width, decoded, code, next, white_space}
use Rattle.definition.specs.Records.{inner, Record, Answer}
use Rattle.definition.specs.Matched.{closed, see, see_all, settled, matched, blank_after, blank, braceless}
use Rattle.definition.specs.Words.{role_at, records_from, sort_from, answer_from, alike, apart, expressed, within, two_deep, assured}
use Rattle.definition.proofs.Computed.FormedShown.{rec}

-- a test passes all of the first and none of the others
abbrev pub Splits : {A : Type 0} → (A → Bool) → List A → List A → Type 0
Splits test good others = map test (good ++ others) ≡ map (λ x. true) good ++ map (λ x. false) others

-- brackets in runs, another quote in a run, a backslash that ends no run's meaning
pub matched_shown : Splits matched
    (ascii "" ∷ ascii "x" ∷ ascii "f(a[1], {2: 3})" ∷ ascii "d[\"]\"]" ∷ ascii "'('" ∷ ascii "\"'\"" ∷ ascii "'\\'" ∷ ascii "f('a' \"b\")" ∷ (0xCE ∷ 0xBC ∷ []) ∷ [])
    (ascii "(" ∷ ascii ")" ∷ ascii "(]" ∷ ascii "[)" ∷ ascii "{)" ∷ ascii "([)]" ∷ ascii ")(" ∷ ascii "'" ∷ ascii "'\"" ∷ ascii "'\\''" ∷ ascii "\\" ∷ ascii "'' \\" ∷ ascii "(\\)" ∷ [])
unfolding ascii closed see see_all settled matched
matched_shown = refl

-- spaces of one to three bytes, alone and together; a letter among them, U+200B, and bytes that are no character
pub blank_shown : Splits blank
    (ascii "" ∷ ascii " " ∷ ascii " \t\n\r" ∷ (0xC2 ∷ 0xA0 ∷ []) ∷ (0x20 ∷ 0xE2 ∷ 0x80 ∷ 0x80 ∷ 0xC2 ∷ 0x85 ∷ []) ∷ [])
    (ascii "x" ∷ ascii "  x" ∷ ascii "x " ∷ (0xC2 ∷ 0xA0 ∷ 0x78 ∷ []) ∷ (0x78 ∷ 0xC2 ∷ 0xA0 ∷ []) ∷ (0xE2 ∷ 0x80 ∷ 0x8B ∷ []) ∷ (0xC2 ∷ []) ∷ (0xA0 ∷ []) ∷ [])
unfolding ascii inside_any table37 following follow width decoded code next white_space blank_after
blank_shown = refl

pub braceless_shown : Splits braceless (ascii "" ∷ ascii "a(b)\\n" ∷ []) (ascii "{" ∷ ascii "a}" ∷ ascii "{{a" ∷ [])
unfolding ascii braceless
braceless_shown = refl

-- records by their kinds and parts, none with a text
abbrev pub shaped : List (ℕ × ℕ) → List Record
shaped [] = []
shaped ((kind, parts) ∷ rs) =
    record { role = inner; kind = kind; offset = 0; size = 0; start = 0; end = 0; mode = 0; parts = parts; place = 0 } ∷ shaped rs

pub deep_shown : Splits (λ rs. two_deep [] (shaped rs))
    -- `{x}`, `{x:{y}}a{z}`, `{x:{y:}{z}}`, `{x:a{y:b}{z}}`
    (((2, 0) ∷ []) ∷ ((2, 1) ∷ (3, 1) ∷ (2, 0) ∷ (1, 0) ∷ (2, 0) ∷ []) ∷ ((2, 1) ∷ (3, 2) ∷ (2, 1) ∷ (3, 0) ∷ (2, 0) ∷ []) ∷ ((2, 1) ∷ (3, 3) ∷ (1, 0) ∷ (2, 1) ∷ (3, 1) ∷ (1, 0) ∷ (2, 0) ∷ []) ∷ [])
    -- `{x:{y:{z}}}`, `{x:{y:{z}}a}`, `{x:a{y:{z}b}}`
    (((2, 1) ∷ (3, 1) ∷ (2, 1) ∷ (3, 1) ∷ (2, 0) ∷ []) ∷ ((2, 1) ∷ (3, 2) ∷ (2, 1) ∷ (3, 1) ∷ (2, 0) ∷ (1, 0) ∷ []) ∷ ((2, 1) ∷ (3, 2) ∷ (1, 0) ∷ (2, 1) ∷ (3, 2) ∷ (2, 0) ∷ (1, 0) ∷ []) ∷ [])
unfolding within two_deep
deep_shown = refl

-- an answer of so many records over a text
abbrev pub over : ℕ × List ℕ × String → Answer
unfolding ascii answer_from
over (count, words, text) = answer_from 1 0 0 10 count (length (ascii text)) 0 words (ascii text)

pub assured_shown : Splits (λ r. assured (over r))
    -- `({x}`, `{x:({y}}`
    ((2, rec 1 0 1 0 0 0 ++ rec 2 1 1 0 0 4, "(x") ∷ (4, rec 2 0 1 0 1 3 ++ rec 3 1 0 0 2 0 ++ rec 1 1 1 0 0 0 ++ rec 2 2 1 0 0 7, "x(y") ∷ [])
    -- expressions `(` and ` `, at the top and in a spec; a third level; literals that touch
    ((2, rec 1 0 1 0 0 0 ++ rec 2 1 1 0 0 4, "x(")
    ∷ (2, rec 1 0 1 0 0 0 ++ rec 2 1 1 0 0 4, "x ")
    ∷ (3, rec 2 0 1 0 1 3 ++ rec 3 1 0 0 1 0 ++ rec 2 1 1 0 0 6, "x(")
    ∷ (3, rec 2 0 1 0 1 3 ++ rec 3 1 0 0 1 0 ++ rec 2 1 1 0 0 6, "x ")
    ∷ (5, rec 2 0 1 0 1 3 ++ rec 3 1 0 0 1 0 ++ rec 2 1 1 0 1 6 ++ rec 3 2 0 0 1 0 ++ rec 2 2 1 0 0 8, "xyz")
    ∷ (2, rec 1 0 1 0 0 0 ++ rec 1 1 1 0 0 0, "ab")
    ∷ [])
unfolding ascii inside_any table37 following follow width decoded code next white_space closed see see_all settled matched blank_after role_at records_from sort_from answer_from alike apart expressed within two_deep assured
assured_shown = refl
