-- The literals of small scripts and every prefix of one or two letters, by tables, computed. Assumes nothing.
use Prim.Native.Nat.{ℕ}
use Prim.Native.String.{String}
use mathlib.Core.Path.{◌≡◌, refl}
use mathlib.Core.List.{List, [], ◌∷◌, map}
use Rattle.definition.specs.Numbers.{prefix}
use Rattle.definition.specs.Chars.{ascii, before}
use Rattle.definition.specs.Entry.{refusal}
use Rattle.definition.specs.Reading.{last_end}
use Rattle.definition_scripts.specs.Opening.{one_letter, two_letters, opens, quotes_of, tripled, quotes_at}
use Rattle.definition_scripts.specs.Literals.{body_case, closing_n, closing, closed_at, literal_at, blank_case, passed_n, passed, first_run, run_n, run, literals_from, fitting, listed, flat, list_after, list_numbers, list_into, literals_into}

-- the answer's numbers and the list buffer, which held twelve nines
abbrev asked : String → ℕ → List ℕ × List ℕ
unfolding ascii
asked text offset =
    let c = literals_into (ascii text) offset (9 ∷ 9 ∷ 9 ∷ 9 ∷ 9 ∷ 9 ∷ 9 ∷ 9 ∷ 9 ∷ 9 ∷ 9 ∷ 9 ∷ []) in (list_numbers c.listing, c.list)

abbrev pub nines : List ℕ
nines = 9 ∷ 9 ∷ 9 ∷ 9 ∷ 9 ∷ 9 ∷ []

abbrev pub zeroed : List ℕ
zeroed = 0 ∷ 0 ∷ 0 ∷ 0 ∷ 0 ∷ 0 ∷ 0 ∷ 0 ∷ 0 ∷ 0 ∷ 0 ∷ 0 ∷ []

abbrev refused : ℕ → ℕ → List ℕ × List ℕ
refused number place = (number ∷ 0 ∷ place ∷ [], zeroed)

pub record Row : Type 0 where
  pub asks : List ℕ × List ℕ
  pub is : List ℕ × List ℕ

infix 3 ◌gives◌
abbrev pub ◌gives◌ : List ℕ × List ℕ → List ℕ × List ℕ → Row
asks gives is = record { asks = asks; is = is }

pub listings : List Row
unfolding ascii
listings =
    -- two literals and what stands between them, and the second alone
    (asked "'a' # it's\n\t\"b\" + c" 0 gives (0 ∷ 2 ∷ 15 ∷ 16 ∷ [], 0 ∷ 0 ∷ 1 ∷ 1 ∷ 0 ∷ 3 ∷ 0 ∷ 0 ∷ 13 ∷ 1 ∷ 12 ∷ 15 ∷ []))
    ∷ (asked "'a' # it's\n\t\"b\" + c" 12 gives (0 ∷ 1 ∷ 15 ∷ 16 ∷ [], 0 ∷ 0 ∷ 13 ∷ 1 ∷ 12 ∷ 15 ∷ nines))
    -- three quotes, and an escaped one in a raw literal
    ∷ (asked "x = Rb'''a''\n\\''''" 4 gives (0 ∷ 1 ∷ 18 ∷ 18 ∷ [], 5 ∷ 1 ∷ 9 ∷ 6 ∷ 4 ∷ 18 ∷ nines))
    ∷ (asked "r'\\'' f" 0 gives (0 ∷ 1 ∷ 5 ∷ 6 ∷ [], 3 ∷ 0 ∷ 2 ∷ 2 ∷ 0 ∷ 5 ∷ nines))
    -- empty ones, and what ends a run: a backslash, a carriage return, which a comment may have
    ∷ (asked "''\"\"\\\n''" 0 gives (0 ∷ 2 ∷ 4 ∷ 4 ∷ [], 0 ∷ 0 ∷ 1 ∷ 0 ∷ 0 ∷ 2 ∷ 0 ∷ 0 ∷ 3 ∷ 0 ∷ 2 ∷ 4 ∷ []))
    ∷ (asked "'a\rb'\r''" 0 gives (0 ∷ 1 ∷ 5 ∷ 5 ∷ [], 0 ∷ 0 ∷ 1 ∷ 3 ∷ 0 ∷ 5 ∷ nines))
    ∷ (asked "'a'#\r'b'\n'c'" 0 gives (0 ∷ 2 ∷ 12 ∷ 12 ∷ [], 0 ∷ 0 ∷ 1 ∷ 1 ∷ 0 ∷ 3 ∷ 0 ∷ 0 ∷ 10 ∷ 1 ∷ 9 ∷ 12 ∷ []))
    -- 50 to 53
    ∷ (asked "'a' f'b\\" 0 gives refused 50 4)
    ∷ (asked "''''''' " 0 gives refused 50 6)
    ∷ (asked "'a' U'b\n'" 0 gives refused 51 4)
    ∷ (asked "ur'a'" 0 gives refused 52 0)
    ∷ (asked "'a'" 4 gives refused 52 4)
    -- 50 and 51 before 53
    ∷ (asked "'' '' '' 'b" 0 gives refused 50 9)
    ∷ (asked "'' '' '' 'b\n'" 0 gives refused 51 9)
    ∷ (asked "'''''' '' ''" 0 gives (53 ∷ 0 ∷ 0 ∷ 0 ∷ 0 ∷ 0 ∷ 0 ∷ 0 ∷ 0 ∷ 18 ∷ [], zeroed))
    ∷ []

pub listings_read : map (λ r. r.asks) listings ≡ map (λ r. r.is) listings
unfolding listings prefix ascii before refusal last_end one_letter two_letters opens quotes_of tripled quotes_at body_case closing_n closing closed_at literal_at blank_case passed_n passed first_run run_n run literals_from fitting listed flat list_after list_numbers list_into literals_into
listings_read = refl

-- the kind of every prefix of one and of two of these letters
abbrev pub letters : List ℕ
unfolding ascii
letters = ascii "bBfFrRuUx"

abbrev pub kinds1 : List ℕ → List ℕ
kinds1 l = map (λ a. opens (a ∷ 34 ∷ []) 0) l

abbrev pub kinds2 : List ℕ → List ℕ → List (List ℕ)
kinds2 l m = map (λ a. map (λ b. opens (a ∷ b ∷ 39 ∷ []) 0) m) l

pub prefixes_1 : kinds1 letters ≡ 2 ∷ 2 ∷ 1 ∷ 1 ∷ 3 ∷ 3 ∷ 6 ∷ 6 ∷ 7 ∷ []
unfolding ascii opens one_letter two_letters
prefixes_1 = refl

pub prefixes_2 : kinds2 letters letters ≡
    (7 ∷ 7 ∷ 7 ∷ 7 ∷ 5 ∷ 5 ∷ 7 ∷ 7 ∷ 7 ∷ [])
    ∷ (7 ∷ 7 ∷ 7 ∷ 7 ∷ 5 ∷ 5 ∷ 7 ∷ 7 ∷ 7 ∷ [])
    ∷ (7 ∷ 7 ∷ 7 ∷ 7 ∷ 4 ∷ 4 ∷ 7 ∷ 7 ∷ 7 ∷ [])
    ∷ (7 ∷ 7 ∷ 7 ∷ 7 ∷ 4 ∷ 4 ∷ 7 ∷ 7 ∷ 7 ∷ [])
    ∷ (5 ∷ 5 ∷ 4 ∷ 4 ∷ 7 ∷ 7 ∷ 7 ∷ 7 ∷ 7 ∷ [])
    ∷ (5 ∷ 5 ∷ 4 ∷ 4 ∷ 7 ∷ 7 ∷ 7 ∷ 7 ∷ 7 ∷ [])
    ∷ (7 ∷ 7 ∷ 7 ∷ 7 ∷ 7 ∷ 7 ∷ 7 ∷ 7 ∷ 7 ∷ [])
    ∷ (7 ∷ 7 ∷ 7 ∷ 7 ∷ 7 ∷ 7 ∷ 7 ∷ 7 ∷ 7 ∷ [])
    ∷ (7 ∷ 7 ∷ 7 ∷ 7 ∷ 7 ∷ 7 ∷ 7 ∷ 7 ∷ 7 ∷ [])
    ∷ []
unfolding ascii opens one_letter two_letters
prefixes_2 = refl
