-- The cut of small scripts by a table, computed. Assumes nothing.
use Prim.Native.Nat.{ℕ}
use Prim.Native.String.{String}
use mathlib.Core.Path.{◌≡◌, refl}
use mathlib.Core.List.{List, [], ◌∷◌, map}
use Rattle.definition.specs.Numbers.{prefix}
use Rattle.definition.specs.Chars.{ascii, before}
use Rattle.definition.specs.Entry.{refusal}
use Rattle.definition_scripts.specs.Opening.{one_letter, two_letters, opens, quotes_of, tripled, quotes_at, apart}
use Rattle.definition_scripts.specs.IsCut.{Ending, reaches_end, breaks_off}
use Rattle.definition_scripts.specs.Literals.{body_case, closing_n, closing, closed_at, literal_at, flat}
use Rattle.definition_scripts.specs.Cut.{begins, cut_case, first_cut, cut_n, cut_from, cut, cut_part, Cut}

-- number and place of what broke a cut off
abbrev broken : Ending → List ℕ
broken reaches_end = []
broken (breaks_off number place) = number ∷ place ∷ []

-- the numbers of its literals, and how it ends
abbrev numbered : Cut → List ℕ × List ℕ
numbered c = (flat c.literals, broken c.ending)

abbrev cut_of : String → List ℕ × List ℕ
unfolding ascii
cut_of text = numbered (cut (ascii text))

-- of a part
abbrev part_of : String → ℕ → ℕ → List ℕ × List ℕ
unfolding ascii
part_of text from end = numbered (cut_part (ascii text) from end)

pub record Row : Type 0 where
  pub asks : List ℕ × List ℕ
  pub is : List ℕ × List ℕ

infix 3 ◌gives◌
abbrev ◌gives◌ : List ℕ × List ℕ → List ℕ × List ℕ → Row
asks gives is = record { asks = asks; is = is }

pub cuts : List Row
unfolding ascii
cuts =
    -- a prefix, and none after a letter, a digit or an underscore; a byte from 80 on is no letter
    (cut_of "f'a'" gives (1 ∷ 0 ∷ 2 ∷ 1 ∷ 0 ∷ 4 ∷ [], []))
    ∷ (cut_of "xf'a'" gives (0 ∷ 0 ∷ 3 ∷ 1 ∷ 2 ∷ 5 ∷ [], []))
    ∷ (cut_of "0f''_f''Zf''éf''" gives (0 ∷ 0 ∷ 3 ∷ 0 ∷ 2 ∷ 4 ∷ 0 ∷ 0 ∷ 7 ∷ 0 ∷ 6 ∷ 8 ∷ 0 ∷ 0 ∷ 11 ∷ 0 ∷ 10 ∷ 12 ∷ 1 ∷ 0 ∷ 15 ∷ 0 ∷ 13 ∷ 16 ∷ [], []))
    -- two letters, and one of them after another letter
    ∷ (cut_of "rF'' bR'' fb''" gives (4 ∷ 0 ∷ 3 ∷ 0 ∷ 0 ∷ 4 ∷ 5 ∷ 0 ∷ 8 ∷ 0 ∷ 5 ∷ 9 ∷ 0 ∷ 0 ∷ 13 ∷ 0 ∷ 12 ∷ 14 ∷ [], []))
    -- directly after another
    ∷ (cut_of "'a'f'b'\"c\"" gives (0 ∷ 0 ∷ 1 ∷ 1 ∷ 0 ∷ 3 ∷ 1 ∷ 0 ∷ 5 ∷ 1 ∷ 3 ∷ 7 ∷ 0 ∷ 0 ∷ 8 ∷ 1 ∷ 7 ∷ 10 ∷ [], []))
    -- comments, which end before byte 10 or 13
    ∷ (cut_of "# it's\n(RB'b'" gives (5 ∷ 0 ∷ 11 ∷ 1 ∷ 8 ∷ 13 ∷ [], []))
    ∷ (cut_of "# f'\rf''" gives (1 ∷ 0 ∷ 7 ∷ 0 ∷ 5 ∷ 8 ∷ [], []))
    ∷ (cut_of "#'" gives ([], []))
    -- three quotes over lines; a `#` in a literal is no comment
    ∷ (cut_of "x='''\n#''\n'''#'''" gives (0 ∷ 1 ∷ 5 ∷ 5 ∷ 2 ∷ 13 ∷ [], []))
    -- 50 and 51 end it
    ∷ (cut_of "# f'\r f'" gives ([], 50 ∷ 6 ∷ []))
    ∷ (cut_of "'#' u'\n''" gives (0 ∷ 0 ∷ 1 ∷ 1 ∷ 0 ∷ 3 ∷ [], 51 ∷ 4 ∷ []))
    -- a part: what stands behind its end is not there
    ∷ (part_of "f'{f\"{g}\"}'" 3 9 gives (1 ∷ 0 ∷ 5 ∷ 3 ∷ 3 ∷ 9 ∷ [], []))
    ∷ (part_of "f'{f\"{g}\"}'" 3 8 gives ([], 50 ∷ 3 ∷ []))
    ∷ []

pub cuts_read : map (λ r. r.asks) cuts ≡ map (λ r. r.is) cuts
unfolding cuts prefix ascii before refusal one_letter two_letters opens quotes_of tripled quotes_at body_case closing_n closing closed_at literal_at flat apart begins cut_case first_cut cut_n cut_from cut cut_part
cuts_read = refl
