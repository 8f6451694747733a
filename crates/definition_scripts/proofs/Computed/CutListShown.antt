-- The literals of small whole scripts by a table, computed. Assumes nothing.
use Prim.Native.Nat.{ℕ}
use Prim.Native.String.{String}
use mathlib.Core.Path.{◌≡◌, refl}
use mathlib.Core.List.{List, [], ◌∷◌, map}
use Rattle.definition.specs.Numbers.{prefix}
use Rattle.definition.specs.Chars.{ascii, before}
use Rattle.definition.specs.Entry.{refusal}
use Rattle.definition_scripts.specs.Opening.{one_letter, two_letters, opens, quotes_of, tripled, quotes_at, apart}
use Rattle.definition_scripts.specs.Literals.{body_case, closing_n, closing, closed_at, literal_at, flat, fitting, list_after, list_numbers, list_into}
use Rattle.definition_scripts.specs.Cut.{begins, cut_case, first_cut, cut_n, cut_from, cut}
use Rattle.definition_scripts.specs.Listing.{reached}
use Rattle.definition_scripts.specs.CutList.{ended_by, cut_fitting, cut_listed, cut_into}
use Rattle.definition_scripts.proofs.Computed.ListShown.{Row, ◌gives◌, nines, zeroed}

-- the answer's numbers and the list buffer, which held twelve nines
abbrev asked : String → List ℕ × List ℕ
unfolding ascii
asked text = let c = cut_into (ascii text) (9 ∷ 9 ∷ 9 ∷ 9 ∷ 9 ∷ 9 ∷ 9 ∷ 9 ∷ 9 ∷ 9 ∷ 9 ∷ 9 ∷ []) in (list_numbers c.listing, c.list)

pub cut_lists : List Row
unfolding ascii
cut_lists =
    -- every literal, what stands between and behind them is cut too
    (asked "f'a' # '\n+ \"b\";" gives (0 ∷ 2 ∷ 15 ∷ 0 ∷ [], 1 ∷ 0 ∷ 2 ∷ 1 ∷ 0 ∷ 4 ∷ 0 ∷ 0 ∷ 12 ∷ 1 ∷ 11 ∷ 14 ∷ []))
    ∷ (asked "x = rb''''''" gives (0 ∷ 1 ∷ 12 ∷ 0 ∷ [], 5 ∷ 1 ∷ 9 ∷ 0 ∷ 4 ∷ 12 ∷ nines))
    ∷ (asked "x #'" gives (0 ∷ 0 ∷ 4 ∷ 0 ∷ [], 9 ∷ 9 ∷ 9 ∷ 9 ∷ 9 ∷ 9 ∷ nines))
    ∷ (asked "" gives (0 ∷ 0 ∷ 0 ∷ 0 ∷ [], 9 ∷ 9 ∷ 9 ∷ 9 ∷ 9 ∷ 9 ∷ nines))
    -- it ends with 50 or 51
    ∷ (asked "'a', f'b" gives (0 ∷ 1 ∷ 5 ∷ 50 ∷ [], 0 ∷ 0 ∷ 1 ∷ 1 ∷ 0 ∷ 3 ∷ nines))
    ∷ (asked "'a'\nU'b\n''" gives (0 ∷ 1 ∷ 4 ∷ 51 ∷ [], 0 ∷ 0 ∷ 1 ∷ 1 ∷ 0 ∷ 3 ∷ nines))
    -- 53, however it ends
    ∷ (asked "'', '', ''" gives (53 ∷ 0 ∷ 0 ∷ 0 ∷ 0 ∷ 0 ∷ 0 ∷ 0 ∷ 0 ∷ 18 ∷ [], zeroed))
    ∷ (asked "'', '', '', '" gives (53 ∷ 0 ∷ 0 ∷ 0 ∷ 0 ∷ 0 ∷ 0 ∷ 0 ∷ 0 ∷ 18 ∷ [], zeroed))
    ∷ []

pub cut_lists_read : map (λ r. r.asks) cut_lists ≡ map (λ r. r.is) cut_lists
unfolding cut_lists prefix ascii before refusal one_letter two_letters opens quotes_of tripled quotes_at body_case closing_n closing closed_at literal_at flat apart begins cut_case first_cut cut_n cut_from cut fitting reached ended_by cut_fitting cut_listed list_after list_numbers list_into cut_into
cut_lists_read = refl
