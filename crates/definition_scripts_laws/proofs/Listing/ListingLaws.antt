-- THE LIST OF A SCRIPT is the rows of its cut and then those of the source of each row of that same list, in order; running out of levels never shows. Assumes nothing.
use mathlib.Core.Path.{◌≡◌, sym, ◌∙◌, ap}
use mathlib.Core.List.{List, [], ◌∷◌, ◌++◌, append_assoc}
use Prim.Native.Nat.{ℕ, zero, suc, ◌+◌}
use native.Mathlib.Nat.{add-suc, suc-add, add-zero}
use lib.ListN.{length}
use Rattle.definition.specs.Escapes.{Naming}
use Rattle.definition_scripts.specs.Cut.{cut}
use Rattle.definition_scripts.specs.Listing.{ListRow, cut_rows, source_rows, below, levels_n, rows_of}
use Rattle.definition_scripts_laws.proofs.Listing.SourceLaws.{AllFit, fit_append, fit_more, none_fits, first_fit, below_fit}

-- the sources of rows in two parts
pub below_append : (look : Naming) → (s : List ℕ) (i : ℕ) (xs ys : List ListRow) → below look s i (xs ++ ys) ≡ below look s i xs ++ below look s (i + length xs) ys
unfolding below
below_append look s i [] ys = ap (λ k. below look s k ys) (sym (add-zero i))
below_append look s i (x ∷ xs) ys =
    ap (λ r. source_rows look s (suc i) x ++ r) (below_append look s (suc i) xs ys ∙ ap (λ k. below look s (suc i) xs ++ below look s k ys) (suc-add i (length xs) ∙ sym (add-suc i (length xs))))
    ∙ sym (append_assoc (source_rows look s (suc i) x) (below look s (suc i) xs) (below look s (i + suc (length xs)) ys))

levels_again : (look : Naming) → (n : ℕ) (s : List ℕ) (i : ℕ) (level : List ListRow) → AllFit s n level → levels_n look n s i level ≡ level ++ below look s i (levels_n look n s i level)
unfolding levels_n below
levels_again look zero s i level p = rw (none_fits s level p)
levels_again look (suc n) s i level p =
    ap (λ r. level ++ r)
    (levels_again look n s (i + length level) (below look s i level) (below_fit look s n i level p)
    ∙ sym (below_append look s i level (levels_n look n s (i + length level) (below look s i level))))

-- THE LIST AGAIN: what a loop over the rows already written does
pub rows_again : (look : Naming) → (s : List ℕ) → rows_of look s ≡ cut_rows look s 0 (cut s) ++ below look s 0 (rows_of look s)
unfolding rows_of
rows_again look s = levels_again look (suc (length s)) s 0 (cut_rows look s 0 (cut s)) (first_fit look s)

-- every source of the list lies in the script
levels_fit : (look : Naming) → (n : ℕ) (s : List ℕ) (i : ℕ) (level : List ListRow) → AllFit s n level → AllFit s n (levels_n look n s i level)
unfolding levels_n
levels_fit look zero s i level p = tt
levels_fit look (suc n) s i level p =
    let x = levels_n look n s (i + length level) (below look s i level) in
    fit_append s (suc n) level x p (fit_more s n x (levels_fit look n s (i + length level) (below look s i level) (below_fit look s n i level p)))

pub rows_fit : (look : Naming) → (s : List ℕ) → AllFit s (suc (length s)) (rows_of look s)
unfolding rows_of
rows_fit look s = levels_fit look (suc (length s)) s 0 (cut_rows look s 0 (cut s)) (first_fit look s)
