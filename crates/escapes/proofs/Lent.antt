-- By which lookup a reading goes, by whether a file is lent; and a file that stands for an empty one. Assumes nothing.
use mathlib.Core.Path.{◌≡◌, refl, sym, ◌∙◌}
use mathlib.Core.List.{List, [], ◌∷◌}
use Prim.Native.Nat.{ℕ, zero, suc, ◌+◌, ◌-◌, ◌/◌, ◌≤◌}
use native.Mathlib.Omega.{arith}
use lib.Dec.{ltb}
use lib.ListN.{length, get_or, drop_of_length-le, get_or-eq_default}
use Rattle.definition.specs.Escapes.{held_names}
use Rattle.definition_names.specs.Names.{at_most, up_to, hex_value, name_at, name_of, bound_n, bound, entry_of, code_at, scalar_at, searched}
use Rattle.definition.proofs.Moves.CharLaws.{cases}
use Rattle.escapes.specs.Answers.{names_by}

pub none_lent : (file index name : List ℕ) → length file ≡ 0 → names_by file index name ≡ held_names name
unfolding names_by
none_lent [] index name h = refl
none_lent (b ∷ file) index name h = absurd (omega arith)

pub some_lent : (file index name : List ℕ) → (length file ≡ 0 → ⊥) → names_by file index name ≡ searched file index name
unfolding names_by
some_lent [] index name h = absurd (h refl)
some_lent (b ∷ file) index name h = refl

-- TWO FILES with the same names and codes at every offset are searched alike
module _ (f g : List ℕ) (names : (p : ℕ) → name_of f p ≡ name_of g p) (codes : (p : ℕ) → code_at f p ≡ code_at g p) (index name : List ℕ) where
  bound_alike : (n low high : ℕ) → bound_n n f index name low high ≡ bound_n n g index name low high
  unfolding bound_n
  bound_alike zero low high = refl
  bound_alike (suc n) low high =
      let mid = low + (high - low) / 2 in
      cases (ltb low high)
      (λ t.
      cases (at_most name (name_of g (get_or index mid 0)))
      (λ u. rw (t, names (get_or index mid 0), u, bound_n) (bound_alike n low mid))
      (λ u. rw (t, names (get_or index mid 0), u, bound_n) (bound_alike n (mid + 1) high)))
      (λ t. rw (t, bound_n))

  entry_alike : entry_of f index name ≡ entry_of g index name
  unfolding entry_of bound
  entry_alike = rw (bound_alike (suc (length index)) 0 (length index), names (get_or index (bound_n (suc (length index)) g index name 0 (length index)) 0)) refl

  pub searched_alike : searched f index name ≡ searched g index name
  unfolding searched scalar_at
  searched_alike = rw (entry_alike, codes (get_or index (entry_of g index name) 0)) refl

-- a file of at most one byte has no name, and one of a single `;` no digits
no_name : (f : List ℕ) → length f ≤ 1 → (p : ℕ) → name_of f p ≡ []
unfolding name_of name_at up_to
no_name f h p =
    let a : length f ≤ p + 4 = omega arith in
    let b : length f ≤ p + 5 = omega arith in
    let c : length f ≤ p + 7 = omega arith in
    rw (get_or-eq_default f 256 a, get_or-eq_default f 256 b, drop_of_length-le f c) refl

no_code_lem : (p : ℕ) → code_at (59 ∷ []) p ≡ code_at [] p
unfolding up_to hex_value
no_code_lem zero = refl
no_code_lem (suc p) = let h : length {A = ℕ} [] ≤ p = omega arith in rw (drop_of_length-le [] h) refl

-- SO A FILE OF ONE `;` is searched as an empty one
pub marked_empty : (file index name : List ℕ) → length file ≡ 0 → searched (59 ∷ []) index name ≡ searched file index name
marked_empty [] index name h = searched_alike (59 ∷ []) [] (λ p. no_name (59 ∷ []) (omega arith) p ∙ sym (no_name [] (omega arith) p)) no_code_lem index name
marked_empty (b ∷ file) index name h = absurd (omega arith)

-- AS LOOKUPS: none is lent, one is, or one that stands for an empty file
pub names_none : (file index : List ℕ) → length file ≡ 0 → names_by file index ≡ held_names
names_none file index h = λ i name. none_lent file index name h i

pub names_lent : (file index : List ℕ) → (length file ≡ 0 → ⊥) → names_by file index ≡ searched file index
names_lent file index h = λ i name. some_lent file index name h i

pub names_marked : (file index : List ℕ) → length file ≡ 0 → names_by (59 ∷ []) index ≡ searched file index
names_marked file index h = λ i name. (some_lent (59 ∷ []) index name (λ e. omega arith) ∙ marked_empty file index name h) i
