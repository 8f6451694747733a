-- A RUN OF ADJACENT LITERALS THAT IS ACCEPTED has its literals' rows, which stand together in the list. Assumes nothing.
use mathlib.Core.Path.{◌≡◌, refl, sym, ◌∙◌, ap, ap₂}
use mathlib.Core.Bool.{Bool, true, false}
use mathlib.Core.List.{List, [], ◌∷◌, ◌++◌, map, append_assoc}
use mathlib.Core.Option.{Option, none, some}
use Prim.Native.Nat.{ℕ}
use native.Mathlib.Omega.{arith}
use Rattle.definition.specs.Numbers.{is_fstring}
use Rattle.definition.specs.Chars.{byte}
use Rattle.definition.specs.Escapes.{Naming}
use Rattle.definition.specs.Records.{Answer}
use Rattle.definition.specs.Entry.{Literal, Refusal, entry}
use Rattle.definition.specs.Reading.{Outcome, accepts, refuses, read}
use Rattle.definition.specs.Join.{join_outcomes, shifted}
use Rattle.definition.specs.Rows.{Row, literal_rows, all_rows, row_field, record_fields}
use Rattle.definition_scripts.specs.Literals.{Run, literals_from}
use Rattle.definition_scripts.specs.Cut.{cut}
use Rattle.definition_scripts.specs.Listing.{ListRow, of_field, read_rows, unknown_row, own_rows, all_read, broken_row, cut_rows, below, rows_of}
use Rattle.definition_laws.proofs.Join.JoinLaw.{read_join}
use Rattle.definition_laws.proofs.Rows.FieldRows.{list_fields, others_none}
use Rattle.definition_scripts_laws.proofs.Listing.FieldsLaw.{accepted_rows, other_rows, known_rows}
use Rattle.definition_scripts_laws.proofs.Listing.WordLaws.{LaterStand, adjacent_stand}
use Rattle.definition_scripts_laws.proofs.Literals.ListLaw.{given}
use Rattle.definition_scripts_laws.proofs.Listing.ListingLaws.{rows_again}
use Rattle.definition_scripts_laws.proofs.Cut.RunInCut.{run_in_cut}

never : {P A : Type 0} (r : Refusal) (x : A) → ◌≡◌ {A = Outcome A} (refuses r) (accepts x) → P
never r x e = let z : ◌≡◌ {A = ℕ} 0 1 = cc in absurd (omega arith)

map_append : (w : ℕ) (xs ys : List Row) → map (of_field w) (xs ++ ys) ≡ map (of_field w) xs ++ map (of_field w) ys
map_append w [] ys = refl
map_append w (x ∷ xs) ys = ap (λ r. of_field w x ∷ r) (map_append w xs ys)

module _ (look : Naming) (s : List ℕ) (w : ℕ) where
  -- what is accepted passed the entry checks
  entered : (ls : List Literal) (y : Answer) → read look s ls ≡ accepts y → entry s ls ≡ none
  unfolding read
  entered ls y e = go (entry s ls) refl
    where
      go : (c : Option Refusal) → entry s ls ≡ c → entry s ls ≡ none
      go none f = f
      go (some r) f = never r y (rw (f, read) at e)

  -- by demand 3 each of two runs is accepted if both are as one
  both_accepted : {P : Type 0} (n : ℕ) (o p : Outcome Answer) (y : Answer) → join_outcomes n o p ≡ accepts y → ((a b : Answer) → o ≡ accepts a → p ≡ accepts b → P) → P
  unfolding join_outcomes
  both_accepted n (refuses r) p y e f = never r y e
  both_accepted n (accepts a) (refuses r) y e f = never (shifted n a.chars r) y e
  both_accepted n (accepts a) (accepts b) y e f = f a b refl refl

  one_rows : (l : Literal) (x : Answer) → read look s (l ∷ []) ≡ accepts x → read_rows look s w l ≡ map (of_field w) (literal_rows look s l)
  one_rows l x e = go (is_fstring l.kind) refl
    where
      go : (t : Bool) → is_fstring l.kind ≡ t → read_rows look s w l ≡ map (of_field w) (literal_rows look s l)
      go true t = accepted_rows look s w l x t e
      go false t = other_rows look s w l t ∙ sym (ap (map (of_field w)) (others_none look s l t))

  -- the 76 of a list's first literal
  pub first_unknown : List Literal → List ListRow
  first_unknown [] = []
  first_unknown (l ∷ ls) = unknown_row s w l

  -- THE ROWS OF AN ACCEPTED LIST, each literal read alone, are the list's
  pub list_rows : (ls : List Literal) (y : Answer) → LaterStand s ls → read look s ls ≡ accepts y → all_read look s w ls ≡ first_unknown ls ++ map (of_field w) (all_rows look s ls)
  unfolding all_read own_rows all_rows first_unknown
  list_rows [] y p e = refl
  list_rows (l ∷ []) y p e =
      append_assoc (unknown_row s w l) (read_rows look s w l) [] ∙ ap (λ x. unknown_row s w l ++ x) (ap (λ x. x ++ []) (one_rows l y e) ∙ sym (map_append w (literal_rows look s l) []))
  list_rows (l ∷ m ∷ ls) y p e =
      append_assoc (unknown_row s w l) (read_rows look s w l) (all_read look s w (m ∷ ls))
      ∙ ap (λ x. unknown_row s w l ++ x)
      (both_accepted 1 (read look s (l ∷ [])) (read look s (m ∷ ls)) y (sym (read_join look s l [] m ls (entered (l ∷ m ∷ ls) y e)) ∙ e)
      (λ a b f g.
      let h : all_read look s w (m ∷ ls) ≡ map (of_field w) (all_rows look s (m ∷ ls)) = list_rows (m ∷ ls) b p.1 g ∙ ap (λ x. x ++ map (of_field w) (all_rows look s (m ∷ ls))) (known_rows s w m p.0) in
      ap₂ (λ x z. x ++ z) (one_rows l a f) h ∙ sym (map_append w (literal_rows look s l) (all_rows look s (m ∷ ls)))))

  read_append : (ks ls : List Literal) → all_read look s w (ks ++ ls) ≡ all_read look s w ks ++ all_read look s w ls
  unfolding all_read
  read_append [] ls = refl
  read_append (k ∷ ks) ls = ap (λ r. own_rows look s w k ++ r) (read_append ks ls) ∙ sym (append_assoc (own_rows look s w k) (all_read look s w ks) (all_read look s w ls))

-- the rows stand together in the list, and their fields are the answer's
pub record RunListed (look : Naming) (s : List ℕ) (ls : List Literal) (y : Answer) : Type 0 where
  pub front : List ListRow
  pub back : List ListRow
  pub whole : rows_of look s ≡ front ++ (map (of_field 0) (all_rows look s ls) ++ back)
  pub same : map row_field (all_rows look s ls) ≡ record_fields y.records

-- A RUN from a literal of the script on, where no byte is 13
pub run_listed : (look : Naming) → (s : List ℕ) → ((m : ℕ) → byte s m ≡ 13 → ⊥) → (ks : List Literal) (m : Literal) (ms : List Literal) → (cut s).literals ≡ ks ++ (m ∷ ms)
    → (x : Run) → literals_from s m.start ≡ accepts x → (y : Answer) → read look s x.literals ≡ accepts y → RunListed look s x.literals y
unfolding cut_rows
run_listed look s no_return ks m ms e x f y g =
    run_in_cut s no_return ks m ms e x f (λ later h. record {
      front = all_read look s 0 ks ++ first_unknown look s 0 x.literals;
      back = all_read look s 0 later ++ (broken_row 0 (cut s).ending ++ below look s 0 (rows_of look s));
      whole = rows_again look s ∙ laid x.literals later (broken_row 0 (cut s).ending) (below look s 0 (rows_of look s)) (e ∙ ap (λ z. ks ++ z) h) (list_rows look s 0 x.literals y (adjacent_stand s x.literals x.stop (given s m.start x f).is_run.adjacent) g);
      same = sym (list_fields look s x.literals y g);
    })
  where
    laid : (ls later : List Literal) (b z : List ListRow) → (cut s).literals ≡ ks ++ (ls ++ later) → all_read look s 0 ls ≡ first_unknown look s 0 ls ++ map (of_field 0) (all_rows look s ls)
        → (all_read look s 0 (cut s).literals ++ b) ++ z ≡ (all_read look s 0 ks ++ first_unknown look s 0 ls) ++ (map (of_field 0) (all_rows look s ls) ++ (all_read look s 0 later ++ (b ++ z)))
    laid ls later b z c r =
        let A = all_read look s 0 ks in
        let U = first_unknown look s 0 ls in
        let R = map (of_field 0) (all_rows look s ls) in
        let L = all_read look s 0 later in
        let p : all_read look s 0 (cut s).literals ≡ A ++ ((U ++ R) ++ L) = ap (all_read look s 0) c ∙ read_append look s 0 ks (ls ++ later) ∙ ap (λ q. A ++ q) (read_append look s 0 ls later ∙ ap (λ q. q ++ L) r) in
        append_assoc (all_read look s 0 (cut s).literals) b z
        ∙ ap (λ q. q ++ (b ++ z)) p
        ∙ append_assoc A ((U ++ R) ++ L) (b ++ z)
        ∙ ap (λ q. A ++ q) (append_assoc (U ++ R) L (b ++ z) ∙ append_assoc U R (L ++ (b ++ z)))
        ∙ sym (append_assoc A U (R ++ (L ++ (b ++ z))))
