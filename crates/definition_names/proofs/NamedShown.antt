-- WHAT IS SHOWN OF A READING WITH THE NAMES OF A FILE: it is the check, and then the reading that searches by the lent index; two runs together give the
-- join of both. Assumes nothing.
use mathlib.Core.Path.{◌≡◌, refl, sym, ap, ap₂, ◌∙◌}
use mathlib.Core.Bool.{Bool, true, false}
use mathlib.Core.List.{List, [], ◌∷◌, ◌++◌}
use mathlib.Core.Option.{Option, none, some}
use Prim.Native.Nat.{ℕ, ◌≤◌, ◌<◌}
use native.Mathlib.Omega.{arith}
use lib.Dec.{T, ltb, lit≤}
use lib.ListN.{length}
use borrow.Author.Tests.{lt-ltb}
use Rattle.definition.specs.Numbers.{line_malformed, name_twice, wrong_index, ◌among◌}
use Rattle.definition.specs.Chars.{same}
use Rattle.definition.specs.Entry.{Literal, sixes, Refusal, refusal, first_of, entry}
use Rattle.definition.specs.Reading.{Outcome, accepts, refuses, read, roomed, called, read_into, read_numbers, numbers_by}
use Rattle.definition.specs.Join.{join_outcomes, Enough}
use Rattle.definition.specs.Words.{word}
use Rattle.definition_names.specs.Names.{Entry, named, lookup_file, twice, index_of, refuse, indexed, too_long, against, check, searched}
use Rattle.definition_scripts.specs.Listing.{too_long as long_script, wrong_names, fields_of, fields_call, fields_into, fields_numbers}
use Rattle.definition_names.specs.NamedReading.{of_names, read_named, named_into, named_numbers, fields_named_of, fields_named_into}
use Rattle.definition.proofs.Moves.CharLaws.{cases}
use Rattle.definition_laws.proofs.Join.EntrySplit.{entry_left}
use Rattle.definition_laws.proofs.Join.JoinLaw.{read_join, called_join, sixes_append}
use Rattle.definition_scripts_laws.proofs.Listing.CompleteLaw.{CompleteCall, fields_complete}
use Rattle.definition_scripts_laws.proofs.Listing.ListingOne.{Told, one_list, fields_told}
use Rattle.definition_names.proofs.NamesShown.{searched_checked}

-- WHAT THE CHECK REFUSES is 60, 61 or 63, and nothing else
abbrev pub of_check : List ℕ
of_check = 60 ∷ 61 ∷ 63 ∷ []

pub record Plain (r : Refusal) : Type 0 where
  pub alone : r ≡ refusal r.number 0 0 0 0
  pub late : 60 ≤ r.number
  pub which : T (r.number among of_check)

pub check_plain : (file l : List ℕ) (r : Refusal) → check file l ≡ refuses r → Plain r
unfolding check indexed refusal
check_plain file l r h =
    cases (too_long file) (λ t. one wrong_index (lit≤ tt) tt (rw t at h))
    (λ t. by (named file) (rw t at h))
  where
    one : (n : ℕ) → 60 ≤ n → T (n among of_check) → refuse n ≡ refuses r → Plain r
    one n m w e = let z : refusal n 0 0 0 0 ≡ r = cc in rw (← z) (record { alone = refl; late = m; which = w })

    by : (o : Option (List Entry)) → against l (indexed o) ≡ refuses r → Plain r
    by none k = one line_malformed (lit≤ tt) tt k
    by (some es) k =
        cases (twice es) (λ t. one name_twice (lit≤ tt) tt (rw t at k))
        (λ t.
        let g = rw t at k in
        cases (same l (index_of es)) (λ u. let f : ◌≡◌ {A = Outcome (List ℕ)} (accepts (index_of es)) (refuses r) = rw u at g in let z : ◌≡◌ {A = ℕ} 0 1 = cc in absurd (omega arith))
        (λ u. one wrong_index (lit≤ tt) tt (rw u at g)))

-- WHERE THE CHECK PASSES, the search is the file's lookup
pub names_same : (file l m : List ℕ) → check file l ≡ accepts m → searched file l ≡ lookup_file file
names_same file l m h = λ i name. searched_checked file l m h name i

module _ (file index script : List ℕ) (ls : List Literal) where
  -- an entry check refuses first
  pub named_entered : (r : Refusal) → entry script ls ≡ some r → read_named file index script ls ≡ refuses r
  unfolding read_named first_of
  named_entered r e = rw (e, read_named)

  -- then the check of the file and its index
  pub named_wrong : (r : Refusal) → entry script ls ≡ none → check file index ≡ refuses r → read_named file index script ls ≡ refuses r
  unfolding read_named first_of of_names
  named_wrong r e h = rw (e, h, read_named, of_names)

  -- and where both pass, it is the reading that searches
  pub named_read : (m : List ℕ) → check file index ≡ accepts m → read_named file index script ls ≡ read (searched file index) script ls
  unfolding read_named first_of of_names read
  named_read m h = go (entry script ls) refl
    where
      go : (o : Option Refusal) → entry script ls ≡ o → read_named file index script ls ≡ read (searched file index) script ls
      go (some r) e = rw (e, read_named, read)
      go none e = rw (e, h, read_named, of_names) (ap (λ f. read f script ls) (sym (names_same file index m h)))

-- so it is of flat numbers: the same call
pub named_numbers_lem : (file index script ns words text m : List ℕ) → check file index ≡ accepts m → named_numbers file index script ns words text ≡ read_numbers (searched file index) script ns words text
unfolding named_numbers read_numbers numbers_by named_into read_into
named_numbers_lem file index script ns words text m h = go (sixes ns) refl
  where
    go : (o : Option (List Literal)) → sixes ns ≡ o → named_numbers file index script ns words text ≡ read_numbers (searched file index) script ns words text
    go none e = rw (e, named_numbers, numbers_by, named_into, read_numbers, numbers_by, named_into)
    go (some ls) e = rw (e, named_numbers, numbers_by, named_into, read_numbers, numbers_by, named_into) (ap (λ o. called (roomed (length words) (length text) o) words text) (named_read file index script ls m h))

-- and of every field of a script
pub named_fields : (file index script buffer m : List ℕ) → check file index ≡ accepts m → fields_named_into file index script buffer ≡ fields_into (searched file index) script buffer
unfolding fields_named_into fields_named_of fields_into fields_of of_names
named_fields file index script buffer m h = cases (ltb 1048576 (length script)) (λ t. rw (t, fields_named_of, fields_of)) (λ t. rw (t, h, fields_named_of, of_names) (ap (λ f. fields_into f script buffer) (sym (names_same file index m h))))

-- 49 before the check, whatever file and index are lent
pub named_long : (file index script : List ℕ) (room : ℕ) → 1048576 < length script → fields_numbers (fields_named_of file index script room) ≡ 49 ∷ []
unfolding fields_named_of fields_numbers
named_long file index script room h = rw (lt-ltb 1048576 (length script) h, fields_named_of)

-- DEMAND 3 with a file, with room for anything: two runs, each not empty, that together pass the entry checks
pub named_join : (file index script : List ℕ) (x : Literal) (xs : List Literal) (y : Literal) (ys : List Literal) → entry script ((x ∷ xs) ++ (y ∷ ys)) ≡ none
    → read_named file index script ((x ∷ xs) ++ (y ∷ ys)) ≡ join_outcomes (length (x ∷ xs)) (read_named file index script (x ∷ xs)) (read_named file index script (y ∷ ys))
unfolding join_outcomes
named_join file index script x xs y ys passed = go (check file index) refl
  where
    go : (o : Outcome (List ℕ)) → check file index ≡ o
        → read_named file index script ((x ∷ xs) ++ (y ∷ ys)) ≡ join_outcomes (length (x ∷ xs)) (read_named file index script (x ∷ xs)) (read_named file index script (y ∷ ys))
    go (refuses r) e =
        named_wrong file index script ((x ∷ xs) ++ (y ∷ ys)) r passed e
        ∙ sym (ap (λ o. join_outcomes (length (x ∷ xs)) o (read_named file index script (y ∷ ys))) (named_wrong file index script (x ∷ xs) r (entry_left script x xs y ys passed) e))
    go (accepts m) e =
        named_read file index script ((x ∷ xs) ++ (y ∷ ys)) m e
        ∙ read_join (searched file index) script x xs y ys passed
        ∙ ap₂ (join_outcomes (length (x ∷ xs))) (sym (named_read file index script (x ∷ xs) m e)) (sym (named_read file index script (y ∷ ys) m e))

named_of : (file index script ns w t : List ℕ) (ls : List Literal) → sixes ns ≡ some ls → named_numbers file index script ns w t ≡ called (roomed (length w) (length t) (read_named file index script ls)) w t
unfolding named_numbers numbers_by named_into
named_of file index script ns w t ls e = rw (e, named_numbers, numbers_by, named_into)

-- over flat numbers
pub named_numbers_join : (file index script ns ms : List ℕ) (x : Literal) (xs : List Literal) (y : Literal) (ys : List Literal) (w t w₁ t₁ w₂ t₂ : List ℕ)
    → sixes ns ≡ some (x ∷ xs) → sixes ms ≡ some (y ∷ ys)
    → entry script ((x ∷ xs) ++ (y ∷ ys)) ≡ none
    → Enough (length w) (length t) (read_named file index script ((x ∷ xs) ++ (y ∷ ys)))
    → Enough (length w₁) (length t₁) (read_named file index script (x ∷ xs))
    → Enough (length w₂) (length t₂) (read_named file index script (y ∷ ys))
    → named_numbers file index script (ns ++ ms) w t
    ≡ called (join_outcomes (length (x ∷ xs)) (named_numbers file index script ns w₁ t₁).outcome (named_numbers file index script ms w₂ t₂).outcome) w t
unfolding called
named_numbers_join file index script ns ms x xs y ys w t w₁ t₁ w₂ t₂ p q passed h h₁ h₂ =
    named_of file index script (ns ++ ms) w t ((x ∷ xs) ++ (y ∷ ys)) (sixes_append ns ms (x ∷ xs) (y ∷ ys) p q)
    ∙ called_join (length (x ∷ xs)) (read_named file index script ((x ∷ xs) ++ (y ∷ ys))) (read_named file index script (x ∷ xs)) (read_named file index script (y ∷ ys)) w t w₁ t₁ w₂ t₂
    (named_join file index script x xs y ys passed) h h₁ h₂
    ∙ ap₂ (λ a b. called (join_outcomes (length (x ∷ xs)) a.outcome b.outcome) w t)
    (sym (named_of file index script ns w₁ t₁ (x ∷ xs) p))
    (sym (named_of file index script ms w₂ t₂ (y ∷ ys) q))

-- TWO CALLS for every field, with a file, that return the same numbers and leave the same rows have one list
pub of_plain : (file index : List ℕ) (r : Refusal) → of_names file index ≡ some r → Plain r
unfolding of_names
of_plain file index r h = go (check file index) refl
  where
    go : (o : Outcome (List ℕ)) → check file index ≡ o → Plain r
    go (accepts l) e = let y : ◌≡◌ {A = Option Refusal} none (some r) = rw (e, of_names) at h in let z : ◌≡◌ {A = ℕ} 0 1 = cc in absurd (omega arith)
    go (refuses q) e = let y : some q ≡ some r = rw (e, of_names) at h in let z : q ≡ r = cc in check_plain file index r (e ∙ ap refuses z)

pub named_told : (file index s : List ℕ) (room : ℕ) → Told (fields_named_of file index s room)
unfolding fields_named_of
named_told file index s room = go (ltb 1048576 (length s)) (of_names file index) refl
  where
    go : (t : Bool) (o : Option Refusal) → of_names file index ≡ o
        → Told (elim t [ true ↦ long_script | false ↦ elim o [ some r ↦ wrong_names r.number | none ↦ fields_of (lookup_file file) s room ] ])
    go true o e = tt
    go false none e = fields_told (lookup_file file) s room
    go false (some r) e = (of_plain file index r e).late

pub named_fields_one : (file index script buffer file' index' script' buffer' : List ℕ)
    → ((k : ℕ) → word (fields_numbers (fields_named_into file index script buffer).listed) k ≡ word (fields_numbers (fields_named_into file' index' script' buffer').listed) k)
    → (fields_named_into file index script buffer).rows ≡ (fields_named_into file' index' script' buffer').rows
    → (fields_named_into file index script buffer).listed ≡ (fields_named_into file' index' script' buffer').listed
unfolding fields_named_into fields_call
named_fields_one file index script buffer file' index' script' buffer' n e =
    one_list (fields_named_of file index script (length buffer)) (fields_named_of file' index' script' (length buffer')) (named_told file index script (length buffer)) (named_told file' index' script' (length buffer')) buffer buffer' n e

-- THE AUDITOR'S THEOREM with a file: a list was given, and the count of refusals is 0
named_into_lem : (file index s buffer : List ℕ) → of_names file index ≡ none → fields_named_into file index s buffer ≡ fields_into (lookup_file file) s buffer
unfolding fields_named_into fields_named_of fields_into fields_of
named_into_lem file index s buffer h = cases (ltb 1048576 (length s)) (λ t. rw (t, fields_named_of, fields_of)) (λ t. rw (t, h, fields_named_of))

not_given : {P : Type 0} (file index s buffer : List ℕ) (r : Refusal) → of_names file index ≡ some r → word (fields_numbers (fields_named_into file index s buffer).listed) 0 ≡ 0 → P
unfolding fields_named_into fields_named_of fields_call fields_numbers
not_given file index s buffer r h e =
    cases (ltb 1048576 (length s)) (λ t. let z = rw (t, fields_named_of) at e in absurd (omega arith))
    (λ t. let z = rw (t, h, fields_named_of) at e in let l = (of_plain file index r h).late in absurd (omega arith))

pub named_complete : (file index s buffer : List ℕ) → word (fields_numbers (fields_named_into file index s buffer).listed) 0 ≡ 0 → word (fields_numbers (fields_named_into file index s buffer).listed) 2 ≡ 0
    → CompleteCall (lookup_file file) s buffer (fields_numbers (fields_named_into file index s buffer).listed) (fields_named_into file index s buffer).rows
named_complete file index s buffer e f = go (of_names file index) refl
  where
    go : (o : Option Refusal) → of_names file index ≡ o
        → CompleteCall (lookup_file file) s buffer (fields_numbers (fields_named_into file index s buffer).listed) (fields_named_into file index s buffer).rows
    go none h = let q = named_into_lem file index s buffer h in rw q (fields_complete (lookup_file file) s buffer (rw q at e) (rw q at f))
    go (some r) h = not_given file index s buffer r h e
