-- A ROW READ NUMBER BY NUMBER, without its columns' texts, as code does: the same row. Assumes nothing.
use Rattle.std.specs.Prelude.{if◌then◌else◌}
use mathlib.Core.Path.{◌≡◌, refl, sym, ◌∙◌, ap, ap₂}
use mathlib.Core.Bool.{Bool, true, false, ◌&&◌, not}
use mathlib.Core.List.{List, [], ◌∷◌, ◌++◌, append_assoc}
use mathlib.Core.Option.{Option, none, some}
use Prim.Native.Nat.{ℕ, zero, suc}
use native.Mathlib.Omega.{arith}
use lib.Dec.{eqb}
use lib.ListN.{length}
use borrow.Author.Tests.{eqb-true}
use Rattle.definition.specs.Chars.{◌is◌, byte}
use Rattle.definition_replay.specs.Spec.{is_digit, first, past, front, behind, all, nothing}
use Rattle.definition_replay.specs.IsSpec.{one, optional}
use Rattle.definition_replay.specs.Integers.{Integer, decimal}
use Rattle.definition_replay.specs.Trace.{is_text, in_quotes, Taken, taken, broken, more_of, column_of, Behind, comma, ends, other, behind_column, columns_n, columns_of, integer_of, with_integer, integers_of, row_of}
use Rattle.definition_replay.specs.IsTrace.{Column, bare, quoted, value_of, doubled, column_text, column_legal, IsNumber}
use Rattle.definition.proofs.Moves.CharLaws.{cases, no, inside_true, inside_yes}
use Rattle.definition_replay_laws.proofs.Spec.SpecLaws.{both_true, Off, one_past, first_legal, front_behind, front_all, front_found}
use Rattle.definition_replay_laws.proofs.Spec.SpecWhole.{found, off_set, off_one, off_digits, one_none, one_some, optional_cases}
use Rattle.definition_replay_laws.proofs.Trace.TraceLaws.{more_read, unread, quotable, Stops, ColumnText, column_whole, column_sound, comma_stops, ending_stops, Says, behind_says, doubled_other, text_unquoted}
use Rattle.definition_replay_laws.proofs.Trace.TraceRows.{columns_comma, columns_ends, columns_other, columns_broken}
use Rattle.definition_replay_laws.proofs.Trace.TraceTexts.{row_made_lem, row_read}
use Rattle.definition_replay_laws.proofs.Trace.TraceNumbers.{integer_sound, integer_whole}

-- an integer from its minus, or 0, and its digits
abbrev pub integer : (minus : ℕ) (digits : List ℕ) → Integer
integer minus digits = record { negative = not (eqb minus 0) && not (eqb (decimal digits) 0); size = decimal digits }

-- A COLUMN that is an integer: an opening quote or none, a minus or none, digits, and the closing quote if there was an opening one
unfoldable pub number_of : List ℕ → Taken Integer
number_of s =
    let t = past "\"" s in
    let ds = front is_digit (past "-" t) in
    let r = behind is_digit (past "-" t) in
    if nothing ds then broken else
    if eqb (first "\"" s) 0 then taken (integer (first "-" t) ds) r else
    if byte r 0 is "\"" then taken (integer (first "-" t) ds) (past "\"" r) else broken

-- A ROW; n bounds its columns
unfoldable pub numbers_n : ℕ → List ℕ → Taken (List Integer)
numbers_n zero s = broken
numbers_n (suc n) s =
    elim (number_of s) [
      | broken ↦ broken
      | taken v t ↦ elim (behind_column t) [ comma u ↦ more_of v (numbers_n n u) | ends u ↦ taken (v ∷ []) u | other ↦ broken ]
    ]

-- digits and a minus are text, and no quotes
digit_text : (b : ℕ) → is_digit b ≡ true → is_text b ≡ true
unfolding is_text
digit_text b d = let h = inside_true 48 57 b d in rw (inside_yes 32 126 b (omega arith) (omega arith), off_set "\"," refl b d)

digits_text : (ds : List ℕ) → all is_digit ds ≡ true → all is_text ds ≡ true
unfolding all
digits_text [] h = refl
digits_text (d ∷ ds) h = let k = both_true (is_digit d) (all is_digit ds) h in rw (digit_text d k.0, digits_text ds k.1)

marked_text : (m : ℕ) (ds : List ℕ) → optional "-" m ≡ true → all is_digit ds ≡ true → all is_text (one m ++ ds) ≡ true
unfolding all is_text
marked_text m ds o h = optional_cases "-" m o (λ e. rw (e, one_none) (digits_text ds h)) (λ e. rw (one_some "-" m refl e, eqb-true m 45 e) (digits_text ds h))

-- text has no quotes to double, and may stand in quotes
text_doubled : (v : List ℕ) → all is_text v ≡ true → (doubled v ≡ v) × (all quotable v ≡ true)
unfolding all doubled in_quotes
text_doubled [] h = (refl, refl)
text_doubled (b ∷ v) h =
    let k = both_true (is_text b) (all is_text v) h in
    let d = text_doubled v k.1 in
    (doubled_other b v (text_unquoted b k.0) ∙ ap (λ l. b ∷ l) d.0, rw (k.0, d.1))

-- WHAT IS READ is a column of the grammar, and an integer
pub record NumberText (s : List ℕ) (v : Integer) (t : List ℕ) : Type 0 where
  pub column : Column
  pub text : s ≡ column_text column ++ t
  pub legal : column_legal column ≡ true
  pub number : integer_of (value_of column) ≡ some v

number_of_lem : (m : ℕ) (ds : List ℕ) → optional "-" m ≡ true → nothing ds ≡ false → all is_digit ds ≡ true → integer_of (one m ++ ds) ≡ some (integer m ds)
number_of_lem m ds o n h =
    integer_whole (one m ++ ds) (integer m ds) (record { minus = m; digits = ds; text = refl; mark = o; any = n; legal = h; size = refl; negative = refl })

first_quote : (r : List ℕ) → (byte r 0 is "\"") ≡ true → r ≡ 34 ∷ past "\"" r
unfolding past
first_quote [] e = no e
first_quote (b ∷ r) e = rw e (ap (λ x. x ∷ r) (eqb-true b 34 e))

quote_first : (s : List ℕ) → eqb (first "\"" s) 0 ≡ false → (byte s 0 is "\"") ≡ true
unfolding first
quote_first [] q = no (sym q)
quote_first (b ∷ s) q = cases (b is "\"") (λ e. e) (λ e. no (sym (rw e at q)))

number_sound : (s : List ℕ) (v : Integer) (t : List ℕ) → number_of s ≡ taken v t → NumberText s v t
unfolding number_of column_text column_legal
number_sound s v t e =
    cases (nothing ds) (λ n. unread (rw n at e))
    (λ n.
    cases (eqb (first "\"" s) 0)
    (λ q.
    let z : taken (integer m ds) r ≡ taken v t = rw (n, q) at e in
    let p : integer m ds ≡ v = cc in
    let k : r ≡ t = cc in
    record {
      column = bare w;
      text = sym (one_past "\"" refl s) ∙ ap (λ c. one c ++ past "\"" s) (eqb-true (first "\"" s) 0 q) ∙ ap (λ l. l ++ past "\"" s) one_none ∙ parts ∙ ap (λ l. w ++ l) k;
      legal = text;
      number = number_of_lem m ds mark n digits ∙ ap some p;
    })
    (λ q.
    cases (byte r 0 is "\"")
    (λ c.
    let z : taken (integer m ds) (past "\"" r) ≡ taken v t = rw (n, q, c) at e in
    let p : integer m ds ≡ v = cc in
    let k : past "\"" r ≡ t = cc in
    record {
      column = quoted w;
      text = opened q ∙ ap (λ l. 34 ∷ l) (parts ∙ ap (λ l. w ++ l) (first_quote r c ∙ ap (λ l. 34 ∷ l) k) ∙ sym (append_assoc w (34 ∷ []) t) ∙ ap (λ l. l ++ (34 ∷ []) ++ t) (sym (text_doubled w text).0));
      legal = (text_doubled w text).1;
      number = number_of_lem m ds mark n digits ∙ ap some p;
    })
    (λ c. unread (rw (n, q, c) at e))))
  where
    m : ℕ
    m = first "-" (past "\"" s)

    ds : List ℕ
    ds = front is_digit (past "-" (past "\"" s))

    r : List ℕ
    r = behind is_digit (past "-" (past "\"" s))

    w : List ℕ
    w = one m ++ ds

    mark : optional "-" m ≡ true
    mark = first_legal "-" refl (past "\"" s)

    digits : all is_digit ds ≡ true
    digits = front_all is_digit (past "-" (past "\"" s))

    text : all is_text w ≡ true
    text = marked_text m ds mark digits

    parts : past "\"" s ≡ w ++ r
    parts = sym (one_past "-" refl (past "\"" s)) ∙ ap (λ l. one m ++ l) (sym (front_behind is_digit (past "-" (past "\"" s)))) ∙ sym (append_assoc (one m) ds r)

    opened : eqb (first "\"" s) 0 ≡ false → s ≡ 34 ∷ past "\"" s
    opened q = first_quote s (quote_first s q)

-- EVERY COLUMN OF THE GRAMMAR that is an integer is read
module _ (m : ℕ) (ds r : List ℕ) (o : optional "-" m ≡ true) (h : all is_digit ds ≡ true) (off-digit : Off is_digit r) (off-minus : Off (λ b. b is "-") r) where
  parts_found : (first "-" (one m ++ (ds ++ r)) ≡ m) × (front is_digit (past "-" (one m ++ (ds ++ r))) ≡ ds) × (behind is_digit (past "-" (one m ++ (ds ++ r))) ≡ r)
  parts_found =
      let f = found "-" m (ds ++ r) refl refl o (λ e. off_digits (λ b. b is "-") ds r (off_set "-" refl) h off-minus) in
      let g = front_found is_digit ds r h off-digit in
      (f.0, ap (front is_digit) f.1 ∙ g.0, ap (behind is_digit) f.1 ∙ g.1)

off_text : (P : ℕ → Bool) (t : List ℕ) → ((b : ℕ) → P b ≡ true → is_text b ≡ true) → Off is_text t → Off P t
off_text P t f h = cases (P (byte t 0)) (λ e. no (sym h ∙ f (byte t 0) e)) (λ e. e)

minus_text : (b : ℕ) → (b is "-") ≡ true → is_text b ≡ true
unfolding is_text
minus_text b e = ap is_text (eqb-true b 45 e)

whole_integer : (w : List ℕ) (v : Integer) (r : IsNumber w v) → integer r.minus r.digits ≡ v
whole_integer w v r = λ i. record { negative = sym r.negative i; size = sym r.size i }

number_bare : (w : List ℕ) (v : Integer) (t : List ℕ) → IsNumber w v → Stops t → number_of (w ++ t) ≡ taken v t
unfolding number_of
number_bare w v t r h =
    let m = r.minus in
    let ds = r.digits in
    let x = one m ++ (ds ++ t) in
    let s : w ++ t ≡ x = ap (λ l. l ++ t) r.text ∙ append_assoc (one m) ds t in
    let p = parts_found m ds t r.mark r.legal (off_text is_digit t digit_text h.0) (off_text (λ b. b is "-") t minus_text h.0) in
    let q = rw one_none at (found "\"" 0 x refl refl refl (λ e. off_one (λ b. b is "\"") "-" m (ds ++ t) refl refl r.mark (off_digits (λ b. b is "\"") ds t (off_set "\"" refl) r.legal h.1))) in
    rw (s, q.0, q.1, p.0, p.1, p.2, r.any) (ap (λ y. taken y t) (whole_integer w v r))

number_quoted : (w : List ℕ) (v : Integer) (t : List ℕ) → IsNumber w v → number_of (34 ∷ (w ++ (34 ∷ []) ++ t)) ≡ taken v t
unfolding number_of first past
number_quoted w v t r =
    let m = r.minus in
    let ds = r.digits in
    let s : w ++ (34 ∷ []) ++ t ≡ one m ++ (ds ++ (34 ∷ t)) = append_assoc w (34 ∷ []) t ∙ ap (λ l. l ++ (34 ∷ t)) r.text ∙ append_assoc (one m) ds (34 ∷ t) in
    let p = parts_found m ds (34 ∷ t) r.mark r.legal refl refl in
    rw (s, p.0, p.1, p.2, r.any) (ap (λ y. taken y t) (whole_integer w v r))

number_whole : (c : Column) (v : Integer) (t : List ℕ) → integer_of (value_of c) ≡ some v → Stops t → number_of (column_text c ++ t) ≡ taken v t
unfolding column_text
number_whole (bare w) v t e h = number_bare w v t (integer_sound w v e) h
number_whole (quoted w) v t e h =
    let r = integer_sound w v e in
    let d : doubled w ≡ w = (text_doubled w (rw (← r.text) at (marked_text r.minus r.digits r.mark r.legal))).0 in
    rw d (number_quoted w v t r)

-- A ROW, by its next column
module _ (n : ℕ) (s : List ℕ) (v : Integer) (t : List ℕ) (e : number_of s ≡ taken v t) where
  numbers_comma : (u : List ℕ) → behind_column t ≡ comma u → numbers_n (suc n) s ≡ more_of v (numbers_n n u)
  unfolding numbers_n
  numbers_comma u f = rw (e, f, numbers_n)

  numbers_ends : (u : List ℕ) → behind_column t ≡ ends u → numbers_n (suc n) s ≡ taken (v ∷ []) u
  unfolding numbers_n
  numbers_ends u f = rw (e, f, numbers_n)

  numbers_other : behind_column t ≡ other → numbers_n (suc n) s ≡ broken
  unfolding numbers_n
  numbers_other f = rw (e, f, numbers_n)

numbers_broken : (n : ℕ) (s : List ℕ) → number_of s ≡ broken → numbers_n (suc n) s ≡ broken
unfolding numbers_n
numbers_broken n s e = rw (e, numbers_n)

-- what is read so is a row: columns, and their integers
record Both (n : ℕ) (s : List ℕ) (vs : List Integer) (u : List ℕ) : Type 0 where
  columns : List (List ℕ)
  read : columns_n n s ≡ taken columns u
  are : integers_of columns ≡ some vs

numbers_sound : (n : ℕ) (s : List ℕ) (vs : List Integer) (u : List ℕ) → numbers_n n s ≡ taken vs u → Both n s vs u
unfolding numbers_n integers_of with_integer more_of
numbers_sound zero s vs u e = unread e
numbers_sound (suc n) s vs u e = by_number (number_of s) refl (numbers_sound n)
  where
    Deeper : Type 0
    Deeper = (s : List ℕ) (vs : List Integer) (u : List ℕ) → numbers_n n s ≡ taken vs u → Both n s vs u

    column_read : (v : Integer) (t : List ℕ) (k : NumberText s v t) → Stops t → column_of s ≡ taken (value_of k.column) t
    column_read v t k h = ap column_of k.text ∙ column_whole k.column t k.legal h

    by_behind : (v : Integer) (t : List ℕ) → number_of s ≡ taken v t → NumberText s v t → Deeper → (b : Behind) → behind_column t ≡ b → Says t b → Both (suc n) s vs u
    by_behind v t f k ih (comma w) g y =
        let m = more_read v (numbers_n n w) vs u (sym (numbers_comma n s v t f w g) ∙ e) in
        let r = ih w m.tail u m.read in
        let h : Stops t = rw y (comma_stops w) in
        record {
          columns = value_of k.column ∷ r.columns;
          read = columns_comma n s (value_of k.column) t (column_read v t k h) w g ∙ ap (more_of (value_of k.column)) r.read;
          are = ap₂ with_integer k.number r.are ∙ ap some (sym m.is_tail);
        }
    by_behind v t f k ih (ends w) g y =
        let z : taken (v ∷ []) w ≡ taken vs u = sym (numbers_ends n s v t f w g) ∙ e in
        let p : v ∷ [] ≡ vs = cc in
        let q : w ≡ u = cc in
        record {
          columns = value_of k.column ∷ [];
          read = columns_ends n s (value_of k.column) t (column_read v t k (ending_stops t w y)) w g ∙ ap (taken (value_of k.column ∷ [])) q;
          are = ap (λ o. with_integer o (some [])) k.number ∙ ap some p;
        }
    by_behind v t f k ih other g y = unread (sym (numbers_other n s v t f g) ∙ e)

    by_number : (o : Taken Integer) → number_of s ≡ o → Deeper → Both (suc n) s vs u
    by_number (taken v t) f ih = by_behind v t f (number_sound s v t f) ih (behind_column t) refl (behind_says t)
    by_number broken f ih = unread (sym (numbers_broken n s f) ∙ e)

-- and every row is read so
record First (c : List ℕ) (cs : List (List ℕ)) (vs : List Integer) : Type 0 where
  value : Integer
  values : List Integer
  number : integer_of c ≡ some value
  numbers : integers_of cs ≡ some values
  are : vs ≡ value ∷ values

first_integer : (c : List ℕ) (cs : List (List ℕ)) (vs : List Integer) → integers_of (c ∷ cs) ≡ some vs → First c cs vs
unfolding integers_of with_integer
first_integer c cs vs e = go (integer_of c) refl (integers_of cs) refl
  where
    go : (o : Option Integer) → integer_of c ≡ o → (q : Option (List Integer)) → integers_of cs ≡ q → First c cs vs
    go none f q g = let z : ◌≡◌ {A = Option (List Integer)} none (some vs) = rw f at e in let y : ◌≡◌ {A = ℕ} 0 1 = cc in absurd (omega arith)
    go (some v) f none g = let z : ◌≡◌ {A = Option (List Integer)} none (some vs) = rw (f, g) at e in let y : ◌≡◌ {A = ℕ} 0 1 = cc in absurd (omega arith)
    go (some v) f (some ws) g = let z : some (v ∷ ws) ≡ some vs = rw (f, g) at e in record { value = v; values = ws; number = f; numbers = g; are = cc }

numbers_whole : (n : ℕ) (s : List ℕ) (cs : List (List ℕ)) (vs : List Integer) (u : List ℕ) → columns_n n s ≡ taken cs u → integers_of cs ≡ some vs → numbers_n n s ≡ taken vs u
unfolding columns_n more_of integers_of
numbers_whole zero s cs vs u e a = unread e
numbers_whole (suc n) s cs vs u e a = by_column (column_of s) refl (numbers_whole n)
  where
    Deeper : Type 0
    Deeper = (s : List ℕ) (cs : List (List ℕ)) (vs : List Integer) (u : List ℕ) → columns_n n s ≡ taken cs u → integers_of cs ≡ some vs → numbers_n n s ≡ taken vs u

    number_read : (c t : List ℕ) (v : Integer) → ColumnText s c t → integer_of c ≡ some v → Stops t → number_of s ≡ taken v t
    number_read c t v k f h = ap number_of k.text ∙ number_whole k.column v t (ap integer_of (sym k.are) ∙ f) h

    by_behind : (c t : List ℕ) → column_of s ≡ taken c t → ColumnText s c t → Deeper → (b : Behind) → behind_column t ≡ b → Says t b → numbers_n (suc n) s ≡ taken vs u
    by_behind c t f k ih (comma w) g y =
        let m = more_read c (columns_n n w) cs u (sym (columns_comma n s c t f w g) ∙ e) in
        let i = first_integer c m.tail vs (rw m.is_tail at a) in
        let h : Stops t = rw y (comma_stops w) in
        numbers_comma n s i.value t (number_read c t i.value k i.number h) w g
        ∙ ap (more_of i.value) (ih w m.tail i.values u m.read i.numbers)
        ∙ ap (λ l. taken l u) (sym i.are)
    by_behind c t f k ih (ends w) g y =
        let z : taken (c ∷ []) w ≡ taken cs u = sym (columns_ends n s c t f w g) ∙ e in
        let p : cs ≡ c ∷ [] = cc in
        let q : w ≡ u = cc in
        let i = first_integer c [] vs (rw p at a) in
        let j : i.values ≡ [] = none_left i.values i.numbers in
        numbers_ends n s i.value t (number_read c t i.value k i.number (ending_stops t w y)) w g
        ∙ ap₂ (λ l r. taken (i.value ∷ l) r) (sym j) q
        ∙ ap (λ l. taken l u) (sym i.are)
      where
        none_left : (l : List Integer) → ◌≡◌ {A = Option (List Integer)} (some []) (some l) → l ≡ []
        none_left l z = cc
    by_behind c t f k ih other g y = unread (sym (columns_other n s c t f g) ∙ e)

    by_column : (o : Taken (List ℕ)) → column_of s ≡ o → Deeper → numbers_n (suc n) s ≡ taken vs u
    by_column (taken c t) f ih = by_behind c t f (column_sound s c t f) ih (behind_column t) refl (behind_says t)
    by_column broken f ih = unread (sym (columns_broken n s f) ∙ e)

-- THE SAME ROW
columns_is : (s : List ℕ) → columns_n (suc (length s)) s ≡ columns_of s
unfolding columns_of
columns_is s = refl

pub row_by_number : (s : List ℕ) → row_of s ≡ numbers_n (suc (length s)) s
row_by_number s = by_numbers (numbers_n (suc (length s)) s) refl
  where
    by_row : numbers_n (suc (length s)) s ≡ broken → (o : Taken (List Integer)) → row_of s ≡ o → row_of s ≡ broken
    by_row e (taken vs u) f =
        let r = row_read s vs u f in
        unread (sym e ∙ numbers_whole (suc (length s)) s r.columns vs u (columns_is s ∙ r.read) r.are)
    by_row e broken f = f

    by_numbers : (o : Taken (List Integer)) → numbers_n (suc (length s)) s ≡ o → row_of s ≡ numbers_n (suc (length s)) s
    by_numbers (taken vs u) e =
        let r = numbers_sound (suc (length s)) s vs u e in
        row_made_lem s r.columns vs u (sym (columns_is s) ∙ r.read) r.are ∙ sym e
    by_numbers broken e = by_row e (row_of s) refl ∙ sym e
