-- A TRACE IS ITS ROWS' TEXTS, one after another, each of them a trace of one row. Assumes nothing.
use mathlib.Core.Path.{◌≡◌, refl, sym, ◌∙◌, ap}
use mathlib.Core.Bool.{true}
use mathlib.Core.List.{List, [], ◌∷◌, ◌++◌, map, append-nil, append_assoc}
use mathlib.Core.Option.{Option, none, some}
use Prim.Native.Nat.{ℕ, zero, suc, ◌≤◌, ◌<◌}
use native.Mathlib.Omega.{arith}
use lib.ListN.{length, length-append}
use Rattle.definition_replay.specs.Spec.{nothing}
use Rattle.definition_replay.specs.Integers.{Integer}
use Rattle.definition_replay.specs.Trace.{Taken, taken, broken, columns_of, integers_of, row_of, rows_n, rows_of}
use Rattle.definition_replay.specs.IsTrace.{Column, value_of, all_legal, row_text, Ending, line, last, IsRow}
use Rattle.definition_replay.specs.Replay.{concat}
use Rattle.definition_replay_laws.proofs.Trace.TraceLaws.{unread}
use Rattle.definition_replay_laws.proofs.Trace.TraceRows.{columns_whole, columns_sound}

-- A ROW OF INTEGERS: its columns are read, and they are these
pub row_made_lem : (s : List ℕ) (cs : List (List ℕ)) (vs : List Integer) (u : List ℕ) → columns_of s ≡ taken cs u → integers_of cs ≡ some vs → row_of s ≡ taken vs u
unfolding row_of
row_made_lem s cs vs u e f = rw (e, f, row_of)

pub record RowRead (s : List ℕ) (vs : List Integer) (u : List ℕ) : Type 0 where
  pub columns : List (List ℕ)
  pub read : columns_of s ≡ taken columns u
  pub are : integers_of columns ≡ some vs

pub row_read : (s : List ℕ) (vs : List Integer) (u : List ℕ) → row_of s ≡ taken vs u → RowRead s vs u
unfolding row_of
row_read s vs u e = go (columns_of s) refl
  where
    by-integers : (cs : List (List ℕ)) (t : List ℕ) → columns_of s ≡ taken cs t → (o : Option (List Integer)) → integers_of cs ≡ o → RowRead s vs u
    by-integers cs t f none g = unread (rw (f, g, row_of) at e)
    by-integers cs t f (some ws) g =
        let z : taken ws t ≡ taken vs u = rw (f, g, row_of) at e in
        let p : ws ≡ vs = cc in
        let q : t ≡ u = cc in
        record { columns = cs; read = f ∙ ap (taken cs) q; are = g ∙ ap some p }

    go : (o : Taken (List (List ℕ))) → columns_of s ≡ o → RowRead s vs u
    go (taken cs t) f = by-integers cs t f (integers_of cs) refl
    go broken f = unread (rw (f, row_of) at e)

-- ITS TEXT: in front of what is left, and alone it gives the same row
pub record RowIn (s : List ℕ) (vs : List Integer) (u : List ℕ) : Type 0 where
  pub used : List ℕ
  pub text : s ≡ used ++ u
  pub alone : row_of used ≡ taken vs []
  pub any : 0 < length s → 0 < length used

pub row_in : (s : List ℕ) (vs : List Integer) (u : List ℕ) → row_of s ≡ taken vs u → RowIn s vs u
row_in s vs u e =
    let k = row_read s vs u e in
    let r = columns_sound s k.columns u k.read in
    go r.ending u r.ends r.first r.others k.columns r.are r.legal k.are r.text
  where
    go : (end u : List ℕ) → Ending end u → (c : Column) (cs : List Column) (values : List (List ℕ)) → values ≡ map value_of (c ∷ cs)
        → all_legal (c ∷ cs) ≡ true → integers_of values ≡ some vs → s ≡ row_text c cs ++ end → RowIn s vs u
    go end u (line rest) c cs values a l g t =
        let own = row_text c cs ++ (13 ∷ 10 ∷ []) in
        let row : IsRow own values [] = record { first = c; others = cs; ending = 13 ∷ 10 ∷ []; text = refl; are = a; legal = l; ends = line [] } in
        record {
          used = own;
          text = t ∙ sym (append_assoc (row_text c cs) (13 ∷ 10 ∷ []) rest);
          alone = row_made_lem own values vs [] (columns_whole own values [] row) g;
          any = λ h. omega (arith, length-append (row_text c cs) (13 ∷ 10 ∷ []));
        }
    go end u last c cs values a l g t =
        let row : IsRow s values [] = record { first = c; others = cs; ending = []; text = t; are = a; legal = l; ends = last } in
        record { used = s; text = sym (append-nil s); alone = row_made_lem s values vs [] (columns_whole s values [] row) g; any = λ h. h }

-- less is left
row_less : (s : List ℕ) (vs : List Integer) (u : List ℕ) → 0 < length s → row_of s ≡ taken vs u → length u < length s
row_less s vs u h e =
    let r = row_in s vs u e in
    let k = r.any h in
    let m = ap length r.text ∙ length-append r.used u in
    omega arith

-- THE ROWS, by the first one
rows_none : (n : ℕ) → rows_n n [] ≡ []
unfolding rows_n nothing
rows_none zero = refl
rows_none (suc n) = refl

module _ (n b : ℕ) (s : List ℕ) where
  rows_broken : row_of (b ∷ s) ≡ broken → rows_n (suc n) (b ∷ s) ≡ none ∷ []
  unfolding rows_n nothing
  rows_broken e = rw (e, rows_n)

  rows_taken : (vs : List Integer) (u : List ℕ) → row_of (b ∷ s) ≡ taken vs u → rows_n (suc n) (b ∷ s) ≡ some vs ∷ rows_n n u
  unfolding rows_n nothing
  rows_taken vs u e = rw (e, rows_n)

-- any bound that is enough
rows_enough : (n m : ℕ) (s : List ℕ) → length s ≤ n → length s ≤ m → rows_n n s ≡ rows_n m s
rows_enough zero m [] h k = rows_none 0 ∙ sym (rows_none m)
rows_enough (suc n) m [] h k = rows_none (suc n) ∙ sym (rows_none m)
rows_enough zero m (b ∷ s) h k = absurd (omega arith)
rows_enough (suc n) zero (b ∷ s) h k = absurd (omega arith)
rows_enough (suc n) (suc m) (b ∷ s) h k = go (row_of (b ∷ s)) refl (rows_enough n m)
  where
    go : (o : Taken (List Integer)) → row_of (b ∷ s) ≡ o → ((t : List ℕ) → length t ≤ n → length t ≤ m → rows_n n t ≡ rows_n m t) → rows_n (suc n) (b ∷ s) ≡ rows_n (suc m) (b ∷ s)
    go (taken vs u) e ih =
        let l = row_less (b ∷ s) vs u (omega arith) e in
        rows_taken n b s vs u e ∙ ap (λ l. some vs ∷ l) (ih u (omega arith) (omega arith)) ∙ sym (rows_taken m b s vs u e)
    go broken e ih = rows_broken n b s e ∙ sym (rows_broken m b s e)

pub first_row : (b : ℕ) (s : List ℕ) (vs : List Integer) (u : List ℕ) → row_of (b ∷ s) ≡ taken vs u → rows_of (b ∷ s) ≡ some vs ∷ rows_of u
unfolding rows_of
first_row b s vs u e =
    let l = row_less (b ∷ s) vs u (omega arith) e in
    rows_taken (length s) b s vs u e ∙ ap (λ l. some vs ∷ l) (rows_enough (length s) (length u) u (omega arith) (omega arith))

pub first_broken : (b : ℕ) (s : List ℕ) → row_of (b ∷ s) ≡ broken → rows_of (b ∷ s) ≡ none ∷ []
unfolding rows_of
first_broken b s e = rows_broken (length s) b s e

no_rows_lem : rows_of [] ≡ []
unfolding rows_of
no_rows_lem = rows_none 0

one_row : (s : List ℕ) (vs : List Integer) → 0 < length s → row_of s ≡ taken vs [] → rows_of s ≡ some vs ∷ []
one_row [] vs h e = absurd (omega arith)
one_row (b ∷ s) vs h e = first_row b s vs [] e ∙ ap (λ l. some vs ∷ l) no_rows_lem

-- the rows of texts, one after another
unfoldable pub rows_in : List (List ℕ) → List (Option (List Integer))
rows_in [] = []
rows_in (t ∷ ts) = rows_of t ++ rows_in ts

-- each is a trace of one row
abbrev pub Single : List (List ℕ) → Type 0
Single [] = Unit {0}
Single (t ∷ ts) = (length (rows_of t) ≡ 1) × Single ts

-- THE TEXTS OF ITS ROWS
pub record Texts (s : List ℕ) : Type 0 where
  pub texts : List (List ℕ)
  pub whole : concat texts ≡ s
  pub rows : rows_of s ≡ rows_in texts
  pub single : Single texts

texts_in : (n : ℕ) (s : List ℕ) → length s ≤ n → Texts s
unfolding concat rows_in rows_of
texts_in zero [] h = record { texts = []; whole = refl; rows = rows_none 0; single = tt }
texts_in (suc n) [] h = record { texts = []; whole = refl; rows = rows_none 0; single = tt }
texts_in zero (b ∷ s) h = absurd (omega arith)
texts_in (suc n) (b ∷ s) h = go (row_of (b ∷ s)) refl (texts_in n)
  where
    go : (o : Taken (List Integer)) → row_of (b ∷ s) ≡ o → ((t : List ℕ) → length t ≤ n → Texts t) → Texts (b ∷ s)
    go (taken vs u) e ih =
        let r = row_in (b ∷ s) vs u e in
        let i = one_row r.used vs (r.any (omega arith)) r.alone in
        let l = row_less (b ∷ s) vs u (omega arith) e in
        let k = ih u (omega arith) in
        record {
          texts = r.used ∷ k.texts;
          whole = ap (λ l. r.used ++ l) k.whole ∙ sym r.text;
          rows = first_row b s vs u e ∙ ap (λ l. some vs ∷ l) k.rows ∙ ap (λ l. l ++ rows_in k.texts) (sym i);
          single = (ap length i, k.single);
        }
    go broken e ih =
        record {
          texts = (b ∷ s) ∷ [];
          whole = append-nil (b ∷ s);
          rows = sym (append-nil (rows_of (b ∷ s)));
          single = (ap length (first_broken b s e), tt);
        }

pub texts_of_lem : (s : List ℕ) → Texts s
texts_of_lem s = texts_in (length s) s (omega arith)
