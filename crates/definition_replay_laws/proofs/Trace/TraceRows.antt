-- THE COLUMNS OF A ROW by RFC 4180's grammar, both ways. Assumes nothing.
use mathlib.Core.Path.{◌≡◌, refl, sym, ◌∙◌, ap, ap₂}
use mathlib.Core.Bool.{true}
use mathlib.Core.List.{List, [], ◌∷◌, ◌++◌, map, append_assoc}
use Prim.Native.Nat.{ℕ, zero, suc, ◌≤◌, ◌<◌}
use native.Mathlib.Omega.{arith}
use lib.ListN.{length, length-append}
use Rattle.definition_replay.specs.Trace.{Taken, taken, broken, more_of, column_of, Behind, comma, ends, other, behind_column, columns_n, columns_of}
use Rattle.definition_replay.specs.IsTrace.{Column, value_of, column_text, column_legal, row_text, all_legal, Ending, IsRow}
use Rattle.definition_replay_laws.proofs.Spec.SpecLaws.{both_true}
use Rattle.definition_replay_laws.proofs.Trace.TraceLaws.{more_read, unread, ColumnText, column_whole, column_sound, behind_comma, comma_stops, ending_stops, behind_ending, Says, behind_says}

-- by the next column
module _ (n : ℕ) (s v t : List ℕ) (e : column_of s ≡ taken v t) where
  pub columns_comma : (u : List ℕ) → behind_column t ≡ comma u → columns_n (suc n) s ≡ more_of v (columns_n n u)
  unfolding columns_n
  columns_comma u f = rw (e, f, columns_n)

  pub columns_ends : (u : List ℕ) → behind_column t ≡ ends u → columns_n (suc n) s ≡ taken (v ∷ []) u
  unfolding columns_n
  columns_ends u f = rw (e, f, columns_n)

  pub columns_other : behind_column t ≡ other → columns_n (suc n) s ≡ broken
  unfolding columns_n
  columns_other f = rw (e, f, columns_n)

pub columns_broken : (n : ℕ) (s : List ℕ) → column_of s ≡ broken → columns_n (suc n) s ≡ broken
unfolding columns_n
columns_broken n s e = rw (e, columns_n)

-- EVERY ROW OF THE GRAMMAR is read
rows_whole : (n : ℕ) (c : Column) (cs : List Column) (e u : List ℕ) → length cs < n → all_legal (c ∷ cs) ≡ true → Ending e u
    → columns_n n (row_text c cs ++ e) ≡ taken (map value_of (c ∷ cs)) u
unfolding row_text all_legal more_of
rows_whole zero c cs e u h l k = absurd (omega arith)
rows_whole (suc n) c [] e u h l k =
    columns_ends n (column_text c ++ e) (value_of c) e (column_whole c e (both_true (column_legal c) true l).0 (ending_stops e u k)) u (behind_ending e u k)
rows_whole (suc n) c (d ∷ cs) e u h l k =
    let b = both_true (column_legal c) (all_legal (d ∷ cs)) l in
    let rest = row_text d cs ++ e in
    ap (columns_n (suc n)) (append_assoc (column_text c) (44 ∷ row_text d cs) e)
    ∙ columns_comma n (column_text c ++ (44 ∷ rest)) (value_of c) (44 ∷ rest) (column_whole c (44 ∷ rest) b.0 (comma_stops rest)) rest (behind_comma rest)
    ∙ ap (more_of (value_of c)) (rows_whole n d cs e u (omega arith) b.1 k)

-- a row has no more columns than bytes, and one
row_columns : (c : Column) (cs : List Column) → length cs ≤ length (row_text c cs)
unfolding row_text
row_columns c [] = omega arith
row_columns c (d ∷ cs) = omega (arith, row_columns d cs, length-append (column_text c) (44 ∷ row_text d cs))

pub columns_whole : (s : List ℕ) (vs : List (List ℕ)) (u : List ℕ) → IsRow s vs u → columns_of s ≡ taken vs u
unfolding columns_of
columns_whole s vs u r =
    let q = ap length r.text in
    let m = length-append (row_text r.first r.others) r.ending in
    let k = row_columns r.first r.others in
    ap (columns_n (suc (length s))) r.text
    ∙ rows_whole (suc (length s)) r.first r.others r.ending u (omega arith) r.legal r.ends
    ∙ ap (λ l. taken l u) (sym r.are)

-- WHAT IS READ is a row of the grammar
rows_sound : (n : ℕ) (s : List ℕ) (vs : List (List ℕ)) (u : List ℕ) → columns_n n s ≡ taken vs u → IsRow s vs u
unfolding columns_n row_text all_legal
rows_sound zero s vs u e = unread e
rows_sound (suc n) s vs u e = by_column (column_of s) refl (rows_sound n)
  where
    Deeper : Type 0
    Deeper = (s : List ℕ) (vs : List (List ℕ)) (u : List ℕ) → columns_n n s ≡ taken vs u → IsRow s vs u

    by_behind : (v t : List ℕ) → column_of s ≡ taken v t → ColumnText s v t → Deeper → (b : Behind) → behind_column t ≡ b → Says t b → IsRow s vs u
    by_behind v t f k ih (comma w) g y =
        let m = more_read v (columns_n n w) vs u (sym (columns_comma n s v t f w g) ∙ e) in
        let r = ih w m.tail u m.read in
        record {
          first = k.column;
          others = r.first ∷ r.others;
          ending = r.ending;
          text = k.text ∙ ap (λ l. column_text k.column ++ l) (y ∙ ap (λ l. 44 ∷ l) r.text) ∙ sym (append_assoc (column_text k.column) (44 ∷ row_text r.first r.others) r.ending);
          are = m.is_tail ∙ ap₂ (λ x l. x ∷ l) k.are r.are;
          legal = rw k.legal r.legal;
          ends = r.ends;
        }
    by_behind v t f k ih (ends w) g y =
        let z : taken (v ∷ []) w ≡ taken vs u = sym (columns_ends n s v t f w g) ∙ e in
        let p : vs ≡ v ∷ [] = cc in
        let q : w ≡ u = cc in
        record { first = k.column; others = []; ending = t; text = k.text; are = p ∙ ap (λ x. x ∷ []) k.are; legal = rw k.legal; ends = rw q at y }
    by_behind v t f k ih other g y = unread (sym (columns_other n s v t f g) ∙ e)

    by_column : (o : Taken (List ℕ)) → column_of s ≡ o → Deeper → IsRow s vs u
    by_column (taken v t) f ih = by_behind v t f (column_sound s v t f) ih (behind_column t) refl (behind_says t)
    by_column broken f ih = unread (sym (columns_broken n s f) ∙ e)

pub columns_sound : (s : List ℕ) (vs : List (List ℕ)) (u : List ℕ) → columns_of s ≡ taken vs u → IsRow s vs u
unfolding columns_of
columns_sound s vs u e = rows_sound (suc (length s)) s vs u e
