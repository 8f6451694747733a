-- The lines of all rows, one row after another. Assumes nothing.
use mathlib.Core.Path.{◌≡◌, refl, sym, ◌∙◌, ap, ap₂}
use mathlib.Core.Bool.{Bool, true, false}
use mathlib.Core.List.{List, [], ◌∷◌, ◌++◌, append-nil, append_assoc}
use mathlib.Core.Option.{some}
use Prim.Native.Nat.{ℕ, suc, ◌+◌, ◌≤◌, ◌<◌, min}
use native.Mathlib.Numerals.{add-one}
use native.Mathlib.Omega.{arith}
use lib.Dec.{eqb, leb}
use lib.ListN.{length, get_or, drop, drop_of_length-le, length-append}
use lib.Seq.{drop-cons}
use borrow.Author.Tests.{eqb-true, eq-eqb, leb-true, leb-false}
use Rattle.definition.specs.Records.{Record}
use Rattle.definition_replay.specs.Integers.{Integer}
use Rattle.definition_replay.specs.Trace.{Taken, taken, broken, row_of, rows_n, rows_of}
use Rattle.definition_replay.specs.Replay.{Made, made, stopped, followed, Part, items_from, parts_from, field_count, row_line, all_in_range, row_made, lines_from, concat}
use Rattle.definition.proofs.Moves.CharLaws.{cases}
use Rattle.definition_replay_laws.proofs.Replay.ReplayLaws.{both, concat_append}
use Rattle.definition_replay_laws.proofs.Trace.TraceTexts.{first_row, first_broken}
use Rattle.buffers.specs.Over.{over}
use Rattle.buffers.proofs.Over.{over_nil, over_append}
use Rattle.traces.specs.Cells.{verdict_of, check_of}
use Rattle.templates.specs.Walk.{Stand}
use Rattle.std.specs.Prelude.{Some, None}
use Rattle.trace_lines.specs.declared.Line.{Line}
use Rattle.trace_lines.specs.Lines.{Writes, RowIs, LineIs, Wrote, LinesAre}

-- A ROW THAT IS MADE
pub record Fine (ps : List Part) (vs : List Integer) (l : List ℕ) : Type 0 where
  pub counts : length vs ≡ field_count ps
  pub fits : all_in_range vs ≡ true
  pub line : l ≡ row_line ps vs

pub row_fine : (ps : List Part) (i : ℕ) (vs : List Integer) (l : List ℕ) → row_made ps i (some vs) ≡ made l → Fine ps vs l
unfolding row_made
row_fine ps i vs l e =
    cases (eqb (length vs) (field_count ps))
    (λ c.
    cases (all_in_range vs)
    (λ f. let z : made (row_line ps vs) ≡ made l = rw (c, f) at e in record { counts = eqb-true (length vs) (field_count ps) c; fits = f; line = cc })
    (λ f. let z : ◌≡◌ {A = Made (List ℕ)} (stopped 72 i) (made l) = rw (c, f) at e in let y : ◌≡◌ {A = ℕ} 0 1 = cc in absurd (omega arith)))
    (λ c. let z : ◌≡◌ {A = Made (List ℕ)} (stopped 71 i) (made l) = rw c at e in let y : ◌≡◌ {A = ℕ} 0 1 = cc in absurd (omega arith))

-- THE FIRST ROW of a text: its line and the lines of the rest, or what refuses it
module _ (ps : List Part) (i b : ℕ) (s : List ℕ) where
  row_made_lem : (vs : List Integer) (u : List ℕ) → row_of (b ∷ s) ≡ taken vs u → length vs ≡ field_count ps → all_in_range vs ≡ true
      → lines_from ps i (rows_of (b ∷ s)) ≡ followed (made (row_line ps vs)) (lines_from ps (suc i) (rows_of u))
  unfolding lines_from row_made
  row_made_lem vs u e c f = ap (lines_from ps i) (first_row b s vs u e) ∙ rw (eq-eqb (length vs) (field_count ps) c, f)

  row_stops : (n : ℕ) → n ≡ check_of (field_count ps) (row_of (b ∷ s)) → (n ≡ 0 → ⊥) → lines_from ps i (rows_of (b ∷ s)) ≡ stopped n i
  unfolding lines_from row_made followed check_of verdict_of
  row_stops n e z = go (row_of (b ∷ s)) refl
    where
      go : (o : Taken (List Integer)) → row_of (b ∷ s) ≡ o → lines_from ps i (rows_of (b ∷ s)) ≡ stopped n i
      go broken f = ap (lines_from ps i) (first_broken b s f) ∙ ap (λ m. stopped m i) (sym (e ∙ ap (check_of (field_count ps)) f))
      go (taken vs u) f =
          let d : n ≡ verdict_of (field_count ps) (length vs) (all_in_range vs) = e ∙ ap (check_of (field_count ps)) f in
          ap (lines_from ps i) (first_row b s vs u f)
          ∙ cases (eqb (length vs) (field_count ps))
          (λ c.
          cases (all_in_range vs) (λ a. absurd (z (d ∙ rw (c, a)))) (λ a. let m : n ≡ 72 = d ∙ rw (c, a) in rw (c, a) (ap (λ k. stopped k i) (sym m))))
          (λ c. let m : n ≡ 71 = d ∙ rw c in rw c (ap (λ k. stopped k i) (sym m)))

-- lines before others
both_none : (o : Made (List (List ℕ))) → o ≡ both (made []) o
unfolding both
both_none (made ms) = refl
both_none (stopped n k) = refl

both_more : (ls : List (List ℕ)) (l : List ℕ) (o : Made (List (List ℕ))) → both (made ls) (followed (made l) o) ≡ both (made (ls ++ (l ∷ []))) o
unfolding both followed
both_more ls l (made ms) = ap made (sym (append_assoc ls (l ∷ []) ms))
both_more ls l (stopped n k) = refl

both_stopped : (ls : List (List ℕ)) (n k : ℕ) → both (made ls) (stopped n k) ≡ stopped n k
unfolding both
both_stopped ls n k = refl

both_end : (ls : List (List ℕ)) → both (made ls) (made []) ≡ made ls
unfolding both
both_end ls = ap made (append-nil ls)

concat_more : (ls : List (List ℕ)) (l : List ℕ) → concat (ls ++ (l ∷ [])) ≡ concat ls ++ l
unfolding concat
concat_more ls l = concat_append ls (l ∷ []) ∙ ap (λ t. concat ls ++ t) (append-nil l)

rows_none : (ps : List Part) (i : ℕ) → lines_from ps i (rows_of []) ≡ made []
unfolding lines_from rows_of rows_n
rows_none ps i = refl

-- ONE LINE MORE
module _ (ls : List (List ℕ)) (l out₀ out : List ℕ) (used : ℕ) (w : Wrote ls out₀ out used) {from : ℕ} (m : from ≡ min used 0x100000000) {out' : List ℕ} {used' : ℕ} (y : Writes l out from out' used') where
  wrote_more : Wrote (ls ++ (l ∷ [])) out₀ out' used'
  wrote_more = go (leb used 0xFFFFFFFF) refl
    where
      longer : length (concat (ls ++ (l ∷ []))) ≡ length (concat ls) + length l
      longer = ap length (concat_more ls l) ∙ length-append (concat ls) l

      go : (b : Bool) → leb used 0xFFFFFFFF ≡ b → Wrote (ls ++ (l ∷ [])) out₀ out' used'
      go true e =
          let h = leb-true used 0xFFFFFFFF e in
          let x = w.0 h in
          let a = x.0 in
          let n = longer in
          let k = y.0 in
          let f : from ≡ 0 + length (concat ls) = omega arith in (
            (λ g. (omega arith, y.1 ∙ ap₂ (λ o p. over o p l) x.1 f ∙ over_append out₀ 0 (concat ls) l ∙ ap (over out₀ 0) (sym (concat_more ls l)))),
            (λ g. omega arith),
          )
      go false e =
          let h = leb-false used 0xFFFFFFFF e in
          let x = w.1 h in
          let n = longer in
          let k = y.0 in
          ((λ g. absurd (omega arith)), (λ g. omega arith))

-- THE LOOP
module _ (words : List ℕ) (count : ℕ) (text trace : List ℕ) (fields : ℕ) (out₀ : List ℕ) where
  -- the lines so far
  pub record Lines-to (ps : List Part) (out : List ℕ) (used next row : ℕ) : Type 0 where
    pub lines : List (List ℕ)
    pub are : lines_from ps 0 (rows_of trace) ≡ both (made lines) (lines_from ps row (rows_of (drop next trace)))
    pub counts : length lines ≡ row
    pub wrote : Wrote lines out₀ out used

  pub record Lines-at (out : List ℕ) (used next row : ℕ) : Type 0 where
    pub goes : (rs : List Record) (ps : List Part) → Stand words count (length text) 0 0 rs → parts_from text 0 (items_from 0 rs) ≡ made ps → Lines-to ps out used next row
    pub inside : next ≤ length trace
    pub few : row ≤ next

  pub lines_start : Lines-at out₀ 0 0 0
  unfolding concat
  lines_start =
      record {
        goes = λ rs ps s p. record { lines = []; are = both_none (lines_from ps 0 (rows_of trace)); counts = refl; wrote = ((λ h. (refl, sym (over_nil out₀ 0))), (λ h. absurd (omega arith))) };
        inside = omega arith;
        few = omega arith;
      }

  module _ (out : List ℕ) (used next row : ℕ) (w : Lines-at out used next row) where
    -- all rows are written
    pub lines_end : length trace ≤ next → LinesAre words count text trace fields out₀ out 0 row used
    lines_end h rs ps s p c =
        let x = w.goes rs ps s p in (
          (λ z.
              record {
                lines = x.lines;
                are = x.are ∙ ap (λ t. both (made x.lines) (lines_from ps row (rows_of t))) (drop_of_length-le trace h) ∙ ap (both (made x.lines)) (rows_none ps row) ∙ both_end x.lines;
                many = x.counts;
                wrote = x.wrote;
              }),
          (λ z. absurd (z refl)),
        )

    module _ (l : next < length trace) {from : ℕ} (m : from ≡ min used 0x100000000) where
      here : drop next trace ≡ get_or trace next 0 ∷ drop (suc next) trace
      here = drop-cons trace next 0 l

      -- a row that is refused
      pub lines_stop : (out' : List ℕ) → LineIs words count text trace next out from out' None → {number : ℕ} → number ≡ check_of fields (row_of (drop next trace)) → LinesAre words count text trace fields out₀ out' number row 0
      lines_stop out' y {number} n rs ps s p c =
          let x = w.goes rs ps s p in
          let z = y rs ps s p in
          let d : number ≡ check_of (field_count ps) (row_of (drop next trace)) = n ∙ ap (λ k. check_of k (row_of (drop next trace))) (sym c) in (
            (λ e. absurd (z (sym d ∙ e))),
            (λ e.
                x.are
                ∙ ap (both (made x.lines))
                (ap (λ t. lines_from ps row (rows_of t)) here ∙ row_stops ps row (get_or trace next 0) (drop (suc next) trace) number (d ∙ ap (λ t. check_of (field_count ps) (row_of t)) here) e)
                ∙ both_stopped x.lines number row),
          )

      -- one row more
      pub lines_next : (out' : List ℕ) {line : Line} → LineIs words count text trace next out from out' (Some line) → Lines-at out' line.used line.next (row + 1)
      lines_next out' {line} y =
          let g = y.1 in
          let k = w.few in
          record { goes = λ rs ps s p. go ps (w.goes rs ps s p) (y.0 rs ps s p); inside = y.2; few = omega arith }
        where
          go : (ps : List Part) → Lines-to ps out used next row → RowIs ps trace next out from out' line.used line.next → Lines-to ps out' line.used line.next (row + 1)
          go ps x r =
              let c = x.counts in
              let n = length-append x.lines (row_line ps r.values ∷ []) in
              record {
                lines = x.lines ++ (row_line ps r.values ∷ []);
                are = x.are
                    ∙ ap (both (made x.lines))
                    (ap (λ t. lines_from ps row (rows_of t)) here
                    ∙ row_made_lem ps row (get_or trace next 0) (drop (suc next) trace) r.values (drop line.next trace) (ap row_of (sym here) ∙ r.reads) r.counts r.fits
                    ∙ ap (λ j. followed (made (row_line ps r.values)) (lines_from ps j (rows_of (drop line.next trace)))) (sym (add-one row)))
                    ∙ both_more x.lines (row_line ps r.values) (lines_from ps (row + 1) (rows_of (drop line.next trace)));
                counts = omega arith;
                wrote = wrote_more x.lines (row_line ps r.values) out₀ out used x.wrote m r.writes;
              }
