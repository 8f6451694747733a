-- EACH ROW'S LINE depends on that row and the template only: a trace gives what the texts of its rows give as traces of their own, one after
-- another; a refusal is the first refused row's. Assumes nothing.
use mathlib.Core.Path.{◌≡◌, refl, sym, ◌∙◌, ap, ap₂}
use mathlib.Core.List.{List, [], ◌∷◌, ◌++◌, append_assoc}
use mathlib.Core.Option.{Option, none, some}
use Prim.Native.Nat.{ℕ, suc, ◌+◌}
use native.Mathlib.Nat.{add-zero, add-suc, suc-add}
use native.Mathlib.Omega.{arith}
use lib.Dec.{eqb}
use lib.ListN.{length}
use Rattle.definition_replay.specs.Integers.{Integer}
use Rattle.definition_replay.specs.Trace.{rows_of}
use Rattle.definition_replay.specs.Replay.{Made, made, stopped, followed, Part, field_count, all_in_range, row_made, lines_from, concat, lines_of}
use Rattle.definition.proofs.Moves.CharLaws.{cases}
use Rattle.definition_replay_laws.proofs.Trace.TraceTexts.{rows_in, Single, Texts}

-- the same of a later row
unfoldable pub raised : {A : Type 0} → ℕ → Made A → Made A
raised i (made x) = made x
raised i (stopped n k) = stopped n (i + k)

-- the lines of both, or the first refusal
unfoldable pub both : Made (List (List ℕ)) → Made (List (List ℕ)) → Made (List (List ℕ))
both (stopped n k) o = stopped n k
both (made ls) (stopped n k) = stopped n k
both (made ls) (made ms) = made (ls ++ ms)

both_followed : (x : Made (List ℕ)) (o p : Made (List (List ℕ))) → followed x (both o p) ≡ both (followed x o) p
unfolding followed both
both_followed (stopped n k) o p = refl
both_followed (made l) (stopped n k) p = refl
both_followed (made l) (made ls) (stopped n k) = refl
both_followed (made l) (made ls) (made ms) = refl

both_nothing : (o : Made (List (List ℕ))) → both (made []) o ≡ o
unfolding both
both_nothing (stopped n k) = refl
both_nothing (made ls) = refl

raised_followed : (i : ℕ) (x : Made (List ℕ)) (o : Made (List (List ℕ))) → raised i (followed x o) ≡ followed (raised i x) (raised i o)
unfolding raised followed
raised_followed i (stopped n k) o = refl
raised_followed i (made l) (stopped n k) = refl
raised_followed i (made l) (made ls) = refl

module _ (ps : List Part) where
  -- ROWS after rows
  pub lines_append : (i : ℕ) (rs qs : List (Option (List Integer))) → lines_from ps i (rs ++ qs) ≡ both (lines_from ps i rs) (lines_from ps (i + length rs) qs)
  unfolding lines_from
  lines_append i [] qs = ap (λ k. lines_from ps k qs) (sym (add-zero i)) ∙ sym (both_nothing (lines_from ps (i + 0) qs))
  lines_append i (r ∷ rs) qs =
      ap (followed (row_made ps i r)) (lines_append (suc i) rs qs ∙ ap (λ k. both (lines_from ps (suc i) rs) (lines_from ps k qs)) (suc-add i (length rs) ∙ sym (add-suc i (length rs))))
      ∙ both_followed (row_made ps i r) (lines_from ps (suc i) rs) (lines_from ps (i + suc (length rs)) qs)

  -- a row's line knows nothing of its number
  row_raised : (i j : ℕ) (r : Option (List Integer)) → row_made ps (i + j) r ≡ raised i (row_made ps j r)
  unfolding row_made raised
  row_raised i j none = refl
  row_raised i j (some vs) =
      cases (eqb (length vs) (field_count ps))
      (λ e. cases (all_in_range vs) (λ f. rw (e, f)) (λ f. rw (e, f)))
      (λ e. rw e)

  lines_raised : (i j : ℕ) (rs : List (Option (List Integer))) → lines_from ps (i + j) rs ≡ raised i (lines_from ps j rs)
  unfolding lines_from raised
  lines_raised i j [] = refl
  lines_raised i j (r ∷ rs) =
      ap₂ followed (row_raised i j r) (ap (λ k. lines_from ps k rs) (sym (add-suc i j)) ∙ lines_raised i (suc j) rs)
      ∙ sym (raised_followed i (row_made ps j r) (lines_from ps (suc j) rs))

  -- TEXTS, each as a trace of its own; the first is row i
  unfoldable pub each_alone : (i : ℕ) → List (List ℕ) → Made (List (List ℕ))
  each_alone i [] = made []
  each_alone i (t ∷ ts) = both (raised i (lines_of (made ps) t)) (each_alone (suc i) ts)

  alone_rows : (i : ℕ) (ts : List (List ℕ)) → Single ts → lines_from ps i (rows_in ts) ≡ each_alone i ts
  unfolding rows_in each_alone lines_from lines_of
  alone_rows i [] h = refl
  alone_rows i (t ∷ ts) h =
      lines_append i (rows_of t) (rows_in ts)
      ∙ ap₂ both (ap (λ k. lines_from ps k (rows_of t)) (sym (add-zero i)) ∙ lines_raised i 0 (rows_of t))
      (ap (λ k. lines_from ps k (rows_in ts)) (ap (λ n. i + n) h.0 ∙ next i) ∙ alone_rows (suc i) ts h.1)
    where
      next : (i : ℕ) → i + 1 ≡ suc i
      next i = omega arith

  -- A TRACE gives what its rows' texts give
  pub trace_lines : (s : List ℕ) (t : Texts s) → lines_of (made ps) s ≡ each_alone 0 t.texts
  unfolding lines_of
  trace_lines s t = ap (lines_from ps 0) t.rows ∙ alone_rows 0 t.texts t.single

-- and the texts that are written stand one after another
pub concat_append : (ls ms : List (List ℕ)) → concat (ls ++ ms) ≡ concat ls ++ concat ms
unfolding concat
concat_append [] ms = refl
concat_append (l ∷ ls) ms = ap (λ t. l ++ t) (concat_append ls ms) ∙ sym (append_assoc l (concat ls) (concat ms))
