-- What a call for all of a list answers and leaves, once all items are emitted and closed. Assumes nothing.
use mathlib.Core.Path.{◌≡◌, refl, sym, ◌∙◌, ap, subst}
use mathlib.Core.Bool.{true}
use mathlib.Core.List.{List, map}
use mathlib.Core.Option.{Option, none, some}
use Prim.Native.Nat.{ℕ, ◌/◌}
use native.Mathlib.Omega.{arith}
use lib.ListN.{length, replicate}
use Rattle.definition.specs.Numbers.{not_sixes}
use Rattle.definition.specs.Records.{Role, covers, Item, Sort, answer_of, merged, texts, laid, cover}
use Rattle.definition.specs.Entry.{Literal, sixes, Refusal, refusal}
use Rattle.definition.specs.Escapes.{Naming}
use Rattle.definition.specs.Reading.{refuses, read_from, sort_of, all_chars, answered, read, all_words, zeros}
use Rattle.definition.specs.Rows.{all_rows, all_numbers}
use Rattle.definition_laws.proofs.Join.Laid.{laid_length}
use Rattle.buffers.specs.Over.{over}
use Rattle.entry.specs.Literals.{literals}
use Rattle.entry.specs.declared.Refusal as entry
use Rattle.entry.specs.Answers.{refusal_of, check_numbers}
use Rattle.entry.proofs.Checks.{refused}
use Rattle.entry.proofs.Passed.{Passed}
use Rattle.std.specs.Prelude.{Result, Err}
use Rattle.bodies.specs.declared.Written.{Written}
use Rattle.records.specs.declared.Whole.{Whole}
use Rattle.records.specs.declared.Sink.{Sink}
use Rattle.bodies.specs.Emit as e
use Rattle.bodies.specs.Emit.{closed, Tops}
use Rattle.bodies.specs.Sinks.{out_of, whole_of}
use Rattle.bodies.specs.Lists.{whole_for, role_for, empty, Wrote, All, Rowed, read_flat, answer_for, Landed, ClosedAs, DoneIs, ReadingIs}
use Rattle.bodies.proofs.Emitted.{done, emitted}
use Rattle.bodies.proofs.TopLaws.{tops_read, covers_role}
use Rattle.bodies.proofs.RowCalls.{front_shown}

-- laid out over empty buffers
count_done : (w : e.Whole) (words text : List ℕ) (xs : List Item) → (done w (empty words text) xs).count ≡ length xs
unfolding done
count_done w words text xs = omega arith

used_done : (w : e.Whole) (words text : List ℕ) (xs : List Item) → (done w (empty words text) xs).used ≡ length (texts xs)
unfolding done
used_done w words text xs = omega arith

words_done : (w : e.Whole) (words text : List ℕ) (xs : List Item) → (done w (empty words text) xs).words ≡ over words 0 (all_words (map (cover w.start w.end w.mark) (laid 0 xs)))
unfolding done
words_done w words text xs = refl

text_done : (w : e.Whole) (words text : List ℕ) (xs : List Item) → (done w (empty words text) xs).text ≡ over text 0 (texts xs)
unfolding done
text_done w words text xs = refl

landed : (w : Whole) (s : Sort) (n : ℕ) (role : Role) (xs : List Item) (words₀ text₀ words text words' : List ℕ) (k r : Sink)
    → covers role ≡ true → Tops (whole_of w) role xs → Wrote (whole_of w) xs words₀ text₀ words text k
    → ((T : List ℕ) → out_of r words' T ≡ closed (whole_of w) (out_of k words T))
    → Landed (answer_of s w.mark w.start w.end n xs) words₀ text₀ words' text r.count r.used
unfolding answer_of
landed w s n role xs words₀ text₀ words text words' k r c t h e =
    record {
      count = ap (λ o. o.count) z ∙ count_done (whole_of w) words₀ text₀ (merged xs) ∙ sym (laid_length (cover w.start w.end w.mark) 0 (merged xs));
      used = ap (λ o. o.used) z ∙ used_done (whole_of w) words₀ text₀ (merged xs);
      words_are = ap (λ o. o.words) z ∙ words_done (whole_of w) words₀ text₀ (merged xs);
      text_is = ap (λ o. o.text) z ∙ text_done (whole_of w) words₀ text₀ (merged xs);
    }
  where
    z : out_of r words' text ≡ done (whole_of w) (empty words₀ text₀) (merged xs)
    z = e text ∙ ap (closed (whole_of w)) h.out ∙ emitted (whole_of w) role xs (empty words₀ text₀) c t refl refl

landed_for : (w : Whole) (script : List ℕ) (ls : List Literal) (role : Role) (xs : List Item) (words₀ text₀ words text words' : List ℕ) (k r : Sink)
    → covers role ≡ true → Tops (whole_of w) role xs → whole_of w ≡ whole_for ls → Wrote (whole_of w) xs words₀ text₀ words text k
    → ((T : List ℕ) → out_of r words' T ≡ closed (whole_of w) (out_of k words T))
    → Landed (answer_for script ls xs) words₀ text₀ words' text r.count r.used
landed_for w script ls role xs words₀ text₀ words text words' k r c t p h z =
    subst (λ (v : e.Whole). Landed (answer_of (sort_of ls) v.mark v.start v.end (all_chars script ls) xs) words₀ text₀ words' text r.count r.used) p
    (landed w (sort_of ls) (all_chars script ls) role xs words₀ text₀ words text words' k r c t h z)

-- WHAT THE CHECKS REFUSE
pub refused_flat : (look : Naming) (script ns : List ℕ) (r : Refusal) → refuses r ≡ check_numbers script ns → read_flat look script ns ≡ refuses r
unfolding check_numbers read_flat read
refused_flat look script ns r e = go (sixes ns) refl
  where
    go : (o : Option (List Literal)) → sixes ns ≡ o → read_flat look script ns ≡ refuses r
    go none q = let h : r ≡ refusal not_sixes 0 0 0 0 = (let y = rw (q, check_numbers) at e in cc) in rw (q, read_flat, h)
    go (some ls) q = rw (q, read_flat, refused _ r _ (rw (q, check_numbers) at e), read)

-- A REFUSED LIST: all three buffers are zeros
pub refused_all : (look : Naming) (within skip : ℕ) (script ns words text rows words₁ text₁ rows₁ words' text' rows' : List ℕ) (x : entry.Refusal) (r : Result Written entry.Refusal)
    → read_flat look script ns ≡ refuses (refusal_of x) → length words₁ ≡ length words → length text₁ ≡ length text → length rows₁ ≡ length rows
    → (r ≡ Err x) × (words' ≡ zeros words₁) × (text' ≡ zeros text₁) × (rows' ≡ zeros rows₁)
    → ReadingIs look within skip script ns words text rows words' text' rows' r
refused_all look within skip script ns words text rows words₁ text₁ rows₁ words' text' rows' x r e lw lt lr h =
    rw h.0
    (record { reads = e; words_are = h.1 ∙ ap (λ n. replicate n 0) lw; text_is = h.2 ∙ ap (λ n. replicate n 0) lt; rows_are = h.3 ∙ ap (λ n. replicate n 0) lr })

-- LITERALS THAT PASSED THE CHECKS
module _ (look : Naming) (script ns : List ℕ) (n : ℕ) (P : Passed script ns n) where
  abbrev ls : List Literal
  ls = literals ns 0 n

  pub refused_list : (x : entry.Refusal) → answered script ls (read_from look script 0 ls) ≡ refuses (refusal_of x) → read_flat look script ns ≡ refuses (refusal_of x)
  unfolding read_flat read
  refused_list x e = rw (P.listed, read_flat, P.enters, read) e

  pub landed_list : (w : Whole) (words text words₁ text₁ words' : List ℕ) (k r : Sink) → whole_of w ≡ whole_for ls → (A : All (read_from look script 0 ls) (whole_of w) words text words₁ text₁ k)
      → ((T : List ℕ) → out_of r words' T ≡ closed (whole_of w) (out_of k words₁ T))
      → Landed (answer_for script ls A.items) words text words' text₁ r.count r.used
  landed_list w words text words₁ text₁ words' k r e A z =
      landed_for w script ls (role_for ls) A.items words text words₁ text₁ words' k r (covers_role ls) (subst (λ v. Tops v (role_for ls) A.items) (sym e) (tops_read look script 0 ls A.items P.unmixed A.reads)) e A.wrote z

-- A LIST THAT IS ACCEPTED: all three buffers, and what is counted
pub done_all : (look : Naming) (within skip : ℕ) (script ns words text rows words₁ text₁ rows' words' : List ℕ) (w : Whole) (k : Sink) (n chars : ℕ) (r : Written)
    → let ls = literals ns 0 (length ns / 6) in Passed script ns (length ns / 6) × (chars ≡ all_chars script ls) → whole_of w ≡ whole_for ls
    → All (read_from look script 0 ls) (whole_of w) words text words₁ text₁ k → Rowed look (record { within = within; skip = skip }) script ls rows rows' k n
    → ClosedAs w k n chars words₁ words' r → DoneIs look within skip script ns words text rows words' text₁ rows' r
done_all look within skip script ns words text rows words₁ text₁ rows' words' w k n chars r Q e A R C =
    let ls = literals ns 0 (length ns / 6) in
    rw C.is
    (record {
      passed = Q.0;
      items = A.items;
      reads = A.reads;
      landed = landed_list look script ns (length ns / 6) Q.0 w words text words₁ text₁ words' k C.sink e A C.out;
      rows_are = front_shown (record { within = within; skip = skip }) rows rows' (all_numbers within (all_rows look script ls)) R.wrote;
      whole = e;
      fields = R.counted;
      chars = Q.1;
    })
