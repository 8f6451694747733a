-- The answers of building, checking and searching. Assumes nothing.
use Rattle.std.specs.Prelude.{Some, None, Result, Ok, Err, is_err}
use mathlib.Core.Path.{◌≡◌, refl, sym, ap, ◌∙◌}
use mathlib.Core.Bool.{true≢false, Bool, true, false, not}
use mathlib.Core.List.{List, [], ◌∷◌, ◌++◌}
use mathlib.Core.Option.{Option, none, some}
use Prim.Native.Nat.{ℕ, suc, ◌≤◌, ◌<◌, ◌^◌}
use native.Mathlib.Omega.{arith}
use lib.Dec.{ltb}
use lib.ListN.{length, drop, get_or, replicate}
use borrow.Author.Tests.{le-leb, lt-leb, lt-ltb, le-ltb, not-true, not-false}
use Rattle.definition.specs.Numbers.{line_malformed, name_twice, too_little_index_room}
use Rattle.definition.specs.Chars.{same, no_code}
use Rattle.definition.specs.Entry.{refusal}
use Rattle.definition.specs.Reading.{Outcome, accepts, refuses}
use Rattle.definition_names.specs.Names.{Entry, named, twice, index_of, refuse, indexed, in_room, against, build, check, index_after, build_into, first_field, name_of, bound, entry_of, scalar_at, searched}
use Rattle.definition_names.specs.IsIndex.{count}
use Rattle.definition.proofs.Moves.CharLaws.{cases, same_true, same_eq}
use Rattle.definition_names.proofs.NameLists.{same?, count_later, count_none}
use Rattle.definition_names.proofs.NameFields.{stop_at, go_on, up_to_none}
use Rattle.definition_names.proofs.NameChecked.{index_size}
use Rattle.names.specs.Answers.{count_of, Sized, OrderedIs, CheckedIs, DistinctIs, number_of, says, answer_of, WrittenIs, CallIs}
use Rattle.names.specs.declared.IndexError.{IndexError}
use Rattle.names.specs.declared.IndexError.TheVariants.{LineMalformed, NameTwice, WrongIndex}

-- a file counted
counted_none : (file : List ℕ) → None ≡ count_of (named file) → named file ≡ none
counted_none file h = by (named file) refl
  where
    by : (o : Option (List Entry)) → named file ≡ o → named file ≡ none
    by none e = e
    by (some es) e = let z : None ≡ Some (length es) = h ∙ ap count_of e in let y : ◌≡◌ {A = ℕ} 0 1 = cc in absurd (omega arith)

pub counted_sized : (file : List ℕ) (n : ℕ) → Some n ≡ count_of (named file) → Sized file n
counted_sized file n h = by (named file) refl
  where
    by : (o : Option (List Entry)) → named file ≡ o → Sized file n
    by none e = let z : Some n ≡ None = h ∙ ap count_of e in let y : ◌≡◌ {A = ℕ} 0 1 = cc in absurd (omega arith)
    by (some es) e = let z : Some n ≡ Some (length es) = h ∙ ap count_of e in record { names = es; is = e; size = cc }

-- a part of n places
-- a call that refuses: before the list is filled with zeros, and after
pub write_refused : (file l m : List ℕ) (e : IndexError) → build file (length l) ≡ refuse (number_of e) → WrittenIs (build_into file l) m (Err e)
unfolding build_into
write_refused file l m e h = (rw h, tt)

pub build_zeroed : (file l k m : List ℕ) (r : Result ℕ IndexError) → is_err r ≡ true → WrittenIs (build_into file l) k r → m ≡ replicate (length l) 0 → CallIs (build_into file l) m r
unfolding build_into index_after
build_zeroed file l k m (Ok n) t w a = absurd (true≢false (sym t))
build_zeroed file l k m (Err e) t w a = (w.0, by (build file (length l)) refl)
  where
    by : (o : Outcome (List ℕ)) → build file (length l) ≡ o → m ≡ index_after (build file (length l)) l
    by (accepts x) q = let z : says (Err e) ≡ accepts (length x) = w.0 ∙ ap answer_of q in let y : ◌≡◌ {A = ℕ} 0 1 = cc in absurd (omega arith)
    by (refuses r) q = rw (q, index_after) a

module _ (file : List ℕ) where
  -- a file that is too long
  module _ (long : 2 ^ 32 ≤ length file) where
    pub build_long : (room : ℕ) → build file room ≡ refuse too_little_index_room
    unfolding build
    build_long room = rw (le-leb (2 ^ 32) (length file) long)

    pub check_long : (l : List ℕ) → says (Err WrongIndex) ≡ answer_of (check file l)
    unfolding check
    check_long l = rw (le-leb (2 ^ 32) (length file) long)

  module _ (short : length file < 2 ^ 32) where
    build_is : (room : ℕ) (o : Outcome (List ℕ)) → indexed (named file) ≡ o → build file room ≡ in_room room o
    unfolding build
    build_is room o e = rw (lt-leb (2 ^ 32) (length file) short, e)

    check_is : (l : List ℕ) (o : Outcome (List ℕ)) → indexed (named file) ≡ o → check file l ≡ against l o
    unfolding check
    check_is l o e = rw (lt-leb (2 ^ 32) (length file) short, e)

    -- a malformed one
    module _ (w : None ≡ count_of (named file)) where
      malformed_is : indexed (named file) ≡ refuse line_malformed
      unfolding indexed
      malformed_is = rw (counted_none file w)

      pub build_malformed : (room : ℕ) → build file room ≡ refuse line_malformed
      build_malformed room = build_is room _ malformed_is

      pub check_malformed : (l : List ℕ) → says (Err LineMalformed) ≡ answer_of (check file l)
      check_malformed l = rw (check_is l _ malformed_is)

    -- one with n names
    module _ (n : ℕ) (s : Sized file n) where
      twice_is : (r : Bool) → DistinctIs file r → twice s.names ≡ not r
      twice_is true d = not-true _ (sym (d s.names s.is))
      twice_is false d = not-false _ (sym (d s.names s.is))

      indexed_twice : twice s.names ≡ true → indexed (named file) ≡ refuse name_twice
      unfolding indexed
      indexed_twice t = rw (s.is, t)

      indexed_once : twice s.names ≡ false → indexed (named file) ≡ accepts (index_of s.names)
      unfolding indexed
      indexed_once t = rw (s.is, t)

      -- a lent list checked
      pub check_right : (l : List ℕ) → CheckedIs file l true → says (Ok n) ≡ answer_of (check file l)
      check_right l c =
          let r = c s.names s.is in
          rw (check_is l _ (indexed_once r.0), same_eq l (index_of s.names) r.1, index_size s.names, s.size)

      pub check_wrong : (l : List ℕ) → CheckedIs file l false → DistinctIs file true → says (Err WrongIndex) ≡ answer_of (check file l)
      check_wrong l c d =
          let t = twice_is true d in
          rw (check_is l _ (indexed_once t))
          (cases (same l (index_of s.names)) (λ u. absurd (c s.names s.is t (same_true l (index_of s.names) u)))
          (λ u. rw u))

      pub check_twice : (l : List ℕ) → DistinctIs file false → says (Err NameTwice) ≡ answer_of (check file l)
      check_twice l d = rw (check_is l _ (indexed_twice (twice_is false d)))

      -- an index built
      pub build_short : (room : ℕ) → room < n → DistinctIs file true → build file room ≡ refuse too_little_index_room
      build_short room h d =
          let z = s.size in
          let i = index_size s.names in
          build_is room _ (indexed_once (twice_is true d)) ∙ rw (lt-ltb room (length (index_of s.names)) (omega arith))

      pub build_met : (room : ℕ) → DistinctIs file false → build file room ≡ refuse name_twice
      build_met room d = build_is room _ (indexed_twice (twice_is false d))

      pub build_twice : (l part : List ℕ) → OrderedIs file part false → build file (length l) ≡ refuse name_twice
      build_twice l part o = build_is (length l) _ (indexed_twice (o s.names s.is))

      pub build_done : (l m part : List ℕ) → n ≤ length l → OrderedIs file part true → m ≡ part ++ drop n l → WrittenIs (build_into file l) m (Ok n)
      unfolding build_into index_after
      build_done l m part h o w =
          let r = o s.names s.is in
          let z = s.size in
          let i = index_size s.names in
          let q : n ≡ length (index_of s.names) = omega arith in
          rw (build_is (length l) _ (indexed_once r.0), le-ltb (length l) (length (index_of s.names)) (omega arith), ← q)
          (refl, w ∙ rw r.1)

-- a name with no `;`, and one with
pub no_mark : (s : List ℕ) → ((i : ℕ) → i < length s → get_or s i 0 ≡ 59 → ⊥) → first_field s ≡ s
no_mark [] h = up_to_none 59
no_mark (x ∷ s) h =
    go_on 59 x s (h 0 (omega arith)) ∙ ap (λ (t : List ℕ). x ∷ t) (no_mark s (λ i k. h (suc i) (omega arith)))

field_count_lem : (s : List ℕ) → count 59 (first_field s) ≡ 0
field_count_lem [] = rw up_to_none (count_none 59)
field_count_lem (x ∷ s) =
    same? x 59 (λ e. rw (stop_at 59 x s e) (count_none 59))
    (λ e. rw (go_on 59 x s e) (count_later 59 x (first_field s) (λ z. e (sym z)) ∙ field_count_lem s))

name_count : (file : List ℕ) (p : ℕ) → count 59 (name_of file p) ≡ 0
unfolding name_of
name_count file p = field_count_lem _

-- a name searched
module _ (file index name : List ℕ) where
  pub search_missed : length index ≤ entry_of file index name → no_code ≡ searched file index name
  unfolding searched
  search_missed h = rw (le-ltb (entry_of file index name) (length index) h)

  pub search_found : entry_of file index name < length index → scalar_at file (get_or index (entry_of file index name) 0) ≡ searched file index name
  unfolding searched
  search_found h = rw (lt-ltb (entry_of file index name) (length index) h)

  marked_missed : 1 ≤ count 59 name → entry_of file index name ≡ length index
  unfolding entry_of
  marked_missed h =
      cases (same (name_of file (get_or index (bound file index name) 0)) name)
      (λ t. let c = name_count file (get_or index (bound file index name) 0) in let e = ap (count 59) (same_true _ name t) in absurd (omega arith))
      (λ t. cases (ltb (bound file index name) (length index)) (λ u. rw (u, t)) (λ u. rw u))

  pub search_marked : 1 ≤ count 59 name → no_code ≡ searched file index name
  search_marked h = search_missed (let e = marked_missed h in omega arith)

-- THE CHECK'S ANSWER TAKEN APART: a refusal has its number alone; else there is an index
module _ (file index : List ℕ) where
  pub answer_refused : (e : IndexError) → says (Err e) ≡ answer_of (check file index) → check file index ≡ refuses (refusal (number_of e) 0 0 0 0)
  answer_refused e h = by (check file index) refl
    where
      by : (o : Outcome (List ℕ)) → check file index ≡ o → check file index ≡ refuses (refusal (number_of e) 0 0 0 0)
      by (accepts l) q = let z : says (Err e) ≡ accepts (length l) = h ∙ ap answer_of q in let y : ◌≡◌ {A = ℕ} 0 1 = cc in absurd (omega arith)
      by (refuses r) q = let z : says (Err e) ≡ refuses r = h ∙ ap answer_of q in let y : r ≡ refusal (number_of e) 0 0 0 0 = cc in rw (← y) q

  pub record Indexed : Type 0 where
    pub list : List ℕ
    pub is : check file index ≡ accepts list

  pub answer_indexed : (n : ℕ) → says (Ok n) ≡ answer_of (check file index) → Indexed
  answer_indexed n h = by (check file index) refl
    where
      by : (o : Outcome (List ℕ)) → check file index ≡ o → Indexed
      by (accepts l) q = record { list = l; is = q }
      by (refuses r) q = let z : says (Ok n) ≡ refuses r = h ∙ ap answer_of q in let y : ◌≡◌ {A = ℕ} 0 1 = cc in absurd (omega arith)
