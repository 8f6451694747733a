-- What is known of a file's names: what each entry says stands in the file, and the index is the one list that meets IsIndex. Assumes nothing.
use mathlib.Core.Path.{◌≡◌, refl, sym, ap, ◌∙◌}
use mathlib.Core.Bool.{true, false}
use mathlib.Core.List.{List, [], ◌∷◌, map}
use mathlib.Core.Option.{some}
use Prim.Native.Nat.{ℕ, ◌≤◌, zero-le}
use native.Mathlib.Omega.{arith}
use lib.Dec.{ltb}
use lib.ListN.{length, get_or, length-map}
use borrow.Author.Tests.{ltb-true, ltb-false}
use Rattle.definition.specs.Chars.{same, no_code}
use Rattle.definition_names.specs.Names.{is_scalar, Entry, named, has, lookup_in, lookup_of, lookup_file, twice, by_name, at, index_of, name_of, code_at, entry_of, scalar_at, searched}
use Rattle.definition_names.specs.IsIndex.{bit, count, Perm, is_start, IsIndex, StandsFor, of_line, of_none}
use Rattle.definition.proofs.Moves.CharLaws.{cases, same_true}
use Rattle.definition_names.proofs.NameOrder.{never}
use Rattle.definition_names.proofs.NameLists.{same?, count_here, count_later, count_none, count_at, stands}
use Rattle.definition_names.proofs.NameIndex.{All, all_first, all_rest, all_map, Faithful, twice_false, distinct_twice, perm_by_name, index_rises, index_unique, rising_distinct}
use Rattle.definition_names.proofs.NameLookup.{by_name_length, distinct_inj, lookup_has, lookup_none}
use Rattle.definition_names.proofs.NameSearch.{EntryIs, entry_is}
use Rattle.definition_names.proofs.NameWalk.{Says, all_sound}

pub some_same : (a b : List Entry) → some a ≡ some b → a ≡ b
some_same a b h = cc

pub index_size : (es : List Entry) → length (index_of es) ≡ length es
index_size es = length-map (by_name es) at ∙ by_name_length es

-- the code of a line that an entry names
scalar_there : (file : List ℕ) (es : List Entry) → All (Says file) es → (x : ℕ) → 1 ≤ count x (map at es) → is_scalar (code_at file x) ≡ true
scalar_there file [] a x h = let z = count_none x in absurd (omega arith)
scalar_there file (e ∷ es) a x h =
    let s = all_first _ e es a in
    same? x (at e) (λ q. rw (q, s.1) s.2)
    (λ q. let c = count_later x (at e) (map at es) q in scalar_there file es (all_rest _ e es a) x (omega arith))

module _ (file : List ℕ) (es : List Entry) (h : named file ≡ some es) where
  says : All (Says file) es
  says = (all_sound file es h).says

  pub faithful : Faithful file es
  faithful = all_map (Says file) _ (λ e s. s.0) es says

  codes : All (λ e. code_at file e.at ≡ e.code) es
  codes = all_map (Says file) _ (λ e s. s.1) es says

  pub scalars : All (λ e. is_scalar e.code ≡ true) es
  scalars = all_map (Says file) _ (λ e s. s.2) es says

  pub starts : (q : ℕ) → count q (map at es) ≡ bit (is_start file q)
  starts q = (all_sound file es h).here q zero-le

  -- THE INDEX IS WHAT IsIndex SAYS, and nothing else is
  pub index_is : twice es ≡ false → IsIndex file (index_of es)
  index_is t = record {
    once = λ p. perm_by_name es p ∙ starts p;
    rises = index_rises file es faithful (twice_false es t);
  }

  pub index_only : (l : List ℕ) → IsIndex file l → (twice es ≡ false) × (l ≡ index_of es)
  index_only l i =
      let p : Perm l (map at es) = λ x. i.once x ∙ sym (starts x) in
      let d = rising_distinct file es l faithful i.rises p in
      (distinct_twice es d, index_unique file es l faithful d i.rises p)

  -- A NAME SEARCHED by the index is found exactly if the file has it, with its code
  pub searched_right : twice es ≡ false → (name : List ℕ) → searched file (index_of es) name ≡ lookup_file file name
  unfolding searched scalar_at lookup_of
  searched_right t name =
      cases (ltb k (length (index_of es)))
      (λ u.
      let l = ltb-true k (length (index_of es)) u in
      let c = in_file p (count_at (index_of es) k l) in
      rw (u, h, scalar_there file es says p c) (sym (lookup_has file es name faithful codes (twice_false es t) p c (e.has l))))
      (λ u.
      rw (u, h)
      (sym (lookup_none file es name faithful
      (λ x m w.
      let s = stands x (index_of es) (let q = perm_by_name es x in omega arith) in
      e.none (ltb-false k (length (index_of es)) u) s.at s.inside (ap (name_of file) s.is ∙ w)))))
    where
      k : ℕ
      k = entry_of file (index_of es) name

      p : ℕ
      p = get_or (index_of es) k 0

      e : EntryIs file (index_of es) name k
      e = entry_is file (index_of es) name (index_is t).rises

      in_file : (x : ℕ) → 1 ≤ count x (index_of es) → 1 ≤ count x (map at es)
      in_file x m = let q = perm_by_name es x in omega arith

-- a name among entries has a code, and no other has
pub has_code : (es : List Entry) (n : List ℕ) → All (λ e. is_scalar e.code ≡ true) es → has es n ≡ true → is_scalar (lookup_in es n) ≡ true
unfolding has lookup_in
has_code [] n a h = never refl h
has_code (e ∷ es) n a h =
    cases (same e.name n) (λ t. rw t (all_first _ e es a))
    (λ t. rw t (has_code es n (all_rest _ e es a) (rw t at h)))

pub has_none : (es : List Entry) (n : List ℕ) → has es n ≡ false → lookup_in es n ≡ no_code
unfolding has lookup_in
has_none [] n h = refl
has_none (e ∷ es) n h =
    cases (same e.name n) (λ t. never (rw t at h) refl) (λ t. rw t (has_none es n (rw t at h)))

-- a name among entries is that of a line
line_of : (file : List ℕ) (es : List Entry) (n : List ℕ) → Faithful file es → has es n ≡ true → (p : ℕ) × (1 ≤ count p (map at es)) × (name_of file p ≡ n)
unfolding has
line_of file [] n f h = never refl h
line_of file (e ∷ es) n f h =
    cases (same e.name n)
    (λ t. (at e, (let c = count_here (at e) (at e) (map at es) refl in omega arith), all_first _ e es f ∙ same_true e.name n t))
    (λ t. later (line_of file es n (all_rest _ e es f) (rw t at h)))
  where
    later : (p : ℕ) × (1 ≤ count p (map at es)) × (name_of file p ≡ n) → (p : ℕ) × (1 ≤ count p (at e ∷ map at es)) × (name_of file p ≡ n)
    later (p, c, w) = (p, same? p (at e) (λ q. let d = count_here p (at e) (map at es) q in omega arith) (λ q. let d = count_later p (at e) (map at es) q in omega arith), w)

-- WHAT A NAME STANDS FOR in a file whose names stand once
module _ (file : List ℕ) (es : List Entry) (h : named file ≡ some es) (t : twice es ≡ false) (name : List ℕ) where
  counted : (p : ℕ) → is_start file p ≡ true → 1 ≤ count p (map at es)
  unfolding bit
  counted p s = let c : count p (map at es) ≡ 1 = starts file es h p ∙ rw s refl in omega arith

  started : (p : ℕ) → 1 ≤ count p (map at es) → is_start file p ≡ true
  unfolding bit
  started p c = cases (is_start file p) (λ s. s) (λ s. let d : count p (map at es) ≡ 0 = starts file es h p ∙ rw s refl in absurd (omega arith))

  code_of : (p : ℕ) → 1 ≤ count p (map at es) → name_of file p ≡ name → lookup_in es name ≡ code_at file p
  code_of = lookup_has file es name (faithful file es h) (codes file es h) (twice_false es t)

  pub name_stands : StandsFor file name (lookup_file file name)
  unfolding lookup_of
  name_stands = rw h (cases (has es name) (λ y. there (line_of file es name (faithful file es h) y)) nowhere)
    where
      there : (p : ℕ) × (1 ≤ count p (map at es)) × (name_of file p ≡ name) → StandsFor file name (lookup_in es name)
      there (p, c, w) =
          let k = code_of p c w in
          of_line p (started p c) w (λ q s v. distinct_inj file es (faithful file es h) (twice_false es t) q p (counted q s) c (v ∙ sym w)) k (rw k (scalar_there file es (says file es h) p c))

      nowhere : has es name ≡ false → StandsFor file name (lookup_in es name)
      nowhere n =
          let z = has_none es name n in
          of_none (λ p s w.
          let k : no_code ≡ code_at file p = sym z ∙ code_of p (counted p s) w in
          let y : is_scalar no_code ≡ true = rw (sym k) at (scalar_there file es (says file es h) p (counted p s)) in
          never refl y) z
