-- WHAT IS SHOWN OF A FILE OF NAMES: what passes the check, what is built, and what a search finds. Assumes nothing.
use Rattle.std.specs.Prelude.{if◌then◌else◌}
use mathlib.Core.Path.{◌≡◌, refl}
use mathlib.Core.Bool.{true, false}
use mathlib.Core.List.{List}
use mathlib.Core.Option.{Option, none, some}
use Prim.Native.Nat.{ℕ}
use native.Mathlib.Omega.{arith}
use lib.Dec.{ltb}
use lib.ListN.{length, get_or}
use Rattle.definition.specs.Chars.{same, no_code}
use Rattle.definition.specs.Entry.{Refusal}
use Rattle.definition.specs.Reading.{Outcome, accepts, refuses}
use Rattle.definition_names.specs.Names.{is_scalar, Entry, named, has, lookup_of, lookup_file, twice, index_of, indexed, too_long, in_room, against, build, check, code_at, entry_of, scalar_at, searched}
use Rattle.definition_names.specs.IsIndex.{IsIndex, StandsFor}
use Rattle.definition.proofs.Moves.CharLaws.{cases, same_true, same_refl}
use Rattle.definition_names.proofs.NameChecked.{scalars, index_is, index_only, searched_right, has_code, has_none, name_stands}

never : {P A : Type 0} (r : Refusal) (x : A) → ◌≡◌ {A = Outcome A} (refuses r) (accepts x) → P
never r x e = let z : ◌≡◌ {A = ℕ} 0 1 = cc in absurd (omega arith)

-- a list that passes the check is the index of a file whose names stand once
record Right (file l : List ℕ) : Type 0 where
  short : too_long file ≡ false
  names : List Entry
  is : named file ≡ some names
  once : twice names ≡ false
  right : l ≡ index_of names

passed : (file l m : List ℕ) → check file l ≡ accepts m → Right file l
unfolding check indexed
passed file l m h =
    cases (too_long file) (λ t. never _ m (rw t at h))
    (λ t. by t (named file) refl (rw t at h))
  where
    by : too_long file ≡ false → (o : Option (List Entry)) → named file ≡ o → against l (indexed (named file)) ≡ accepts m → Right file l
    by w none e k = never _ m (rw e at k)
    by w (some es) e k =
        let g = rw e at k in
        cases (twice es) (λ t. never _ m (rw t at g))
        (λ t.
        let f = rw t at g in
        cases (same l (index_of es))
        (λ u. record { short = w; names = es; is = e; once = t; right = same_true l (index_of es) u })
        (λ u. never _ m (rw u at f)))

-- WHAT PASSES THE CHECK holds each line with a name exactly once, ordered by name; what does so passes
pub checked_is : (file l m : List ℕ) → check file l ≡ accepts m → IsIndex file l
checked_is file l m h =
    let r = passed file l m h in rw r.right (index_is file r.names r.is r.once)

pub checked_if : (file l : List ℕ) (es : List Entry) → too_long file ≡ false → named file ≡ some es → IsIndex file l → check file l ≡ accepts l
unfolding check indexed
checked_if file l es t h i =
    let o = index_only file es h l i in
    rw (t, h, o.0, ← o.1, same_refl l)

-- AN INDEX THAT WAS BUILT passes it
pub built_checked : (file : List ℕ) (room : ℕ) (l : List ℕ) → build file room ≡ accepts l → check file l ≡ accepts l
unfolding build check
built_checked file room l h =
    cases (too_long file) (λ t. never _ l (rw t at h))
    (λ t. rw t (by (indexed (named file)) (rw t at h)))
  where
    by : (o : Outcome (List ℕ)) → in_room room o ≡ accepts l → against l o ≡ accepts l
    by (refuses r) k = never r l k
    by (accepts m) k =
        cases (ltb room (length m)) (λ u. never _ l (rw u at k))
        (λ u. let z : accepts m ≡ accepts l = rw u at k in let y : m ≡ l = cc in rw (y, same_refl l))

-- WHERE THE CHECK PASSES, a search finds a name exactly if the file has it, with its code
pub searched_checked : (file l m : List ℕ) → check file l ≡ accepts m → (name : List ℕ) → searched file l name ≡ lookup_file file name
searched_checked file l m h name =
    let r = passed file l m h in rw r.right (searched_right file r.names r.is r.once name)

-- a name is found exactly if a line of the file's bytes has it, and its code is that line's
pub searched_stands : (file l m : List ℕ) → check file l ≡ accepts m → (name : List ℕ) → StandsFor file name (searched file l name)
searched_stands file l m h name =
    let r = passed file l m h in rw (searched_checked file l m h name) (name_stands file r.names r.is r.once name)

module _ (file : List ℕ) (es : List Entry) (h : named file ≡ some es) (name : List ℕ) where
  pub lookup_has : has es name ≡ true → is_scalar (lookup_file file name) ≡ true
  unfolding lookup_of
  lookup_has t = rw h (has_code es name (scalars file es h) t)

  pub lookup_none : has es name ≡ false → lookup_file file name ≡ no_code
  unfolding lookup_of
  lookup_none t = rw h (has_none es name t)

-- a code or none: whatever is lent, and of a file
pub data Coded (c : ℕ) : Type 0 where
  coded : is_scalar c ≡ true → Coded c
  uncoded : c ≡ no_code → Coded c

pub searched_coded : (file index name : List ℕ) → Coded (searched file index name)
unfolding searched scalar_at
searched_coded file index name =
    cases (ltb (entry_of file index name) (length index))
    (λ t. rw t (one (code_at file (get_or index (entry_of file index name) 0))))
    (λ t. rw t (uncoded refl))
  where
    one : (c : ℕ) → Coded (if is_scalar c then c else no_code)
    one c = cases (is_scalar c) (λ t. rw t (coded t)) (λ t. rw t (uncoded refl))

pub lookup_coded : (file name : List ℕ) → Coded (lookup_file file name)
unfolding lookup_of
lookup_coded file name = by (named file) refl
  where
    by : (o : Option (List Entry)) → named file ≡ o → Coded (lookup_file file name)
    by none e = rw e (uncoded refl)
    by (some es) e = cases (has es name) (λ t. coded (lookup_has file es e name t)) (λ t. uncoded (lookup_none file es e name t))
