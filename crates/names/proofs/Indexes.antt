-- An index built, and a lent list checked. Assumes nothing.
use mathlib.Core.Path.{◌≡◌, refl, sym, ap, ◌∙◌}
use mathlib.Core.Bool.{Bool, true, false}
use mathlib.Core.List.{List, [], ◌∷◌, ◌++◌, map, append-nil}
use mathlib.Core.Option.{Option, none, some}
use Prim.Native.Nat.{ℕ, ◌+◌}
use native.Mathlib.Omega.{arith}
use lib.ListN.{length, get_or, length-map, length-append}
use lib.Seq.{take_all}
use Rattle.definition_names.specs.Names.{Entry, at, named_from, named, twice, index_of}
use Rattle.definition_names.specs.IsIndex.{bit, count, Perm, Rising, is_start, in_order}
use Rattle.definition.proofs.Moves.CharLaws.{cases}
use Rattle.definition_names.proofs.NameOrder.{never}
use Rattle.definition_names.proofs.NameLists.{same?, count_at}
use Rattle.definition_names.proofs.NameIndex.{twice_false, index_rises, index_unique, perm_by_name, rising_distinct, distinct_twice, checked}
use Rattle.definition_names.proofs.NameLines.{from_end}
use Rattle.definition_names.proofs.NameLookup.{falls_twice}
use Rattle.definition_names.proofs.NameChecked.{some_same, index_size, faithful, starts}
use Rattle.ordering.specs.Sorting.{Sorted, Falls, RisingIs}
use Rattle.names.specs.Answers.{Starts, Strays, FilledOf, Sized, OrderedIs, CheckedIs}

-- where a line begins
bit_one : (t : Bool) → t ≡ true → bit t ≡ 1
unfolding bit
bit_one t e = rw e

bit_none : (t : Bool) → t ≡ false → bit t ≡ 0
unfolding bit
bit_none t e = rw e

-- a file with n names
pub sized_is : (file : List ℕ) (n : ℕ) → Sized file n → (es : List Entry) → named file ≡ some es → n ≡ length es
sized_is file n s es h = s.size ∙ ap length (some_same s.names es (sym s.is ∙ h))

pub sized_sound : (file : List ℕ) (n : ℕ) → Sized file n → named file ≡ none → ⊥
sized_sound file n s h = let e = s.is in let z : ◌≡◌ {A = ℕ} 0 1 = cc in omega arith

module _ (file : List ℕ) (es : List Entry) (h : named file ≡ some es) where
  -- a whole list filled
  filled : (l : List ℕ) (used next : ℕ) → FilledOf file 0 l used next → length l ≡ length es → l ≡ map at es
  filled l used next f n =
      rest (named_from file next) refl
    where
      rest : (o : Option (List Entry)) → named_from file next ≡ o → l ≡ map at es
      rest none e = let z : none ≡ some es = sym (rw e at f.is) ∙ h in let y : ◌≡◌ {A = ℕ} 0 1 = cc in absurd (omega arith)
      rest (some fs) e =
          let q : f.run ++ fs ≡ es = some_same (f.run ++ fs) es (sym (rw e at f.is) ∙ h) in
          let len : length f.run + length fs ≡ length es = sym (length-append f.run fs) ∙ ap length q in
          let c = f.count in
          let r = f.room in
          same? used (length l)
          (λ u.
          let z : fs ≡ [] = empty fs (omega arith) in
          let w : f.run ≡ es = sym (append-nil f.run) ∙ sym (ap (λ (x : List Entry). f.run ++ x) z) ∙ q in
          sym (take_all used l (omega arith)) ∙ f.offsets ∙ ap (map at) w)
          (λ u.
          let en = f.ended (omega arith) in
          let z : fs ≡ [] = some_same fs [] (sym e ∙ from_end file next en) in
          let y : length fs ≡ 0 = ap length z in
          absurd (u (omega arith)))
        where
          empty : (fs : List Entry) → length fs ≡ 0 → fs ≡ []
          empty [] k = refl
          empty (x ∷ fs) k = absurd (omega arith)

  module _ (l m : List ℕ) (w : l ≡ map at es) (s : Sorted (in_order file) l m) where
    perm : Perm m (map at es)
    perm x = s.perm x ∙ ap (count x) w

    sorted_right : Rising (in_order file) m → (twice es ≡ false) × (m ≡ index_of es)
    sorted_right r =
        let d = rising_distinct file es m (faithful file es h) r perm in
        (distinct_twice es d, index_unique file es m (faithful file es h) d r perm)

    sorted_wrong : Falls (in_order file) m → twice es ≡ true
    sorted_wrong f =
        cases (twice es) (λ t. t)
        (λ t. absurd (falls_twice file es m (faithful file es h) perm (λ i j a b. s.order i j (omega arith) a b) f.at f.inside f.falls (twice_false es t)))

  -- a lent list
  module _ (l : List ℕ) where
    pub check_size : (length es ≡ length l → ⊥) → l ≡ index_of es → ⊥
    check_size n e = n (sym (ap length e ∙ index_size es))

    pub check_stray : Strays file l → l ≡ index_of es → ⊥
    check_stray s e =
        let c = count_at l s.at s.inside in
        let p = ap (count (get_or l s.at 0)) e ∙ perm_by_name es (get_or l s.at 0) ∙ starts file es h (get_or l s.at 0) in
        let z = bit_none (is_start file (get_or l s.at 0)) s.strays in
        omega arith

    check_right : length es ≡ length l → Starts file l (length l) → Rising (in_order file) l → (twice es ≡ false) × (l ≡ index_of es)
    check_right n s r =
        checked file es l (faithful file es h) r
        (λ k m. let e = starts file es h (get_or l k 0) in let b = bit_one (is_start file (get_or l k 0)) (s k m) in omega arith)
        (length-map es at ∙ n)

    check_falls : Falls (in_order file) l → twice es ≡ false → l ≡ index_of es → ⊥
    check_falls f t e =
        let r : Rising (in_order file) l = rw e (index_rises file es (faithful file es h) (twice_false es t)) in
        never (r f.at (f.at + 1) (omega arith) f.inside) f.falls

-- by whether the names rise
pub ordered_is : (file l m : List ℕ) (used next : ℕ) → FilledOf file 0 l used next → (n : ℕ) → Sized file n → n ≡ length l → Sorted (in_order file) l m → (r : Bool) → RisingIs (in_order file) m r → OrderedIs file m r
ordered_is file l m used next f n z e s true r = λ es h. sorted_right file es h l m (filled file es h l used next f (sym e ∙ sized_is file n z es h)) s r
ordered_is file l m used next f n z e s false r = λ es h. sorted_wrong file es h l m (filled file es h l used next f (sym e ∙ sized_is file n z es h)) s r

pub checked_is : (file l : List ℕ) (n : ℕ) → Sized file n → n ≡ length l → Starts file l (length l) → (r : Bool) → RisingIs (in_order file) l r → CheckedIs file l r
checked_is file l n z e s true r = λ es h. check_right file es h l (sym (sized_is file n z es h) ∙ e) s r
checked_is file l n z e s false r = λ es h. check_falls file es h l r
