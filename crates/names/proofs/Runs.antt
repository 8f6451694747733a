-- Names found distinct block by block. Assumes nothing.
use Rattle.std.specs.Prelude as p
use Rattle.std.proofs.Common.{Some, None, unwrap_or, IfSome, is_some, true≢false, le_refl}
use mathlib.Core.Path.{◌≡◌, refl, sym, ap, ◌∙◌}
use mathlib.Core.Bool.{Bool, true, false, not}
use mathlib.Core.List.{List, [], ◌∷◌, ◌++◌, map, append-nil}
use mathlib.Core.Option.{Option, none, some}
use mathlib.Core.Logic.{⊎_elim}
use Prim.Native.Nat.{ℕ, ◌≤◌, ◌<◌}
use native.Mathlib.Omega.{arith}
use lib.ListN.{length, take, drop, get_or}
use Rattle.definition_names.specs.Names.{Entry, at, names, with_line, named_from, named, twice, first_field, name_at, name_of, code_at, entry_of}
use Rattle.definition_names.specs.IsIndex.{count, Perm, Rising, in_order}
use Rattle.definition.proofs.Moves.CharLaws.{cases}
use Rattle.definition_names.proofs.NameOrder.{never}
use Rattle.definition_names.proofs.NameLists.{same?, count_at, count_here, count_later, Stands, stands}
use Rattle.definition_names.proofs.NameIndex.{all_none, all_cons, all_first, all_rest, all_map, Faithful, twice_false, distinct_twice, rising_distinct}
use Rattle.definition_names.proofs.NameLines.{from_end}
use Rattle.definition_names.proofs.NameLookup.{all_append, all_right, not_there, falls_twice, Apart, distinct_left, distinct_right, distinct_join, distinct_apart}
use Rattle.definition_names.proofs.NameSearch.{EntryIs, entry_is}
use Rattle.definition_names.proofs.NameChecked.{some_same}
use Rattle.ordering.specs.Sorting.{Sorted, Falls}
use Rattle.names.specs.Answers.{onto, FilledOf, FreeOf, Free, MeetsIs, PartIs, NewIs, RunIs, DistinctIs}
use Rattle.names.proofs.Filling.{onto_none, onto_add}

-- an entry by the place of its name
pub entry_name : (file block : List ℕ) (p q k : ℕ) → Rising (in_order file) block → q ≡ name_at file p → k ≡ entry_of file block (first_field (drop q file)) → EntryIs file block (name_of file p) k
unfolding name_of
entry_name file block p q k r e h = rw (h, e) (entry_is file block (first_field (drop (name_at file p) file)) r)

-- an entry that is found, and one that is not
pub found_within : (r : p.Option ℕ) (n k : ℕ) → unwrap_or r n ≡ k → IfSome r (λ j. j < n) → is_some r ≡ true → k < n
found_within None n k e h t = absurd (true≢false (sym t))
found_within (Some j) n k e h t = rw (← e) h

pub missed_past : (r : p.Option ℕ) (n k : ℕ) → unwrap_or r n ≡ k → is_some r ≡ false → n ≤ k
missed_past None n k e t = rw (← e) (le_refl n)
missed_past (Some j) n k e t = absurd (true≢false t)

-- a block met by later lines
module _ (file block : List ℕ) where
  pub record Meeting (start p : ℕ) : Type 0 where
    pub run : List Entry
    pub is : named_from file start ≡ onto run (named_from file p)
    pub free : Free file block run

  pub meeting : (start : ℕ) → Meeting start start
  meeting start = record { run = []; is = onto_none _; free = all_none _ }

  module _ (start p : ℕ) (g : Meeting start p) where
    module _ (next k : ℕ) (h : named_from file p ≡ with_line p (names (name_of file p) (code_at file p)) (named_from file next)) (e : EntryIs file block (name_of file p) k) where
      abbrev here : Entry
      here = record { at = p; name = name_of file p; code = code_at file p }

      pub meet_more : length block ≤ k → Meeting start next
      meet_more o = record {
        run = g.run ++ (here ∷ []);
        is = g.is ∙ ap (onto g.run) h ∙ onto_add g.run p (name_of file p) (code_at file p) (named_from file next);
        free = all_append (FreeOf file block) g.run (here ∷ []) g.free (all_cons (FreeOf file block) here [] (e.none o) (all_none _));
      }

      pub meet_here : k < length block → MeetsIs file start block true
      meet_here o es w f = at_next (named_from file next) refl
        where
          at_next : (o : Option (List Entry)) → named_from file next ≡ o → ⊥
          at_next none n = let z : none ≡ some es = sym (g.is ∙ ap (onto g.run) (h ∙ ap (with_line p (names (name_of file p) (code_at file p))) n)) ∙ w in let y : ◌≡◌ {A = ℕ} 0 1 = cc in omega arith
          at_next (some fs) n =
              let z = some_same (g.run ++ (here ∷ fs)) es (sym (g.is ∙ ap (onto g.run) (h ∙ ap (with_line p (names (name_of file p) (code_at file p))) n)) ∙ w) in
              let r = all_right (FreeOf file block) g.run (here ∷ fs) (rw z f) in
              all_first (FreeOf file block) here fs r k o (e.has o)

    pub meet_end : length file ≤ p → MeetsIs file start block false
    meet_end h es w =
        let z = some_same (g.run ++ []) es (sym (g.is ∙ ap (onto g.run) (from_end file p h)) ∙ w) in
        rw (← z, append-nil) g.free

-- a block of distinct names, and later lines that do not meet it
module _ (file m : List ℕ) where
  apart_later : (run fs : List Entry) → Faithful file run → ((x : ℕ) → 1 ≤ count x (map at run) → 1 ≤ count x m) → Free file m fs → Apart run fs
  apart_later [] fs f h r = all_none _
  apart_later (e ∷ es) fs f h r =
      all_cons _ e es (all_map _ _ (λ g n z. n s.at s.inside (ap (name_of file) s.is ∙ all_first _ e es f ∙ sym z)) fs r)
      (apart_later es fs (all_rest _ e es f) (λ x k. h x (same? x (at e) (λ q. let c = count_here x (at e) (map at es) q in omega arith) (λ q. let c = count_later x (at e) (map at es) q in omega arith))) r)
    where
      s : Stands (at e) m
      s = stands (at e) m (h (at e) (let c = count_here (at e) (at e) (map at es) refl in omega arith))

  free_later : (run fs : List Entry) → Faithful file run → ((x : ℕ) → 1 ≤ count x m → 1 ≤ count x (map at run)) → Apart run fs → Free file m fs
  free_later run [] f h a = all_none _
  free_later run (g ∷ fs) f h a =
      all_cons _ g fs
      (λ i k e.
      let c = h (get_or m i 0) (count_at m i k) in
      let z = not_there file g.name run f (all_map _ _ (λ x n w. all_first _ g fs n (sym w)) run a) (get_or m i 0) e in
      omega arith)
      (free_later run fs f h (all_map _ _ (λ x n. all_rest _ g fs n) run a))

module _ (file : List ℕ) (start : ℕ) (l m : List ℕ) (used next : ℕ) (f : FilledOf file start l used next) (s : Sorted (in_order file) (take used l) m) where
  perm : Perm m (map at f.run)
  perm x = s.perm x ∙ ap (count x) f.offsets

  -- of two entries of one name
  falls_new : Falls (in_order file) m → NewIs file f.run next false
  falls_new h es w =
      cases (twice (f.run ++ es)) (λ u. u)
      (λ u. absurd (falls_twice file f.run m f.faithful perm (λ i j a b. s.order i j (omega arith) a b) h.at h.inside h.falls (distinct_left f.run es (twice_false _ u))))

  rises_new : Rising (in_order file) m → (r : Bool) → MeetsIs file next m r → NewIs file f.run next (not r)
  rises_new h true g = λ es w.
      cases (twice (f.run ++ es)) (λ u. u)
      (λ u. absurd (g es w (free_later file m f.run es f.faithful (λ x k. let p = perm x in omega arith) (distinct_apart f.run es (twice_false _ u)))))
  rises_new h false g = λ es w u.
      distinct_twice (f.run ++ es) (distinct_join f.run es (rising_distinct file f.run m f.faithful h perm) (twice_false es u)
      (apart_later file m f.run es f.faithful (λ x k. let p = perm x in omega arith) (g es w)))

pub run_part : (file : List ℕ) (start : ℕ) (l : List ℕ) (used next : ℕ) (r : Bool) → FilledOf file start l used next → start < next → PartIs file (take used l) next r → RunIs file start r next
run_part file start l used next r f o p = record {
  run = f.run;
  is = f.is;
  on = o;
  once = λ es t. distinct_twice es (distinct_right f.run es (twice_false (f.run ++ es) t));
  new = by r p;
}
  where
    by : (r : Bool) → PartIs file (take used l) next r → NewIs file f.run next r
    by true p = rises_new file start l p.list used next f p.sorted p.is.0 false p.is.1
    by false p =
        ⊎_elim (λ h. falls_new file start l p.list used next f p.sorted h)
        (λ h. rises_new file start l p.list used next f p.sorted h.0 true h.1) p.is

-- the file is read on after a run
-- blocks passed
pub record Rest (file : List ℕ) (p : ℕ) (es : List Entry) : Type 0 where
  pub rest : List Entry
  pub is : named_from file p ≡ some rest
  pub on : twice rest ≡ false → twice es ≡ false
  pub back : twice es ≡ false → twice rest ≡ false

abbrev pub Passed : List ℕ → ℕ → Type 0
Passed file p = (es : List Entry) → named file ≡ some es → Rest file p es

pub passing : (file : List ℕ) → Passed file 0
passing file es h = record { rest = es; is = h; on = λ t. t; back = λ t. t }

pub passed_sound : (file : List ℕ) (p : ℕ) → (named file ≡ none → ⊥) → Passed file p → named_from file p ≡ none → ⊥
passed_sound file p n g h = known (named file) refl
  where
    known : (o : Option (List Entry)) → named file ≡ o → ⊥
    known none e = n e
    known (some es) e = let r = g es e in let i = r.is in let z : ◌≡◌ {A = ℕ} 0 1 = cc in omega arith

-- what is left after a run
record After (run rest : List Entry) (o : Option (List Entry)) : Type 0 where
  later : List Entry
  is : o ≡ some later
  split : run ++ later ≡ rest

after : (run rest : List Entry) (o : Option (List Entry)) → onto run o ≡ some rest → After run rest o
after run rest none h = let z : ◌≡◌ {A = ℕ} 0 1 = cc in absurd (omega arith)
after run rest (some fs) h = record { later = fs; is = refl; split = some_same (run ++ fs) rest h }

pub pass_run : (file : List ℕ) (p next : ℕ) → Passed file p → RunIs file p true next → Passed file next
pass_run file p next g r es h =
    let t = g es h in
    let a = after r.run t.rest (named_from file next) (sym r.is ∙ t.is) in
    record {
      rest = a.later;
      is = a.is;
      on = λ u. t.on (rw (← a.split) (r.new a.later a.is u));
      back = λ u. r.once a.later (rw a.split (t.back u));
    }

pub pass_not : (file : List ℕ) (p next : ℕ) → Passed file p → RunIs file p false next → DistinctIs file false
pass_not file p next g r es h =
    let t = g es h in
    let a = after r.run t.rest (named_from file next) (sym r.is ∙ t.is) in
    cases (twice es) (λ u. rw u)
    (λ u. never (rw a.split (t.back u)) (r.new a.later a.is))

pub pass_end : (file : List ℕ) (p : ℕ) → Passed file p → length file ≤ p → DistinctIs file true
unfolding twice
pass_end file p g k es h =
    let t = g es h in
    let z : t.rest ≡ [] = some_same t.rest [] (sym t.is ∙ from_end file p k) in
    let e = t.on (rw z) in
    rw e
