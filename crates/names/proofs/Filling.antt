-- Offsets written, line by line. Assumes nothing.
use mathlib.Core.Path.{◌≡◌, refl, ap, ◌∙◌}
use mathlib.Core.List.{List, [], ◌∷◌, ◌++◌, map, append_assoc}
use mathlib.Core.Option.{Option, none, some}
use Prim.Native.Nat.{ℕ, ◌+◌, ◌≤◌, ◌<◌, zero-le}
use native.Mathlib.Nat.{le_refl}
use native.Mathlib.Numerals.{add-one}
use native.Mathlib.Omega.{arith}
use lib.ListN.{length, take, set, length-append, length-set}
use lib.Seq.{take-suc-set}
use Rattle.definition_names.specs.Names.{name_of, Entry, at, names, with_line, named_from, code_at}
use Rattle.definition_names.proofs.NameIndex.{Faithful, all_none, all_cons}
use Rattle.definition_names.proofs.NameLookup.{all_append}
use Rattle.names.specs.Answers.{onto}

pub onto_none : (o : Option (List Entry)) → o ≡ onto [] o
onto_none none = refl
onto_none (some es) = refl

pub onto_add : (es : List Entry) (p : ℕ) (n : List ℕ) (v : ℕ) (o : Option (List Entry)) → onto es (with_line p (names n v) o) ≡ onto (es ++ (record { at = p; name = n; code = v } ∷ [])) o
onto_add es p n v none = refl
onto_add es p n v (some fs) = rw append_assoc

map_append : (a b : List Entry) → map at (a ++ b) ≡ map at a ++ map at b
map_append [] b = refl
map_append (e ∷ a) b = rw (map_append a b)

-- n offsets written, up to the line at p
pub record Filling (file : List ℕ) (start : ℕ) (l : List ℕ) (p n : ℕ) : Type 0 where
  pub run : List Entry
  pub is : named_from file start ≡ onto run (named_from file p)
  pub count : n ≡ length run
  pub offsets : take n l ≡ map at run
  pub faithful : Faithful file run
  pub room : n ≤ length l
  pub on : start ≤ p
  pub begun : p ≡ start → n ≡ 0

pub filling : (file : List ℕ) (start : ℕ) (l : List ℕ) → Filling file start l start 0
filling file start l = record {
  run = [];
  is = onto_none _;
  count = refl;
  offsets = refl;
  faithful = all_none _;
  room = zero-le;
  on = le_refl start;
  begun = λ h. refl;
}

module _ (file : List ℕ) (start : ℕ) (l : List ℕ) (p n : ℕ) (g : Filling file start l p n) where
  pub fill_add : (next : ℕ) → n < length l → (p < next) × (next ≤ length file) × (named_from file p ≡ with_line p (names (name_of file p) (code_at file p)) (named_from file next)) → Filling file start (set l n p) next (n + 1)
  fill_add next r h =
      let o = g.on in
      let k = h.0 in
      record {
        run = g.run ++ (record { at = p; name = name_of file p; code = code_at file p } ∷ []);
        is = g.is ∙ ap (onto g.run) h.2 ∙ onto_add g.run p (name_of file p) (code_at file p) (named_from file next);
        count = rw length-append (let c = g.count in omega arith);
        offsets = rw (add-one, take-suc-set l n p r, g.offsets, map_append);
        faithful = all_append _ g.run _ g.faithful (all_cons _ _ [] refl (all_none _));
        room = rw length-set (omega arith);
        on = omega arith;
        begun = λ a. absurd (omega arith);
      }
