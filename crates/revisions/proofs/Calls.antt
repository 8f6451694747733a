-- Laws of the call: the items of what is lent, and what is returned by whether both are well formed. Assumes nothing.
use mathlib.Core.Path.{◌≡◌, refl, sym, ◌∙◌, ap, ap₂}
use mathlib.Core.Bool.{true, false}
use mathlib.Core.List.{List, ◌∷◌, map}
use Prim.Native.Nat.{ℕ, zero, suc, ◌+◌, ◌*◌}
use native.Mathlib.Nat.{add-zero, sub-zero}
use native.Mathlib.Omega.{arith}
use lib.ListN.{length, get_or, take, drop}
use lib.Seq.{get_or-drop, drop-drop}
use Rattle.definition.specs.Words.{owing, records_from, answer_from, held_from}
use Rattle.definition_formed.specs.Formed.{Lent, lent, unplaced, lent_answer, is_formed}
use Rattle.definition_revisions.specs.Revisions.{shape_of, items_from, items_of, comparison, compares, ill_formed, compared, compare_roomed, compare_called, compare_into}
use Rattle.formed.specs.Heads.{head_at}
use Rattle.revisions.specs.Walks.{shape_of_head, shape_at, shapes_from, items_at}

module _ (ns w t : List ℕ) where
  abbrev count : ℕ
  count = get_or ns 5 0

  abbrev text : List ℕ
  text = take (get_or ns 6 0) t

  -- ITS ITEMS
  shapes_are : (text : List ℕ) (n i owed : ℕ) → map (shape_of text) (map unplaced (records_from n owed (drop (i * 8) w))) ≡ shapes_from w text i n
  unfolding shapes_from shape_of shape_of_head head_at unplaced records_from
  shapes_are text zero i owed = refl
  shapes_are text (suc n) i owed =
      let m : suc i * 8 ≡ i * 8 + 8 = omega arith in
      rw (drop-drop 8 (i * 8) w, get_or-drop (i * 8) w 0 0, add-zero (i * 8), get_or-drop (i * 8) w 1 0, get_or-drop (i * 8) w 2 0, get_or-drop (i * 8) w 5 0, get_or-drop (i * 8) w 6 0)
      (ap (λ l. shape_at w text i ∷ l) (rw m at (shapes_are text n (suc i) (owing owed (get_or w (i * 8 + 6) 0)))))

  pub items_are : items_of (lent ns w t) ≡ items_at w text count 0
  unfolding items_of lent_answer held_from answer_from
  items_are = rw (sub-zero count) (ap (items_from 0) (shapes_are text count 0 0))

  pub items_read : (m n : ℕ) → m ≡ get_or ns 6 0 → n ≡ count → items_at w (take m t) n 0 ≡ items_of (lent ns w t)
  items_read m n e f = ap₂ (λ k l. items_at w (take k t) l 0) e f ∙ sym items_are

-- THE CALL
module _ (x y : Lent) (list : List ℕ) where
  pub into_first : is_formed x ≡ false → compare_into x y list ≡ compare_called (ill_formed 57) list
  unfolding compare_into compared compare_roomed
  into_first h = rw h refl

  pub into_second : is_formed x ≡ true → is_formed y ≡ false → compare_into x y list ≡ compare_called (ill_formed 58) list
  unfolding compare_into compared compare_roomed
  into_second h k = rw (h, k) refl

  pub into_both : is_formed x ≡ true → is_formed y ≡ true → compare_into x y list ≡ compare_called (compare_roomed (length list) (compares (comparison (items_of x) (items_of y)))) list
  unfolding compare_into compared
  into_both h k = rw (h, k) refl
