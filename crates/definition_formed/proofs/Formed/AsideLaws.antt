-- WHAT IS SET ASIDE does not count: ranges, places, u marks, and the numbers beside outcome, sort, count and length. Assumes nothing.
use mathlib.Core.Path.{◌≡◌, refl, ◌∙◌, ap, ap₂}
use mathlib.Core.Bool.{Bool, false, ◌&&◌, ◌||◌, not, beq}
use mathlib.Core.List.{List, [], ◌∷◌, map}
use Prim.Native.Nat.{ℕ, zero, suc, ◌+◌, ◌*◌}
use lib.Dec.{eqb, leb}
use lib.ListN.{length, take, drop}
use borrow.Author.Tests.{eqb-true, eqb-false}
use Rattle.definition.specs.Chars.{part}
use Rattle.definition.specs.Records.{Record, Sort, plain, joined, bytes_only}
use Rattle.definition.specs.Words.{word, owing, records_from, sort_from, answer_from, held_from, lie, fits, all_fit, has_spec, ordered, gapless, no_bytes, one_of, sorted, records_formed}
use Rattle.definition_formed.specs.Formed.{Lent, unplaced, lent_answer, is_utf8, texts_utf8, is_formed}
use Rattle.definition_formed.specs.Aside.{AgreeAll, LentAlike}
use Rattle.definition.proofs.Moves.CharLaws.{cases}

-- ASIDE: records that agree but for role, range, place and u mark
pub record Aside (r s : Record) : Type 0 where
  pub kinds : r.kind ≡ s.kind
  pub offsets : r.offset ≡ s.offset
  pub sizes : r.size ≡ s.size
  pub parts_same : r.parts ≡ s.parts
  pub modes : (r.kind ≡ 1 → ⊥) → (r.kind ≡ 4 → ⊥) → r.mode ≡ s.mode

pub data AllAside : List Record → List Record → Type 0 where
  none : AllAside [] []
  more : (r s : Record) (rs ss : List Record) → Aside r s → AllAside rs ss → AllAside (r ∷ rs) (s ∷ ss)

fits_aside : (kind size m n parts : ℕ) → ((kind ≡ 1 → ⊥) → (kind ≡ 4 → ⊥) → m ≡ n) → fits kind size m parts 0 ≡ fits kind size n parts 0
unfolding fits
fits_aside kind size m n parts h =
    cases (eqb kind 1) (λ e. rw e refl)
    (λ e. cases (eqb kind 4)
    (λ f. let k = eqb-true kind 4 f in rw k refl)
    (λ f. ap (λ j. fits kind size j parts 0) (h (eqb-false kind 1 e) (eqb-false kind 4 f))))

module _ (text : List ℕ) where
  abbrev U : List Record → List Record
  U = map unplaced

  aside_fit : (rs ss : List Record) → AllAside rs ss → all_fit (U rs) ≡ all_fit (U ss)
  unfolding all_fit unplaced
  aside_fit rs ss none = refl
  aside_fit rs ss (more r s rs' ss' a as') =
      ap₂ ◌&&◌ (fits_aside r.kind r.size r.mode s.mode r.parts a.modes ∙ (λ i. fits (a.kinds i) (a.sizes i) s.mode (a.parts_same i) 0)) (aside_fit rs' ss' as')

  aside_ordered : (due : Bool) (owed : ℕ) (rs ss : List Record) → AllAside rs ss → ordered due owed (U rs) ≡ ordered due owed (U ss)
  unfolding ordered unplaced
  aside_ordered due owed rs ss none = refl
  aside_ordered due owed rs ss (more r s rs' ss' a as') =
      ap (λ t. (beq (eqb r.kind 3) due && (not (eqb r.kind 4) || eqb owed 0)) && t) (aside_ordered (has_spec r.kind r.parts) (owing owed r.parts) rs' ss' as')
      ∙ (λ i. (beq (eqb (a.kinds i) 3) due && (not (eqb (a.kinds i) 4) || eqb owed 0)) && ordered (has_spec (a.kinds i) (a.parts_same i)) (owing owed (a.parts_same i)) (U ss'))

  aside_gapless : (n : ℕ) (rs ss : List Record) (size : ℕ) → AllAside rs ss → gapless n (U rs) size ≡ gapless n (U ss) size
  unfolding gapless unplaced
  aside_gapless n rs ss size none = refl
  aside_gapless n rs ss size (more r s rs' ss' a as') =
      ap (λ t. eqb r.offset n && t) (aside_gapless (n + r.size) rs' ss' size as') ∙ (λ i. eqb (a.offsets i) n && gapless (n + a.sizes i) (U ss') size)

  aside_utf8 : (rs ss : List Record) → AllAside rs ss → texts_utf8 text (U rs) ≡ texts_utf8 text (U ss)
  unfolding texts_utf8 unplaced
  aside_utf8 rs ss none = refl
  aside_utf8 rs ss (more r s rs' ss' a as') =
      ap₂ ◌&&◌ (λ i. eqb (a.kinds i) 4 || is_utf8 (part text (a.offsets i) (a.offsets i + a.sizes i))) (aside_utf8 rs' ss' as')

  aside_bytes : (rs ss : List Record) → AllAside rs ss → no_bytes (U rs) ≡ no_bytes (U ss)
  unfolding no_bytes unplaced
  aside_bytes rs ss none = refl
  aside_bytes rs ss (more r s rs' ss' a as') = ap₂ ◌&&◌ (λ i. not (eqb (a.kinds i) 4)) (aside_bytes rs' ss' as')

  aside_one : (k : ℕ) (rs ss : List Record) → AllAside rs ss → one_of k (U rs) ≡ one_of k (U ss)
  unfolding one_of unplaced
  aside_one k rs ss none = refl
  aside_one k rs ss (more r s rs' ss' a none) = λ i. eqb (a.kinds i) k
  aside_one k rs ss (more r s rs' ss' a (more r' s' rs'' ss'' a' as')) = refl

  aside_sorted : (sort : Sort) (rs ss : List Record) → AllAside rs ss → sorted sort (U rs) ≡ sorted sort (U ss)
  unfolding sorted
  aside_sorted plain rs ss a = aside_one 1 rs ss a
  aside_sorted joined rs ss a = aside_bytes rs ss a
  aside_sorted bytes_only rs ss a = aside_one 4 rs ss a

pub agree_aside : (n o o' : ℕ) (w v : List ℕ) → AgreeAll n w v → AllAside (records_from n o w) (records_from n o' v)
unfolding AgreeAll records_from
agree_aside zero o o' w v a = none
agree_aside (suc n) o o' w v a =
    let g = a.0 in
    more _ _ _ _ (record { kinds = g.kinds; offsets = g.offsets; sizes = g.sizes; parts_same = g.parts_same; modes = g.modes }) (agree_aside n (owing o (word w 6)) (owing o' (word v 6)) (drop 8 w) (drop 8 v) a.1)

-- ARE BOTH WELL FORMED OR NEITHER, AND HAVE THE SAME ITEMS
module _ (x y : Lent) (a : LentAlike x y) where
  abbrev rs : List Record
  rs = records_from (word x.numbers 5) 0 x.words

  abbrev ss : List Record
  ss = records_from (word x.numbers 5) 0 y.words

  abbrev text : List ℕ
  text = take (word x.numbers 6) x.text

  all_aside : AllAside rs ss
  all_aside = agree_aside (word x.numbers 5) 0 0 x.words y.words a.agree

  pub aside_formed : is_formed x ≡ is_formed y
  unfolding is_formed lie records_formed lent_answer held_from answer_from
  aside_formed =
      ap₂ (λ p q. eqb (word x.numbers 0) 0 && leb (word x.numbers 1) 2 && (leb (word x.numbers 5 * 8) (length x.words) && leb (word x.numbers 6) (length x.text)) && p && q)
      (λ i. aside_fit text rs ss all_aside i && aside_ordered text false 0 rs ss all_aside i && aside_gapless text 0 rs ss (length text) all_aside i && aside_sorted text (sort_from (word x.numbers 1)) rs ss all_aside i)
      (aside_utf8 text rs ss all_aside)
      ∙ (λ i. eqb (a.outcomes i) 0 && leb (a.sorts i) 2 && (leb (a.counts i * 8) (a.as_long i) && leb (a.lengths i) (length (a.texts i)))
      && (all_fit (map unplaced (records_from (a.counts i) 0 y.words)) && ordered false 0 (map unplaced (records_from (a.counts i) 0 y.words)) && gapless 0 (map unplaced (records_from (a.counts i) 0 y.words)) (length (take (a.lengths i) (a.texts i))) && sorted (sort_from (a.sorts i)) (map unplaced (records_from (a.counts i) 0 y.words)))
      && texts_utf8 (take (a.lengths i) (a.texts i)) (map unplaced (records_from (a.counts i) 0 y.words)))
