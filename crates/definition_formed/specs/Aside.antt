-- WHAT IS SET ASIDE of an answer that is lent: ranges, places, u marks, and the numbers beside outcome, sort, count and length.
use Rattle.std.specs.Prelude.{ℕ, zero, suc, ◌≡◌, List, length, drop}
use Rattle.definition.specs.Words.{word}
use Rattle.definition_formed.specs.Formed.{Lent}

-- the first records of two word buffers are the same in all else
pub record Agree (w v : List ℕ) : Type 0 where
  pub kinds : word w 0 ≡ word v 0
  pub offsets : word w 1 ≡ word v 1
  pub sizes : word w 2 ≡ word v 2
  pub parts_same : word w 6 ≡ word v 6
  pub modes : (word w 0 ≡ 1 → ⊥) → (word w 0 ≡ 4 → ⊥) → word w 5 ≡ word v 5

-- so many records are
unfoldable pub AgreeAll : (count : ℕ) (w v : List ℕ) → Type 0
AgreeAll zero w v = Unit {0}
AgreeAll (suc n) w v = Agree w v × AgreeAll n (drop 8 w) (drop 8 v)

-- two answers that are lent are
pub record LentAlike (x y : Lent) : Type 0 where
  pub outcomes : word x.numbers 0 ≡ word y.numbers 0
  pub sorts : word x.numbers 1 ≡ word y.numbers 1
  pub counts : word x.numbers 5 ≡ word y.numbers 5
  pub lengths : word x.numbers 6 ≡ word y.numbers 6
  pub texts : x.text ≡ y.text
  pub as_long : length x.words ≡ length y.words
  pub agree : AgreeAll (word x.numbers 5) x.words y.words
