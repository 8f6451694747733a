-- WHAT A WELL-FORMED ANSWER HAS, one thing after the other. Assumes nothing.
use mathlib.Core.Path.{◌≡◌, refl}
use mathlib.Core.Bool.{Bool, true, false, ◌&&◌, false≢true}
use Prim.Native.Nat.{◌≤◌}
use lib.Dec.{eqb, leb}
use lib.ListN.{length}
use borrow.Author.Tests.{eqb-true, leb-true}
use Rattle.definition.specs.Words.{word, lie, all_fit, ordered, gapless, sorted, records_formed}
use Rattle.definition_formed.specs.Formed.{Lent, lent_answer, texts_utf8, is_formed}

-- two tests that hold together
pub both : (t u : Bool) → (t && u) ≡ true → (t ≡ true) × (u ≡ true)
both true u h = (refl, h)
both false u h = absurd (false≢true h)

pub record Formed (x : Lent) : Type 0 where
  pub accepted : word x.numbers 0 ≡ 0
  pub known : word x.numbers 1 ≤ 2
  pub lies : lie (word x.numbers 5) (word x.numbers 6) x.words x.text ≡ true
  pub fit : all_fit (lent_answer x).records ≡ true
  pub order : ordered false 0 (lent_answer x).records ≡ true
  pub no_gap : gapless 0 (lent_answer x).records (length (lent_answer x).text) ≡ true
  pub of_sort : sorted (lent_answer x).sort (lent_answer x).records ≡ true
  pub utf_8 : texts_utf8 (lent_answer x).text (lent_answer x).records ≡ true

five : (a b c d e : Bool) → (a && b && c && d && e) ≡ true → (a ≡ true) × (b ≡ true) × (c ≡ true) × (d ≡ true) × (e ≡ true)
five a b c d e h =
    let p = both (a && b && c && d) e h in
    let q = both (a && b && c) d p.0 in
    let r = both (a && b) c q.0 in
    let t = both a b r.0 in
    (t.0, t.1, r.1, q.1, p.1)

pub is_formed_lem : (x : Lent) → is_formed x ≡ true → Formed x
unfolding is_formed records_formed
is_formed_lem x h =
    let y = lent_answer x in
    let ns = x.numbers in
    let p = five (eqb (word ns 0) 0) (leb (word ns 1) 2) (lie (word ns 5) (word ns 6) x.words x.text) (records_formed y) (texts_utf8 y.text y.records) h in
    let q = five true (all_fit y.records) (ordered false 0 y.records) (gapless 0 y.records (length y.text)) (sorted y.sort y.records) p.3 in
    record { accepted = eqb-true (word ns 0) 0 p.0; known = leb-true (word ns 1) 2 p.1; lies = p.2; fit = q.1; order = q.2; no_gap = q.3; of_sort = q.4; utf_8 = p.4 }
