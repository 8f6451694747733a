-- THE WHOLE OF AN ANSWER by the numbers that were lent: its u mark by the first kind, and its range. Assumes nothing.
use Rattle.std.specs.Prelude.{if◌then◌else◌}
use mathlib.Core.Path.{◌≡◌, refl, ◌∙◌, ap}
use mathlib.Core.Bool.{true}
use mathlib.Core.List.{List, [], ◌∷◌}
use mathlib.Core.Option.{Option, none, some}
use Prim.Native.Nat.{ℕ, suc, ◌-◌, ◌≤◌}
use native.Mathlib.Omega.{arith}
use lib.Dec.{eqb}
use lib.ListN.{length}
use Rattle.definition.specs.Escapes.{Naming}
use Rattle.definition.specs.Records.{Answer, answer_of}
use Rattle.definition.specs.Entry.{Literal, one_more, sixes, first_start, not_empty, first_of, entry}
use Rattle.definition.specs.Reading.{accepts, u_mark, last_end, read, called, read_into, read_numbers, numbers_by}
use Rattle.definition.specs.Words.{word, whole}
use Rattle.definition_laws.proofs.Outcomes.Room.{roomed_accepts}
use Rattle.definition_laws.proofs.Formed.Accepted.{accepted}
use Rattle.definition_laws.proofs.Formed.WellFormed.{all_cover}
use Rattle.definition_laws.proofs.Formed.Held.{held, numbers_held}

-- its u mark is 1 exactly if the first literal's kind is 6, it goes from the first start to the last end, and every top-level literal and bytes record has these
pub record Marked (ns : List ℕ) (x : Answer) : Type 0 where
  pub marked : x.u_mark ≡ (if eqb (word ns 0) 6 then 1 else 0)
  pub starts : x.start ≡ word ns 4
  pub ends : x.end ≡ word ns (length ns - 1)
  pub carried : whole x.start x.end x.u_mark x.records ≡ true

-- the first literal's numbers are the first, the last one's end is the last
pub record Sides (ns : List ℕ) (ls : List Literal) : Type 0 where
  pub mark : u_mark ls ≡ (if eqb (word ns 0) 6 then 1 else 0)
  pub first : first_start ls ≡ word ns 4
  pub last : last_end 0 ls ≡ word ns (length ns - 1)

last_of : (ns : List ℕ) (ls : List Literal) (end : ℕ) → sixes ns ≡ some ls → 1 ≤ length ns → last_end end ls ≡ word ns (length ns - 1)
unfolding sixes one_more last_end
last_of [] ls end e h = absurd (omega arith)
last_of (a ∷ []) ls end e h = let z : ◌≡◌ {A = ℕ} 0 1 = cc in absurd (omega arith)
last_of (a ∷ b ∷ []) ls end e h = let z : ◌≡◌ {A = ℕ} 0 1 = cc in absurd (omega arith)
last_of (a ∷ b ∷ c ∷ []) ls end e h = let z : ◌≡◌ {A = ℕ} 0 1 = cc in absurd (omega arith)
last_of (a ∷ b ∷ c ∷ d ∷ []) ls end e h = let z : ◌≡◌ {A = ℕ} 0 1 = cc in absurd (omega arith)
last_of (a ∷ b ∷ c ∷ d ∷ g ∷ []) ls end e h = let z : ◌≡◌ {A = ℕ} 0 1 = cc in absurd (omega arith)
last_of (a ∷ b ∷ c ∷ d ∷ g ∷ f ∷ []) ls end e h = let z : ls ≡ record { kind = a; triple = b; offset = c; size = d; start = g; end = f } ∷ [] = cc in rw z refl
last_of (a ∷ b ∷ c ∷ d ∷ g ∷ f ∷ n ∷ ns) ls end e h = go (sixes (n ∷ ns)) refl (λ ms p. last_of (n ∷ ns) ms f p (omega arith))
  where
    l : Literal
    l = record { kind = a; triple = b; offset = c; size = d; start = g; end = f }

    go : (o : Option (List Literal)) → sixes (n ∷ ns) ≡ o → ((ms : List Literal) → sixes (n ∷ ns) ≡ some ms → last_end f ms ≡ word (n ∷ ns) (length (n ∷ ns) - 1))
        → last_end end ls ≡ word (a ∷ b ∷ c ∷ d ∷ g ∷ f ∷ n ∷ ns) (length (a ∷ b ∷ c ∷ d ∷ g ∷ f ∷ n ∷ ns) - 1)
    go none p ih = let q = rw p at e in let z : ◌≡◌ {A = ℕ} 0 1 = cc in absurd (omega arith)
    go (some ms) p ih =
        let q : some (l ∷ ms) ≡ some ls = rw p at e in
        let z : ls ≡ l ∷ ms = cc in
        let k : length (a ∷ b ∷ c ∷ d ∷ g ∷ f ∷ n ∷ ns) - 1 ≡ suc (suc (suc (suc (suc (suc (length ns)))))) = omega arith in
        let m : length (n ∷ ns) - 1 ≡ length ns = omega arith in
        rw (z, k) (ih ms p ∙ ap (word (n ∷ ns)) m)

sides_of : (ns : List ℕ) (l : Literal) (ls : List Literal) → sixes ns ≡ some (l ∷ ls) → Sides ns (l ∷ ls)
unfolding sixes one_more u_mark first_start
sides_of [] l ls e = let z : ◌≡◌ {A = ℕ} 0 1 = cc in absurd (omega arith)
sides_of (a ∷ []) l ls e = let z : ◌≡◌ {A = ℕ} 0 1 = cc in absurd (omega arith)
sides_of (a ∷ b ∷ []) l ls e = let z : ◌≡◌ {A = ℕ} 0 1 = cc in absurd (omega arith)
sides_of (a ∷ b ∷ c ∷ []) l ls e = let z : ◌≡◌ {A = ℕ} 0 1 = cc in absurd (omega arith)
sides_of (a ∷ b ∷ c ∷ d ∷ []) l ls e = let z : ◌≡◌ {A = ℕ} 0 1 = cc in absurd (omega arith)
sides_of (a ∷ b ∷ c ∷ d ∷ g ∷ []) l ls e = let z : ◌≡◌ {A = ℕ} 0 1 = cc in absurd (omega arith)
sides_of (a ∷ b ∷ c ∷ d ∷ g ∷ f ∷ ns) l ls e = go (sixes ns) refl
  where
    whole-list : List ℕ
    whole-list = a ∷ b ∷ c ∷ d ∷ g ∷ f ∷ ns

    go : (o : Option (List Literal)) → sixes ns ≡ o → Sides whole-list (l ∷ ls)
    go none p = let q = rw p at e in let z : ◌≡◌ {A = ℕ} 0 1 = cc in absurd (omega arith)
    go (some ms) p =
        let q : some (record { kind = a; triple = b; offset = c; size = d; start = g; end = f } ∷ ms) ≡ some (l ∷ ls) = rw p at e in
        let z : l ≡ record { kind = a; triple = b; offset = c; size = d; start = g; end = f } = cc in
        record {
          mark = ap (λ y. if eqb y.kind 6 then 1 else 0) z;
          first = ap (λ y. y.start) z;
          last = last_of whole-list (l ∷ ls) 0 e (omega arith);
        }

-- OF WHAT A CALLER HOLDS after an acceptance
pub numbers_marked : (look : Naming) (script ns words text : List ℕ) (x : Answer) → (read_numbers look script ns words text).outcome ≡ accepts x → Marked ns (held (read_numbers look script ns words text))
unfolding read_numbers numbers_by read_into called answer_of entry not_empty first_of
numbers_marked look script ns words text x e = rw (numbers_held look script ns words text x e).0 (go (sixes ns) refl)
  where
    some_first : (ls : List Literal) → sixes ns ≡ some ls → read look script ls ≡ accepts x → Marked ns x
    some_first [] i r = no-first (accepted look script [] x r).passed
      where
        no-first : entry script [] ≡ none → Marked ns x
        no-first p = let z : ◌≡◌ {A = ℕ} 0 1 = cc in absurd (omega arith)
    some_first (l ∷ ls) i r =
        let f = accepted look script (l ∷ ls) x r in
        let s = sides_of ns l ls i in
        record {
          marked = ap (λ y. y.u_mark) f.is ∙ s.mark;
          starts = ap (λ y. y.start) f.is ∙ s.first;
          ends = ap (λ y. y.end) f.is ∙ s.last;
          carried = all_cover look script (l ∷ ls) x r;
        }

    go : (o : Option (List Literal)) → sixes ns ≡ o → Marked ns x
    go none i = let h = rw (i, read_numbers, numbers_by) at e in let z : ◌≡◌ {A = ℕ} 0 1 = cc in absurd (omega arith)
    go (some ls) i = some_first ls i (roomed_accepts (length words) (length text) (read look script ls) x (rw (i, read_numbers, numbers_by) at e))
