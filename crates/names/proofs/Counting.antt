-- Names counted, line by line. Assumes nothing.
use Rattle.std.specs.Prelude as p
use Rattle.std.specs.Prelude.{Some, None}
use mathlib.Core.Path.{◌≡◌, refl, sym, ap, ◌∙◌}
use mathlib.Core.List.{List}
use mathlib.Core.Option.{Option, none, some}
use Prim.Native.Nat.{ℕ, suc, ◌+◌, ◌≤◌}
use native.Mathlib.Omega.{arith}
use lib.ListN.{length}
use Rattle.definition_names.specs.Names.{Entry, names, with_line, named_from, named}
use Rattle.definition_names.proofs.NameLines.{from_end}
use Rattle.names.specs.Answers.{count_of}

abbrev plus : ℕ → p.Option ℕ → p.Option ℕ
plus n None = None
plus n (Some m) = Some (n + m)

plus_none : (c : p.Option ℕ) → c ≡ plus 0 c
plus_none None = refl
plus_none (Some m) = let e : m ≡ 0 + m = omega arith in rw (← e)

plus_one : (n p : ℕ) (name : List ℕ) (v : ℕ) (es : Option (List Entry)) → plus n (count_of (with_line p (names name v) es)) ≡ plus (n + 1) (count_of es)
plus_one n p name v none = refl
plus_one n p name v (some es) = let e : n + suc (length es) ≡ n + 1 + length es = omega arith in rw e

-- n names up to p
pub record Counting (file : List ℕ) (p n : ℕ) : Type 0 where
  pub few : n ≤ p
  pub inside : p ≤ length file
  pub same : count_of (named file) ≡ plus n (count_of (named_from file p))

module _ (file : List ℕ) (p n : ℕ) (g : Counting file p n) where
  pub count_end : length file ≤ p → Some n ≡ count_of (named file)
  count_end h = sym (g.same ∙ ap (λ (o : Option (List Entry)). plus n (count_of o)) (from_end file p h) ∙ zero_more n)
    where
      zero_more : (n : ℕ) → Some (n + 0) ≡ Some n
      zero_more n = let e : n + 0 ≡ n = omega arith in rw e
