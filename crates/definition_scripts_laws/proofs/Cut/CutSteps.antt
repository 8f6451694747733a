-- What the cut does at each move, whatever moves are left: the equations that code is proved by. Assumes nothing.
use mathlib.Core.Path.{◌≡◌, refl, ap}
use mathlib.Core.List.{List, [], ◌∷◌, ◌++◌, append_assoc}
use Prim.Native.Nat.{ℕ, zero, suc, ◌+◌, ◌-◌, ◌<◌}
use native.Mathlib.Omega.{arith}
use lib.ListN.{length}
use Rattle.definition.specs.Entry.{Literal, Refusal}
use Rattle.definition.specs.Reading.{Outcome, accepts, refuses}
use Rattle.definition_scripts.specs.Literals.{literal_at}
use Rattle.definition_scripts.specs.IsCut.{reaches_end, breaks_off}
use Rattle.definition_scripts.specs.Cut.{CutCase, over, comment, literal, other, cut_case, comment_end, Cut, first_cut, cut_n, cut_from}
use Rattle.definition_scripts_laws.proofs.Literals.LiteralFound.{LiteralAt, literal_at_lem, literal_lies}
use Rattle.definition_scripts_laws.proofs.Literals.RunLaws.{sign_in}
use Rattle.definition_scripts_laws.proofs.Cut.CutLaws.{comment_past, CutFacts, cut_facts, begins_known}

module _ (s : List ℕ) where
  -- the literal that is found where one begins leaves less
  less : (i : ℕ) (l : Literal) → LiteralAt s i (accepts l) → length s - l.end < length s - i
  less i l p =
      let w = literal_lies s l p.1 in
      let a = w.ahead in
      let b = w.within in
      let z = p.0 in omega arith

  cut_fuel : (n m i : ℕ) → length s - i < n → length s - i < m → cut_n n s i ≡ cut_n m s i
  unfolding cut_n
  cut_fuel zero m i h k = absurd (omega arith)
  cut_fuel (suc n) zero i h k = absurd (omega arith)
  cut_fuel (suc n) (suc m) i h k = go (cut_fuel n m) (cut_case s i) refl (cut_facts s i)
    where
      Same : Type 0
      Same = (j : ℕ) → length s - j < n → length s - j < m → cut_n n s j ≡ cut_n m s j

      found : Same → cut_case s i ≡ literal → (o : Outcome Literal) → literal_at s i ≡ o → LiteralAt s i o → cut_n (suc n) s i ≡ cut_n (suc m) s i
      found ih e (refuses r) f p = rw (e, f, cut_n)
      found ih e (accepts l) f p = let a = less i l p in rw (e, f, cut_n) (ap (first_cut l) (ih l.end (omega arith) (omega arith)))

      go : Same → (x : CutCase) → cut_case s i ≡ x → CutFacts s i (cut_case s i) → cut_n (suc n) s i ≡ cut_n (suc m) s i
      go ih over e f = rw (e, cut_n)
      go ih comment e f =
          let l = sign_in s i (rw e at f) in
          let a = comment_past s i (rw e at f) in
          rw (e, cut_n) (ih (comment_end s i) (omega arith) (omega arith))
      go ih literal e f = found ih e (literal_at s i) refl (literal_at_lem s i (begins_known s i (rw e at f)))
      go ih other e f = let l = (rw e at f).0 in rw (e, cut_n) (ih (i + 1) (omega arith) (omega arith))

  module _ (i : ℕ) where
    pub cut_over : cut_case s i ≡ over → cut_from s i ≡ record { literals = []; ending = reaches_end }
    unfolding cut_from cut_n
    cut_over e = rw (e, cut_n)

    pub cut_comment : cut_case s i ≡ comment → cut_from s i ≡ cut_from s (comment_end s i)
    unfolding cut_from cut_n
    cut_comment e =
        let f = rw e at (cut_facts s i) in
        let l = sign_in s i f in
        let a = comment_past s i f in
        rw (e, cut_n) (cut_fuel (length s) (suc (length s)) (comment_end s i) (omega arith) (omega arith))

    pub cut_other : cut_case s i ≡ other → cut_from s i ≡ cut_from s (i + 1)
    unfolding cut_from cut_n
    cut_other e =
        let l = (rw e at (cut_facts s i)).0 in
        rw (e, cut_n) (cut_fuel (length s) (suc (length s)) (i + 1) (omega arith) (omega arith))

    pub cut_breaks : (r : Refusal) → cut_case s i ≡ literal → literal_at s i ≡ refuses r → cut_from s i ≡ record { literals = []; ending = breaks_off r.number r.place }
    unfolding cut_from cut_n
    cut_breaks r e f = rw (e, f, cut_n)

    pub cut_goes : (l : Literal) → cut_case s i ≡ literal → literal_at s i ≡ accepts l → cut_from s i ≡ first_cut l (cut_from s l.end)
    unfolding cut_from cut_n
    cut_goes l e f =
        let p : LiteralAt s i (accepts l) = rw f at (literal_at_lem s i (begins_known s i (rw e at (cut_facts s i)))) in
        let a = less i l p in
        rw (e, f, cut_n) (ap (first_cut l) (cut_fuel (length s) (suc (length s)) l.end (omega arith) (omega arith)))

-- a loop keeps: the literals that it has, in front of what there is from here on
unfoldable pub cut_after : List Literal → Cut → Cut
cut_after ls c = record { literals = ls ++ c.literals; ending = c.ending }

pub cut_after_lem : (ls : List Literal) (l : Literal) (c : Cut) → cut_after ls (first_cut l c) ≡ cut_after (ls ++ l ∷ []) c
unfolding cut_after first_cut
cut_after_lem ls l c = rw (append_assoc ls (l ∷ []) c.literals)
