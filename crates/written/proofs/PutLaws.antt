-- What the writing goes by. Assumes nothing.
use mathlib.Core.Path.{◌≡◌, refl, sym, ◌∙◌, ap}
use mathlib.Core.Bool.{Bool, true, false}
use mathlib.Core.List.{List, [], ◌∷◌, ◌++◌, append_assoc, append-nil}
use Prim.Native.Nat.{ℕ, zero, suc, ◌+◌, ◌^◌, ◌≤◌, ◌<◌}
use native.Mathlib.Omega.{arith}
use lib.ListN.{length, get_or, drop, replicate, length-append, drop_of_length-le}
use lib.Seq.{drop-cons}
use borrow.Author.Tests.{eq-eqb, ne_eqb}
use Rattle.buffers.proofs.Over.{over_nil, over_append, length_over}
use Rattle.definition.specs.Chars.{◌is◌}
use Rattle.definition_written.specs.Written.{Where, top, late, spelled_byte, spelled_text, spelled_conversion}
use Rattle.opens.specs.Opens.{where_of}
use Rattle.written.specs.Puts.{Puts}

pub puts_none : (b : List ℕ) (u : ℕ) → Puts b u [] b u
puts_none b u = record { wrote = sym (over_nil b u); up = omega arith }

pub puts_then : {b : List ℕ} {u : ℕ} {xs ys b' : List ℕ} {u' : ℕ} {b'' : List ℕ} {u'' : ℕ} → Puts b u xs b' u' → Puts b' u' ys b'' u'' → Puts b u (xs ++ ys) b'' u''
puts_then {b} {u} {xs} {ys} p q = record { wrote = q.wrote ∙ rw (p.wrote, p.up) (over_append b u xs ys); up = let x = p.up in let y = q.up in omega (arith, length-append xs ys) }

pub puts_same : {b : List ℕ} {u : ℕ} {xs ys b' : List ℕ} {u' : ℕ} → xs ≡ ys → Puts b u xs b' u' → Puts b u ys b' u'
puts_same e p = rw (← e) p

-- ONE BYTE
module _ (b : ℕ) where
  pub top_two : (b is "{}\\") ≡ true → b ∷ b ∷ [] ≡ spelled_byte top b
  unfolding spelled_byte
  top_two t = rw t refl

  pub top_one : (b is "{}\\") ≡ false → b ∷ [] ≡ spelled_byte top b
  unfolding spelled_byte
  top_one t = rw t refl

  pub late_two : b ≡ 92 → b ∷ b ∷ [] ≡ spelled_byte late b
  unfolding spelled_byte
  late_two t = rw (eq-eqb b 92 t) refl

  pub late_open : (b ≡ 92 → ⊥) → b ≡ 123 → 92 ∷ 120 ∷ 55 ∷ 98 ∷ [] ≡ spelled_byte late b
  unfolding spelled_byte
  late_open n t = rw (ne_eqb b 92 n, eq-eqb b 123 t) refl

  pub late_close : (b ≡ 92 → ⊥) → (b ≡ 123 → ⊥) → b ≡ 125 → 92 ∷ 120 ∷ 55 ∷ 100 ∷ [] ≡ spelled_byte late b
  unfolding spelled_byte
  late_close n m t = rw (ne_eqb b 92 n, ne_eqb b 123 m, eq-eqb b 125 t) refl

  pub late_one : (b ≡ 92 → ⊥) → (b ≡ 123 → ⊥) → (b ≡ 125 → ⊥) → b ∷ [] ≡ spelled_byte late b
  unfolding spelled_byte
  late_one n m t = rw (ne_eqb b 92 n, ne_eqb b 123 m, ne_eqb b 125 t) refl

  pub at_top_lem : (d : ℕ) (l : Bool) → d ≡ 0 → spelled_byte top b ≡ spelled_byte (where_of d l) b
  at_top_lem d l e = rw e refl

  pub at_late : (d : ℕ) (l : Bool) → (d ≡ 0 → ⊥) → l ≡ true → spelled_byte late b ≡ spelled_byte (where_of d l) b
  at_late d l e f = rw (ne_eqb d 0 e, f) refl

  pub at_early : (d : ℕ) (l : Bool) → (d ≡ 0 → ⊥) → l ≡ false → b ∷ [] ≡ spelled_byte (where_of d l) b
  unfolding spelled_byte
  at_early d l e f = rw (ne_eqb d 0 e, f) refl

pub conversion_none : (c : ℕ) → c ≡ 0 → [] ≡ spelled_conversion c
unfolding spelled_conversion
conversion_none c e = rw e refl

pub conversion_some : (c : ℕ) → (c ≡ 0 → ⊥) → 33 ∷ c ∷ [] ≡ spelled_conversion c
unfolding spelled_conversion
conversion_some zero n = absurd (n refl)
conversion_some (suc c) n = refl

-- A TEXT: what was written, then what is left
pub record Putting (b : List ℕ) (used : ℕ) (w : Where) (s : List ℕ) (b' : List ℕ) (u i : ℕ) : Type 0 where
  pub done : List ℕ
  pub put : Puts b used done b' u
  pub rest : done ++ spelled_text w (drop i s) ≡ spelled_text w s

pub putting_starts : (b : List ℕ) (used : ℕ) (w : Where) (s : List ℕ) → Putting b used w s b used 0
putting_starts b used w s = record { done = []; put = puts_none b used; rest = refl }

module _ (b : List ℕ) (used : ℕ) (w : Where) (s : List ℕ) (b' : List ℕ) (u i : ℕ) (P : Putting b used w s b' u i) where
  pub putting_small : used + length (spelled_text w s) ≤ 2 ^ 40 → u ≤ 2 ^ 40
  putting_small h = let x = P.put.up in omega (arith, ap length P.rest, length-append P.done (spelled_text w (drop i s)))

  pub putting_on : i < length s → (b'' : List ℕ) (u'' : ℕ) → Puts b' u (spelled_byte w (get_or s i 0)) b'' u'' → Putting b used w s b'' u'' (i + 1)
  unfolding spelled_text
  putting_on h b'' u'' q =
      let n : i + 1 ≡ suc i = omega arith in
      record {
        done = P.done ++ spelled_byte w (get_or s i 0);
        put = puts_then P.put q;
        rest =
            append_assoc P.done (spelled_byte w (get_or s i 0)) (spelled_text w (drop (i + 1) s))
            ∙ ap (λ z. P.done ++ z) (ap (λ k. spelled_text w (get_or s i 0 ∷ drop k s)) n ∙ ap (spelled_text w) (sym (drop-cons s i 0 h))) ∙ P.rest;
      }

  pub putting_ends : length s ≤ i → Puts b used (spelled_text w s) b' u
  unfolding spelled_text
  putting_ends h = puts_same (sym (append-nil P.done) ∙ ap (λ z. P.done ++ spelled_text w z) (sym (drop_of_length-le s h)) ∙ P.rest) P.put

  pub putting_kept : length b' ≡ length b
  putting_kept = ap length P.put.wrote ∙ length_over b used P.done

-- CLOSERS
pub closers_none : (n : ℕ) → n ≡ 0 → ◌≡◌ {A = List ℕ} [] (replicate n 125)
closers_none n e = rw e refl

pub closers_one : (n : ℕ) → n ≡ 1 → ◌≡◌ {A = List ℕ} (125 ∷ []) (replicate n 125)
closers_one n e = rw e refl

pub closers_two : (n : ℕ) → n ≤ 2 → (n ≡ 0 → ⊥) → (n ≡ 1 → ⊥) → ◌≡◌ {A = List ℕ} (125 ∷ 125 ∷ []) (replicate n 125)
closers_two n h a b = let e : n ≡ 2 = omega (arith, a, b) in rw e refl

pub conversion_small : (c : ℕ) → length (spelled_conversion c) ≤ 2
unfolding spelled_conversion
conversion_small zero = omega arith
conversion_small (suc c) = omega arith
