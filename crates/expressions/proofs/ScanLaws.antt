-- What the scan of an expression goes by. Assumes nothing.
use mathlib.Core.Path.{◌≡◌, refl, sym, ◌∙◌, ap}
use mathlib.Core.Bool.{Bool, true, false, ◌&&◌, not}
use mathlib.Core.List.{List, [], ◌∷◌}
use Prim.Native.Nat.{ℕ, zero, suc, ◌+◌, ◌-◌, ◌≤◌, ◌<◌}
use native.Mathlib.Omega.{arith}
use native.Mathlib.Numerals.{add-one}
use lib.Dec.{eqb}
use lib.ListN.{length, get_or, set, drop, length-set, get_or-eq_default}
use lib.Seq.{get_or-set_same, get_or-set_other}
use borrow.Author.Tests.{lt-leb, le-leb, eq-eqb, eqb-true, ne_eqb}
use Rattle.definition.proofs.Moves.CharLaws.{cases, either, byte_is}
use Rattle.definition.specs.Chars.{◌is◌, byte}
use Rattle.definition.specs.Matched.{Seen, clear, pairs, closed, see, settled}
use Rattle.definition_written.specs.ReadsBack.{is_open, few_open, clean}
use Rattle.expressions.proofs.CleanLaws.{clean_over, clean_pair, clean_byte}
use Rattle.std.specs.Prelude.{Some, None}
use Rattle.expressions.specs.Scans.{opens, state_of, Keeps}

length_opens : (stack : List ℕ) (d : ℕ) → length (opens stack d) ≡ d
unfolding opens
length_opens stack zero = refl
length_opens stack (suc d) = ap suc (length_opens stack d)

opens_set : (stack : List ℕ) (d m b : ℕ) → d ≤ m → opens (set stack m b) d ≡ opens stack d
unfolding opens
opens_set stack zero m b h = refl
opens_set stack (suc d) m b h = rw (get_or-set_other stack m d b 0 (λ (e : d ≡ m). omega arith), opens_set stack d m b (omega arith))

opens_more : (stack : List ℕ) (d b : ℕ) → d < length stack → opens (set stack d b) (d + 1) ≡ b ∷ opens stack d
unfolding opens
opens_more stack d b h = rw (add-one d, get_or-set_same stack d b 0 h, opens_set stack d d b (omega arith))

opens_less : (stack : List ℕ) (d : ℕ) → 0 < d → opens stack d ≡ get_or stack (d - 1) 0 ∷ opens stack (d - 1)
unfolding opens
opens_less stack zero h = absurd (omega arith)
opens_less stack (suc d) h = let e : suc d - 1 ≡ d = omega arith in rw e refl

-- what is clean so far, and what is not
clean_so : {x : Seen} {stack : List ℕ} {q d : ℕ} → length stack ≡ 64 → d ≤ 64 → x ≡ state_of stack q d → Keeps x stack (Some (record { quote = q; depth = d }))
clean_so l h e = record { is = (h, e); full = l }

not_clean : {x : Seen} {stack : List ℕ} → length stack ≡ 64 → few_open x ≡ false → Keeps x stack None
not_clean l e = record { is = e; full = l }

quote_some : (b : ℕ) → (b is "\"'") ≡ true → eqb b 0 ≡ false
quote_some b t =
    either (eqb b 34) (eqb b 39) t (λ e. ne_eqb b 0 (λ (z : b ≡ 0). let k = eqb-true b 34 e in omega arith)) (λ e. ne_eqb b 0 (λ (z : b ≡ 0). let k = eqb-true b 39 e in omega arith))

module _ (stack : List ℕ) (l : length stack ≡ 64) (d : ℕ) (h : d ≤ 64) (b : ℕ) where
  pub sees_quote : (b is "\"'") ≡ true → Keeps (see (clear (opens stack d)) b) stack (Some (record { quote = b; depth = d }))
  unfolding see state_of
  sees_quote t = clean_so l h (rw (t, quote_some b t) refl)

  pub sees_full : (b is "\"'") ≡ false → (b is "([{") ≡ true → 64 ≤ d → Keeps (see (clear (opens stack d)) b) stack None
  unfolding see few_open
  sees_full t u k = not_clean l (rw (t, u) (lt-leb (suc (length (opens stack d))) 64 (omega (arith, length_opens stack d))))

  pub sees_opener : (b is "\"'") ≡ false → (b is "([{") ≡ true → d < 64 → Keeps (see (clear (opens stack d)) b) (set stack d b) (Some (record { quote = 0; depth = d + 1 }))
  unfolding see state_of
  sees_opener t u k = clean_so (length-set stack d b ∙ l) (omega arith) (rw (t, u) (ap clear (sym (opens_more stack d b (omega arith)))))

  pub sees_stray : (b is "\"'") ≡ false → (b is "([{") ≡ false → (b is ")]}") ≡ true → d ≡ 0 → Keeps (see (clear (opens stack d)) b) stack None
  unfolding see closed opens few_open
  sees_stray t u v e = not_clean l (rw (t, u, v, e) refl)

  pub sees_closer : (b is "\"'") ≡ false → (b is "([{") ≡ false → (b is ")]}") ≡ true → 0 < d → pairs (get_or stack (d - 1) 0) b ≡ true → Keeps (see (clear (opens stack d)) b) stack (Some (record { quote = 0; depth = d - 1 }))
  unfolding see closed state_of
  sees_closer t u v k e = clean_so l (omega arith) (rw (t, u, v, opens_less stack d k) (rw (e, closed) refl))

  pub sees_other : (b is "\"'") ≡ false → (b is "([{") ≡ false → (b is ")]}") ≡ true → 0 < d → pairs (get_or stack (d - 1) 0) b ≡ false → Keeps (see (clear (opens stack d)) b) stack None
  unfolding see closed few_open
  sees_other t u v k e = not_clean l (rw (t, u, v, opens_less stack d k) (rw (e, closed) refl))

  pub sees_backslash : (b is "\"'") ≡ false → (b is "([{") ≡ false → (b is ")]}") ≡ false → b ≡ 92 → Keeps (see (clear (opens stack d)) b) stack None
  unfolding see few_open
  sees_backslash t u v e = not_clean l (rw (t, u, v, eq-eqb b 92 e) refl)

  pub sees_plain : (b is "\"'") ≡ false → (b is "([{") ≡ false → (b is ")]}") ≡ false → (b ≡ 92 → ⊥) → Keeps (see (clear (opens stack d)) b) stack (Some (record { quote = 0; depth = d }))
  unfolding see state_of
  sees_plain t u v e = clean_so l h (rw (t, u, v, ne_eqb b 92 e) refl)

  -- in a run, and at its end
  pub sees_end : (q : ℕ) → (q ≡ 0 → ⊥) → b ≡ q → Keeps (see (state_of stack q d) b) stack (Some (record { quote = 0; depth = d }))
  unfolding see state_of
  sees_end q z e = clean_so l h (rw (ne_eqb q 0 z) (rw (eq-eqb b q e) refl))

  pub sees_run : (q : ℕ) → (q ≡ 0 → ⊥) → (b ≡ q → ⊥) → Keeps (see (state_of stack q d) b) stack (Some (record { quote = q; depth = d }))
  unfolding see state_of
  sees_run q z e = clean_so l h (rw (ne_eqb q 0 z) (rw (ne_eqb b q e) refl))

pub outside_runs : (stack : List ℕ) (q d : ℕ) → q ≡ 0 → state_of stack q d ≡ clear (opens stack d)
unfolding state_of
outside_runs stack q d e = rw (eq-eqb q 0 e) refl

-- THE LOOP. At the end, at a pair, and at any other byte
settled_none : (stack : List ℕ) (d : ℕ) → settled (clear (opens stack d)) ≡ eqb d 0
unfolding opens settled
settled_none stack zero = refl
settled_none stack (suc d) = sym (ne_eqb (suc d) 0 (λ (e : suc d ≡ 0). omega arith))

pub settled_state : (stack : List ℕ) (q d : ℕ) → settled (state_of stack q d) ≡ (eqb q 0 && eqb d 0)
unfolding state_of settled
settled_state stack q d = cases (eqb q 0) (λ e. rw e (settled_none stack d)) (λ e. rw e refl)

pub open_state : (stack : List ℕ) (q d : ℕ) → is_open (state_of stack q d) ≡ eqb q 0
unfolding state_of is_open
open_state stack q d = cases (eqb q 0) (λ e. rw e refl) (λ e. rw e refl)

few_state : (stack : List ℕ) (q d : ℕ) → d ≤ 64 → few_open (state_of stack q d) ≡ true
unfolding state_of few_open
few_state stack q d h = cases (eqb q 0) (λ e. rw e (le-leb (length (opens stack d)) 64 (omega (arith, length_opens stack d)))) (λ e. rw e refl)

module _ (s : List ℕ) (stack : List ℕ) (q d : ℕ) (i : ℕ) where
  abbrev rest : ℕ → Bool
  rest k = clean false (state_of stack q d) (drop k s)

  pub scan_over : length s ≤ i → (eqb q 0 && eqb d 0) ≡ rest i
  scan_over h = sym (clean_over s (state_of stack q d) i h ∙ settled_state stack q d)

  pub scan_pair : i < length s → (eqb q 0 && byte s i is "!=><" && byte s (i + 1) is "=") ≡ true → rest i ≡ rest (i + 1 + 1)
  scan_pair h t = clean_pair s (state_of stack q d) i h (rw (open_state stack q d) t)

  one_byte : i < length s → (eqb q 0 && byte s i is "!=><" && byte s (i + 1) is "=") ≡ false
      → rest i ≡ (not ((eqb q 0 && eqb d 0) && get_or s i 0 is "!=:") && few_open (see (state_of stack q d) (get_or s i 0)) && clean false (see (state_of stack q d) (get_or s i 0)) (drop (i + 1) s))
  one_byte h t =
      clean_byte s (state_of stack q d) i h (rw (open_state stack q d) t)
      ∙ ap (λ b. not (settled (state_of stack q d) && b is "!=:") && few_open (see (state_of stack q d) b) && clean false (see (state_of stack q d) b) (drop (i + 1) s)) (sym (byte_is s i (omega arith)))
      ∙ ap (λ z. not (z && get_or s i 0 is "!=:") && few_open (see (state_of stack q d) (get_or s i 0)) && clean false (see (state_of stack q d) (get_or s i 0)) (drop (i + 1) s)) (settled_state stack q d)

  pub scan_sign : i < length s → (eqb q 0 && byte s i is "!=><" && byte s (i + 1) is "=") ≡ false → (eqb q 0 && eqb d 0 && get_or s i 0 is "!=:") ≡ true → false ≡ rest i
  scan_sign h t u = sym (one_byte h t ∙ rw u refl)

  pub scan_off : i < length s → (eqb q 0 && byte s i is "!=><" && byte s (i + 1) is "=") ≡ false → (eqb q 0 && eqb d 0 && get_or s i 0 is "!=:") ≡ false → few_open (see (state_of stack q d) (get_or s i 0)) ≡ false → false ≡ rest i
  scan_off h t u f = sym (one_byte h t ∙ rw (u, f) refl)

  pub scan_on : i < length s → (eqb q 0 && byte s i is "!=><" && byte s (i + 1) is "=") ≡ false → (eqb q 0 && eqb d 0 && get_or s i 0 is "!=:") ≡ false
      → (stack' : List ℕ) (q' d' : ℕ) → d' ≤ 64 → see (state_of stack q d) (get_or s i 0) ≡ state_of stack' q' d' → rest i ≡ clean false (state_of stack' q' d') (drop (i + 1) s)
  scan_on h t u stack' q' d' l e = one_byte h t ∙ rw (u, e, few_state stack' q' d' l) refl

-- PAIRS, by the tests in order
module _ (s : List ℕ) (i q : ℕ) where
  abbrev paired : Bool
  paired = eqb q 0 && byte s i is "!=><" && byte s (i + 1) is "="

  pub pair_none : (q ≡ 0 → ⊥) → false ≡ paired
  pair_none h = rw (ne_eqb q 0 h) refl

  pub pair_other : i < length s → q ≡ 0 → (get_or s i 0 is "!=><") ≡ false → false ≡ paired
  pair_other h z t = rw (eq-eqb q 0 z, sym (ap (λ b. b is "!=><") (byte_is s i h)) ∙ t) refl

  pub pair_at : (r : Bool) → i < length s → q ≡ 0 → (get_or s i 0 is "!=><") ≡ true → r ≡ byte s (i + 1) is "=" → r ≡ paired
  pair_at r h z t e = rw (eq-eqb q 0 z, sym (ap (λ b. b is "!=><") (byte_is s i h)) ∙ t) e

pub equals_at : (s : List ℕ) (i : ℕ) → i < length s → eqb (get_or s i 0) 61 ≡ byte s i is "="
equals_at s i h = ap (λ b. eqb b 61) (byte_is s i h)

pub equals_past : (s : List ℕ) (i : ℕ) → length s ≤ i → false ≡ byte s i is "="
equals_past s i h = rw (get_or-eq_default s 256 h) refl

pub scan_from : (s : List ℕ) (stack : List ℕ) → clean false (clear []) s ≡ clean false (state_of stack 0 0) s
unfolding state_of opens
scan_from s stack = refl
