-- A cut over what is neither a literal nor a comment. Assumes nothing.
use mathlib.Core.Path.{◌≡◌, refl, sym, ◌∙◌}
use mathlib.Core.Bool.{true, false}
use mathlib.Core.List.{List}
use Prim.Native.Nat.{ℕ, zero, suc, ◌+◌, ◌-◌, ◌≤◌, ◌<◌}
use native.Mathlib.Omega.{arith}
use borrow.Author.Tests.{lt-leb, le-leb, ltb-true, ltb-false, ne_eqb, not-true}
use lib.Dec.{ltb, eqb}
use lib.ListN.{length, get_or, get_or-eq_default}
use Rattle.definition.specs.Chars.{byte}
use Rattle.definition_scripts.specs.Opening.{is_quote, opens, is_sign, first_at, is_word, apart}
use Rattle.definition_scripts.specs.Cut.{begins, over, comment, literal, other, cut_case, cut_from}
use Rattle.definition.proofs.Moves.CharLaws.{cases, no, byte_is, before_in, before_end, first_fails, first_passes}
use Rattle.definition_scripts_laws.proofs.Cut.CutSteps.{cut_other}
use Rattle.scans.specs.Scans.{cut_mark}
use Rattle.gaps.proofs.Prefixes.{one_none, first_none, second_none}
use Rattle.gaps.specs.Gaps.{Skips, Reaches}

-- a byte that is no mark is neither a quote nor a `#`
no_quote : (c : ℕ) → cut_mark c ≡ false → is_quote c ≡ false
no_quote c e = cases (eqb c 39) (λ t. no (sym (rw t at e))) (λ t. cases (eqb c 34) (λ u. no (sym (rw (t, u) at e))) (λ u. rw (t, u)))

no_sign : (c : ℕ) → cut_mark c ≡ false → is_sign c ≡ false
no_sign c e =
    cases (eqb c 39) (λ t. no (sym (rw t at e)))
    (λ t. cases (eqb c 34) (λ u. no (sym (rw (t, u) at e))) (λ u. cases (eqb c 35) (λ v. no (sym (rw (t, u, v) at e))) (λ v. v)))

-- a mark that is no `#` is a quote
is_quote_lem : (c : ℕ) → cut_mark c ≡ true → is_sign c ≡ false → is_quote c ≡ true
is_quote_lem c e f = cases (eqb c 39) (λ t. rw t) (λ t. cases (eqb c 34) (λ u. rw (t, u)) (λ u. no (rw (t, u, f) at e)))

module _ (s : List ℕ) where
  -- past the end there is none
  past_end : (i : ℕ) → length s ≤ i → cut_mark (byte s i) ≡ false
  past_end i h = let e : byte s i ≡ 256 = get_or-eq_default s 256 h in rw e

  -- what stands at a place
  module _ (i : ℕ) where
    pub case_over : length s ≤ i → cut_case s i ≡ over
    unfolding cut_case
    case_over h = rw (le-leb (length s) i h)

    pub case_comment : i < length s → get_or s i 0 ≡ 35 → cut_case s i ≡ comment
    unfolding cut_case
    case_comment l e = rw (lt-leb (length s) i l, ← byte_is s i l, e)

    pub case_literal : i < length s → is_sign (byte s i) ≡ false → begins s i ≡ true → cut_case s i ≡ literal
    unfolding cut_case
    case_literal l f e = rw (lt-leb (length s) i l, f, e)

    case_other : i < length s → is_sign (byte s i) ≡ false → begins s i ≡ false → cut_case s i ≡ other
    unfolding cut_case
    case_other l f e = rw (lt-leb (length s) i l, f, e)

  -- where three bytes are no marks, none begins
  none_here : (i : ℕ) → ((m : ℕ) → i ≤ m → m < i + 3 → cut_mark (byte s m) ≡ false) → begins s i ≡ false
  unfolding begins opens
  none_here i n =
      rw (no_quote (byte s i) (n i (omega arith) (omega arith)), no_quote (byte s (i + 1)) (n (i + 1) (omega arith) (omega arith)), no_quote (byte s (i + 2)) (n (i + 2) (omega arith) (omega arith)))

  -- up to two bytes before the first mark
  passes : (n i j : ℕ) → i + n ≡ j → j ≤ length s → ((m : ℕ) → i ≤ m → m < j + 2 → cut_mark (byte s m) ≡ false) → cut_from s i ≡ cut_from s j
  passes zero i j e l c = let z : i ≡ j = omega arith in rw z
  passes (suc n) i j e l c =
      cut_other s i (case_other i (omega arith) (no_sign (byte s i) (c i (omega arith) (omega arith))) (none_here i (λ m a b. c m a (omega arith))))
      ∙ passes n (i + 1) j (omega arith) l (λ m a b. c m (omega arith) b)

  -- a mark that begins no comment begins a literal
  quoted : (j : ℕ) → cut_mark (byte s j) ≡ true → is_sign (byte s j) ≡ false → begins s j ≡ true
  unfolding begins opens
  quoted j m f = rw (is_quote_lem (byte s j) m f)

  -- a byte of no word before a mark: no prefix of one letter, and none of two
  no_word : (end : ℕ) → 1 ≤ end → apart s end ≡ true → is_word (byte s (end - 1)) ≡ false
  unfolding apart
  no_word end h a = not-true (is_word (byte s (end - 1))) (rw (ne_eqb end 0 (λ z. omega arith)) at a)

  none_last : (k : ℕ) → cut_mark (byte s k) ≡ false → is_word (byte s k) ≡ false → begins s k ≡ false
  unfolding begins opens
  none_last k m w =
      cases (is_quote (byte s (k + 1))) (λ t. rw (no_quote (byte s k) m, t, one_none (byte s k) w))
      (λ t. cases (is_quote (byte s (k + 2))) (λ u. rw (no_quote (byte s k) m, t, u, first_none (byte s k) w (byte s (k + 1)))) (λ u. rw (no_quote (byte s k) m, t, u)))

  none_first : (j k : ℕ) → j + 1 ≡ k → cut_mark (byte s j) ≡ false → cut_mark (byte s k) ≡ false → is_word (byte s k) ≡ false → begins s j ≡ false
  unfolding begins opens
  none_first j k e m n w =
      cases (is_quote (byte s (j + 2))) (λ u. rw (no_quote (byte s j) m, e, no_quote (byte s k) n, u, second_none (byte s k) w (byte s j))) (λ u. rw (no_quote (byte s j) m, e, no_quote (byte s k) n, u))

  pub stays : (i : ℕ) → Skips s i i
  stays i = record { ahead = omega arith; same = refl }

  -- A cut at i, whose first mark from there on stands at `end`
  module _ (i end : ℕ) (e : end ≡ first_at cut_mark s i) where
    -- it is at most the script's end, unless i is past that
    within : i < end → end ≤ length s
    within h =
        cases (ltb (length s) i) (λ t. let l = ltb-true (length s) i t in absurd (omega (arith, before_end cut_mark s i 0 (omega arith))))
        (λ t. omega (arith, before_in cut_mark s i (ltb-false (length s) i t)))

    pub near_starts : (j : ℕ) → i ≤ j → (i < j → j + 2 ≤ end) → Skips s i j
    near_starts j h k =
        cases (ltb i j)
        (λ t.
        let l = k (ltb-true i j t) in
        let w = within (omega arith) in
        record { ahead = h; same = passes (j - i) i j (omega arith) (omega arith) (λ m a b. first_fails cut_mark s i m a (omega arith)) })
        (λ t. let l = ltb-false i j t in let z : i ≡ j = omega arith in rw (← z) (stays i))

    pub near_goes : (j : ℕ) → j < end → begins s j ≡ false → Skips s i j → Skips s i (j + 1)
    near_goes j h f p =
        let a = p.ahead in
        let w = within (omega arith) in
        record { ahead = omega arith; same = p.same ∙ cut_other s j (case_other j (omega arith) (no_sign (byte s j) (first_fails cut_mark s i j a (omega arith))) f) }

    -- where the script ends without a mark, there is no prefix
    pub near_past : length s ≤ end → Skips s i end
    near_past h =
        cases (ltb i end)
        (λ t.
        let l = ltb-true i end t in
        record { ahead = omega arith; same = passes (end - i) i end (omega arith) (within l) (λ m a b. cases (ltb m end) (λ u. let v = ltb-true m end u in first_fails cut_mark s i m a (omega arith)) (λ u. let v = ltb-false m end u in past_end m (omega arith))) })
        (λ t. let l = ltb-false i end t in let z : i ≡ end = omega (arith, e) in rw (← z) (stays i))

    -- where a byte of no word stands before the mark, there is no prefix
    pub near_apart : apart s end ≡ true → Skips s i end
    near_apart a =
        cases (ltb i end) (λ t. inside (ltb-true i end t))
        (λ t. let l = ltb-false i end t in let z : i ≡ end = omega (arith, e) in rw (← z) (stays i))
      where
        clear : (k : ℕ) → i ≤ k → k < end → cut_mark (byte s k) ≡ false
        clear k l m = first_fails cut_mark s i k l (omega arith)

        inside : i < end → Skips s i end
        inside l =
            let w = no_word end (omega arith) a in
            let z : end - 1 + 1 ≡ end = omega arith in
            rw z at (near_goes (end - 1) (omega arith) (none_last (end - 1) (clear (end - 1) (omega arith) (omega arith)) w)
            (cases (ltb i (end - 1))
            (λ t.
            let m = ltb-true i (end - 1) t in
            let y : end - 2 + 1 ≡ end - 1 = omega arith in
            rw y at (near_goes (end - 2) (omega arith) (none_first (end - 2) (end - 1) y (clear (end - 2) (omega arith) (omega arith)) (clear (end - 1) (omega arith) (omega arith)) w) (near_starts (end - 2) (omega arith) (λ n. omega arith))))
            (λ t. let m = ltb-false i (end - 1) t in let x : i ≡ end - 1 = omega arith in rw (← x) (stays i))))

    pub near_ends : (j : ℕ) → j ≤ end → end ≤ j → Skips s i j → Reaches s i end
    near_ends j h k p = let z : j ≡ end = omega arith in record { skips = rw z at p; stands = λ l f. quoted end (rw (← e) at (first_passes cut_mark s i (rw (← e) l))) f }
