-- The characters of well-formed text are the bytes that begin one. Assumes nothing.
use mathlib.Core.Path.{◌≡◌, refl, sym, ◌∙◌, ap, subst}
use mathlib.Core.Bool.{true}
use mathlib.Core.List.{List}
use Prim.Native.Nat.{ℕ, zero, suc, ◌+◌, ◌-◌, ◌≤◌, ◌<◌}
use native.Mathlib.Omega.{arith}
use borrow.Author.Tests.{lt-leb, leb-true, leb-false}
use lib.Dec.{leb}
use lib.ListN.{length}
use Rattle.definition.specs.Chars.{byte, ◌to◌, inside, width, next, formed_from, well_formed}
use Rattle.definition.specs.Counts.{counted}
use Rattle.definition.proofs.Moves.CharLaws.{cases, inside_true, inside_yes, inside_not, tail_none, between, width_in, width_end}
use Rattle.definition_laws.proofs.Moves.Counted.{Reached, start, step, counted_none, step_chars}
use Rattle.ascii.specs.Runs.{Below, Ascii, all_ascii}
use Rattle.ascii.proofs.Runs.{below_all}
use Rattle.counts.specs.Heads.{head_of, heads_from}
use Rattle.counts.proofs.HeadLaws.{heads_append, heads_none}
use Rattle.prefixes.proofs.Formed.{begun, ended}

head_ascii : (b : ℕ) → b < 0x80 → head_of b ≡ 1
unfolding head_of
head_ascii b h = rw (inside_not 0x80 0xBF b (λ p q. omega arith)) refl

head_tail : (b : ℕ) → 0x80 ≤ b → b ≤ 0xBF → head_of b ≡ 0
unfolding head_of
head_tail b h k = rw (inside_yes 0x80 0xBF b h k) refl

head_one : (s : List ℕ) (i w : ℕ) → width s i ≡ suc w → head_of (byte s i) ≡ 1
unfolding head_of
head_one s i w e =
    cases (inside (0x80 to 0xBF) (byte s i)) (λ t. let z = tail_none s i (inside_true 0x80 0xBF (byte s i) t) in absurd (omega arith)) (λ t. rw t refl)

module _ (s : List ℕ) where
  -- of a run of ASCII, all
  heads_ascii : (n i : ℕ) → Below 0x80 s i (i + n) → heads_from n s i ≡ n
  unfolding heads_from
  heads_ascii zero i b = refl
  heads_ascii (suc n) i b =
      omega (arith, head_ascii (byte s i) (b i (omega arith) (omega arith)), heads_ascii n (i + 1) (λ k h l. b k (omega arith) (omega arith)))

  -- of what follows a character's first byte, none
  heads_tails : (n i : ℕ) → ((k : ℕ) → i ≤ k → k < i + n → (0x80 ≤ byte s k) × (byte s k ≤ 0xBF)) → heads_from n s i ≡ 0
  unfolding heads_from
  heads_tails zero i b = refl
  heads_tails (suc n) i b =
      let t = b i (omega arith) (omega arith) in
      omega (arith, head_tail (byte s i) t.0 t.1, heads_tails n (i + 1) (λ k h l. b k (omega arith) (omega arith)))

  -- the step reaches i, and the characters up to there are told by the bytes
  record Headed (i : ℕ) : Type 0 where
    reached : Reached s i
    within : i ≤ length s
    told : (counted s i).chars ≡ heads_from i s 0

  headed_step : (i w : ℕ) → Headed i → width s i ≡ suc w → Headed (i + suc w)
  unfolding next heads_from
  headed_step i w H e = subst Headed n (record { reached = step H.reached l; within = omega (arith, n, width_in s i H.within); told = chars })
    where
      l : i < length s
      l = cases (leb (length s) i) (λ t. let z = width_end s i (leb-true _ _ t) in absurd (omega arith)) (λ t. leb-false _ _ t)

      n : next s i ≡ i + suc w
      n = rw (lt-leb (length s) i l, e) (omega arith)

      chars : (counted s (next s i)).chars ≡ heads_from (next s i) s 0
      chars =
          let z : 0 + i ≡ i = omega arith in
          let tails = heads_tails w (i + 1) (λ k a b. between s i k (omega arith) (omega (arith, n))) in
          let split = heads_append s i (suc w) 0 in
          step_chars s i H.reached l ∙ rw n (omega (arith, H.told, split, ap (heads_from (suc w) s) z, head_one s i w e, tails))

  headed_formed : (f i : ℕ) → Headed i → Headed (formed_from f s i)
  unfolding formed_from
  headed_formed zero i H = H
  headed_formed (suc f) i H = go (width s i) refl (λ j. headed_formed f j)
    where
      go : (w : ℕ) → width s i ≡ w → ((j : ℕ) → Headed j → Headed (formed_from f s j)) → Headed (formed_from (suc f) s i)
      go zero e ih = rw (e, formed_from) H
      go (suc w) e ih = rw (e, formed_from) (ih (i + suc w) (headed_step i w H e))

  -- THE CHARACTERS OF THE WELL-FORMED PREFIX, told by the bytes
  headed : Headed (well_formed s)
  unfolding well_formed heads_from
  headed = headed_formed (length s) 0 (record { reached = start; within = omega arith; told = ap (λ k. k.chars) (counted_none s) })

  formed_heads : (counted s (well_formed s)).chars ≡ heads_from (well_formed s) s 0
  formed_heads = headed.told

  -- where it is all of the text
  pub whole_chars : length s ≤ well_formed s → (counted s (length s)).chars ≡ heads_from (length s) s 0
  whole_chars h =
      let e : well_formed s ≡ length s = omega (arith, headed.within) in
      rw e at formed_heads

  -- after a run of ASCII
  pub formed_chars : (at len : ℕ) → Ascii s 0 at → at ≤ len → len ≡ well_formed s → at + heads_from (len - at) s at ≡ (counted s len).chars
  formed_chars at len a h e =
      let z : 0 + at ≡ at = omega arith in
      let n : at + (len - at) ≡ len = omega arith in
      let all = heads_ascii at 0 (λ k p q. a.all k p (omega arith)) in
      let split = heads_append s at (len - at) 0 in
      sym (ap (λ m. (counted s m).chars) e ∙ formed_heads ∙ ap (λ m. heads_from m s 0) (sym e ∙ sym n) ∙ split ∙ rw (all, z) refl)

  -- of ASCII alone
  pub ascii_chars : (at : ℕ) → Ascii s 0 at → at ≡ well_formed s → at ≡ (counted s at).chars
  ascii_chars at a e = let n = formed_chars at at a (omega arith) e in omega (arith, n, heads_none s at)

  pub ascii_whole : all_ascii s ≡ true → (length s ≡ well_formed s) × (length s ≡ (counted s (length s)).chars)
  ascii_whole e =
      let a : Ascii s 0 (length s) = record { on = omega arith; within = omega arith; all = below_all s e } in
      let w : length s ≡ well_formed s = sym (ended s (length s) (begun s (length s) a) (λ h. absurd (omega arith))) in
      (w, ascii_chars (length s) a w)
