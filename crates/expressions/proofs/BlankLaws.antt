-- What the scan of blank text goes by. Assumes nothing.
use mathlib.Core.Path.{◌≡◌, refl, sym, ◌∙◌, ap}
use mathlib.Core.Bool.{true, false, ◌&&◌}
use mathlib.Core.List.{List}
use Prim.Native.Nat.{ℕ, zero, suc, ◌+◌, ◌≤◌, ◌<◌}
use native.Mathlib.Omega.{arith}
use lib.ListN.{length, drop, length-drop, drop_of_length-le}
use lib.Seq.{get_or-drop, drop-drop}
use borrow.Author.Tests.{lt-leb}
use Rattle.definition.specs.Chars.{byte, width, decoded, code, next}
use Rattle.definition.specs.Matched.{blank_after, blank}
use Rattle.definition.specs.Body.{is_blank}
use Rattle.definition_laws.proofs.Moves.Adds.{blank_first}
use Rattle.definition_formed.proofs.Characters.WholeChars.{width_at}

-- a character by itself
module _ (s : List ℕ) (i : ℕ) (h : i < length s) where
  here : (n k : ℕ) → k ≡ i + n → byte s k ≡ byte (drop i s) n
  here n k e = ap (byte s) e ∙ sym (get_or-drop i s n 256)

  decoded_at : (w : ℕ) → decoded w s i ≡ decoded w (drop i s) 0
  unfolding decoded
  decoded_at zero = refl
  decoded_at (suc zero) = here 0 i (omega arith)
  decoded_at (suc (suc zero)) = rw (here 0 i (omega arith), here 1 (i + 1) refl) refl
  decoded_at (suc (suc (suc zero))) = rw (here 0 i (omega arith), here 1 (i + 1) refl, here 2 (i + 2) refl) refl
  decoded_at (suc (suc (suc (suc w)))) = rw (here 0 i (omega arith), here 1 (i + 1) refl, here 2 (i + 2) refl, here 3 (i + 3) refl) refl

  some : 0 < length (drop i s)
  some = omega (arith, length-drop i s)

  code_at : code s i ≡ code (drop i s) 0
  unfolding code
  code_at = rw (lt-leb (length s) i h, lt-leb (length (drop i s)) 0 some) (rw (decoded_at (width s i), width_at s i (omega arith)) refl)

  next_at : next s i ≡ i + next (drop i s) 0
  unfolding next
  next_at = rw (lt-leb (length s) i h, lt-leb (length (drop i s)) 0 some, width_at s i (omega arith)) (omega arith)

  pub blank_at : (k : ℕ) → next s i ≡ k → blank (drop i s) ≡ (is_blank (code s i) && blank (drop k s))
  blank_at k e = blank_first (drop i s) some ∙ rw (← code_at) (ap (λ t. is_blank (code s i) && blank t) (drop-drop (next (drop i s) 0) i s ∙ ap (λ n. drop n s) (sym next_at ∙ e)))

pub blank_over : (s : List ℕ) (i : ℕ) → length s ≤ i → blank (drop i s) ≡ true
unfolding blank_after
blank_over s i h = rw (drop_of_length-le s h) refl

pub blank_on : (s : List ℕ) (i k c : ℕ) → i < length s → code s i ≡ c → next s i ≡ k → is_blank c ≡ true → blank (drop i s) ≡ blank (drop k s)
blank_on s i k c h e f t = blank_at s i h k f ∙ rw (e, t) refl

pub blank_not : (s : List ℕ) (i c : ℕ) → i < length s → code s i ≡ c → is_blank c ≡ false → false ≡ blank (drop i s)
blank_not s i c h e t = sym (blank_at s i h (next s i) refl ∙ rw (e, t) refl)
