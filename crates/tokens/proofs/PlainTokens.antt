-- Plain text, of which each character is a token. Assumes nothing.
use mathlib.Core.Path.{◌≡◌, refl, sym, ap, ◌∙◌}
use mathlib.Core.Bool.{Bool, true, false, ◌&&◌, not}
use mathlib.Core.List.{List}
use mathlib.Core.Option.{some}
use Prim.Native.Nat.{ℕ, suc, ◌+◌, ◌≤◌, ◌<◌}
use native.Mathlib.Omega.{arith}
use borrow.Author.Tests.{lt-leb, ne_eqb, leb-true, leb-false}
use lib.Dec.{ltb, leb, eqb}
use lib.ListN.{length, get_or, get_or-eq_default}
use Rattle.definition.specs.Chars.{byte, width, code, next, ◌to◌, inside}
use Rattle.definition.specs.Body.{text_case, text_move}
use Rattle.definition_cuts.specs.Tokens.{move_end, staying, token_end}
use Rattle.definition_cuts_laws.specs.Standing.{octal_at}
use Rattle.definition.proofs.Moves.CharLaws.{cases, no, byte_is, inside_not, code_is, first_fails, first_passes}
use Rattle.definition_cuts_laws.proofs.Tokens.FormedPaths.{Head, next_wide}
use Rattle.marks.specs.Marks.{special}
use Rattle.plain.specs.Plain.{plain_end, AllPlain}
use Rattle.plain.proofs.Runs.{plain, plain_told, end_in, end_later}

-- the bytes from i up to e are plain, and no character goes on at e
pub record Run (s : List ℕ) (i e : ℕ) : Type 0 where
  pub bytes : AllPlain 1 s i e
  pub within : e ≤ length s
  pub ends : Head s e

-- what is told of the byte at an index
pub tail_at : (s : List ℕ) (i : ℕ) {r t : Bool} → i < length s → r ≡ inside (0x80 to 0xBF) (get_or s i 0) → r ≡ t → inside (0x80 to 0xBF) (byte s i) ≡ t
tail_at s i h e q = ap (inside (0x80 to 0xBF)) (sym (byte_is s i h)) ∙ sym e ∙ q

module _ (s : List ℕ) where
  pub no_run : (i : ℕ) → i ≤ length s → Head s i → Run s i i
  no_run i l h = record { bytes = λ k a b. absurd (omega arith); within = l; ends = h }

  special_head : (i : ℕ) → special 1 (byte s i) ≡ true → Head s i
  special_head i h =
      inside_not 0x80 0xBF (byte s i) (λ a b. no (rw (ne_eqb (byte s i) 123 (omega arith), ne_eqb (byte s i) 125 (omega arith), ne_eqb (byte s i) 92 (omega arith)) at h))

  end_head : (i : ℕ) → length s ≤ i → Head s i
  end_head i h = rw (get_or-eq_default s 256 h) refl

  pub run_found : (i e : ℕ) → i ≤ length s → e ≡ plain_end 1 s i → Run s i e
  run_found i e l q = record {
    bytes = λ k a b. first_fails (λ c. special 1 c) s i k a (omega arith);
    within = omega (arith, end_in 1 s i l);
    ends = rw q (cases (leb (length s) (plain_end 1 s i)) (λ t. end_head (plain_end 1 s i) (leb-true _ _ t)) (λ t. special_head (plain_end 1 s i) (first_passes (λ c. special 1 c) s i (leb-false _ _ t))));
  }

  pub found_later : (i : ℕ) (t : Bool) → t ≡ (ltb i (length s) && not (special 1 (byte s i))) → t ≡ true → (e : ℕ) → e ≡ plain_end 1 s i → i < e
  found_later i t q h e r = let p = plain_told 1 s i t q h in omega (arith, end_later 1 s i p.0 p.1)

  pub run_later : (i j e : ℕ) → i ≤ j → Run s i e → Run s j e
  run_later i j e l r = record { bytes = λ k a b. r.bytes k (omega arith) b; within = r.within; ends = r.ends }

  module _ (k : ℕ) (h : k < length s) (p : special 1 (byte s k) ≡ false) where
    -- its character is no brace and no backslash
    no_left : eqb (code s k) 123 ≡ false
    no_left = code_is s k 123 (omega arith) ∙ (plain 1 (byte s k) p).left

    no_right : eqb (code s k) 125 ≡ false
    no_right = code_is s k 125 (omega arith) ∙ (plain 1 (byte s k) p).right

    no_backslash : eqb (code s k) 92 ≡ false
    no_backslash = code_is s k 92 (omega arith) ∙ (plain 1 (byte s k) p).backslash

    pub plain_token : token_end s k ≡ some (next s k)
    unfolding token_end staying move_end text_move text_case
    plain_token = rw (lt-leb (length s) k h, no_left, no_right, no_backslash, token_end, staying, move_end, text_move, text_case) refl

    pub no_octal : octal_at s k ≡ false
    unfolding octal_at
    no_octal = rw (no_backslash, octal_at) refl

    pub char_token : (w : ℕ) → width s k ≡ suc w → token_end s k ≡ some (k + suc w)
    char_token w x = plain_token ∙ ap some (next_wide s k w x)
