-- How far a check goes over plain text. Assumes nothing.
use mathlib.Core.Path.{◌≡◌, refl, sym, ap, ◌∙◌}
use mathlib.Core.Bool.{Bool, true, false}
use mathlib.Core.List.{List, [], ◌∷◌}
use mathlib.Core.Option.{Option, none, some}
use Prim.Native.Nat.{ℕ, suc, ◌+◌, ◌≤◌, ◌<◌}
use native.Mathlib.Omega.{arith}
use borrow.Author.Tests.{lt-ltb, le-ltb, eq-eqb, ne_eqb, ltb-true, ltb-false}
use lib.Dec.{ltb}
use lib.ListN.{length}
use Rattle.definition.specs.Chars.{byte, next, ◌to◌, inside}
use Rattle.definition.proofs.Moves.CharLaws.{cases, no, next_past}
use Rattle.definition_cuts_laws.proofs.Tokens.FormedPaths.{Formed, done, char_on, formed_later, formed_head, next_wide}
use Rattle.marks.specs.Marks.{special}
use Rattle.plain.specs.Plain.{AllPlain}
use Rattle.tokens.proofs.PlainTokens.{plain_token, char_token, no_octal}
use Rattle.cuts.specs.OnePass.{Cursor, in_token, check_at}
use Rattle.cuts.proofs.OnePassSteps.{check_on, check_within}

-- no cut of a list stands before c
abbrev pub Clear : ℕ → List ℕ → Type 0
Clear c [] = Unit {0}
Clear c (x ∷ cs) = c ≤ x

clear_less : (b c : ℕ) (cs : List ℕ) → b ≤ c → Clear c cs → Clear b cs
clear_less b c [] l h = tt
clear_less b c (x ∷ cs) l h = omega arith

-- A CHECK over a run: it goes on to the next cut, passes it, or one stands before, or within a character
module _ (s : List ℕ) (d : Bool) where
  clear_token : (i j : ℕ) (cs : List ℕ) → Clear j cs → in_token s i j cs d ≡ some (record { left = cs; differs = d })
  unfolding in_token
  clear_token i j [] h = refl
  clear_token i j (x ∷ cs) h = rw (le-ltb x j h, in_token) refl

  pub check_run : (i e : ℕ) → Formed s i e → AllPlain 1 s i e → e ≤ length s → (cs : List ℕ) → Clear e cs → check_at s i cs d ≡ check_at s e cs d
  check_run i e done b k cs c = refl
  check_run i e (char_on w x F) b k cs c =
      let f = formed_later s (i + suc w) e F in
      let h : i < length s = omega arith in
      check_on s i cs d h (i + suc w) (char_token s i h (b i (omega arith) (omega arith)) w x) (record { left = cs; differs = d }) (clear_token i (i + suc w) cs (clear_less (i + suc w) e cs f c))
      ∙ check_run (i + suc w) e F (λ n a y. b n (omega arith) y) k cs c

  module _ (c : ℕ) (cs : List ℕ) where
    -- at the character
    pub check_cut : c < length s → special 1 (byte s c) ≡ false → check_at s c (c ∷ cs) d ≡ check_at s c cs d
    unfolding in_token
    check_cut h p = go (in_token s c (next s c) cs d) refl
      where
        passes : in_token s c (next s c) (c ∷ cs) d ≡ in_token s c (next s c) cs d
        passes = rw (lt-ltb c (next s c) (next_past s c h), eq-eqb c c refl, in_token) refl

        go : (o : Option Cursor) → in_token s c (next s c) cs d ≡ o → check_at s c (c ∷ cs) d ≡ check_at s c cs d
        go none q = check_within s c (c ∷ cs) d h (next s c) (plain_token s c h p) (passes ∙ q) ∙ sym (check_within s c cs d h (next s c) (plain_token s c h p) q)
        go (some k) q = check_on s c (c ∷ cs) d h (next s c) (plain_token s c h p) k (passes ∙ q) ∙ sym (check_on s c cs d h (next s c) (plain_token s c h p) k q)

    -- elsewhere before its end
    pub check_not : (i : ℕ) → i < length s → special 1 (byte s i) ≡ false → c < next s i → (i ≡ c → ⊥) → check_at s i (c ∷ cs) d ≡ none
    unfolding in_token
    check_not i h p l n = check_within s i (c ∷ cs) d h (next s i) (plain_token s i h p) (rw (lt-ltb c (next s i) l, ne_eqb i c n, no_octal s i h p, in_token) refl)

    pub check_tail : (i k : ℕ) → Formed s i k → k ≡ length s → i ≤ c → c < length s → AllPlain 1 s i (c + 1) → inside (0x80 to 0xBF) (byte s c) ≡ true → check_at s i (c ∷ cs) d ≡ none
    check_tail i k done e a l b t = absurd (omega arith)
    check_tail i k (char_on w x F) e a l b t =
        let h : i < length s = omega arith in
        let p = b i (omega arith) (omega arith) in
        let n = next_wide s i w x in
        cases (ltb c (i + suc w))
        (λ u. let v = ltb-true c (i + suc w) u in check_not i h p (omega arith) (λ q. no (sym (formed_head s i k (char_on w x F) e) ∙ ap (λ m. inside (0x80 to 0xBF) (byte s m)) q ∙ t)))
        (λ u.
        let v = ltb-false c (i + suc w) u in
        check_on s i (c ∷ cs) d h (i + suc w) (char_token s i h p w x) (record { left = c ∷ cs; differs = d }) (clear_token i (i + suc w) (c ∷ cs) v)
        ∙ check_tail (i + suc w) k F e v l (λ m y z. b m (omega arith) z) t)
