-- Where a run of plain bytes ends, byte by byte and character by character. Assumes nothing.
use mathlib.Core.Path.{◌≡◌, refl, sym, ◌∙◌}
use mathlib.Core.Bool.{Bool, true, false, ◌&&◌, ◌||◌, not}
use mathlib.Core.List.{List}
use Prim.Native.Nat.{ℕ, zero, suc, ◌+◌, ◌-◌, ◌≤◌, ◌<◌}
use native.Mathlib.Nat.{add-zero}
use native.Mathlib.Numerals.{add-one}
use native.Mathlib.Omega.{arith}
use borrow.Author.Tests.{not-true, ltb-true, leb-true, leb-false, eqb-true, eqb-false, ne_eqb}
use lib.Dec.{ltb, leb, eqb}
use lib.ListN.{length, drop, drop_of_length-le}
use lib.Seq.{drop-cons}
use Rattle.definition.specs.Numbers.{is_bytes}
use Rattle.definition.specs.Chars.{byte, next, before}
use Rattle.definition.proofs.Moves.CharLaws.{cases, no, between, next_from, next_in, next_ascii, before_in}
use Rattle.marks.specs.Marks.{special}
use Rattle.plain.specs.Plain.{plain_end, PlainTo, AllPlain}

either : (a b : Bool) → (a || b) ≡ false → (a ≡ false) × (b ≡ false)
either true b h = no (sym h)
either false b h = (refl, h)

-- what a plain byte is not
pub record Plain (kind b : ℕ) : Type 0 where
  pub left : eqb b 123 ≡ false
  pub right : eqb b 125 ≡ false
  pub backslash : eqb b 92 ≡ false
  pub ascii : (is_bytes kind && leb 0x80 b) ≡ false

pub plain : (kind b : ℕ) → special kind b ≡ false → Plain kind b
plain kind b h =
    let p = either _ _ h in
    let q = either _ _ p.0 in
    let r = either _ _ q.1 in
    record { left = q.0; right = r.0; backslash = r.1; ascii = p.1 }

module _ (kind : ℕ) (s : List ℕ) where
  -- a byte that is told to be plain stands there
  pub plain_told : (i : ℕ) (t : Bool) → t ≡ (ltb i (length s) && not (special kind (byte s i))) → t ≡ true → (i < length s) × (special kind (byte s i) ≡ false)
  plain_told i t e h = cases (ltb i (length s)) (λ l. (ltb-true i (length s) l, not-true (special kind (byte s i)) (rw l at (sym e ∙ h)))) (λ l. no (rw l at (sym e ∙ h)))

  -- where a run ends, by the byte at i
  module _ (i : ℕ) where
    pub end_in : i ≤ length s → (i ≤ plain_end kind s i) × (plain_end kind s i ≤ length s)
    end_in l = (omega arith, before_in (λ b. special kind b) s i l)

    pub end_past : length s ≤ i → plain_end kind s i ≡ i
    unfolding before
    end_past h = rw (drop_of_length-le s h, before) (add-zero i)

    pub end_special : i < length s → special kind (byte s i) ≡ true → plain_end kind s i ≡ i
    unfolding before
    end_special h e = rw (drop-cons s i 256 h, e, before) (add-zero i)

    before_plain : i < length s → special kind (byte s i) ≡ false → before (λ b. special kind b) (drop i s) ≡ suc (before (λ b. special kind b) (drop (i + 1) s))
    unfolding before
    before_plain h e = rw (drop-cons s i 256 h, e, before, add-one)

    pub end_plain : i < length s → special kind (byte s i) ≡ false → plain_end kind s i ≡ plain_end kind s (i + 1)
    end_plain h e = omega (arith, before_plain h e)

    pub end_later : i < length s → special kind (byte s i) ≡ false → i < plain_end kind s i
    end_later h e = omega (arith, before_plain h e)

  -- several plain bytes
  end_skip : (i n : ℕ) → i + n ≤ length s → ((j : ℕ) → i ≤ j → j < i + n → special kind (byte s j) ≡ false) → plain_end kind s i ≡ plain_end kind s (i + n)
  end_skip i zero l f = rw add-zero
  end_skip i (suc n) l f =
      let e : i + suc n ≡ i + 1 + n = omega arith in
      rw e (end_plain i (omega arith) (f i (omega arith) (omega arith)) ∙ end_skip (i + 1) n (omega arith) (λ j a b. f j (omega arith) (omega arith)))

  pub end_all : (i j : ℕ) → i ≤ j → j ≤ length s → AllPlain kind s i j → plain_end kind s i ≡ plain_end kind s j
  end_all i j h l f =
      let e : i + (j - i) ≡ j = omega arith in
      rw e at (end_skip i (j - i) (omega arith) (λ k a b. f k a (omega arith)))

  -- a run that ends before a byte that is not plain, or where the body ends
  pub end_to : (i r : ℕ) → PlainTo kind s i (length s) r → plain_end kind s i ≡ r
  end_to i r q =
      q.same ∙ cases (leb (length s) r) (λ t. end_past r (leb-true _ _ t)) (λ t. q.ends (leb-false _ _ t))

  -- a byte that no character begins with is plain, but in bytes
  tail_plain : (b : ℕ) → is_bytes kind ≡ false → 0x80 ≤ b → special kind b ≡ false
  tail_plain b e h = rw (ne_eqb b 123 (omega arith), ne_eqb b 125 (omega arith), ne_eqb b 92 (omega arith), e)

  -- a character that begins with a plain byte is plain throughout
  pub end_char : (i : ℕ) → i < length s → special kind (byte s i) ≡ false → plain_end kind s i ≡ plain_end kind s (next s i)
  end_char i h e = cases (is_bytes kind) one all
    where
      one : is_bytes kind ≡ true → plain_end kind s i ≡ plain_end kind s (next s i)
      one t = rw (next_ascii s i (leb-false _ _ (rw t at (plain kind (byte s i) e).ascii))) (end_plain i h e)

      all : is_bytes kind ≡ false → plain_end kind s i ≡ plain_end kind s (next s i)
      all t =
          let k : i + (next s i - i) ≡ next s i = omega (arith, next_from s i) in
          rw k at (end_skip i (next s i - i) (omega (arith, next_in s i (omega arith), next_from s i)) each)
        where
          each : (j : ℕ) → i ≤ j → j < i + (next s i - i) → special kind (byte s j) ≡ false
          each j a b =
              cases (eqb i j) (λ q. rw (← eqb-true i j q) e)
              (λ q. let n = eqb-false i j q in tail_plain (byte s j) t (between s i j (omega arith) (omega arith)).0)
