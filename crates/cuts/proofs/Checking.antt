-- Cuts checked, token by token. Assumes nothing.
use Rattle.std.specs.Prelude.{Some, None}
use mathlib.Core.Path.{◌≡◌, refl, sym, ap, ◌∙◌}
use mathlib.Core.Bool.{Bool, true, false}
use mathlib.Core.List.{List, ◌∷◌}
use mathlib.Core.Option.{none, some}
use Prim.Native.Nat.{ℕ, ◌+◌, ◌≤◌, ◌<◌, zero-le}
use native.Mathlib.Nat.{le_refl}
use native.Mathlib.Numerals.{add-one}
use native.Mathlib.Omega.{arith}
use borrow.Author.Tests.{lt-ltb, le-ltb, lt-leb, le-leb, eq-eqb, ne_eqb}
use lib.ListN.{length, drop, get_or, drop_of_length-le}
use lib.Seq.{drop-cons}
use Rattle.definition.specs.Chars.{byte, ◌to◌, inside, well_formed}
use Rattle.definition_cuts.specs.Tokens.{token_end}
use Rattle.definition_cuts_laws.specs.Standing.{octal_at}
use Rattle.cuts.specs.OnePass.{in_token, check_at}
use Rattle.cuts.proofs.OnePassSteps.{check_end, check_refused, check_within, check_on}
use Rattle.definition.proofs.Moves.CharLaws.{next_past}
use Rattle.definition_cuts_laws.proofs.Tokens.FormedPaths.{Formed, Head, formed_front, formed_head, formed_at, all_formed}
use Rattle.definition_cuts_laws.proofs.Tokens.TokenMarks.{token_formed}
use Rattle.plain.specs.Plain.{plain_end}
use Rattle.tokens.proofs.PlainTokens.{Run, no_run, run_found, run_later}
use Rattle.cuts.proofs.PlainRuns.{Clear, check_run, check_cut, check_not, check_tail}
use Rattle.cuts.specs.Answers.{PassIs, VerdictIs}

-- the cuts of a token passed up to number k
pub record Passing (s : List ℕ) (i j : ℕ) (cuts : List ℕ) (from : ℕ) (flag : Bool) (k : ℕ) (d : Bool) : Type 0 where
  pub is : in_token s i j (drop from cuts) flag ≡ in_token s i j (drop k cuts) d
  pub on : from ≤ k
  pub inside : k ≤ length cuts

module _ (s : List ℕ) (i j : ℕ) (cuts : List ℕ) (from : ℕ) (flag : Bool) where
  pub passing : from ≤ length cuts → Passing s i j cuts from flag from flag
  passing h = record { is = refl; on = omega arith; inside = h }

  module _ (k : ℕ) (d : Bool) (g : Passing s i j cuts from flag k d) where
    pub passed_all : length cuts ≤ k → PassIs (in_token s i j (drop from cuts) flag) cuts from (Some (record { next = length cuts; differs = d }))
    unfolding in_token
    passed_all h = let o = g.on in let z = g.inside in (g.is ∙ rw (drop_of_length-le cuts h, drop_of_length-le cuts (le_refl (length cuts))) refl, omega arith, le_refl (length cuts))

    module _ (h : k < length cuts) where
      c : ℕ
      c = get_or cuts k 0

      pub passed : j ≤ get_or cuts k 0 → PassIs (in_token s i j (drop from cuts) flag) cuts from (Some (record { next = k; differs = d }))
      unfolding in_token
      passed l = (g.is ∙ rw (drop-cons cuts k 0 h, le-ltb (get_or cuts k 0) j l, in_token) refl, g.on, g.inside)

      module _ (l : get_or cuts k 0 < j) where
        pub at_start : get_or cuts k 0 ≡ i → Passing s i j cuts from flag (k + 1) d
        unfolding in_token
        at_start e = record { is = g.is ∙ rw (drop-cons cuts k 0 h, lt-ltb (get_or cuts k 0) j l, eq-eqb i (get_or cuts k 0) (sym e), in_token) (ap (λ n. in_token s i j (drop n cuts) d) (sym (add-one k))); on = let f = g.on in omega arith; inside = omega arith }

        module _ (n : get_or cuts k 0 ≡ i → ⊥) where
          pub among : octal_at s i ≡ true → i + 2 ≤ get_or cuts k 0 → Passing s i j cuts from flag (k + 1) true
          unfolding in_token
          among o m = record { is = g.is ∙ rw (drop-cons cuts k 0 h, lt-ltb (get_or cuts k 0) j l, ne_eqb i (get_or cuts k 0) (λ e. n (sym e)), o, le-leb (i + 2) (get_or cuts k 0) m, in_token) (ap (λ n. in_token s i j (drop n cuts) true) (sym (add-one k))); on = let f = g.on in omega arith; inside = omega arith }

          pub not_octal : octal_at s i ≡ false → PassIs (in_token s i j (drop from cuts) flag) cuts from None
          unfolding in_token
          not_octal o = g.is ∙ rw (drop-cons cuts k 0 h, lt-ltb (get_or cuts k 0) j l, ne_eqb i (get_or cuts k 0) (λ e. n (sym e)), o, in_token) refl

          pub too_early : octal_at s i ≡ true → get_or cuts k 0 < i + 2 → PassIs (in_token s i j (drop from cuts) flag) cuts from None
          unfolding in_token
          too_early o m = g.is ∙ rw (drop-cons cuts k 0 h, lt-ltb (get_or cuts k 0) j l, ne_eqb i (get_or cuts k 0) (λ e. n (sym e)), o, lt-leb (i + 2) (get_or cuts k 0) m, in_token) refl

-- tokens checked up to i, cuts up to number k; what stands from i up to `plain` is plain
pub record Checking (s cuts : List ℕ) (i k : ℕ) (d : Bool) (plain : ℕ) : Type 0 where
  pub is : check_at s 0 cuts false ≡ check_at s i (drop k cuts) d
  pub inside : i ≤ length s
  pub few : k ≤ length cuts
  pub formed : Formed s i (length s)
  pub run : Run s i plain

pub checking : (s cuts : List ℕ) → length s ≤ well_formed s → Checking s cuts 0 0 false 0
checking s cuts f = record { is = refl; inside = zero-le; few = zero-le; formed = all_formed s f; run = no_run s 0 zero-le (formed_head s 0 (length s) (all_formed s f) refl) }

module _ (s cuts : List ℕ) (i k : ℕ) (d : Bool) (plain : ℕ) (g : Checking s cuts i k d plain) where
  pub check_done : length s ≤ i → VerdictIs (check_at s 0 cuts false) (Some d)
  check_done h = g.is ∙ check_end s i (drop k cuts) d h

  pub run_starts : (e : ℕ) → e ≡ plain_end 1 s i → Checking s cuts i k d e
  run_starts e q = record { is = g.is; inside = g.inside; few = g.few; formed = g.formed; run = run_found s i e g.inside q }

  -- OVER A RUN: no cut is left, the next one stands behind it, in it, within a character, or before it
  module _ (h : i < plain) where
    -- on to where a character begins
    onward : (j k' : ℕ) (cs : List ℕ) → i ≤ j → j ≤ plain → Head s j → k' ≤ length cuts → check_at s j cs d ≡ check_at s j (drop k' cuts) d → drop k cuts ≡ cs → Clear j cs → Checking s cuts j k' d plain
    onward j k' cs a b y e q z c =
        let w = g.run.within in
        let p = formed_at s i (length s) j g.formed refl a (omega arith) y in
        record {
          is = g.is ∙ ap (λ l. check_at s i l d) z ∙ check_run s d i j p (λ n x y. g.run.bytes n x (omega arith)) (omega arith) cs c ∙ q;
          inside = omega arith;
          few = e;
          formed = formed_front s i j (length s) p g.formed refl;
          run = run_later s i j plain a g.run;
        }

    past : Clear plain (drop k cuts) → Checking s cuts plain k d plain
    past c = onward plain k (drop k cuts) (omega arith) (omega arith) g.run.ends g.few refl refl c

    pub none_left : length cuts ≤ k → Checking s cuts plain k d plain
    none_left e = past (rw (drop_of_length-le cuts e) tt)

    module _ (e : k < length cuts) (c : ℕ) (q : c ≡ get_or cuts k 0) where
      next_is : drop k cuts ≡ c ∷ drop (k + 1) cuts
      next_is = drop-cons cuts k 0 e ∙ ap (λ n. get_or cuts k 0 ∷ drop n cuts) (sym (add-one k)) ∙ ap (λ x. x ∷ drop (k + 1) cuts) (sym q)

      pub next_behind : plain ≤ c → Checking s cuts plain k d plain
      next_behind l = past (rw next_is l)

      pub next_before : c < i → VerdictIs (check_at s 0 cuts false) None
      next_before a =
          let w = g.run.within in
          let l : i < length s = omega arith in
          g.is ∙ ap (λ cs. check_at s i cs d) next_is
          ∙ check_not s d c (drop (k + 1) cuts) i l (g.run.bytes i (omega arith) h) (omega (arith, next_past s i l)) (λ q. omega arith)

      module _ (a : i ≤ c) (b : c < plain) where
        pub next_in_run : Head s c → Checking s cuts c (k + 1) d plain
        next_in_run y =
            onward c (k + 1) (c ∷ drop (k + 1) cuts) a (omega arith) y (omega arith)
            (check_cut s d c (drop (k + 1) cuts) (omega (arith, g.run.within)) (g.run.bytes c a b)) next_is (omega arith)

        pub next_within : inside (0x80 to 0xBF) (byte s c) ≡ true → VerdictIs (check_at s 0 cuts false) None
        next_within t =
            g.is ∙ ap (λ cs. check_at s i cs d) next_is
            ∙ check_tail s d c (drop (k + 1) cuts) i (length s) g.formed refl a (omega (arith, g.run.within)) (λ n x y. g.run.bytes n x (omega arith)) t

  module _ (h : i < length s) where
    pub token_refused : token_end s i ≡ none → VerdictIs (check_at s 0 cuts false) None
    token_refused e = g.is ∙ check_refused s i (drop k cuts) d h e

    module _ (j : ℕ) (e : token_end s i ≡ some j) (b : i < j) (l : j ≤ length s) where
      pub cut_inside : in_token s i j (drop k cuts) d ≡ none → VerdictIs (check_at s 0 cuts false) None
      cut_inside w = g.is ∙ check_within s i (drop k cuts) d h j e w

      pub next_token : (k' : ℕ) (d' : Bool) → (in_token s i j (drop k cuts) d ≡ some (record { left = drop k' cuts; differs = d' })) × (k ≤ k') × (k' ≤ length cuts) → Checking s cuts j k' d' plain
      next_token k' d' w = record {
        is = g.is ∙ check_on s i (drop k cuts) d h j e (record { left = drop k' cuts; differs = d' }) w.0;
        inside = l;
        few = w.2;
        formed = token_formed s i j h e g.formed;
        run = run_later s i j plain (omega arith) g.run;
      }
