-- Where a body closes, and that it closes in one place. Assumes nothing.
use Rattle.std.specs.Prelude.{if◌then◌else◌}
use mathlib.Core.Path.{◌≡◌, refl, sym, ◌∙◌, ap}
use mathlib.Core.Bool.{Bool, true, false, ◌&&◌, not, ◌||◌}
use mathlib.Core.List.{List}
use Prim.Native.Nat.{ℕ, zero, suc, ◌+◌, ◌-◌, ◌≤◌, ◌<◌}
use native.Mathlib.Omega.{arith}
use borrow.Author.Tests.{leb-true, leb-false, eqb-true, ne_eqb}
use lib.Dec.{eqb}
use lib.ListN.{length, get_or-eq_default}
use Rattle.definition.specs.Chars.{◌is◌, byte, at_end}
use Rattle.definition_scripts.specs.Opening.{is_quote, quotes, quotes_at, breaks_at}
use Rattle.definition_scripts.specs.IsRun.{Units, done, pair, single, Unclosed, to_end, to_newline}
use Rattle.definition_scripts.specs.Literals.{BodyCase, over, takes, closes, breaks, plain, body_case, Closing, closed, fails, closing_n}
use Rattle.definition.proofs.Moves.CharLaws.{cases, no, byte_in}
use Rattle.definition_laws.proofs.Moves.Cases.{and_both}
use Rattle.definition_scripts_laws.proofs.Literals.OpeningLaws.{quote_within}

-- BODIES. What each case says
abbrev pub Facts : List ℕ → (quote flag i : ℕ) → BodyCase → Type 0
Facts s quote flag i over = length s ≤ i
Facts s quote flag i takes = (i < length s) × ((byte s i is "\\") ≡ true)
Facts s quote flag i closes = quotes_at s quote flag i ≡ true
Facts s quote flag i breaks = (i < length s) × (breaks_at s flag i ≡ true)
Facts s quote flag i plain = (i < length s) × ((byte s i is "\\") ≡ false) × (quotes_at s quote flag i ≡ false) × (breaks_at s flag i ≡ false)

pub facts : (s : List ℕ) (quote flag i : ℕ) → Facts s quote flag i (body_case s quote flag i)
unfolding body_case
facts s quote flag i = go (at_end s i) (byte s i is "\\") (quotes_at s quote flag i) (breaks_at s flag i) refl refl refl refl
  where
    go : (x y z w : Bool) → at_end s i ≡ x → (byte s i is "\\") ≡ y → quotes_at s quote flag i ≡ z → breaks_at s flag i ≡ w
        → Facts s quote flag i (if x then over else if y then takes else if z then closes else if w then breaks else plain)
    go true y z w e f g h = leb-true _ _ e
    go false true z w e f g h = (leb-false _ _ e, f)
    go false false true w e f g h = g
    go false false false true e f g h = (leb-false _ _ e, h)
    go false false false false e f g h = (leb-false _ _ e, f, g, h)

-- where the body that begins at i closes, or why it does not
abbrev pub Closes : List ℕ → (quote flag i : ℕ) → Closing → Type 0
Closes s quote flag i (closed j) = Units s quote flag i j × (quotes_at s quote flag j ≡ true)
Closes s quote flag i (fails number) = Unclosed s quote flag i number

module _ (s : List ℕ) (quote flag : ℕ) where
  after_pair : (i : ℕ) (r : Closing) → (byte s i is "\\") ≡ true → Closes s quote flag (i + 2) r → Closes s quote flag i r
  after_pair i (closed j) e h = (pair e h.0, h.1)
  after_pair i (fails m) e (to_end u l) = to_end (pair e u) l
  after_pair i (fails m) e (to_newline u b) = to_newline (pair e u) b

  after_single : (i : ℕ) (r : Closing) → i < length s → (byte s i is "\\") ≡ false → quotes_at s quote flag i ≡ false → breaks_at s flag i ≡ false → Closes s quote flag (i + 1) r → Closes s quote flag i r
  after_single i (closed j) l e f g h = (single l e f g h.0, h.1)
  after_single i (fails m) l e f g (to_end u k) = to_end (single l e f g u) k
  after_single i (fails m) l e f g (to_newline u b) = to_newline (single l e f g u) b

  -- with enough moves
  pub closing_is : (n i : ℕ) → length s - i < n → Closes s quote flag i (closing_n n s quote flag i)
  unfolding closing_n
  closing_is zero i h = absurd (omega arith)
  closing_is (suc n) i h = go (closing_is n) (body_case s quote flag i) refl (facts s quote flag i)
    where
      go : ((j : ℕ) → length s - j < n → Closes s quote flag j (closing_n n s quote flag j)) → (x : BodyCase) → body_case s quote flag i ≡ x → Facts s quote flag i (body_case s quote flag i) → Closes s quote flag i (closing_n (suc n) s quote flag i)
      go ih over e f = let k = rw e at f in rw (e, closing_n) (to_end done k)
      go ih takes e f = let k = rw e at f in rw (e, closing_n) (after_pair i (closing_n n s quote flag (i + 2)) k.1 (ih (i + 2) (omega arith)))
      go ih closes e f = let k = rw e at f in rw (e, closing_n) (done, k)
      go ih breaks e f = let k = rw e at f in rw (e, closing_n) (to_newline done k.1)
      go ih plain e f = let k = rw e at f in rw (e, closing_n) (after_single i (closing_n n s quote flag (i + 1)) k.0 k.1 k.2 k.3 (ih (i + 1) (omega arith)))

  pub units_ahead : {i j : ℕ} → Units s quote flag i j → i ≤ j
  units_ahead done = omega arith
  units_ahead {i} {j} (pair e u) = let h = units_ahead u in omega arith
  units_ahead {i} {j} (single l e f g u) = let h = units_ahead u in omega arith

  -- no unit begins at j
  record Stuck (j : ℕ) : Type 0 where
    no_pair : (byte s j is "\\") ≡ false
    no_single : j < length s → quotes_at s quote flag j ≡ false → breaks_at s flag j ≡ false → ⊥

  units_same : {i j k : ℕ} → Units s quote flag i j → Units s quote flag i k → Stuck j → Stuck k → j ≡ k
  units_same done done p q = refl
  units_same done (pair e u) p q = no (sym p.no_pair ∙ e)
  units_same done (single l e f g u) p q = absurd (p.no_single l f g)
  units_same (pair e u) done p q = no (sym q.no_pair ∙ e)
  units_same (pair e u) (pair e' v) p q = units_same u v p q
  units_same (pair e u) (single l e' f g v) p q = no (sym e' ∙ e)
  units_same (single l e f g u) done p q = absurd (q.no_single l f g)
  units_same (single l e f g u) (pair e' v) p q = no (sym e ∙ e')
  units_same (single l e f g u) (single l' e' f' g' v) p q = units_same u v p q

  -- what is read where no unit begins
  newline_is : (j : ℕ) → breaks_at s flag j ≡ true → byte s j ≡ 10
  newline_is j e = eqb-true (byte s j) 10 (and_both (byte s j is "\n") (not (eqb flag 1)) e).0

  past_end : (j : ℕ) → length s ≤ j → byte s j ≡ 256
  past_end j h = get_or-eq_default s 256 h

  quotes_first : (j : ℕ) → quotes_at s quote flag j ≡ true → byte s j ≡ quote
  unfolding quotes_at
  quotes_first j e =
      eqb-true (byte s j) quote (and_both (eqb (byte s j) quote) (not (eqb flag 1) || eqb (byte s (j + 1)) quote && eqb (byte s (j + 2)) quote) e).0

  no_backslash : (j b : ℕ) → byte s j ≡ b → (b ≡ 92 → ⊥) → (byte s j is "\\") ≡ false
  no_backslash j b e f = ne_eqb (byte s j) 92 (λ h. f (sym e ∙ h))

  at_end_lem : (j : ℕ) → length s ≤ j → Stuck j
  at_end_lem j h = record { no_pair = no_backslash j 256 (past_end j h) (λ e. omega arith); no_single = λ l f g. omega arith }

  at_newline : (j : ℕ) → breaks_at s flag j ≡ true → Stuck j
  at_newline j e = record { no_pair = no_backslash j 10 (newline_is j e) (λ e. omega arith); no_single = λ l f g. no (sym g ∙ e) }

  -- of a literal
  module _ (q : is_quote quote ≡ true) where
    at_quotes : (j : ℕ) → quotes_at s quote flag j ≡ true → Stuck j
    at_quotes j e =
        let w = quote_within quote q in
        record { no_pair = no_backslash j quote (quotes_first j e) (λ e. omega arith); no_single = λ l f g. no (sym f ∙ e) }

    pub quotes_in : (j : ℕ) → quotes_at s quote flag j ≡ true → j + quotes flag ≤ length s
    unfolding quotes_at
    quotes_in j e =
        let b = and_both (eqb (byte s j) quote) (not (eqb flag 1) || eqb (byte s (j + 1)) quote && eqb (byte s (j + 2)) quote) e in
        cases (eqb flag 1) (λ f. rw f (three (rw f at b.1))) (λ f. rw f (let h = within j b.0 in omega arith))
      where
        within : (k : ℕ) → eqb (byte s k) quote ≡ true → k < length s
        within k t = let w = quote_within quote q in let b = eqb-true (byte s k) quote t in byte_in s k (omega arith)

        three : (eqb (byte s (j + 1)) quote && eqb (byte s (j + 2)) quote) ≡ true → j + 3 ≤ length s
        three u = let h = within (j + 2) (and_both (eqb (byte s (j + 1)) quote) (eqb (byte s (j + 2)) quote) u).1 in omega arith

    -- it closes, or it does not
    closed_or_not : (i j m : ℕ) → Closes s quote flag i (closed j) → Unclosed s quote flag i m → ⊥
    closed_or_not i j m c (to_end {j = k} u l) =
        let e = units_same c.0 u (at_quotes j c.1) (at_end_lem k l) in
        let w = quote_within quote q in
        omega (arith, ap (λ n. byte s n) e, quotes_first j c.1, past_end k l)
    closed_or_not i j m c (to_newline {j = k} u b) =
        let e = units_same c.0 u (at_quotes j c.1) (at_newline k b) in
        let w = quote_within quote q in
        omega (arith, ap (λ n. byte s n) e, quotes_first j c.1, newline_is k b)

    -- why it does not, for one reason
    fails_once : (i m n : ℕ) → Unclosed s quote flag i m → Unclosed s quote flag i n → m ≡ n
    fails_once i m n (to_end u l) (to_end v k) = refl
    fails_once i m n (to_end {j = j} u l) (to_newline {j = k} v b) =
        let e = units_same u v (at_end_lem j l) (at_newline k b) in absurd (omega (arith, ap (λ n. byte s n) e, past_end j l, newline_is k b))
    fails_once i m n (to_newline {j = j} u b) (to_end {j = k} v l) =
        let e = units_same u v (at_newline j b) (at_end_lem k l) in absurd (omega (arith, ap (λ n. byte s n) e, past_end k l, newline_is j b))
    fails_once i m n (to_newline u b) (to_newline v c) = refl

    -- WHAT IS FOUND OF A BODY IS WHAT IS SO
    pub closes_once : (i : ℕ) (r t : Closing) → Closes s quote flag i r → Closes s quote flag i t → r ≡ t
    closes_once i (closed j) (closed k) c d = ap closed (units_same c.0 d.0 (at_quotes j c.1) (at_quotes k d.1))
    closes_once i (closed j) (fails m) c d = absurd (closed_or_not i j m c d)
    closes_once i (fails m) (closed j) c d = absurd (closed_or_not i j m d c)
    closes_once i (fails m) (fails n) c d = ap fails (fails_once i m n c d)
