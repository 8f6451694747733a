-- Figures written the units first, one at a time. Assumes nothing.
use Rattle.std.specs.Prelude.{if◌then◌else◌}
use mathlib.Core.Path.{◌≡◌, refl, sym, ◌∙◌, ap, subst}
use mathlib.Core.Bool.{Bool, true, false}
use mathlib.Core.List.{List, [], ◌∷◌, ◌++◌, append-nil, append_assoc, reverse, reverse-append}
use Prim.Native.Nat.{ℕ, zero, suc, ◌+◌, ◌-◌, ◌/◌, ◌%◌, ◌≤◌, ◌<◌}
use native.Mathlib.Nat.{div-lt_self, mod-lt}
use native.Mathlib.Omega.{arith}
use lib.Dec.{eqb, leb}
use lib.ListN.{length, get_or, take, length-append}
use lib.Seq.{take-suc}
use borrow.Author.Tests.{ne_eqb, eq-eqb, lt-ltb, le-ltb, le-leb, lt-leb, leb-true, leb-false}
use Rattle.definition_replay.specs.Integers.{digits, base_of, figure, grouped, group_size, figures, zeroed, copies}
use Rattle.definition_replay_laws.proofs.Integers.IntegerSteps.{digits_last, digits_more, zeroed_done, zeroed_more}
use Rattle.definition.proofs.Moves.CharLaws.{cases}
use Rattle.buffers.specs.Over.{over}
use Rattle.buffers.proofs.Over.{over_nil, over_append}
use Rattle.integers.specs.Written.{one_more, come_after, comes_after, rest_of, zeros_n, group_of, bare, numeral_units}

-- a number is less after a digit
pub less : (base n : ℕ) → 1 < base → base ≤ n → n / base < n
less base n big h = div-lt_self (omega arith) big

pub digit : (n base : ℕ) → 1 < base → base ≤ 16 → n % base < 16
digit n base p q = let l : n % base < base = mod-lt n (omega arith) in omega arith

pub byte : (n base : ℕ) → 1 < base → base ≤ 16 → n % base < 256
byte n base p q = let l : n % base < base = mod-lt n (omega arith) in omega arith

-- FIGURES
pub rest_more : (grouping size come kind d : ℕ) (ds : List ℕ) → rest_of grouping size come kind (d ∷ ds) ≡ one_more grouping come (figure kind d) ++ rest_of grouping size (come_after size come) kind ds
unfolding rest_of one_more come_after grouped
rest_more grouping size zero kind d ds = cases (eqb grouping 0) (λ e. rw e) (λ e. rw e)
rest_more grouping size (suc come) kind d ds = cases (eqb grouping 0) (λ e. rw e) (λ e. rw (e, ne_eqb (suc come) 0 (λ z. omega arith)))

pub rest_none : (grouping size come kind : ℕ) → rest_of grouping size come kind [] ≡ []
unfolding rest_of grouped
rest_none grouping size zero kind = cases (eqb grouping 0) (λ e. rw e) (λ e. rw e)
rest_none grouping size (suc come) kind = cases (eqb grouping 0) (λ e. rw e) (λ e. rw e)

pub rest_last : (grouping size come kind d : ℕ) → rest_of grouping size come kind (d ∷ []) ≡ one_more grouping come (figure kind d)
unfolding rest_of one_more grouped
rest_last grouping size zero kind d = cases (eqb grouping 0) (λ e. rw e) (λ e. rw e)
rest_last grouping size (suc come) kind d = cases (eqb grouping 0) (λ e. rw e) (λ e. rw (e, ne_eqb (suc come) 0 (λ z. omega arith)))

pub more_two : (grouping come fig : ℕ) → length (one_more grouping come fig) ≤ 2
unfolding one_more
more_two grouping come fig = cases (eqb grouping 0) (λ e. rw e (omega arith)) (λ e. cases (eqb come 0) (λ f. rw (e, f) (omega arith)) (λ f. rw (e, f) (omega arith)))

module _ (base n : ℕ) (big : 1 < base) (grouping size come kind : ℕ) (out : List ℕ) (at : ℕ) where
  pub figures_next : base ≤ n
      → over (over out at (one_more grouping come (figure kind (n % base)))) (at + length (one_more grouping come (figure kind (n % base)))) (rest_of grouping size (come_after size come) kind (digits base (n / base)))
      ≡ over out at (rest_of grouping size come kind (digits base n))
  figures_next h =
      over_append out at (one_more grouping come (figure kind (n % base))) (rest_of grouping size (come_after size come) kind (digits base (n / base)))
      ∙ ap (over out at) (sym (ap (rest_of grouping size come kind) (digits_more base big n h) ∙ rest_more grouping size come kind (n % base) (digits base (n / base))))

  pub figures_count : base ≤ n
      → at + length (one_more grouping come (figure kind (n % base))) + length (rest_of grouping size (come_after size come) kind (digits base (n / base))) ≡ at + length (rest_of grouping size come kind (digits base n))
  figures_count h =
      let e = ap length (ap (rest_of grouping size come kind) (digits_more base big n h) ∙ rest_more grouping size come kind (n % base) (digits base (n / base))) in
      let l = length-append (one_more grouping come (figure kind (n % base))) (rest_of grouping size (come_after size come) kind (digits base (n / base))) in
      omega arith

  pub figures_last : n < base → rest_of grouping size come kind (digits base n) ≡ one_more grouping come (figure kind n)
  figures_last h = ap (rest_of grouping size come kind) (digits_last base big n h) ∙ rest_last grouping size come kind n

-- each case of the small functions
module _ (kind d : ℕ) where
  pub figure_digit : d < 10 → 48 + d ≡ figure kind d
  unfolding figure
  figure_digit h = rw (lt-ltb d 10 h)

  pub figure_capital : 10 ≤ d → kind ≡ 88 → 55 + d ≡ figure kind d
  unfolding figure
  figure_capital h e = rw (le-ltb d 10 h, eq-eqb kind 88 e)

  pub figure_small : 10 ≤ d → (kind ≡ 88 → ⊥) → 87 + d ≡ figure kind d
  unfolding figure
  figure_small h e = rw (le-ltb d 10 h, ne_eqb kind 88 e)

module _ (grouping come fig : ℕ) where
  pub more_plain : grouping ≡ 0 → fig ∷ [] ≡ one_more grouping come fig
  unfolding one_more
  more_plain e = rw (eq-eqb grouping 0 e)

  pub more_parted : (grouping ≡ 0 → ⊥) → come ≡ 0 → grouping ∷ fig ∷ [] ≡ one_more grouping come fig
  unfolding one_more
  more_parted e f = rw (ne_eqb grouping 0 e, eq-eqb come 0 f)

  pub more_next : (grouping ≡ 0 → ⊥) → (come ≡ 0 → ⊥) → fig ∷ [] ≡ one_more grouping come fig
  unfolding one_more
  more_next e f = rw (ne_eqb grouping 0 e, ne_eqb come 0 f)

pub come_none : (size come : ℕ) → come ≡ 0 → size - 1 ≡ come_after size come
unfolding come_after
come_none size zero e = refl
come_none size (suc come) e = absurd (omega arith)

pub come_some : (size come : ℕ) → (come ≡ 0 → ⊥) → come - 1 ≡ come_after size come
unfolding come_after
come_some size zero e = absurd (e refl)
come_some size (suc come) e = omega arith

-- one and two bytes written
pub put_one : (grouping come fig : ℕ) (out : List ℕ) (at : ℕ) {now : List ℕ} → fig ∷ [] ≡ one_more grouping come fig → now ≡ over out at (fig ∷ [])
    → (at + 1 ≡ at + length (one_more grouping come fig)) × (now ≡ over out at (one_more grouping come fig))
put_one grouping come fig out at e f = let l = ap length e in (omega arith, f ∙ ap (over out at) e)

pub put_two : (grouping come fig : ℕ) (out : List ℕ) (at : ℕ) {mid now : List ℕ} → grouping ∷ fig ∷ [] ≡ one_more grouping come fig → mid ≡ over out at (grouping ∷ []) → now ≡ over mid (at + 1) (fig ∷ [])
    → (at + 2 ≡ at + length (one_more grouping come fig)) × (now ≡ over out at (one_more grouping come fig))
put_two grouping come fig out at e f g =
    let l = ap length e in
    (omega arith, g ∙ ap (λ b. over b (at + 1) (fig ∷ [])) f ∙ over_append out at (grouping ∷ []) (fig ∷ []) ∙ ap (over out at) e)

-- THE LOOP: a figure more, and the last one
module _ (base n : ℕ) (big : 1 < base) (grouping size come kind : ℕ) (out : List ℕ) (at : ℕ) {fig result : ℕ} where
  pub loop_step : {next : ℕ} {now : List ℕ} → base ≤ n → fig ≡ figure kind (n % base) → next ≡ come_after size come → result ≡ at + length (one_more grouping come fig) → now ≡ over out at (one_more grouping come fig)
      → over now result (rest_of grouping size next kind (digits base (n / base))) ≡ over out at (rest_of grouping size come kind (digits base n))
  loop_step h f c r w = rw (w, r, c, f) (figures_next base n big grouping size come kind out at h)

  pub loop_count : {next : ℕ} → base ≤ n → fig ≡ figure kind (n % base) → next ≡ come_after size come → result ≡ at + length (one_more grouping come fig)
      → result + length (rest_of grouping size next kind (digits base (n / base))) ≡ at + length (rest_of grouping size come kind (digits base n))
  loop_count h f c r = rw (r, c, f) (figures_count base n big grouping size come kind out at h)

  pub loop_end : {now : List ℕ} → n < base → fig ≡ figure kind n → result ≡ at + length (one_more grouping come fig) → now ≡ over out at (one_more grouping come fig)
      → (result ≡ at + length (rest_of grouping size come kind (digits base n))) × (now ≡ over out at (rest_of grouping size come kind (digits base n)))
  loop_end h f r w = let e = figures_last base n big grouping size come kind out at h in (rw (r, e, f), rw (w, e, f))

-- without separators it is all one how many are to come
plain_any : (size come come' kind : ℕ) (ds : List ℕ) → rest_of 0 size come kind ds ≡ rest_of 0 1 come' kind ds
unfolding rest_of
plain_any size come come' kind ds = refl

one_plain : (come fig : ℕ) → fig ∷ [] ≡ one_more 0 come fig
unfolding one_more
one_plain come fig = refl

module _ (base n : ℕ) (big : 1 < base) (kind : ℕ) (out : List ℕ) (at fig : ℕ) where
  one_long : at + 1 ≡ at + length (one_more 0 1 fig)
  one_long = ap (λ t. at + length t) (one_plain 1 fig)

  pub plain_step : {now : List ℕ} → base ≤ n → fig ≡ figure kind (n % base) → now ≡ over out at (fig ∷ [])
      → over now (at + 1) (rest_of 0 1 1 kind (digits base (n / base))) ≡ over out at (rest_of 0 1 1 kind (digits base n))
  plain_step {now} h f w =
      ap (over now (at + 1)) (plain_any 1 1 (come_after 1 1) kind (digits base (n / base))) ∙ loop_step base n big 0 1 1 kind out at h f refl one_long (w ∙ ap (over out at) (one_plain 1 fig))

  pub plain_count : base ≤ n → fig ≡ figure kind (n % base) → at + 1 + length (rest_of 0 1 1 kind (digits base (n / base))) ≡ at + length (rest_of 0 1 1 kind (digits base n))
  plain_count h f = ap (λ t. at + 1 + length t) (plain_any 1 1 (come_after 1 1) kind (digits base (n / base))) ∙ loop_count base n big 0 1 1 kind out at h f refl one_long

  pub plain_end_lem : {now : List ℕ} → n < base → fig ≡ figure kind n → now ≡ over out at (fig ∷ [])
      → (at + 1 ≡ at + length (rest_of 0 1 1 kind (digits base n))) × (now ≡ over out at (rest_of 0 1 1 kind (digits base n)))
  plain_end_lem h f w = loop_end base n big 0 1 1 kind out at h f one_long (w ∙ ap (over out at) (one_plain 1 fig))

-- ZEROS
pub more_some : (grouping come fig : ℕ) → 1 ≤ length (one_more grouping come fig)
unfolding one_more
more_some grouping come fig = cases (eqb grouping 0) (λ e. rw e (omega arith)) (λ e. cases (eqb come 0) (λ f. rw (e, f) (omega arith)) (λ f. rw (e, f) (omega arith)))

module _ (least grouping size : ℕ) where
  zeros_done : (n at come : ℕ) → least ≤ at → zeros_n n least grouping size at come ≡ []
  unfolding zeros_n
  zeros_done zero at come h = refl
  zeros_done (suc n) at come h = rw (le-leb least at h, zeros_n)

  zeros_next : (n at come : ℕ) → at < least
      → zeros_n (suc n) least grouping size at come ≡ one_more grouping come 48 ++ zeros_n n least grouping size (at + length (one_more grouping come 48)) (come_after size come)
  unfolding zeros_n
  zeros_next n at come h = rw (lt-leb least at h, zeros_n)

  -- any bound that is enough
  zeros_bound : (n m at come : ℕ) → least ≤ n + at → least ≤ m + at → zeros_n n least grouping size at come ≡ zeros_n m least grouping size at come
  zeros_bound zero m at come h k = zeros_done 0 at come (omega arith) ∙ sym (zeros_done m at come (omega arith))
  zeros_bound (suc n) zero at come h k = zeros_done (suc n) at come (omega arith) ∙ sym (zeros_done 0 at come (omega arith))
  zeros_bound (suc n) (suc m) at come h k =
      let l = more_some grouping come 48 in
      let ih = zeros_bound n m (at + length (one_more grouping come 48)) (come_after size come) (omega arith) (omega arith) in
      cases (leb least at) (λ t. zeros_done (suc n) at come (leb-true least at t) ∙ sym (zeros_done (suc m) at come (leb-true least at t)))
      (λ t. zeros_next n at come (leb-false least at t) ∙ ap (λ r. one_more grouping come 48 ++ r) ih ∙ sym (zeros_next m at come (leb-false least at t)))

  zeros_more : (at come : ℕ) → at < least
      → zeros_n least least grouping size at come ≡ one_more grouping come 48 ++ zeros_n least least grouping size (at + length (one_more grouping come 48)) (come_after size come)
  zeros_more at come h =
      let l = more_some grouping come 48 in
      zeros_bound least (suc least) at come (omega arith) (omega arith) ∙ zeros_next least at come h

  module _ (out : List ℕ) (at come : ℕ) {result next : ℕ} (h : at < least) (c : next ≡ come_after size come) (r : result ≡ at + length (one_more grouping come 48)) where
    pub zeros_step : {now : List ℕ} → now ≡ over out at (one_more grouping come 48)
        → over now result (zeros_n least least grouping size result next) ≡ over out at (zeros_n least least grouping size at come)
    zeros_step w =
        rw (w, c, r)
        (over_append out at (one_more grouping come 48) (zeros_n least least grouping size (at + length (one_more grouping come 48)) (come_after size come))
        ∙ ap (over out at) (sym (zeros_more at come h)))

    pub zeros_count : result + length (zeros_n least least grouping size result next) ≡ at + length (zeros_n least least grouping size at come)
    zeros_count =
        rw (c, r)
        (let e = ap length (zeros_more at come h) in
        let l = length-append (one_more grouping come 48) (zeros_n least least grouping size (at + length (one_more grouping come 48)) (come_after size come)) in
        omega arith)

  pub zeros_end : (out : List ℕ) (at come : ℕ) → least ≤ at → (out ≡ over out at (zeros_n least least grouping size at come)) × (at ≡ at + length (zeros_n least least grouping size at come))
  zeros_end out at come h =
      let e = zeros_done least at come h in
      (sym (ap (over out at) e ∙ over_nil out at), (let l = ap length e in omega arith))

-- HOW MANY ARE TO COME, after a digit more and after the last
pub come_step : (base n : ℕ) → 1 < base → (size come : ℕ) {next : ℕ} → base ≤ n → next ≡ come_after size come → comes_after size next (digits base (n / base)) ≡ comes_after size come (digits base n)
unfolding comes_after
come_step base n big size come h c = rw (c, digits_more base big n h)

pub come_end : (base n : ℕ) → 1 < base → (size come : ℕ) {next : ℕ} → n < base → next ≡ come_after size come → next ≡ comes_after size come (digits base n)
unfolding comes_after
come_end base n big size come h c = rw (digits_last base big n h) c

-- A FIGURE MORE at the end
pub rest_snoc : (grouping size come kind : ℕ) (ds : List ℕ) (x : ℕ) → rest_of grouping size come kind (ds ++ (x ∷ [])) ≡ rest_of grouping size come kind ds ++ one_more grouping (comes_after size come ds) (figure kind x)
unfolding comes_after
rest_snoc grouping size come kind [] x = rest_last grouping size come kind x ∙ ap (λ l. l ++ one_more grouping come (figure kind x)) (sym (rest_none grouping size come kind))
rest_snoc grouping size come kind (d ∷ ds) x =
    rest_more grouping size come kind d (ds ++ (x ∷ []))
    ∙ ap (λ l. one_more grouping come (figure kind d) ++ l) (rest_snoc grouping size (come_after size come) kind ds x)
    ∙ sym (append_assoc (one_more grouping come (figure kind d)) (rest_of grouping size (come_after size come) kind ds) (one_more grouping (comes_after size (come_after size come) ds) (figure kind x)))
    ∙ ap (λ l. l ++ one_more grouping (comes_after size (come_after size come) ds) (figure kind x)) (sym (rest_more grouping size come kind d ds))

comes_snoc : (size come : ℕ) (ds : List ℕ) (x : ℕ) → comes_after size come (ds ++ (x ∷ [])) ≡ come_after size (comes_after size come ds)
unfolding comes_after
comes_snoc size come [] x = refl
comes_snoc size come (d ∷ ds) x = comes_snoc size (come_after size come) ds x

-- ZEROS behind digits, as the definition puts them
module _ (kind grouping : ℕ) where
  abbrev size : ℕ
  size = group_size (bare kind grouping)

  pub figures_rest : (ds : List ℕ) → figures (bare kind grouping) ds ≡ rest_of grouping size size kind ds
  unfolding figures rest_of
  figures_rest ds = refl

  figure_zero : figure kind 0 ≡ 48
  unfolding figure
  figure_zero = refl

  zeros_behind : (n least : ℕ) (ds : List ℕ)
      → rest_of grouping size size kind (zeroed n least (bare kind grouping) ds)
      ≡ rest_of grouping size size kind ds ++ zeros_n n least grouping size (length (rest_of grouping size size kind ds)) (comes_after size size ds)
  unfolding zeroed zeros_n
  zeros_behind zero least ds = sym (append-nil (rest_of grouping size size kind ds))
  zeros_behind (suc n) least ds = go (leb least (length (rest_of grouping size size kind ds))) refl (zeros_behind n least (ds ++ (0 ∷ [])))
    where
      go : (t : Bool) → leb least (length (rest_of grouping size size kind ds)) ≡ t
          → rest_of grouping size size kind (zeroed n least (bare kind grouping) (ds ++ (0 ∷ [])))
          ≡ rest_of grouping size size kind (ds ++ (0 ∷ [])) ++ zeros_n n least grouping size (length (rest_of grouping size size kind (ds ++ (0 ∷ [])))) (comes_after size size (ds ++ (0 ∷ [])))
          → rest_of grouping size size kind (zeroed (suc n) least (bare kind grouping) ds)
          ≡ rest_of grouping size size kind ds ++ zeros_n (suc n) least grouping size (length (rest_of grouping size size kind ds)) (comes_after size size ds)
      go true t ih =
          let l : least ≤ length (rest_of grouping size size kind ds) = leb-true least (length (rest_of grouping size size kind ds)) t in
          let k : least ≤ length (figures (bare kind grouping) ds) = rw (figures_rest ds) l in
          ap (rest_of grouping size size kind) (zeroed_done (suc n) least (bare kind grouping) ds k)
          ∙ sym (append-nil (rest_of grouping size size kind ds))
          ∙ ap (λ z. rest_of grouping size size kind ds ++ z) (sym (zeros_done least grouping size (suc n) (length (rest_of grouping size size kind ds)) (comes_after size size ds) l))
      go false t ih =
          let y = rest_of grouping size size kind ds in
          let c = comes_after size size ds in
          let o = one_more grouping c 48 in
          let l : length y < least = leb-false least (length y) t in
          let k : length (figures (bare kind grouping) ds) < least = rw (figures_rest ds) l in
          let snoc : rest_of grouping size size kind (ds ++ (0 ∷ [])) ≡ y ++ o = rest_snoc grouping size size kind ds 0 ∙ ap (λ x. y ++ one_more grouping c x) figure_zero in
          ap (rest_of grouping size size kind) (zeroed_more n least (bare kind grouping) ds k)
          ∙ ih
          ∙ (λ i. snoc i ++ zeros_n n least grouping size (length (snoc i)) (comes_snoc size size ds 0 i))
          ∙ ap (λ m. y ++ o ++ zeros_n n least grouping size m (come_after size c)) (length-append y o)
          ∙ append_assoc y o (zeros_n n least grouping size (length y + length o) (come_after size c))
          ∙ ap (λ z. y ++ z) (sym (zeros_next least grouping size n (length y) c l))

  pub numeral_is : (least number : ℕ)
      → rest_of grouping size size kind (digits (base_of kind) number)
      ++ zeros_n least least grouping size (length (rest_of grouping size size kind (digits (base_of kind) number))) (comes_after size size (digits (base_of kind) number))
      ≡ numeral_units kind grouping least number
  unfolding numeral_units
  numeral_is least number = sym (figures_rest (zeroed least least (bare kind grouping) (digits (base_of kind) number)) ∙ zeros_behind least least (digits (base_of kind) number))

  -- both written
  pub numeral_written : (least number : ℕ) (out : List ℕ) {bytes come result : ℕ} {mid now : List ℕ}
      → bytes ≡ length (rest_of grouping size size kind (digits (base_of kind) number)) → come ≡ comes_after size size (digits (base_of kind) number)
      → mid ≡ over out 0 (rest_of grouping size size kind (digits (base_of kind) number))
      → result ≡ bytes + length (zeros_n least least grouping size bytes come) → now ≡ over mid bytes (zeros_n least least grouping size bytes come)
      → (result ≡ length (numeral_units kind grouping least number)) × (now ≡ over out 0 (numeral_units kind grouping least number))
  numeral_written least number out b c m r w =
      let y = rest_of grouping size size kind (digits (base_of kind) number) in
      let z = zeros_n least least grouping size (length y) (comes_after size size (digits (base_of kind) number)) in
      let e = numeral_is least number in
      let l = ap length e in
      let k = length-append y z in
      let r' = rw (b, c) at r in
      (omega arith, rw (w, b, c, m) (ap (λ p. over (over out 0 y) p z) (sym (from_front y)) ∙ over_append out 0 y z ∙ ap (over out 0) e))
    where
      from_front : (y : List ℕ) → 0 + length y ≡ length y
      from_front y = omega arith

pub group_ten : (base : ℕ) → base ≡ 10 → 3 ≡ group_of base
unfolding group_of
group_ten base e = rw (eq-eqb base 10 e)

pub group_other : (base : ℕ) → (base ≡ 10 → ⊥) → 4 ≡ group_of base
unfolding group_of
group_other base e = rw (ne_eqb base 10 e)

pub group_is : (kind grouping : ℕ) {base size : ℕ} → base ≡ base_of kind → size ≡ group_of base → size ≡ group_size (bare kind grouping)
unfolding group_of group_size
group_is kind grouping b e = e ∙ ap (λ x. if eqb x 10 then 3 else 4) b

pub numeral_from : (kind grouping least number : ℕ) (out : List ℕ) {base size bytes come result : ℕ} {mid now : List ℕ} → base ≡ base_of kind → size ≡ group_of base
    → bytes ≡ length (rest_of grouping size size kind (digits base number)) → come ≡ comes_after size size (digits base number)
    → mid ≡ over out 0 (rest_of grouping size size kind (digits base number))
    → result ≡ bytes + length (zeros_n least least grouping size bytes come) → now ≡ over mid bytes (zeros_n least least grouping size bytes come)
    → (result ≡ length (numeral_units kind grouping least number)) × (now ≡ over out 0 (numeral_units kind grouping least number))
numeral_from kind grouping least number out p q b c m r w =
    let g = group_is kind grouping p q in
    numeral_written kind grouping least number out (rw (g, p) at b) (rw (g, p) at c) (rw (g, p) at m) (rw g at r) (rw g at w)

-- COPIES, one at a time
module _ (out : List ℕ) (at : ℕ) (fill : List ℕ) where
  pub copies_next : (left less result : ℕ) {now : List ℕ} → 0 < left → less ≡ left - 1 → result ≡ at + length fill → now ≡ over out at fill
      → over now result (copies less fill) ≡ over out at (copies left fill)
  unfolding copies
  copies_next zero less result h l r w = absurd (omega arith)
  copies_next (suc left) less result h l r w = let e : less ≡ left = omega arith in rw (w, r, e) (over_append out at fill (copies left fill))

  pub copies_count : (left less result : ℕ) → 0 < left → less ≡ left - 1 → result ≡ at + length fill → result + length (copies less fill) ≡ at + length (copies left fill)
  unfolding copies
  copies_count zero less result h l r = absurd (omega arith)
  copies_count (suc left) less result h l r = let e : less ≡ left = omega arith in rw (r, e) (omega (arith, length-append fill (copies left fill)))

  pub copies_none : (left : ℕ) → left ≤ 0 → (at ≡ at + length (copies left fill)) × (out ≡ over out at (copies left fill))
  unfolding copies
  copies_none zero h = (omega arith, sym (over_nil out at))
  copies_none (suc left) h = absurd (omega arith)

-- BYTES, the last one first
pub reverse_next : (units : List ℕ) (left less : ℕ) (d : ℕ) → 0 < left → left ≤ length units → less ≡ left - 1 → reverse (take left units) ≡ get_or units less d ∷ reverse (take less units)
reverse_next units zero less d h k l = absurd (omega arith)
reverse_next units (suc left) less d h k l =
    let e : less ≡ left = omega arith in
    rw e (ap reverse (take-suc units left d (omega arith)) ∙ reverse-append (take left units) (get_or units left d ∷ []))

pub reversed_next : (out : List ℕ) (at : ℕ) (units : List ℕ) (left less result d : ℕ) {now : List ℕ} → 0 < left → left ≤ length units → less ≡ left - 1 → result ≡ at + 1
    → now ≡ over out at (get_or units less d ∷ []) → over now result (reverse (take less units)) ≡ over out at (reverse (take left units))
reversed_next out at units left less result d h k l r w =
    rw (w, r, reverse_next units left less d h k l) (over_append out at (get_or units less d ∷ []) (reverse (take less units)))

pub reversed_none : (out : List ℕ) (at : ℕ) (units : List ℕ) (left : ℕ) → left ≤ 0 → out ≡ over out at (reverse (take left units))
reversed_none out at units zero h = sym (over_nil out at)
reversed_none out at units (suc left) h = absurd (omega arith)

zeros_plain : (n least size at come come' : ℕ) → zeros_n n least 0 size at come ≡ zeros_n n least 0 size at come'
unfolding zeros_n one_more
zeros_plain zero least size at come come' = refl
zeros_plain (suc n) least size at come come' =
    cases (leb least at) (λ e. rw (e, zeros_n)) (λ e. rw (e, zeros_n) (ap (λ t. 48 ∷ t) (zeros_plain n least size (at + 1) (come_after size come) (come_after size come'))))

pub numeral_plain : (kind grouping least number : ℕ) (out : List ℕ) → grouping ≡ 0 → {base size bytes r : ℕ} {out' out'' : List ℕ} → base ≡ base_of kind → size ≡ group_of base
    → bytes ≡ length (rest_of 0 1 1 kind (digits base number)) → out' ≡ over out 0 (rest_of 0 1 1 kind (digits base number))
    → r ≡ bytes + length (zeros_n least least grouping size bytes size) → out'' ≡ over out' bytes (zeros_n least least grouping size bytes size)
    → (r ≡ length (numeral_units kind grouping least number)) × (out'' ≡ over out 0 (numeral_units kind grouping least number))
numeral_plain kind grouping least number out z {base} {size} {bytes} {r} {out'} {out''} b g n o m q =
    numeral_from kind grouping least number out b g (n ∙ ap length same) refl (o ∙ ap (over out 0) same) (m ∙ ap (λ t. bytes + length t) rest) (q ∙ ap (over out' bytes) rest)
  where
    same : rest_of 0 1 1 kind (digits base number) ≡ rest_of grouping size size kind (digits base number)
    same = sym (plain_any size size 1 kind (digits base number)) ∙ ap (λ k. rest_of k size size kind (digits base number)) (sym z)

    rest : zeros_n least least grouping size bytes size ≡ zeros_n least least grouping size bytes (comes_after size size (digits base number))
    rest = subst (λ k. zeros_n least least k size bytes size ≡ zeros_n least least k size bytes (comes_after size size (digits base number))) (sym z) (zeros_plain least least size bytes size (comes_after size size (digits base number)))
