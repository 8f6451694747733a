-- Characters of a set, a fill, a precision. Assumes nothing.
use mathlib.Core.Path.{◌≡◌, refl, sym, ◌∙◌, ap}
use mathlib.Core.Bool.{Bool, true, false, ◌&&◌}
use mathlib.Core.List.{List, [], ◌∷◌}
use mathlib.Core.Option.{Option, none, some}
use Prim.Native.Nat.{ℕ, ◌+◌, ◌≤◌, ◌<◌}
use native.Mathlib.Numerals.{add-one}
use native.Mathlib.Omega.{arith}
use lib.Dec.{leb}
use lib.ListN.{length, get_or, drop, drop_of_length-le, get_or-eq_default}
use lib.Seq.{drop-cons}
use borrow.Author.Tests.{ne_eqb, eq-eqb, leb-true}
use Rattle.definition.specs.Chars.{◌is◌, byte, Range, inside, table37, following, follow, width, at_end, code, next}
use Rattle.definition_replay.specs.Spec.{aligns, signs, groupings, types, parts_of, first, past, is_digit, front, behind, fill_size, fill_code, pointed, past_pointed}
use Rattle.definition.proofs.Moves.CharLaws.{cases, byte_is}
use Rattle.definition_replay_laws.proofs.Spec.SpecLaws.{both_true}
use Rattle.definition_replay_laws.proofs.Spec.SpecSteps.{first_there, first_not, first_end_lem}
use Rattle.definition_replay.specs.SpecNumbers.{told_of}
use Rattle.formats.specs.declared.Set.{Set}
use Rattle.formats.specs.Parts.{set_of, point_told, PartsIs}

-- A SET by its name
pub in_set : (b : ℕ) {set n : Set} {r : Bool} → r ≡ (b is set_of n) → set ≡ n → r ≡ (b is set_of set)
in_set b h e = h ∙ ap (λ x. b is set_of x) (sym e)

-- ONE CHARACTER
module _ (s : List ℕ) (at : ℕ) (set : Set) where
  pub one_end : length s ≤ at → at ≤ length s → (0 ≡ first (set_of set) (drop at s)) × (drop at s ≡ past (set_of set) (drop at s)) × (at ≤ length s)
  one_end h k = let e = first_end_lem s at (set_of set) h in (sym e.0, sym e.1, k)

  module _ {there : Bool} (h : at < length s) (t : there ≡ (get_or s at 0 is set_of set)) where
    pub one_there : there ≡ true → (get_or s at 0 ≡ first (set_of set) (drop at s)) × (drop (at + 1) s ≡ past (set_of set) (drop at s)) × (at + 1 ≤ length s)
    one_there y =
        let b = byte_is s at h in
        let e = first_there s at (set_of set) h (sym (ap (λ x. x is set_of set) b) ∙ sym t ∙ y) in
        (b ∙ sym e.0, sym e.1, omega arith)

    pub one_not : there ≡ false → (0 ≡ first (set_of set) (drop at s)) × (drop at s ≡ past (set_of set) (drop at s)) × (at ≤ length s)
    one_not y =
        let b = byte_is s at h in
        let e = first_not s at (set_of set) h (sym (ap (λ x. x is set_of set) b) ∙ sym t ∙ y) in
        (sym e.0, sym e.1, omega arith)

-- A PRECISION
pub told_none : (ds : List ℕ) {told : ℕ} → told ≡ told_of ds → told ≡ 0 → ds ≡ []
unfolding told_of
told_none [] t e = refl
told_none (d ∷ ds) t e = absurd (omega arith)

told_empty : told_of [] ≡ 0
unfolding told_of
told_empty = refl

behind_of : (s : List ℕ) → (pointed s ≡ [] → ⊥) → past_pointed s ≡ behind is_digit (past "." s)
unfolding past_pointed
behind_of s n = go (pointed s) refl
  where
    go : (p : List ℕ) → pointed s ≡ p → past_pointed s ≡ behind is_digit (past "." s)
    go [] e = absurd (n e)
    go (d ∷ ds) e = rw (e, past_pointed)

module _ (s : List ℕ) (at : ℕ) where
  abbrev Pointed : (told next : ℕ) → Type 0
  Pointed told next = (told ≡ point_told (drop at s)) × (drop next s ≡ past_pointed (drop at s)) × (next ≤ length s)

  no_point : at ≤ length s → pointed (drop at s) ≡ [] → Pointed 0 at
  unfolding past_pointed
  no_point k e = (sym (ap told_of e ∙ told_empty), rw (e, past_pointed), k)

  pub point_end : length s ≤ at → at ≤ length s → Pointed 0 at
  unfolding pointed
  point_end h k = no_point k (rw (drop_of_length-le s h))

  pub point_not : at < length s → (get_or s at 0 ≡ 46 → ⊥) → Pointed 0 at
  unfolding pointed
  point_not h n = let b = byte_is s at h in no_point (omega arith) (rw (drop-cons s at 256 h, ne_eqb (byte s at) 46 (λ e. n (b ∙ e))))

  module _ (h : at < length s) (p : get_or s at 0 ≡ 46) where
    there : pointed (drop at s) ≡ front is_digit (drop (at + 1) s)
    unfolding pointed
    there = let b = byte_is s at h in rw (drop-cons s at 256 h, eq-eqb (byte s at) 46 (sym b ∙ p), add-one)

    module _ {told : ℕ} (t : told ≡ told_of (front is_digit (drop (at + 1) s))) where
      pub point_alone : told ≡ 0 → Pointed 0 at
      point_alone e = no_point (omega arith) (there ∙ told_none (front is_digit (drop (at + 1) s)) t e)

      pub point_more : {next : ℕ} → (told ≡ 0 → ⊥) → drop next s ≡ behind is_digit (drop (at + 1) s) → next ≤ length s → Pointed told next
      point_more n d l =
          let b = byte_is s at h in
          let f = first_there s at "." h (eq-eqb (byte s at) 46 (sym b ∙ p)) in (
            t ∙ ap told_of (sym there),
            d ∙ ap (behind is_digit) (sym f.1) ∙ sym (behind_of (drop at s) (λ e. n (t ∙ ap told_of (sym there ∙ e) ∙ told_empty))),
            l,
          )

-- A FILL
some_is : {A : Type 0} {x y : A} → ◌≡◌ {A = Option A} (some x) (some y) → x ≡ y
some_is {A} {x} e = ap (λ o. elim o [ none ↦ x | some z ↦ z ]) e

unfoldable short_rows : List (Range × List Range) → Bool
short_rows [] = true
short_rows (r ∷ rs) = leb (length r.1) 3 && short_rows rs

rows_short : short_rows table37 ≡ true
unfolding short_rows table37
rows_short = refl

row_short : (rows : List (Range × List Range)) (b : ℕ) (rs : List Range) → short_rows rows ≡ true → following rows b ≡ some rs → length rs ≤ 3
unfolding following short_rows
row_short [] b rs t e = let z : ◌≡◌ {A = ℕ} 0 1 = cc in absurd (omega arith)
row_short (r ∷ rows) b rs t e = go (inside r.0 b) refl e (row_short rows b rs (both_true (leb (length r.1) 3) (short_rows rows) t).1)
  where
    go : (x : Bool) → inside r.0 b ≡ x → following (r ∷ rows) b ≡ some rs → (following rows b ≡ some rs → length rs ≤ 3) → length rs ≤ 3
    go true x f ih = let l = leb-true (length r.1) 3 (both_true (leb (length r.1) 3) (short_rows rows) t).0 in let q : r.1 ≡ rs = some_is (rw (x, following) at f) in let m = ap length q in omega arith
    go false x f ih = ih (rw (x, following) at f)

width_short : (s : List ℕ) (i : ℕ) → width s i ≤ 4
unfolding width
width_short s i = go (following table37 (byte s i)) refl
  where
    go : (o : Option (List Range)) → following table37 (byte s i) ≡ o → width s i ≤ 4
    go none e = rw (e, width) (omega arith)
    go (some rs) e =
        let l = row_short table37 (byte s i) rs rows_short e in
        cases (follow rs s (i + 1)) (λ t. rw (e, width, t) (omega arith)) (λ t. rw (e, width, t) (omega arith))

next_short : (s : List ℕ) → next s 0 ≤ 4
unfolding next
next_short s = let w = width_short s 0 in cases (at_end s 0) (λ e. rw (e, next) (omega arith)) (λ e. rw (e, next) (omega arith))

module _ (s : List ℕ) where
  abbrev Filled : (size fill : ℕ) → Type 0
  Filled size fill = (size ≡ fill_size s) × (fill ≡ fill_code s) × (size ≤ length s) × (size ≤ 4)

  no_fill : (byte s (next s 0) is aligns) ≡ false → Filled 0 0
  unfolding fill_size fill_code
  no_fill e = (rw e, rw e, omega arith, omega arith)

  out_fill : length s ≤ next s 0 → Filled 0 0
  out_fill h = no_fill (ap (λ x. x is aligns) (get_or-eq_default s 256 h))

  pub fill_end : length s ≤ 0 → Filled 0 0
  fill_end h = out_fill (omega arith)

  module _ {c to : ℕ} (d : code s 0 ≡ c) (n : next s 0 ≡ to) where
    pub fill_short : length s ≤ to → Filled 0 0
    fill_short h = out_fill (rw n h)

    module _ {there : Bool} (h : to < length s) (t : there ≡ (get_or s to 0 is aligns)) where
      at_to : (byte s (next s 0) is aligns) ≡ there
      at_to = ap (λ x. x is aligns) (ap (byte s) n ∙ sym (byte_is s to h)) ∙ sym t

      pub fill_there : there ≡ true → Filled to c
      unfolding fill_size fill_code
      fill_there y =
          let e = at_to ∙ y in
          let m = next_short s in
          let k : to ≤ 4 = rw (sym n) m in
          (sym (rw e n), sym (rw e d), omega arith, k)

      pub fill_not : there ≡ false → Filled 0 0
      fill_not y = no_fill (at_to ∙ y)

-- ALL PARTS
module _ (s : List ℕ) {fill fillcode align n1 sign n2 z n3 alternate n4 nought n5 width n6 grouping n7 precision n8 kind n9 : ℕ} where
  pub parts_are : Filled s fill fillcode
      → (align ≡ first aligns (drop fill s)) × (drop n1 s ≡ past aligns (drop fill s)) × (n1 ≤ length s)
      → (sign ≡ first signs (drop n1 s)) × (drop n2 s ≡ past signs (drop n1 s)) × (n2 ≤ length s)
      → (z ≡ first "z" (drop n2 s)) × (drop n3 s ≡ past "z" (drop n2 s)) × (n3 ≤ length s)
      → (alternate ≡ first "#" (drop n3 s)) × (drop n4 s ≡ past "#" (drop n3 s)) × (n4 ≤ length s)
      → (nought ≡ first "0" (drop n4 s)) × (drop n5 s ≡ past "0" (drop n4 s)) × (n5 ≤ length s)
      → (width ≡ told_of (front is_digit (drop n5 s))) × (drop n6 s ≡ behind is_digit (drop n5 s)) × (n5 ≤ n6) × (n5 ≤ length s → n6 ≤ length s)
      → (grouping ≡ first groupings (drop n6 s)) × (drop n7 s ≡ past groupings (drop n6 s)) × (n7 ≤ length s)
      → Pointed s n7 precision n8
      → (kind ≡ first types (drop n8 s)) × (drop n9 s ≡ past types (drop n8 s)) × (n9 ≤ length s)
      → PartsIs s
      (record {
        fill = fill;
        code = fillcode;
        align = align;
        sign = sign;
        z = z;
        alternate = alternate;
        nought = nought;
        width = width;
        grouping = grouping;
        precision = precision;
        kind = kind;
        end = n9;
      })
  unfolding parts_of
  parts_are f a b c d e w g p k =
      let e0 = ap (λ x. drop x s) f.0 in
      let e1 = a.1 ∙ ap (past aligns) e0 in
      let e2 = b.1 ∙ ap (past signs) e1 in
      let e3 = c.1 ∙ ap (past "z") e2 in
      let e4 = d.1 ∙ ap (past "#") e3 in
      let e5 = e.1 ∙ ap (past "0") e4 in
      let e6 = w.1 ∙ ap (behind is_digit) e5 in
      let e7 = g.1 ∙ ap (past groupings) e6 in
      let e8 = p.1 ∙ ap past_pointed e7 in
      record {
        fill = f.0;
        within = f.2;
        short = f.3;
        code = f.1;
        align = a.0 ∙ ap (first aligns) e0;
        sign = b.0 ∙ ap (first signs) e1;
        z = c.0 ∙ ap (first "z") e2;
        alternate = d.0 ∙ ap (first "#") e3;
        nought = e.0 ∙ ap (first "0") e4;
        width = w.0 ∙ ap (λ x. told_of (front is_digit x)) e5;
        grouping = g.0 ∙ ap (first groupings) e6;
        precision = p.0 ∙ ap point_told e7;
        kind = k.0 ∙ ap (first types) e8;
        rest = k.1 ∙ ap (past types) e8;
        end = k.2;
      }
