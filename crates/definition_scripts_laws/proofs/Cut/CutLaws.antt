-- The cut of a script meets what a cut is. Assumes nothing.
use Rattle.std.specs.Prelude.{if◌then◌else◌}
use mathlib.Core.Path.{◌≡◌, refl, sym, subst, ◌∙◌, ap}
use mathlib.Core.Bool.{Bool, true, false, not, ◌||◌}
use mathlib.Core.List.{List}
use Prim.Native.Nat.{ℕ, zero, suc, ◌+◌, ◌-◌, ◌≤◌, ◌<◌}
use native.Mathlib.Omega.{arith, by_contra}
use borrow.Author.Tests.{leb-true, leb-false, lt-leb, eqb-true, ltb-true, ltb-false, not-true}
use lib.Dec.{ltb, leb, eqb}
use lib.ListN.{length}
use Rattle.definition.specs.Numbers.{prefix}
use Rattle.definition.specs.Chars.{◌is◌, byte, at_end}
use Rattle.definition.specs.Entry.{Literal, refusal}
use Rattle.definition.specs.Reading.{Outcome, accepts, refuses}
use Rattle.definition_scripts.specs.Opening.{is_quote, no_kind, opens, is_sign, is_line_end, apart}
use Rattle.definition_scripts.specs.IsCut.{Hidden, QuotesHidden, Begins, IsCut}
use Rattle.definition_scripts.specs.Literals.{literal_at}
use Rattle.definition_scripts.specs.Cut.{begins, CutCase, over, comment, literal, other, cut_case, comment_end, Cut, first_cut, cut_n, cut_from}
use Rattle.definition.proofs.Moves.CharLaws.{cases, no, either, before_in, before_next, byte_in, first_fails, first_passes}
use Rattle.definition_laws.proofs.Moves.Cases.{and_both}
use Rattle.definition_scripts_laws.proofs.Literals.OpeningLaws.{opens_in, below_or_at, opening_shows}
use Rattle.definition_scripts_laws.proofs.Literals.LiteralFound.{LiteralAt, literal_at_lem, literal_lies}
use Rattle.definition_scripts_laws.proofs.Literals.RunLaws.{sign_in}

pub line_end_most : (c : ℕ) → is_line_end c ≡ true → c ≤ 13
line_end_most c e = either (c is "\n") (c is "\r") e (λ t. let h = eqb-true c 10 t in omega arith) (λ t. let h = eqb-true c 13 t in omega arith)

-- a comment has its sign at least
pub comment_past : (s : List ℕ) (i : ℕ) → is_sign (byte s i) ≡ true → i < comment_end s i
comment_past s i e = let h = eqb-true (byte s i) 35 e in omega (arith, before_next is_line_end s i 256 (sign_in s i e) (rw h))

-- where a literal begins, and where it must
pub begins_known : (s : List ℕ) (i : ℕ) → begins s i ≡ true → opens s i ≤ 6
unfolding begins
begins_known s i e =
    let t = and_both (not (leb no_kind (opens s i))) (eqb (opens s i) 0 || apart s i) e in
    let h = leb-false no_kind (opens s i) (not-true (leb no_kind (opens s i)) t.0) in omega arith

begins_apart : (s : List ℕ) (i : ℕ) → begins s i ≡ true → 1 ≤ opens s i → apart s i ≡ true
unfolding begins
begins_apart s i e h =
    either (eqb (opens s i) 0) (apart s i) (and_both (not (leb no_kind (opens s i))) (eqb (opens s i) 0 || apart s i) e).1
    (λ z. let k = eqb-true (opens s i) 0 z in absurd (omega arith)) (λ a. a)

quote_begins : (s : List ℕ) (i : ℕ) → is_quote (byte s i) ≡ true → begins s i ≡ true
unfolding begins opens
quote_begins s i e = rw e

pub apart_begins : (s : List ℕ) (i : ℕ) → opens s i ≤ 6 → apart s i ≡ true → begins s i ≡ true
unfolding begins
apart_begins s i h e = rw (lt-leb no_kind (opens s i) (omega arith), e) (or-true (eqb (opens s i) 0))
  where
    or-true : (x : Bool) → (x || true) ≡ true
    or-true true = refl
    or-true false = refl

-- What is known of a gap from `from` up to i, while it is walked
pub record Walk (s : List ℕ) (from i : ℕ) : Type 0 where
  pub ahead : from ≤ i
  pub within : i ≤ length s
  pub hidden : QuotesHidden s from i
  pub clear : Hidden s from i → i < length s → is_line_end (byte s i) ≡ true
  pub words : (w : ℕ) → from ≤ w → w < i → opens s w ≤ 6 → apart s w ≡ true → w + prefix (opens s w) < i

module _ (s : List ℕ) where
  pub walk_start : (i : ℕ) → i ≤ length s → Walk s i i
  walk_start i h = record {
    ahead = omega arith;
    within = h;
    hidden = λ j a b q. absurd (omega arith);
    clear = λ k l. let a = k.in_gap in let b = k.earlier in absurd (omega arith);
    words = λ w a b o p. absurd (omega arith);
  }

  -- a byte that is passed
  pub walk_pass : (from i : ℕ) → Walk s from i → i < length s → is_sign (byte s i) ≡ false → begins s i ≡ false → Walk s from (i + 1)
  walk_pass from i p l f b =
      let a = p.ahead in
      record {
        ahead = omega arith;
        within = omega arith;
        hidden = λ j a k q. below_or_at j i (omega arith) (λ h. p.hidden j a h q) (λ e. no (sym b ∙ quote_begins s i (rw e at q)));
        clear = λ k m. absurd (seen k k.earlier);
        words = λ w a k o t. below_or_at w i (omega arith) (λ h. let n = p.words w a h o t in omega arith) (λ e. no (sym b ∙ apart_begins s i (rw e at o) (rw e at t)));
      }
    where
      seen : (k : Hidden s from (i + 1)) → k.sign < i + 1 → ⊥
      seen k h =
          below_or_at k.sign i (omega arith)
          (λ m. let e = p.clear (record { sign = k.sign; in_gap = k.in_gap; earlier = m; signed = k.signed; same_line = λ n a c. k.same_line n a (omega arith) }) l in no (sym (k.same_line i (omega arith) (omega arith)) ∙ e))
          (λ e. no (sym f ∙ (rw e at k.signed)))

  -- a comment
  pub walk_comment : (from i : ℕ) → Walk s from i → is_sign (byte s i) ≡ true → Walk s from (comment_end s i)
  walk_comment from i p f =
      let a = p.ahead in
      record {
        ahead = omega arith;
        within = before_in is_line_end s i p.within;
        hidden = λ j a k q. cases (ltb j i) (λ t. p.hidden j a (ltb-true j i t) q) (λ t. quoted j (ltb-false j i t) k q);
        clear = λ k h. first_passes is_line_end s i h;
        words = λ w a k o t. cases (ltb w i) (λ u. let h = ltb-true w i u in let n = p.words w a h o t in omega arith) (λ u. worded w (ltb-false w i u) k o);
      }
    where
      sign : byte s i ≡ 35
      sign = eqb-true (byte s i) 35 f

      quoted : (j : ℕ) → i ≤ j → j < comment_end s i → is_quote (byte s j) ≡ true → Hidden s from j
      quoted j h k q =
          below_or_at i j (omega arith)
          (λ e. record { sign = i; in_gap = p.ahead; earlier = e; signed = f; same_line = λ m a b. first_fails is_line_end s i m a (omega arith) })
          (λ e. no (rw (← e, sign) at q))

      worded : (w : ℕ) → i ≤ w → w < comment_end s i → opens s w ≤ 6 → w + prefix (opens s w) < comment_end s i
      worded w h k o =
          by_contra (suc (w + prefix (opens s w))) (comment_end s i)
          (λ (n : comment_end s i < suc (w + prefix (opens s w))).
          let b = opening_shows s w (comment_end s i) o (omega arith) (omega arith) in
          let l = b.least in
          let m = b.most in
          let e = line_end_most (byte s (comment_end s i)) (first_passes is_line_end s i (byte_in s (comment_end s i) (omega arith))) in
          omega arith)

  -- a literal
  pub walk_begins : (from i : ℕ) → Walk s from i → begins s i ≡ true → Begins s from i
  walk_begins from i p b =
      let o = begins_known s i b in
      record {
        after = p.ahead;
        opened = o;
        quotes_hidden = p.hidden;
        line_clear = λ k. let e = line_end_most (byte s i) (p.clear k (opens_in s i o)) in let l = (opening_shows s i i o (omega arith) (omega arith)).least in omega arith;
        prefix_apart = begins_apart s i b;
        no_prefix = λ z w a h k e t. let n = p.words w a h k t in omega arith;
      }

  -- what each case says
  abbrev pub CutFacts : ℕ → CutCase → Type 0
  CutFacts i over = length s ≤ i
  CutFacts i comment = is_sign (byte s i) ≡ true
  CutFacts i literal = begins s i ≡ true
  CutFacts i other = (i < length s) × (is_sign (byte s i) ≡ false) × (begins s i ≡ false)

  pub cut_facts : (i : ℕ) → CutFacts i (cut_case s i)
  unfolding cut_case
  cut_facts i = go (at_end s i) (is_sign (byte s i)) (begins s i) refl refl refl
    where
      go : (x y z : Bool) → at_end s i ≡ x → is_sign (byte s i) ≡ y → begins s i ≡ z → CutFacts i (if x then over else if y then comment else if z then literal else other)
      go true y z e f g = leb-true _ _ e
      go false true z e f g = f
      go false false true e f g = g
      go false false false e f g = (leb-false _ _ e, f, g)

  abbrev pub Meets : ℕ → Cut → Type 0
  Meets from c = IsCut s from c.literals c.ending

  -- with enough moves
  cut_meets : (n from i : ℕ) → Walk s from i → length s - i < n → Meets from (cut_n n s i)
  unfolding cut_n first_cut refusal
  cut_meets zero from i p h = absurd (omega arith)
  cut_meets (suc n) from i p h = go (cut_meets n) (cut_case s i) refl (cut_facts i)
    where
      Later : Type 0
      Later = (from i : ℕ) → Walk s from i → length s - i < n → Meets from (cut_n n s i)

      found : Later → cut_case s i ≡ literal → begins s i ≡ true → (o : Outcome Literal) → literal_at s i ≡ o → LiteralAt s i o → Meets from (cut_n (suc n) s i)
      found ih e b (refuses r) f k =
          let z : r.place ≡ i = ap (λ q. q.place) k.0 in rw (e, f, cut_n) (rw z (walk_begins from i p b), rw z k.1)
      found ih e b (accepts l) f k =
          let w = literal_lies s l k.1 in
          let z = k.0 in
          let a = w.ahead in
          let c = w.within in
          rw (e, f, cut_n) (rw z (walk_begins from i p b), k.1, ih l.end l.end (walk_start l.end c) (omega arith))

      go : Later → (x : CutCase) → cut_case s i ≡ x → CutFacts i (cut_case s i) → Meets from (cut_n (suc n) s i)
      go ih over e f =
          let k = rw e at f in
          let w = p.within in
          let z : i ≡ length s = omega arith in
          rw (e, cut_n) (subst (λ (j : ℕ). QuotesHidden s from j) z p.hidden)
      go ih comment e f =
          let k = rw e at f in
          let l = sign_in s i k in
          let a = comment_past s i k in
          rw (e, cut_n) (ih from (comment_end s i) (walk_comment from i p k) (omega arith))
      go ih literal e f = let k = rw e at f in found ih e k (literal_at s i) refl (literal_at_lem s i (begins_known s i k))
      go ih other e f = let k = rw e at f in let l = k.0 in rw (e, cut_n) (ih from (i + 1) (walk_pass from i p k.0 k.1 k.2) (omega arith))

  -- THE CUT MEETS (a) TO (e)
  pub cut_is : (i : ℕ) → i ≤ length s → Meets i (cut_from s i)
  unfolding cut_from
  cut_is i h = cut_meets (suc (length s)) i i (walk_start i h) (omega arith)
