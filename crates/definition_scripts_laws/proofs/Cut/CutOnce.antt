-- WHAT MEETS (a) TO (e) IS THE CUT, so that nobody need read how a script is cut. Assumes nothing.
use mathlib.Core.Path.{◌≡◌, refl, sym, subst, ◌∙◌, ap}
use mathlib.Core.Bool.{true}
use mathlib.Core.List.{List, [], ◌∷◌, ◌++◌, append_assoc}
use mathlib.Core.Option.{none}
use Prim.Native.Nat.{ℕ, suc, ◌+◌, ◌-◌, ◌≤◌, ◌<◌}
use native.Mathlib.Omega.{arith}
use borrow.Author.Tests.{ne_eqb, eqb-true, ltb-true, ltb-false}
use lib.Dec.{ltb}
use lib.ListN.{length, drop, take-append-drop}
use lib.Seq.{drop-drop}
use Rattle.definition.specs.Numbers.{prefix, bad_descriptor}
use Rattle.definition.specs.Chars.{byte, part}
use Rattle.definition.specs.Entry.{Literal, refusal, first_bad, bad, all_good}
use Rattle.definition_scripts.specs.Opening.{is_quote, opens, is_word, apart}
use Rattle.definition_scripts.specs.IsRun.{IsLiteral, NeverCloses}
use Rattle.definition_scripts.specs.IsCut.{Hidden, QuotesHidden, Begins, Ending, reaches_end, breaks_off, IsCut, together, EachLiteral}
use Rattle.definition_scripts.specs.Cut.{Cut, cut_from, cut}
use Rattle.definition.proofs.Moves.CharLaws.{cases, no, byte_in}
use Rattle.definition_scripts_laws.proofs.Literals.OpeningLaws.{quote_within, word_no_quote, Opening, opened, below_or_at, opening_shows}
use Rattle.definition_scripts_laws.proofs.Literals.LiteralFound.{literal_lies, literal_good, literal_once, literal_or_not, never_once}
use Rattle.definition_scripts_laws.proofs.Cut.CutLaws.{Meets, cut_is}

module _ (s : List ℕ) where
  -- where the quote of the literal at i stands
  abbrev quote_at : ℕ → ℕ
  quote_at i = i + prefix (opens s i)

  -- a `#` before its quote in the same line would stand before the literal
  quote_clear : (from i : ℕ) → Begins s from i → Hidden s from (quote_at i) → ⊥
  quote_clear from i b k =
      cases (ltb k.sign i)
      (λ t. b.line_clear (record { sign = k.sign; in_gap = k.in_gap; earlier = ltb-true k.sign i t; signed = k.signed; same_line = λ m a c. k.same_line m a (omega arith) }))
      (λ t.
      let h = ltb-false k.sign i t in
      let e = k.earlier in
      (opening_shows s i k.sign b.opened (omega arith) (omega arith)).no_sign (eqb-true (byte s k.sign) 35 k.signed))

  -- so no gap goes on past it
  quote_ends : (from i end : ℕ) → Begins s from i → QuotesHidden s from end → quote_at i < end → ⊥
  quote_ends from i end b q h = let a = b.after in quote_clear from i b (q (quote_at i) (omega arith) h (opened s i b.opened).quote)

  -- no literal begins after another of the same gap
  not_later : (from i j : ℕ) → Begins s from i → Begins s from j → i < j → ⊥
  unfolding apart
  not_later from i j b c h =
      cases (ltb (quote_at i) j) (λ t. quote_ends from i j b c.quotes_hidden (ltb-true (quote_at i) j t)) (λ t. overlaps (ltb-false (quote_at i) j t))
    where
      o : Opening s i (opens s i)
      o = opened s i b.opened

      inside : apart s j ≡ true → is_word (byte s (j - 1)) ≡ true → ⊥
      inside a w = no (rw (ne_eqb j 0 (λ z. omega arith), w) at a)

      -- j stands in the prefix of the one at i, or at its quote
      overlaps : j ≤ quote_at i → ⊥
      overlaps l =
          let p : 1 ≤ opens s i = o.prefixed (word_no_quote (byte s i) (o.letters i (omega arith) (omega arith))) in
          below_or_at j (quote_at i) (omega arith)
          (λ k. inside (c.prefix_apart ((opened s j c.opened).prefixed (word_no_quote (byte s j) (o.letters j (omega arith) k)))) (o.letters (j - 1) (omega arith) (omega arith)))
          (λ e. c.no_prefix ((opened s j c.opened).bare (subst (λ (n : ℕ). is_quote (byte s n) ≡ true) (sym e) o.quote)) i b.after h b.opened (sym e) (b.prefix_apart p))

  pub begins_once : (from i j : ℕ) → Begins s from i → Begins s from j → i ≡ j
  begins_once from i j b c =
      cases (ltb i j) (λ t. absurd (not_later from i j b c (ltb-true i j t)))
      (λ t. cases (ltb j i) (λ u. absurd (not_later from j i c b (ltb-true j i u))) (λ u. let h = ltb-false i j t in let k = ltb-false j i u in omega arith))

  -- no literal begins in a last gap
  pub none_begins : (from i : ℕ) → QuotesHidden s from (length s) → Begins s from i → ⊥
  none_begins from i q b =
      let w = quote_within (byte s (quote_at i)) (opened s i b.opened).quote in
      quote_ends from i (length s) b q (byte_in s (quote_at i) (omega arith))

  -- one that begins closes, or does not
  pub one_way : (from : ℕ) (l : Literal) (number place : ℕ) → Begins s from l.start → IsLiteral s l → Begins s from place → NeverCloses s number place → ⊥
  one_way from l number place b p c q =
      literal_or_not s l number p (subst (λ (i : ℕ). NeverCloses s number i) (begins_once from place l.start c b) q)

  -- TWO CUTS THAT MEET (a) TO (e) ARE THE SAME
  pub cut_once : (from : ℕ) (ls ms : List Literal) (v w : Ending) → IsCut s from ls v → IsCut s from ms w → (ls ≡ ms) × (v ≡ w)
  cut_once from [] [] reaches_end reaches_end p q = (refl, refl)
  cut_once from [] [] reaches_end (breaks_off n j) p q = absurd (none_begins from j p q.0)
  cut_once from [] [] (breaks_off m i) reaches_end p q = absurd (none_begins from i q p.0)
  cut_once from [] [] (breaks_off m i) (breaks_off n j) p q =
      let e = begins_once from i j p.0 q.0 in
      let f = never_once s m n j q.0.opened (subst (λ (k : ℕ). NeverCloses s m k) e p.1) q.1 in
      (refl, cc)
  cut_once from [] (m ∷ ms) reaches_end w p q = absurd (none_begins from m.start p q.0)
  cut_once from [] (m ∷ ms) (breaks_off n i) w p q = absurd (one_way from m n i q.0 q.1 p.0 p.1)
  cut_once from (l ∷ ls) [] v reaches_end p q = absurd (none_begins from l.start q p.0)
  cut_once from (l ∷ ls) [] v (breaks_off n i) p q = absurd (one_way from l n i p.0 p.1 q.0 q.1)
  cut_once from (l ∷ ls) (m ∷ ms) v w p q =
      let e = literal_once s l m p.1 q.1 (begins_once from l.start m.start p.0 q.0) in
      let h = cut_once l.end ls ms v w p.2 (subst (λ (x : Literal). IsCut s x.end ms w) (sym e) q.2) in
      let f = h.0 in (cc, h.1)

  same_cut : (ls ms : List Literal) (v w : Ending) → ls ≡ ms → v ≡ w → ◌≡◌ {A = Cut} (record { literals = ls; ending = v }) (record { literals = ms; ending = w })
  same_cut ls ms v w e f = cc

  -- so what meets them is the cut
  pub cut_only : (i : ℕ) → i ≤ length s → (c : Cut) → Meets s i c → c ≡ cut_from s i
  cut_only i h c p =
      let d = cut_from s i in
      let e = cut_once i c.literals d.literals c.ending d.ending p (cut_is s i h) in
      same_cut c.literals d.literals c.ending d.ending e.0 e.1

  -- GAPS AND LITERALS PUT TOGETHER ARE THE SCRIPT
  part_drop : (i j : ℕ) → i ≤ j → part s i j ++ drop j s ≡ drop i s
  part_drop i j h =
      let e : i + (j - i) ≡ j = omega arith in
      let f : drop j s ≡ drop (j - i) (drop i s) = sym (drop-drop (j - i) i s ∙ ap (λ n. drop n s) e) in
      rw f (take-append-drop (j - i) (drop i s))

  cut_together : (from : ℕ) (ls : List Literal) (e : Ending) → IsCut s from ls e → together s from ls ≡ drop from s
  unfolding together
  cut_together from [] e p = refl
  cut_together from (l ∷ ls) e p =
      let a = (literal_lies s l p.1).ahead in
      rw (cut_together l.end ls e p.2, append_assoc, part_drop l.start l.end (omega arith)) (part_drop from l.start p.0.after)

  pub whole_together : together s 0 (cut s).literals ≡ s
  unfolding cut
  whole_together = cut_together 0 (cut s).literals (cut s).ending (cut_is s 0 (omega arith))

  -- each literal of a cut is one
  pub each_is : (from : ℕ) (ls : List Literal) (e : Ending) → IsCut s from ls e → EachLiteral (λ l. IsLiteral s l) ls
  each_is from [] e p = tt
  each_is from (l ∷ ls) e p = (p.1, each_is l.end ls e p.2)

  -- THE LITERALS OF A CUT PASS ENTRY CHECK 4, as a list
  good_from_lem : (previous from n : ℕ) (ls : List Literal) (e : Ending) → previous ≤ from → IsCut s from ls e → first_bad (bad s) (λ i l. refusal bad_descriptor i 0 0 0) previous n ls ≡ none
  unfolding first_bad
  good_from_lem previous from n [] e h p = refl
  good_from_lem previous from n (l ∷ ls) e h p =
      let a = p.0.after in
      rw (literal_good s previous l p.1 (omega arith), first_bad) (good_from_lem l.end l.end (suc n) ls e (omega arith) p.2)

  pub cut_good : all_good s (cut s).literals ≡ none
  unfolding all_good cut
  cut_good = good_from_lem 0 0 0 (cut s).literals (cut s).ending (omega arith) (cut_is s 0 (omega arith))
