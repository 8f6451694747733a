-- What an answer of a kind 1 body holds: the tree of its pieces, whose touching texts were joined. Assumes nothing.
use Rattle.std.specs.Prelude.{if◌then◌else◌}
use mathlib.Core.Path.{◌≡◌, refl, sym, ◌∙◌, ap, ap₂}
use mathlib.Core.Bool.{true, ◌&&◌, false≢true}
use mathlib.Core.List.{List, [], ◌∷◌, ◌++◌, map, append_assoc, append-nil}
use Prim.Native.Nat.{ℕ, zero, suc, ◌+◌}
use native.Mathlib.Nat.{add-sub_cancel_left}
use lib.Dec.{eqb}
use lib.ListN.{length, length-append}
use lib.Seq.{take-append_seam, drop-append_seam}
use borrow.Author.Tests.{eqb-true, eq-eqb}
use Rattle.definition.specs.Chars.{part, same}
use Rattle.definition.specs.Body.{Piece, literal, field, spec}
use Rattle.definition.specs.Records.{inner, touching, covers, Item, item, item_of, glue, merge, both_items, merged, texts, record_at, laid, cover, Sort, joined, answer_of}
use Rattle.definition_written.specs.Written.{Content, empty, says, puts, forms, first_parts, later_parts, next_parts, own_text, holding, content_from, content, filled_with, alike_after, alike, same_content}
use Rattle.definition_laws.proofs.Moves.Cases.{and_both}
use Rattle.definition_laws.proofs.Join.Seam.{glue_false}
use Rattle.definition_laws.proofs.Join.Laid.{item_role}
use Rattle.definition.proofs.Moves.CharLaws.{same_true, same_refl}
use Rattle.definition_laws.proofs.Formed.Grammar.{Parts, done, run, bare, full, count, flat}
use Rattle.definition_written_laws.proofs.Readback.BackTree.{strip}

-- THE SAME, byte for byte
pub same_self : (p : Content) → same_content p p ≡ true
unfolding same_content
same_self empty = refl
same_self (says t p) = rw (same_refl t, same_self p) refl
same_self (puts e c p) = rw (same_refl e, eq-eqb c c refl, same_self p) refl
same_self (forms e c q p) = rw (same_refl e, eq-eqb c c refl, same_self q, same_self p) refl

pub same_is : (p q : Content) → same_content p q ≡ true → p ≡ q
unfolding same_content
same_is empty empty h = refl
same_is (says t p) (says t' p') h = let k = and_both (same t t') (same_content p p') h in ap₂ says (same_true t t' k.0) (same_is p p' k.1)
same_is (puts e c p) (puts e' c' p') h =
    let k = and_both (same e e' && eqb c c') (same_content p p') h in
    let k' = and_both (same e e') (eqb c c') k.0 in
    let x = same_true e e' k'.0 in
    let y = eqb-true c c' k'.1 in
    let z = same_is p p' k.1 in
    λ i. puts (x i) (y i) (z i)
same_is (forms e c q p) (forms e' c' q' p') h =
    let k = and_both (same e e' && eqb c c' && same_content q q') (same_content p p') h in
    let k₁ = and_both (same e e' && eqb c c') (same_content q q') k.0 in
    let k₂ = and_both (same e e') (eqb c c') k₁.0 in
    let x = same_true e e' k₂.0 in
    let y = eqb-true c c' k₂.1 in
    let w = same_is q q' k₁.1 in
    let z = same_is p p' k.1 in
    λ i. forms (x i) (y i) (w i) (z i)
same_is empty (says t p) h = absurd (false≢true h)
same_is empty (puts e c p) h = absurd (false≢true h)
same_is empty (forms e c q p) h = absurd (false≢true h)
same_is (says t p) empty h = absurd (false≢true h)
same_is (says t p) (puts e c p') h = absurd (false≢true h)
same_is (says t p) (forms e c q p') h = absurd (false≢true h)
same_is (puts e c p) empty h = absurd (false≢true h)
same_is (puts e c p) (says t p') h = absurd (false≢true h)
same_is (puts e c p) (forms e' c' q p') h = absurd (false≢true h)
same_is (forms e c q p) empty h = absurd (false≢true h)
same_is (forms e c q p) (says t p') h = absurd (false≢true h)
same_is (forms e c q p) (puts e' c' p') h = absurd (false≢true h)

-- ALIKE TWICE IS ALIKE
pub alike_after_lem : (t u : List ℕ) (p : Content) → alike_after t (alike_after u p) ≡ alike_after (t ++ u) p
unfolding alike_after filled_with
alike_after_lem t [] empty = ap (λ z. filled_with z empty) (sym (append-nil t))
alike_after_lem t (b ∷ u) empty = refl
alike_after_lem t u (says v p) = alike_after_lem t (u ++ v) p ∙ ap (λ z. alike_after z p) (sym (append_assoc t u v))
alike_after_lem t [] (puts e c p) = ap₂ (λ z q. filled_with z (puts e c q)) (sym (append-nil t)) (alike_after_lem [] [] p)
alike_after_lem t (b ∷ u) (puts e c p) = ap (λ q. filled_with (t ++ b ∷ u) (puts e c q)) (alike_after_lem [] [] p)
alike_after_lem t [] (forms e c q p) =
    let x = sym (append-nil t) in
    let y = alike_after_lem [] [] q in
    let z = alike_after_lem [] [] p in
    λ i. filled_with (x i) (forms e c (y i) (z i))
alike_after_lem t (b ∷ u) (forms e c q p) = ap₂ (λ q p. filled_with (t ++ b ∷ u) (forms e c q p)) (alike_after_lem [] [] q) (alike_after_lem [] [] p)

pub alike_twice : (p : Content) → alike (alike p) ≡ alike p
alike_twice p = alike_after_lem [] [] p

-- WHAT ITEMS HOLD, where u is the whole call's u mark
unfoldable pub next_of : List Item → ℕ
next_of [] = 0
next_of (x ∷ xs) = x.parts

unfoldable pub held_by : ℕ → List Item → Content
held_by u [] = empty
held_by u (x ∷ xs) = holding x.kind x.text (if covers x.role then u else x.mode) x.parts (next_of xs) (held_by u xs)

-- and so do their records
next_laid : (S E u n : ℕ) (xs : List Item) → next_parts (map (cover S E u) (laid n xs)) ≡ next_of xs
unfolding next_parts next_of laid record_at cover
next_laid S E u n [] = refl
next_laid S E u n (x ∷ xs) = refl

laid_held : (S E u n : ℕ) (before : List ℕ) (xs : List Item) → length before ≡ n → content_from (before ++ texts xs) (map (cover S E u) (laid n xs)) ≡ held_by u xs
unfolding content_from held_by texts laid record_at cover own_text
laid_held S E u n before [] e = refl
laid_held S E u n before (x ∷ xs) e =
    let m = n + length x.text in
    let own : part (before ++ (x.text ++ texts xs)) n (n + length x.text) ≡ x.text = rw (← e, add-sub_cancel_left, drop-append_seam before (x.text ++ texts xs)) (take-append_seam x.text (texts xs)) in
    let rest = ap (λ z. content_from z (map (cover S E u) (laid m xs))) (sym (append_assoc before x.text (texts xs))) ∙ laid_held S E u m (before ++ x.text) xs (length-append before x.text ∙ ap (λ z. z + length x.text) e) in
    let after = next_laid S E u m xs in
    λ i. holding x.kind (own i) (if covers x.role then u else x.mode) x.parts (after i) (rest i)

pub answer_held : (sort : Sort) (u S E chars : ℕ) (xs : List Item) → content (answer_of sort u S E chars xs) ≡ held_by u (merged xs)
unfolding content answer_of
answer_held sort u S E chars xs = laid_held S E u 0 [] (merged xs) refl

-- ONE AFTER ANOTHER
abbrev pub chained : Content → Content → Content
chained empty r = r
chained (says t p) r = says t (chained p r)
chained (puts e c p) r = puts e c (chained p r)
chained (forms e c q p) r = forms e c q (chained p r)

first_chained : (p : Parts) (r : Content) → first_parts (count p) (chained (strip p) r) ≡ strip p
unfolding first_parts
first_chained done r = refl
first_chained (run t p) r = ap (says t) (first_chained p r)
first_chained (bare e c i g p) r = ap (puts e c) (first_chained p r)
first_chained (full e c i g q p) r = ap (forms e c (strip q)) (first_chained p r)

after_chained : (p : Parts) (r : Content) → later_parts (count p) (chained (strip p) r) ≡ r
unfolding later_parts
after_chained done r = refl
after_chained (run t p) r = after_chained p r
after_chained (bare e c i g p) r = after_chained p r
after_chained (full e c i g q p) r = after_chained p r

pub chained_empty : (p : Content) → chained p empty ≡ p
chained_empty empty = refl
chained_empty (says t p) = ap (says t) (chained_empty p)
chained_empty (puts e c p) = ap (puts e c) (chained_empty p)
chained_empty (forms e c q p) = ap (forms e c q) (chained_empty p)

-- touching texts joined at the top
abbrev ahead : List ℕ → Parts → Parts
ahead t done = run t done
ahead t (run u p) = run (t ++ u) p
ahead t (bare e c i g p) = run t (bare e c i g p)
ahead t (full e c i g q p) = run t (full e c i g q p)

abbrev pub at_once : Parts → Parts
at_once done = done
at_once (run t p) = ahead t (at_once p)
at_once (bare e c i g p) = bare e c i g (at_once p)
at_once (full e c i g q p) = full e c i g q (at_once p)

ahead_alike : (t u : List ℕ) (p : Parts) → alike_after t (strip (ahead u p)) ≡ alike_after (t ++ u) (strip p)
unfolding alike_after
ahead_alike t u done = refl
ahead_alike t u (run v p) = ap (λ z. alike_after z (strip p)) (sym (append_assoc t u v))
ahead_alike t u (bare e c i g p) = refl
ahead_alike t u (full e c i g q p) = refl

once_alike : (t : List ℕ) (p : Parts) → alike_after t (strip (at_once p)) ≡ alike_after t (strip p)
unfolding alike_after
once_alike t done = refl
once_alike t (run u p) = ahead_alike t u (at_once p) ∙ once_alike (t ++ u) p
once_alike t (bare e c i g p) = ap (λ z. filled_with t (puts e c z)) (once_alike [] p)
once_alike t (full e c i g q p) = ap (λ z. filled_with t (forms e c (alike_after [] (strip q)) z)) (once_alike [] p)

-- THE ITEMS OF A KIND 1 BODY'S PIECES
module _ (start end base u : ℕ) where
  abbrev I : Piece → Item
  I = item_of 1 start end base

  pub held_flat : (d : ℕ) (p : Parts) (ps : List Piece) → held_by u (map I (flat d p ps)) ≡ chained (strip p) (held_by u (map I ps))
  unfolding held_by item_of item holding next_of covers
  held_flat d done ps = refl
  held_flat zero (run t p) ps = ap (says t) (held_flat zero p ps)
  held_flat (suc d) (run t p) ps = ap (says t) (held_flat (suc d) p ps)
  held_flat d (bare e c i g p) ps = ap (puts e c) (held_flat d p ps)
  held_flat d (full e c i g q p) ps =
      let x = held_flat (suc d) q (flat d p ps) in
      let r = chained (strip p) (held_by u (map I ps)) in
      let y = x ∙ ap (chained (strip q)) (held_flat d p ps) in
      ap (λ z. forms e c (first_parts (count q) z) (later_parts (count q) z)) y ∙ ap₂ (forms e c) (first_chained q r) (after_chained q r)

  -- an item that is not joined
  glue_inner : (x : Item) (ys : List Item) → x.role ≡ inner → glue item_role both_items x ys ≡ x ∷ ys
  unfolding glue touching
  glue_inner x [] e = refl
  glue_inner x (y ∷ ys) e = glue_false item_role both_items x y ys (ap (λ r. touching r y.role) e)

  merge_deep : (d : ℕ) (p : Parts) (ps qs : List Piece) → merge item_role both_items (map I ps) ≡ map I qs → merge item_role both_items (map I (flat (suc d) p ps)) ≡ map I (flat (suc d) p qs)
  unfolding merge item_of item
  merge_deep d done ps qs h = h
  merge_deep d (run t p) ps qs h =
      ap (glue item_role both_items (I (literal (suc d) t))) (merge_deep d p ps qs h) ∙ glue_inner (I (literal (suc d) t)) (map I (flat (suc d) p qs)) refl
  merge_deep d (bare e c i g p) ps qs h =
      ap (glue item_role both_items (I (field (suc d) e c 0 i g))) (merge_deep d p ps qs h) ∙ glue_inner (I (field (suc d) e c 0 i g)) (map I (flat (suc d) p qs)) refl
  merge_deep d (full e c i g q p) ps qs h =
      let x = merge_deep (suc d) q (flat (suc d) p ps) (flat (suc d) p qs) (merge_deep d p ps qs h) in
      let y = ap (glue item_role both_items (I (spec (count q)))) x ∙ glue_inner (I (spec (count q))) (map I (flat (suc (suc d)) q (flat (suc d) p qs))) refl in
      ap (glue item_role both_items (I (field (suc d) e c 1 i g))) y ∙ glue_inner (I (field (suc d) e c 1 i g)) (I (spec (count q)) ∷ map I (flat (suc (suc d)) q (flat (suc d) p qs))) refl

  glue_ahead : (t : List ℕ) (p : Parts) → glue item_role both_items (I (literal 0 t)) (map I (flat 0 p [])) ≡ map I (flat 0 (ahead t p) [])
  unfolding glue item_of item both_items touching
  glue_ahead t done = refl
  glue_ahead t (run u p) = refl
  glue_ahead t (bare e c i g p) = refl
  glue_ahead t (full e c i g q p) = refl

  merge_top : (p : Parts) → merge item_role both_items (map I (flat 0 p [])) ≡ map I (flat 0 (at_once p) [])
  unfolding merge item_of item
  merge_top done = refl
  merge_top (run t p) = ap (glue item_role both_items (I (literal 0 t))) (merge_top p) ∙ glue_ahead t (at_once p)
  merge_top (bare e c i g p) = ap (glue item_role both_items (I (field 0 e c 0 i g))) (merge_top p) ∙ glue_inner (I (field 0 e c 0 i g)) (map I (flat 0 (at_once p) [])) refl
  merge_top (full e c i g q p) =
      let x = merge_deep 0 q (flat 0 p []) (flat 0 (at_once p) []) (merge_top p) in
      let y = ap (glue item_role both_items (I (spec (count q)))) x ∙ glue_inner (I (spec (count q))) (map I (flat 1 q (flat 0 (at_once p) []))) refl in
      ap (glue item_role both_items (I (field 0 e c 1 i g))) y ∙ glue_inner (I (field 0 e c 1 i g)) (I (spec (count q)) ∷ map I (flat 1 q (flat 0 (at_once p) []))) refl

  -- AN ANSWER HOLDS its body's tree, touching texts joined at the top
  pub answer_tree : (chars : ℕ) (p : Parts) → content (answer_of joined u start end chars (map I (flat 0 p []))) ≡ strip (at_once p)
  unfolding merged held_by
  answer_tree chars p = answer_held joined u start end chars (map I (flat 0 p [])) ∙ ap (held_by u) (merge_top p) ∙ held_flat 0 (at_once p) [] ∙ chained_empty (strip (at_once p))

  pub answer_alike : (chars : ℕ) (p : Parts) → alike (content (answer_of joined u start end chars (map I (flat 0 p [])))) ≡ alike (strip p)
  answer_alike chars p = ap alike (answer_tree chars p) ∙ once_alike [] p
