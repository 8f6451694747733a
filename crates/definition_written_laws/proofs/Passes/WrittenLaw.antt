-- WHAT IS WRITTEN: 55 and the spelling by one pass over the records, and what follows. Assumes nothing.
use mathlib.Core.Path.{◌≡◌, refl, sym, ◌∙◌, ap, ap₂}
use mathlib.Core.Bool.{Bool, true, false, ◌&&◌, ◌||◌, not}
use mathlib.Core.List.{List, [], ◌∷◌, ◌++◌, append_assoc}
use Prim.Native.Nat.{ℕ, zero, suc, ◌+◌}
use lib.Dec.{leb, eqb}
use lib.ListN.{length}
use borrow.Author.Tests.{eqb-true, not-true}
use Rattle.definition.specs.Numbers.{not_writable, not_read_back, too_little_body_room}
use Rattle.definition.specs.Chars.{part}
use Rattle.definition.specs.Escapes.{Naming}
use Rattle.definition.specs.Records.{Record, Answer}
use Rattle.definition.specs.Reading.{accepts, read_alone}
use Rattle.definition.specs.Words.{word, sort_from, answer_from, held_from, is_conversion, fits, all_fit, no_bytes, sorted}
use Rattle.definition_formed.specs.Formed.{Lent, lent_answer, is_utf8, texts_utf8, is_formed}
use Rattle.definition_written.specs.Written.{Content, empty, says, puts, forms, first_parts, later_parts, next_parts, own_text, holding, content_from, content, filled_with, alike_after, alike, Where, top, early, past_field, spelled_text, spelled_conversion, spelled, held_alike, reads_alike, writable, Writing, writes, stops, written}
use Rattle.definition_written.specs.ReadsBack.{reads_back}
use Rattle.definition_written.specs.Passes.{passed, found}
use Rattle.definition.proofs.Moves.CharLaws.{cases, no}
use Rattle.definition_laws.proofs.Moves.Cases.{and_both}
use Rattle.definition_formed.proofs.Characters.WholeChars.{Chars, is_chars}
use Rattle.definition_formed.proofs.Formed.FormedLaws.{Formed, is_formed_lem}
use Rattle.definition_written_laws.proofs.Readback.BackUtf8.{Proper, spelled_append}
use Rattle.definition_written_laws.proofs.Readback.BackAnswer.{same_is}
use Rattle.definition_written_laws.proofs.Readback.BackLaw.{reads_exactly}
use Rattle.definition_written_laws.proofs.Passes.WrittenPass.{InOrder, in_order_lem, pass_spells, pass_finds}

proper_first : (n : ℕ) (p : Content) → Proper p → Proper (first_parts n p)
unfolding first_parts
proper_first zero p h = tt
proper_first (suc n) empty h = tt
proper_first (suc n) (says t p) h = (h.0, proper_first n p h.1)
proper_first (suc n) (puts e c p) h = (h.0, h.1, proper_first n p h.2)
proper_first (suc n) (forms e c q p) h = (h.0, h.1, h.2, proper_first n p h.3)

proper_after : (n : ℕ) (p : Content) → Proper p → Proper (later_parts n p)
unfolding later_parts
proper_after zero p h = h
proper_after (suc n) empty h = tt
proper_after (suc n) (says t p) h = proper_after n p h.1
proper_after (suc n) (puts e c p) h = proper_after n p h.2
proper_after (suc n) (forms e c q p) h = proper_after n p h.3

fits_converts : (kind size mode parts place : ℕ) → fits kind size mode parts place ≡ true → eqb kind 1 ≡ false → eqb kind 2 ≡ true → is_conversion mode ≡ true
unfolding fits
fits_converts kind size mode parts place h e f = (and_both (is_conversion mode) (leb parts 1) (rw (e, f) at h)).0

proper_holding : (kind size mode parts place next : ℕ) (t : List ℕ) (p : Content) → fits kind size mode parts place ≡ true → Chars t → Proper p → Proper (holding kind t mode parts next p)
unfolding holding
proper_holding kind size mode parts place next t p h c r =
    cases (eqb kind 1) (λ e. rw e (c, r))
    (λ e.
    cases (eqb kind 2)
    (λ f.
    let k = fits_converts kind size mode parts place h e f in
    cases (eqb parts 0) (λ g. rw (e, f, g) (c, k, r)) (λ g. rw (e, f, g) (c, k, proper_first next p r, proper_after next p r)))
    (λ f. rw (e, f) r))

proper_records : (text : List ℕ) (rs : List Record) → all_fit rs ≡ true → no_bytes rs ≡ true → texts_utf8 text rs ≡ true → Proper (content_from text rs)
unfolding content_from all_fit texts_utf8 no_bytes own_text
proper_records text [] h n k = tt
proper_records text (r ∷ rs) h n k =
    let t = part text r.offset (r.offset + r.size) in
    let a = and_both (fits r.kind r.size r.mode r.parts r.place) (all_fit rs) h in
    let m = and_both (not (eqb r.kind 4)) (no_bytes rs) n in
    let b = and_both (eqb r.kind 4 || is_utf8 t) (texts_utf8 text rs) k in
    let u : is_utf8 t ≡ true = rw (not-true (eqb r.kind 4) m.0) at b.0 in
    proper_holding r.kind r.size r.mode r.parts r.place (next_parts rs) t (content_from text rs) a.0 (is_chars t u) (proper_records text rs a.1 m.1 b.1)

-- THE PARTS of what may be written
pub record Writable (x : Lent) : Type 0 where
  pub formed : Formed x
  pub of_joined : word x.numbers 1 ≡ 1
  pub without_bytes : no_bytes (lent_answer x).records ≡ true

pub writable_parts : (x : Lent) → writable x ≡ true → Writable x
unfolding writable lent_answer held_from answer_from sort_from sorted
writable_parts x h =
    let a = and_both (is_formed x) (eqb (word x.numbers 1) 1) h in
    let f = is_formed_lem x a.0 in
    record { formed = f; of_joined = eqb-true (word x.numbers 1) 1 a.1; without_bytes = rw (eqb-true (word x.numbers 1) 1 a.1) at f.of_sort }

module _ (x : Lent) (h : writable x ≡ true) where
  abbrev y : Answer
  y = lent_answer x

  -- WHAT MAY BE WRITTEN is proper
  pub writable_proper : Proper (content y)
  unfolding content
  writable_proper = let w = writable_parts x h in proper_records y.text y.records w.formed.fit w.without_bytes w.formed.utf_8

  orderly : InOrder false y.records
  orderly = let w = writable_parts x h in in_order_lem false 0 y.records w.formed.fit w.formed.order w.without_bytes (λ e. no e)

  -- THE SPELLING, BY ONE PASS over the records
  pub written_pass : spelled top (content y) ≡ passed y.text [] y.records
  unfolding content
  written_pass = sym (pass_spells y.text y.records orderly)

  -- 55, BY ONE PASS over the records: nothing is read
  pub decided_pass : (look : Naming) → reads_alike look (content y) ≡ (found y.text [] y.records && leb (length (passed y.text [] y.records)) 1048576)
  unfolding reads_back content
  decided_pass look =
      reads_exactly look (content y) writable_proper
      ∙ ap₂ (λ a b. a && leb (length b) 1048576) (sym (pass_finds y.text y.records orderly)) written_pass

-- A LENT FILE OF NAMES plays no part
pub written_names : (look look' : Naming) (x : Lent) (room : ℕ) → written look x room ≡ written look' x room
unfolding written
written_names look look' x room = go (writable x) refl
  where
    go : (t : Bool) → writable x ≡ t → written look x room ≡ written look' x room
    go false e = rw (e, written) refl
    go true e = rw (e, written) (rw (decided_pass x e look, decided_pass x e look') refl)

-- SPELLED DEPENDS ON ALIKE ONLY
spelled_filled : (w : Where) (t : List ℕ) (p : Content) → spelled w (filled_with t p) ≡ spelled_text w t ++ spelled w p
unfolding spelled filled_with spelled_text
spelled_filled w [] p = refl
spelled_filled w (b ∷ t) p = refl

pub spelled_alike : (w : Where) (t : List ℕ) (p : Content) → spelled w (alike_after t p) ≡ spelled_text w t ++ spelled w p
unfolding spelled alike_after spelled_text
spelled_alike w t empty = spelled_filled w t empty
spelled_alike w t (says u p) = spelled_alike w (t ++ u) p ∙ ap (λ z. z ++ spelled w p) (spelled_append w t u) ∙ append_assoc (spelled_text w t) (spelled_text w u) (spelled w p)
spelled_alike w t (puts e c p) = spelled_filled w t (puts e c (alike_after [] p)) ∙ ap (λ z. spelled_text w t ++ 123 ∷ (e ++ (spelled_conversion c ++ 125 ∷ z))) (spelled_alike (past_field w) [] p)
spelled_alike w t (forms e c q p) =
    spelled_filled w t (forms e c (alike_after [] q) (alike_after [] p))
    ∙ ap₂ (λ y z. spelled_text w t ++ 123 ∷ (e ++ (spelled_conversion c ++ 58 ∷ (y ++ 125 ∷ z)))) (spelled_alike early [] q) (spelled_alike (past_field w) [] p)

-- THE SPELLING OF WHAT IS READ BACK is the same body again
pub same_again : (look : Naming) (p : Content) (x : Answer) → reads_alike look p ≡ true → read_alone look (spelled top p) ≡ accepts x → spelled top (content x) ≡ spelled top p
unfolding reads_alike held_alike spelled_text
same_again look p x h e =
    let a : alike (content x) ≡ alike p = same_is (alike (content x)) (alike p) (rw e at h) in
    sym (spelled_alike top [] (content x)) ∙ ap (spelled top) a ∙ spelled_alike top [] p

-- 55, then 56
abbrev pub ended : (room : ℕ) (back : Bool) (s : List ℕ) → Writing
ended room back s =
    elim back [
      | false ↦ stops not_read_back 0
      | true ↦ elim (leb (length s) room) [ false ↦ stops too_little_body_room (length s) | true ↦ writes s ]
    ]

-- WHAT IS WRITTEN, BY ONE PASS over the records alone: 54, then 55, then 56
unfoldable pub by_pass : Lent → (room : ℕ) → Writing
by_pass x room =
    let y = lent_answer x in
    let s = passed y.text [] y.records in
    elim (writable x) [
      | false ↦ stops not_writable 0
      | true ↦ ended room (found y.text [] y.records && leb (length s) 1048576) s
    ]

pub written_by_pass : (look : Naming) (x : Lent) (room : ℕ) → written look x room ≡ by_pass x room
unfolding written by_pass
written_by_pass look x room = go (writable x) refl
  where
    go : (t : Bool) → writable x ≡ t → written look x room ≡ by_pass x room
    go false e = rw (e, written, by_pass) refl
    go true e = rw (e, written, by_pass) (ap₂ (ended room) (decided_pass x e look) (written_pass x e))
