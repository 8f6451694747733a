-- WHAT MAY BE READ BACK IS: the first half of 55's theorem. Assumes nothing.
use mathlib.Core.Path.{◌≡◌, refl, sym, ◌∙◌, ap, subst}
use mathlib.Core.Bool.{Bool, true, false}
use mathlib.Core.List.{List, [], ◌∷◌, ◌++◌, map, append-nil}
use mathlib.Core.Option.{Option, none, some}
use Prim.Native.Nat.{ℕ, ◌+◌, ◌-◌, ◌≤◌}
use native.Mathlib.Omega.{arith}
use lib.Dec.{ltb, leb}
use lib.ListN.{length}
use lib.Seq.{take_all}
use borrow.Author.Tests.{leb-true, le-leb, le-ltb, ltb-false}
use Rattle.definition.specs.Numbers.{prefix, bad_descriptor, bodies_too_long, not_utf8}
use Rattle.definition.specs.Chars.{well_formed}
use Rattle.definition.specs.Escapes.{Naming, Fault, Read, got, refused}
use Rattle.definition.specs.Body.{Piece, read_body}
use Rattle.definition.specs.Records.{Item, item_of, joined, Answer, answer_of}
use Rattle.definition.specs.Entry.{Literal, opening, place_of, body, Refusal, refusal, not_empty, not_many, first_bad, bad, all_good, total, not_long, formed, ill_formed, all_utf8, any_of, first_start, not_mixed, first_of, entry}
use Rattle.definition.specs.Reading.{Outcome, accepts, refuses, refusal_in, read_literal, and_then, read_from, sort_of, u_mark, last_end, all_chars, answered, read, alone_as, read_alone}
use Rattle.definition_written.specs.Written.{Content, empty, says, puts, forms, top, spelled, content, alike, held_alike, reads_alike}
use Rattle.definition_written.specs.ReadsBack.{parts_read, reads_back}
use Rattle.definition.proofs.Moves.CharLaws.{cases, no, formed_utf8}
use Rattle.definition_laws.proofs.Moves.Cases.{and_both}
use Rattle.definition_laws.proofs.Join.EntrySplit.{passes}
use Rattle.definition_laws.proofs.Formed.FieldState.{Had, body_had}
use Rattle.definition_laws.proofs.Formed.Grammar.{TreeRead}
use Rattle.definition_written_laws.proofs.Readback.BackTree.{strip, Converts, body_back}
use Rattle.definition_written_laws.proofs.Readback.BackUtf8.{Proper, spelled_formed}
use Rattle.definition_written_laws.proofs.Readback.BackOnly.{only_back}
use Rattle.definition_written_laws.proofs.Readback.BackAnswer.{same_self, same_is, alike_twice, answer_alike}

pub proper_converts : (p : Content) → Proper p → Converts p
proper_converts empty h = tt
proper_converts (says t p) h = proper_converts p h.1
proper_converts (puts e c p) h = (h.1, proper_converts p h.2)
proper_converts (forms e c q p) h = (h.1, proper_converts q h.2, proper_converts p h.3)

-- A BODY READ ALONE
module _ (s : List ℕ) where
  pub body_is : body s (alone_as s) ≡ s
  unfolding body
  body_is = let e : 0 + length s - 0 ≡ length s = omega arith in rw e (take_all (length s) s (omega arith))

  one_good : (test : ℕ → Literal → Bool) (why : ℕ → Literal → Refusal) (l : Literal) → test 0 l ≡ false → first_bad test why 0 0 (l ∷ []) ≡ none
  unfolding first_bad
  one_good test why l e = rw (e, first_bad) refl

  not_bad : bad s 0 (alone_as s) ≡ false
  unfolding bad place_of opening prefix
  not_bad = rw (le-ltb (length s) (0 + length s) (omega arith), le-ltb (length s + 3) 0 (omega arith), le-ltb (length s + 3) (2 + length s) (omega arith)) refl

  alone_good : all_good s (alone_as s ∷ []) ≡ none
  unfolding all_good
  alone_good = one_good (bad s) (λ i l. refusal bad_descriptor i 0 0 0) (alone_as s) not_bad

  alone_short : length s ≤ 1048576 → not_long (alone_as s ∷ []) ≡ none
  unfolding not_long total
  alone_short h = rw (le-ltb 1048576 (length s + 0) (omega arith)) refl

  not_ill : length s ≤ well_formed s → ill_formed s 0 (alone_as s) ≡ false
  unfolding ill_formed formed
  not_ill h = rw (body_is, le-ltb (well_formed s) (length s) h) refl

  alone_utf8 : length s ≤ well_formed s → all_utf8 s (alone_as s ∷ []) ≡ none
  unfolding all_utf8
  alone_utf8 h = one_good (ill_formed s) (λ i l. refusal not_utf8 i (place_of l (formed s l)) 0 0) (alone_as s) (not_ill h)

  pub alone_passes : length s ≤ 1048576 → length s ≤ well_formed s → entry s (alone_as s ∷ []) ≡ none
  unfolding entry not_empty not_many not_mixed any_of first_of
  alone_passes h k = rw (alone_good, alone_short h, alone_utf8 k) refl

  -- its items are those of its body's pieces
  abbrev pub items_of : List Piece → List Item
  items_of ps = map (item_of 1 0 (length s + 3) (place_of (alone_as s) 0)) ps

  abbrev pub answer_with : List Piece → Answer
  answer_with ps = answer_of joined 0 0 (length s + 3) (all_chars s (alone_as s ∷ [])) (items_of ps)

  pub alone_reads : (look : Naming) (ps : List Piece) (j : ℕ) → entry s (alone_as s ∷ []) ≡ none → read_body look 1 s ≡ got ps j → read_alone look s ≡ accepts (answer_with ps)
  unfolding read_alone read read_from read_literal and_then answered sort_of any_of u_mark first_start last_end
  alone_reads look ps j e f = rw (e, from, read) (ap (λ xs. accepts (answer_of joined 0 0 (length s + 3) (all_chars s (alone_as s ∷ [])) xs)) (append-nil (items_of ps)))
    where
      from : read_from look s 0 (alone_as s ∷ []) ≡ accepts (items_of ps ++ [])
      from = rw (body_is, f, read_literal) refl

-- WHAT MAY BE READ BACK IS READ BACK, ALIKE
pub reads_back_lem : (look : Naming) (p : Content) → Proper p → reads_back p ≡ true → reads_alike look p ≡ true
unfolding reads_back reads_alike held_alike
reads_back_lem look p h k =
    let s = spelled top p in
    let a = and_both (parts_read 0 top p) (leb (length s) 1048576) k in
    let w : length s ≤ well_formed s = spelled_formed p h in
    let (ps, f, (q, e, z)) = body_back look p (formed_utf8 s w) a.0 (proper_converts p h) in
    let r = alone_reads s look ps (length s) (alone_passes s (leb-true (length s) 1048576 a.1) w) f in
    let y : alike (content (answer_with s ps)) ≡ alike p = ap (λ t. alike (content (answer_with s t))) e ∙ answer_alike 0 (length s + 3) (place_of (alone_as s) 0) 0 (all_chars s (alone_as s ∷ [])) q ∙ ap alike z ∙ alike_twice p in
    rw r (rw y (same_self (alike p)))

-- A BODY READ ALONE IS ACCEPTED only if it passes the entry checks and its body is read
pub record Alone (look : Naming) (s : List ℕ) (x : Answer) : Type 0 where
  pub pieces : List Piece
  pub taken : ℕ
  pub short : length s ≤ 1048576
  pub reads : read_body look 1 s ≡ got pieces taken
  pub made : x ≡ answer_with s pieces

no_answer : {P : Type 0} (r : Refusal) (x : Answer) → ◌≡◌ {A = Outcome Answer} (refuses r) (accepts x) → P
no_answer r x e = let z : ◌≡◌ {A = ℕ} 0 1 = cc in absurd (omega arith)

same_answer : (x y : Answer) → ◌≡◌ {A = Outcome Answer} (accepts x) (accepts y) → x ≡ y
same_answer x y e = cc

short_of_lem : (s : List ℕ) → entry s (alone_as s ∷ []) ≡ none → length s ≤ 1048576
unfolding not_long total
short_of_lem s e =
    cases (ltb 1048576 (length s + 0)) (λ t. never (rw t at (passes s (alone_as s ∷ []) e).short)) (λ t. omega (arith, ltb-false 1048576 (length s + 0) t))
  where
    never : {P : Type 0} → ◌≡◌ {A = Option Refusal} (some (refusal bodies_too_long 0 0 0 0)) none → P
    never e = let z : ◌≡◌ {A = ℕ} 0 1 = cc in absurd (omega arith)

pub alone_is : (look : Naming) (s : List ℕ) (x : Answer) → read_alone look s ≡ accepts x → Alone look s x
unfolding read_alone read read_from read_literal and_then answered
alone_is look s x h = go (entry s (alone_as s ∷ [])) refl (read_body look 1 s) refl
  where
    go : (c : Option Refusal) → entry s (alone_as s ∷ []) ≡ c → (r : Read (List Piece)) → read_body look 1 s ≡ r → Alone look s x
    go (some r) e f g = no_answer r x (rw (e, read) at h)
    go none e (refused y) g = no_answer _ x (rw (e, refused-from y g, read) at h)
      where
        refused-from : (y : Fault) → read_body look 1 s ≡ refused y → read_from look s 0 (alone_as s ∷ []) ≡ refuses (refusal_in s 0 (alone_as s) y)
        refused-from y g = rw (body_is s, g, read_literal) refl
    go none e (got ps j) g = record { pieces = ps; taken = j; short = short_of_lem s e; reads = g; made = same_answer x (answer_with s ps) (sym h ∙ alone_reads s look ps j e g) }

-- ONLY WHAT MAY BE READ BACK IS READ BACK, ALIKE
pub only_reads_back : (look : Naming) (p : Content) → Proper p → reads_alike look p ≡ true → reads_back p ≡ true
unfolding reads_alike held_alike reads_back
only_reads_back look p h k = go (read_alone look (spelled top p)) refl
  where
    s : List ℕ
    s = spelled top p

    w : length s ≤ well_formed s
    w = spelled_formed p h

    go : (o : Outcome Answer) → read_alone look s ≡ o → reads_back p ≡ true
    go (refuses r) e = no (rw e at k)
    go (accepts x) e =
        let a = alone_is look s x e in
        let same : alike (content x) ≡ alike p = same_is (alike (content x)) (alike p) (rw e at k) in
        let (q, z, all) = subst (TreeRead Had 0) a.reads (body_had look 1 s (formed_utf8 s w) refl) in
        let y : alike (strip q) ≡ alike p = sym (answer_alike 0 (length s + 3) (place_of (alone_as s) 0) 0 (all_chars s (alone_as s ∷ [])) q) ∙ ap (λ t. alike (content (answer_with s t))) (sym z) ∙ ap (λ t. alike (content t)) (sym a.made) ∙ same in
        rw (only_back look p a.pieces a.taken q (formed_utf8 s w) (proper_converts p h) a.reads z y, le-leb (length s) 1048576 a.short) refl

-- 55'S THEOREM: what is held is read back alike exactly if it may be
pub reads_exactly : (look : Naming) (p : Content) → Proper p → reads_alike look p ≡ reads_back p
reads_exactly look p h = go (reads_alike look p) refl (reads_back p) refl
  where
    go : (a : Bool) → reads_alike look p ≡ a → (b : Bool) → reads_back p ≡ b → reads_alike look p ≡ reads_back p
    go true e b f = e ∙ sym (only_reads_back look p h e)
    go false e true f = no (sym e ∙ reads_back_lem look p h f)
    go false e false f = e ∙ sym f
