-- A body read alone: accepted exactly if it is short enough and well-formed and its steps go to the end. Assumes nothing.
use Rattle.std.specs.Prelude.{if◌then◌else◌}
use mathlib.Core.Path.{◌≡◌, refl, sym, ◌∙◌, ap}
use mathlib.Core.Bool.{Bool, true, false}
use mathlib.Core.List.{List, [], ◌∷◌, ◌++◌, map, append-nil}
use mathlib.Core.Option.{Option, none, some}
use Prim.Native.Nat.{ℕ, ◌+◌, ◌-◌, ◌≤◌}
use native.Mathlib.Omega.{arith}
use borrow.Author.Tests.{ltb-false, le-ltb}
use lib.Dec.{ltb}
use lib.ListN.{length}
use lib.Seq.{take-length}
use Rattle.definition.specs.Numbers.{prefix}
use Rattle.definition.specs.Chars.{well_formed}
use Rattle.definition.specs.Escapes.{held_names, Fault, Read, got, refused}
use Rattle.definition.specs.Body.{Piece, filled, text_n, enough, read_body}
use Rattle.definition.specs.Records.{Item, item_of, both_items, merge, Answer, answer_of}
use Rattle.definition.specs.Entry.{opening, place_of, body, Refusal, refusal, not_empty, not_many, first_bad, bad, all_good, total, not_long, formed, ill_formed, all_utf8, any_of, first_start, not_mixed, first_of, entry}
use Rattle.definition.specs.Reading.{accepts, read_literal, and_then, read_from, sort_of, u_mark, last_end, all_chars, answered, read, alone_as, read_alone}
use Rattle.definition_cuts.specs.Cuts.{is_read}
use Rattle.definition_laws.proofs.Join.Laid.{item_role}
use Rattle.definition_cuts_laws.proofs.Tokens.TokenSteps.{Eq, Steps, read_steps, steps_read}
use Rattle.definition_cuts_laws.proofs.Cuts.ShapeLaws.{Has, bare_item, good_append, good_pieces, bare_pieces}

-- 5 and 6 let it pass
abbrev pub Fit : List ℕ → Type 0
Fit s = (length s ≤ 1048576) × (length s ≤ well_formed s)

pub body_alone : (s : List ℕ) → body s (alone_as s) ≡ s
unfolding body
body_alone s = let e : 0 + length s - 0 ≡ length s = omega arith in rw e (take-length s)

good_alone : (s : List ℕ) → bad s 0 (alone_as s) ≡ false
unfolding bad place_of opening prefix
good_alone s = rw (le-ltb (length s) (0 + length s) (omega arith), le-ltb (length s + 3) 0 (omega arith), le-ltb (length s + 3) (0 + 2 + length s) (omega arith)) refl

-- the entry checks of a body alone
entry_alone : (s : List ℕ) → entry s (alone_as s ∷ []) ≡ first_of (not_long (alone_as s ∷ []) ∷ all_utf8 s (alone_as s ∷ []) ∷ [])
unfolding entry not_empty not_many all_good first_bad not_mixed any_of first_of
entry_alone s = go (not_long (alone_as s ∷ [])) (all_utf8 s (alone_as s ∷ [])) (good_alone s)
  where
    go : (a b : Option Refusal) → bad s 0 (alone_as s) ≡ false
        → first_of (not_empty (alone_as s ∷ []) ∷ not_many (alone_as s ∷ []) ∷ all_good s (alone_as s ∷ []) ∷ a ∷ b ∷ not_mixed (alone_as s ∷ []) ∷ []) ≡ first_of (a ∷ b ∷ [])
    go none none e = rw (e, first_bad) refl
    go none (some r) e = rw (e, first_bad) refl
    go (some r) b e = rw (e, first_bad) refl

long_alone : (s : List ℕ) → not_long (alone_as s ∷ []) ≡ (if ltb 1048576 (length s) then some (refusal 5 0 0 0 0) else none)
unfolding not_long total
long_alone s = let e : length s + 0 ≡ length s = omega arith in rw e refl

utf8_alone : (s : List ℕ) (x : Bool) → ltb (well_formed s) (length s) ≡ x → (all_utf8 s (alone_as s ∷ []) ≡ none → x ≡ false) × (x ≡ false → all_utf8 s (alone_as s ∷ []) ≡ none)
unfolding all_utf8 first_bad ill_formed formed
utf8_alone s true e = ((λ h. let z : ◌≡◌ {A = Option Refusal} (some _) none = rw (body_alone s, e, first_bad) at h in cc), (λ h. let z : ◌≡◌ {A = ℕ} 0 1 = cc in absurd (omega arith)))
utf8_alone s false e = ((λ h. refl), (λ h. rw (body_alone s, e, first_bad) refl))

pub entry_fit : (s : List ℕ) → Fit s → entry s (alone_as s ∷ []) ≡ none
unfolding first_of
entry_fit s f =
    let l : not_long (alone_as s ∷ []) ≡ none = long_alone s ∙ rw (le-ltb 1048576 (length s) f.0) refl in
    let u = (utf8_alone s false (le-ltb (well_formed s) (length s) f.1)).1 refl in
    entry_alone s ∙ rw (l, u) refl

pub fit_entry : (s : List ℕ) → entry s (alone_as s ∷ []) ≡ none → Fit s
unfolding first_of
fit_entry s e = go (ltb 1048576 (length s)) refl (ltb (well_formed s) (length s)) refl
  where
    e' : first_of (not_long (alone_as s ∷ []) ∷ all_utf8 s (alone_as s ∷ []) ∷ []) ≡ none
    e' = sym (entry_alone s) ∙ e

    unfit : (o : Option Refusal) → all_utf8 s (alone_as s ∷ []) ≡ o → not_long (alone_as s ∷ []) ≡ none → o ≡ none
    unfit none q l = refl
    unfit (some r) q l = let z : ◌≡◌ {A = Option Refusal} (some r) none = rw (l, q) at e' in z

    go : (x : Bool) → ltb 1048576 (length s) ≡ x → (y : Bool) → ltb (well_formed s) (length s) ≡ y → Fit s
    go true x y q =
        let l : not_long (alone_as s ∷ []) ≡ some (refusal 5 0 0 0 0) = long_alone s ∙ rw x refl in
        let z : ◌≡◌ {A = Option Refusal} (some (refusal 5 0 0 0 0)) none = rw l at e' in
        let n : ◌≡◌ {A = ℕ} 0 1 = cc in
        absurd (omega arith)
    go false x y q =
        let l : not_long (alone_as s ∷ []) ≡ none = long_alone s ∙ rw x refl in
        let u = unfit (all_utf8 s (alone_as s ∷ [])) refl l in
        (ltb-false 1048576 (length s) x, ltb-false (well_formed s) (length s) ((utf8_alone s (ltb (well_formed s) (length s)) refl).0 u))

-- the reading of one that is fit
abbrev pub top_reading : List ℕ → Read (List Piece)
top_reading s = text_n held_names (enough s) 1 s 0 0 [] []

items_of : (s : List ℕ) → List Piece → List Item
items_of s ps = map (item_of 1 0 (length s + 3) (place_of (alone_as s) 0)) ps

literal_alone : (s : List ℕ) (r : Read (List Piece)) → top_reading s ≡ r → read_body held_names 1 (body s (alone_as s)) ≡ r
unfolding read_body
literal_alone s r e = rw (body_alone s) e

module _ (s : List ℕ) where
  alone_got : Fit s → (ps : List Piece) (j : ℕ) → top_reading s ≡ got ps j
      → (c : ℕ) × (read_alone held_names s ≡ accepts (answer_of (sort_of (alone_as s ∷ [])) 0 0 (length s + 3) c (items_of s ps ++ [])))
  unfolding read_alone read answered read_from read_literal and_then u_mark first_start last_end items_of
  alone_got f ps j e =
      (all_chars s (alone_as s ∷ []), rw (entry_fit s f, read) (rw (literal_alone s (got ps j) e, read_literal) refl))

  alone_refused : Fit s → (x : Fault) → top_reading s ≡ refused x → is_read (read_alone held_names s) ≡ false
  unfolding read_alone read answered read_from read_literal and_then is_read
  alone_refused f x e = rw (entry_fit s f, read) (rw (literal_alone s (refused x) e, read_literal) refl)

  unfit_refused : (r : Refusal) → entry s (alone_as s ∷ []) ≡ some r → is_read (read_alone held_names s) ≡ false
  unfolding read_alone read is_read
  unfit_refused r e = rw (e, read) refl

  has_alone : (x : Answer) (q : _) (c : ℕ) (ps rs : List Piece) → x ≡ answer_of q 0 0 (length s + 3) c (items_of s ps ++ []) → Eq ps rs → Has x rs
  unfolding items_of
  has_alone x q c ps rs e h = record {
    sort = q;
    u = 0;
    start = 0;
    end = length s + 3;
    chars = c;
    items = items_of s ps ++ [];
    is = e;
    good = good_append (items_of s ps) [] (good_pieces 0 (length s + 3) (place_of (alone_as s) 0) ps) tt;
    same_items = ap (λ l. merge item_role both_items (map bare_item l)) (append-nil (items_of s ps)) ∙ ap (merge item_role both_items) (bare_pieces 0 (length s + 3) (place_of (alone_as s) 0) ps) ∙ h;
  }

  -- ACCEPTED exactly if it is fit and its steps go to the end; and then the answer has their pieces
  pub fit_accepted : Fit s → (ps : List Piece) → Steps held_names s 0 (length s) ps → (x : Answer) × (read_alone held_names s ≡ accepts x) × Has x ps
  unfolding filled
  fit_accepted f ps S =
      let R = steps_read held_names s 0 ps S (omega arith) [] [] in
      let A = alone_got f R.0 (length s) R.1 in
      (answer_of (sort_of (alone_as s ∷ [])) 0 0 (length s + 3) A.0 (items_of s R.0 ++ []), A.1, has_alone _ (sort_of (alone_as s ∷ [])) A.0 R.0 ps refl R.2)

  pub accepted_fit : is_read (read_alone held_names s) ≡ true → Fit s × ((ps : List Piece) × Steps held_names s 0 (length s) ps)
  unfolding filled
  accepted_fit h = go (entry s (alone_as s ∷ [])) refl
    where
      no : {P : Type 0} → is_read (read_alone held_names s) ≡ false → P
      no e = let z : ◌≡◌ {A = Bool} false true = sym e ∙ h in let y : ◌≡◌ {A = ℕ} 0 1 = cc in absurd (omega arith)

      body_read : (f : Fit s) (r : Read (List Piece)) → top_reading s ≡ r → Fit s × ((ps : List Piece) × Steps held_names s 0 (length s) ps)
      body_read f (got ps j) e =
          let R = read_steps held_names s (enough s) 0 [] [] ps j (omega arith) (omega arith) e in
          (f, (R.0, R.1))
      body_read f (refused x) e = no (alone_refused f x e)

      go : (o : Option Refusal) → entry s (alone_as s ∷ []) ≡ o → Fit s × ((ps : List Piece) × Steps held_names s 0 (length s) ps)
      go none e = body_read (fit_entry s e) (top_reading s) refl
      go (some r) e = no (unfit_refused r e)
