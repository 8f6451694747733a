-- A ROW THAT IS READ is one of RFC 4180's grammar, and every row of the grammar is read: both ways. Assumes nothing.
use mathlib.Core.Path.{◌≡◌, refl, sym, ◌∙◌, ap, ap₂, subst}
use mathlib.Core.Bool.{Bool, true, false, ◌&&◌, ◌||◌}
use mathlib.Core.List.{List, [], ◌∷◌, ◌++◌, append_assoc}
use Prim.Native.Nat.{ℕ}
use native.Mathlib.Omega.{arith}
use lib.Dec.{eqb}
use borrow.Author.Tests.{eqb-true}
use Rattle.definition.specs.Chars.{◌is◌}
use Rattle.definition_replay.specs.Spec.{front, behind, all}
use Rattle.definition_replay.specs.Trace.{is_quote, is_text, in_quotes, Taken, taken, broken, more_of, quoted_case, quoted_from, column_of, Behind, comma, ends, other, behind_column}
use Rattle.definition_replay.specs.IsTrace.{Column, bare, quoted, value_of, doubled, column_text, column_legal, Ending, line, last}
use Rattle.definition.proofs.Moves.CharLaws.{cases, no, either}
use Rattle.definition_replay_laws.proofs.Spec.SpecLaws.{both_true, Off, front_behind, front_all, front_found}

-- one more is read exactly if the rest is
pub record More {A : Type 0} (x : A) (o : Taken (List A)) (v : List A) (r : List ℕ) : Type 0 where
  pub tail : List A
  pub is_tail : v ≡ x ∷ tail
  pub read : o ≡ taken tail r

pub more_read : {A : Type 0} (x : A) (o : Taken (List A)) (v : List A) (r : List ℕ) → more_of x o ≡ taken v r → More x o v r
unfolding more_of
more_read x (taken w t) v r e = record { tail = w; is_tail = cc; read = cc }
more_read x broken v r e = let z : ◌≡◌ {A = ℕ} 0 1 = cc in absurd (omega arith)

pub unread : {A P : Type 0} {v : A} {r : List ℕ} → ◌≡◌ {A = Taken A} broken (taken v r) → P
unread e = let z : ◌≡◌ {A = ℕ} 0 1 = cc in absurd (omega arith)

-- IN QUOTES. By the next byte
module _ (b : ℕ) (s : List ℕ) where
  quoted_opens : is_quote b ≡ true → quoted_from false (b ∷ s) ≡ quoted_from true s
  unfolding quoted_from quoted_case
  quoted_opens e = rw (e, quoted_from)

  quoted_twice : is_quote b ≡ true → quoted_from true (b ∷ s) ≡ more_of 34 (quoted_from false s)
  unfolding quoted_from quoted_case
  quoted_twice e = rw (e, quoted_from)

  quoted_closes : is_quote b ≡ false → quoted_from true (b ∷ s) ≡ taken [] (b ∷ s)
  unfolding quoted_from quoted_case
  quoted_closes e = rw (e, quoted_from)

  quoted_holds : is_quote b ≡ false → in_quotes b ≡ true → quoted_from false (b ∷ s) ≡ more_of b (quoted_from false s)
  unfolding quoted_from quoted_case
  quoted_holds e f = rw (e, f, quoted_from)

  quoted_wrong : is_quote b ≡ false → in_quotes b ≡ false → quoted_from false (b ∷ s) ≡ broken
  unfolding quoted_from quoted_case
  quoted_wrong e f = rw (e, f, quoted_from)

quoted_last : quoted_from true [] ≡ taken [] []
unfolding quoted_from
quoted_last = refl

quoted_none : quoted_from false [] ≡ broken
unfolding quoted_from
quoted_none = refl

doubled_quote : (b : ℕ) (v : List ℕ) → is_quote b ≡ true → doubled (b ∷ v) ≡ 34 ∷ 34 ∷ doubled v
unfolding doubled
doubled_quote b v e = rw e

pub doubled_other : (b : ℕ) (v : List ℕ) → is_quote b ≡ false → doubled (b ∷ v) ≡ b ∷ doubled v
unfolding doubled
doubled_other b v e = rw e

abbrev pub quotable : ℕ → Bool
quotable b = in_quotes b || is_quote b

-- the closing quote
quoted_end : (r : List ℕ) → Off is_quote r → quoted_from false (34 ∷ r) ≡ taken [] r
quoted_end [] h = quoted_opens 34 [] refl ∙ quoted_last
quoted_end (c ∷ r) h = quoted_opens 34 (c ∷ r) refl ∙ quoted_closes c r h

quoted_whole : (v r : List ℕ) → all quotable v ≡ true → Off is_quote r → quoted_from false (doubled v ++ (34 ∷ r)) ≡ taken v r
unfolding all doubled more_of
quoted_whole [] r a h = quoted_end r h
quoted_whole (b ∷ v) r a h =
    let d = both_true (quotable b) (all quotable v) a in
    let ih = quoted_whole v r d.1 h in
    cases (is_quote b)
    (λ e.
    rw (doubled_quote b v e)
    (quoted_opens 34 (34 ∷ (doubled v ++ (34 ∷ r))) refl ∙ quoted_twice 34 (doubled v ++ (34 ∷ r)) refl ∙ ap (more_of 34) ih ∙ ap (λ x. taken (x ∷ v) r) (sym (eqb-true b 34 e))))
    (λ e.
    let k : in_quotes b ≡ true = either (in_quotes b) (is_quote b) d.0 (λ q. q) (λ q. no (sym e ∙ q)) in
    rw (doubled_other b v e) (quoted_holds b (doubled v ++ (34 ∷ r)) e k ∙ ap (more_of b) ih))

pub record QuotedText (s v r : List ℕ) : Type 0 where
  pub text : s ≡ doubled v ++ (34 ∷ r)
  pub legal : all quotable v ≡ true
  pub off : Off is_quote r

-- the byte before a text that was read after a quote
abbrev quotes : Bool → List ℕ → List ℕ
quotes true s = 34 ∷ s
quotes false s = s

quoted_more : (s v w r : List ℕ) (b : ℕ) → is_quote b ≡ false → in_quotes b ≡ true → v ≡ b ∷ w → QuotedText s w r → QuotedText (b ∷ s) v r
unfolding all
quoted_more s v w r b e f p q =
    rw p
    (record { text = ap (λ l. b ∷ l) q.text ∙ ap (λ l. l ++ (34 ∷ r)) (sym (doubled_other b w e)); legal = rw (f, q.legal); off = q.off })

quoted_pair : (s v w r : List ℕ) → v ≡ 34 ∷ w → QuotedText s w r → QuotedText (34 ∷ 34 ∷ s) v r
unfolding all in_quotes is_text
quoted_pair s v w r p q =
    rw p
    (record { text = ap (λ l. 34 ∷ 34 ∷ l) q.text ∙ ap (λ l. l ++ (34 ∷ r)) (sym (doubled_quote 34 w refl)); legal = q.legal; off = q.off })

quoted_sound : (after : Bool) (s v r : List ℕ) → quoted_from after s ≡ taken v r → QuotedText (quotes after s) v r
unfolding all doubled
quoted_sound true [] v r e =
    let f : ◌≡◌ {A = Taken (List ℕ)} (taken [] []) (taken v r) = sym quoted_last ∙ e in
    let v0 : v ≡ [] = cc in
    let r0 : r ≡ [] = cc in
    rw (v0, r0) (record { text = refl; legal = refl; off = refl })
quoted_sound false [] v r e = unread (sym quoted_none ∙ e)
quoted_sound true (b ∷ s) v r e =
    cases (is_quote b)
    (λ q.
    let m = more_read 34 (quoted_from false s) v r (sym (quoted_twice b s q) ∙ e) in
    rw (eqb-true b 34 q) (quoted_pair s v m.tail r m.is_tail (quoted_sound false s m.tail r m.read)))
    (λ q.
    let f : ◌≡◌ {A = Taken (List ℕ)} (taken [] (b ∷ s)) (taken v r) = sym (quoted_closes b s q) ∙ e in
    let v0 : v ≡ [] = cc in
    let r0 : r ≡ b ∷ s = cc in
    rw (v0, r0) (record { text = refl; legal = refl; off = q }))
quoted_sound false (b ∷ s) v r e =
    cases (is_quote b)
    (λ q. rw (eqb-true b 34 q) (quoted_sound true s v r (sym (quoted_opens b s q) ∙ e)))
    (λ q.
    cases (in_quotes b)
    (λ k. let m = more_read b (quoted_from false s) v r (sym (quoted_holds b s q k) ∙ e) in quoted_more s v m.tail r b q k m.is_tail (quoted_sound false s m.tail r m.read))
    (λ k. unread (sym (quoted_wrong b s q k) ∙ e)))

-- A COLUMN. What stands behind it is no text and no quote
abbrev pub Stops : List ℕ → Type 0
Stops t = Off is_text t × Off is_quote t

column_quoted : (b : ℕ) (s : List ℕ) → is_quote b ≡ true → column_of (b ∷ s) ≡ quoted_from false s
unfolding column_of
column_quoted b s e = rw (e, column_of)

column_bare : (b : ℕ) (s : List ℕ) → is_quote b ≡ false → column_of (b ∷ s) ≡ taken (front is_text (b ∷ s)) (behind is_text (b ∷ s))
unfolding column_of
column_bare b s e = rw (e, column_of)

column_none : column_of [] ≡ taken [] []
unfolding column_of
column_none = refl

-- text holds no quote
pub text_unquoted : (b : ℕ) → is_text b ≡ true → is_quote b ≡ false
unfolding is_text
text_unquoted b e = cases (is_quote b) (λ q. no (sym (ap is_text (eqb-true b 34 q)) ∙ e)) (λ q. q)

pub column_whole : (c : Column) (t : List ℕ) → column_legal c ≡ true → Stops t → column_of (column_text c ++ t) ≡ taken (value_of c) t
unfolding column_legal column_text all
column_whole (bare []) [] l h = column_none
column_whole (bare []) (b ∷ t) l h =
    let f = front_found is_text [] (b ∷ t) l h.0 in
    column_bare b t h.1 ∙ ap₂ taken f.0 f.1
column_whole (bare (b ∷ v)) t l h =
    let d = both_true (is_text b) (all is_text v) l in
    let f = front_found is_text (b ∷ v) t l h.0 in
    column_bare b (v ++ t) (text_unquoted b d.0) ∙ ap₂ taken f.0 f.1
column_whole (quoted v) t l h =
    column_quoted 34 (doubled v ++ (34 ∷ []) ++ t) refl ∙ ap (quoted_from false) (append_assoc (doubled v) (34 ∷ []) t) ∙ quoted_whole v t l h.1

pub record ColumnText (s v t : List ℕ) : Type 0 where
  pub column : Column
  pub text : s ≡ column_text column ++ t
  pub are : v ≡ value_of column
  pub legal : column_legal column ≡ true

pub column_sound : (s v t : List ℕ) → column_of s ≡ taken v t → ColumnText s v t
unfolding column_text column_legal all
column_sound [] v t e =
    let f : ◌≡◌ {A = Taken (List ℕ)} (taken [] []) (taken v t) = sym column_none ∙ e in
    let v0 : v ≡ [] = cc in
    let t0 : t ≡ [] = cc in
    record { column = bare []; text = sym t0; are = v0; legal = refl }
column_sound (b ∷ s) v t e =
    cases (is_quote b)
    (λ q.
    let k = quoted_sound false s v t (sym (column_quoted b s q) ∙ e) in
    record {
      column = quoted v;
      text = ap₂ (λ x l. x ∷ l) (eqb-true b 34 q) (k.text ∙ sym (append_assoc (doubled v) (34 ∷ []) t));
      are = refl;
      legal = k.legal;
    })
    (λ q.
    let f : taken (front is_text (b ∷ s)) (behind is_text (b ∷ s)) ≡ taken v t = sym (column_bare b s q) ∙ e in
    let v0 : front is_text (b ∷ s) ≡ v = cc in
    let t0 : behind is_text (b ∷ s) ≡ t = cc in
    record {
      column = bare v;
      text = sym (front_behind is_text (b ∷ s)) ∙ ap₂ (λ x y. x ++ y) v0 t0;
      are = refl;
      legal = rw v0 at (front_all is_text (b ∷ s));
    })

-- BEHIND A COLUMN
pub behind_comma : (t : List ℕ) → behind_column (44 ∷ t) ≡ comma t
unfolding behind_column
behind_comma [] = refl
behind_comma (c ∷ t) = refl

pub comma_stops : (t : List ℕ) → Stops (44 ∷ t)
unfolding is_text
comma_stops t = (refl, refl)

pub ending_stops : (e u : List ℕ) → Ending e u → Stops e
unfolding is_text
ending_stops e u (line rest) = (refl, refl)
ending_stops e u last = (refl, refl)

pub behind_ending : (e u : List ℕ) → Ending e u → behind_column e ≡ ends u
unfolding behind_column
behind_ending e u (line rest) = refl
behind_ending e u last = refl

-- what it says of a text
abbrev pub Says : List ℕ → Behind → Type 0
Says t (comma u) = t ≡ 44 ∷ u
Says t (ends u) = Ending t u
Says t other = Unit {0}

pub behind_says : (t : List ℕ) → Says t (behind_column t)
unfolding behind_column
behind_says [] = last
behind_says (b ∷ []) = cases (b is ",") (λ e. rw e (ap (λ x. x ∷ []) (eqb-true b 44 e))) (λ e. rw e tt)
behind_says (b ∷ c ∷ s) =
    cases (b is ",") (λ e. rw e (ap (λ x. x ∷ c ∷ s) (eqb-true b 44 e)))
    (λ e.
    cases (eqb b 13 && eqb c 10)
    (λ f.
    let d = both_true (eqb b 13) (eqb c 10) f in
    rw (e, f) (subst (λ l. Ending l s) (sym (ap₂ (λ x y. x ∷ y ∷ s) (eqb-true b 13 d.0) (eqb-true c 10 d.1))) (line s)))
    (λ f. rw (e, f) tt))
