-- Text, field and spec that end in a window are the same in both texts, but for places. Assumes nothing.
use mathlib.Core.Path.{◌≡◌, refl, sym, ◌∙◌, ap, subst}
use mathlib.Core.Bool.{Bool, true, false}
use mathlib.Core.List.{List, [], ◌++◌, map}
use mathlib.Core.Option.{none, some}
use Prim.Native.Nat.{ℕ, zero, suc, ◌+◌, ◌≤◌, ◌<◌}
use native.Mathlib.Omega.{arith}
use borrow.Author.Tests.{lt-leb, ne_eqb}
use lib.Dec.{leb}
use lib.ListN.{length, drop}
use Rattle.definition.specs.Chars.{◌is◌, code, next, char, before}
use Rattle.definition.specs.Escapes.{Naming, Fault, Read, got, refused, Meaning, escape_case, octal, escape, meant}
use Rattle.definition.specs.Body.{Signs, Piece, Bracket, Move, goes, stops, calls, ends, with_escape, too_deep, TextCase, deep, opens, last, doubled, lone, text_case, text_move, filled, Field, state, signs, with_colon, with_close, formatted, fresh, outside, field_move, finished, specified, plain_run, first_end, text_n, field_n, spec_n}
use Rattle.definition.proofs.Moves.CharLaws.{cases, next_past, next_in, next_from, next_ascii}
use Rattle.definition_laws.proofs.Moves.Adds.{ascii_in}
use Rattle.definition_laws.proofs.Moves.Cases.{text_told}
use Rattle.definition_laws.proofs.Moves.Moves.{Ahead, text_size, text_ahead, FieldAhead, field_ahead}
use Rattle.definition_laws.proofs.Moves.Steps.{text_goes, text_stops, text_ends, text_got, text_refused, field_goes, field_stops, field_ends, field_got, field_refused, first_piece, spec_calls, spec_ends}
use Rattle.definition_laws.proofs.Moves.Fuel.{Moves, first_in_lem, reads}
use Rattle.definition_cuts_laws.proofs.Windows.Window.{Window, At, in_right, not_end, not_end', eqb_like, is_like, next_like, code_like, part_like, char_like, before_like}
use Rattle.definition_cuts_laws.proofs.Windows.WindowEscapes.{not_got, got_later, got_within, escape_past, Lands, Edge, edge_in, escape_like, meant_like}
use Rattle.definition_cuts_laws.proofs.Windows.Closed.{text_over, finished_at, specified_at, Sign, ended, field_sign, field_closed, field_past}
use Rattle.definition_cuts_laws.proofs.Windows.WindowFields.{bare, Same, same_append, codes, finished_like, conversion_some, pieces_none, pieces_some, Like, on, calling, move_like, end_like}

-- a text's move takes a character at least
pub goes_past : (look : Naming) (kind : ℕ) (s : List ℕ) (depth i : ℕ) (text : List ℕ) (q : ℕ) (t : List ℕ) → i ≤ length s → text_move look kind s depth i text ≡ goes q t → next s i ≤ q
unfolding text_move with_escape
goes_past look kind s depth i text q t l e = go (text_case kind s depth i) refl
  where
    no : {P : Type 0} (m : Move (List ℕ)) → m ≡ goes q t → ((m : Move (List ℕ)) → m ≡ goes q t → P) → P
    no m e f = f m e

    stop : {P : Type 0} (x : Fault) → ◌≡◌ {A = Move (List ℕ)} (stops x) (goes q t) → P
    stop x f = let z : ◌≡◌ {A = ℕ} 0 1 = cc in absurd (omega arith)

    escaped : (r : Read Meaning) → escape look kind s (next s i) ≡ r → with_escape kind s i text r ≡ goes q t → next s i ≤ q
    escaped (got m j) r f = let z : j ≡ q = cc in omega (arith, escape_past look kind s (next s i) m j (next_in s i l) r, next_from s (next s i))
    escaped (refused x) r f = stop x f

    go : (x : TextCase) → text_case kind s depth i ≡ x → next s i ≤ q
    go deep y = stop _ (rw (y, text_move) at e)
    go TextCase.over y = let f : ◌≡◌ {A = Move (List ℕ)} ends (goes q t) = rw (y, text_move) at e in let z : ◌≡◌ {A = ℕ} 0 1 = cc in absurd (omega arith)
    go opens y = let f : ◌≡◌ {A = Move (List ℕ)} calls (goes q t) = rw (y, text_move) at e in let z : ◌≡◌ {A = ℕ} 0 1 = cc in absurd (omega arith)
    go last y = stop _ (rw (y, text_move) at e)
    go doubled y = let f : goes (next s (next s i)) (text ++ char s i) ≡ goes q t = rw (y, text_move) at e in let z : next s (next s i) ≡ q = cc in omega (arith, next_from s (next s i))
    go lone y = stop _ (rw (y, text_move) at e)
    go TextCase.escapes y = escaped (escape look kind s (next s i)) refl (rw (y, text_move) at e)
    go TextCase.plain y = let f : goes (next s i) (text ++ char s i) ≡ goes q t = rw (y, text_move) at e in let z : next s i ≡ q = cc in omega arith

deep_is : (kind : ℕ) (s : List ℕ) (depth p : ℕ) → leb too_deep depth ≡ true → text_case kind s depth p ≡ deep
unfolding text_case
deep_is kind s depth p t = rw t refl

-- a text that is over is not too deep
shallow : (kind : ℕ) (s : List ℕ) (depth p : ℕ) → text_case kind s depth p ≡ TextCase.over → leb too_deep depth ≡ false
shallow kind s depth p o =
    cases (leb too_deep depth)
    (λ t. let z : ◌≡◌ {A = TextCase} deep TextCase.over = sym (deep_is kind s depth p t) ∙ o in let y : ◌≡◌ {A = ℕ} 0 1 = cc in absurd (omega arith))
    (λ t. t)

specified_on : (s : List ℕ) (depth from k : ℕ) (f : Field) (ps : List Piece) → k < length s → specified s depth from k f ps ≡ finished depth from (next s k) f (some ps)
unfolding specified
specified_on s depth from k f ps h = rw (lt-leb (length s) k h) refl

module _ (s s' : List ℕ) (a b low top : ℕ) (W : Window s s' a b low top) where
  abbrev Here : (p p' : ℕ) → Type 0
  Here p p' = At s s' a b low top W p p'

  pub data TextLike : Move (List ℕ) → Move (List ℕ) → Type 0 where
    onward : {q q' : ℕ} {t : List ℕ} → Here q q' → TextLike (goes q t) (goes q' t)
    halts : {x : Fault} {m : Move (List ℕ)} → TextLike (stops x) m
    opening : TextLike calls calls
    over : TextLike ends ends

  pub text_case_like : (kind depth p p' : ℕ) → Here p p' → p < top → next s p < top → text_case kind s depth p ≡ text_case kind s' depth p'
  unfolding text_case
  text_case_like kind depth p p' m h l =
      let q = next_like s s' a b low top W p p' m h (omega arith) in
      rw (not_end s s' a b low top W p p' m h, not_end' s s' a b low top W p p' m h, code_like s s' a b low top W p p' m h (omega arith), eqb_like s s' a b low top W (next s p) (next s' p') q l 123 (omega arith), eqb_like s s' a b low top W (next s p) (next s' p') q l 125 (omega arith), not_end s s' a b low top W (next s p) (next s' p') q l, not_end' s s' a b low top W (next s p) (next s' p') q l) refl

  -- a move in text, whose character is not the last of the window; an octal escape must end before the window does
  pub text_move_like : (look : Naming) (kind depth p p' : ℕ) (text : List ℕ) → Here p p' → p < top → next s p < top
      → ((q : ℕ) (t : List ℕ) → text_move look kind s depth p text ≡ goes q t → q ≤ top)
      → ((q : ℕ) (t : List ℕ) → text_move look kind s depth p text ≡ goes q t → text_case kind s depth p ≡ TextCase.escapes → escape_case kind s (next s p) ≡ octal → Edge s s' a b low top W q)
      → TextLike (text_move look kind s depth p text) (text_move look kind s' depth p' text)
  unfolding text_move with_escape
  text_move_like look kind depth p p' text m h l bound oct = go (text_case kind s depth p) refl
    where
      mi : Here (next s p) (next s' p')
      mi = next_like s s' a b low top W p p' m h (omega arith)

      other : (y : TextCase) → text_case kind s depth p ≡ y → text_case kind s' depth p' ≡ y
      other y q = sym (text_case_like kind depth p p' m h l) ∙ q

      landed : (v : Meaning) (j : ℕ) → Lands s s' a b low top W (escape look kind s' (next s' p')) v j → p ≤ j → j ≤ top
          → TextLike (goes j (text ++ meant kind s p j v)) (with_escape kind s' p' text (escape look kind s' (next s' p')))
      landed v j (j', f, g) u k = rw (f, meant_like s s' a b low top W kind p p' j j' v m g u k) (onward (g, omega (arith, m.1)))

      escaped : (r : Read Meaning) → escape look kind s (next s p) ≡ r → text_case kind s depth p ≡ TextCase.escapes
          → TextLike (with_escape kind s p text r) (with_escape kind s' p' text (escape look kind s' (next s' p')))
      escaped (got v j) r q =
          let e : text_move look kind s depth p text ≡ goes j (text ++ meant kind s p j v) = rw (q, r, text_move) refl in
          let k = bound j (text ++ meant kind s p j v) e in
          let z = escape_like s s' a b low top W look kind (next s p) (next s' p') v j mi (omega arith) r k (oct j (text ++ meant kind s p j v) e q) in
          let u = escape_past look kind s (next s p) v j (omega (arith, W.within)) r in
          let n = next_from s (next s p) in
          let n' = next_from s p in
          landed v j z (omega arith) k
      escaped (refused x) r q = halts

      go : (y : TextCase) → text_case kind s depth p ≡ y → TextLike (text_move look kind s depth p text) (text_move look kind s' depth p' text)
      go deep q = rw (q, text_move) halts
      go TextCase.over q = rw (q, other TextCase.over q, text_move) over
      go opens q = rw (q, other opens q, text_move) opening
      go last q = rw (q, text_move) halts
      go doubled q =
          let k = bound (next s (next s p)) (text ++ char s p) (rw (q, text_move) refl) in
          rw (q, other doubled q, text_move) (rw (← char_like s s' a b low top W p p' m h (omega arith)) (onward (next_like s s' a b low top W (next s p) (next s' p') mi l k)))
      go lone q = rw (q, text_move) halts
      go TextCase.escapes q = rw (q, other TextCase.escapes q, text_move) (escaped (escape look kind s (next s p)) refl q)
      go TextCase.plain q = rw (q, other TextCase.plain q, text_move) (rw (← char_like s s' a b low top W p p' m h (omega arith)) (onward mi))

  -- a `}` ends a text in a spec wherever it stands
  over_there : (look : Naming) (kind depth p p' : ℕ) (text : List ℕ) → Here p p' → p < top → leb too_deep depth ≡ false → 1 ≤ depth → code s p ≡ 125 → text_move look kind s' depth p' text ≡ ends
  unfolding text_move text_case
  over_there look kind depth p p' text m h t d y =
      let u = ascii_in s p (omega arith) in
      let v = next_ascii s p u in
      let q : code s' p' ≡ 125 = sym (code_like s s' a b low top W p p' m h (omega arith)) ∙ y in
      rw (t, not_end' s s' a b low top W p p' m h, q, ne_eqb depth 0 (λ e. omega arith), text_move) refl

  -- what a reading gives, in the other text
  abbrev pub Again : Read (List Piece) → List Piece → ℕ → Type 0
  Again r qs j = (qs' : List Piece) × (j' : ℕ) × (r ≡ got qs' j') × (j + a ≡ j' + b) × Same qs qs'

  pub record Alike (look : Naming) (kind n : ℕ) : Type 0 where
    pub text : (depth p p' : ℕ) (text : List ℕ) (ps ps' qs : List Piece) (j : ℕ) → 1 ≤ depth → Here p p' → p ≤ length s → Moves s p 1 n → Same ps ps'
        → text_n look n kind s depth p text ps ≡ got qs j → j < top → Again (text_n look n kind s' depth p' text ps') qs j
    pub field : (depth from from' p p' : ℕ) (e : List ℕ) (x : Bool) (o o' : List Bracket) (c : ℕ) (d : Bool) (w : ℕ) (g g' : Signs) (qs : List Piece) (j : ℕ)
        → Here p p' → p ≤ length s → Moves s p 1 n → codes o ≡ codes o'
        → field_n look n kind s depth from p (state e x o c d w g) ≡ got qs j → j ≤ top → Again (field_n look n kind s' depth from' p' (state e x o' c d w g')) qs j
    pub spec : (depth p p' : ℕ) (qs : List Piece) (j : ℕ) → Here p p' → p ≤ length s → Moves s p 2 n
        → spec_n look n kind s depth p ≡ got qs j → j < top → Again (spec_n look n kind s' depth p') qs j

  module _ (look : Naming) (kind n : ℕ) (A : Alike look kind n) where
    field_later : (depth from i : ℕ) (f : Field) (qs : List Piece) (j : ℕ) → i ≤ length s → Moves s i 1 n → field_n look n kind s depth from i f ≡ got qs j → i < j
    field_later depth from i f qs j l m e = let c = field_closed look n kind s depth from i f qs j l m e in omega (arith, c.1, c.2)

    text_later : (depth i : ℕ) (text : List ℕ) (ps qs : List Piece) (j : ℕ) → i ≤ length s → Moves s i 1 n → text_n look n kind s depth i text ps ≡ got qs j → i ≤ j
    text_later depth i text ps qs j l m e = got_later s i (text_n look n kind s depth i text ps) qs j ((reads look n).text n kind s depth i text ps l m m).0 e

    spec_later : (depth i : ℕ) (qs : List Piece) (j : ℕ) → i ≤ length s → Moves s i 2 n → spec_n look n kind s depth i ≡ got qs j → i ≤ j
    spec_later depth i qs j l m e = got_later s i (spec_n look n kind s depth i) qs j ((reads look n).spec n kind s depth i l m m).0 e

    text_again : (depth p p' : ℕ) (text : List ℕ) (ps ps' qs : List Piece) (j : ℕ) → 1 ≤ depth → Here p p' → p ≤ length s → Moves s p 1 (suc n) → Same ps ps'
        → text_n look (suc n) kind s depth p text ps ≡ got qs j → j < top → Again (text_n look (suc n) kind s' depth p' text ps') qs j
    unfolding fresh
    text_again depth p p' text ps ps' qs j d m l v q e h = go (text_move look kind s depth p text) refl (text_ahead look kind s depth p text l)
      where
        Goal : Type 0
        Goal = Again (text_n look (suc n) kind s' depth p' text ps') qs j

        later : (q : ℕ) (t : List ℕ) → text_move look kind s depth p text ≡ goes q t → q ≤ j
        later k t x = step (text_ahead look kind s depth p text l)
          where
            step : Ahead text_size (text_size text) (p < length s) (Unit {0}) s p (text_move look kind s depth p text) → k ≤ j
            step u =
                let y : Ahead text_size (text_size text) (p < length s) (Unit {0}) s p (goes k t) = subst (λ (z : Move (List ℕ)). Ahead text_size (text_size text) (p < length s) (Unit {0}) s p z) x u in
                text_later depth k t ps qs j y.1 (omega arith) (sym (text_goes look n kind s depth p text ps k t x) ∙ e)

        moves : p < top → next s p < top → TextLike (text_move look kind s depth p text) (text_move look kind s' depth p' text)
        moves h₀ h₁ = text_move_like look kind depth p p' text m h₀ h₁ (λ q t x. omega (arith, later q t x)) (λ q t x y z. edge_in s s' a b low top W q (omega (arith, later q t x)))

        on_goes : (k : ℕ) (t : List ℕ) (y : Move (List ℕ)) → text_move look kind s depth p text ≡ goes k t → text_move look kind s' depth p' text ≡ y → TextLike (goes k t) y → k ≤ length s → p < k → Goal
        on_goes k t (goes k' t') x x' (onward u) g z =
            rw (text_goes look n kind s' depth p' text ps' k' t x')
            (A.text depth k k' t ps ps' qs j d u g (omega arith) q (sym (text_goes look n kind s depth p text ps k t x) ∙ e) h)
        on_goes k t (stops why) x x' l g z = elim l [ ]
        on_goes k t calls x x' l g z = elim l [ ]
        on_goes k t ends x x' l g z = elim l [ ]

        on_calls : (y : Move (List ℕ)) → text_move look kind s' depth p' text ≡ y → TextLike calls y → text_move look kind s' depth p' text ≡ calls
        on_calls calls x opening = x
        on_calls (goes taken _) x l = elim l [ ]
        on_calls (stops why) x l = elim l [ ]
        on_calls ends x l = elim l [ ]

        after : (r : Read (List Piece)) → field_n look n kind s depth (next s p) (next s p) fresh ≡ r → text_move look kind s depth p text ≡ calls → p < length s → Goal
        after (got rs k) f x g =
            let np = next_past s p g in
            let ni = next_in s p l in
            let c = field_later depth (next s p) (next s p) fresh rs k ni (omega arith) f in
            let e' = sym (text_got look n kind s depth p text ps rs k x f) ∙ e in
            let kin = got_within s (next s p) (field_n look n kind s depth (next s p) (next s p) fresh) rs k ((reads look n).field n kind s depth (next s p) (next s p) fresh ni (omega arith) (omega arith)).0 f in
            let kj = text_later depth k [] (ps ++ filled depth text ++ rs) qs j kin (omega arith) e' in
            let x' = on_calls (text_move look kind s' depth p' text) refl (subst (λ (z : Move (List ℕ)). TextLike z (text_move look kind s' depth p' text)) x (moves (omega arith) (omega arith))) in
            let mi = next_like s s' a b low top W p p' m (omega arith) (omega arith) in
            let F = A.field depth (next s p) (next s' p') (next s p) (next s' p') [] true [] [] 0 false 0 (signs 0 0 0 0) (signs 0 0 0 0) rs k mi ni (omega arith) refl f (omega arith) in
            rw (text_got look n kind s' depth p' text ps' F.0 F.1 x' F.2)
            (A.text depth k F.1 [] (ps ++ filled depth text ++ rs) (ps' ++ filled depth text ++ F.0) qs j d (F.3, omega (arith, m.1)) kin (omega arith) (same_append (ps ++ filled depth text) (ps' ++ filled depth text) rs F.0 (same_append ps ps' (filled depth text) (filled depth text) q refl) F.4) e' h)
        after (refused y) f x g = not_got y qs j (sym (text_refused look n kind s depth p text ps y x f) ∙ e)

        go : (x : Move (List ℕ)) → text_move look kind s depth p text ≡ x → Ahead text_size (text_size text) (p < length s) (Unit {0}) s p x → Goal
        go (goes k t) x g =
            let u = later k t x in
            let w = goes_past look kind s depth p text k t l x in
            on_goes k t (text_move look kind s' depth p' text) x refl (subst (λ (z : Move (List ℕ)). TextLike z (text_move look kind s' depth p' text)) x (moves (omega arith) (omega arith))) g.1 g.0
        go (stops y) x g = not_got y qs j (sym (text_stops look n kind s depth p text ps y x) ∙ e)
        go calls x g = after (field_n look n kind s depth (next s p) (next s p) fresh) refl x g
        go ends x g =
            let f = sym (text_ends look n kind s depth p text ps x) ∙ e in
            let z : p ≡ j = cc in
            let y : ps ++ filled depth text ≡ qs = cc in
            let o = text_over look kind s depth p text x in
            let c = text_told s p kind depth TextCase.over o (omega (arith, W.within)) in
            let x' = over_there look kind depth p p' text m (omega arith) (shallow kind s depth p o) d c in
            (ps' ++ filled depth text, p', text_ends look n kind s' depth p' text ps' x', omega (arith, m.0), ap (map bare) (sym y) ∙ same_append ps ps' (filled depth text) (filled depth text) q refl)

    on_field : (depth from from' p p' : ℕ) (e : List ℕ) (x : Bool) (o o' : List Bracket) (c : ℕ) (d : Bool) (w : ℕ) (g g' : Signs) (qs : List Piece) (j : ℕ)
        → Here p p' → p ≤ length s → Moves s p 1 (suc n) → codes o ≡ codes o'
        → field_n look (suc n) kind s depth from p (state e x o c d w g) ≡ got qs j → j ≤ top → Again (field_n look (suc n) kind s' depth from' p' (state e x o' c d w g')) qs j
    unfolding formatted
    on_field depth from from' p p' e x o o' c d w g g' qs j m l v k y h = go (field_move s p F) refl (field_ahead s p F l) (field_sign s p F)
      where
        F : Field
        F = state e x o c d w g

        F' : Field
        F' = state e x o' c d w g'

        Goal : Type 0
        Goal = Again (field_n look (suc n) kind s' depth from' p' F') qs j

        later : (q : ℕ) (f : Field) → field_move s p F ≡ goes q f → q < j
        later q f z = step (field_ahead s p F l)
          where
            step : FieldAhead s p F (field_move s p F) → q < j
            step u =
                let t : FieldAhead s p F (goes q f) = subst (λ (z : Move Field). FieldAhead s p F z) z u in
                field_later depth from q f qs j t.1 (omega arith) (sym (field_goes look n kind s depth from p F q f z) ∙ y)

        moves : p < top → next s p < top → Like s s' a b low top W (field_move s p F) (field_move s' p' F')
        moves h₀ h₁ = move_like s s' a b low top W p p' m h₀ h₁ e x o o' c d w g g' k (λ q f z. omega (arith, later q f z))

        after : (r : Read (List Piece)) → spec_n look n kind s depth (next s p) ≡ r → field_move s p F ≡ calls → p < length s → Goal
        after (got ps i) f z u =
            let t = specified_at s depth from i (formatted (next s p) F) ps qs j (sym (field_got look n kind s depth from p F ps i z f) ∙ y) in
            let t' = finished_at depth from (next s i) (formatted (next s p) F) (some ps) qs j t.1 in
            let np = next_past s p u in
            let ni = next_in s p l in
            let si = spec_later depth (next s p) ps i ni (omega arith) f in
            let pi = next_past s i t.0 in
            let z' = on_calls (field_move s' p' F') refl (subst (λ (z : Move Field). Like s s' a b low top W z (field_move s' p' F')) z (moves (omega arith) (omega arith))) in
            let mi = next_like s s' a b low top W p p' m (omega arith) (omega arith) in
            let S = A.spec depth (next s p) (next s' p') ps i mi ni (omega arith) f (omega arith) in
            closed ps i S.0 S.1 S.2 z' S.3 S.4 t.1 (omega (arith, m.1)) (omega arith) t'
          where
            on_calls : (y : Move Field) → field_move s' p' F' ≡ y → Like s s' a b low top W calls y → field_move s' p' F' ≡ calls
            on_calls calls x calling = x
            on_calls (goes taken _) x l = elim l [ ]
            on_calls (stops why) x l = elim l [ ]
            on_calls ends x l = elim l [ ]

            closed : (ps : List Piece) (i : ℕ) (ps' : List Piece) (i' : ℕ) → spec_n look n kind s' depth (next s' p') ≡ got ps' i' → field_move s' p' F' ≡ calls → i + a ≡ i' + b → Same ps ps'
                → finished depth from (next s i) (formatted (next s p) F) (some ps) ≡ got qs j → low ≤ i → i < top → next s i ≡ j → Goal
            closed ps i ps' i' f' z' q same t lo hi ij =
                let mn = next_like s s' a b low top W i i' (q, lo) hi (omega arith) in
                let r = finished_like depth from from' (next s i) (next s' i') e x o o' c d w (with_colon (next s p) g) (with_colon (next s' p') g') (some ps) (some ps') qs j (conversion_some d c ps ps') (λ c. pieces_some depth e c from from' (with_close (next s i) (with_colon (next s p) g)) (with_close (next s' i') (with_colon (next s' p') g')) ps ps' same) t in
                (r.0, next s' i', field_got look n kind s' depth from' p' F' ps' i' z' f' ∙ specified_on s' depth from' i' (formatted (next s' p') F') ps' (in_right s s' a b low top W i i' (q, lo) hi) ∙ r.1, omega (arith, mn.0), r.2)
        after (refused u) f z t = not_got u qs j (sym (field_refused look n kind s depth from p F u z f) ∙ y)

        go : (z : Move Field) → field_move s p F ≡ z → FieldAhead s p F z → Sign s p (outside o) z → Goal
        go (goes q f) z u t = on_goes q f (field_move s' p' F') z refl (subst (λ (z : Move Field). Like s s' a b low top W z (field_move s' p' F')) z (moves (omega (arith, later q f z)) (omega (arith, later q f z, field_past s p F q f l z)))) u.1 u.0
          where
            on_goes : (q : ℕ) (f : Field) (r : Move Field) → field_move s p F ≡ goes q f → field_move s' p' F' ≡ r → Like s s' a b low top W (goes q f) r → q ≤ length s → p < q → Goal
            on_goes q f (goes q' f') z z' (on {e = e₁} {x = x₁} {o = o₁} {o' = o₁'} {c = c₁} {d = d₁} {w = w₁} {g = g₁} {g' = g₁'} u t) i r =
                rw (field_goes look n kind s' depth from' p' F' q' (state e₁ x₁ o₁' c₁ d₁ w₁ g₁') z')
                (A.field depth from from' q q' e₁ x₁ o₁ o₁' c₁ d₁ w₁ g₁ g₁' qs j u i (omega arith) t (sym (field_goes look n kind s depth from p F q (state e₁ x₁ o₁ c₁ d₁ w₁ g₁) z) ∙ y) h)
            on_goes q f (stops why) z z' l i r = elim l [ ]
            on_goes q f calls z z' l i r = elim l [ ]
            on_goes q f ends z z' l i r = elim l [ ]
        go (stops u) z t r = not_got u qs j (sym (field_stops look n kind s depth from p F u z) ∙ y)
        go calls z u t = after (spec_n look n kind s depth (next s p)) refl z u
        go ends z u (ended q t) =
            let f = sym (field_ends look n kind s depth from p F z) ∙ y in
            let i = finished_at depth from (next s p) F none qs j f in
            let pt : p < top = omega (arith, next_past s p u) in
            let mn = next_like s s' a b low top W p p' m pt (omega arith) in
            let z' = end_like s s' a b low top W p p' e x o o' c d w g g' m pt k q t in
            let r = finished_like depth from from' (next s p) (next s' p') e x o o' c d w g g' none none qs j refl (λ c. pieces_none depth e c from from' (with_close (next s p) g) (with_close (next s' p') g')) f in
            (r.0, next s' p', field_ends look n kind s' depth from' p' F' z' ∙ r.1, omega (arith, mn.0), r.2)

    on_spec : (depth p p' : ℕ) (qs : List Piece) (j : ℕ) → Here p p' → p ≤ length s → Moves s p 2 (suc n)
        → spec_n look (suc n) kind s depth p ≡ got qs j → j < top → Again (spec_n look (suc n) kind s' depth p') qs j
    unfolding plain_run
    on_spec depth p p' qs j m l v e h = go (code s (first_end s p) is "{") refl
      where
        test : ℕ → Bool
        test b = b is "{}"

        ahead : first_end s p ≤ j → (first_end s' p' + b ≡ first_end s p + a) × (first_piece s depth p ≡ first_piece s' depth p')
        ahead u =
            let f = before_like s s' a b low top W (λ b. b is "{}") (before (λ b. b is "{}") (drop p s)) p p' m refl (omega arith) in
            let x : first_end s' p' + b ≡ first_end s p + a = omega (arith, m.0) in
            (x, ap (filled (suc depth)) (part_like s s' a b low top W p p' (first_end s p) (first_end s' p') m (omega arith) (omega arith) (omega arith)))

        go : (t : Bool) → (code s (first_end s p) is "{") ≡ t → Again (spec_n look (suc n) kind s' depth p') qs j
        go true t =
            let e' = sym (spec_calls look n kind s depth p t) ∙ e in
            let fi = first_in_lem s p l in
            let u = text_later (suc depth) (first_end s p) [] (first_piece s depth p) qs j fi (omega arith) e' in
            let y = ahead u in
            let mf : Here (first_end s p) (first_end s' p') = (omega (arith, y.0), omega (arith, m.1)) in
            let t' = sym (is_like s s' a b low top W (first_end s p) (first_end s' p') mf (omega arith) "{" (omega arith, tt)) ∙ t in
            rw (spec_calls look n kind s' depth p' t')
            (A.text (suc depth) (first_end s p) (first_end s' p') [] (first_piece s depth p) (first_piece s' depth p') qs j (omega arith) mf fi (omega arith) (ap (map bare) y.1) e' h)
        go false t =
            let e' = sym (spec_ends look n kind s depth p t) ∙ e in
            let z : first_end s p ≡ j = cc in
            let q : first_piece s depth p ≡ qs = cc in
            let y = ahead (omega arith) in
            let mf : Here (first_end s p) (first_end s' p') = (omega (arith, y.0), omega (arith, m.1)) in
            let t' = sym (is_like s s' a b low top W (first_end s p) (first_end s' p') mf (omega arith) "{" (omega arith, tt)) ∙ t in
            (first_piece s' depth p', first_end s' p', spec_ends look n kind s' depth p' t', omega (arith, y.0), ap (map bare) (sym q ∙ y.1))

  -- THE SAME READING
  pub alike : (look : Naming) (kind n : ℕ) → Alike look kind n
  unfolding text_n
  alike look kind zero = record {
    text = λ depth p p' text ps ps' qs j d m l v q e h. absurd (omega arith);
    field = λ depth from from' p p' e x o o' c d w g g' qs j m l v k y h. absurd (omega arith);
    spec = λ depth p p' qs j m l v e h. absurd (omega arith);
  }
  alike look kind (suc n) = record {
    text = text_again look kind n (alike look kind n);
    field = on_field look kind n (alike look kind n);
    spec = on_spec look kind n (alike look kind n);
  }
