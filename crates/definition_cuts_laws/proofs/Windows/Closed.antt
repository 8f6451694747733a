-- A field ends just after a `}`, and a text in a spec at one. Assumes nothing.
use mathlib.Core.Path.{◌≡◌, refl, sym, ◌∙◌, subst}
use mathlib.Core.Bool.{Bool, true, false, not}
use mathlib.Core.List.{List, [], ◌∷◌, ◌++◌}
use mathlib.Core.Option.{Option, none, some}
use Prim.Native.Nat.{ℕ, zero, suc, ◌+◌, ◌≤◌, ◌<◌}
use native.Mathlib.Omega.{arith}
use borrow.Author.Tests.{leb-false, eqb-true}
use lib.Dec.{ltb, eqb}
use lib.ListN.{length}
use Rattle.definition.specs.Chars.{◌is◌, byte, at_end, code, next}
use Rattle.definition.specs.Escapes.{Naming, Fault, Read, got, refused, Meaning, escape}
use Rattle.definition.specs.Body.{Signs, Piece, Move, goes, stops, calls, ends, with_escape, TextCase, deep, opens, last, doubled, lone, text_case, text_move, filled, Field, state, with_close, formatted, fresh, FieldCase, pair, converts, documents, formats, opener, closes, closer, quote, space, backslash, stray, outside, field_case, case_of, conversion_move, open_move, close_move, quote_move, matching, field_move, finished, specified, plain_run, first_end, text_n, field_n, spec_n, self_documenting, field_pieces, conversion_of}
use Rattle.definition.proofs.Moves.CharLaws.{cases, next_past, next_in, next_from, next_ascii, code_ascii, code_is, first_passes}
use Rattle.definition_laws.proofs.Moves.Adds.{ascii_in, closing}
use Rattle.definition_laws.proofs.Moves.Cases.{told, text_told}
use Rattle.definition_laws.proofs.Moves.Moves.{FieldAhead, field_ahead, brackets_of}
use Rattle.definition_laws.proofs.Moves.Steps.{text_goes, text_stops, text_ends, text_got, text_refused, field_goes, field_stops, field_ends, field_got, field_refused, first_piece, spec_calls, spec_ends}
use Rattle.definition_laws.proofs.Moves.Fuel.{Moves, reads}
use Rattle.definition_cuts_laws.proofs.Windows.WindowEscapes.{not_got, got_later}

-- a move that ends a text is at its end
pub text_over : (look : Naming) (kind : ℕ) (s : List ℕ) (depth i : ℕ) (text : List ℕ) → text_move look kind s depth i text ≡ ends → text_case kind s depth i ≡ TextCase.over
unfolding text_move with_escape
text_over look kind s depth i text e = go (text_case kind s depth i) refl
  where
    no : {P : Type 0} {A : Type 0} (x : Fault) → ◌≡◌ {A = Move A} (stops x) ends → P
    no x f = let z : ◌≡◌ {A = ℕ} 0 1 = cc in absurd (omega arith)

    never : {P : Type 0} {A : Type 0} (j : ℕ) (v : A) → goes j v ≡ ends → P
    never j v f = let z : ◌≡◌ {A = ℕ} 0 1 = cc in absurd (omega arith)

    calling : {P : Type 0} {A : Type 0} → ◌≡◌ {A = Move A} calls ends → P
    calling f = let z : ◌≡◌ {A = ℕ} 0 1 = cc in absurd (omega arith)

    escaped : {P : Type 0} (r : Read Meaning) → with_escape kind s i text r ≡ ends → P
    escaped (got m j) f = never j _ f
    escaped (refused x) f = no x f

    go : (x : TextCase) → text_case kind s depth i ≡ x → text_case kind s depth i ≡ TextCase.over
    go deep q = no _ (rw (q, text_move) at e)
    go TextCase.over q = q
    go opens q = calling (rw (q, text_move) at e)
    go last q = no _ (rw (q, text_move) at e)
    go doubled q = never _ _ (rw (q, text_move) at e)
    go lone q = no _ (rw (q, text_move) at e)
    go TextCase.escapes q = escaped (escape look kind s (next s i)) (rw (q, text_move) at e)
    go TextCase.plain q = never _ _ (rw (q, text_move) at e)

-- where a text ends before the body does there is a `}`
pub text_closed : (look : Naming) (n kind : ℕ) (s : List ℕ) (depth i : ℕ) (text : List ℕ) (ps qs : List Piece) (j : ℕ)
    → text_n look n kind s depth i text ps ≡ got qs j → j < length s → code s j ≡ 125
unfolding text_n
text_closed look zero kind s depth i text ps qs j e h = not_got _ qs j e
text_closed look (suc n) kind s depth i text ps qs j e h = go (λ i text ps e. text_closed look n kind s depth i text ps qs j e h) (text_move look kind s depth i text) refl
  where
    IH : Type 0
    IH = (i : ℕ) (text : List ℕ) (ps : List Piece) → text_n look n kind s depth i text ps ≡ got qs j → code s j ≡ 125

    after : IH → (r : Read (List Piece)) → field_n look n kind s depth (next s i) (next s i) fresh ≡ r → text_move look kind s depth i text ≡ calls → code s j ≡ 125
    after ih (got rs k) f x = ih k [] (ps ++ filled depth text ++ rs) (sym (text_got look n kind s depth i text ps rs k x f) ∙ e)
    after ih (refused y) f x = not_got y qs j (sym (text_refused look n kind s depth i text ps y x f) ∙ e)

    go : IH → (x : Move (List ℕ)) → text_move look kind s depth i text ≡ x → code s j ≡ 125
    go ih (goes k t) x = ih k t ps (sym (text_goes look n kind s depth i text ps k t x) ∙ e)
    go ih (stops y) x = not_got y qs j (sym (text_stops look n kind s depth i text ps y x) ∙ e)
    go ih calls x = after ih (field_n look n kind s depth (next s i) (next s i) fresh) refl x
    go ih ends x =
        let f = sym (text_ends look n kind s depth i text ps x) ∙ e in
        let z : i ≡ j = cc in
        rw (← z) (text_told s i kind depth TextCase.over (text_over look kind s depth i text x) (omega arith))

-- and so for a spec
pub spec_closed : (look : Naming) (n kind : ℕ) (s : List ℕ) (depth i : ℕ) (qs : List Piece) (j : ℕ) → spec_n look n kind s depth i ≡ got qs j → j < length s → code s j ≡ 125
unfolding spec_n plain_run
spec_closed look zero kind s depth i qs j e h = not_got _ qs j e
spec_closed look (suc n) kind s depth i qs j e h = go (code s (first_end s i) is "{") refl
  where
    go : (t : Bool) → (code s (first_end s i) is "{") ≡ t → code s j ≡ 125
    go true t = text_closed look n kind s (suc depth) (first_end s i) [] (first_piece s depth i) qs j (sym (spec_calls look n kind s depth i t) ∙ e) h
    go false t =
        let f = sym (spec_ends look n kind s depth i t) ∙ e in
        let z : first_end s i ≡ j = cc in
        let u = first_passes (λ b. b is "{}") s i (omega arith) in
        let v : eqb (byte s (first_end s i)) 123 ≡ false = sym (code_is s (first_end s i) 123 (omega arith)) ∙ t in
        let w : eqb (byte s (first_end s i)) 125 ≡ true = rw v at u in
        let c : code s (first_end s i) ≡ 125 = eqb-true _ _ (code_is s (first_end s i) 125 (omega arith) ∙ w) in
        rw (← z) c

-- a place just after a `}` that stands at i or later
abbrev pub Closed : List ℕ → ℕ → ℕ → Type 0
Closed s i j = (r : ℕ) × (i ≤ r) × (j ≡ r + 1) × (byte s r ≡ 125) × (code s r ≡ 125) × (next s r ≡ r + 1)

pub closed_at_lem : (s : List ℕ) (i r : ℕ) → i ≤ r → code s r ≡ 125 → Closed s i (next s r)
closed_at_lem s i r h e =
    let b = ascii_in s r (omega arith) in
    let n = next_ascii s r b in
    (r, h, n, sym (code_ascii s r b) ∙ e, e, n)

closed_later : (s : List ℕ) (i k j : ℕ) → i ≤ k → Closed s k j → Closed s i j
closed_later s i k j h (r, l, q, x, y, z) = (r, omega arith, q, x, y, z)

pub finished_at : (depth from k : ℕ) (f : Field) (p : Option (List Piece)) (qs : List Piece) (j : ℕ) → finished depth from k f p ≡ got qs j → k ≡ j
unfolding finished
finished_at depth from k (state e b o c d w g) p qs j x = go b refl
  where
    go : (t : Bool) → b ≡ t → k ≡ j
    go true t = not_got _ qs j (rw t at x)
    go false t =
        let y : got (self_documenting depth d e w ++ field_pieces depth e (conversion_of d c p) from (with_close k g) p) k ≡ got qs j = rw t at x in
        cc

pub specified_at : (s : List ℕ) (depth from k : ℕ) (f : Field) (ps qs : List Piece) (j : ℕ) → specified s depth from k f ps ≡ got qs j
    → (k < length s) × (finished depth from (next s k) f (some ps) ≡ got qs j)
unfolding specified
specified_at s depth from k f ps qs j e =
    cases (at_end s k) (λ t. not_got _ qs j (rw t at e)) (λ t. (leb-false (length s) k t, rw t at e))

-- a move that ends a field, or calls for its spec, is at its `}` or its `:`
pub data Sign (s : List ℕ) (i : ℕ) (out : Bool) : Move Field → Type 0 where
  on : {j : ℕ} {f : Field} → Sign s i out (goes j f)
  stopped : {x : Fault} → Sign s i out (stops x)
  called : code s i ≡ 58 → out ≡ true → Sign s i out calls
  ended : code s i ≡ 125 → out ≡ true → Sign s i out ends

pub sign_of : (s : List ℕ) (i : ℕ) (e : List ℕ) (b : Bool) (o : _) (c : ℕ) (d : Bool) (w : ℕ) (g : Signs) → Sign s i (outside o) (field_move s i (state e b o c d w g))
unfolding field_move case_of conversion_move open_move close_move quote_move
sign_of s i e b o c d w g = go (field_case s i (outside o) d) refl
  where
    closing_one : (o' : _) → Sign s i (outside o) (close_move s i (state e b o' c d w g))
    closing_one [] = stopped
    closing_one (a ∷ o') = cases (matching a.bracket (code s i)) (λ t. rw t on) (λ t. rw t stopped)

    go : (x : FieldCase) → field_case s i (outside o) d ≡ x → Sign s i (outside o) (field_move s i (state e b o c d w g))
    go FieldCase.over q = rw (q, field_move) stopped
    go pair q = rw (q, field_move) on
    go converts q =
        cases b (λ t. rw (q, t, field_move) stopped) (λ t.
        cases (at_end s (next s i)) (λ u. rw (q, t, u, field_move) stopped) (λ u.
        cases (not (code s (next s i) is "sar")) (λ v. rw (q, t, u, v, field_move) stopped) (λ v.
        cases (code s (next s (next s i)) is "}:") (λ y. rw (q, t, u, v, y, field_move) on) (λ y. rw (q, t, u, v, y, field_move) stopped))))
    go documents q = rw (q, field_move) on
    go formats q = let t = told s i (outside o) d formats q in rw (q, field_move) (called t.1 t.0)
    go opener q = cases (ltb (length o) 64) (λ t. rw (q, t, field_move) on) (λ t. rw (q, t, field_move) stopped)
    go closes q = let t = told s i (outside o) d closes q in rw (q, field_move) (ended t.1 t.0)
    go closer q = rw (q, field_move) (closing_one o)
    go quote q = cases (at_end s (closing s i)) (λ t. rw (q, t, field_move) stopped) (λ t. rw (q, t, field_move) on)
    go space q = rw (q, field_move) on
    go backslash q = rw (q, field_move) stopped
    go stray q = rw (q, field_move) stopped
    go FieldCase.plain q = rw (q, field_move) on

pub field_sign : (s : List ℕ) (i : ℕ) (f : Field) → Sign s i (outside (brackets_of f)) (field_move s i f)
field_sign s i (state e b o c d w g) = sign_of s i e b o c d w g

-- A FIELD ends just after a `}`
pub field_closed : (look : Naming) (n kind : ℕ) (s : List ℕ) (depth from i : ℕ) (f : Field) (qs : List Piece) (j : ℕ) → i ≤ length s → Moves s i 1 n
    → field_n look n kind s depth from i f ≡ got qs j → Closed s i j
unfolding field_n
field_closed look zero kind s depth from i f qs j l m e = not_got _ qs j e
field_closed look (suc n) kind s depth from i f qs j l m e = go (λ i f l m e. field_closed look n kind s depth from i f qs j l m e) (field_move s i f) refl (field_ahead s i f l) (field_sign s i f)
  where
    IH : Type 0
    IH = (i : ℕ) (f : Field) → i ≤ length s → Moves s i 1 n → field_n look n kind s depth from i f ≡ got qs j → Closed s i j

    after : (r : Read (List Piece)) → spec_n look n kind s depth (next s i) ≡ r → field_move s i f ≡ calls → i < length s → Closed s i j
    after (got ps k) g x h =
        let y = specified_at s depth from k (formatted (next s i) f) ps qs j (sym (field_got look n kind s depth from i f ps k x g) ∙ e) in
        let z = finished_at depth from (next s k) (formatted (next s i) f) (some ps) qs j y.1 in
        let p = next_past s i h in
        let v = got_later s (next s i) (spec_n look n kind s depth (next s i)) ps k ((reads look n).spec n kind s depth (next s i) (next_in s i l) (omega arith) (omega arith)).0 g in
        let c = closed_at_lem s i k (omega arith) (spec_closed look n kind s depth (next s i) ps k g y.0) in
        subst (λ (j : ℕ). Closed s i j) z c
    after (refused y) g x h = not_got y qs j (sym (field_refused look n kind s depth from i f y x g) ∙ e)

    go : IH → (x : Move Field) → field_move s i f ≡ x → FieldAhead s i f x → Sign s i (outside (brackets_of f)) x → Closed s i j
    go ih (goes k f') x h t = closed_later s i k j (omega arith) (ih k f' h.1 (omega arith) (sym (field_goes look n kind s depth from i f k f' x) ∙ e))
    go ih (stops y) x h t = not_got y qs j (sym (field_stops look n kind s depth from i f y x) ∙ e)
    go ih calls x h t = after (spec_n look n kind s depth (next s i)) refl x h
    go ih ends x h (ended c o) =
        let z = finished_at depth from (next s i) f none qs j (sym (field_ends look n kind s depth from i f x) ∙ e) in
        subst (λ (j : ℕ). Closed s i j) z (closed_at_lem s i i (omega arith) c)

-- a field's move takes a character at least
pub field_past : (s : List ℕ) (i : ℕ) (f : Field) (q : ℕ) (f' : Field) → i ≤ length s → field_move s i f ≡ goes q f' → next s i ≤ q
unfolding field_move case_of conversion_move open_move close_move quote_move
field_past s i (state e b o c d w g) q f' l x = go (field_case s i (outside o) d) refl
  where
    stop : {P : Type 0} (x : Fault) → ◌≡◌ {A = Move Field} (stops x) (goes q f') → P
    stop x f = let z : ◌≡◌ {A = ℕ} 0 1 = cc in absurd (omega arith)

    to : (k : ℕ) (f : Field) → next s i ≤ k → goes k f ≡ goes q f' → next s i ≤ q
    to k f h y = let z : k ≡ q = cc in omega arith

    closing_one : (o' : _) → close_move s i (state e b o' c d w g) ≡ goes q f' → next s i ≤ q
    closing_one [] y = stop _ y
    closing_one (a ∷ o') y = cases (matching a.bracket (code s i)) (λ t. to _ _ (omega arith) (rw t at y)) (λ t. stop _ (rw t at y))

    go : (y : FieldCase) → field_case s i (outside o) d ≡ y → next s i ≤ q
    go FieldCase.over y = stop _ (rw (y, field_move) at x)
    go pair y = to _ _ (next_from s (next s i)) (rw (y, field_move) at x)
    go converts y =
        cases b (λ t. stop _ (rw (y, t, field_move) at x)) (λ t.
        cases (at_end s (next s i)) (λ u. stop _ (rw (y, t, u, field_move) at x)) (λ u.
        cases (not (code s (next s i) is "sar")) (λ v. stop _ (rw (y, t, u, v, field_move) at x)) (λ v.
        cases (code s (next s (next s i)) is "}:") (λ z. to _ _ (next_from s (next s i)) (rw (y, t, u, v, z, field_move) at x)) (λ z. stop _ (rw (y, t, u, v, z, field_move) at x)))))
    go documents y = to _ _ (omega arith) (rw (y, field_move) at x)
    go formats y = let f : ◌≡◌ {A = Move Field} calls (goes q f') = rw (y, field_move) at x in let z : ◌≡◌ {A = ℕ} 0 1 = cc in absurd (omega arith)
    go opener y = cases (ltb (length o) 64) (λ t. to _ _ (omega arith) (rw (y, t, field_move) at x)) (λ t. stop _ (rw (y, t, field_move) at x))
    go closes y = let f : ◌≡◌ {A = Move Field} ends (goes q f') = rw (y, field_move) at x in let z : ◌≡◌ {A = ℕ} 0 1 = cc in absurd (omega arith)
    go closer y = closing_one o (rw (y, field_move) at x)
    go quote y = cases (at_end s (closing s i)) (λ t. stop _ (rw (y, t, field_move) at x)) (λ t. to (closing s i + 1) _ (omega arith) (rw (y, t, field_move) at x))
    go space y = to _ _ (omega arith) (rw (y, field_move) at x)
    go backslash y = stop _ (rw (y, field_move) at x)
    go stray y = stop _ (rw (y, field_move) at x)
    go FieldCase.plain y = to _ _ (omega arith) (rw (y, field_move) at x)
