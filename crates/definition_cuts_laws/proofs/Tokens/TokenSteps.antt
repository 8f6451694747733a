-- A body of kind 1 is read by steps: a move each, a field taken whole. Its pieces are the steps' pieces, texts that touch made one. Assumes nothing.
use mathlib.Core.Path.{◌≡◌, refl, sym, ◌∙◌, ap, ap₂, subst}
use mathlib.Core.Bool.{Bool, true, false, ◌&&◌, not}
use mathlib.Core.List.{List, [], ◌∷◌, ◌++◌, map, map-append, append_assoc, append-nil}
use Prim.Native.Nat.{ℕ, zero, suc, ◌≤◌, ◌<◌}
use native.Mathlib.Omega.{arith}
use borrow.Author.Tests.{leb-true, leb-false, le-leb, eqb-true}
use lib.Dec.{eqb}
use lib.ListN.{length}
use Rattle.definition.specs.Numbers.{is_raw}
use Rattle.definition.specs.Chars.{◌is◌, at_end, code, next}
use Rattle.definition.specs.Escapes.{Naming, Fault, fault, Read, got, refused, Meaning, escape}
use Rattle.definition.specs.Body.{Piece, Bracket, literal, Move, goes, stops, calls, ends, with_escape, TextCase, deep, opens, last, doubled, lone, text_case, text_move, filled, fresh, text_n, field_n, enough}
use Rattle.definition.specs.Records.{touching, Item, item, item_of, glue, merge, both_items}
use Rattle.definition.specs.Join.{seam}
use Rattle.definition.proofs.Moves.CharLaws.{cases, next_past, next_in}
use Rattle.definition_laws.proofs.Moves.Cases.{Told, chosen, and_both}
use Rattle.definition_laws.proofs.Join.Seam.{merge_append}
use Rattle.definition_laws.proofs.Join.Laid.{item_role, items_assoc}
use Rattle.definition_laws.proofs.Moves.Moves.{SoundIn, Ahead, text_size, text_ahead, brackets_of}
use Rattle.definition_laws.proofs.Moves.Steps.{text_goes, text_stops, text_ends, text_got, text_refused}
use Rattle.definition_laws.proofs.Moves.Fuel.{Moves, reads, field_fuel}
use Rattle.definition_laws.proofs.Moves.Whole.{text_on, text_end, text_field}
use Rattle.definition_cuts_laws.proofs.Windows.WindowEscapes.{not_got}
use Rattle.definition_cuts_laws.proofs.Windows.Closed.{text_over}
use Rattle.definition_cuts_laws.proofs.Windows.WindowFields.{bare, Same}
use Rattle.definition_cuts_laws.proofs.Windows.WindowTexts.{goes_past}

-- what is compared of pieces: their items without places, those that touch made one
abbrev pub norm : List Piece → List Item
norm ps = merge item_role both_items (map (item_of 1 0 0 0) (map bare ps))

pub norm_append : (ps qs : List Piece) → norm (ps ++ qs) ≡ seam item_role both_items (norm ps) (norm qs)
unfolding both_items
norm_append ps qs =
    ap (merge item_role both_items) (ap (map (item_of 1 0 0 0)) (map-append bare ps qs) ∙ map-append (item_of 1 0 0 0) (map bare ps) (map bare qs))
    ∙ merge_append item_role both_items (λ a b. refl) items_assoc (map (item_of 1 0 0 0) (map bare ps)) (map (item_of 1 0 0 0) (map bare qs))

abbrev pub Eq : List Piece → List Piece → Type 0
Eq ps qs = norm ps ≡ norm qs

pub eq_append : (ps ps' qs qs' : List Piece) → Eq ps ps' → Eq qs qs' → Eq (ps ++ qs) (ps' ++ qs')
eq_append ps ps' qs qs' p q = norm_append ps qs ∙ ap₂ (seam item_role both_items) p q ∙ sym (norm_append ps' qs')

pub eq_same : (ps qs : List Piece) → Same ps qs → Eq ps qs
eq_same ps qs h = ap (λ l. merge item_role both_items (map (item_of 1 0 0 0) l)) h

-- a text in two parts
pub eq_filled : (t u : List ℕ) → Eq (filled 0 (t ++ u)) (filled 0 t ++ filled 0 u)
unfolding filled item_of item merge glue touching both_items
eq_filled [] u = refl
eq_filled (x ∷ t) [] = ap (λ l. norm (literal 0 (x ∷ l) ∷ [])) (append-nil t)
eq_filled (x ∷ t) (y ∷ u) = refl

-- WHAT THE CASE TELLS at depth 0
module _ (s : List ℕ) (i : ℕ) where
  abbrev pub TopTells : TextCase → Type 0
  TopTells deep = ⊥
  TopTells TextCase.over = length s ≤ i
  TopTells opens = (i < length s) × (code s i ≡ 123)
  TopTells last = Unit {0}
  TopTells doubled = (i < length s) × ((code s (next s i) is "{}") ≡ true)
  TopTells lone = Unit {0}
  TopTells TextCase.escapes = (i < length s) × (code s i ≡ 92) × ((code s (next s i) is "{}") ≡ false)
  TopTells TextCase.plain = (i < length s) × ((code s i is "{") ≡ false) × ((code s i is "}") ≡ false) × ((code s i is "\\" && not (code s (next s i) is "{}")) ≡ false)

  top_tells : Told TopTells (text_case 1 s 0 i)
  unfolding text_case
  top_tells =
      let c = code s i in
      let c' = code s (next s i) in
      chosen TopTells (at_end s i) TextCase.over (λ t. leb-true (length s) i t) (λ h.
      let l = leb-false (length s) i h in
      chosen TopTells (c is "{" && eqb 0 0 && c' is "{") doubled (λ t. (l, braced (and_both (c is "{" && true) (c' is "{") t).1)) (λ t.
      chosen TopTells (c is "{" && eqb 0 0 && at_end s (next s i)) last (λ t. tt) (λ t.
      chosen TopTells (c is "{") opens (λ t. (l, eqb-true _ _ t)) (λ x.
      chosen TopTells (c is "}" && not (eqb 0 0)) TextCase.over (λ t. no_more (and_both (c is "}") _ t).1) (λ t.
      chosen TopTells (c is "}" && c' is "}") doubled (λ t. (l, closed (and_both (c is "}") _ t).1)) (λ t.
      chosen TopTells (c is "}") lone (λ t. tt) (λ y.
      chosen TopTells (c is "\\" && not (is_raw 1) && not (c' is "{}")) TextCase.escapes (λ t. let b = and_both (c is "\\" && true) (not (c' is "{}")) t in (l, eqb-true _ _ (and_both (c is "\\") true b.0).0, unbraced b.1))
      (λ t. record { it = (l, x, y, ap (λ b. b && not (c' is "{}")) (sym (and_true (c is "\\"))) ∙ t) }))))))))
    where
      and_true : (x : Bool) → (x && true) ≡ x
      and_true true = refl
      and_true false = refl

      no_more : {P : Type 0} → false ≡ true → P
      no_more e = let z : ◌≡◌ {A = ℕ} 0 1 = cc in absurd (omega arith)

      braced : eqb (code s (next s i)) 123 ≡ true → (code s (next s i) is "{}") ≡ true
      braced e = rw e refl

      closed : eqb (code s (next s i)) 125 ≡ true → (code s (next s i) is "{}") ≡ true
      closed e = let z : code s (next s i) ≡ 125 = eqb-true _ _ e in rw z refl

      unbraced : not (code s (next s i) is "{}") ≡ true → (code s (next s i) is "{}") ≡ false
      unbraced e = cases (code s (next s i) is "{}") (λ t. no_more (rw t at e)) (λ t. t)

  pub top_told : (x : TextCase) → text_case 1 s 0 i ≡ x → TopTells x
  top_told x e = subst (λ (x : TextCase). TopTells x) e top_tells.it

-- a move with a text in front
abbrev pub onto : List ℕ → Move (List ℕ) → Move (List ℕ)
onto text (goes j t) = goes j (text ++ t)
onto text (stops x) = stops x
onto text calls = calls
onto text ends = ends

pub move_onto : (look : Naming) (kind : ℕ) (s : List ℕ) (depth i : ℕ) (text : List ℕ) → text_move look kind s depth i text ≡ onto text (text_move look kind s depth i [])
unfolding text_move with_escape
move_onto look kind s depth i text = go (text_case kind s depth i) refl
  where
    escaped : (r : Read Meaning) → with_escape kind s i text r ≡ onto text (with_escape kind s i [] r)
    escaped (got m j) = refl
    escaped (refused x) = refl

    go : (x : TextCase) → text_case kind s depth i ≡ x → text_move look kind s depth i text ≡ onto text (text_move look kind s depth i [])
    go deep e = rw (e, text_move) refl
    go TextCase.over e = rw (e, text_move) refl
    go opens e = rw (e, text_move) refl
    go last e = rw (e, text_move) refl
    go doubled e = rw (e, text_move) refl
    go lone e = rw (e, text_move) refl
    go TextCase.escapes e = rw (e, text_move) (escaped (escape look kind s (next s i)))
    go TextCase.plain e = rw (e, text_move) refl

pub sound_later : {A : Type 0} (o : List Bracket) (s : List ℕ) (i : ℕ) (r : Read A) (v : A) (j : ℕ) → SoundIn o s i r → r ≡ got v j → (i ≤ j) × (j ≤ length s)
sound_later {A} o s i r v j h e = subst (λ (x : Read A). SoundIn o s i x) e h

-- A STEP at depth 0: its pieces, and where it ends
module _ (look : Naming) (s : List ℕ) where
  unfoldable pub step : ℕ → Read (List Piece)
  step i =
      elim (text_move look 1 s 0 i []) [
        | goes j t ↦ got (filled 0 t) j
        | stops x ↦ refused x
        | calls ↦ field_n look (enough s) 1 s 0 (next s i) (next s i) fresh
        | ends ↦ refused (fault 0 i)
      ]

  pub step_goes : (i j : ℕ) (t : List ℕ) → text_move look 1 s 0 i [] ≡ goes j t → step i ≡ got (filled 0 t) j
  unfolding step
  step_goes i j t e = rw (e, step) refl

  pub step_stops : (i : ℕ) (x : Fault) → text_move look 1 s 0 i [] ≡ stops x → step i ≡ refused x
  unfolding step
  step_stops i x e = rw (e, step) refl

  pub step_calls : (i : ℕ) → text_move look 1 s 0 i [] ≡ calls → step i ≡ field_n look (enough s) 1 s 0 (next s i) (next s i) fresh
  unfolding step
  step_calls i e = rw (e, step) refl

  pub step_ends : (i : ℕ) → text_move look 1 s 0 i [] ≡ ends → step i ≡ refused (fault 0 i)
  unfolding step
  step_ends i e = rw (e, step) refl

  -- STEPS from one place to another, with their pieces
  pub data Steps : (i j : ℕ) → List Piece → Type 0 where
    here : {i : ℕ} → Steps i i []
    more : {i j k : ℕ} {ps qs : List Piece} → i < length s → step i ≡ got ps j → Steps j k qs → Steps i k (ps ++ qs)

  pub steps_append : (i j k : ℕ) (ps qs : List Piece) → Steps i j ps → Steps j k qs → Steps i k (ps ++ qs)
  steps_append i j k ps qs here S = S
  steps_append i j k ps qs (more {j = m} {ps = rs} {qs = ts} h e R) S = subst (λ (l : List Piece). Steps i k l) (sym (append_assoc rs ts qs)) (more h e (steps_append m j k ts qs R S))

  -- it goes ahead, and stays in the body
  pub step_ahead : (i j : ℕ) (ps : List Piece) → i ≤ length s → step i ≡ got ps j → (i < j) × (j ≤ length s) × (next s i ≤ j) × (i < length s)
  step_ahead i j ps l e = go (text_move look 1 s 0 i []) refl (text_ahead look 1 s 0 i [] l)
    where
      go : (x : Move (List ℕ)) → text_move look 1 s 0 i [] ≡ x → Ahead text_size (text_size []) (i < length s) (Unit {0}) s i x → (i < j) × (j ≤ length s) × (next s i ≤ j) × (i < length s)
      go (goes k t) x h =
          let f = sym (step_goes i k t x) ∙ e in
          let z : k ≡ j = cc in
          (omega arith, omega arith, omega (arith, goes_past look 1 s 0 i [] k t l x), omega arith)
      go (stops y) x h = not_got y ps j (sym (step_stops i y x) ∙ e)
      go calls x h =
          let f = sym (step_calls i x) ∙ e in
          let n = next_past s i h in
          let r = ((reads look (enough s)).field (enough s) 1 s 0 (next s i) (next s i) fresh (next_in s i l) (omega arith) (omega arith)).0 in
          let g = sound_later (brackets_of fresh) s (next s i) (field_n look (enough s) 1 s 0 (next s i) (next s i) fresh) ps j r f in
          (omega arith, g.1, g.0, h)
      go ends x h = not_got (fault 0 i) ps j (sym (step_ends i x) ∙ e)

  at_end_move : (i : ℕ) (text : List ℕ) → length s ≤ i → text_move look 1 s 0 i text ≡ ends
  unfolding text_move text_case
  at_end_move i text h = rw (le-leb (length s) i h, text_move) refl

  -- LAW: what is read is what the steps give
  pub read_steps : (n i : ℕ) (text : List ℕ) (ps qs : List Piece) (j : ℕ) → i ≤ length s → Moves s i 1 n → text_n look n 1 s 0 i text ps ≡ got qs j
      → (rs : List Piece) × Steps i (length s) rs × (j ≡ length s) × Eq qs (ps ++ (filled 0 text ++ rs))
  unfolding text_n filled
  read_steps zero i text ps qs j l m e = not_got _ qs j e
  read_steps (suc n) i text ps qs j l m e = go (λ i text ps l m e. read_steps n i text ps qs j l m e) (text_move look 1 s 0 i []) refl (text_ahead look 1 s 0 i [] l)
    where
      IH : Type 0
      IH = (i : ℕ) (text : List ℕ) (ps : List Piece) → i ≤ length s → Moves s i 1 n → text_n look n 1 s 0 i text ps ≡ got qs j
          → (rs : List Piece) × Steps i (length s) rs × (j ≡ length s) × Eq qs (ps ++ (filled 0 text ++ rs))

      Goal : Type 0
      Goal = (rs : List Piece) × Steps i (length s) rs × (j ≡ length s) × Eq qs (ps ++ (filled 0 text ++ rs))

      moved : (x : Move (List ℕ)) → text_move look 1 s 0 i [] ≡ x → text_move look 1 s 0 i text ≡ onto text x
      moved x f = move_onto look 1 s 0 i text ∙ ap (onto text) f

      extend : (fs : List Piece) (k : ℕ) → i < length s → step i ≡ got fs k → (rs : List Piece) × Steps k (length s) rs × (j ≡ length s) × Eq qs (ps ++ filled 0 text ++ fs ++ rs) → Goal
      extend fs k h f (rs, S, z, q) = (fs ++ rs, more h f S, z, q ∙ ap norm (append_assoc (ps ++ filled 0 text) fs rs ∙ append_assoc ps (filled 0 text) (fs ++ rs)))

      after : IH → (r : Read (List Piece)) → field_n look n 1 s 0 (next s i) (next s i) fresh ≡ r → text_move look 1 s 0 i [] ≡ calls → i < length s → Goal
      after ih (got fs k) f x h =
          let np = next_past s i h in
          let g = sound_later (brackets_of fresh) s (next s i) (field_n look n 1 s 0 (next s i) (next s i) fresh) fs k ((reads look n).field n 1 s 0 (next s i) (next s i) fresh (next_in s i l) (omega arith) (omega arith)).0 f in
          let e' = sym (text_got look n 1 s 0 i text ps fs k (moved calls x) f) ∙ e in
          let r = ih k [] (ps ++ filled 0 text ++ fs) g.1 (omega arith) e' in
          let f' = step_calls i x ∙ field_fuel look (enough s) n 1 s 0 (next s i) (next s i) fresh (next_in s i l) (omega arith) (omega arith) ∙ f in
          extend fs k h f' r
      after ih (refused y) f x h = not_got y qs j (sym (text_refused look n 1 s 0 i text ps y (moved calls x) f) ∙ e)

      go : IH → (x : Move (List ℕ)) → text_move look 1 s 0 i [] ≡ x → Ahead text_size (text_size []) (i < length s) (Unit {0}) s i x → Goal
      go ih (goes k t) x h =
          let e' = sym (text_goes look n 1 s 0 i text ps k (text ++ t) (moved (goes k t) x)) ∙ e in
          let r = ih k (text ++ t) ps h.1 (omega arith) e' in
          let q = eq_append ps ps (filled 0 (text ++ t) ++ r.0) ((filled 0 text ++ filled 0 t) ++ r.0) refl (eq_append (filled 0 (text ++ t)) (filled 0 text ++ filled 0 t) r.0 r.0 (eq_filled text t) refl) in
          (filled 0 t ++ r.0, more {i = i} (omega arith) (step_goes i k t x) r.1, r.2, r.3 ∙ q ∙ ap (λ l. norm (ps ++ l)) (append_assoc (filled 0 text) (filled 0 t) r.0))
      go ih (stops y) x h = not_got y qs j (sym (text_stops look n 1 s 0 i text ps y (moved (stops y) x)) ∙ e)
      go ih calls x h = after ih (field_n look n 1 s 0 (next s i) (next s i) fresh) refl x h
      go ih ends x h =
          let f = sym (text_ends look n 1 s 0 i text ps (moved ends x)) ∙ e in
          let z : i ≡ j = cc in
          let y : ps ++ filled 0 text ≡ qs = cc in
          let o = top_told s i TextCase.over (text_over look 1 s 0 i [] x) in
          let k : i ≡ length s = omega arith in
          ([], subst (λ (k : ℕ). Steps i k []) k here, omega arith, ap norm (sym y ∙ ap (λ l. ps ++ l) (sym (append-nil (filled 0 text)))))

  pub steps_read : (i : ℕ) (rs : List Piece) → Steps i (length s) rs → i ≤ length s → (text : List ℕ) (ps : List Piece)
      → (qs : List Piece) × (text_n look (enough s) 1 s 0 i text ps ≡ got qs (length s)) × Eq qs (ps ++ (filled 0 text ++ rs))
  unfolding filled
  steps_read i rs S l text ps = go i (length s) rs S refl l text ps
    where
      Goal : ℕ → List Piece → List ℕ → List Piece → Type 0
      Goal i rs text ps = (qs : List Piece) × (text_n look (enough s) 1 s 0 i text ps ≡ got qs (length s)) × Eq qs (ps ++ (filled 0 text ++ rs))

      go : (i k : ℕ) (rs : List Piece) → Steps i k rs → k ≡ length s → i ≤ length s → (text : List ℕ) (ps : List Piece) → Goal i rs text ps
      go i k rs here e l text ps =
          let f = text_end look 1 s 0 i text ps (at_end_move i text (omega arith)) in
          (ps ++ filled 0 text, f ∙ ap (λ n. got (ps ++ filled 0 text) n) e, ap (λ l. norm (ps ++ l)) (sym (append-nil (filled 0 text))))
      go i k rs (more {j = j} {ps = fs} {qs = gs} h f S) e l text ps = stepped (text_move look 1 s 0 i []) refl (λ text ps. go j k gs S e (step_ahead i j fs l f).1 text ps)
        where
          moved : (x : Move (List ℕ)) → text_move look 1 s 0 i [] ≡ x → text_move look 1 s 0 i text ≡ onto text x
          moved x f = move_onto look 1 s 0 i text ∙ ap (onto text) f

          stepped : (x : Move (List ℕ)) → text_move look 1 s 0 i [] ≡ x → ((text : List ℕ) (ps : List Piece) → Goal j gs text ps) → Goal i (fs ++ gs) text ps
          stepped (goes m t) x ih =
              let u = sym (step_goes i m t x) ∙ f in
              let z : m ≡ j = cc in
              let y : filled 0 t ≡ fs = cc in
              let r = ih (text ++ t) ps in
              let q = eq_append ps ps (filled 0 (text ++ t) ++ gs) ((filled 0 text ++ filled 0 t) ++ gs) refl (eq_append (filled 0 (text ++ t)) (filled 0 text ++ filled 0 t) gs gs (eq_filled text t) refl) in
              let j' = (step_ahead i j fs l f).1 in
              (r.0, text_on look 1 s 0 i text ps j (text ++ t) j' (moved (goes m t) x ∙ ap (λ m. goes m (text ++ t)) z) ∙ r.1, r.2 ∙ q ∙ ap (λ l. norm (ps ++ l)) (append_assoc (filled 0 text) (filled 0 t) gs ∙ ap (λ l. filled 0 text ++ (l ++ gs)) y))
          stepped (stops v) x ih = not_got v fs j (sym (step_stops i v x) ∙ f)
          stepped calls x ih =
              let u = sym (step_calls i x) ∙ f in
              let r = ih [] (ps ++ filled 0 text ++ fs) in
              (r.0, text_field look 1 s 0 i text ps l (moved calls x) fs j (step_ahead i j fs l f).1 u ∙ r.1, r.2 ∙ ap norm (append_assoc (ps ++ filled 0 text) fs gs ∙ append_assoc ps (filled 0 text) (fs ++ gs)))
          stepped ends x ih = not_got (fault 0 i) fs j (sym (step_ends i x) ∙ f)
