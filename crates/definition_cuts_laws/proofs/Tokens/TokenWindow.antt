-- A step that ends in a window is the same step in both texts, but for places. Assumes nothing.
use mathlib.Core.Path.{◌≡◌, refl, sym, ◌∙◌, ap, subst}
use mathlib.Core.Bool.{true, false}
use mathlib.Core.List.{List, [], ◌++◌, map}
use Prim.Native.Nat.{ℕ, ◌+◌, ◌≤◌, ◌<◌}
use native.Mathlib.Omega.{arith}
use borrow.Author.Tests.{ltb-true, ltb-false, leb-true, leb-false}
use lib.Dec.{ltb, leb}
use lib.ListN.{length}
use Rattle.definition.specs.Chars.{◌is◌, no_code, code, next, char}
use Rattle.definition.specs.Escapes.{Naming, Fault, fault, Read, got, refused, Meaning, escape_case, octal, escape}
use Rattle.definition.specs.Body.{Piece, Move, goes, stops, calls, ends, with_escape, TextCase, deep, opens, last, doubled, lone, text_case, text_move, filled, signs, fresh, enough}
use Rattle.definition.proofs.Moves.CharLaws.{no, cases, next_past, next_in, code_end}
use Rattle.definition_laws.proofs.Moves.Moves.{escape_sound}
use Rattle.definition_laws.proofs.Moves.Fuel.{field_fuel}
use Rattle.definition_cuts_laws.proofs.Windows.Window.{Window, At, next_like, char_like}
use Rattle.definition_cuts_laws.proofs.Windows.WindowEscapes.{not_got, got_later, Edge}
use Rattle.definition_cuts_laws.proofs.Windows.Closed.{field_closed}
use Rattle.definition_cuts_laws.proofs.Windows.WindowFields.{bare}
use Rattle.definition_cuts_laws.proofs.Windows.WindowTexts.{TextLike, onward, opening, text_move_like, Again, alike}
use Rattle.definition_cuts_laws.proofs.Tokens.TokenSteps.{top_told, step, step_goes, step_stops, step_calls, step_ends, step_ahead}

-- a step of one character is a plain one
pub one_plain : (look : Naming) (s : List ℕ) (p : ℕ) (ps : List Piece) (j : ℕ) → p ≤ length s → step look s p ≡ got ps j → next s p ≡ j → text_case 1 s 0 p ≡ TextCase.plain
unfolding text_move with_escape
one_plain look s p ps j l e n = go (text_move look 1 s 0 p []) refl
  where
    A : (p < j) × (j ≤ length s) × (next s p ≤ j) × (p < length s)
    A = step_ahead look s p j ps l e

    go : (x : Move (List ℕ)) → text_move look 1 s 0 p [] ≡ x → text_case 1 s 0 p ≡ TextCase.plain
    go (goes k t) x = by (text_case 1 s 0 p) refl
      where
        kj : k ≡ j
        kj = let f = sym (step_goes look s p k t x) ∙ e in let z : k ≡ j = cc in z

        stop : {P : Type 0} (y : Fault) → ◌≡◌ {A = Move (List ℕ)} (stops y) (goes k t) → P
        stop y f = let z : ◌≡◌ {A = ℕ} 0 1 = cc in absurd (omega arith)

        escaped : {P : Type 0} (r : Read Meaning) → escape look 1 s (next s p) ≡ r → with_escape 1 s p [] r ≡ goes k t → P
        escaped (got v i) r f =
            let z : i ≡ k = cc in
            let g = got_later s (next s p + 1) (escape look 1 s (next s p)) v i (escape_sound look 1 s (next s p) (next_in s p l)) r in
            absurd (omega (arith, kj))
        escaped (refused y) r f = stop y f

        past_end : {P : Type 0} → code s (next s p) ≡ no_code → (code s (next s p) is "{}") ≡ true → P
        past_end c d = no (rw c at d)

        by : (y : TextCase) → text_case 1 s 0 p ≡ y → text_case 1 s 0 p ≡ TextCase.plain
        by deep q = absurd (top_told s p deep q)
        by TextCase.over q = let z = top_told s p TextCase.over q in absurd (omega (arith, A.3))
        by opens q = let f : ◌≡◌ {A = Move (List ℕ)} calls (goes k t) = rw (q, text_move) at x in let z : ◌≡◌ {A = ℕ} 0 1 = cc in absurd (omega arith)
        by last q = stop _ (rw (q, text_move) at x)
        by doubled q =
            let f : goes (next s (next s p)) ([] ++ char s p) ≡ goes k t = rw (q, text_move) at x in
            let z : next s (next s p) ≡ k = cc in
            cases (leb (length s) (next s p))
            (λ u. past_end (code_end s (next s p) (leb-true (length s) (next s p) u)) (top_told s p doubled q).1)
            (λ u. absurd (omega (arith, next_past s (next s p) (leb-false (length s) (next s p) u), kj)))
        by lone q = stop _ (rw (q, text_move) at x)
        by TextCase.escapes q = escaped (escape look 1 s (next s p)) refl (rw (q, text_move) at x)
        by TextCase.plain q = q
    go (stops y) x = not_got y ps j (sym (step_stops look s p y x) ∙ e)
    go calls x =
        let f = sym (step_calls look s p x) ∙ e in
        let np = next_past s p A.3 in
        let c = field_closed look (enough s) 1 s 0 (next s p) (next s p) fresh ps j (next_in s p l) (omega arith) f in
        absurd (omega (arith, c.1, c.2))
    go ends x = not_got (fault 0 p) ps j (sym (step_ends look s p x) ∙ e)

module _ (look : Naming) (s s' : List ℕ) (a b low top : ℕ) (W : Window s s' a b low top) where
  abbrev Here : (p p' : ℕ) → Type 0
  Here p p' = At s s' a b low top W p p'

  -- at the window's end a character must be plain in s' too
  abbrev pub Plain : (p p' : ℕ) → Type 0
  Plain p p' = next s p ≡ top → text_case 1 s 0 p ≡ TextCase.plain → text_case 1 s' 0 p' ≡ TextCase.plain

  pub step_like : (p p' : ℕ) (ps : List Piece) (j : ℕ) → Here p p' → p ≤ length s → step look s p ≡ got ps j → j ≤ top
      → Plain p p' → (text_case 1 s 0 p ≡ TextCase.escapes → escape_case 1 s (next s p) ≡ octal → Edge s s' a b low top W j)
      → Again s s' a b low top W (step look s' p') ps j
  unfolding text_move with_escape fresh
  step_like p p' ps j m l e h plain oct = go (text_move look 1 s 0 p []) refl
    where
      A : (p < j) × (j ≤ length s) × (next s p ≤ j) × (p < length s)
      A = step_ahead look s p j ps l e

      Goal : Type 0
      Goal = Again s s' a b low top W (step look s' p') ps j

      ends_at : (q : ℕ) (t : List ℕ) → text_move look 1 s 0 p [] ≡ goes q t → (q ≡ j) × (filled 0 t ≡ ps)
      ends_at q t x = let f = sym (step_goes look s p q t x) ∙ e in let z : q ≡ j = cc in let y : filled 0 t ≡ ps = cc in (z, y)

      moves : next s p < top → TextLike s s' a b low top W (text_move look 1 s 0 p []) (text_move look 1 s' 0 p' [])
      moves n =
          text_move_like s s' a b low top W look 1 0 p p' [] m (omega (arith, A.2, A.0)) n (λ q t x. omega (arith, (ends_at q t x).0))
          (λ q t x y z. subst (λ (q : ℕ). Edge s s' a b low top W q) (sym (ends_at q t x).0) (oct y z))

      inner : (k : ℕ) (t : List ℕ) (y : Move (List ℕ)) → text_move look 1 s 0 p [] ≡ goes k t → text_move look 1 s' 0 p' [] ≡ y → TextLike s s' a b low top W (goes k t) y → Goal
      inner k t (goes k' t') x x' (onward u) =
          let z = ends_at k t x in
          (filled 0 t, k', step_goes look s' p' k' t x', omega (arith, u.0, z.0), ap (map bare) (sym z.1))
      inner k t (stops why) x x' l = elim l [ ]
      inner k t calls x x' l = elim l [ ]
      inner k t ends x x' l = elim l [ ]

      -- the last character of the window
      at_edge : (k : ℕ) (t : List ℕ) → text_move look 1 s 0 p [] ≡ goes k t → next s p ≡ top → Goal
      at_edge k t x n =
          let jt : next s p ≡ j = omega (arith, A.2) in
          let q = one_plain look s p ps j l e jt in
          let f : goes (next s p) ([] ++ char s p) ≡ goes k t = rw (q, text_move) at x in
          let z : char s p ≡ t = cc in
          let pt : p < top = omega (arith, A.0) in
          let u = next_like s s' a b low top W p p' m pt (omega arith) in
          let c = char_like s s' a b low top W p p' m pt (omega arith) in
          let x' : text_move look 1 s' 0 p' [] ≡ goes (next s' p') (char s' p') = rw (plain n q, text_move) refl in
          (filled 0 (char s' p'), next s' p', step_goes look s' p' (next s' p') (char s' p') x', omega (arith, u.0), ap (map bare) (sym (ends_at k t x).1 ∙ ap (filled 0) (sym z ∙ c)))

      go : (x : Move (List ℕ)) → text_move look 1 s 0 p [] ≡ x → Goal
      go (goes k t) x =
          cases (ltb (next s p) top)
          (λ n. inner k t (text_move look 1 s' 0 p' []) x refl (subst (λ (z : Move (List ℕ)). TextLike s s' a b low top W z (text_move look 1 s' 0 p' [])) x (moves (ltb-true (next s p) top n))))
          (λ n. at_edge k t x (omega (arith, ltb-false (next s p) top n, A.2)))
      go (stops y) x = not_got y ps j (sym (step_stops look s p y x) ∙ e)
      go calls x =
          let f = sym (step_calls look s p x) ∙ e in
          let np = next_past s p A.3 in
          let ni = next_in s p l in
          let c = field_closed look (enough s) 1 s 0 (next s p) (next s p) fresh ps j ni (omega arith) f in
          let nt : next s p < top = omega (arith, c.1, c.2) in
          let pt : p < top = omega arith in
          let x' = on_calls (text_move look 1 s' 0 p' []) refl (subst (λ (z : Move (List ℕ)). TextLike s s' a b low top W z (text_move look 1 s' 0 p' [])) x (moves nt)) in
          let mi = next_like s s' a b low top W p p' m pt (omega arith) in
          let n = enough s + enough s' in
          let f' = field_fuel look n (enough s) 1 s 0 (next s p) (next s p) fresh ni (omega arith) (omega arith) ∙ f in
          let F = (alike s s' a b low top W look 1 n).field 0 (next s p) (next s' p') (next s p) (next s' p') [] true [] [] 0 false 0 (signs 0 0 0 0) (signs 0 0 0 0) ps j mi ni (omega arith) refl f' h in
          let p'in = next_in s' p' (omega (arith, W.within', m.0)) in
          (F.0, F.1, step_calls look s' p' x' ∙ field_fuel look (enough s') n 1 s' 0 (next s' p') (next s' p') fresh p'in (omega arith) (omega arith) ∙ F.2, F.3, F.4)
        where
          on_calls : (y : Move (List ℕ)) → text_move look 1 s' 0 p' [] ≡ y → TextLike s s' a b low top W calls y → text_move look 1 s' 0 p' [] ≡ calls
          on_calls calls x opening = x
          on_calls (goes taken _) x l = elim l [ ]
          on_calls (stops why) x l = elim l [ ]
          on_calls ends x l = elim l [ ]
      go ends x = not_got (fault 0 p) ps j (sym (step_ends look s p x) ∙ e)
