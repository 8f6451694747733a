-- WHICH NUMBER the check gives, by the body's tokens. Assumes nothing.
use Rattle.std.specs.Prelude.{if◌then◌else◌}
use mathlib.Core.Path.{◌≡◌, refl, sym, ◌∙◌, ap, subst}
use mathlib.Core.Bool.{Bool, true, false, ◌&&◌, not}
use mathlib.Core.List.{List, [], ◌∷◌, ◌++◌}
use mathlib.Core.Option.{Option, none, some}
use mathlib.Core.Logic.{◌⊎◌, inl, inr}
use Prim.Native.Nat.{ℕ, zero, suc, ◌+◌, ◌-◌, ◌≤◌, ◌<◌}
use native.Mathlib.Omega.{arith}
use borrow.Author.Tests.{ltb-true, ltb-false, leb-true, leb-false, le-leb, lt-leb, eqb-true, eqb-false, ne_eqb}
use lib.Dec.{ltb, leb, eqb}
use lib.ListN.{length, drop, length-drop}
use Rattle.definition.specs.Chars.{◌is◌, part, code, next, well_formed, utf8}
use Rattle.definition.specs.Escapes.{held_names, got, octal, escape_case, octal_digit}
use Rattle.definition.specs.Body.{Piece, TextCase, text_case, filled}
use Rattle.definition.specs.Records.{Answer}
use Rattle.definition.specs.Reading.{accepts, read_alone}
use Rattle.definition_cuts.specs.Cuts.{is_read, rise, pieces, all_short, all_read, join_all, equal, checked, Passes}
use Rattle.definition_cuts.specs.Tokens.{staying, move_end, token_end, boundaries_n}
use Rattle.definition_cuts_laws.specs.Standing.{Standing, between, among_digits, within, octal_at, standing_n, standing, none_within, all_between, is_some, checked_by_tokens}
use Rattle.definition.proofs.Moves.CharLaws.{no, cases, next_ascii, code_end}
use Rattle.definition_laws.proofs.Moves.Adds.{ascii_in}
use Rattle.definition_laws.proofs.Moves.Cases.{and_both}
use Rattle.definition_cuts_laws.proofs.Windows.WindowFields.{Same}
use Rattle.definition_cuts_laws.proofs.Tokens.TokenSteps.{top_told, step, step_ahead}
use Rattle.definition_cuts_laws.proofs.Tokens.TokenPaths.{Tokens, tokens_steps, steps_tokens, staying_next}
use Rattle.definition_cuts_laws.proofs.Tokens.PieceLaws.{piece_length, octal_is, octal_got, octal_step, Longer}
use Rattle.definition_cuts_laws.proofs.Tokens.FormedPaths.{Formed, formed_front, all_formed, formed_all, steps_formed}
use Rattle.definition_cuts_laws.proofs.Cuts.AloneLaws.{Fit, fit_accepted, accepted_fit}
use Rattle.definition_cuts_laws.proofs.Cuts.CutsLaw.{Chain, last_piece, accepts_read, piece_read, piece_accepted, all_joined, equal_read, checked_is, passes_stands, stands_passes}
use Rattle.definition_cuts_laws.proofs.Tokens.TokenMarks.{no_some, some_one, end_got, got_end, move_step, marks_of, marks_found, token_on, first_token, tokens_later, tokens_between, marks_tokens, tokens_marks}
use Rattle.definition_cuts_laws.proofs.Plan.PlanLaw.{tokens_append, next_mark}
use Rattle.definition_cuts_laws.proofs.Cuts.OctalCuts.{OctalCut, octal_stays, octal_after, octal_from_lem, octal_end, at_before, Fine, fine_on, fine_link, longer_cut, octal_piece}

-- ALL CUTS FINE
abbrev pub AllFine : List ℕ → List ℕ → Type 0
AllFine s [] = Unit {0}
AllFine s (c ∷ cs) = Fine s 0 c × AllFine s cs

met : (s : List ℕ) (c from : ℕ) (ps : List Piece) → from ≤ length s → ((ps' : List Piece) × Tokens held_names s from c ps' × Same ps ps') ⊎ Longer held_names s c from ps → Fine s from c
met s c from ps l (inl (ps', T, m)) = inl (ps', T)
met s c from ps l (inr L) = inr (longer_cut s c from ps l L)

-- pieces that are all read end at fine cuts
pub read_fine : (s : List ℕ) (from : ℕ) (cs : List ℕ) → from ≤ length s → rise (length s) from cs ≡ true → all_read (pieces s from cs) ≡ true → Fine s 0 from → AllFine s cs
unfolding rise all_read pieces
read_fine s from [] l r e f = tt
read_fine s from (c ∷ cs) l r e f =
    let a = and_both (ltb from c && ltb c (length s)) (rise (length s) c cs) r in
    let b = and_both (ltb from c) (ltb c (length s)) a.0 in
    let x = ltb-true from c b.0 in
    let y = ltb-true c (length s) b.1 in
    let d = and_both (is_read (read_alone held_names (part s from c))) (all_read (pieces s c cs)) e in
    let P = piece_read s from c (omega arith) (omega arith) d.0 in
    let g = fine_on s from c x f (met s c from P.1 l P.5) in
    (g, read_fine s c cs (omega arith) a.1 d.1 g)

-- and pieces between fine cuts are all read
piece_fine : (s : List ℕ) (from c : ℕ) → from ≤ c → c ≤ length s → Formed s 0 (length s) → Formed s from (length s) → c - from ≤ 1048576 → Fine s from c
    → (x : Answer) × (read_alone held_names (part s from c) ≡ accepts x) × Formed s from c
piece_fine s from c h l F G k (inl (ps, T)) =
    let H = steps_formed s held_names from c ps (tokens_steps held_names s from c ps T) G (omega arith) in
    let P = piece_accepted s from c h l F H k ps T in
    (P.0, P.2, H)
piece_fine s from c h l F G k (inr O) = octal_piece s from c h l F G k O

pub fine_read : (s : List ℕ) (from : ℕ) (cs : List ℕ) (ps : List Piece) → from ≤ length s → rise (length s) from cs ≡ true → Formed s 0 (length s) → Formed s from (length s)
    → Tokens held_names s 0 (length s) ps → Fine s 0 from → AllFine s cs → all_short 1048576 (pieces s from cs) ≡ true → all_read (pieces s from cs) ≡ true
unfolding rise all_read all_short pieces
fine_read s from [] ps l r F G T f g k =
    let sh = leb-true (length (drop from s)) 1048576 (and_both (leb (length (drop from s)) 1048576) true k).0 in
    let P = piece_fine s from (length s) l (omega arith) F G (omega (arith, length-drop from s)) (end-fine f) in
    rw (accepts_read (read_alone held_names (drop from s)) P.0 (ap (read_alone held_names) (sym (last_piece s from)) ∙ P.1)) refl
  where
    end-fine : Fine s 0 from → Fine s from (length s)
    end-fine f =
        cases (ltb from (length s)) (λ t. fine_link s from (length s) (ltb-true from (length s) t) f (inl (ps, T)))
        (λ t. let z : from ≡ length s = omega (arith, ltb-false from (length s) t) in inl ([], subst (λ (k : ℕ). Tokens held_names s from k []) z Tokens.none))
fine_read s from (c ∷ cs) ps l r F G T f (g, gs) k =
    let a = and_both (ltb from c && ltb c (length s)) (rise (length s) c cs) r in
    let b = and_both (ltb from c) (ltb c (length s)) a.0 in
    let x = ltb-true from c b.0 in
    let y = ltb-true c (length s) b.1 in
    let d = and_both (leb (length (part s from c)) 1048576) (all_short 1048576 (pieces s c cs)) k in
    let sh = leb-true (length (part s from c)) 1048576 d.0 in
    let P = piece_fine s from c (omega arith) (omega arith) F G (omega (arith, piece_length s from c (omega arith) (omega arith))) (fine_link s from c x f g) in
    rw (accepts_read (read_alone held_names (part s from c)) P.0 P.1)
    (fine_read s c cs ps (omega arith) a.1 F (formed_front s from c (length s) P.2 G refl) T g gs d.1)

one_end : (s : List ℕ) (i e : ℕ) (ps : List Piece) → staying s i ≡ false → step held_names s i ≡ got ps e → token_end s i ≡ some e
unfolding token_end
one_end s i e ps y st = rw y (move_step s i ∙ got_end (step held_names s i) ps e st)

-- THE STANDING of a cut tells what it is
is_digit_lem : (c : ℕ) → (c is "01234567") ≡ true → (48 ≤ c) × (c ≤ 55)
is_digit_lem c t =
    cases (eqb c 48) (λ x. let z = eqb-true c 48 x in (omega arith, omega arith)) (λ x0.
    cases (eqb c 49) (λ x. let z = eqb-true c 49 x in (omega arith, omega arith)) (λ x1.
    cases (eqb c 50) (λ x. let z = eqb-true c 50 x in (omega arith, omega arith)) (λ x2.
    cases (eqb c 51) (λ x. let z = eqb-true c 51 x in (omega arith, omega arith)) (λ x3.
    cases (eqb c 52) (λ x. let z = eqb-true c 52 x in (omega arith, omega arith)) (λ x4.
    cases (eqb c 53) (λ x. let z = eqb-true c 53 x in (omega arith, omega arith)) (λ x5.
    cases (eqb c 54) (λ x. let z = eqb-true c 54 x in (omega arith, omega arith)) (λ x6.
    cases (eqb c 55) (λ x. let z = eqb-true c 55 x in (omega arith, omega arith)) (λ x7. no (rw (x0, x1, x2, x3, x4, x5, x6, x7) at t)))))))))

module _ (s : List ℕ) where
  octal_at_lem : (i : ℕ) → i < length s → octal_at s i ≡ true → (text_case 1 s 0 i ≡ TextCase.escapes) × (escape_case 1 s (next s i) ≡ octal)
  unfolding octal_at text_case escape_case
  octal_at_lem i h e =
      let b = and_both (code s i is "\\") (code s (next s i) is "01234567") e in
      let c : code s i ≡ 92 = eqb-true (code s i) 92 b.0 in
      let d = is_digit_lem (code s (next s i)) b.1 in
      let l = digit_there d.1 in
      let x : (n : ℕ) → (code s (next s i) ≡ n → ⊥) → eqb (code s (next s i)) n ≡ false = λ n f. ne_eqb (code s (next s i)) n f in (
        rw (lt-leb (length s) i h, c, x 123 (λ e. omega arith), x 125 (λ e. omega arith)) refl,
        rw (lt-leb (length s) (next s i) l, x 92 (λ e. omega arith), x 39 (λ e. omega arith), x 34 (λ e. omega arith), x 97 (λ e. omega arith), x 98 (λ e. omega arith), x 102 (λ e. omega arith), x 110 (λ e. omega arith), x 114 (λ e. omega arith), x 116 (λ e. omega arith), x 118 (λ e. omega arith), b.1) refl,
      )
    where
      digit_there : code s (next s i) ≤ 55 → next s i < length s
      digit_there h = cases (leb (length s) (next s i)) (λ t. let z = code_end s (next s i) (leb-true _ _ t) in absurd (omega arith)) (λ t. leb-false _ _ t)

  at_octal : (i : ℕ) → text_case 1 s 0 i ≡ TextCase.escapes → escape_case 1 s (next s i) ≡ octal → (octal_at s i ≡ true) × (next s (next s i) ≡ i + 2)
  unfolding octal_at
  at_octal i q o =
      let c : code s i ≡ 92 = (top_told s i TextCase.escapes q).1 in
      let t = octal_is s (next s i) o in
      let d = is_digit_lem (code s (next s i)) t in
      let n = next_ascii s i (ascii_in s i (omega arith)) in
      let m = next_ascii s (next s i) (ascii_in s (next s i) (omega arith)) in
      (rw (c, t) refl, omega arith)

  pub token_in : (i j : ℕ) → i ≤ length s → token_end s i ≡ some j → i < length s
  unfolding token_end
  token_in i j l e =
      cases (staying s i)
      (λ y. let n = staying_next held_names s i l y in omega (arith, n.0, n.1))
      (λ y.
      let e' : move_end s i ≡ some j = rw y at e in
      let B = end_got (step held_names s i) j (sym (move_step s i) ∙ e') in
      (step_ahead held_names s i j B.0 l B.1).3)

  abbrev StandTells : (i c : ℕ) → Standing → Type 0
  StandTells i c between = (ps : List Piece) × Tokens held_names s i c ps
  StandTells i c among_digits = OctalCut s i c
  StandTells i c within = Fine s i c → ⊥

  -- what is fine after i is at i or in its first token or fine after that
  first_fine : (i j c : ℕ) → i ≤ length s → token_end s i ≡ some j → (i ≡ c → ⊥) → j ≤ c → Fine s i c → Fine s j c
  first_fine i j c l e n h (inl (ps, T)) =
      let a = tokens_later s i c ps T l in
      let F = first_token s i c ps T (lt i c a.0 n) in
      let z = some_one F.0 j (sym F.2 ∙ e) in
      inl (F.1, subst (λ (x : ℕ). Tokens held_names s x c F.1) z F.3)
    where
      lt : (i c : ℕ) → i ≤ c → (i ≡ c → ⊥) → i < c
      lt i c h m = cases (ltb i c) (λ t. ltb-true i c t) (λ t. absurd (m (omega (arith, ltb-false i c t))))
  first_fine i j c l e n h (inr O) =
      let a = tokens_later s i O.at O.front O.path l in
      cases (ltb i O.at)
      (λ t.
      let F = first_token s i O.at O.front O.path (ltb-true i O.at t) in
      let z = some_one F.0 j (sym F.2 ∙ e) in
      inr (octal_from_lem s i j c O F.1 (subst (λ (x : ℕ). Tokens held_names s x O.at F.1) z F.3)))
      (λ t.
      let z : O.at ≡ i = omega (arith, a.0, ltb-false i O.at t) in
      let y = some_one O.end j (sym (octal_end s i c O) ∙ ap (token_end s) z ∙ e) in
      absurd (omega (arith, O.late)))

  none_fine : (i c : ℕ) → i ≤ length s → token_end s i ≡ none → (i ≡ c → ⊥) → Fine s i c → ⊥
  none_fine i c l e n (inl (ps, T)) =
      let a = tokens_later s i c ps T l in
      cases (ltb i c)
      (λ t. let F = first_token s i c ps T (ltb-true i c t) in no_some F.0 (sym e ∙ F.2))
      (λ t. n (omega (arith, a.0, ltb-false i c t)))
  none_fine i c l e n (inr O) =
      let a = tokens_later s i O.at O.front O.path l in
      cases (ltb i O.at)
      (λ t. let F = first_token s i O.at O.front O.path (ltb-true i O.at t) in no_some F.0 (sym e ∙ F.2))
      (λ t. let z : O.at ≡ i = omega (arith, a.0, ltb-false i O.at t) in no_some O.end (sym (ap (token_end s) z ∙ e) ∙ octal_end s i c O))

  -- within the first token: only its octal digits are fine
  inner_fine : (i j c : ℕ) → i ≤ length s → token_end s i ≡ some j → (i ≡ c → ⊥) → c < j → (octal_at s i && leb (i + 2) c) ≡ false → Fine s i c → ⊥
  inner_fine i j c l e n h q (inl (ps, T)) =
      let a = tokens_later s i c ps T l in
      cases (ltb i c)
      (λ t.
      let F = first_token s i c ps T (ltb-true i c t) in
      let z = some_one F.0 j (sym F.2 ∙ e) in
      let O = token_on s i F.0 F.4 F.2 in
      let g = tokens_later s F.0 c F.1 F.3 O.3 in
      omega (arith, g.0))
      (λ t. n (omega (arith, a.0, ltb-false i c t)))
  inner_fine i j c l e n h q (inr O) =
      let a = tokens_later s i O.at O.front O.path l in
      cases (ltb i O.at)
      (λ t.
      let F = first_token s i O.at O.front O.path (ltb-true i O.at t) in
      let z = some_one F.0 j (sym F.2 ∙ e) in
      let P = token_on s i F.0 F.4 F.2 in
      let g = tokens_later s F.0 O.at F.1 F.3 P.3 in
      omega (arith, g.0, at_before s i c O))
      (λ t.
      let z : O.at ≡ i = omega (arith, a.0, ltb-false i O.at t) in
      let b = at_octal O.at O.case O.kind in
      let x : octal_at s i ≡ true = ap (octal_at s) (sym z) ∙ b.0 in
      let y : leb (i + 2) c ≡ true = le-leb (i + 2) c (omega (arith, O.early, b.1)) in
      let w : true ≡ false = rw (x, y) at q in
      no (sym w))

  octal_here : (i j c : ℕ) → i ≤ length s → token_end s i ≡ some j → c < j → octal_at s i ≡ true → i + 2 ≤ c → OctalCut s i c
  octal_here i j c l e h o k =
      let il = token_in i j l e in
      let A = octal_at_lem i il o in
      let b = at_octal i A.0 A.1 in
      let D = octal_got 2 (octal_digit (code s (next s i))) s (next s (next s i)) in
      let st = octal_step held_names s i D.0 D.1 A.0 A.1 D.2 in
      let z = some_one D.1 j (sym (one_end s i D.1 (filled 0 (utf8 D.0)) (octal_stays s i A.0) st) ∙ e) in
      record {
        at = i;
        front = [];
        path = Tokens.none;
        there = il;
        case = A.0;
        kind = A.1;
        all = D.0;
        end = D.1;
        digits = D.2;
        early = omega (arith, b.1);
        late = omega arith;
      }

  stand_tells : (n i c : ℕ) → i ≤ length s → length s < i + n → StandTells i c (standing_n n s i c)
  unfolding standing_n
  stand_tells zero i c l m = absurd (omega arith)
  stand_tells (suc n) i c l m =
      cases (eqb i c)
      (λ t. rw (t, standing_n) ([], subst (λ (k : ℕ). Tokens held_names s i k []) (eqb-true i c t) Tokens.none))
      (λ t. go t (token_end s i) refl (λ j. stand_tells n j c))
    where
      after : (j : ℕ) (x : Standing) → i < length s → token_end s i ≡ some j → (i ≡ c → ⊥) → j ≤ c → StandTells j c x → StandTells i c x
      after j between h e n k (qs, T) = let O = token_on s i j h e in (O.0 ++ qs, O.1 c qs T)
      after j among_digits h e n k O = let P = token_on s i j h e in octal_after s i j c (P.0 ++ []) (P.1 j [] Tokens.none) O
      after j within h e n k f = λ g. f (first_fine i j c l e n k g)

      go : eqb i c ≡ false → (o : Option ℕ) → token_end s i ≡ o → ((j : ℕ) → j ≤ length s → length s < j + n → StandTells j c (standing_n n s j c)) → StandTells i c (standing_n (suc n) s i c)
      go t none q ih = rw (t, q, standing_n) (none_fine i c l q (eqb-false i c t))
      go t (some j) q ih =
          let il = token_in i j l q in
          let O = token_on s i j il q in
          cases (ltb c j)
          (λ u.
          cases (octal_at s i && leb (i + 2) c)
          (λ w. let b = and_both (octal_at s i) (leb (i + 2) c) w in rw (t, q, u, w, standing_n) (octal_here i j c l q (ltb-true c j u) b.0 (leb-true (i + 2) c b.1)))
          (λ w. rw (t, q, u, w, standing_n) (inner_fine i j c l q (eqb-false i c t) (ltb-true c j u) w)))
          (λ u. rw (t, q, u, standing_n) (after j (standing_n n s j c) il q (eqb-false i c t) (ltb-false c j u) (ih j O.3 (omega (arith, O.2)))))

  pub standing_tells : (c : ℕ) → StandTells 0 c (standing s c)
  unfolding standing
  standing_tells c = stand_tells (suc (length s)) 0 c (omega arith) (omega arith)

  -- a boundary is not among octal digits
  apart : (c : ℕ) (ps : List Piece) → Tokens held_names s 0 c ps → OctalCut s 0 c → ⊥
  apart c ps T O = let n = next_mark s 0 0 O.at O.end c O.front ps (omega arith) O.path (octal_end s 0 c O) T (at_before s 0 c O) in omega (arith, O.late)

  fine_none : (cs : List ℕ) → none_within s cs ≡ true → AllFine s cs
  unfolding none_within
  fine_none [] e = tt
  fine_none (c ∷ cs) e = go (standing s c) refl (standing_tells c) (λ e. fine_none cs e)
    where
      go : (x : Standing) → standing s c ≡ x → StandTells 0 c x → (none_within s cs ≡ true → AllFine s cs) → AllFine s (c ∷ cs)
      go between q t ih = (inl t, ih (rw (q, none_within) at e))
      go among_digits q t ih = (inr t, ih (rw (q, none_within) at e))
      go within q t ih = no (rw (q, none_within) at e)

  none_fines : (cs : List ℕ) → AllFine s cs → none_within s cs ≡ true
  unfolding none_within
  none_fines [] f = refl
  none_fines (c ∷ cs) (g, f) = go (standing s c) refl (standing_tells c) (none_fines cs f)
    where
      go : (x : Standing) → standing s c ≡ x → StandTells 0 c x → none_within s cs ≡ true → none_within s (c ∷ cs) ≡ true
      go between q t ih = rw (q, none_within) ih
      go among_digits q t ih = rw (q, none_within) ih
      go within q t ih = absurd (t g)

  -- each at a boundary: a chain
  between_chain : (from : ℕ) (cs : List ℕ) (ps qs : List Piece) → Tokens held_names s 0 from ps → Tokens held_names s 0 (length s) qs → from ≤ length s → rise (length s) from cs ≡ true → all_between s cs ≡ true → Chain s from cs
  unfolding all_between rise
  between_chain from [] ps qs T E l r e = tokens_between s 0 from (length s) ps qs T E (omega arith) l
  between_chain from (c ∷ cs) ps qs T E l r e = go (standing s c) refl (standing_tells c) (λ rs R k r e. between_chain c cs rs qs R E k r e)
    where
      a : (ltb from c && ltb c (length s) ≡ true) × (rise (length s) c cs ≡ true)
      a = and_both (ltb from c && ltb c (length s)) (rise (length s) c cs) r

      b : (ltb from c ≡ true) × (ltb c (length s) ≡ true)
      b = and_both (ltb from c) (ltb c (length s)) a.0

      go : (x : Standing) → standing s c ≡ x → StandTells 0 c x
          → ((rs : List Piece) → Tokens held_names s 0 c rs → c ≤ length s → rise (length s) c cs ≡ true → all_between s cs ≡ true → Chain s c cs) → Chain s from (c ∷ cs)
      go between q (rs, R) ih =
          let x = ltb-true from c b.0 in
          let y = ltb-true c (length s) b.1 in
          (tokens_between s 0 from c ps rs T R (omega arith) (omega arith), ih rs R (omega arith) a.1 (rw (q, all_between) at e))
      go among_digits q t ih = no (rw (q, all_between) at e)
      go within q t ih = no (rw (q, all_between) at e)

  chain_between : (from : ℕ) (cs : List ℕ) (ps : List Piece) → Tokens held_names s 0 from ps → Chain s from cs → all_between s cs ≡ true
  unfolding all_between
  chain_between from [] ps T C = refl
  chain_between from (c ∷ cs) ps T ((qs, R), C) = let A = tokens_append s 0 from c ps qs T R in go A (standing s c) refl (standing_tells c) (chain_between c cs (ps ++ qs) A C)
    where
      go : Tokens held_names s 0 c (ps ++ qs) → (x : Standing) → standing s c ≡ x → StandTells 0 c x → all_between s cs ≡ true → all_between s (c ∷ cs) ≡ true
      go A between q t ih = rw (q, all_between) ih
      go A among_digits q t ih = absurd (apart c (ps ++ qs) A t)
      go A within q t ih = absurd (t (inl (ps ++ qs, A)))

  -- the tokens go to the end
  some_tokens : is_some (boundaries_n (suc (length s)) s 0) ≡ true → (ps : List Piece) × Tokens held_names s 0 (length s) ps
  unfolding is_some
  some_tokens e = go (boundaries_n (suc (length s)) s 0) refl
    where
      go : (o : Option (List ℕ)) → boundaries_n (suc (length s)) s 0 ≡ o → (ps : List Piece) × Tokens held_names s 0 (length s) ps
      go none q = no (rw q at e)
      go (some ms) q = let M = marks_of s (suc (length s)) 0 ms q in marks_tokens s 0 M.0 M.2 (omega arith)

  tokens_some : (ps : List Piece) → Tokens held_names s 0 (length s) ps → is_some (boundaries_n (suc (length s)) s 0) ≡ true
  unfolding is_some
  tokens_some ps T = let M = tokens_marks s 0 ps T (omega arith) in rw (marks_found s (suc (length s)) 0 M.0 M.1 (omega arith) (omega arith)) refl

  read_short : (from : ℕ) (cs : List ℕ) → all_read (pieces s from cs) ≡ true → all_short 1048576 (pieces s from cs) ≡ true
  unfolding all_read all_short pieces
  read_short from [] e =
      let f = (accepted_fit (drop from s) (and_both (is_read (read_alone held_names (drop from s))) true e).0).0 in
      rw (le-leb (length (drop from s)) 1048576 f.0) refl
  read_short from (c ∷ cs) e =
      let d = and_both (is_read (read_alone held_names (part s from c))) (all_read (pieces s c cs)) e in
      let f = (accepted_fit (part s from c) d.0).0 in
      rw (le-leb (length (part s from c)) 1048576 f.0) (read_short c cs d.1)

  module _ (limit : ℕ) (cs : List ℕ) (r : rise (length s) 0 cs ≡ true) where
    abbrev Reads : Bool
    Reads = leb (length s) (well_formed s) && is_some (boundaries_n (suc (length s)) s 0) && none_within s cs && all_short 1048576 (pieces s 0 cs)

    -- 66 by the tokens
    reads_all : Reads ≡ true → all_read (pieces s 0 cs) ≡ true
    reads_all e =
        let a = and_both (leb (length s) (well_formed s) && is_some (boundaries_n (suc (length s)) s 0) && none_within s cs) (all_short 1048576 (pieces s 0 cs)) e in
        let b = and_both (leb (length s) (well_formed s) && is_some (boundaries_n (suc (length s)) s 0)) (none_within s cs) a.0 in
        let c = and_both (leb (length s) (well_formed s)) (is_some (boundaries_n (suc (length s)) s 0)) b.0 in
        let F = all_formed s (leb-true (length s) (well_formed s) c.0) in
        let T = some_tokens c.1 in
        fine_read s 0 cs T.0 (omega arith) r F F T.1 (inl ([], Tokens.none)) (fine_none cs b.1) a.1

    all_reads : all_read (pieces s 0 cs) ≡ true → Reads ≡ true
    all_reads e =
        let J = all_joined s 0 cs (omega arith) r e in
        let T = steps_tokens held_names s 0 (length s) J.whole J.steps refl (omega arith) in
        rw (le-leb (length s) (well_formed s) (formed_all s J.formed), tokens_some J.whole T, none_fines cs (read_fine s 0 cs (omega arith) r e (inl ([], Tokens.none))), read_short 0 cs e) refl

    module _ (k : all_short limit (pieces s 0 cs) ≡ true) where
      -- 67 by the tokens
      equals_between : Reads ≡ true → all_between s cs && leb (length s) 1048576 ≡ true → equal (join_all (pieces s 0 cs)) (read_alone held_names s) ≡ true
      unfolding checked
      equals_between e h =
          let a = and_both (leb (length s) (well_formed s) && is_some (boundaries_n (suc (length s)) s 0) && none_within s cs) (all_short 1048576 (pieces s 0 cs)) e in
          let b = and_both (leb (length s) (well_formed s) && is_some (boundaries_n (suc (length s)) s 0)) (none_within s cs) a.0 in
          let c = and_both (leb (length s) (well_formed s)) (is_some (boundaries_n (suc (length s)) s 0)) b.0 in
          let d = and_both (all_between s cs) (leb (length s) 1048576) h in
          let T = some_tokens c.1 in
          let f : Fit s = (leb-true (length s) 1048576 d.1, leb-true (length s) (well_formed s) c.0) in
          let C = between_chain 0 cs [] T.0 Tokens.none T.1 (omega arith) r d.0 in
          let P = stands_passes s limit cs (record { rises = r; short = k; fit = f; chain = C }) in
          (checked_is (rise (length s) 0 cs) (all_short limit (pieces s 0 cs)) (all_read (pieces s 0 cs)) (equal (join_all (pieces s 0 cs)) (read_alone held_names s)) 63 64 65 66 P).3

      between_equals : all_read (pieces s 0 cs) ≡ true → equal (join_all (pieces s 0 cs)) (read_alone held_names s) ≡ true → all_between s cs && leb (length s) 1048576 ≡ true
      unfolding checked
      between_equals e q =
          let P : Passes s limit cs = rw (r, k, e, q) refl in
          let S = passes_stands s limit cs P in
          rw (chain_between 0 cs [] Tokens.none S.chain, le-leb (length s) 1048576 S.fit.0) refl

      -- THE NUMBER, by the tokens
      pub number_by_tokens : checked s limit cs ≡ checked_by_tokens s cs
      unfolding checked checked_by_tokens
      number_by_tokens = rw (r, k) (go (all_read (pieces s 0 cs)) refl Reads refl (equal (join_all (pieces s 0 cs)) (read_alone held_names s)) refl (all_between s cs && leb (length s) 1048576) refl)
        where
          go : (x : Bool) → all_read (pieces s 0 cs) ≡ x → (y : Bool) → Reads ≡ y → (z : Bool) → equal (join_all (pieces s 0 cs)) (read_alone held_names s) ≡ z → (w : Bool) → all_between s cs && leb (length s) 1048576 ≡ w
              → ◌≡◌ {A = ℕ} (if not (all_read (pieces s 0 cs)) then 66 else if not (equal (join_all (pieces s 0 cs)) (read_alone held_names s)) then 67 else 0) (if not Reads then 66 else if not (all_between s cs && leb (length s) 1048576) then 67 else 0)
          go true a true b true c true d = rw (a, b, c, d) refl
          go true a true b true c false d = no (sym d ∙ between_equals a c)
          go true a true b false c true d = no (sym c ∙ equals_between b d)
          go true a true b false c false d = rw (a, b, c, d) refl
          go true a false b z c w d = no (sym b ∙ all_reads a)
          go false a true b z c w d = no (sym a ∙ reads_all b)
          go false a false b z c w d = rw (a, b) refl

-- A REFUSED BODY of at most 1,048,576 bytes has a refused piece, however it is cut: 66
pub refused_piece : (s : List ℕ) (limit : ℕ) (cs : List ℕ) → rise (length s) 0 cs ≡ true → all_short limit (pieces s 0 cs) ≡ true → length s ≤ 1048576 → is_read (read_alone held_names s) ≡ false → checked s limit cs ≡ 66
unfolding checked
refused_piece s limit cs r k l e = rw (r, k) (go (all_read (pieces s 0 cs)) refl)
  where
    go : (x : Bool) → all_read (pieces s 0 cs) ≡ x → ◌≡◌ {A = ℕ} (if not (all_read (pieces s 0 cs)) then 66 else if not (equal (join_all (pieces s 0 cs)) (read_alone held_names s)) then 67 else 0) 66
    go false x = rw x refl
    go true x =
        let J = all_joined s 0 cs (omega arith) r x in
        let A = fit_accepted s (l, formed_all s J.formed) J.whole J.steps in
        no (sym e ∙ accepts_read (read_alone held_names s) A.0 A.1)

-- A LONGER BODY is never equal: 67 if all its pieces are read
pub longer_differs : (s : List ℕ) (limit : ℕ) (cs : List ℕ) → rise (length s) 0 cs ≡ true → all_short limit (pieces s 0 cs) ≡ true → 1048576 < length s → all_read (pieces s 0 cs) ≡ true → checked s limit cs ≡ 67
unfolding checked
longer_differs s limit cs r k l e = rw (r, k, e) (go (equal (join_all (pieces s 0 cs)) (read_alone held_names s)) refl)
  where
    go : (x : Bool) → equal (join_all (pieces s 0 cs)) (read_alone held_names s) ≡ x → ◌≡◌ {A = ℕ} (if not (equal (join_all (pieces s 0 cs)) (read_alone held_names s)) then 67 else 0) 67
    go false x = rw x refl
    go true x = let f = (accepted_fit s (equal_read (join_all (pieces s 0 cs)) (read_alone held_names s) x)).0 in absurd (omega (arith, f.0))

-- A PIECE THAT ENDS WITHIN A TOKEN is refused, whatever follows, but for one that ends among octal digits
pub within_refused : (s : List ℕ) (c : ℕ) → c ≤ length s → standing s c ≡ within → is_read (read_alone held_names (part s 0 c)) ≡ false
within_refused s c l e =
    cases (is_read (read_alone held_names (part s 0 c)))
    (λ t. let P = piece_read s 0 c (omega arith) l t in absurd (subst (StandTells s 0 c) e (standing_tells s c) (met s c 0 P.1 (omega arith) P.5)))
    (λ t. t)
