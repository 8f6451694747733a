-- A LIST PASSES exactly if there are boundaries, every cut is one of them, the cuts rise inside the body and the pieces keep to the limit. Assumes nothing.
use mathlib.Core.Path.{◌≡◌, refl, sym, ◌∙◌, ap, subst}
use mathlib.Core.Bool.{true, ◌&&◌}
use mathlib.Core.List.{List, [], ◌∷◌, ◌++◌}
use mathlib.Core.Option.{Option, some}
use Prim.Native.Nat.{ℕ, ◌+◌, ◌≤◌, ◌<◌}
use native.Mathlib.Omega.{arith}
use borrow.Author.Tests.{ltb-true, lt-ltb, eqb-true, eqb-false}
use lib.Dec.{ltb, eqb}
use lib.ListN.{length, drop}
use Rattle.definition.specs.Numbers.{◌among◌}
use Rattle.definition.specs.Escapes.{held_names}
use Rattle.definition.specs.Body.{Piece}
use Rattle.definition.specs.Chars.{part}
use Rattle.definition.specs.Join.{join_outcomes}
use Rattle.definition.specs.Reading.{read_alone}
use Rattle.definition_cuts.specs.Cuts.{is_read, rise, pieces, all_short, all_read, join_all, equal, checked, Passes}
use Rattle.definition_cuts_laws.specs.IsPlan.{Promised}
use Rattle.definition_cuts.specs.Tokens.{boundaries, all_among}
use Rattle.definition_cuts.specs.Plan.{plan}
use Rattle.definition.proofs.Moves.CharLaws.{no, cases}
use Rattle.definition_laws.proofs.Moves.Cases.{and_both}
use Rattle.definition_cuts_laws.proofs.Tokens.TokenPaths.{Tokens, tokens_steps, steps_tokens}
use Rattle.definition_cuts_laws.proofs.Cuts.AloneLaws.{fit_accepted, accepted_fit}
use Rattle.definition_cuts_laws.proofs.Cuts.CutsLaw.{Chain, accepts_read, all_short_lem, checked_is, passes_stands, stands_passes}
use Rattle.definition_cuts_laws.proofs.Tokens.TokenMarks.{token_on, first_token, tokens_later, tokens_between, Marks, final, mark, marks_tokens, tokens_marks, boundaries_marks, marks_boundaries}
use Rattle.definition_cuts_laws.proofs.Plan.PlanLaw.{tokens_append, plan_promised}

module _ (s : List ℕ) where
  pub among_tokens : (i c : ℕ) (js : List ℕ) → Marks s i js → (c among (i ∷ js)) ≡ true → (ps : List Piece) × Tokens held_names s i c ps
  among_tokens i c js (final h) e =
      cases (eqb c i) (λ t. ([], subst (λ (k : ℕ). Tokens held_names s i k []) (sym (eqb-true c i t)) Tokens.none)) (λ t. no (rw t at e))
  among_tokens i c js (mark {j = j} {ms = ks} h f M) e =
      cases (eqb c i) (λ t. ([], subst (λ (k : ℕ). Tokens held_names s i k []) (sym (eqb-true c i t)) Tokens.none))
      (λ t.
      let O = token_on s i j h f in
      let R = among_tokens j c ks M (rw t at e) in
      (O.0 ++ R.0, O.1 c R.0 R.1))

  pub tokens_among : (i c : ℕ) (js : List ℕ) (ps : List Piece) → Marks s i js → Tokens held_names s i c ps → i ≤ length s → (c among (i ∷ js)) ≡ true
  tokens_among i c js ps (final h) T l =
      cases (eqb c i) (λ t. rw t refl)
      (λ t. let a = tokens_later s i c ps T l in let n = eqb-false c i t in absurd (n (omega (arith, a.0, a.1))))
  tokens_among i c js ps (mark {j = j} {ms = ks} h f M) T l =
      cases (eqb c i) (λ t. rw t refl)
      (λ t.
      let a = tokens_later s i c ps T l in
      let n = eqb-false c i t in
      let F = first_token s i c ps T (omega (arith, a.0)) in
      let q = sym F.2 ∙ f in
      let z : F.0 ≡ j = cc in
      let O = token_on s i j h f in
      rw t (tokens_among j c ks F.1 M (subst (λ (x : ℕ). Tokens held_names s x c F.1) z F.3) O.3))

  chain_among : (from : ℕ) (cs js : List ℕ) (ps : List Piece) → Marks s 0 js → Tokens held_names s 0 from ps → Chain s from cs → all_among (0 ∷ js) cs ≡ true
  unfolding all_among
  chain_among from [] js ps M T C = refl
  chain_among from (c ∷ cs) js ps M T ((qs, R), C) =
      let A = tokens_append s 0 from c ps qs T R in
      rw (tokens_among 0 c js (ps ++ qs) M A (omega arith)) (chain_among c cs js (ps ++ qs) M A C)

  among_chain : (from : ℕ) (cs js : List ℕ) (ps : List Piece) → Marks s 0 js → Tokens held_names s 0 from ps → from ≤ length s → rise (length s) from cs ≡ true → all_among (0 ∷ js) cs ≡ true → Chain s from cs
  unfolding all_among rise
  among_chain from [] js ps M T l r e = let E = marks_tokens s 0 js M (omega arith) in tokens_between s 0 from (length s) ps E.0 T E.1 (omega arith) l
  among_chain from (c ∷ cs) js ps M T l r e =
      let a = and_both (ltb from c && ltb c (length s)) (rise (length s) c cs) r in
      let b = and_both (ltb from c) (ltb c (length s)) a.0 in
      let x = ltb-true from c b.0 in
      let y = ltb-true c (length s) b.1 in
      let d = and_both (c among (0 ∷ js)) (all_among (0 ∷ js) cs) e in
      let R = among_tokens 0 c js M d.0 in
      (tokens_between s 0 from c ps R.0 T R.1 (omega arith) (omega arith), among_chain c cs js R.0 M R.1 (omega arith) a.1 d.1)

  -- THE THEOREM, both ways
  pub passes_at_boundaries : (limit : ℕ) (cs : List ℕ) → Passes s limit cs
      → (ms : List ℕ) × (boundaries s ≡ some ms) × (all_among ms cs ≡ true) × (rise (length s) 0 cs ≡ true) × (all_short limit (pieces s 0 cs) ≡ true)
  unfolding rise
  passes_at_boundaries limit cs p =
      let S = passes_stands s limit cs p in
      let T = to_end_lem 0 cs (omega arith) S.rises S.chain in
      let M = tokens_marks s 0 T.0 T.1 (omega arith) in
      (0 ∷ M.0, marks_boundaries s S.fit M.0 M.1, chain_among 0 cs M.0 [] M.1 Tokens.none S.chain, S.rises, S.short)
    where
      to_end_lem : (from : ℕ) (cs : List ℕ) → from ≤ length s → rise (length s) from cs ≡ true → Chain s from cs → (ps : List Piece) × Tokens held_names s from (length s) ps
      to_end_lem from [] l r C = C
      to_end_lem from (c ∷ cs) l r ((ps, T), C) =
          let a = and_both (ltb from c && ltb c (length s)) (rise (length s) c cs) r in
          let y = ltb-true c (length s) (and_both (ltb from c) (ltb c (length s)) a.0).1 in
          let R = to_end_lem c cs (omega arith) a.1 C in
          (ps ++ R.0, tokens_append s from c (length s) ps R.0 T R.1)

  pub boundaries_pass : (limit : ℕ) (cs ms : List ℕ) → boundaries s ≡ some ms → all_among ms cs ≡ true → rise (length s) 0 cs ≡ true → all_short limit (pieces s 0 cs) ≡ true → Passes s limit cs
  boundaries_pass limit cs ms e a r k =
      let B = boundaries_marks s ms e in
      let a' : all_among (0 ∷ B.1.0) cs ≡ true = ap (λ l. all_among l cs) (sym B.1.1) ∙ a in
      stands_passes s limit cs (record { rises = r; short = k; fit = B.0; chain = among_chain 0 cs B.1.0 [] B.1.2 Tokens.none (omega arith) r a' })

  -- there are boundaries exactly if the body is accepted
  pub accepted_boundaries : is_read (read_alone held_names s) ≡ true → (ms : List ℕ) × (boundaries s ≡ some ms)
  accepted_boundaries e =
      let A = accepted_fit s e in
      let M = tokens_marks s 0 A.1.0 (steps_tokens held_names s 0 (length s) A.1.0 A.1.1 refl (omega arith)) (omega arith) in
      (0 ∷ M.0, marks_boundaries s A.0 M.0 M.1)

  pub boundaries_accepted : (ms : List ℕ) → boundaries s ≡ some ms → is_read (read_alone held_names s) ≡ true
  boundaries_accepted ms e =
      let B = boundaries_marks s ms e in
      let T = marks_tokens s 0 B.1.0 B.1.2 (omega arith) in
      let A = fit_accepted s B.0 T.0 (tokens_steps held_names s 0 (length s) T.0 T.1) in
      accepts_read (read_alone held_names s) A.0 A.1

  -- THE CUT LAW: at a boundary, the readings of both sides joined equal the whole reading
  pub cut_law : (m : ℕ) (ms : List ℕ) → boundaries s ≡ some ms → (m among ms) ≡ true → 0 < m → m < length s → equal (join_outcomes 1 (read_alone held_names (part s 0 m)) (read_alone held_names (drop m s))) (read_alone held_names s) ≡ true
  unfolding checked rise all_among pieces join_all
  cut_law m ms e a h l =
      let r : rise (length s) 0 (m ∷ []) ≡ true = rw (lt-ltb 0 m h, lt-ltb m (length s) l) refl in
      let P = boundaries_pass (length s) (m ∷ []) ms e (rw a refl) r (all_short_lem s 0 (length s) (m ∷ []) (omega arith) r (omega arith)) in
      (checked_is (rise (length s) 0 (m ∷ [])) (all_short (length s) (pieces s 0 (m ∷ []))) (all_read (pieces s 0 (m ∷ []))) (equal (join_all (pieces s 0 (m ∷ []))) (read_alone held_names s)) 63 64 65 66 P).3

-- A PLAN has fewer cuts than the body has bytes, so that a place for each byte is always enough
rise_length : (n from : ℕ) (cs : List ℕ) → from ≤ n → rise n from cs ≡ true → from + length cs ≤ n
unfolding rise
rise_length n from [] l e = omega arith
rise_length n from (c ∷ cs) l e =
    let a = and_both (ltb from c && ltb c n) (rise n c cs) e in
    let b = and_both (ltb from c) (ltb c n) a.0 in
    let x = ltb-true from c b.0 in
    let y = ltb-true c n b.1 in
    omega (arith, rise_length n c cs (omega arith) a.1)

pub plan_room : (s : List ℕ) (limit : ℕ) (cs : List ℕ) → plan s limit ≡ some cs → length cs ≤ length s
unfolding Promised
plan_room s limit cs e =
    let P : Promised s limit (some cs) = subst (λ (o : Option (List ℕ)). Promised s limit o) e (plan_promised s limit) in
    omega (arith, rise_length (length s) 0 cs (omega arith) (passes_stands s limit cs P.passes).rises)
