-- THE PLAN over the boundaries has the planner's promise, and nothing else has it. Assumes nothing.
use mathlib.Core.Path.{◌≡◌, refl, sym, ◌∙◌, ap, ap₂, subst}
use mathlib.Core.Bool.{Bool, true, false, ◌&&◌}
use mathlib.Core.List.{List, [], ◌∷◌, ◌++◌, append_assoc, append-nil}
use mathlib.Core.Option.{Option, none, some}
use Prim.Native.Nat.{ℕ, ◌+◌, ◌≤◌, ◌<◌}
use native.Mathlib.Omega.{arith}
use borrow.Author.Tests.{ltb-true, ltb-false, lt-ltb, leb-true, leb-false, le-leb}
use lib.Dec.{ltb, leb}
use lib.ListN.{length, drop, length-drop}
use Rattle.definition.specs.Chars.{part}
use Rattle.definition.specs.Escapes.{held_names}
use Rattle.definition.specs.Body.{Piece}
use Rattle.definition_cuts.specs.Cuts.{rise, pieces, all_short, Passes}
use Rattle.definition_cuts_laws.specs.IsPlan.{IsPlan, Promised}
use Rattle.definition_cuts.specs.Tokens.{token_end, with_first, boundaries}
use Rattle.definition_cuts.specs.Plan.{plan_from, plan}
use Rattle.definition.proofs.Moves.CharLaws.{cases}
use Rattle.definition_laws.proofs.Moves.Cases.{and_both}
use Rattle.definition_cuts_laws.proofs.Tokens.TokenPaths.{Tokens}
use Rattle.definition_cuts_laws.proofs.Tokens.PieceLaws.{piece_length}
use Rattle.definition_cuts_laws.proofs.Cuts.ShapeLaws.{heads, tails}
use Rattle.definition_cuts_laws.proofs.Cuts.AloneLaws.{Fit}
use Rattle.definition_cuts_laws.proofs.Cuts.CutsLaw.{Chain, passes_stands, stands_passes}
use Rattle.definition_cuts_laws.proofs.Tokens.TokenMarks.{token_on, first_token, tokens_later, tokens_between, Marks, final, mark, tokens_marks, boundaries_marks, marks_boundaries}

-- PASSING LISTS by their tokens: from a place on
abbrev pub Good : List ℕ → (limit from : ℕ) → List ℕ → Type 0
Good s limit from [] = (length s ≤ from + limit) × ((ps : List Piece) × Tokens held_names s from (length s) ps)
Good s limit from (c ∷ cs) = (from < c) × (c < length s) × (c ≤ from + limit) × ((ps : List Piece) × Tokens held_names s from c ps) × Good s limit c cs

good_chain : (s : List ℕ) (limit from : ℕ) (cs : List ℕ) → from ≤ length s → Good s limit from cs → (rise (length s) from cs ≡ true) × (all_short limit (pieces s from cs) ≡ true) × Chain s from cs
unfolding rise all_short pieces
good_chain s limit from [] l (h, T) = (refl, rw (le-leb (length (drop from s)) limit (omega (arith, length-drop from s))) refl, T)
good_chain s limit from (c ∷ cs) l (a, b, h, T, G) =
    let R = good_chain s limit c cs (omega arith) G in
    (rw (lt-ltb from c a, lt-ltb c (length s) b) R.0, rw (le-leb (length (part s from c)) limit (omega (arith, piece_length s from c (omega arith) (omega arith)))) R.1, (T, R.2))

chain_good : (s : List ℕ) (limit from : ℕ) (cs : List ℕ) → from ≤ length s → rise (length s) from cs ≡ true → all_short limit (pieces s from cs) ≡ true → Chain s from cs → Good s limit from cs
unfolding rise all_short pieces
chain_good s limit from [] l r k T =
    let x = leb-true (length (drop from s)) limit (and_both (leb (length (drop from s)) limit) true k).0 in
    (omega (arith, length-drop from s), T)
chain_good s limit from (c ∷ cs) l r k (T, C) =
    let a = and_both (ltb from c && ltb c (length s)) (rise (length s) c cs) r in
    let b = and_both (ltb from c) (ltb c (length s)) a.0 in
    let x = ltb-true from c b.0 in
    let y = ltb-true c (length s) b.1 in
    let d = and_both (leb (length (part s from c)) limit) (all_short limit (pieces s c cs)) k in
    let z = leb-true (length (part s from c)) limit d.0 in
    (x, y, omega (arith, piece_length s from c (omega arith) (omega arith)), T, chain_good s limit c cs (omega arith) a.1 d.1 C)

-- passing is being fit and good
pub passes_good : (s : List ℕ) (limit : ℕ) (cs : List ℕ) → Passes s limit cs → Fit s × Good s limit 0 cs
passes_good s limit cs p = let S = passes_stands s limit cs p in (S.fit, chain_good s limit 0 cs (omega arith) S.rises S.short S.chain)

pub good_passes : (s : List ℕ) (limit : ℕ) (cs : List ℕ) → Fit s → Good s limit 0 cs → Passes s limit cs
good_passes s limit cs f G =
    let C = good_chain s limit 0 cs (omega arith) G in
    stands_passes s limit cs (record { rises = C.0; short = C.1; fit = f; chain = C.2 })

-- A PLAN from a place on
record PlannedFrom (s : List ℕ) (limit from : ℕ) (cuts : List ℕ) : Type 0 where
  good : Good s limit from cuts
  needed : (before : List ℕ) (c : ℕ) (after : List ℕ) → cuts ≡ before ++ c ∷ after → Good s limit from before → ⊥
  latest : (before : List ℕ) (c : ℕ) (after : List ℕ) (d : ℕ) (others : List ℕ) → cuts ≡ before ++ c ∷ after → Good s limit from (before ++ d ∷ others) → d ≤ c

pub tokens_append : (s : List ℕ) (i j k : ℕ) (ps qs : List Piece) → Tokens held_names s i j ps → Tokens held_names s j k qs → Tokens held_names s i k (ps ++ qs)
tokens_append s i j k ps qs Tokens.none R = R
tokens_append s i j k ps qs (Tokens.one {j = n} {ps = as'} {qs = bs} y a e T) R =
    subst (λ (l : List Piece). Tokens held_names s i k l) (sym (append_assoc as' bs qs)) (Tokens.one y a e (tokens_append s n j k bs qs T R))
tokens_append s i j k ps qs (Tokens.two {k = n} {ps = as'} {rs = cs} {qs = bs} y a b e f T) R =
    subst (λ (l : List Piece). Tokens held_names s i k l) (sym (append_assoc as' (cs ++ bs) qs ∙ ap (λ l. as' ++ l) (append_assoc cs bs qs))) (Tokens.two y a b e f (tokens_append s n j k bs qs T R))

module _ (s : List ℕ) (limit : ℕ) where
  -- between two boundaries next to each other there is none
  pub next_mark : (start last m d : ℕ) (ps qs : List Piece) → start ≤ length s → Tokens held_names s start last ps → token_end s last ≡ some m → Tokens held_names s start d qs → last < d → m ≤ d
  next_mark start last m d ps qs l T e R h =
      let B = tokens_between s start last d ps qs T R l (omega arith) in
      let F = first_token s last d B.0 B.1 h in
      let f = sym F.2 ∙ e in
      let z : F.0 ≡ m = cc in
      let q = token_on s last F.0 F.4 F.2 in
      let g = tokens_later s F.0 d F.1 F.3 q.3 in
      omega (arith, g.0)

  -- from an earlier boundary on a list is good: so from a later one on
  advance : (d last : ℕ) (ds : List ℕ) (ps : List Piece) → d ≤ length s → Tokens held_names s d last ps → last ≤ length s → Good s limit d ds → (cs : List ℕ) × Good s limit last cs
  advance d last [] ps l T k (h, (qs, R)) =
      let a = tokens_later s d last ps T l in
      ([], (omega (arith, a.0), tokens_between s d last (length s) ps qs T R l k))
  advance d last (c ∷ ds) ps l T k (x, y, h, (qs, R), G) =
      let a = tokens_later s d last ps T l in
      cases (ltb last c)
      (λ t. let lc = ltb-true last c t in (c ∷ ds, (lc, y, omega (arith, a.0), tokens_between s d last c ps qs T R l (omega arith), G)))
      (λ t. let B = tokens_between s d c last qs ps R T l (ltb-false last c t) in advance c last ds B.0 (omega arith) B.1 k G)

  -- a token that is too long stops every list
  blocked : (d last m : ℕ) (ds : List ℕ) (ps : List Piece) → d ≤ length s → Tokens held_names s d last ps → token_end s last ≡ some m → m ≤ length s → last + limit < m → Good s limit d ds → ⊥
  blocked d last m [] ps l T e k g (h, R) = let a = tokens_later s d last ps T l in omega (arith, a.0)
  blocked d last m (c ∷ ds) ps l T e k g (x, y, h, (qs, R), G) =
      let a = tokens_later s d last ps T l in
      cases (ltb last c)
      (λ t. let n = next_mark d last m c ps qs l T e R (ltb-true last c t) in omega (arith, a.0))
      (λ t. let B = tokens_between s d c last qs ps R T l (ltb-false last c t) in blocked c last m ds B.0 (omega arith) B.1 e k g G)

  -- what the plan from `start` on must be
  abbrev Right : ℕ → Option (List ℕ) → Type 0
  Right start none = (cs : List ℕ) → Good s limit start cs → ⊥
  Right start (some cs) = PlannedFrom s limit start cs

  -- a cut in front
  with_cut : (start last m : ℕ) (ps : List Piece) (o : Option (List ℕ)) → start ≤ length s → Tokens held_names s start last ps → last ≤ start + limit → last < length s
      → token_end s last ≡ some m → start + limit < m → m ≤ last + limit → m ≤ length s → Right last o → Right start (with_first last o)
  unfolding with_first
  with_cut start last m ps none l T a b e f g k r = λ cs G. no cs G
    where
      no : (cs : List ℕ) → Good s limit start cs → ⊥
      no cs G = let A = advance start last cs ps l T (omega arith) G in r A.0 A.1
  with_cut start last m ps (some cs) l T a b e f g k r = record { good = (omega arith, b, a, (ps, T), r.good); needed = need; latest = late }
    where
      need : (before : List ℕ) (c : ℕ) (after : List ℕ) → last ∷ cs ≡ before ++ c ∷ after → Good s limit start before → ⊥
      need [] c after q G = omega (arith, G.0)
      need (x ∷ before) c after q G =
          let z = heads last x cs (before ++ c ∷ after) q in
          r.needed before c after (tails last x cs (before ++ c ∷ after) q) (subst (λ (y : ℕ). Good s limit y before) (sym z) G.4)

      late : (before : List ℕ) (c : ℕ) (after : List ℕ) (d : ℕ) (others : List ℕ) → last ∷ cs ≡ before ++ c ∷ after → Good s limit start (before ++ d ∷ others) → d ≤ c
      late [] c after d others q G =
          let z = heads last c cs after q in
          cases (ltb last d)
          (λ t. let n = next_mark start last m d ps G.3.0 l T e G.3.1 (ltb-true last d t) in absurd (omega (arith, G.2)))
          (λ t. omega (arith, ltb-false last d t))
      late (x ∷ before) c after d others q G =
          let z = heads last x cs (before ++ c ∷ after) q in
          r.latest before c after d others (tails last x cs (before ++ c ∷ after) q) (subst (λ (y : ℕ). Good s limit y (before ++ d ∷ others)) (sym z) G.4)

  plan_right : (start last : ℕ) (ms : List ℕ) (ps : List Piece) → start ≤ length s → last ≤ length s → Tokens held_names s start last ps → last ≤ start + limit → Marks s last ms → Right start (plan_from limit start last ms)
  unfolding plan_from
  plan_right start last [] ps l k T a (final h) =
      let z : last ≡ length s = omega arith in
      record {
        good = (omega arith, (ps, subst (λ (k : ℕ). Tokens held_names s start k ps) z T));
        needed = λ before c after q G. none_in before c after q;
        latest = λ before c after d others q G. absurd (none_in before c after q);
      }
    where
      none_in : (before : List ℕ) (c : ℕ) (after : List ℕ) → [] ≡ before ++ c ∷ after → ⊥
      none_in [] c after q = let z : ◌≡◌ {A = ℕ} 0 1 = cc in omega arith
      none_in (x ∷ before) c after q = let z : ◌≡◌ {A = ℕ} 0 1 = cc in omega arith
  plan_right start last (m ∷ ms) ps l k T a (mark h e M) =
      let O = token_on s last m h e in
      let T1 = O.1 m [] Tokens.none in
      let T2 = tokens_append s start last m ps (O.0 ++ []) T T1 in
      go (leb m (start + limit)) refl (leb m (last + limit)) refl O.3 (λ x. plan_right start m ms (ps ++ (O.0 ++ [])) l O.3 T2 x M) (λ x. plan_right last m ms (O.0 ++ []) k O.3 T1 x M)
    where
      go : (x : Bool) → leb m (start + limit) ≡ x → (y : Bool) → leb m (last + limit) ≡ y → m ≤ length s
          → (m ≤ start + limit → Right start (plan_from limit start m ms)) → (m ≤ last + limit → Right last (plan_from limit last m ms)) → Right start (plan_from limit start last (m ∷ ms))
      go true x y q w f g = rw (x, plan_from) (f (leb-true m (start + limit) x))
      go false x true q w f g = rw (x, q, plan_from) (with_cut start last m ps (plan_from limit last m ms) l T a h e (leb-false m (start + limit) x) (leb-true m (last + limit) q) w (g (leb-true m (last + limit) q)))
      go false x false q w f g = rw (x, q, plan_from) (λ cs G. blocked start last m cs ps l T e w (leb-false m (last + limit) q) G)

-- tokens on to the end
good_tokens : (s : List ℕ) (limit from : ℕ) (cs : List ℕ) → from ≤ length s → Good s limit from cs → (ps : List Piece) × Tokens held_names s from (length s) ps
good_tokens s limit from [] l (h, T) = T
good_tokens s limit from (c ∷ cs) l (a, b, h, (ps, T), G) =
    let R = good_tokens s limit c cs (omega arith) G in
    (ps ++ R.0, tokens_append s from c (length s) ps R.0 T R.1)

pub first_mark : (limit : ℕ) (js : List ℕ) → plan_from limit 0 0 (0 ∷ js) ≡ plan_from limit 0 0 js
unfolding plan_from
first_mark limit js = rw (le-leb 0 (0 + limit) (omega arith), plan_from) refl

-- THE PLAN HAS THE PROMISE
pub plan_promised : (s : List ℕ) (limit : ℕ) → Promised s limit (plan s limit)
unfolding plan Promised
plan_promised s limit = go (boundaries s) refl
  where
    promised : (o : Option (List ℕ)) → Fit s → Right s limit 0 o → Promised s limit o
    promised none f r = λ cs p. r cs (passes_good s limit cs p).1
    promised (some cs) f r = record {
      passes = good_passes s limit cs f r.good;
      needed = λ before c after q p. absurd (r.needed before c after q (passes_good s limit before p).1);
      latest = λ before c after d others q p. omega (arith, r.latest before c after d others q (passes_good s limit (before ++ d ∷ others) p).1);
    }

    none_passes : boundaries s ≡ none → (cs : List ℕ) → Fit s × Good s limit 0 cs → ⊥
    none_passes e cs (f, G) =
        let T = good_tokens s limit 0 cs (omega arith) G in
        let M = tokens_marks s 0 T.0 T.1 (omega arith) in
        let q : ◌≡◌ {A = Option (List ℕ)} none (some (0 ∷ M.0)) = sym e ∙ marks_boundaries s f M.0 M.1 in
        let z : ◌≡◌ {A = ℕ} 0 1 = cc in
        omega arith

    go : (o : Option (List ℕ)) → boundaries s ≡ o → Promised s limit (plan s limit)
    go none e = rw (e, plan) (λ cs p. none_passes e cs (passes_good s limit cs p))
    go (some ms) e =
        let B = boundaries_marks s ms e in
        let r = promised (plan_from limit 0 0 B.1.0) B.0 (plan_right s limit 0 0 B.1.0 [] (omega arith) (omega arith) Tokens.none (omega arith) B.1.2) in
        rw (e, plan) (subst (λ (o : Option (List ℕ)). Promised s limit o) (sym (ap (plan_from limit 0 0) B.1.1 ∙ first_mark limit B.1.0)) r)

-- AND NOTHING ELSE HAS IT
same_rest : (s : List ℕ) (limit : ℕ) (cs ds : List ℕ) → IsPlan s limit cs → IsPlan s limit ds → (before a b : List ℕ) → cs ≡ before ++ a → ds ≡ before ++ b → a ≡ b
same_rest s limit cs ds P Q before [] [] e f = refl
same_rest s limit cs ds P Q before [] (d ∷ b) e f = absurd (Q.needed before d b f (subst (Passes s limit) (e ∙ append-nil before) P.passes))
same_rest s limit cs ds P Q before (c ∷ a) [] e f = absurd (P.needed before c a e (subst (Passes s limit) (f ∙ append-nil before) Q.passes))
same_rest s limit cs ds P Q before (c ∷ a) (d ∷ b) e f =
    let x = P.latest before c a d b e (subst (Passes s limit) f Q.passes) in
    let y = Q.latest before d b c a f (subst (Passes s limit) e P.passes) in
    let z : c ≡ d = omega arith in
    let r = same_rest s limit cs ds P Q (before ++ c ∷ []) a b (e ∙ sym (append_assoc before (c ∷ []) a)) (f ∙ ap (λ n. before ++ n ∷ b) (sym z) ∙ sym (append_assoc before (c ∷ []) b)) in
    ap₂ (λ (n : ℕ) (l : List ℕ). n ∷ l) z r

pub one_plan : (s : List ℕ) (limit : ℕ) (o o' : Option (List ℕ)) → Promised s limit o → Promised s limit o' → o ≡ o'
unfolding Promised
one_plan s limit none none p q = refl
one_plan s limit none (some ds) p q = absurd (p ds q.passes)
one_plan s limit (some cs) none p q = absurd (q cs p.passes)
one_plan s limit (some cs) (some ds) p q = ap some (same_rest s limit cs ds p q [] cs ds refl refl)
