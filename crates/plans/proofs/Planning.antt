-- Cuts planned and written, token by token. Assumes nothing.
use Rattle.std.specs.Prelude.{Some, None}
use mathlib.Core.Path.{◌≡◌, refl, sym, ap, ◌∙◌}
use mathlib.Core.List.{List, [], ◌∷◌, ◌++◌, append_assoc, append-nil}
use mathlib.Core.Option.{Option, none, some}
use Prim.Native.Nat.{ℕ, ◌+◌, ◌≤◌, ◌<◌, zero-le}
use native.Mathlib.Nat.{zero-add}
use native.Mathlib.Omega.{arith}
use lib.ListN.{length, length-append}
use Rattle.definition.specs.Chars.{well_formed}
use Rattle.definition_cuts.specs.Tokens.{token_end, with_first}
use Rattle.plans.specs.OnePass.{plan_at}
use Rattle.plans.proofs.OnePassSteps.{plan_end, plan_refused, plan_on, plan_cut, plan_none}
use Rattle.buffers.specs.Over.{over}
use Rattle.buffers.proofs.Over.{over_nil, over_append, length_over}
use Rattle.definition_cuts_laws.proofs.Tokens.FormedPaths.{Formed, formed_front, formed_head, formed_at, all_formed}
use Rattle.definition_cuts_laws.proofs.Tokens.TokenMarks.{token_formed}
use Rattle.plain.specs.Plain.{plain_end}
use Rattle.tokens.proofs.PlainTokens.{Run, no_run, run_found, run_later}
use Rattle.plans.proofs.PlainRuns.{start_path, plan_run, plan_run_cut, plan_run_none}
use Rattle.plans.specs.Answers.{PlanIs, StartIs}

-- a plan with cuts in front
abbrev onto : List ℕ → Option (List ℕ) → Option (List ℕ)
onto cs none = none
onto cs (some ds) = some (cs ++ ds)

onto_none : (o : Option (List ℕ)) → o ≡ onto [] o
onto_none none = refl
onto_none (some ds) = refl

onto_first : (cs : List ℕ) (i : ℕ) (o : Option (List ℕ)) → onto cs (with_first i o) ≡ onto (cs ++ (i ∷ [])) o
unfolding with_first
onto_first cs i none = refl
onto_first cs i (some ds) = ap some (sym (append_assoc cs (i ∷ []) ds))

-- n cuts written, tokens read up to i, a piece begun at `start`; what stands from i up to `plain` is plain
pub record Planning (s : List ℕ) (limit : ℕ) (list₀ list : List ℕ) (start i n plain : ℕ) : Type 0 where
  pub cuts : List ℕ
  pub is : plan_at s limit 0 0 ≡ onto cuts (plan_at s limit start i)
  pub count : n ≡ length cuts
  pub wrote : list ≡ over list₀ 0 cuts
  pub inside : i ≤ length s
  pub begun : start ≤ i
  pub reach : i ≤ start + limit
  pub few : n ≤ start
  pub formed : Formed s i (length s)
  pub run : Run s i plain

pub planning : (s : List ℕ) (limit : ℕ) (list : List ℕ) → length s ≤ well_formed s → Planning s limit list list 0 0 0 0
planning s limit list f = record {
  cuts = [];
  is = onto_none _;
  count = refl;
  wrote = sym (over_nil list 0);
  inside = zero-le;
  begun = zero-le;
  reach = zero-le;
  few = zero-le;
  formed = all_formed s f;
  run = no_run s 0 zero-le (formed_head s 0 (length s) (all_formed s f) refl);
}

module _ (s : List ℕ) (limit : ℕ) (list₀ list : List ℕ) (start i n plain : ℕ) (g : Planning s limit list₀ list start i n plain) where
  pub same_list : length list ≡ length list₀
  same_list = ap length g.wrote ∙ length_over list₀ 0 g.cuts

  nothing : plan_at s limit start i ≡ none → PlanIs (plan_at s limit 0 0) list₀ list None
  nothing e = (g.is ∙ ap (onto g.cuts) e, same_list)

  -- on to j in the same piece
  onward : (j : ℕ) → plan_at s limit start i ≡ plan_at s limit start j → i ≤ j → j ≤ length s → j ≤ start + limit → Formed s j (length s) → Planning s limit list₀ list start j n plain
  onward j e l k r f = record {
    cuts = g.cuts;
    is = g.is ∙ ap (onto g.cuts) e;
    count = g.count;
    wrote = g.wrote;
    inside = k;
    begun = let b = g.begun in omega arith;
    reach = r;
    few = g.few;
    formed = f;
    run = run_later s i j plain l g.run;
  }

  -- a cut at c, and on to j
  cut_at : (c j : ℕ) → plan_at s limit start i ≡ with_first c (plan_at s limit c j) → start < c → i ≤ j → c ≤ j → j ≤ length s → j ≤ c + limit → Formed s j (length s)
      → (list' : List ℕ) → list' ≡ over list n (c ∷ []) → Planning s limit list₀ list' c j (n + 1) plain
  cut_at c j e a l b k r f list' w = record {
    cuts = g.cuts ++ (c ∷ []);
    is = g.is ∙ ap (onto g.cuts) e ∙ onto_first g.cuts c (plan_at s limit c j);
    count = let x = g.count in let z = length-append g.cuts (c ∷ []) in omega arith;
    wrote = w ∙ ap (λ l. over l n (c ∷ [])) g.wrote ∙ ap (λ m. over (over list₀ 0 g.cuts) m (c ∷ [])) (g.count ∙ sym (zero-add (length g.cuts))) ∙ over_append list₀ 0 g.cuts (c ∷ []);
    inside = k;
    begun = b;
    reach = r;
    few = let x = g.few in omega arith;
    formed = f;
    run = run_later s i j plain l g.run;
  }

  pub done : length s ≤ i → PlanIs (plan_at s limit 0 0) list₀ list (Some n)
  done h = (g.cuts, g.is ∙ ap (onto g.cuts) (plan_end s limit start i h) ∙ ap some (append-nil g.cuts), g.count, g.wrote)

  -- A RUN is found; it fits into the piece; it is cut; or a character of it is longer than the limit
  pub found : (e : ℕ) → e ≡ plain_end 1 s i → Planning s limit list₀ list start i n e
  found e q = record { cuts = g.cuts; is = g.is; count = g.count; wrote = g.wrote; inside = g.inside; begun = g.begun; reach = g.reach; few = g.few; formed = g.formed; run = run_found s i e g.inside q }

  module _ (h : i < plain) where
    pub run_on : plain ≤ start + limit → Planning s limit list₀ list start plain n plain
    run_on l =
        let p = formed_at s i (length s) plain g.formed refl (omega arith) g.run.within g.run.ends in
        onward plain (plan_run s limit start i plain p g.run.bytes g.run.within l) (omega arith) g.run.within l (formed_front s i plain (length s) p g.formed refl)

    module _ (c : ℕ) (f : StartIs s i (start + limit) c) (l : start + limit < plain) where
      pub run_cut : start < c → (list' : List ℕ) → list' ≡ over list n (c ∷ []) → Planning s limit list₀ list' c c (n + 1) plain
      run_cut z list' w =
          let k = g.run.within in
          let y = f.within in
          let p = start_path s i (start + limit) c g.formed f (omega arith) in
          cut_at c c (plan_run_cut s limit start i plain g.run g.formed c f l) z f.on (omega arith) (omega arith) (omega arith) (formed_front s i c (length s) p g.formed refl) list' w

      pub run_none : c ≤ start → PlanIs (plan_at s limit 0 0) list₀ list None
      run_none z = nothing (plan_run_none s limit start i plain g.run g.formed c f l z)

  module _ (h : i < length s) where
    pub refused : token_end s i ≡ none → PlanIs (plan_at s limit 0 0) list₀ list None
    refused e = nothing (plan_refused s limit start i h e)

    module _ (j : ℕ) (e : token_end s i ≡ some j) (l : i < j) (k : j ≤ length s) where
      pub on : j ≤ start + limit → Planning s limit list₀ list start j n plain
      on f = onward j (plan_on s limit start i h j e f) (omega arith) k f (token_formed s i j h e g.formed)

      pub too_long_lem : start + limit < j → i + limit < j → PlanIs (plan_at s limit 0 0) list₀ list None
      too_long_lem a b = nothing (plan_none s limit start i h j e a b)

      pub cut : start + limit < j → j ≤ i + limit → (list' : List ℕ) → list' ≡ over list n (i ∷ []) → Planning s limit list₀ list' i j (n + 1) plain
      cut a b list' w = cut_at i j (plan_cut s limit start i h j e a b) (omega arith) (omega arith) (omega arith) k b (token_formed s i j h e g.formed) list' w
