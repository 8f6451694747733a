-- The turns of a field's head, one after the other: what the definition gives from here is what it gives from the start.
-- Assumes nothing.
use Rattle.std.specs.Prelude.{if◌then◌else◌}
use mathlib.Core.Path.{◌≡◌, refl, sym, subst, ap, ◌∙◌}
use mathlib.Core.Bool.{Bool, true, false, ◌&&◌, false≢true}
use mathlib.Core.List.{List, [], ◌++◌, append-nil}
use Prim.Native.Nat.{ℕ, zero, suc, pred, ◌+◌, ◌-◌, ◌*◌, ◌^◌, ◌≤◌, ◌<◌}
use native.Mathlib.Omega.{arith}
use borrow.Author.Tests.{leb-true, leb-false, lt-leb, ne_eqb, eq-eqb, ltb-true, ltb-false}
use lib.Dec.{eqb, leb, ltb}
use lib.ListN.{length, length-append}
use Rattle.definition.specs.Numbers.{empty_expression}
use Rattle.definition.specs.Chars.{byte, ◌to◌, inside, next, white_space}
use Rattle.definition.specs.Escapes.{Naming, fault, refused}
use mathlib.Core.Option.{none}
use Rattle.definition.specs.Body.{Move, goes, stops, calls, ends, Field, state, fresh, is_blank, plain, field_case, field_move, finished, field_n, enough}
use Rattle.definition.proofs.Moves.CharLaws.{cases, inside_true, inside_none, code_ascii, next_ascii}
use Rattle.definition_laws.proofs.Moves.Moves.{field_size, FieldAhead, field_ahead}
use Rattle.definition_laws.proofs.Moves.Whole.{field_on, field_stop, field_end_lem}
use Rattle.buffers.specs.Over.{over}
use Rattle.buffers.proofs.Over.{over_nil, over_append}
use Rattle.marks.specs.declared.Refusal.{Refusal}
use Rattle.brackets.specs.Brackets.{brackets}
use Rattle.heads.specs.declared.State.{State}
use Rattle.records.specs.declared.Head.{Head}
use Rattle.heads.specs.declared.Opened.TheVariants as opened
use Rattle.heads.proofs.FieldLaws.{part_none, and_false, and_true, keeps, plain_goes, past_end}
use Rattle.marks.specs.Marks.{passing, refusal, fault_of}
use Rattle.heads.specs.FieldTurns.{is_marked, Passed, pending, Room, Fits, kept_to, skipped_to, head_at, state_of, head_state, Went, Stopped, closed_as, Leads, here, more, HeadIs, EndedIs, RefusedIs, OpenedBy}

-- a blank expression is refused at its `}`
abbrev blank_of : Field → Bool
blank_of (state e b o c d w g) = b

blank_refused : (depth from j : ℕ) (f : Field) → blank_of f ≡ true → finished depth from j f none ≡ refused (fault empty_expression j)
unfolding finished
blank_refused depth from j (state e b o c d w g) h = rw h

-- a move that is no refusal
abbrev Moves : Move Field → Type 0
Moves (stops x) = ⊥
Moves (goes i f) = Unit {0}
Moves calls = Unit {0}
Moves ends = Unit {0}

ahead_of : (s : List ℕ) (i : ℕ) (f : Field) (move : Move Field) → field_move s i f ≡ move → Moves move → FieldAhead s i f move
ahead_of s i f move e m =
    cases (leb (length s) i) (λ t. absurd (subst Moves (sym e ∙ past_end s i f (leb-true _ _ t)) m))
    (λ t. let l : i < length s = leb-false _ _ t in rw e at (field_ahead s i f (omega arith)))

-- where the moves lead, the definition reads on as from the begin
pub read_on : {s : List ℕ} {from i : ℕ} {f : Field} → Leads s from i f → (look : Naming) (kind depth : ℕ) → field_n look (enough s) kind s depth from from fresh ≡ field_n look (enough s) kind s depth from i f
read_on here look kind depth = refl
read_on {s} {from} (more {i} {f} {j} {g} l e) look kind depth = read_on l look kind depth ∙ field_on look kind s depth from i f j g (ahead_of s i f (goes j g) e tt).1 e

-- the head that began at `from` has come to the state f
pub record Sofar (s : List ℕ) (from used : ℕ) (lent : List ℕ) (f : State) (places text : List ℕ) : Type 0 where
  pub written : List ℕ
  pub leads : Leads s from f.at (state_of (written ++ pending s f) f places)
  pub later : from ≤ f.at
  pub run : f.run ≤ f.at
  pub within : f.at ≤ from + length s
  pub wrote : text ≡ over lent used written
  pub grown : f.used ≡ used + length written
  pub small : field_size (state_of (written ++ pending s f) f places) + 4 * from ≤ 4 * f.at
  pub deep : f.depth ≤ 64
  pub equals_in : f.equals ≤ f.at
  pub bang_in : f.bang ≤ f.at
  pub full : length places ≡ 64

-- the state after the `{`
abbrev pub first : ℕ → ℕ → State
first at used =
    record { at = at; run = at; used = used; depth = 0; spaces = 0; equals = 0; bang = 0; conversion = 0; blank = true }

pub start : (s : List ℕ) (from used : ℕ) (lent places : List ℕ) → length places ≡ 64 → Sofar s from used lent (first from used) places lent
unfolding fresh brackets
start s from used lent places k =
    record {
      written = [];
      leads = rw part_none Leads.here;
      later = omega arith;
      run = omega arith;
      within = omega arith;
      wrote = sym (over_nil lent used);
      grown = omega arith;
      small = rw part_none (omega arith);
      deep = omega arith;
      equals_in = omega arith;
      bang_in = omega arith;
      full = k;
    }

module _ {s : List ℕ} {from used : ℕ} {lent : List ℕ} {f : State} {places text : List ℕ} (h : Sofar s from used lent f places text) where
  -- the expression, and the definition's state here
  abbrev expression : List ℕ
  expression = h.written ++ pending s f

  abbrev now : Field
  now = state_of expression f places

  pub room : length s ≤ 1048576 → used ≤ 2 ^ 32 → Room s f
  room l u =
      record {
        run = h.run;
        text = omega (arith, h.grown, h.small, h.within, length-append h.written (pending s f));
        spaces = omega (arith, h.small, h.within);
        deep = h.deep;
        equals_in = h.equals_in;
        bang_in = h.bang_in;
        small = l;
      }

  moved : (move : Move Field) → field_move s f.at now ≡ move → Moves move → FieldAhead s f.at now move
  moved = ahead_of s f.at now

  module _ {g : State} {places' text' : List ℕ} (w : Went field_move s f g places places' text text') where
    after : Field
    after = state_of ((h.written ++ w.added) ++ pending s g) g places'

    further : FieldAhead s f.at now (goes g.at after)
    unfolding after
    further = moved _ (w.moves h.written) tt

    pub on : Sofar s from used lent g places' text'
    unfolding after
    on =
        record {
          written = h.written ++ w.added;
          leads = more h.leads (w.moves h.written);
          later = omega (arith, h.later, further.0);
          run = w.run;
          within = omega (arith, further.1);
          wrote = w.wrote ∙ rw (h.wrote, h.grown) (over_append lent used h.written w.added);
          grown = omega (arith, w.grown, h.grown, length-append h.written w.added);
          small = omega (arith, further.2, h.small);
          deep = w.deep;
          equals_in = w.equals_in;
          bang_in = w.bang_in;
          full = w.full ∙ h.full;
        }

    pub less : (f.at < g.at) × (g.at ≤ length s)
    less = (further.0, further.1)

  pub refuses : (x : Refusal) (text' : List ℕ) → (text' ≡ text) × ((e : List ℕ) → field_move s f.at (state_of e f places) ≡ stops (fault_of x)) → RefusedIs s from used x lent text'
  refuses x text' m =
      record {
        reads = λ look kind depth. read_on h.leads look kind depth ∙ field_stop look kind s depth from f.at now (fault_of x) (m.1 expression);
        place = f.at;
        reached = now;
        leads = h.leads;
        front = h.written;
        rest = pending s f;
        expression = refl;
        wrote = m.0 ∙ h.wrote;
      }

  module _ {move : Move Field} {b : Head} {text' : List ℕ} (t : Stopped field_move move s f b places text text') (there : f.at < length s) where
    -- outside brackets there are none
    out : now ≡ head_state expression (head_at (skipped_to s f (next s f.at)) (record { at = next s f.at }))
    unfolding brackets
    out = rw t.out

    pub head : HeadIs move s from used b lent text'
    head =
        subst (λ (x : Head). HeadIs move s from used x lent text') (sym t.head)
        record {
          expression = expression;
          place = f.at;
          leads = rw out at h.leads;
          moves = rw out at (t.moves expression);
          there = there;
          later = h.later;
          after = refl;
          wrote = t.wrote ∙ rw (h.wrote, h.grown) (over_append lent used h.written (pending s f));
          grown = omega (arith, h.grown, length-append h.written (pending s f));
          small = h.small;
          equals_in = h.equals_in;
          bang_in = h.bang_in;
        }

  pub formats : {b : Head} {text' : List ℕ} → Stopped field_move calls s f b places text text' → EndedIs s from used b 1 lent text'
  formats t = record { head = head t (moved calls (t.moves expression) tt); few = omega arith; full = λ e. absurd (omega arith) }

  module _ {b : Head} {text' : List ℕ} (t : Stopped field_move ends s f b places text text') where
    last : HeadIs ends s from used b lent text'
    last = head t (moved ends (t.moves expression) tt)

    by_blank : (blank : Bool) → b.blank ≡ blank → OpenedBy s from used (if blank then opened.Refused (refusal (fault empty_expression b.at.at)) else opened.Ended b 0) lent text'
    by_blank false e = record { head = last; few = omega arith; full = λ z. e }
    by_blank true e =
        record {
          reads = λ look kind depth. read_on last.leads look kind depth ∙ field_end_lem look kind s depth from last.place (head_state last.expression b) last.moves ∙ blank_refused depth from (next s last.place) (head_state last.expression b) e ∙ ap (λ (n : ℕ). refused (fault empty_expression n)) (sym last.after);
          place = last.place;
          reached = head_state last.expression b;
          leads = last.leads;
          front = last.expression;
          rest = [];
          expression = sym (append-nil last.expression);
          wrote = last.wrote;
        }

    pub closes : OpenedBy s from used (closed_as b) lent text'
    closes = by_blank b.blank refl

-- BYTES WITH NO RULE OF THEIR OWN
-- a byte that passes is none of the others
not_passing : (b k : ℕ) → passing k ≡ false → passing b ≡ true → eqb b k ≡ false
not_passing b k n p = ne_eqb b k (λ e. false≢true (sym n ∙ subst (λ (x : ℕ). passing x ≡ true) e p))

-- it is between * and z
passing_within : (b : ℕ) → passing b ≡ true → (42 ≤ b) × (b ≤ 122)
passing_within b p =
    cases (inside (42 to 57) b) (λ t. let h = inside_true 42 57 b t in omega arith)
    (λ t.
    cases (inside (63 to 90) b) (λ u. let h = inside_true 63 90 b u in omega arith)
    (λ u. let h = inside_true 94 122 b (rw (t, u) at p) in omega arith))

passing_ascii : (b : ℕ) → passing b ≡ true → b < 0x80
passing_ascii b p = omega (arith, (passing_within b p).1)

module _ (s : List ℕ) (i : ℕ) (h : i < length s) (p : passing (byte s i) ≡ true) where
  passing_case : (out : Bool) → plain ≡ field_case s i out false
  unfolding field_case
  passing_case out =
      let b = byte s i in
      rw (lt-leb _ _ h, code_ascii s i (passing_ascii b p), not_passing b 33 refl p, not_passing b 61 refl p, not_passing b 62 refl p, not_passing b 60 refl p, not_passing b 58 refl p, not_passing b 40 refl p, not_passing b 91 refl p, not_passing b 123 refl p, not_passing b 125 refl p, not_passing b 41 refl p, not_passing b 93 refl p, not_passing b 34 refl p, not_passing b 39 refl p, not_passing b 32 refl p, not_passing b 92 refl p, field_case)

  not_blank : is_blank (byte s i) ≡ false
  unfolding white_space
  not_blank = let w = passing_within (byte s i) p in inside_none white_space (byte s i) (omega arith)

module _ (s : List ℕ) (from used : ℕ) (lent places text : List ℕ) (l : length s ≤ 1048576) (u : used ≤ 2 ^ 32) where
  abbrev So : State → Type 0
  So f = Sofar s from used lent f places text

  -- over one of them
  past_one : (f : State) → So f → f.at < length s → is_marked f.equals ≡ false → passing (byte s f.at) ≡ true → So (kept_to f (f.at + 1) f.depth false)
  past_one f h i d p =
      let b = byte s f.at in
      let a = passing_ascii b p in
      let fits : Fits s f b (record { at = f.at + 1 }) = record { room = room h l u; here = record { there = i; code_is = code_ascii s f.at a; next_is = next_ascii s f.at a } } in
      on h (keeps (room h l u) places (f.at + 1) f.depth false (omega arith) h.deep refl refl
      (λ e. plain_goes fits places e (rw d (passing_case s f.at i p (eqb f.depth 0))) (rw (not_blank s f.at i p) (sym (and_false f.blank)))))

  -- over several
  past_many : (n : ℕ) (f : State) → So f → is_marked f.equals ≡ false → f.at + suc n ≤ length s → ((k : ℕ) → f.at ≤ k → k < f.at + suc n → passing (byte s k) ≡ true) → So (kept_to f (f.at + suc n) f.depth false)
  past_many zero f h d i p = past_one f h (omega arith) d (p f.at (omega arith) (omega arith))
  past_many (suc n) f h d i p =
      let e : f.at + 1 + suc n ≡ f.at + suc (suc n) = omega arith in
      subst (λ (x : ℕ). So (kept_to f x f.depth false)) e
      (past_many n (kept_to f (f.at + 1) f.depth false) (past_one f h (omega arith) d (p f.at (omega arith) (omega arith))) d (omega arith) (λ k a b. p k (omega arith) (omega arith)))

  -- and so over a run of them
  pub past : (f r : State) → So f → Passed s f r → So r
  past f r h q = subst So (sym q.is) (cases (ltb f.at q.end) some none)
    where
      some : ltb f.at q.end ≡ true → So (kept_to f q.end f.depth (f.blank && eqb q.end f.at))
      some t =
          let g = ltb-true f.at q.end t in
          let n = pred (q.end - f.at) in
          let e : f.at + suc n ≡ q.end = omega arith in
          rw (ne_eqb q.end f.at (omega arith), and_false f.blank)
          (subst (λ (x : ℕ). So (kept_to f x f.depth false)) e (past_many n f h (q.undocumented g) (omega (arith, q.within g)) (λ k a b. q.all k a (omega arith))))

      none : ltb f.at q.end ≡ false → So (kept_to f q.end f.depth (f.blank && eqb q.end f.at))
      none t =
          let e : f.at ≡ q.end = omega (arith, ltb-false f.at q.end t, q.on) in
          rw (← e, eq-eqb f.at f.at refl, and_true f.blank) h

pub further_on : (s : List ℕ) (f r : State) → Passed s f r → f.at ≤ r.at
further_on s f r q = rw q.is q.on
