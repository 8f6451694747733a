-- A column read from an index on. Assumes nothing.
use mathlib.Core.Path.{◌≡◌, refl, sym, ◌∙◌, ap}
use mathlib.Core.Bool.{Bool, true, false, ◌&&◌, not}
use mathlib.Core.List.{List, [], ◌∷◌}
use Prim.Native.Nat.{ℕ, ◌+◌, ◌-◌, ◌≤◌, ◌<◌, min}
use Prim.Native.String.{String}
use native.Mathlib.Numerals.{add-one}
use native.Mathlib.Omega.{arith}
use lib.Dec.{eqb}
use lib.ListN.{length, get_or, drop, drop_of_length-le, length-append}
use lib.Seq.{drop-cons}
use borrow.Author.Tests.{ne_eqb, eq-eqb, eqb-true, eqb-false}
use Rattle.definition.specs.Chars.{◌is◌, byte}
use Rattle.definition_replay.specs.Spec.{is_digit, first, past, front, behind, nothing}
use Rattle.definition_replay.specs.Integers.{Integer, decimal}
use Rattle.definition_replay.specs.Trace.{taken, broken, Behind, comma, ends, other, behind_column}
use Rattle.definition.proofs.Moves.CharLaws.{cases, byte_is}
use Rattle.definition_replay_laws.proofs.Spec.SpecLaws.{is_some, front_behind}
use Rattle.definition_replay_laws.proofs.Spec.SpecSteps.{first_there, first_not, first_end_lem}
use Rattle.definition_replay_laws.proofs.Trace.TraceByNumber.{integer as made, number_of}
use Rattle.definition_replay.specs.SpecNumbers.{told_of}
use Rattle.traces.specs.declared.Ends.{Ends}
use Rattle.traces.specs.declared.Ends.TheVariants.{Nothing}
use Rattle.traces.specs.Cells.{IsOne, Skips, says_behind, wrong, ended_with, cell_of, clip, clip_cell, fit_cell, integer, ended_by, says_cell}

-- WHAT STANDS BEHIND
module _ (s : List ℕ) (at : ℕ) where
  pub behind_end : length s ≤ at → ends (drop at s) ≡ behind_column (drop at s)
  unfolding behind_column
  behind_end h = rw (drop_of_length-le s h)

  module _ (h : at < length s) where
    opened : drop at s ≡ byte s at ∷ drop (at + 1) s
    opened = drop-cons s at 256 h ∙ ap (λ n. byte s at ∷ drop n s) (sym (add-one at))

    comma_first : (b : ℕ) (t : List ℕ) → b ≡ 44 → comma t ≡ behind_column (b ∷ t)
    unfolding behind_column
    comma_first b [] e = rw (eq-eqb b 44 e)
    comma_first b (c ∷ t) e = rw (eq-eqb b 44 e)

    other_first : (b : ℕ) (t : List ℕ) → (b ≡ 44 → ⊥) → (b ≡ 13 → ⊥) → other ≡ behind_column (b ∷ t)
    unfolding behind_column
    other_first b [] n m = rw (ne_eqb b 44 n)
    other_first b (c ∷ t) n m = rw (ne_eqb b 44 n, ne_eqb b 13 m)

    return_alone : (b : ℕ) → (b ≡ 44 → ⊥) → other ≡ behind_column (b ∷ [])
    unfolding behind_column
    return_alone b n = rw (ne_eqb b 44 n)

    return_other : (b c : ℕ) (t : List ℕ) → (b ≡ 44 → ⊥) → (c ≡ 10 → ⊥) → other ≡ behind_column (b ∷ c ∷ t)
    unfolding behind_column
    return_other b c t n m = cases (eqb b 13) (λ e. rw (ne_eqb b 44 n, e, ne_eqb c 10 m)) (λ e. rw (ne_eqb b 44 n, e))

    return_line : (b c : ℕ) (t : List ℕ) → (b ≡ 44 → ⊥) → b ≡ 13 → c ≡ 10 → ends t ≡ behind_column (b ∷ c ∷ t)
    unfolding behind_column
    return_line b c t n e f = rw (ne_eqb b 44 n, eq-eqb b 13 e, eq-eqb c 10 f)

    abbrev here : ℕ
    here = byte s at

    read : get_or s at 0 ≡ here
    read = byte_is s at h

    pub behind_comma : get_or s at 0 ≡ 44 → comma (drop (at + 1) s) ≡ behind_column (drop at s)
    behind_comma e = comma_first here (drop (at + 1) s) (sym read ∙ e) ∙ ap behind_column (sym opened)

    module _ (n : get_or s at 0 ≡ 44 → ⊥) where
      uncomma : here ≡ 44 → ⊥
      uncomma e = n (read ∙ e)

      pub behind_other : (get_or s at 0 ≡ 13 → ⊥) → other ≡ behind_column (drop at s)
      behind_other m = other_first here (drop (at + 1) s) uncomma (λ e. m (read ∙ e)) ∙ ap behind_column (sym opened)

      pub behind_alone : length s ≤ at + 1 → other ≡ behind_column (drop at s)
      behind_alone l = return_alone here uncomma ∙ ap (λ t. behind_column (here ∷ t)) (sym (drop_of_length-le s l)) ∙ ap behind_column (sym opened)

      module _ (g : at + 1 < length s) where
        two : at + 2 ≡ at + 1 + 1
        two = omega arith

        again : drop (at + 1) s ≡ byte s (at + 1) ∷ drop (at + 1 + 1) s
        again = drop-cons s (at + 1) 256 g ∙ ap (λ k. byte s (at + 1) ∷ drop k s) (sym (add-one (at + 1)))

        pub behind_apart : (get_or s (at + 1) 0 ≡ 10 → ⊥) → other ≡ behind_column (drop at s)
        behind_apart m =
            return_other here (byte s (at + 1)) (drop (at + 1 + 1) s) uncomma (λ e. m (byte_is s (at + 1) g ∙ e))
            ∙ ap (λ t. behind_column (here ∷ t)) (sym again)
            ∙ ap behind_column (sym opened)

        pub behind_line : get_or s at 0 ≡ 13 → get_or s (at + 1) 0 ≡ 10 → ends (drop (at + 2) s) ≡ behind_column (drop at s)
        behind_line e f =
            ap (λ k. ends (drop k s)) two
            ∙ return_line here (byte s (at + 1)) (drop (at + 1 + 1) s) uncomma (sym read ∙ e) (sym (byte_is s (at + 1) g) ∙ f)
            ∙ ap (λ t. behind_column (here ∷ t)) (sym again)
            ∙ ap behind_column (sym opened)

-- A QUOTE OR A MINUS
module _ {set : String} {n : ℕ} (o : IsOne set n) (s : List ℕ) (at : ℕ) where
  pub skip_end : length s ≤ at → at ≤ length s → Skips set s at at
  skip_end h k = let e = first_end_lem s at set h in (sym e.1, ap (λ x. eqb x 0) e.0 ∙ sym (eq-eqb at at refl), omega arith, k)

  pub skip_not : at < length s → (get_or s at 0 ≡ n → ⊥) → Skips set s at at
  skip_not h m =
      let b = byte_is s at h in
      let e = first_not s at set h (o.one (byte s at) ∙ ne_eqb (byte s at) n (λ f. m (b ∙ f))) in
      (sym e.1, ap (λ x. eqb x 0) e.0 ∙ sym (eq-eqb at at refl), omega arith, omega arith)

  pub skip_there : at < length s → get_or s at 0 ≡ n → Skips set s at (at + 1)
  skip_there h m =
      let b = byte_is s at h in
      let f : byte s at ≡ n = sym b ∙ m in
      let e = first_there s at set h (o.one (byte s at) ∙ eq-eqb (byte s at) n f) in
      (sym e.1, ap (λ x. eqb x 0) (e.0 ∙ f) ∙ o.some ∙ sym (ne_eqb (at + 1) at (λ z. omega arith)), omega arith, omega arith)

pub is_quote : IsOne "\"" 34
is_quote = record { one = λ x. refl; some = refl }

pub is_minus : IsOne "-" 45
is_minus = record { one = λ x. refl; some = refl }

pub column_ends : (s : List ℕ) (at : ℕ) (minus : Bool) (size : ℕ) (kind : Ends) (next : ℕ) {negative : Bool} → negative ≡ (minus && not (eqb size 0)) → says_behind s kind next ≡ behind_column (drop at s)
    → says_cell s kind negative size next ≡ ended_by (minus && not (eqb size 0)) size (behind_column (drop at s))
column_ends s at minus size kind next n b = λ i. ended_with (integer (n i) size) (b i)

-- THE COLUMN
clip_ended : (v : Integer) (b : Behind) → clip_cell (ended_with v b) ≡ ended_with (clip v) b
unfolding clip_cell ended_with
clip_ended v (comma u) = refl
clip_ended v (ends u) = refl
clip_ended v other = refl

wrong_says : (s : List ℕ) (negative : Bool) (size next : ℕ) → says_cell s Nothing negative size next ≡ wrong
unfolding ended_with
wrong_says s negative size next = refl

clip_wrong : clip_cell wrong ≡ wrong
unfolding clip_cell
clip_wrong = refl

told_size : (ds : List ℕ) {told : ℕ} → told ≡ told_of ds → (told ≡ 0 → ⊥) → (told - 1 ≡ min (decimal ds) 0xFFFFFFFE) × (nothing ds ≡ false)
unfolding told_of nothing
told_size [] t n = absurd (n t)
told_size (d ∷ ds) t n = (omega arith, refl)

told_nothing : (ds : List ℕ) {told : ℕ} → told ≡ told_of ds → told ≡ 0 → nothing ds ≡ true
unfolding told_of nothing
told_nothing [] t n = refl
told_nothing (d ∷ ds) t n = absurd (omega arith)

same_zero : (d size : ℕ) → size ≡ min d 0xFFFFFFFE → eqb d 0 ≡ eqb size 0
same_zero d size e =
    cases (eqb d 0) (λ z. let k = eqb-true d 0 z in z ∙ sym (eq-eqb size 0 (omega arith))) (λ z. let k = eqb-false d 0 z in z ∙ sym (ne_eqb size 0 (λ f. k (omega arith))))

quote_there : (r : List ℕ) → (byte r 0 is "\"") ≡ not (eqb (first "\"" r) 0)
unfolding first
quote_there [] = refl
quote_there (b ∷ r) = cases (b is "\"") (λ e. rw (e, is_some "\"" b refl e)) (λ e. rw e)

front_short : (t : List ℕ) → behind is_digit t ≡ t → nothing (front is_digit t) ≡ false → ⊥
unfolding nothing
front_short t e n = go (front is_digit t) refl n
  where
    go : (f : List ℕ) → front is_digit t ≡ f → nothing f ≡ false → ⊥
    go [] g n = let z : ◌≡◌ {A = ℕ} 0 1 = cc in absurd (omega arith)
    go (d ∷ f) g n =
        let l = ap length (front_behind is_digit t) in
        let k = length-append (front is_digit t) (behind is_digit t) in
        let a = ap length g in
        let b = ap length e in
        absurd (omega arith)

module _ (s : List ℕ) (at : ℕ) {from start told next : ℕ}
    (q : Skips "\"" s at from)
    (m : Skips "-" s from start)
    (d : (told ≡ told_of (front is_digit (drop start s))) × (drop next s ≡ behind is_digit (drop start s)) × (start ≤ next) × (start ≤ length s → next ≤ length s))
  where
    abbrev t : List ℕ
    t = past "\"" (drop at s)

    abbrev ds : List ℕ
    ds = front is_digit (past "-" t)

    abbrev rest : List ℕ
    rest = behind is_digit (past "-" t)

    start_is : drop start s ≡ past "-" t
    start_is = m.0 ∙ ap (past "-") q.0

    told_is : told ≡ told_of ds
    told_is = d.0 ∙ ap (λ x. told_of (front is_digit x)) start_is

    rest_is : drop next s ≡ rest
    rest_is = d.1 ∙ ap (behind is_digit) start_is

    cell_broken : number_of (drop at s) ≡ broken → cell_of (drop at s) ≡ wrong
    unfolding cell_of
    cell_broken e = rw (e, cell_of)

    cell_taken : (v : Integer) (u : List ℕ) → number_of (drop at s) ≡ taken v u → cell_of (drop at s) ≡ ended_with v (behind_column u)
    unfolding cell_of
    cell_taken v u e = rw (e, cell_of)

    abbrev Column : Ends → (negative : Bool) (size next : ℕ) → Type 0
    Column e negative size to = (says_cell s e negative size to ≡ clip_cell (cell_of (drop at s))) × ((e ≡ Nothing → ⊥) → at < to) × (to ≤ length s)

    none_read : number_of (drop at s) ≡ broken → Column Nothing false 0 at
    none_read e =
        let k = q.2 in
        let l = q.3 in
        (wrong_says s false 0 at ∙ sym (ap clip_cell (cell_broken e) ∙ clip_wrong), (λ n. absurd (n refl)), omega arith)

    pub column_none : told ≡ 0 → Column Nothing false 0 at
    unfolding number_of
    column_none e = none_read (rw (told_nothing ds told_is e))

    module _ (n : told ≡ 0 → ⊥) where
      sized : (told - 1 ≡ min (decimal ds) 0xFFFFFFFE) × (nothing ds ≡ false)
      sized = told_size ds told_is n

      pub goes : start < next
      goes = by-lt (λ e. front_short (drop start s) (sym d.1 ∙ ap (λ x. drop x s) e) (ap (λ x. nothing (front is_digit x)) start_is ∙ sized.1))
        where
          by-lt : (next ≡ start → ⊥) → start < next
          by-lt f = let l = d.2 in cases (eqb next start) (λ e. absurd (f (eqb-true next start e))) (λ e. let k = eqb-false next start e in omega arith)

      clipped : clip (made (first "-" t) ds) ≡ integer (not (eqb start from) && not (eqb (told - 1) 0)) (told - 1)
      clipped = λ i.
          record {
            negative = not ((ap (λ x. eqb (first "-" x) 0) (sym q.0) ∙ m.1) i) && not (same_zero (decimal ds) (told - 1) sized.0 i);
            size = sym sized.0 i;
          }

      column_taken : (u : List ℕ) → number_of (drop at s) ≡ taken (made (first "-" t) ds) u
          → ended_by (not (eqb start from) && not (eqb (told - 1) 0)) (told - 1) (behind_column u) ≡ clip_cell (cell_of (drop at s))
      column_taken u e =
          sym (ap clip_cell (cell_taken (made (first "-" t) ds) u e) ∙ clip_ended (made (first "-" t) ds) (behind_column u) ∙ ap (λ v. ended_with v (behind_column u)) clipped)

      module _ (r : from ≡ at) where
        bare : number_of (drop at s) ≡ taken (made (first "-" t) ds) rest
        unfolding number_of
        bare = rw (sized.1, q.1 ∙ eq-eqb from at r)

        pub column_bare : (negative : Bool) (size : ℕ) {e : Ends} {to : ℕ}
            → (says_cell s e negative size to ≡ ended_by (not (eqb start from) && not (eqb (told - 1) 0)) (told - 1) (behind_column (drop next s))) × (next ≤ to) × (to ≤ length s)
            → Column e negative size to
        column_bare negative size x =
            let g = goes in
            let a = q.2 in
            let b = m.2 in
            let c = x.1 in
            (x.0 ∙ ap (λ u. ended_by (not (eqb start from) && not (eqb (told - 1) 0)) (told - 1) (behind_column u)) rest_is ∙ column_taken rest bare, (λ f. omega arith), x.2)

      module _ (r : from ≡ at → ⊥) {past' : ℕ}
          (z : Skips "\"" s next past')
        where
          quote_is : (byte rest 0 is "\"") ≡ not (eqb past' next)
          quote_is = quote_there rest ∙ ap (λ x. not (eqb (first "\"" x) 0)) (sym rest_is) ∙ ap not z.1

          pub column_unclosed : past' ≡ next → Column Nothing false 0 at
          unfolding number_of
          column_unclosed e = none_read (rw (sized.1, q.1 ∙ ne_eqb from at r, quote_is ∙ ap not (eq-eqb past' next e)))

          module _ (c : past' ≡ next → ⊥) where
            quoted : number_of (drop at s) ≡ taken (made (first "-" t) ds) (past "\"" rest)
            unfolding number_of
            quoted = rw (sized.1, q.1 ∙ ne_eqb from at r, quote_is ∙ ap not (ne_eqb past' next c))

            pub column_quoted : (negative : Bool) (size : ℕ) {e : Ends} {to : ℕ}
                → (says_cell s e negative size to ≡ ended_by (not (eqb start from) && not (eqb (told - 1) 0)) (told - 1) (behind_column (drop past' s))) × (past' ≤ to) × (to ≤ length s)
                → Column e negative size to
            column_quoted negative size x =
                let g = goes in
                let a = q.2 in
                let b = m.2 in
                let y = z.2 in
                let w = x.1 in (
                  x.0
                      ∙ ap (λ u. ended_by (not (eqb start from) && not (eqb (told - 1) 0)) (told - 1) (behind_column u)) (z.0 ∙ ap (past "\"") rest_is)
                      ∙ column_taken (past "\"" rest) quoted,
                  (λ f. omega arith),
                  x.2,
                )

-- past the end there is none
pub cell_past : (s : List ℕ) (at : ℕ) → length s < at → cell_of (drop at s) ≡ wrong
unfolding cell_of number_of nothing front past
cell_past s at h = let l : length s ≤ at = omega arith in rw (drop_of_length-le s l)

pub column_past : (s : List ℕ) (at : ℕ) → length s < at → (says_cell s Nothing false 0 (length s) ≡ fit_cell (cell_of (drop at s))) × ((◌≡◌ {A = Ends} Nothing Nothing → ⊥) → at < length s) × (length s ≤ length s)
unfolding ended_with fit_cell
column_past s at h = (rw (cell_past s at h), (λ n. absurd (n refl)), omega arith)
