-- A run from a literal of the cut on has the cut's next literals, and one that is refused the cut's own ending, where no byte is 13. Assumes nothing.
use mathlib.Core.Path.{◌≡◌, refl, sym, subst, ◌∙◌}
use mathlib.Core.Bool.{true, false, ◌&&◌, not, ◌||◌}
use mathlib.Core.List.{List, [], ◌∷◌, ◌++◌, append-nil}
use Prim.Native.Nat.{ℕ, ◌+◌, ◌-◌, ◌≤◌, ◌<◌}
use native.Mathlib.Omega.{arith}
use borrow.Author.Tests.{ne_eqb, eqb-true, ltb-true, ltb-false}
use lib.Dec.{ltb, eqb}
use lib.ListN.{length}
use Rattle.definition.specs.Chars.{◌is◌, byte}
use Rattle.definition.specs.Entry.{Literal, Refusal}
use Rattle.definition.specs.Reading.{accepts, last_end}
use Rattle.definition_scripts.specs.Opening.{opens, quotes, quote_of, quotes_at, is_space, is_sign, line_end, is_line_end, is_word, apart}
use Rattle.definition_scripts.specs.IsRun.{body_end, IsLiteral, Blanks, none, space, comment, Passed, next_place, Adjacent, NoRun, NeverCloses}
use Rattle.definition_scripts.specs.IsCut.{Begins, Ending, reaches_end, breaks_off, IsCut}
use Rattle.definition_scripts.specs.Literals.{Run, literals_from}
use Rattle.definition_scripts.specs.Cut.{begins, comment_end, cut}
use Rattle.definition.proofs.Moves.CharLaws.{cases, no, either, before_in, first_fails, first_passes}
use Rattle.definition_laws.proofs.Moves.Cases.{and_both}
use Rattle.definition_scripts_laws.proofs.Literals.OpeningLaws.{quote_within, word_within, quote_of_lem, opens_in, opening_shows}
use Rattle.definition_scripts_laws.proofs.Literals.LiteralFound.{literal_lies, literal_once, never_once}
use Rattle.definition_scripts_laws.proofs.Literals.RunLaws.{space_in}
use Rattle.definition_scripts_laws.proofs.Literals.ListLaw.{given}
use Rattle.definition_scripts_laws.proofs.Cut.CutLaws.{line_end_most, apart_begins, begins_known, Walk, walk_start, walk_pass, walk_comment, walk_begins, cut_is}
use Rattle.definition_scripts_laws.proofs.Cut.CutOnce.{begins_once, none_begins, one_way}

-- what directly follows a literal stands apart: its last byte is a quote
quotes_last : (s : List ℕ) (quote flag j : ℕ) → quotes_at s quote flag j ≡ true → byte s (j + quotes flag - 1) ≡ quote
unfolding quotes_at
quotes_last s quote flag j e =
    let b = and_both (eqb (byte s j) quote) (not (eqb flag 1) || eqb (byte s (j + 1)) quote && eqb (byte s (j + 2)) quote) e in
    cases (eqb flag 1)
    (λ f. rw f (let k : j + 3 - 1 ≡ j + 2 = omega arith in rw k (eqb-true (byte s (j + 2)) quote (and_both (eqb (byte s (j + 1)) quote) (eqb (byte s (j + 2)) quote) (rw f at b.1)).1)))
    (λ f. rw f (let k : j + 1 - 1 ≡ j = omega arith in rw k (eqb-true (byte s j) quote b.0)))

pub last_quote : (s : List ℕ) (l : Literal) → IsLiteral s l → byte s (l.end - 1) ≤ 39
last_quote s l p =
    let q = quote_within (quote_of s l.start) (quote_of_lem s l.start (rw p.opened p.known)) in
    let e : byte s (l.end - 1) ≡ quote_of s l.start = rw p.last (quotes_last s (quote_of s l.start) l.triple (body_end l) p.ended) in
    omega arith

after_apart : (s : List ℕ) (l : Literal) → IsLiteral s l → apart s l.end ≡ true
unfolding apart
after_apart s l p =
    let w = (literal_lies s l p).ahead in
    let q = last_quote s l p in
    cases (is_word (byte s (l.end - 1)))
    (λ t. let h = word_within (byte s (l.end - 1)) t in absurd (omega arith))
    (λ t. rw (ne_eqb l.end 0 (λ z. omega arith), t))

module _ (s : List ℕ) (no_return : (m : ℕ) → byte s m ≡ 13 → ⊥) where
  -- a line ends in the same place by both rules
  newline_ends : (m : ℕ) → is_line_end (byte s m) ≡ true → (byte s m is "\n") ≡ true
  newline_ends m e = either (byte s m is "\n") (byte s m is "\r") e (λ t. t) (λ t. absurd (no_return m (eqb-true (byte s m) 13 t)))

  same_line_lem : (i : ℕ) → i ≤ length s → line_end s i ≡ comment_end s i
  same_line_lem i h =
      let a = before_in (λ c. c is "\n") s i h in
      let b = before_in is_line_end s i h in
      cases (ltb (line_end s i) (comment_end s i))
      (λ t.
      let l = ltb-true (line_end s i) (comment_end s i) t in
      let n = first_passes (λ c. c is "\n") s i (omega arith) in
      no (sym (first_fails is_line_end s i (line_end s i) (omega arith) l) ∙ (rw n)))
      (λ t.
      cases (ltb (comment_end s i) (line_end s i))
      (λ u.
      let l = ltb-true (comment_end s i) (line_end s i) u in
      no (sym (first_fails (λ c. c is "\n") s i (comment_end s i) (omega arith) l) ∙ newline_ends (comment_end s i) (first_passes is_line_end s i (omega arith))))
      (λ u. let x = ltb-false (line_end s i) (comment_end s i) t in let y = ltb-false (comment_end s i) (line_end s i) u in omega arith))

  -- what is passed over is walked over, and a literal after it stands apart
  record Over (from i : ℕ) : Type 0 where
    walked : Walk s from i
    stands : opens s i ≤ 6 → apart s i ≡ true

  over_space : (from i : ℕ) → Over from i → is_space (byte s i) ≡ true → Over from (i + 1)
  unfolding apart
  over_space from i p e =
      record {
        walked = walk_pass s from i p.walked (space_in s i e) (is-space (λ (b : ℕ). is_sign b ≡ false) (byte s i) e refl refl refl) not_begins;
        stands = λ o. let f : i + 1 - 1 ≡ i = omega arith in rw (ne_eqb (i + 1) 0 (λ z. omega arith), f, is-space (λ (b : ℕ). is_word b ≡ false) (byte s i) e refl refl refl);
      }
    where
      is-space : (P : ℕ → Type 0) (c : ℕ) → is_space c ≡ true → P 32 → P 9 → P 10 → P c
      is-space P c e x y z =
          either (c is " ") (c is "\t\n") e (λ t. subst P (sym (eqb-true c 32 t)) x)
          (λ f. either (c is "\t") (c is "\n") f (λ t. subst P (sym (eqb-true c 9 t)) y) (λ t. subst P (sym (eqb-true c 10 t)) z))

      low : byte s i < 34
      low = is-space (λ (b : ℕ). b < 34) (byte s i) e (omega arith) (omega arith) (omega arith)

      not_begins : begins s i ≡ false
      not_begins = cases (begins s i) (λ t. let l = (opening_shows s i i (begins_known s i t) (omega arith) (omega arith)).least in let k = low in absurd (omega arith)) (λ t. t)

  over_comment : (from i : ℕ) → Over from i → is_sign (byte s i) ≡ true → Over from (line_end s i)
  over_comment from i p e =
      let w = p.walked.within in
      rw (same_line_lem i w) (record {
        walked = walk_comment s from i p.walked e;
        stands = λ o. let l = (opening_shows s (comment_end s i) (comment_end s i) o (omega arith) (omega arith)).least in let k = line_end_most (byte s (comment_end s i)) (first_passes is_line_end s i (opens_in s (comment_end s i) o)) in absurd (omega arith);
      })

  over_blanks : {from i j : ℕ} → Over from i → Blanks s i j → Over from j
  over_blanks p none = p
  over_blanks {from} {i} p (space e b) = over_blanks (over_space from i p e) b
  over_blanks {from} {i} p (comment e b) = over_blanks (over_comment from i p e) b

  -- so the literal that opens after it is the cut's next
  passed_begins : (from j : ℕ) → from ≤ length s → apart s from ≡ true → Passed s from j → opens s j ≤ 6 → Begins s from j
  passed_begins from j h a p o =
      let q = over_blanks (record { walked = walk_start s from h; stands = λ o. a }) p.blanks in
      walk_begins s from j q.walked (apart_begins s j o (q.stands o))

  -- A CUT FROM `from` ON THAT HAS SOME LITERALS FIRST, and what it has after them
  pub record Splits (from : ℕ) (ls ms : List Literal) (w : Ending) (stop : ℕ) : Type 0 where
    pub later : List Literal
    pub whole : ms ≡ ls ++ later
    pub rest : IsCut s (last_end from ls) later w
    pub next : opens s stop ≤ 6 → Begins s (last_end from ls) stop

  splits : (from stop : ℕ) (ls ms : List Literal) (w : Ending) → Adjacent s ls stop → (opens s (next_place ls stop) ≤ 6 → Begins s from (next_place ls stop)) → IsCut s from ms w → Splits from ls ms w stop
  unfolding last_end
  splits from stop [] ms w p b q = record { later = ms; whole = refl; rest = q; next = b }
  splits from stop (l ∷ ls) [] w p b q = absurd (never w q)
    where
      c : Begins s from l.start
      c = b (rw p.0.opened p.0.known)

      never : (w : Ending) → IsCut s from [] w → ⊥
      never reaches_end q = none_begins s from l.start q c
      never (breaks_off number place) q = one_way s from l number place c p.0 q.0 q.1
  splits from stop (l ∷ ls) (m ∷ ms) w p b q =
      let c = b (rw p.0.opened p.0.known) in
      let e : m ≡ l = literal_once s m l q.1 p.0 (begins_once s from m.start l.start q.0 c) in
      let a = literal_lies s l p.0 in
      let r = splits l.end stop ls ms w p.2 (passed_begins l.end (next_place ls stop) a.within (after_apart s l p.0) p.1) (subst (λ (x : Literal). IsCut s x.end ms w) e q.2) in
      let f = r.whole in
      record { later = r.later; whole = cc; rest = r.rest; next = r.next }

  -- where the literal that begins next never closes, the cut has no other and ends there
  broken : (from number place : ℕ) (ls : List Literal) (w : Ending) → Begins s from place → NeverCloses s number place → IsCut s from ls w → (ls ≡ []) × (w ≡ breaks_off number place)
  broken from number place [] reaches_end b c q = absurd (none_begins s from place q b)
  broken from number place [] (breaks_off n j) b c q =
      let e = begins_once s from j place q.0 b in
      let f = never_once s n number place b.opened (subst (λ (k : ℕ). NeverCloses s n k) e q.1) c in
      (refl, cc)
  broken from number place (l ∷ ls) w b c q = absurd (one_way s from l number place q.0 q.1 b c)

  -- the cut of the script from one of its literals on
  module _ (ks : List Literal) (m : Literal) (ms : List Literal) (e : (cut s).literals ≡ ks ++ (m ∷ ms)) where
    cut_later : {P : Type 0} (from : ℕ) (ks : List Literal) → IsCut s from (ks ++ (m ∷ ms)) (cut s).ending → ((i : ℕ) → IsCut s i (m ∷ ms) (cut s).ending → P) → P
    cut_later from [] p f = f from p
    cut_later from (k ∷ ks) p f = cut_later k.end ks p.2 f

    here : {P : Type 0} → ((i : ℕ) → IsCut s i (m ∷ ms) (cut s).ending → P) → P
    unfolding cut
    here f = cut_later 0 ks (subst (λ (ls : List Literal). IsCut s 0 ls (cut s).ending) e (cut_is s 0 (omega arith))) f

    -- AN ACCEPTED RUN from its start on has the cut's next literals
    pub run_in_cut : {P : Type 0} (x : Run) → literals_from s m.start ≡ accepts x → ((later : List Literal) → m ∷ ms ≡ x.literals ++ later → P) → P
    run_in_cut x f k =
        let g = (given s m.start x f).is_run in
        here (λ i q. let r = splits i x.stop x.literals (m ∷ ms) (cut s).ending g.adjacent (λ o. rw g.first q.0) q in k r.later r.whole)

    -- ONE THAT IS REFUSED, by 50 or 51, is refused where the cut ends, after all of its literals
    pub refused_in_cut : (r : Refusal) (p : NoRun s m.start r) → (m ∷ ms ≡ p.earlier) × ((cut s).ending ≡ breaks_off r.number r.place)
    refused_in_cut r p =
        here (λ i q.
        let t = splits i r.place p.earlier (m ∷ ms) (cut s).ending p.adjacent (λ o. rw p.first q.0) q in
        let b = broken (last_end i p.earlier) r.number r.place t.later (cut s).ending (t.next p.opened) p.unclosed t.rest in
        (without p.earlier t.later b.0 t.whole, b.1))
      where
        without : (ls later : List Literal) → later ≡ [] → m ∷ ms ≡ ls ++ later → m ∷ ms ≡ ls
        without ls [] e f = f ∙ append-nil ls
        without ls (l ∷ later) e f = let z : ◌≡◌ {A = ℕ} 0 1 = cc in absurd (omega arith)
