-- The literal that is found at a place is the one literal that stands there. Assumes nothing.
use mathlib.Core.Path.{◌≡◌, refl, sym, subst, ◌∙◌, ap, ap₂}
use mathlib.Core.Bool.{true, false, ◌&&◌}
use mathlib.Core.List.{List}
use Prim.Native.Nat.{ℕ, suc, ◌+◌, ◌-◌, ◌≤◌, ◌<◌}
use native.Mathlib.Nat.{add_assoc}
use native.Mathlib.Omega.{arith}
use borrow.Author.Tests.{le-ltb}
use lib.Dec.{eqb, lit≤}
use lib.ListN.{length}
use Rattle.definition.specs.Numbers.{prefix}
use Rattle.definition.specs.Chars.{byte}
use Rattle.definition.specs.Entry.{Literal, opening, place_of, refusal, bad}
use Rattle.definition.specs.Reading.{Outcome, accepts, refuses}
use Rattle.definition_scripts.specs.Opening.{opens, quotes_of, tripled, quotes, quotes_at, quote_of, flag_of, body_of}
use Rattle.definition_scripts.specs.IsRun.{Units, body_end, IsLiteral, NeverCloses}
use Rattle.definition_scripts.specs.Literals.{Closing, closed, fails, closing, closed_at, literal_at}
use Rattle.definition.proofs.Moves.CharLaws.{cases}
use Rattle.definition_scripts_laws.proofs.Literals.OpeningLaws.{quote_of_lem}
use Rattle.definition_scripts_laws.proofs.Literals.LiteralLaws.{Closes, closing_is, units_ahead, quotes_in, closes_once}

-- FOUND, IT IS ONE
abbrev pub LiteralAt : List ℕ → ℕ → Outcome Literal → Type 0
LiteralAt s i (accepts l) = (l.start ≡ i) × IsLiteral s l
LiteralAt s i (refuses r) = (r ≡ refusal r.number 0 i 0 0) × NeverCloses s r.number i

pub literal_at_lem : (s : List ℕ) (i : ℕ) → opens s i ≤ 6 → LiteralAt s i (literal_at s i)
unfolding literal_at closing closed_at refusal opening quotes_of
literal_at_lem s i h = go (closing s (quote_of s i) (flag_of s i) from) (closing_is s (quote_of s i) (flag_of s i) (suc (length s)) from (omega arith))
  where
    from : ℕ
    from = body_of s i

    go : (r : Closing) → Closes s (quote_of s i) (flag_of s i) from r → LiteralAt s i (closed_at (opens s i) (flag_of s i) from i r)
    go (fails m) u = (refl, u)
    go (closed j) c =
        let l = units_ahead s (quote_of s i) (flag_of s i) c.0 in
        let e : from + (j - from) ≡ j = omega arith in (
          refl,
          record {
            known = h;
            opened = refl;
            flagged = refl;
            begun = add_assoc i (prefix (opens s i)) (quotes (flag_of s i));
            units = rw e c.0;
            ended = rw e c.1;
            last = rw e;
          },
        )

-- equal numbers are one literal
six : (k k' t t' o o' z z' a e e' : ℕ) → k ≡ k' → t ≡ t' → o ≡ o' → z ≡ z' → e ≡ e'
    → ◌≡◌ {A = Literal} (record { kind = k; triple = t; offset = o; size = z; start = a; end = e }) (record { kind = k'; triple = t'; offset = o'; size = z'; start = a; end = e' })
six k k' t t' o o' z z' a e e' p q r s u = cc

-- ONE THAT STANDS THERE IS FOUND
pub literal_is : (s : List ℕ) (l : Literal) → IsLiteral s l → literal_at s l.start ≡ accepts l
unfolding literal_at closing closed_at opening quotes_of
literal_is s l p = ap (closed_at (opens s i) (flag_of s i) (body_of s i) i) ends ∙ same
  where
    i : ℕ
    i = l.start

    o : l.offset ≡ body_of s i
    o = p.begun ∙ ap₂ (λ k t. i + (prefix k + quotes t)) (sym p.opened) (sym p.flagged) ∙ sym (add_assoc i (prefix (opens s i)) (quotes (flag_of s i)))

    units : Units s (quote_of s i) (flag_of s i) (body_of s i) (body_end l)
    units = subst (λ (b : ℕ). Units s (quote_of s i) (flag_of s i) b (body_end l)) o (subst (λ (f : ℕ). Units s (quote_of s i) f l.offset (body_end l)) (sym p.flagged) p.units)

    ended : quotes_at s (quote_of s i) (flag_of s i) (body_end l) ≡ true
    ended = subst (λ (f : ℕ). quotes_at s (quote_of s i) f (body_end l) ≡ true) (sym p.flagged) p.ended

    ends : closing s (quote_of s i) (flag_of s i) (body_of s i) ≡ closed (body_end l)
    ends =
        closes_once s (quote_of s i) (flag_of s i) (quote_of_lem s i (subst (λ (k : ℕ). k ≤ 6) (sym p.opened) p.known)) (body_of s i) (closing s (quote_of s i) (flag_of s i) (body_of s i)) (closed (body_end l))
        (closing_is s (quote_of s i) (flag_of s i) (suc (length s)) (body_of s i) (omega arith)) (units, ended)

    same : closed_at (opens s i) (flag_of s i) (body_of s i) i (closed (body_end l)) ≡ accepts l
    same =
        let z : body_end l - body_of s i ≡ l.size = omega (arith, o) in
        let e : body_end l + quotes (flag_of s i) ≡ l.end = ap (λ t. body_end l + quotes t) p.flagged ∙ sym p.last in
        ap accepts (six (opens s i) l.kind (flag_of s i) l.triple (body_of s i) l.offset (body_end l - body_of s i) l.size i (body_end l + quotes (flag_of s i)) l.end p.opened p.flagged (sym o) z e)

-- ONE THAT NEVER CLOSES IS REFUSED
pub literal_fails : (s : List ℕ) (number i : ℕ) → opens s i ≤ 6 → NeverCloses s number i → literal_at s i ≡ refuses (refusal number 0 i 0 0)
unfolding literal_at closing closed_at
literal_fails s number i h p =
    ap (closed_at (opens s i) (flag_of s i) (body_of s i) i)
    (closes_once s (quote_of s i) (flag_of s i) (quote_of_lem s i h) (body_of s i) (closing s (quote_of s i) (flag_of s i) (body_of s i)) (fails number) (closing_is s (quote_of s i) (flag_of s i) (suc (length s)) (body_of s i) (omega arith)) p)

-- so at one place stands one literal, and it closes or does not
pub literal_once : (s : List ℕ) (l m : Literal) → IsLiteral s l → IsLiteral s m → l.start ≡ m.start → l ≡ m
literal_once s l m p q e =
    let h : accepts l ≡ accepts m = sym (literal_is s l p) ∙ ap (literal_at s) e ∙ literal_is s m q in cc

pub literal_or_not : (s : List ℕ) (l : Literal) (number : ℕ) → IsLiteral s l → NeverCloses s number l.start → ⊥
literal_or_not s l number p q =
    let h : accepts l ≡ refuses (refusal number 0 l.start 0 0) = sym (literal_is s l p) ∙ literal_fails s number l.start (rw p.opened p.known) q in
    let z : ◌≡◌ {A = ℕ} 0 1 = cc in omega arith

pub never_once : (s : List ℕ) (m n i : ℕ) → opens s i ≤ 6 → NeverCloses s m i → NeverCloses s n i → m ≡ n
unfolding refusal
never_once s m n i h p q =
    let e : ◌≡◌ {A = Outcome Literal} (refuses (refusal m 0 i 0 0)) (refuses (refusal n 0 i 0 0)) = sym (literal_fails s m i h p) ∙ literal_fails s n i h q in
    let f : refusal m 0 i 0 0 ≡ refusal n 0 i 0 0 = cc in ap (λ r. r.number) f

-- WHERE IT LIES
pub record Lies (s : List ℕ) (l : Literal) : Type 0 where
  pub known : l.kind ≤ 6
  pub flag : l.triple ≤ 1
  pub ahead : l.start + l.size + 2 ≤ l.end
  pub within : l.end ≤ length s
  pub body_within : l.offset + l.size ≤ length s
  pub room : place_of l l.size < l.end
  pub begins : l.offset ≡ place_of l 0

pub literal_lies : (s : List ℕ) (l : Literal) → IsLiteral s l → Lies s l
unfolding place_of opening tripled
literal_lies s l p =
    let o = p.begun in
    let e = p.last in
    let q : l.offset + l.size + quotes l.triple ≤ length s = quotes_in s (quote_of s l.start) l.triple (quote_of_lem s l.start (subst (λ (k : ℕ). k ≤ 6) (sym p.opened) p.known)) (body_end l) p.ended in
    let w = some_quote l.triple in
    record {
      known = p.known;
      flag = subst (λ (f : ℕ). f ≤ 1) p.flagged (zero_or_one (quotes_of s l.start));
      ahead = omega arith;
      within = omega arith;
      body_within = omega arith;
      room = omega arith;
      begins = omega arith;
    }
  where
    some_quote : (f : ℕ) → 1 ≤ quotes f
    some_quote f = cases (eqb f 1) (λ e. rw e (lit≤ tt)) (λ e. rw e (lit≤ tt))

    zero_or_one : (q : ℕ) → tripled s q ≤ 1
    zero_or_one q = cases (eqb (byte s (q + 1)) (byte s q) && eqb (byte s (q + 2)) (byte s q)) (λ e. rw e (lit≤ tt)) (λ e. rw e (lit≤ tt))

-- it passes entry check 4 after any literal that ends before it
pub lies_good : (s : List ℕ) (previous : ℕ) (l : Literal) → Lies s l → previous ≤ l.start → bad s previous l ≡ false
unfolding bad
lies_good s previous l w h =
    let a = w.ahead in
    let r = w.room in
    rw (le-ltb 6 l.kind w.known, le-ltb 1 l.triple w.flag, le-ltb (length s) (l.offset + l.size) w.body_within, le-ltb l.end l.start (omega arith), le-ltb l.start previous h, le-ltb l.end (place_of l l.size) (omega arith))

pub literal_good : (s : List ℕ) (previous : ℕ) (l : Literal) → IsLiteral s l → previous ≤ l.start → bad s previous l ≡ false
literal_good s previous l p h = lies_good s previous l (literal_lies s l p) h
