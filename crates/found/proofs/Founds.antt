-- The literal that opens at a place: where its quotes, its body and its end lie. Assumes nothing.
use Rattle.std.specs.Prelude.{if◌then◌else◌}
use mathlib.Core.Path.{◌≡◌, refl, sym, subst, ◌∙◌, ap}
use mathlib.Core.Bool.{Bool, true, false, ◌&&◌, not, ◌||◌}
use mathlib.Core.List.{List}
use Prim.Native.Nat.{ℕ, ◌+◌, ◌-◌, ◌≤◌, ◌<◌}
use native.Mathlib.Omega.{arith}
use borrow.Author.Tests.{eq-eqb}
use lib.Dec.{eqb}
use lib.ListN.{length, get_or}
use Rattle.definition.specs.Numbers.{prefix}
use Rattle.definition.specs.Chars.{byte}
use Rattle.definition.specs.Reading.{accepts}
use Rattle.definition_scripts.specs.Opening.{is_quote, opens, quotes_of, tripled, quotes, quotes_at}
use Rattle.definition_scripts.specs.Literals.{Closing, closed, closing, closed_at, literal_at}
use Rattle.definition.proofs.Moves.CharLaws.{byte_is, byte_in}
use Rattle.definition_scripts_laws.proofs.Literals.OpeningLaws.{quote_within, quote_of_lem, opens_in}
use Rattle.definition_scripts_laws.proofs.Literals.LiteralLaws.{quotes_in}
use Rattle.definition_scripts_laws.proofs.Literals.LiteralFound.{literal_at_lem, literal_lies}
use Rattle.found.specs.Found.{Within}

-- the quotes that a flag counts stand there
quotes_open : (s : List ℕ) (q : ℕ) → quotes_at s (byte s q) (tripled s q) q ≡ true
unfolding quotes_at tripled
quotes_open s q = go (eqb (byte s (q + 1)) (byte s q) && eqb (byte s (q + 2)) (byte s q)) refl
  where
    go : (t : Bool) → (eqb (byte s (q + 1)) (byte s q) && eqb (byte s (q + 2)) (byte s q)) ≡ t
        → (eqb (byte s q) (byte s q) && (not (eqb (if t then 1 else 0) 1) || eqb (byte s (q + 1)) (byte s q) && eqb (byte s (q + 2)) (byte s q))) ≡ true
    go true e = rw (eq-eqb (byte s q) (byte s q) refl, e)
    go false e = rw (eq-eqb (byte s q) (byte s q) refl)

module _ (s : List ℕ) (at kind : ℕ) (w : Within s at kind) where
  known : opens s at ≤ 6
  known = subst (λ (k : ℕ). k ≤ 6) w.is_kind w.known

  pub starts_in : at < length s
  starts_in = opens_in s at known

  -- by the length of its prefix, its flag and how many quotes it has
  module _ (p t n : ℕ) (ep : p ≡ prefix kind) (et : t ≡ tripled s (at + p)) (en : n ≡ quotes t) where
    at_quotes : quotes_of s at ≡ at + p
    unfolding quotes_of
    at_quotes = ap (λ k. at + prefix k) (sym w.is_kind) ∙ ap (λ m. at + m) (sym ep)

    is_quote_lem : is_quote (byte s (at + p)) ≡ true
    is_quote_lem = rw at_quotes at (quote_of_lem s at known)

    pub quote_in : at + p < length s
    quote_in = let h = quote_within (byte s (at + p)) is_quote_lem in byte_in s (at + p) (omega arith)

    pub body_in : at + p + n ≤ length s
    body_in = rw (en, et) (quotes_in s (byte s (at + p)) (tripled s (at + p)) is_quote_lem (at + p) (quotes_open s (at + p)))

    -- it is found by where its body closes
    module _ (r : Closing) (e : r ≡ closing s (get_or s (at + p) 0) t (at + p + n)) where
      pub found_is : closed_at kind t (at + p + n) at r ≡ literal_at s at
      unfolding literal_at
      found_is = rw (e, byte_is s (at + p) quote_in, en, et, w.is_kind, ← at_quotes) refl

    pub found_closed : (to : ℕ) → closed to ≡ closing s (get_or s (at + p) 0) t (at + p + n)
        → accepts (record { kind = kind; triple = t; offset = at + p + n; size = to - (at + p + n); start = at; end = to + n }) ≡ literal_at s at
    unfolding closed_at
    found_closed to e =
        ap (λ m. accepts (record { kind = kind; triple = t; offset = at + p + n; size = to - (at + p + n); start = at; end = to + m })) en
        ∙ found_is (closed to) e

    pub closed_in : (to : ℕ) → closed to ≡ closing s (get_or s (at + p) 0) t (at + p + n) → (at + p + n ≤ to) × (to + n ≤ length s)
    unfolding closed_at
    closed_in to e =
        let f = found_is (closed to) e in
        let h = rw (← f) at (literal_at_lem s at known) in
        let l = literal_lies s _ h.1 in
        let a = h.1.last in
        (omega (arith, en), omega (arith, en, l.within))
