-- What the case of a character in a field, or in f-string text, tells of it. Assumes nothing.
use Rattle.std.specs.Prelude.{if◌then◌else◌}
use mathlib.Core.Path.{◌≡◌, refl, subst}
use mathlib.Core.Bool.{Bool, true, false, ◌&&◌, not, false≢true}
use mathlib.Core.List.{List}
use Prim.Native.Nat.{ℕ, ◌<◌}
use native.Mathlib.Omega.{arith}
use lib.Dec.{leb, eqb}
use lib.ListN.{length}
use borrow.Author.Tests.{leb-true, leb-false, eqb-true}
use Rattle.definition.specs.Numbers.{is_raw}
use Rattle.definition.specs.Chars.{◌is◌, at_end, code, next}
use Rattle.definition.specs.Body.{FieldCase, pair, converts, documents, formats, opener, closes, closer, quote, space, backslash, stray, field_case, too_deep, TextCase, deep, opens, last, doubled, lone, text_case}
use Rattle.definition_laws.specs.IsMatched.{Calm}

pub and_both : (a b : Bool) → (a && b) ≡ true → (a ≡ true) × (b ≡ true)
and_both true b e = (refl, e)
and_both false b e = absurd (false≢true e)

-- what is told of the first of some cases whose test passes
module _ {Case : Type 0} (Tells : Case → Type 0) where
  pub record Told (x : Case) : Type 0 where
    pub it : Tells x

  pub chosen : (t : Bool) (x : Case) {y : Case} → (t ≡ true → Tells x) → (t ≡ false → Told y) → Told (if t then x else y)
  chosen true x p q = record { it = p refl }
  chosen false x p q = q refl

module _ (s : List ℕ) (i : ℕ) (out : Bool) where
  -- the character is c, outside brackets
  abbrev Sign : ℕ → Type 0
  Sign c = (out ≡ true) × (code s i ≡ c)

  abbrev pub Tells : FieldCase → Type 0
  Tells FieldCase.over = Unit {0}
  Tells pair = ((code s i is "!=><") ≡ true) × (code s (next s i) ≡ 61)
  Tells converts = Sign 33
  Tells documents = Sign 61
  Tells formats = Sign 58
  Tells opener = (code s i is "([{") ≡ true
  Tells closes = Sign 125
  Tells closer = (code s i is ")]}") ≡ true
  Tells quote = (code s i is "\"'") ≡ true
  Tells space = code s i ≡ 32
  Tells backslash = Unit {0}
  Tells stray = Unit {0}
  Tells FieldCase.plain = (i < length s) × Calm (code s i)

  sign : (c : ℕ) → (eqb (code s i) c && out) ≡ true → Sign c
  sign c t = let b = and_both (eqb (code s i) c) out t in (b.1, eqb-true _ _ b.0)

  tells : (doc : Bool) → Told Tells (field_case s i out doc)
  unfolding field_case
  tells doc =
      let c = code s i in
      chosen Tells (at_end s i) FieldCase.over (λ t. tt) (λ h.
      chosen Tells (c is "!=><" && code s (next s i) is "=") pair (λ t. let b = and_both (c is "!=><") _ t in (b.0, eqb-true _ _ b.1)) (λ t.
      chosen Tells (c is "!" && out) converts (sign 33) (λ t.
      chosen Tells (c is "=" && out) documents (sign 61) (λ t.
      chosen Tells (c is ":" && out) formats (sign 58) (λ t.
      chosen Tells (c is "([{") opener (λ t. t) (λ o.
      chosen Tells (c is "}" && out) closes (sign 125) (λ t.
      chosen Tells (c is ")]}") closer (λ t. t) (λ k.
      chosen Tells (c is "\"'") quote (λ t. t) (λ q.
      chosen Tells (c is " " && doc) space (λ t. eqb-true _ _ (and_both (c is " ") _ t).0) (λ t.
      chosen Tells (c is "\\") backslash (λ t. tt) (λ e.
      chosen Tells doc stray (λ t. tt) (λ t. record { it = (leb-false (length s) i h, (q, o, k, e)) }))))))))))))

  pub told : (doc : Bool) (x : FieldCase) → field_case s i out doc ≡ x → Tells x
  told doc x e = subst (λ (x : FieldCase). Tells x) e (tells doc).it

-- f-string text ends with the body or at a `}`, and a field opens at a `{`
module _ (s : List ℕ) (i : ℕ) where
  abbrev pub TextTells : TextCase → Type 0
  TextTells deep = Unit {0}
  TextTells TextCase.over = i < length s → code s i ≡ 125
  TextTells opens = code s i ≡ 123
  TextTells last = Unit {0}
  TextTells doubled = Unit {0}
  TextTells lone = Unit {0}
  TextTells TextCase.escapes = Unit {0}
  TextTells TextCase.plain = Unit {0}

  text_tells : (kind depth : ℕ) → Told TextTells (text_case kind s depth i)
  unfolding text_case
  text_tells kind depth =
      let c = code s i in
      let c' = code s (next s i) in
      chosen TextTells (leb too_deep depth) deep (λ t. tt) (λ t.
      chosen TextTells (at_end s i) TextCase.over (λ t l. absurd (omega (arith, leb-true (length s) i t))) (λ t.
      chosen TextTells (c is "{" && eqb depth 0 && c' is "{") doubled (λ t. tt) (λ t.
      chosen TextTells (c is "{" && eqb depth 0 && at_end s (next s i)) last (λ t. tt) (λ t.
      chosen TextTells (c is "{") opens (λ t. eqb-true _ _ t) (λ t.
      chosen TextTells (c is "}" && not (eqb depth 0)) TextCase.over (λ t l. eqb-true _ _ (and_both (c is "}") _ t).0) (λ t.
      chosen TextTells (c is "}" && c' is "}") doubled (λ t. tt) (λ t.
      chosen TextTells (c is "}") lone (λ t. tt) (λ t.
      chosen TextTells (c is "\\" && not (is_raw kind) && not (c' is "{}")) TextCase.escapes (λ t. tt) (λ t. record { it = tt })))))))))

  pub text_told : (kind depth : ℕ) (x : TextCase) → text_case kind s depth i ≡ x → TextTells x
  text_told kind depth x e = subst (λ (x : TextCase). TextTells x) e (text_tells kind depth).it
