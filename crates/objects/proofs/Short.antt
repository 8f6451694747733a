-- How long lines are, and lines from the front of a buffer on. Assumes nothing.
use Rattle.std.specs.Prelude.{if◌then◌else◌}
use mathlib.Core.Path.{◌≡◌, refl, sym}
use mathlib.Core.Bool.{Bool, true, false}
use mathlib.Core.List.{List}
use Prim.Native.Nat.{ℕ, ◌+◌, ◌*◌, ◌≤◌, ◌<◌}
use native.Mathlib.Omega.{arith}
use borrow.Author.Tests.{lt-ltb, le-ltb}
use lib.Dec.{eqb}
use lib.ListN.{length, length-append}
use Rattle.definition.specs.Chars.{ascii}
use Rattle.definition_lines.specs.Lines.{literal_line, field_line, spec_line, refusal_line, line_of}
use Rattle.definition_lines.specs.Why.{written_end, reason_end, why_line}
use Rattle.buffers.proofs.Over.{over_nil}
use Rattle.objects.specs.Written.{Adds, Puts, of_text}
use Rattle.objects.proofs.Texts.{decimal_short, escaped_short}

-- HOW LONG LINES ARE, where numbers are of 32 bits: at most 70 bytes, and six for each byte of text
abbrev pub Small : ℕ → Type 0
Small n = n < 4294967296

pub refusal_short : (number place a b : ℕ) → Small number → Small place → Small a → Small b → length (refusal_line number place a b) ≤ 70
unfolding refusal_line ascii
refusal_short n p a b hn hp ha hb = simp length-append (omega (arith, decimal_short n hn, decimal_short p hp, decimal_short a ha, decimal_short b hb))

pub line_short : (kind : ℕ) (text : List ℕ) (mode parts place : ℕ) → Small mode → Small parts → Small place → length (line_of kind text mode parts place) ≤ 70 + 6 * length text
unfolding line_of literal_line field_line spec_line ascii
line_short kind text mode parts place hm hp hl = go (eqb kind 2) (eqb kind 3)
  where
    go : (x y : Bool) → length (if x then field_line text mode place else if y then spec_line parts else literal_line text) ≤ 70 + 6 * length text
    go true y = simp length-append (omega (arith, escaped_short text, decimal_short mode hm, decimal_short place hl))
    go false true = simp length-append (omega (arith, decimal_short parts hp))
    go false false = simp length-append (omega (arith, escaped_short text))

reason_short : (reason bang : ℕ) → Small bang → length (reason_end reason bang) ≤ 30
unfolding reason_end written_end ascii
reason_short reason bang h = go (eqb reason 1) (eqb reason 2) (eqb reason 3)
  where
    go : (x y z : Bool) → length (if x then written_end bang else if y then ascii "none\"}\n" else if z then ascii "repr\"}\n" else ascii "spec\"}\n") ≤ 30
    go true y z = simp length-append (omega (arith, decimal_short bang h))
    go false true z = omega arith
    go false false true = omega arith
    go false false false = omega arith

pub why_short : (text : List ℕ) (place reason bang : ℕ) → Small place → Small bang → length (why_line text place reason bang) ≤ 70 + 6 * length text
unfolding why_line ascii
why_short text place reason bang p b = simp length-append (omega (arith, escaped_short text, decimal_short place p, reason_short reason bang b))

-- FROM THE FRONT ON
pub in_front_lem : {xs b b' : List ℕ} {r : ℕ} → Adds xs b 0 b' r → Puts xs b b' r
in_front_lem p = let u = p.up in (omega arith, p.wrote)

-- a text that is too long, and one that is not
pub long_text : (text line b : List ℕ) → 0xFFFFFFFF < length text → Puts (of_text text line) b b 0
unfolding of_text
long_text text line b h = rw (lt-ltb 0xFFFFFFFF (length text) h) (refl, sym (over_nil b 0))

pub short_text : (text line : List ℕ) → length text ≤ 0xFFFFFFFF → of_text text line ≡ line
unfolding of_text
short_text text line h = rw (le-ltb 0xFFFFFFFF (length text) h)

pub text_line : (text line : List ℕ) {b b' : List ℕ} {r : ℕ} → length text ≤ 0xFFFFFFFF → Adds line b 0 b' r → Puts (of_text text line) b b' r
text_line text line h p = rw (short_text text line h) (in_front_lem p)
