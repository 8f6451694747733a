-- A refusal whose numbers fit is told as it is. Assumes nothing.
use Rattle.std.proofs.Common.{◌≡◌, ℕ, ◌+◌, ◌<◌, refl, arith}
use Rattle.definition.specs.Counts.{Count}
use Rattle.definition.specs.Escapes.{Fault}
use Rattle.definition.specs.Entry.{Literal, place_of}
use Rattle.definition.specs.Reading.{opened_at}
use Rattle.records.proofs.Counting.{word_small, plus_small}
use Rattle.wholes.specs.Wholes.{refused_in}

-- its taken bytes and their place, the place of its bracket, its line and column and the characters before it
pub record Small (l : Literal) (x : Fault) (k : Count) (before : ℕ) : Type 0 where
  pub taken : x.taken < 4294967296
  pub place : place_of l x.taken < 4294967296
  pub bracket : opened_at l x < 4294967296
  pub line : k.line < 4294967296
  pub column : k.column < 4294967296
  pub chars : before + k.chars < 4294967296

pub refused_small : (l : Literal) (i : ℕ) (x : Fault) (k : Count) (before : ℕ) → Small l x k before
    → refused_in l i x k before
    ≡ record { number = x.number; literal = i; place = place_of l x.taken; a = x.a; b = x.b; opened = opened_at l x; line = k.line; column = k.column; chars = before + k.chars }
unfolding refused_in
refused_small l i x k before h =
    rw (plus_small before k.chars (omega (arith, h.chars)), word_small x.taken h.taken, word_small (place_of l x.taken) h.place, word_small (opened_at l x) h.bracket, word_small k.line h.line, word_small k.column h.column, word_small (before + k.chars) h.chars)
    refl
