-- What the text of an escape tells of its end. Assumes nothing.
use mathlib.Core.Path.{◌≡◌, refl, sym, ◌∙◌}
use mathlib.Core.List.{List, []}
use mathlib.Core.Logic.{◌⊎◌, inl, inr}
use Prim.Native.Nat.{ℕ}
use Rattle.definition.specs.Escapes.{Fault, Read, got, refused, Meaning}
use Rattle.definition.specs.Body.{with_escape}
use Rattle.utf8.specs.declared.Cursor.{Cursor}
use Rattle.marks.specs.declared.Refusal.{Refusal}
use Rattle.texts.specs.declared.Piece.{Piece}
use Rattle.texts.specs.declared.Piece.TheVariants.{On, Field, Over, Refused}
use Rattle.texts.specs.Text.{Does}

module _ (s : List ℕ) (i used : ℕ) (text text' : List ℕ) where
  abbrev Tells : Read Meaning → Piece → Type 0
  Tells e (On k n) = (m : Meaning) × (e ≡ got m k.at)
  Tells e (Field k) = ⊥
  Tells e Over = ⊥
  Tells e (Refused x) = (y : Fault) × (e ≡ refused y)

  pub escape_tells : (e : Read Meaning) (r q : Piece) → r ≡ q → Does (with_escape 1 s i [] e) s i used text text' r → Tells e q
  unfolding with_escape
  escape_tells (got m j) r q e D = rw (sym e ∙ D.0) (m, refl)
  escape_tells (refused x) r q e D = rw (sym e ∙ D.0) (x, refl)

  pub refused_tells : (e : Read Meaning) (r : Piece) → ((k : Cursor) × (r ≡ Field k)) ⊎ ((r ≡ Over) ⊎ ((x : Refusal) × (r ≡ Refused x))) → Does (with_escape 1 s i [] e) s i used text text' r
      → (y : Fault) × (e ≡ refused y)
  refused_tells e r (inl (k, q)) D = absurd (escape_tells e r (Field k) q D)
  refused_tells e r (inr (inl q)) D = absurd (escape_tells e r Over q D)
  refused_tells e r (inr (inr (x, q))) D = escape_tells e r (Refused x) q D
