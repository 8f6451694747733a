-- What the pass writes at one record, by the open specs before and after it. Assumes nothing.
use Rattle.std.specs.Prelude.{if◌then◌else◌}
use mathlib.Core.Path.{◌≡◌, refl, sym, ◌∙◌, ap, ap₂}
use mathlib.Core.Bool.{Bool, true, false}
use mathlib.Core.List.{List, [], ◌∷◌, ◌++◌, append_assoc}
use Prim.Native.Nat.{ℕ, ◌+◌, ◌-◌, ◌≤◌}
use native.Mathlib.Omega.{arith}
use lib.Dec.{eqb}
use lib.ListN.{length, replicate}
use borrow.Author.Tests.{eq-eqb, ne_eqb}
use Rattle.definition.specs.Chars.{part}
use Rattle.definition.specs.Records.{Record}
use Rattle.definition_written.specs.Written.{early, own_text, spelled_text, spelled_conversion}
use Rattle.definition_written.specs.Passes.{Open, opened, standing, drained, closers, took_text, took_field, passed}
use Rattle.opens.specs.declared.Opens.{Opens}
use Rattle.opens.specs.Opens.{where_of, os_of}
use Rattle.opens.proofs.OpenLaws.{standing_of, length_of}
use Rattle.written.specs.Turns.{piece_of}
use Rattle.written.proofs.PassLaws.{Wrote}

abbrev run : ℕ → List ℕ
run n = replicate n 125

closers_run : (os : List Open) → closers os ≡ run (length (closers os))
unfolding closers
closers_run [] = refl
closers_run (o ∷ os) = go (eqb o.left 0) refl (closers_run os)
  where
    go : (t : Bool) → eqb o.left 0 ≡ t → closers os ≡ run (length (closers os)) → closers (o ∷ os) ≡ run (length (closers (o ∷ os)))
    go true t ih = rw (t, closers) (ap (λ z. 125 ∷ z) ih)
    go false t ih = rw (t, closers) refl

closers_count : (os : List Open) → length (closers os) + length (drained os) ≡ length os
unfolding closers drained
closers_count [] = refl
closers_count (o ∷ os) = go (eqb o.left 0) refl (closers_count os)
  where
    go : (t : Bool) → eqb o.left 0 ≡ t → length (closers os) + length (drained os) ≡ length os → length (closers (o ∷ os)) + length (drained (o ∷ os)) ≡ length (o ∷ os)
    go true t ih = rw (t, closers, drained) (omega arith)
    go false t ih = rw (t, closers, drained) (omega arith)

module _ (text : List ℕ) (o : Opens) (r : Record) where
  abbrev own : List ℕ
  own = part text r.offset (r.offset + r.size)

  -- a spec: nothing
  pub writes_spec : r.kind ≡ 3 → (p : Opens) → os_of p ≡ opened r.parts early ∷ os_of o → (rs : List Record) → passed text (os_of o) (r ∷ rs) ≡ passed text (os_of p) rs
  unfolding passed
  writes_spec k p e rs = rw (eq-eqb r.kind 3 k, passed) (ap (λ os. passed text os rs) (sym e))

  pub piece_spec : r.kind ≡ 3 → (p : Opens) → os_of p ≡ opened r.parts early ∷ os_of o → Wrote text o r p
  unfolding piece_of
  piece_spec k p e rs = writes_spec k p e rs ∙ rw (eq-eqb r.kind 3 k) refl

  module _ (n : r.kind ≡ 3 → ⊥) (many : o.depth ≤ 2) (d : Opens) (few : d.depth ≤ 2) (dr : os_of d ≡ drained (os_of o)) where
    -- the specs that are over
    shuts : closers (os_of o) ≡ run (o.depth - d.depth)
    shuts =
        let a = length_of o.left o.late o.outer o.behind o.depth many in
        let b = length_of d.left d.late d.outer d.behind d.depth few in
        let c = ap length dr in
        let e : length (closers (os_of o)) ≡ o.depth - d.depth = omega (arith, closers_count (os_of o)) in
        closers_run (os_of o) ∙ ap run e

    -- a text
    pub writes_text : r.kind ≡ 1 → (p : Opens) → os_of p ≡ took_text (os_of d) → (rs : List Record)
        → passed text (os_of o) (r ∷ rs) ≡ run (o.depth - d.depth) ++ (spelled_text (where_of d.depth d.late) own ++ passed text (os_of p) rs)
    unfolding passed own_text
    writes_text k p e rs =
        rw (ne_eqb r.kind 3 n, eq-eqb r.kind 1 k, passed)
        (ap₂ (λ x os. x ++ (spelled_text (standing os) own ++ passed text (took_text os) rs)) shuts (sym dr)
        ∙ ap₂ (λ z os. run (o.depth - d.depth) ++ (spelled_text z own ++ passed text os rs)) (standing_of d.left d.late d.outer d.behind d.depth) (sym e))

    -- a field, up to its spec if it has one
    pub writes_field : (r.kind ≡ 1 → ⊥) → (p : Opens) → os_of p ≡ took_field (os_of d) → (rs : List Record)
        → passed text (os_of o) (r ∷ rs) ≡ run (o.depth - d.depth) ++ (123 ∷ (own ++ (spelled_conversion r.mode ++ (if eqb r.parts 0 then 125 else 58) ∷ passed text (os_of p) rs)))
    unfolding passed own_text
    writes_field k p e rs =
        rw (ne_eqb r.kind 3 n, ne_eqb r.kind 1 k, passed)
        (ap₂ (λ x os. x ++ (123 ∷ (own ++ (spelled_conversion r.mode ++ (if eqb r.parts 0 then 125 else 58) ∷ passed text (took_field os) rs)))) shuts (sym dr)
        ∙ ap (λ os. run (o.depth - d.depth) ++ (123 ∷ (own ++ (spelled_conversion r.mode ++ (if eqb r.parts 0 then 125 else 58) ∷ passed text os rs)))) (sym e))

    pub piece_text : r.kind ≡ 1 → (p : Opens) → os_of p ≡ took_text (os_of d) → p.depth ≡ d.depth → p.late ≡ d.late → Wrote text o r p
    unfolding piece_of
    piece_text k p e f g rs =
        writes_text k p e rs
        ∙ sym (append_assoc (run (o.depth - d.depth)) (spelled_text (where_of d.depth d.late) own) (passed text (os_of p) rs))
        ∙ ap₂ (λ x y. (run (o.depth - x) ++ spelled_text (where_of x y) own) ++ passed text (os_of p) rs) (sym f) (sym g)
        ∙ rw (ne_eqb r.kind 3 n, eq-eqb r.kind 1 k) refl

    abbrev end : ℕ
    end = if eqb r.parts 0 then 125 else 58

    one_run : (u v a : List ℕ) (x : ℕ) → 123 ∷ (u ++ (v ++ x ∷ a)) ≡ (123 ∷ (u ++ (v ++ x ∷ []))) ++ a
    one_run u v a x = sym (ap (λ t. 123 ∷ t) (append_assoc u (v ++ x ∷ []) a ∙ ap (λ t. u ++ t) (append_assoc v (x ∷ []) a)))

    pub piece_field : (r.kind ≡ 1 → ⊥) → (p : Opens) → os_of p ≡ took_field (os_of d) → p.depth ≡ d.depth → Wrote text o r p
    unfolding piece_of
    piece_field k p e f rs =
        writes_field k p e rs
        ∙ ap (λ t. run (o.depth - d.depth) ++ t) (one_run own (spelled_conversion r.mode) (passed text (os_of p) rs) end)
        ∙ sym (append_assoc (run (o.depth - d.depth)) (123 ∷ (own ++ (spelled_conversion r.mode ++ end ∷ []))) (passed text (os_of p) rs))
        ∙ ap (λ x. (run (o.depth - x) ++ 123 ∷ (own ++ (spelled_conversion r.mode ++ end ∷ []))) ++ passed text (os_of p) rs) (sym f)
        ∙ rw (ne_eqb r.kind 3 n, ne_eqb r.kind 1 k) refl
