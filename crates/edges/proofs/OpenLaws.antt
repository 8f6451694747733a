-- Where a field opens, by the character at a place and the one after it. Assumes nothing.
use mathlib.Core.Path.{◌≡◌, refl, sym, ◌∙◌}
use mathlib.Core.Bool.{not}
use mathlib.Core.List.{List, []}
use Prim.Native.Nat.{ℕ, ◌≤◌, ◌<◌}
use native.Mathlib.Omega.{arith}
use borrow.Author.Tests.{le-leb, lt-leb, eqb-true, eq-eqb, ne_eqb}
use lib.Dec.{eqb}
use lib.ListN.{length}
use Rattle.definition.specs.Chars.{no_code, code, next}
use Rattle.definition.specs.Escapes.{got, refused}
use Rattle.definition.specs.Escapes as d
use Rattle.definition.specs.Body.{Move, calls, with_escape, TextCase, deep, opens, last, doubled, lone, text_case, text_move}
use Rattle.definition_laws.proofs.Moves.Cases.{text_told}
use Rattle.utf8.specs.declared.Cursor.{Cursor}
use Rattle.utf8.proofs.Steps.{Stepped}
use Rattle.definition.proofs.Moves.CharLaws.{cases, no}
use Rattle.texts.specs.Text.{Whether}
use Rattle.edges.specs.Edges.{Opens}

code_end : (s : List ℕ) (i : ℕ) → length s ≤ i → code s i ≡ no_code
unfolding code
code_end s i h = rw (le-leb (length s) i h, code) refl

module _ (s : List ℕ) (i : ℕ) where
  pub past_end : length s ≤ i → Opens s i → ⊥
  unfolding text_move text_case
  past_end h o = let q = rw (le-leb (length s) i h, text_move, text_case) at o in let z : ◌≡◌ {A = ℕ} 0 1 = cc in omega arith

  -- a `{` stands there
  brace_there : Opens s i → code s i ≡ 0x7B
  unfolding text_move with_escape
  brace_there o = go (text_case 1 s 0 i) refl
    where
      never : {P : Type 0} (m : Move (List ℕ)) → m ≡ calls → (m ≡ calls → ◌≡◌ {A = ℕ} 0 1) → P
      never m e f = let z = f e in absurd (omega arith)

      escaped : (r : d.Read d.Meaning) → with_escape 1 s i [] r ≡ calls → ◌≡◌ {A = ℕ} 0 1
      escaped (got m j) e = cc
      escaped (refused x) e = cc

      go : (x : TextCase) → text_case 1 s 0 i ≡ x → code s i ≡ 0x7B
      go opens e = text_told s i 1 0 opens e
      go deep e = never _ (rw (e, text_move) at o) (λ q. cc)
      go TextCase.over e = never _ (rw (e, text_move) at o) (λ q. cc)
      go last e = never _ (rw (e, text_move) at o) (λ q. cc)
      go doubled e = never _ (rw (e, text_move) at o) (λ q. cc)
      go lone e = never _ (rw (e, text_move) at o) (λ q. cc)
      go TextCase.escapes e = never _ (rw (e, text_move) at o) (escaped (d.escape d.held_names 1 s (next s i)))
      go TextCase.plain e = never _ (rw (e, text_move) at o) (λ q. cc)

  pub no_brace : (c : ℕ) (k : Cursor) → Stepped s i c k → (c ≡ 0x7B → ⊥) → Opens s i → ⊥
  no_brace c k t n o = n (sym t.code_is ∙ brace_there o)

  module _ (k : Cursor) (t : Stepped s i 0x7B k) where
    pub last_brace_lem : length s ≤ k.at → Opens s i → ⊥
    unfolding text_move text_case
    last_brace_lem h o = let q = rw (lt-leb _ _ t.there, t.code_is, t.next_is, code_end s k.at h, le-leb _ _ h, text_move, text_case) at o in let z : ◌≡◌ {A = ℕ} 0 1 = cc in omega arith

    module _ (c : ℕ) (m : Cursor) (u : Stepped s k.at c m) where
      pub doubled_brace : c ≡ 0x7B → Opens s i → ⊥
      unfolding text_move text_case
      doubled_brace e o = let q = rw (lt-leb _ _ t.there, t.code_is, t.next_is, u.code_is, e, text_move, text_case) at o in let z : ◌≡◌ {A = ℕ} 0 1 = cc in omega arith

      pub brace_opens : (c ≡ 0x7B → ⊥) → Opens s i
      unfolding text_move text_case
      brace_opens e = rw (lt-leb _ _ t.there, t.code_is, t.next_is, u.code_is, ne_eqb _ _ e, lt-leb _ _ u.there, text_move, text_case) refl

      pub brace_told : Whether (not (eqb c 0x7B)) ((i < length s) × Opens s i) (Opens s i → ⊥)
      brace_told = cases (eqb c 0x7B) (λ e. rw e (doubled_brace (eqb-true c 0x7B e))) (λ e. rw e (t.there, brace_opens (λ z. no (sym e ∙ eq-eqb c 0x7B z))))
