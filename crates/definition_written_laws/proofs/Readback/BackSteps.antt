-- The readers of a kind 1 body with moves enough for all of it: what they do at a place, whatever the moves. Assumes nothing.
use mathlib.Core.Path.{◌≡◌, ◌∙◌}
use mathlib.Core.Bool.{true, false}
use mathlib.Core.List.{List, [], ◌++◌}
use mathlib.Core.Option.{none}
use Prim.Native.Nat.{ℕ, suc, ◌+◌, ◌≤◌, ◌<◌}
use native.Mathlib.Omega.{arith}
use lib.ListN.{length}
use Rattle.definition.specs.Chars.{◌is◌, code, next}
use Rattle.definition.specs.Escapes.{Naming, Fault, Read, got, refused}
use Rattle.definition.specs.Body.{Piece, goes, calls, ends, filled, Field, formatted, fresh, text_move, field_move, finished, specified, first_end, text_n, field_n, spec_n}
use Rattle.definition.proofs.Moves.CharLaws.{next_past, next_in}
use Rattle.definition_laws.proofs.Moves.Steps.{text_goes, text_ends, text_got, text_refused, field_goes, field_ends, field_got, field_refused, first_piece, spec_calls, spec_ends}
use Rattle.definition_laws.proofs.Moves.Fuel.{first_in_lem, text_fuel, field_fuel, spec_fuel}

module _ (look : Naming) (s : List ℕ) where
  -- one move fewer than enough
  abbrev less : ℕ
  less = length s + length s + 1

  abbrev pub text_at : (depth i : ℕ) → List ℕ → List Piece → Read (List Piece)
  text_at depth i t ps = text_n look (suc less) 1 s depth i t ps

  abbrev pub field_at : (depth from i : ℕ) → Field → Read (List Piece)
  field_at depth from i f = field_n look (suc less) 1 s depth from i f

  abbrev pub spec_at : (depth i : ℕ) → Read (List Piece)
  spec_at depth i = spec_n look (suc less) 1 s depth i

  module _ (depth i : ℕ) (t : List ℕ) (ps : List Piece) where
    pub text_on : (j : ℕ) (t' : List ℕ) → text_move look 1 s depth i t ≡ goes j t' → i < j → j ≤ length s → text_at depth i t ps ≡ text_at depth j t' ps
    text_on j t' e h l = text_goes look less 1 s depth i t ps j t' e ∙ text_fuel look less (suc less) 1 s depth j t' ps l (omega arith) (omega arith)

    pub text_over : text_move look 1 s depth i t ≡ ends → text_at depth i t ps ≡ got (ps ++ filled depth t) i
    text_over e = text_ends look less 1 s depth i t ps e

    pub text_field : (qs : List Piece) (j : ℕ) → i < length s → text_move look 1 s depth i t ≡ calls → field_at depth (next s i) (next s i) fresh ≡ got qs j → i < j → j ≤ length s
        → text_at depth i t ps ≡ text_at depth j [] (ps ++ filled depth t ++ qs)
    text_field qs j h e f l m =
        text_got look less 1 s depth i t ps qs j e (field_fuel look less (suc less) 1 s depth (next s i) (next s i) fresh (next_in s i (omega arith)) (omega (arith, next_past s i h)) (omega arith) ∙ f)
        ∙ text_fuel look less (suc less) 1 s depth j [] (ps ++ filled depth t ++ qs) m (omega arith) (omega arith)

    pub text_field_refused : (x : Fault) → i < length s → text_move look 1 s depth i t ≡ calls → field_at depth (next s i) (next s i) fresh ≡ refused x → text_at depth i t ps ≡ refused x
    text_field_refused x h e f =
        text_refused look less 1 s depth i t ps x e (field_fuel look less (suc less) 1 s depth (next s i) (next s i) fresh (next_in s i (omega arith)) (omega (arith, next_past s i h)) (omega arith) ∙ f)

  module _ (depth from i : ℕ) (f : Field) where
    pub field_on : (j : ℕ) (f' : Field) → field_move s i f ≡ goes j f' → i < j → j ≤ length s → field_at depth from i f ≡ field_at depth from j f'
    field_on j f' e h l = field_goes look less 1 s depth from i f j f' e ∙ field_fuel look less (suc less) 1 s depth from j f' l (omega arith) (omega arith)

    pub field_over : field_move s i f ≡ ends → field_at depth from i f ≡ finished depth from (next s i) f none
    field_over e = field_ends look less 1 s depth from i f e

    pub field_spec : (ps : List Piece) (j : ℕ) → i < length s → field_move s i f ≡ calls → spec_at depth (next s i) ≡ got ps j → field_at depth from i f ≡ specified s depth from j (formatted (next s i) f) ps
    field_spec ps j h e g =
        field_got look less 1 s depth from i f ps j e (spec_fuel look less (suc less) 1 s depth (next s i) (next_in s i (omega arith)) (omega (arith, next_past s i h)) (omega (arith, next_past s i h)) ∙ g)

    pub field_spec_refused : (x : Fault) → i < length s → field_move s i f ≡ calls → spec_at depth (next s i) ≡ refused x → field_at depth from i f ≡ refused x
    field_spec_refused x h e g =
        field_refused look less 1 s depth from i f x e (spec_fuel look less (suc less) 1 s depth (next s i) (next_in s i (omega arith)) (omega (arith, next_past s i h)) (omega (arith, next_past s i h)) ∙ g)

  module _ (depth i : ℕ) where
    -- a spec begins after a `:`, so that a move was made before it
    pub spec_text_lem : 0 < i → i ≤ length s → (code s (first_end s i) is "{") ≡ true → spec_at depth i ≡ text_at (suc depth) (first_end s i) [] (first_piece s depth i)
    spec_text_lem z l e =
        spec_calls look less 1 s depth i e
        ∙ text_fuel look less (suc less) 1 s (suc depth) (first_end s i) [] (first_piece s depth i) (first_in_lem s i l) (omega arith) (omega arith)

    pub spec_over : (code s (first_end s i) is "{") ≡ false → spec_at depth i ≡ got (first_piece s depth i) (first_end s i)
    spec_over e = spec_ends look less 1 s depth i e
