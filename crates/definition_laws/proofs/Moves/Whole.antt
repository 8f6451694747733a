-- The readers over a whole body, with the one number of moves that serves every place in it: what a proof of code cites. Assumes nothing.
use mathlib.Core.Path.{◌≡◌, ◌∙◌, ap}
use mathlib.Core.Bool.{true, false}
use mathlib.Core.List.{List, [], ◌++◌}
use mathlib.Core.Option.{none}
use Prim.Native.Nat.{ℕ, suc, ◌+◌, ◌≤◌, ◌<◌}
use native.Mathlib.Omega.{arith}
use lib.ListN.{length}
use Rattle.definition.specs.Chars.{◌is◌, code, next}
use Rattle.definition.specs.Escapes.{Naming, Fault, got, refused}
use Rattle.definition.specs.Body.{Piece, goes, stops, calls, ends, string_move, string_n, filled, Field, formatted, fresh, text_move, field_move, finished, specified, first_end, text_n, field_n, spec_n, enough}
use Rattle.definition.proofs.Moves.CharLaws.{next_in, next_past}
use Rattle.definition_laws.proofs.Moves.Steps.{string_goes, string_stops, string_ends, text_goes, text_stops, text_ends, text_got, text_refused, field_goes, field_stops, field_ends, field_got, field_refused, first_piece, spec_calls, spec_ends}
use Rattle.definition_laws.proofs.Moves.Fuel.{first_in_lem, string_fuel, text_fuel, field_fuel, spec_fuel}

-- one move less than enough
abbrev less : List ℕ → ℕ
less s = length s + length s + 1

one_less : (s : List ℕ) → enough s ≡ suc (less s)
one_less s = omega arith

module _ (look : Naming) (kind : ℕ) (s : List ℕ) (i : ℕ) (text : List ℕ) where
  pub string_on : (j : ℕ) (text' : List ℕ) → j ≤ length s → string_move look kind s i text ≡ goes j text' → string_n look (enough s) kind s i text ≡ string_n look (enough s) kind s j text'
  string_on j text' l e =
      ap (λ n. string_n look n kind s i text) (one_less s) ∙ string_goes look (less s) kind s i text j text' e ∙ string_fuel look (less s) (enough s) kind s j text' l (omega arith) (omega arith)

  pub string_stop : (x : Fault) → string_move look kind s i text ≡ stops x → string_n look (enough s) kind s i text ≡ refused x
  string_stop x e = ap (λ n. string_n look n kind s i text) (one_less s) ∙ string_stops look (less s) kind s i text x e

  pub string_end : string_move look kind s i text ≡ ends → string_n look (enough s) kind s i text ≡ got text i
  string_end e = ap (λ n. string_n look n kind s i text) (one_less s) ∙ string_ends look (less s) kind s i text e

module _ (look : Naming) (kind : ℕ) (s : List ℕ) (depth i : ℕ) (text : List ℕ) (ps : List Piece) where
  pub text_on : (j : ℕ) (text' : List ℕ) → j ≤ length s → text_move look kind s depth i text ≡ goes j text' → text_n look (enough s) kind s depth i text ps ≡ text_n look (enough s) kind s depth j text' ps
  text_on j text' l e =
      ap (λ n. text_n look n kind s depth i text ps) (one_less s)
      ∙ text_goes look (less s) kind s depth i text ps j text' e
      ∙ text_fuel look (less s) (enough s) kind s depth j text' ps l (omega arith) (omega arith)

  pub text_stop : (x : Fault) → text_move look kind s depth i text ≡ stops x → text_n look (enough s) kind s depth i text ps ≡ refused x
  text_stop x e = ap (λ n. text_n look n kind s depth i text ps) (one_less s) ∙ text_stops look (less s) kind s depth i text ps x e

  pub text_end : text_move look kind s depth i text ≡ ends → text_n look (enough s) kind s depth i text ps ≡ got (ps ++ filled depth text) i
  text_end e = ap (λ n. text_n look n kind s depth i text ps) (one_less s) ∙ text_ends look (less s) kind s depth i text ps e

  module _ (l : i ≤ length s) (e : text_move look kind s depth i text ≡ calls) where
    -- the field's reading, with one move less
    same_field : field_n look (less s) kind s depth (next s i) (next s i) fresh ≡ field_n look (enough s) kind s depth (next s i) (next s i) fresh
    same_field = field_fuel look (less s) (enough s) kind s depth (next s i) (next s i) fresh (next_in s i l) (omega arith) (omega arith)

    pub text_field : (qs : List Piece) (j : ℕ) → j ≤ length s → field_n look (enough s) kind s depth (next s i) (next s i) fresh ≡ got qs j
        → text_n look (enough s) kind s depth i text ps ≡ text_n look (enough s) kind s depth j [] (ps ++ filled depth text ++ qs)
    text_field qs j k f =
        ap (λ n. text_n look n kind s depth i text ps) (one_less s)
        ∙ text_got look (less s) kind s depth i text ps qs j e (same_field ∙ f)
        ∙ text_fuel look (less s) (enough s) kind s depth j [] (ps ++ filled depth text ++ qs) k (omega arith) (omega arith)

    pub text_field_stop : (x : Fault) → field_n look (enough s) kind s depth (next s i) (next s i) fresh ≡ refused x → text_n look (enough s) kind s depth i text ps ≡ refused x
    text_field_stop x f =
        ap (λ n. text_n look n kind s depth i text ps) (one_less s) ∙ text_refused look (less s) kind s depth i text ps x e (same_field ∙ f)

module _ (look : Naming) (kind : ℕ) (s : List ℕ) (depth from i : ℕ) (f : Field) where
  pub field_on : (j : ℕ) (f' : Field) → j ≤ length s → field_move s i f ≡ goes j f' → field_n look (enough s) kind s depth from i f ≡ field_n look (enough s) kind s depth from j f'
  field_on j f' l e =
      ap (λ n. field_n look n kind s depth from i f) (one_less s)
      ∙ field_goes look (less s) kind s depth from i f j f' e
      ∙ field_fuel look (less s) (enough s) kind s depth from j f' l (omega arith) (omega arith)

  pub field_stop : (x : Fault) → field_move s i f ≡ stops x → field_n look (enough s) kind s depth from i f ≡ refused x
  field_stop x e = ap (λ n. field_n look n kind s depth from i f) (one_less s) ∙ field_stops look (less s) kind s depth from i f x e

  pub field_end_lem : field_move s i f ≡ ends → field_n look (enough s) kind s depth from i f ≡ finished depth from (next s i) f none
  field_end_lem e = ap (λ n. field_n look n kind s depth from i f) (one_less s) ∙ field_ends look (less s) kind s depth from i f e

  module _ (h : i < length s) (e : field_move s i f ≡ calls) where
    -- the spec's reading, with one move less
    same_spec : spec_n look (less s) kind s depth (next s i) ≡ spec_n look (enough s) kind s depth (next s i)
    same_spec =
        let n = next_past s i h in
        spec_fuel look (less s) (enough s) kind s depth (next s i) (next_in s i (omega arith)) (omega arith) (omega arith)

    pub field_spec : (ps : List Piece) (j : ℕ) → spec_n look (enough s) kind s depth (next s i) ≡ got ps j → field_n look (enough s) kind s depth from i f ≡ specified s depth from j (formatted (next s i) f) ps
    field_spec ps j g = ap (λ n. field_n look n kind s depth from i f) (one_less s) ∙ field_got look (less s) kind s depth from i f ps j e (same_spec ∙ g)

    pub field_spec_stop : (x : Fault) → spec_n look (enough s) kind s depth (next s i) ≡ refused x → field_n look (enough s) kind s depth from i f ≡ refused x
    field_spec_stop x g =
        ap (λ n. field_n look n kind s depth from i f) (one_less s) ∙ field_refused look (less s) kind s depth from i f x e (same_spec ∙ g)

module _ (look : Naming) (kind : ℕ) (s : List ℕ) (depth i : ℕ) where
  pub spec_text_lem : i ≤ length s → (code s (first_end s i) is "{") ≡ true
      → spec_n look (enough s) kind s depth i ≡ text_n look (enough s) kind s (suc depth) (first_end s i) [] (first_piece s depth i)
  spec_text_lem l e =
      ap (λ n. spec_n look n kind s depth i) (one_less s)
      ∙ spec_calls look (less s) kind s depth i e
      ∙ text_fuel look (less s) (enough s) kind s (suc depth) (first_end s i) [] (first_piece s depth i) (first_in_lem s i l) (omega arith) (omega arith)

  pub spec_end : (code s (first_end s i) is "{") ≡ false → spec_n look (enough s) kind s depth i ≡ got (first_piece s depth i) (first_end s i)
  spec_end e = ap (λ n. spec_n look n kind s depth i) (one_less s) ∙ spec_ends look (less s) kind s depth i e
