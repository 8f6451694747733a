-- The pieces that a text had before are kept in front of what it gives. Assumes nothing.
use mathlib.Core.Path.{◌≡◌, refl, sym, ◌∙◌, ap}
use mathlib.Core.List.{List, [], ◌++◌, append_assoc}
use Prim.Native.Nat.{ℕ, zero, suc}
use Rattle.definition.specs.Chars.{next}
use Rattle.definition.specs.Escapes.{Naming, Read, got, refused}
use Rattle.definition.specs.Body.{Piece, Move, goes, stops, calls, ends, filled, fresh, text_move, text_n, field_n}
use Rattle.definition_laws.proofs.Moves.Steps.{text_goes, text_stops, text_ends, text_got, text_refused}

-- a reading with pieces in front
abbrev pub following : List Piece → Read (List Piece) → Read (List Piece)
following ps (got qs j) = got (ps ++ qs) j
following ps (refused x) = refused x

twice : (ps qs : List Piece) (r : Read (List Piece)) → following (ps ++ qs) r ≡ following ps (following qs r)
twice ps qs (got rs j) = ap (λ l. got l j) (append_assoc ps qs rs)
twice ps qs (refused x) = refl

pub text_prefix : (look : Naming) → (n kind : ℕ) (s : List ℕ) (depth i : ℕ) (text : List ℕ) (ps : List Piece) → text_n look n kind s depth i text ps ≡ following ps (text_n look n kind s depth i text [])
unfolding text_n
text_prefix look zero kind s depth i text ps = refl
text_prefix look (suc n) kind s depth i text ps = go (text_prefix look n kind s depth) (text_move look kind s depth i text) refl
  where
    Prefixed : Type 0
    Prefixed = (i : ℕ) (text : List ℕ) (ps : List Piece) → text_n look n kind s depth i text ps ≡ following ps (text_n look n kind s depth i text [])

    after : Prefixed → (r : Read (List Piece)) → field_n look n kind s depth (next s i) (next s i) fresh ≡ r → text_move look kind s depth i text ≡ calls → text_n look (suc n) kind s depth i text ps ≡ following ps (text_n look (suc n) kind s depth i text [])
    after ih (got qs j) f e =
        text_got look n kind s depth i text ps qs j e f
        ∙ ih j [] (ps ++ filled depth text ++ qs)
        ∙ ap (λ l. following l (text_n look n kind s depth j [] [])) (append_assoc ps (filled depth text) qs)
        ∙ twice ps (filled depth text ++ qs) (text_n look n kind s depth j [] [])
        ∙ ap (following ps) (sym (ih j [] (filled depth text ++ qs)))
        ∙ ap (following ps) (sym (text_got look n kind s depth i text [] qs j e f))
    after ih (refused x) f e =
        text_refused look n kind s depth i text ps x e f ∙ ap (following ps) (sym (text_refused look n kind s depth i text [] x e f))

    go : Prefixed → (x : Move (List ℕ)) → text_move look kind s depth i text ≡ x → text_n look (suc n) kind s depth i text ps ≡ following ps (text_n look (suc n) kind s depth i text [])
    go ih (goes j text') e = text_goes look n kind s depth i text ps j text' e ∙ ih j text' ps ∙ ap (following ps) (sym (text_goes look n kind s depth i text [] j text' e))
    go ih (stops x) e = text_stops look n kind s depth i text ps x e ∙ ap (following ps) (sym (text_stops look n kind s depth i text [] x e))
    go ih calls e = after ih (field_n look n kind s depth (next s i) (next s i) fresh) refl e
    go ih ends e = text_ends look n kind s depth i text ps e ∙ ap (following ps) (sym (text_ends look n kind s depth i text [] e))
