-- What a reader does at each move: the equations that a proof about it goes by. Assumes nothing.
use mathlib.Core.Path.{◌≡◌}
use mathlib.Core.Bool.{true, false}
use mathlib.Core.List.{List, [], ◌++◌}
use Prim.Native.Nat.{ℕ, suc}
use mathlib.Core.Option.{none}
use Rattle.definition.specs.Chars.{◌is◌, part, code, next}
use Rattle.definition.specs.Escapes.{Naming, Fault, got, refused}
use Rattle.definition.specs.Body.{Piece, goes, stops, calls, ends, string_move, string_n, filled, Field, formatted, fresh, text_move, field_move, finished, specified, first_end, text_n, field_n, spec_n}

module _ (look : Naming) (n kind : ℕ) (s : List ℕ) (i : ℕ) (text : List ℕ) where
  pub string_goes : (j : ℕ) (text' : List ℕ) → string_move look kind s i text ≡ goes j text' → string_n look (suc n) kind s i text ≡ string_n look n kind s j text'
  unfolding string_n
  string_goes j text' e = rw (e, string_n)

  pub string_stops : (x : Fault) → string_move look kind s i text ≡ stops x → string_n look (suc n) kind s i text ≡ refused x
  unfolding string_n
  string_stops x e = rw (e, string_n)

  pub string_ends : string_move look kind s i text ≡ ends → string_n look (suc n) kind s i text ≡ got text i
  unfolding string_n
  string_ends e = rw (e, string_n)

module _ (look : Naming) (n kind : ℕ) (s : List ℕ) (depth i : ℕ) (text : List ℕ) (ps : List Piece) where
  pub text_goes : (j : ℕ) (text' : List ℕ) → text_move look kind s depth i text ≡ goes j text' → text_n look (suc n) kind s depth i text ps ≡ text_n look n kind s depth j text' ps
  unfolding text_n
  text_goes j text' e = rw (e, text_n)

  pub text_stops : (x : Fault) → text_move look kind s depth i text ≡ stops x → text_n look (suc n) kind s depth i text ps ≡ refused x
  unfolding text_n
  text_stops x e = rw (e, text_n)

  pub text_ends : text_move look kind s depth i text ≡ ends → text_n look (suc n) kind s depth i text ps ≡ got (ps ++ filled depth text) i
  unfolding text_n
  text_ends e = rw (e, text_n)

  pub text_got : (qs : List Piece) (j : ℕ) → text_move look kind s depth i text ≡ calls → field_n look n kind s depth (next s i) (next s i) fresh ≡ got qs j
      → text_n look (suc n) kind s depth i text ps ≡ text_n look n kind s depth j [] (ps ++ filled depth text ++ qs)
  unfolding text_n
  text_got qs j e f = rw (e, f, text_n)

  pub text_refused : (x : Fault) → text_move look kind s depth i text ≡ calls → field_n look n kind s depth (next s i) (next s i) fresh ≡ refused x
      → text_n look (suc n) kind s depth i text ps ≡ refused x
  unfolding text_n
  text_refused x e f = rw (e, f, text_n)

module _ (look : Naming) (n kind : ℕ) (s : List ℕ) (depth from i : ℕ) (f : Field) where
  pub field_goes : (j : ℕ) (f' : Field) → field_move s i f ≡ goes j f' → field_n look (suc n) kind s depth from i f ≡ field_n look n kind s depth from j f'
  unfolding field_n
  field_goes j f' e = rw (e, field_n)

  pub field_stops : (x : Fault) → field_move s i f ≡ stops x → field_n look (suc n) kind s depth from i f ≡ refused x
  unfolding field_n
  field_stops x e = rw (e, field_n)

  pub field_ends : field_move s i f ≡ ends → field_n look (suc n) kind s depth from i f ≡ finished depth from (next s i) f none
  unfolding field_n
  field_ends e = rw (e, field_n)

  pub field_got : (ps : List Piece) (j : ℕ) → field_move s i f ≡ calls → spec_n look n kind s depth (next s i) ≡ got ps j
      → field_n look (suc n) kind s depth from i f ≡ specified s depth from j (formatted (next s i) f) ps
  unfolding field_n
  field_got ps j e g = rw (e, g, field_n)

  pub field_refused : (x : Fault) → field_move s i f ≡ calls → spec_n look n kind s depth (next s i) ≡ refused x → field_n look (suc n) kind s depth from i f ≡ refused x
  unfolding field_n
  field_refused x e g = rw (e, g, field_n)

-- a spec's first piece
abbrev pub first_piece : List ℕ → ℕ → ℕ → List Piece
first_piece s depth i = filled (suc depth) (part s i (first_end s i))

module _ (look : Naming) (n kind : ℕ) (s : List ℕ) (depth i : ℕ) where
  pub spec_calls : (code s (first_end s i) is "{") ≡ true → spec_n look (suc n) kind s depth i ≡ text_n look n kind s (suc depth) (first_end s i) [] (first_piece s depth i)
  unfolding spec_n
  spec_calls e = rw (e, spec_n)

  pub spec_ends : (code s (first_end s i) is "{") ≡ false → spec_n look (suc n) kind s depth i ≡ got (first_piece s depth i) (first_end s i)
  unfolding spec_n
  spec_ends e = rw (e, spec_n)
