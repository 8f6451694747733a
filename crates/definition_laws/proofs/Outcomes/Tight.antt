-- What one body gives: a record at most for each byte taken (one for a plain literal), and two text bytes at most for each. Assumes nothing.
use Rattle.std.specs.Prelude.{if◌then◌else◌}
use mathlib.Core.Path.{◌≡◌, refl}
use mathlib.Core.Bool.{Bool, true, false}
use mathlib.Core.List.{List, [], ◌∷◌, ◌++◌}
use mathlib.Core.Option.{Option, none, some}
use Prim.Native.Nat.{ℕ, zero, suc, ◌+◌, ◌*◌, ◌≤◌, ◌<◌}
use native.Mathlib.Omega.{arith}
use borrow.Author.Tests.{leb-false}
use lib.ListN.{length, length-append, length-replicate}
use Rattle.definition.specs.Numbers.{is_fstring}
use Rattle.definition.specs.Chars.{◌is◌, part, at_end, code, next}
use Rattle.definition.specs.Escapes.{Naming, Read, got, refused}
use Rattle.definition.specs.Body.{Piece, literal, field, spec, Move, goes, stops, calls, ends, string_move, string_n, filled, Field, state, with_close, formatted, fresh, text_move, field_move, conversion_of, field_pieces, self_documenting, finished, specified, first_end, text_n, field_n, spec_n, enough, alone, read_body}
use Rattle.definition.proofs.Moves.CharLaws.{next_past, next_in}
use Rattle.definition_laws.proofs.Moves.Moves.{text_size, Ahead, part_short, string_ahead, text_ahead, field_size, FieldAhead, field_ahead}
use Rattle.definition_laws.proofs.Moves.Steps.{string_goes, string_stops, string_ends, text_goes, text_stops, text_ends, text_got, text_refused, field_goes, field_stops, field_ends, field_got, field_refused, first_piece, spec_calls, spec_ends}
use Rattle.definition_laws.proofs.Moves.Fuel.{first_in_lem}

-- the text bytes of pieces
abbrev pub bytes : List Piece → ℕ
bytes [] = 0
bytes (literal d t ∷ ps) = length t + bytes ps
bytes (field d e c n i g ∷ ps) = length e + bytes ps
bytes (spec n ∷ ps) = bytes ps

-- a reading from i on with n records and t text bytes written or pending: at most one record and two text bytes more for each byte it takes
abbrev pub Tight : ℕ → ℕ → List ℕ → ℕ → Read (List Piece) → Type 0
Tight n t s i (got ps j) = (i ≤ j) × (j ≤ length s) × (length ps + i ≤ n + j) × (bytes ps + 2 * i ≤ t + 2 * j)
Tight n t s i (refused x) = Unit {0}

-- from a later place on
tighter : (n n' t t' : ℕ) (s : List ℕ) (i j : ℕ) (r : Read (List Piece)) → i ≤ j → n' + i ≤ n + j → t' + 2 * i ≤ t + 2 * j → Tight n' t' s j r → Tight n t s i r
tighter n n' t t' s i j (got ps k) h p q r = (omega arith, r.1, omega arith, omega arith)
tighter n n' t t' s i j (refused x) h p q r = tt

bytes_append : (ps qs : List Piece) → bytes (ps ++ qs) ≡ bytes ps + bytes qs
bytes_append [] qs = omega arith
bytes_append (literal d t ∷ ps) qs = omega (arith, bytes_append ps qs)
bytes_append (field d e c n i g ∷ ps) qs = omega (arith, bytes_append ps qs)
bytes_append (spec n ∷ ps) qs = omega (arith, bytes_append ps qs)

-- pending text is one record, if there is any
abbrev pending : List ℕ → ℕ
pending [] = 0
pending (b ∷ text) = 1

pending_most : (text : List ℕ) → (pending text ≤ 1) × (pending text ≤ length text)
pending_most [] = (omega arith, omega arith)
pending_most (b ∷ text) = (omega arith, omega arith)

filled_tight : (depth : ℕ) (text : List ℕ) → (length (filled depth text) ≡ pending text) × (bytes (filled depth text) ≡ length text)
unfolding filled
filled_tight depth [] = (refl, refl)
filled_tight depth (b ∷ text) = (refl, omega arith)

-- a self-documenting `=` is pending as one record, a field's `{` pays for another; each byte of the expression may be written twice
abbrev marked : Field → ℕ
marked (state e b o c d w g) = if d then 1 else 0

marked_most : (f : Field) → marked f ≤ 1
marked_most (state e b o c true w g) = omega arith
marked_most (state e b o c false w g) = omega arith

abbrev doubled : Field → ℕ
doubled (state e b o c d w g) = 2 * (length e + w + (if d then 1 else 0))

doubled_on : (f f' : Field) (i j : ℕ) → field_size f' + 4 * i ≤ field_size f + 4 * j → doubled f' + 2 * i ≤ doubled f + 2 * j
doubled_on (state e b o c d w g) (state e' b' o' c' d' w' g') i j h = omega arith

formatted_marked : (j : ℕ) (f : Field) → marked (formatted j f) ≡ marked f
unfolding formatted
formatted_marked j (state e b o c d w g) = refl

formatted_doubled : (j : ℕ) (f : Field) → doubled (formatted j f) ≡ doubled f
unfolding formatted
formatted_doubled j (state e b o c d w g) = refl

-- the records and the text bytes of a spec, with its own record
abbrev spec_records : Option (List Piece) → ℕ
spec_records none = 0
spec_records (some ps) = 1 + length ps

abbrev spec_bytes : Option (List Piece) → ℕ
spec_bytes none = 0
spec_bytes (some ps) = bytes ps

finished_tight : (s : List ℕ) (depth from i j : ℕ) (f : Field) (p : Option (List Piece)) → i < j → j ≤ length s
    → Tight (marked f + 1 + spec_records p) (doubled f + spec_bytes p) s i (finished depth from j f p)
unfolding finished self_documenting field_pieces
finished_tight s depth from i j (state e b o c d w g) p h k = go b refl
  where
    c' : ℕ
    c' = conversion_of d c p

    Fits : Bool → Option (List Piece) → Type 0
    Fits d p =
        (i ≤ j)
        × (j ≤ length s)
        × (length (self_documenting depth d e w ++ field_pieces depth e c' from (with_close j g) p) + i ≤ (if d then 1 else 0) + 1 + spec_records p + j)
        × (bytes (self_documenting depth d e w ++ field_pieces depth e c' from (with_close j g) p) + 2 * i ≤ 2 * (length e + w + (if d then 1 else 0)) + spec_bytes p + 2 * j)

    pieces : (d : Bool) (p : Option (List Piece)) → Fits d p
    pieces true none = (omega arith, k, omega arith, omega (arith, length-append e (61 ∷ []), length-replicate {A = ℕ} w 32))
    pieces true (some ps) = (omega arith, k, omega arith, omega (arith, length-append e (61 ∷ []), length-replicate {A = ℕ} w 32))
    pieces false none = (omega arith, k, omega arith, omega arith)
    pieces false (some ps) = (omega arith, k, omega arith, omega arith)

    go : (x : Bool) → b ≡ x → Tight (marked (state e b o c d w g) + 1 + spec_records p) (doubled (state e b o c d w g) + spec_bytes p) s i (finished depth from j (state e b o c d w g) p)
    go true q = rw q tt
    go false q = rw q (pieces d p)

-- after a spec that was read from past i up to j
specified_tight : (s : List ℕ) (depth from i j : ℕ) (f : Field) (ps : List Piece) → i < j → j ≤ length s → length ps + suc i ≤ j → bytes ps + 2 * i ≤ 2 * j
    → Tight (marked f + 1) (doubled f) s i (specified s depth from j f ps)
unfolding specified
specified_tight s depth from i j f ps h k l m = go (at_end s j) refl
  where
    go : (t : Bool) → at_end s j ≡ t → Tight (marked f + 1) (doubled f) s i (specified s depth from j f ps)
    go true e = rw e tt
    go false e =
        rw e
        (tighter (marked f + 1) (marked f + 1 + spec_records (some ps)) (doubled f) (doubled f + spec_bytes (some ps)) s i j (finished depth from (next s j) f (some ps)) (omega arith) (omega arith) (omega arith)
        (finished_tight s depth from j (next s j) f (some ps) (next_past s j (leb-false (length s) j e)) (next_in s j k)))

record Tights (look : Naming) (n : ℕ) : Type 0 where
  text : (kind : ℕ) (s : List ℕ) (depth i : ℕ) (text : List ℕ) (ps : List Piece) → i ≤ length s
      → Tight (length ps + pending text) (bytes ps + length text) s i (text_n look n kind s depth i text ps)
  field : (kind : ℕ) (s : List ℕ) (depth from i : ℕ) (f : Field) → i ≤ length s → Tight (marked f + 1) (doubled f) s i (field_n look n kind s depth from i f)
  spec : (kind : ℕ) (s : List ℕ) (depth i : ℕ) → i ≤ length s → Tight 0 0 s i (spec_n look n kind s depth i)

module _ (look : Naming) (n : ℕ) (R : Tights look n) (kind : ℕ) (s : List ℕ) (depth : ℕ) where
  text_tight : (i : ℕ) (text : List ℕ) (ps : List Piece) → i ≤ length s → Tight (length ps + pending text) (bytes ps + length text) s i (text_n look (suc n) kind s depth i text ps)
  unfolding fresh
  text_tight i text ps l = go (text_move look kind s depth i text) refl (text_ahead look kind s depth i text l)
    where
      a : ℕ
      a = next s i

      Goal : Type 0
      Goal = Tight (length ps + pending text) (bytes ps + length text) s i (text_n look (suc n) kind s depth i text ps)

      after : (r : Read (List Piece)) → field_n look n kind s depth a a fresh ≡ r → Tight 1 0 s a r → i < length s → text_move look kind s depth i text ≡ calls → Goal
      after (got qs j) f p h e =
          let qs' = ps ++ filled depth text ++ qs in
          let past = next_past s i h in
          let full = filled_tight depth text in
          rw (text_got look n kind s depth i text ps qs j e f)
          (tighter (length ps + pending text) (length qs' + 0) (bytes ps + length text) (bytes qs' + 0) s i j (text_n look n kind s depth j [] qs') (omega arith)
          (omega (arith, length-append (ps ++ filled depth text) qs, length-append ps (filled depth text)))
          (omega (arith, bytes_append (ps ++ filled depth text) qs, bytes_append ps (filled depth text)))
          (R.text kind s depth j [] qs' p.1))
      after (refused x) f p h e = rw (text_refused look n kind s depth i text ps x e f) tt

      go : (x : Move (List ℕ)) → text_move look kind s depth i text ≡ x → Ahead text_size (text_size text) (i < length s) (Unit {0}) s i x → Goal
      go (goes j text') e h =
          let most = pending_most text' in
          rw (text_goes look n kind s depth i text ps j text' e)
          (tighter (length ps + pending text) (length ps + pending text') (bytes ps + length text) (bytes ps + length text') s i j (text_n look n kind s depth j text' ps) (omega arith) (omega arith) (omega arith)
          (R.text kind s depth j text' ps h.1))
      go (stops x) e h = rw (text_stops look n kind s depth i text ps x e) tt
      go calls e h = after (field_n look n kind s depth a a fresh) refl (R.field kind s depth a a fresh (next_in s i l)) h e
      go ends e h =
          let full = filled_tight depth text in
          rw (text_ends look n kind s depth i text ps e)
          (omega arith, l, omega (arith, length-append ps (filled depth text)), omega (arith, bytes_append ps (filled depth text)))

  field_tights : (from i : ℕ) (f : Field) → i ≤ length s → Tight (marked f + 1) (doubled f) s i (field_n look (suc n) kind s depth from i f)
  field_tights from i f l = go (field_move s i f) refl (field_ahead s i f l)
    where
      a : ℕ
      a = next s i

      Goal : Type 0
      Goal = Tight (marked f + 1) (doubled f) s i (field_n look (suc n) kind s depth from i f)

      after : (r : Read (List Piece)) → spec_n look n kind s depth a ≡ r → Tight 0 0 s a r → i < length s → field_move s i f ≡ calls → Goal
      after (got ps j) g p h e =
          let past = next_past s i h in
          rw (field_got look n kind s depth from i f ps j e g) (rw (formatted_marked a f, formatted_doubled a f) at (specified_tight s depth from i j (formatted a f) ps (omega arith) p.1 (omega arith) (omega arith)))
      after (refused x) g p h e = rw (field_refused look n kind s depth from i f x e g) tt

      go : (x : Move Field) → field_move s i f ≡ x → FieldAhead s i f x → Goal
      go (goes j f') e h =
          rw (field_goes look n kind s depth from i f j f' e)
          (tighter (marked f + 1) (marked f' + 1) (doubled f) (doubled f') s i j (field_n look n kind s depth from j f') (omega arith) (omega (arith, marked_most f')) (doubled_on f f' i j h.2)
          (R.field kind s depth from j f' h.1))
      go (stops x) e h = rw (field_stops look n kind s depth from i f x e) tt
      go calls e h = after (spec_n look n kind s depth a) refl (R.spec kind s depth a (next_in s i l)) h e
      go ends e h =
          rw (field_ends look n kind s depth from i f e)
          (tighter (marked f + 1) (marked f + 1 + 0) (doubled f) (doubled f + 0) s i i (finished depth from a f none) (omega arith) (omega arith) (omega arith)
          (finished_tight s depth from i a f none (next_past s i h) (next_in s i l)))

  spec_tight : (i : ℕ) → i ≤ length s → Tight 0 0 s i (spec_n look (suc n) kind s depth i)
  spec_tight i l = go (code s (first_end s i) is "{") refl
    where
      j : ℕ
      j = first_end s i

      full : (length (first_piece s depth i) + i ≤ j) × (bytes (first_piece s depth i) + i ≤ j)
      full =
          let t = part s i j in
          let f = filled_tight (suc depth) t in
          let m = pending_most t in
          (omega (arith, part_short s i j), omega (arith, part_short s i j))

      go : (t : Bool) → (code s j is "{") ≡ t → Tight 0 0 s i (spec_n look (suc n) kind s depth i)
      go true e =
          let qs = first_piece s depth i in
          rw (spec_calls look n kind s depth i e)
          (tighter 0 (length qs + 0) 0 (bytes qs + 0) s i j (text_n look n kind s (suc depth) j [] qs) (omega arith) (omega (arith, full.0)) (omega (arith, full.1))
          (R.text kind s (suc depth) j [] qs (first_in_lem s i l)))
      go false e = rw (spec_ends look n kind s depth i e) (omega arith, first_in_lem s i l, omega (arith, full.0), omega (arith, full.1))

tights : (look : Naming) → (n : ℕ) → Tights look n
unfolding text_n
tights look zero = record { text = λ kind s depth i text ps l. tt; field = λ kind s depth from i f l. tt; spec = λ kind s depth i l. tt }
tights look (suc n) = record {
  text = λ kind s depth. text_tight look n (tights look n) kind s depth;
  field = λ kind s depth. field_tights look n (tights look n) kind s depth;
  spec = λ kind s depth. spec_tight look n (tights look n) kind s depth;
}

-- a string's or bytes' text
abbrev TightText : ℕ → List ℕ → ℕ → Read (List ℕ) → Type 0
TightText t s i (got text j) = (j ≤ length s) × (length text + 2 * i ≤ t + 2 * j)
TightText t s i (refused x) = Unit {0}

string_tight : (look : Naming) → (n kind : ℕ) (s : List ℕ) (i : ℕ) (text : List ℕ) → i ≤ length s → TightText (length text) s i (string_n look n kind s i text)
unfolding string_n
string_tight look zero kind s i text l = tt
string_tight look (suc n) kind s i text l = go (string_tight look n kind s) (string_move look kind s i text) refl (string_ahead look kind s i text)
  where
    on : (j : ℕ) (text' : List ℕ) (r : Read (List ℕ)) → length text' + 2 * i ≤ length text + 2 * j → TightText (length text') s j r → TightText (length text) s i r
    on j text' (got t k) h p = (p.0, omega arith)
    on j text' (refused x) h p = tt

    go : ((j : ℕ) (text' : List ℕ) → j ≤ length s → TightText (length text') s j (string_n look n kind s j text'))
        → (x : Move (List ℕ)) → string_move look kind s i text ≡ x → Ahead text_size (text_size text) ⊥ (length s ≤ i) s i x → TightText (length text) s i (string_n look (suc n) kind s i text)
    go ih (goes j text') e h = rw (string_goes look n kind s i text j text' e) (on j text' (string_n look n kind s j text') (omega arith) (ih j text' h.1))
    go ih (stops x) e h = rw (string_stops look n kind s i text x e) tt
    go ih calls e h = absurd h
    go ih ends e h = rw (string_ends look n kind s i text e) (l, omega arith)

-- ONE BODY: at most a record for each byte and one more, at most two text bytes for each
abbrev pub Fits : ℕ → Read (List Piece) → Type 0
Fits n (got ps j) = (length ps ≤ n + 1) × (bytes ps ≤ 2 * n)
Fits n (refused x) = Unit {0}

pub body_fits : (look : Naming) → (kind : ℕ) (s : List ℕ) → Fits (length s) (read_body look kind s)
unfolding read_body alone
body_fits look kind s = go (is_fstring kind) refl
  where
    one : (r : Read (List ℕ)) → TightText 0 s 0 r → Fits (length s) (alone r)
    one (got t j) p = (omega arith, omega arith)
    one (refused x) p = tt

    more : (r : Read (List Piece)) → Tight 0 0 s 0 r → Fits (length s) r
    more (got ps j) p = (omega arith, omega arith)
    more (refused x) p = tt

    go : (t : Bool) → is_fstring kind ≡ t → Fits (length s) (read_body look kind s)
    go true e = rw (e, read_body) (more (text_n look (enough s) kind s 0 0 [] []) ((tights look (enough s)).text kind s 0 0 [] [] (omega arith)))
    go false e = rw (e, read_body) (one (string_n look (enough s) kind s 0 []) (string_tight look (enough s) kind s 0 [] (omega arith)))
