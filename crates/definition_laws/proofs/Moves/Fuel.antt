-- With moves enough a reading is sound, and how many there are does not matter. Assumes nothing.
use mathlib.Core.Path.{◌≡◌, refl, sym, ◌∙◌}
use mathlib.Core.Bool.{Bool, true, false}
use mathlib.Core.List.{List, [], ◌++◌}
use mathlib.Core.Option.{none}
use Prim.Native.Nat.{ℕ, zero, suc, ◌+◌, ◌-◌, ◌*◌, ◌≤◌, ◌<◌}
use native.Mathlib.Omega.{arith}
use lib.ListN.{length}
use Rattle.definition.specs.Numbers.{is_fstring}
use Rattle.definition.specs.Chars.{◌is◌, part, code, next}
use Rattle.definition.specs.Escapes.{Naming, Read, got, refused}
use Rattle.definition.specs.Body.{Piece, Bracket, Move, goes, stops, calls, ends, string_move, string_n, filled, Field, formatted, fresh, text_move, field_move, finished, plain_run, first_end, text_n, field_n, spec_n, enough, alone, read_body}
use Rattle.definition.proofs.Moves.CharLaws.{next_past, next_in, next_from, before_in}
use Rattle.definition_laws.proofs.Moves.OpenBrackets.{Open}
use Rattle.definition_laws.proofs.Moves.Moves.{SoundIn, Sound, text_size, weight, Ahead, later, brackets_of, part_short, string_ahead, text_ahead, field_size, FieldAhead, field_ahead, finished_sound, specified_sound, Light, weight_append, filled_light, formatted_size, finished_light, specified_light}
use Rattle.definition_laws.proofs.Moves.Steps.{string_goes, string_stops, string_ends, text_goes, text_stops, text_ends, text_got, text_refused, field_goes, field_stops, field_ends, field_got, field_refused, first_piece, spec_calls, spec_ends}

-- moves enough at i: twice the bytes left, and e more
abbrev pub Moves : List ℕ → ℕ → ℕ → ℕ → Type 0
Moves s i e n = (length s - i) + (length s - i) + e ≤ n

pub first_in_lem : (s : List ℕ) (i : ℕ) → i ≤ length s → first_end s i ≤ length s
unfolding plain_run
first_in_lem s i h = before_in (λ b. b is "{}") s i h

first_light : (s : List ℕ) (depth i : ℕ) → weight (first_piece s depth i) + 0 + 4 * i ≤ 0 + 4 * first_end s i
first_light s depth i = omega (arith, filled_light (suc depth) (part s i (first_end s i)), part_short s i (first_end s i))

-- a sound reading that is light from w on, and the same one again
abbrev AgreeIn : {A : Type 0} → List Bracket → (A → ℕ) → ℕ → List ℕ → ℕ → Read A → Read A → Type 0
AgreeIn o size w s i r r' = SoundIn o s i r × (r ≡ r') × Light size w i r

abbrev Agree : {A : Type 0} → (A → ℕ) → ℕ → List ℕ → ℕ → Read A → Read A → Type 0
Agree size = AgreeIn [] size

lighter : {A : Type 0} (size : A → ℕ) (w w' i j : ℕ) (r : Read A) → w' + 4 * i ≤ w + 4 * j → Light size w' j r → Light size w i r
lighter size w w' i j (got v k) h p = omega arith
lighter size w w' i j (refused x) h p = tt

later_in : {A : Type 0} (o o' : List Bracket) (size : A → ℕ) (w w' : ℕ) (s : List ℕ) (i j : ℕ) (r r' : Read A) → i ≤ j → w' + 4 * i ≤ w + 4 * j → (Open s i o → Open s j o') → AgreeIn o' size w' s j r r' → AgreeIn o size w s i r r'
later_in o o' size w w' s i j r r' h k c p = (later o o' s i j r h c p.0, p.1, lighter size w w' i j r k p.2)

both_later : {A : Type 0} (size : A → ℕ) (w w' : ℕ) (s : List ℕ) (i j : ℕ) (r r' : Read A) → i ≤ j → w' + 4 * i ≤ w + 4 * j → Agree size w' s j r r' → Agree size w s i r r'
both_later size w w' s i j r r' h k p = later_in [] [] size w w' s i j r r' h k (λ q. q) p

-- the three readers with n moves: sound, and the same with m moves
pub record Reads (look : Naming) (n : ℕ) : Type 0 where
  pub text : (m kind : ℕ) (s : List ℕ) (depth i : ℕ) (text : List ℕ) (ps : List Piece) → i ≤ length s → Moves s i 1 n → Moves s i 1 m
      → Agree weight (weight ps + text_size text) s i (text_n look n kind s depth i text ps) (text_n look m kind s depth i text ps)
  pub field : (m kind : ℕ) (s : List ℕ) (depth from i : ℕ) (f : Field) → i ≤ length s → Moves s i 1 n → Moves s i 1 m
      → AgreeIn (brackets_of f) weight (field_size f) s i (field_n look n kind s depth from i f) (field_n look m kind s depth from i f)
  pub spec : (m kind : ℕ) (s : List ℕ) (depth i : ℕ) → i ≤ length s → Moves s i 2 n → Moves s i 2 m → Agree weight 0 s i (spec_n look n kind s depth i) (spec_n look m kind s depth i)

module _ (look : Naming) (n : ℕ) (R : Reads look n) (kind : ℕ) (s : List ℕ) where
  text_step : (m depth i : ℕ) (text : List ℕ) (ps : List Piece) → i ≤ length s → Moves s i 1 (suc n) → Moves s i 1 m
      → Agree weight (weight ps + text_size text) s i (text_n look (suc n) kind s depth i text ps) (text_n look m kind s depth i text ps)
  unfolding fresh
  text_step zero depth i text ps l p q = absurd (omega arith)
  text_step (suc m) depth i text ps l p q = go (text_move look kind s depth i text) refl (text_ahead look kind s depth i text l)
    where
      a : ℕ
      a = next s i

      Goal : Type 0
      Goal = Agree weight (weight ps + text_size text) s i (text_n look (suc n) kind s depth i text ps) (text_n look (suc m) kind s depth i text ps)

      after : (r : Read (List Piece)) → field_n look n kind s depth a a fresh ≡ r → Sound s a r → Light weight 0 a r → field_n look n kind s depth a a fresh ≡ field_n look m kind s depth a a fresh → i < length s → text_move look kind s depth i text ≡ calls → Goal
      after (got qs j) f sound light same h e =
          let qs' = ps ++ filled depth text ++ qs in
          rw (text_got look n kind s depth i text ps qs j e f, text_got look m kind s depth i text ps qs j e (sym same ∙ f))
          (both_later weight (weight ps + text_size text) (weight qs' + 0) s i j (text_n look n kind s depth j [] qs') (text_n look m kind s depth j [] qs') (omega (arith, next_from s i))
          (omega (arith, next_from s i, weight_append (ps ++ filled depth text) qs, weight_append ps (filled depth text), filled_light depth text))
          (R.text m kind s depth j [] qs' sound.1 (omega (arith, next_past s i h)) (omega (arith, next_past s i h))))
      after (refused x) f sound light same h e =
          rw (text_refused look n kind s depth i text ps x e f, text_refused look m kind s depth i text ps x e (sym same ∙ f)) (sound, refl, tt)

      go : (x : Move (List ℕ)) → text_move look kind s depth i text ≡ x → Ahead text_size (text_size text) (i < length s) (Unit {0}) s i x → Goal
      go (goes j text') e h =
          rw (text_goes look n kind s depth i text ps j text' e, text_goes look m kind s depth i text ps j text' e)
          (both_later weight (weight ps + text_size text) (weight ps + text_size text') s i j (text_n look n kind s depth j text' ps) (text_n look m kind s depth j text' ps) (omega arith) (omega arith) (R.text m kind s depth j text' ps h.1 (omega arith) (omega arith)))
      go (stops x) e h = rw (text_stops look n kind s depth i text ps x e, text_stops look m kind s depth i text ps x e) (h, refl, tt)
      go calls e h =
          let f = R.field m kind s depth a a fresh (next_in s i l) (omega (arith, next_past s i h)) (omega (arith, next_past s i h)) in
          after (field_n look n kind s depth a a fresh) refl f.0 f.2 f.1 h e
      go ends e h = rw (text_ends look n kind s depth i text ps e, text_ends look m kind s depth i text ps e) ((omega arith, l), refl, omega (arith, weight_append ps (filled depth text), filled_light depth text))

  field_step : (m depth from i : ℕ) (f : Field) → i ≤ length s → Moves s i 1 (suc n) → Moves s i 1 m
      → AgreeIn (brackets_of f) weight (field_size f) s i (field_n look (suc n) kind s depth from i f) (field_n look m kind s depth from i f)
  field_step zero depth from i f l p q = absurd (omega arith)
  field_step (suc m) depth from i f l p q = go (field_move s i f) refl (field_ahead s i f l)
    where
      a : ℕ
      a = next s i

      Goal : Type 0
      Goal = AgreeIn (brackets_of f) weight (field_size f) s i (field_n look (suc n) kind s depth from i f) (field_n look (suc m) kind s depth from i f)

      after : (r : Read (List Piece)) → spec_n look n kind s depth a ≡ r → Sound s a r → Light weight 0 a r → spec_n look n kind s depth a ≡ spec_n look m kind s depth a → i < length s → field_move s i f ≡ calls → Goal
      after (got ps j) g sound light same h e =
          let n' = next_past s i h in
          rw (field_got look n kind s depth from i f ps j e g, field_got look m kind s depth from i f ps j e (sym same ∙ g))
          (specified_sound (brackets_of f) s depth from i j (formatted a f) ps (omega arith) sound.1, refl, rw (formatted_size a f) at (specified_light s depth from i j (formatted a f) ps (omega arith) (omega arith)))
      after (refused x) g sound light same h e =
          rw (field_refused look n kind s depth from i f x e g, field_refused look m kind s depth from i f x e (sym same ∙ g)) ((λ q. sound.0 tt, sound.1), refl, tt)

      go : (x : Move Field) → field_move s i f ≡ x → FieldAhead s i f x → Goal
      go (goes j f') e h =
          rw (field_goes look n kind s depth from i f j f' e, field_goes look m kind s depth from i f j f' e)
          (later_in (brackets_of f) (brackets_of f') weight (field_size f) (field_size f') s i j (field_n look n kind s depth from j f') (field_n look m kind s depth from j f') (omega arith) (omega arith) h.3 (R.field m kind s depth from j f' h.1 (omega arith) (omega arith)))
      go (stops x) e h = rw (field_stops look n kind s depth from i f x e, field_stops look m kind s depth from i f x e) (h, refl, tt)
      go calls e h =
          let g = R.spec m kind s depth a (next_in s i l) (omega (arith, next_past s i h)) (omega (arith, next_past s i h)) in
          after (spec_n look n kind s depth a) refl g.0 g.2 g.1 h e
      go ends e h = rw (field_ends look n kind s depth from i f e, field_ends look m kind s depth from i f e) (finished_sound (brackets_of f) s depth from i a f none (next_from s i) (next_in s i l), refl, lighter weight (field_size f) (field_size f + 0) i i (finished depth from a f none) (omega arith) (finished_light depth from i a f none (next_past s i h)))

  spec_step : (m depth i : ℕ) → i ≤ length s → Moves s i 2 (suc n) → Moves s i 2 m → Agree weight 0 s i (spec_n look (suc n) kind s depth i) (spec_n look m kind s depth i)
  spec_step zero depth i l p q = absurd (omega arith)
  spec_step (suc m) depth i l p q = go (code s (first_end s i) is "{") refl
    where
      j : ℕ
      j = first_end s i

      go : (t : Bool) → (code s j is "{") ≡ t → Agree weight 0 s i (spec_n look (suc n) kind s depth i) (spec_n look (suc m) kind s depth i)
      go true e =
          let qs = first_piece s depth i in
          rw (spec_calls look n kind s depth i e, spec_calls look m kind s depth i e)
          (both_later weight 0 (weight qs + 0) s i j (text_n look n kind s (suc depth) j [] qs) (text_n look m kind s (suc depth) j [] qs) (omega arith) (first_light s depth i) (R.text m kind s (suc depth) j [] qs (first_in_lem s i l) (omega arith) (omega arith)))
      go false e = rw (spec_ends look n kind s depth i e, spec_ends look m kind s depth i e) ((omega arith, first_in_lem s i l), refl, omega (arith, first_light s depth i))

pub reads : (look : Naming) → (n : ℕ) → Reads look n
reads look zero = record {
  text = λ m kind s depth i text ps l p q. absurd (omega arith);
  field = λ m kind s depth from i f l p q. absurd (omega arith);
  spec = λ m kind s depth i l p q. absurd (omega arith);
}
reads look (suc n) = record {
  text = λ m kind s. text_step look n (reads look n) kind s m;
  field = λ m kind s. field_step look n (reads look n) kind s m;
  spec = λ m kind s. spec_step look n (reads look n) kind s m;
}

string_reads : (look : Naming) → (n m kind : ℕ) (s : List ℕ) (i : ℕ) (text : List ℕ) → i ≤ length s → Moves s i 1 n → Moves s i 1 m → Agree text_size (text_size text) s i (string_n look n kind s i text) (string_n look m kind s i text)
string_reads look zero m kind s i text l p q = absurd (omega arith)
string_reads look (suc n) zero kind s i text l p q = absurd (omega arith)
string_reads look (suc n) (suc m) kind s i text l p q = go (λ j text'. string_reads look n m kind s j text') (string_move look kind s i text) refl (string_ahead look kind s i text)
  where
    go : ((j : ℕ) (text' : List ℕ) → j ≤ length s → Moves s j 1 n → Moves s j 1 m → Agree text_size (text_size text') s j (string_n look n kind s j text') (string_n look m kind s j text'))
        → (x : Move (List ℕ)) → string_move look kind s i text ≡ x → Ahead text_size (text_size text) ⊥ (length s ≤ i) s i x → Agree text_size (text_size text) s i (string_n look (suc n) kind s i text) (string_n look (suc m) kind s i text)
    go ih (goes j text') e h =
        rw (string_goes look n kind s i text j text' e, string_goes look m kind s i text j text' e)
        (both_later text_size (text_size text) (text_size text') s i j (string_n look n kind s j text') (string_n look m kind s j text') (omega arith) (omega arith) (ih j text' h.1 (omega arith) (omega arith)))
    go ih (stops x) e h = rw (string_stops look n kind s i text x e, string_stops look m kind s i text x e) (h, refl, tt)
    go ih calls e h = absurd h
    go ih ends e h = rw (string_ends look n kind s i text e, string_ends look m kind s i text e) ((omega arith, l), refl, omega arith)

-- WITH ENOUGH MOVES THEIR NUMBER DOES NOT MATTER
pub text_fuel : (look : Naming) → (n m kind : ℕ) (s : List ℕ) (depth i : ℕ) (text : List ℕ) (ps : List Piece) → i ≤ length s → Moves s i 1 n → Moves s i 1 m
    → text_n look n kind s depth i text ps ≡ text_n look m kind s depth i text ps
text_fuel look n m kind s depth i text ps l p q = ((reads look n).text m kind s depth i text ps l p q).1

pub field_fuel : (look : Naming) → (n m kind : ℕ) (s : List ℕ) (depth from i : ℕ) (f : Field) → i ≤ length s → Moves s i 1 n → Moves s i 1 m
    → field_n look n kind s depth from i f ≡ field_n look m kind s depth from i f
field_fuel look n m kind s depth from i f l p q = ((reads look n).field m kind s depth from i f l p q).1

pub spec_fuel : (look : Naming) → (n m kind : ℕ) (s : List ℕ) (depth i : ℕ) → i ≤ length s → Moves s i 2 n → Moves s i 2 m → spec_n look n kind s depth i ≡ spec_n look m kind s depth i
spec_fuel look n m kind s depth i l p q = ((reads look n).spec m kind s depth i l p q).1

pub string_fuel : (look : Naming) → (n m kind : ℕ) (s : List ℕ) (i : ℕ) (text : List ℕ) → i ≤ length s → Moves s i 1 n → Moves s i 1 m → string_n look n kind s i text ≡ string_n look m kind s i text
string_fuel look n m kind s i text l p q = (string_reads look n m kind s i text l p q).1

-- with enough moves a reading stays in the body, and what it gives is light
abbrev pub Reading : {A : Type 0} → (A → ℕ) → ℕ → List ℕ → ℕ → Read A → Type 0
Reading size w s i r = Sound s i r × Light size w i r

pub text_reading : (look : Naming) → (n kind : ℕ) (s : List ℕ) (depth i : ℕ) (text : List ℕ) (ps : List Piece) → i ≤ length s → Moves s i 1 n
    → Reading weight (weight ps + text_size text) s i (text_n look n kind s depth i text ps)
text_reading look n kind s depth i text ps l p = let r = (reads look n).text n kind s depth i text ps l p p in (r.0, r.2)

pub field_reading : (look : Naming) → (n kind : ℕ) (s : List ℕ) (depth from i : ℕ) → i ≤ length s → Moves s i 1 n
    → Reading weight (field_size fresh) s i (field_n look n kind s depth from i fresh)
unfolding fresh
field_reading look n kind s depth from i l p = let r = (reads look n).field n kind s depth from i fresh l p p in (r.0, r.2)

pub spec_reading : (look : Naming) → (n kind : ℕ) (s : List ℕ) (depth i : ℕ) → i ≤ length s → Moves s i 2 n → Reading weight 0 s i (spec_n look n kind s depth i)
spec_reading look n kind s depth i l p = let r = (reads look n).spec n kind s depth i l p p in (r.0, r.2)

pub string_reading : (look : Naming) → (n kind : ℕ) (s : List ℕ) (i : ℕ) (text : List ℕ) → i ≤ length s → Moves s i 1 n → Reading text_size (text_size text) s i (string_n look n kind s i text)
string_reading look n kind s i text l p = let r = string_reads look n n kind s i text l p p in (r.0, r.2)

-- a string or bytes body is read to its end
pub string_last : (look : Naming) → (n kind : ℕ) (s : List ℕ) (i : ℕ) (text t : List ℕ) (j : ℕ) → string_n look n kind s i text ≡ got t j → length s ≤ j
unfolding string_n
string_last look zero kind s i text t j g = let z : ◌≡◌ {A = ℕ} 0 1 = cc in absurd (omega arith)
string_last look (suc n) kind s i text t j g = go (λ k text'. string_last look n kind s k text' t j) (string_move look kind s i text) refl (string_ahead look kind s i text)
  where
    go : ((k : ℕ) (text' : List ℕ) → string_n look n kind s k text' ≡ got t j → length s ≤ j)
        → (x : Move (List ℕ)) → string_move look kind s i text ≡ x → Ahead text_size (text_size text) ⊥ (length s ≤ i) s i x → length s ≤ j
    go ih (goes k text') e h = ih k text' (sym (string_goes look n kind s i text k text' e) ∙ g)
    go ih (stops x) e h = let y = sym (string_stops look n kind s i text x e) ∙ g in let z : ◌≡◌ {A = ℕ} 0 1 = cc in absurd (omega arith)
    go ih calls e h = absurd h
    go ih ends e h = let y = sym (string_ends look n kind s i text e) ∙ g in let z : i ≡ j = cc in omega arith

-- of a whole body: no answer that moves ran out ever shows
pub body_reading : (look : Naming) → (kind : ℕ) (s : List ℕ) → Reading weight 1 s 0 (read_body look kind s)
unfolding read_body alone
body_reading look kind s = go (is_fstring kind) refl
  where
    string : Read (List ℕ)
    string = string_n look (enough s) kind s 0 []

    one : (r : Read (List ℕ)) → Reading text_size 0 s 0 r → Reading weight 1 s 0 (alone r)
    one (got t j) p = (p.0, omega arith)
    one (refused x) p = (p.0, tt)

    more : (r : Read (List Piece)) → Reading weight 0 s 0 r → Reading weight 1 s 0 r
    more (got ps j) p = (p.0, omega arith)
    more (refused x) p = p

    go : (t : Bool) → is_fstring kind ≡ t → Reading weight 1 s 0 (read_body look kind s)
    go true e = rw (e, read_body) (more (text_n look (enough s) kind s 0 0 [] []) (text_reading look (enough s) kind s 0 0 [] [] (omega arith) (omega arith)))
    go false e = rw (e, read_body) (one string (string_reading look (enough s) kind s 0 [] (omega arith) (omega arith)))
