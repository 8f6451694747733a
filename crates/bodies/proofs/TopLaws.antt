-- The top-level items of literals that are read are all as the literals' whole has them. Assumes nothing.
use Rattle.std.specs.Prelude.{if◌then◌else◌}
use mathlib.Core.Path.{◌≡◌, refl, ap, subst}
use mathlib.Core.Bool.{Bool, true, false, not, false≢true}
use mathlib.Core.List.{List, [], ◌∷◌, ◌++◌, map}
use mathlib.Core.Option.{none}
use Prim.Native.Nat.{ℕ, zero, suc, ◌-◌, ◌<◌}
use Rattle.definition.specs.Numbers.{is_bytes, is_unicode}
use Rattle.definition.specs.Escapes.{Naming, Read, got, refused}
use Rattle.definition.specs.Body.{Piece, literal, field, spec, read_body}
use Rattle.definition.specs.Records.{Role, top, raw, covers, Item, item, item_of}
use Rattle.definition.specs.Entry.{Literal, place_of, body, any_of, first_start, not_mixed}
use Rattle.definition.specs.Reading.{Outcome, accepts, refuses, read_literal, and_then, read_from, u_mark, last_end}
use Rattle.entry.specs.Literals.{literal_at, literals}
use Rattle.entry.proofs.Literals.{first_is, last_end_lem}
use Rattle.entry.proofs.Checks.{clash}
use Rattle.entry.proofs.Passed.{both}
use Rattle.bodies.specs.Emit as e
use Rattle.bodies.specs.Emit.{Top, Tops}
use Rattle.bodies.specs.Sinks.{whole_of}
use Rattle.bodies.specs.Lists.{whole_for, role_for}
use Rattle.wholes.specs.Wholes.{whole_between}

-- whether all literals are of bytes, or all are not
abbrev Alike : Bool → List Literal → Type 0
Alike b [] = Unit {0}
Alike b (l ∷ ls) = (is_bytes l.kind ≡ b) × Alike b ls

not_not : (b : Bool) → not b ≡ false → b ≡ true
not_not true e = refl
not_not false e = cc

no_bytes_lem : (ls : List Literal) → any_of is_bytes ls ≡ false → Alike false ls
unfolding any_of
no_bytes_lem [] e = tt
no_bytes_lem (l ∷ ls) e = let h = both (is_bytes l.kind) _ e in (h.0, no_bytes_lem ls h.1)

only_bytes : (ls : List Literal) → any_of (λ kind. not (is_bytes kind)) ls ≡ false → Alike true ls
unfolding any_of
only_bytes [] e = tt
only_bytes (l ∷ ls) e = let h = both (not (is_bytes l.kind)) _ e in (not_not (is_bytes l.kind) h.0, only_bytes ls h.1)

-- literals that are not mixed are alike
alike : (ls : List Literal) → not_mixed ls ≡ none → Alike (any_of is_bytes ls) ls
unfolding not_mixed
alike ls e = go (any_of is_bytes ls) (any_of (λ kind. not (is_bytes kind)) ls) refl refl
  where
    go : (a o : Bool) → any_of is_bytes ls ≡ a → any_of (λ kind. not (is_bytes kind)) ls ≡ o → Alike (any_of is_bytes ls) ls
    go true true p q = clash (let y = rw (p, q) at e in cc)
    go true false p q = rw p (only_bytes ls q)
    go false o p q = rw p (no_bytes_lem ls p)

-- so whether any are bytes is told by the first
first_bytes : (ns : List ℕ) (n : ℕ) (first : Literal) → 0 < n → first ≡ literal_at ns 0 → not_mixed (literals ns 0 n) ≡ none → is_bytes first.kind ≡ any_of is_bytes (literals ns 0 n)
first_bytes ns n first h f m = rw f (subst (Alike (any_of is_bytes (literals ns 0 n))) (first_is ns n h) (alike (literals ns 0 n) m)).0

-- the top-level item of a literal piece
made : (w : e.Whole) (b : Bool) (t : List ℕ) (start end : ℕ) → w.kind ≡ (if b then 4 else 1) → Top w (if b then raw else top) (if b then item raw 4 t start end 0 0 0 else item top 1 t start end 0 0 0)
unfolding item
made w true t start end k = record { role_is = refl; kind = rw k; parts = refl; place = refl }
made w false t start end k = record { role_is = refl; kind = rw k; parts = refl; place = refl }

module _ (look : Naming) (w : e.Whole) (b : Bool) (k : w.kind ≡ (if b then 4 else 1)) where
  abbrev role : Role
  role = if b then raw else top

  top_item : (kind start end base : ℕ) → is_bytes kind ≡ b → (p : Piece) → covers (item_of kind start end base p).role ≡ true → Top w role (item_of kind start end base p)
  unfolding item_of covers item
  top_item kind start end base h (literal zero t) c = rw h (made w b t start end k)
  top_item kind start end base h (literal (suc d) t) c = absurd (false≢true c)
  top_item kind start end base h (field d x m n i g) c = absurd (false≢true c)
  top_item kind start end base h (spec n) c = absurd (false≢true c)

  tops_pieces : (kind start end base : ℕ) → is_bytes kind ≡ b → (ps : List Piece) → Tops w role (map (item_of kind start end base) ps)
  tops_pieces kind start end base h [] = tt
  tops_pieces kind start end base h (p ∷ ps) = (top_item kind start end base h p, tops_pieces kind start end base h ps)

  tops_append : (xs ys : List Item) → Tops w role xs → Tops w role ys → Tops w role (xs ++ ys)
  tops_append [] ys f g = g
  tops_append (x ∷ xs) ys f g = (f.0, tops_append xs ys f.1 g)

  -- an outcome whose items, if any, are as the whole has them
  abbrev Given : Outcome (List Item) → Type 0
  Given o = (xs : List Item) → o ≡ accepts xs → Tops w role xs

  tops_then : (a o : Outcome (List Item)) → Given a → Given o → Given (and_then a o)
  unfolding and_then
  tops_then (refuses r) o f g xs e = clash cc
  tops_then (accepts ys) (refuses r) f g xs e = clash cc
  tops_then (accepts ys) (accepts zs) f g xs e = let q : ys ++ zs ≡ xs = cc in rw (← q) (tops_append ys zs (f ys refl) (g zs refl))

  tops_literal : (script : List ℕ) (i : ℕ) (l : Literal) → is_bytes l.kind ≡ b → Given (read_literal look script i l)
  unfolding read_literal
  tops_literal script i l h xs e = go (read_body look l.kind (body script l)) refl
    where
      go : (r : Read (List Piece)) → read_body look l.kind (body script l) ≡ r → Tops w role xs
      go (got ps j) q =
          let y : accepts (map (item_of l.kind l.start l.end (place_of l 0)) ps) ≡ accepts xs = rw (q, read_literal) at e in
          let z : map (item_of l.kind l.start l.end (place_of l 0)) ps ≡ xs = cc in
          rw (← z) (tops_pieces l.kind l.start l.end (place_of l 0) h ps)
      go (refused x) q = clash (let y = rw (q, read_literal) at e in cc)

  tops_all : (script : List ℕ) (i : ℕ) (ls : List Literal) → Alike b ls → Given (read_from look script i ls)
  unfolding read_from
  tops_all script i [] h xs e = let q : [] ≡ xs = cc in rw (← q) tt
  tops_all script i (l ∷ ls) h xs e = tops_then (read_literal look script i l) (read_from look script (suc i) ls) (tops_literal script i l h.0) (tops_all script (suc i) ls h.1) xs e

-- WHAT IS READ OF LITERALS THAT ARE NOT MIXED: every top-level item is as their whole has it
pub tops_read : (look : Naming) → (script : List ℕ) (i : ℕ) (ls : List Literal) (xs : List Item) → not_mixed ls ≡ none → read_from look script i ls ≡ accepts xs → Tops (whole_for ls) (role_for ls) xs
tops_read look script i ls xs n e = tops_all look (whole_for ls) (any_of is_bytes ls) refl script i ls (alike ls n) xs e

-- and their role is a top-level one
pub covers_role : (ls : List Literal) → covers (role_for ls) ≡ true
unfolding covers
covers_role ls = go (any_of is_bytes ls)
  where
    go : (b : Bool) → covers (if b then raw else top) ≡ true
    go true = refl
    go false = refl

-- the whole of literals, by their first and last one
pub whole_made : (ns : List ℕ) (n : ℕ) (first last : Literal) → 0 < n → first ≡ literal_at ns 0 → last ≡ literal_at ns (n - 1) → not_mixed (literals ns 0 n) ≡ none
    → whole_of (whole_between first last) ≡ whole_for (literals ns 0 n)
unfolding first_start u_mark whole_between
whole_made ns n first last h f l m = λ i. record { kind = kind i; start = start i; end = end i; mark = marked i }
  where
    kind : ◌≡◌ {A = ℕ} (if is_bytes first.kind then 4 else 1) (if any_of is_bytes (literals ns 0 n) then 4 else 1)
    kind = ap (λ b. if b then 4 else 1) (first_bytes ns n first h f m)

    start : first.start ≡ first_start (literals ns 0 n)
    start = rw (first_is ns n h, f)

    end : last.end ≡ last_end 0 (literals ns 0 n)
    end = rw (last_end_lem ns n h, l)

    marked : ◌≡◌ {A = ℕ} (if is_unicode first.kind then 1 else 0) (u_mark (literals ns 0 n))
    marked = rw (first_is ns n h, f)
