-- The items of an accepted list keep order and ranges (RULES 5.3, 5.5): a field, its spec, the spec's parts; each field has what it must. Merging keeps that. Assumes nothing.
use Rattle.std.specs.Prelude.{if◌then◌else◌}
use mathlib.Core.Path.{◌≡◌, refl}
use mathlib.Core.Bool.{Bool, true, false, ◌&&◌, ◌||◌, not, or-true, false≢true}
use mathlib.Core.List.{List, [], ◌∷◌, ◌++◌, map}
use Prim.Native.Nat.{ℕ, zero, suc, ◌+◌, ◌*◌, ◌≤◌}
use native.Mathlib.Omega.{arith}
use lib.Dec.{leb, eqb}
use lib.ListN.{length}
use borrow.Author.Tests.{eq-eqb, ne_eqb}
use Rattle.definition.specs.Numbers.{is_bytes}
use Rattle.definition.specs.Body.{Signs, Piece, literal, field, spec}
use Rattle.definition.specs.Records.{Role, top, raw, inner, touching, Item, item, item_of, glue, merge, both_items, merged}
use Rattle.definition.specs.Words.{owing, role_at, is_conversion, fits, has_spec, within}
use Rattle.definition_laws.proofs.Join.Seam.{glue_true, glue_false}
use Rattle.definition_laws.proofs.Join.Laid.{item_role}
use Rattle.definition_laws.proofs.Formed.FieldState.{Had}
use Rattle.definition_laws.proofs.Formed.Grammar.{Parts, done, run, bare, full, count, flat, All}

-- how many are to come of these, and with the next record, which stands in them: how many are owed
abbrev to_come : List ℕ → ℕ
to_come [] = 0
to_come (n ∷ ns) = n + to_come ns

abbrev pub owe : List ℕ → ℕ
owe [] = 0
owe (n ∷ ns) = suc (n + to_come ns)

owe_within : (ns : List ℕ) → owe (within ns) ≡ to_come ns
unfolding within
owe_within [] = refl
owe_within (zero ∷ ns) = omega (arith, owe_within ns)
owe_within (suc n ∷ ns) = omega arith

pub owing_owe : (ns : List ℕ) (p : ℕ) → owing (owe ns) p ≡ owe (within (p ∷ ns))
owing_owe [] p = omega (arith, owe_within (p ∷ []))
owing_owe (n ∷ ns) p = omega (arith, owe_within (p ∷ n ∷ ns))

-- the range from s to e, where nothing is owed or the record before has it
abbrev pub Ranged : (owed s e start end : ℕ) → Type 0
Ranged owed s e start end = (eqb owed 0 || eqb start s && eqb end e) ≡ true

-- what an item is by its role, where a spec is due or not, it stands in these (as `within` says), and the one before has the range from s to e
pub record Inner (due : Bool) (ns : List ℕ) (s e : ℕ) (x : Item) : Type 0 where
  pub placed : role_at (owe ns) x.kind ≡ inner
  pub formed : fits x.kind (length x.text) x.mode x.parts x.place ≡ true
  pub is_due_lem : eqb x.kind 3 ≡ due
  pub no_bytes_lem : eqb x.kind 4 ≡ false
  pub unmarked : (not (eqb x.kind 1) || eqb x.mode 0) ≡ true
  pub ranged : Ranged (owe ns) s e x.start x.end
  pub had : x.kind ≡ 2 → (length ns ≤ 2) × Had x.text x.mode

abbrev pub Fit : Role → (due : Bool) (ns : List ℕ) (s e : ℕ) → Item → Type 0
Fit top due ns s e x = (due ≡ false) × (ns ≡ []) × (x.kind ≡ 1) × (x.parts ≡ 0) × (x.place ≡ 0)
Fit raw due ns s e x = (due ≡ false) × (ns ≡ []) × (x.kind ≡ 4) × (x.parts ≡ 0) × (x.place ≡ 0)
Fit inner due ns s e x = Inner due ns s e x

-- items from there on, until nothing is owed
abbrev pub Run : (due : Bool) (ns : List ℕ) (s e : ℕ) → List Item → Type 0
Run due ns s e [] = (due ≡ false) × (ns ≡ [])
Run due ns s e (x ∷ xs) = Fit x.role due ns s e x × Run (has_spec x.kind x.parts) (within (x.parts ∷ ns)) x.start x.end xs

-- where nothing is owed the range before does not count
fit_zero : (r : Role) (due : Bool) (s e s' e' : ℕ) (x : Item) → Fit r due [] s e x → Fit r due [] s' e' x
fit_zero top due s e s' e' x h = h
fit_zero raw due s e s' e' x h = h
fit_zero inner due s e s' e' x h =
    record { placed = h.placed; formed = h.formed; is_due_lem = h.is_due_lem; no_bytes_lem = h.no_bytes_lem; unmarked = h.unmarked; ranged = refl; had = h.had }

pub run_zero : (due : Bool) (s e s' e' : ℕ) (xs : List Item) → Run due [] s e xs → Run due [] s' e' xs
run_zero due s e s' e' [] h = h
run_zero due s e s' e' (x ∷ xs) h = (fit_zero x.role due s e s' e' x h.0, h.1)

pub run_append : (due : Bool) (ns : List ℕ) (s e : ℕ) (xs ys : List Item) → Run due ns s e xs → Run false [] 0 0 ys → Run due ns s e (xs ++ ys)
run_append due ns s e [] ys h k = rw (h.0, h.1) (run_zero false 0 0 s e ys k)
run_append due ns s e (x ∷ xs) ys h k = (h.0, run_append (has_spec x.kind x.parts) (within (x.parts ∷ ns)) x.start x.end xs ys h.1 k)

-- A LITERAL'S ITEMS, from the tree of its pieces
field_fits : (n c p a : ℕ) → is_conversion c ≡ true → leb p 1 ≡ true → fits 2 n c p a ≡ true
unfolding fits
field_fits n c p a e f = rw (e, f)

same_range : (owed s e : ℕ) → Ranged owed s e s e
same_range owed s e = rw (eq-eqb s s refl, eq-eqb e e refl) (or-true (eqb owed 0))

module _ (kind start end base : ℕ) where
  abbrev I : Piece → Item
  I = item_of kind start end base

  -- a part, a field and its spec, after a record of the same literal
  part_fit : (d : ℕ) (t : List ℕ) (n : ℕ) (ns : List ℕ) → Inner false (n ∷ ns) start end (I (literal (suc d) t))
  unfolding item_of item role_at fits
  part_fit d t n ns = record {
    placed = rw (ne_eqb (owe (n ∷ ns)) 0 (λ e. omega arith)) refl;
    formed = refl;
    is_due_lem = refl;
    no_bytes_lem = refl;
    unmarked = refl;
    ranged = same_range (owe (n ∷ ns)) start end;
    had = λ e. absurd (omega arith);
  }

  field_fit : (ns : List ℕ) (s e d : ℕ) (x : List ℕ) (c n i : ℕ) (g : Signs) → length ns ≤ 2 → Had x c → leb n 1 ≡ true → Ranged (owe ns) s e start end → Inner false ns s e (I (field d x c n i g))
  unfolding item_of item role_at
  field_fit ns s e d x c n i g m h l r = record {
    placed = refl;
    formed = field_fits (length x) c n (base + i) h.converted l;
    is_due_lem = refl;
    no_bytes_lem = refl;
    unmarked = refl;
    ranged = r;
    had = λ q. (m, h);
  }

  spec_fit : (ns : List ℕ) (n : ℕ) → Inner true ns start end (I (spec n))
  unfolding item_of item role_at fits
  spec_fit ns n =
      record { placed = refl; formed = refl; is_due_lem = refl; no_bytes_lem = refl; unmarked = refl; ranged = same_range (owe ns) start end; had = λ e. absurd (omega arith) }

  run_deep : (d : ℕ) (p : Parts) (ns : List ℕ) (ps : List Piece) → All Had (suc d) p → length ns ≤ 2 * d + 1 → Run false (within ns) start end (map I ps)
      → Run false (within (count p ∷ ns)) start end (map I (flat (suc d) p ps))
  unfolding item_of item within
  run_deep d done ns ps h l r = r
  run_deep d (run t p) ns ps h l r = (part_fit d t (count p) ns, run_deep d p ns ps h l r)
  run_deep d (bare e c i g p) ns ps h l r =
      (field_fit (count p ∷ ns) start end (suc d) e c 0 i g (omega (arith, h.0, l)) h.1 refl (same_range (owe (count p ∷ ns)) start end), run_deep d p ns ps h.2 l r)
  run_deep d (full e c i g q p) ns ps h l r = (
    field_fit (count p ∷ ns) start end (suc d) e c 1 i g (omega (arith, h.0, l)) h.1 refl (same_range (owe (count p ∷ ns)) start end),
    (
      spec_fit (0 ∷ count p ∷ ns) (count q),
      run_deep (suc d) q (0 ∷ count p ∷ ns) (flat (suc d) p ps) h.2 (omega (arith, l)) (run_deep d p ns ps h.3 l r),
    ),
  )

  pub run_top : is_bytes kind ≡ false → (s e : ℕ) (p : Parts) (ps : List Piece) → All Had 0 p → Run false [] s e (map I ps) → Run false [] s e (map I (flat 0 p ps))
  unfolding item_of item within
  run_top b s e done ps h r = r
  run_top b s e (run t p) ps h r = rw b ((refl, refl, refl, refl, refl), run_top b start end p ps h (run_zero false s e start end (map I ps) r))
  run_top b s e (bare x c i g p) ps h r =
      (field_fit [] s e 0 x c 0 i g (omega arith) h.1 refl refl, run_top b start end p ps h.2 (run_zero false s e start end (map I ps) r))
  run_top b s e (full x c i g q p) ps h r = (
    field_fit [] s e 0 x c 1 i g (omega arith) h.1 refl refl,
    (
      spec_fit (0 ∷ []) (count q),
      run_deep 0 q (0 ∷ []) (flat 0 p ps) h.2 (omega arith) (run_top b start end p ps h.3 (run_zero false s e start end (map I ps) r)),
    ),
  )

  -- a string's or bytes' one piece
  pub run_alone : (t : List ℕ) → Run false [] 0 0 (map I (literal 0 t ∷ []))
  unfolding item_of item within
  run_alone t = go (is_bytes kind)
    where
      go : (b : Bool) → Run false [] 0 0 ((if b then item raw 4 t start end 0 0 0 else item top 1 t start end 0 0 0) ∷ [])
      go true = ((refl, refl, refl, refl, refl), (refl, refl))
      go false = ((refl, refl, refl, refl, refl), (refl, refl))

-- MERGING KEEPS IT: two that touch are followed by what the first could be followed by
two_touch : (r r' : Role) (due : Bool) (ns : List ℕ) (s e : ℕ) (x y : Item) → touching r r' ≡ true → Fit r due ns s e x → Fit r' (has_spec x.kind x.parts) (within (x.parts ∷ ns)) x.start x.end y
    → (ys : List Item) → Run (has_spec y.kind y.parts) (within (y.parts ∷ within (x.parts ∷ ns))) y.start y.end ys
    → Fit r due ns s e (both_items x y) × Run (has_spec x.kind x.parts) (within (x.parts ∷ ns)) x.start x.end ys
unfolding touching both_items within
two_touch top top due ns s e x y t h h' ys k = (h, rw (h.3, h.1, h.2) (run_zero false y.start y.end x.start x.end ys (rw (h'.3, h.3, h.1, h'.2) at k)))
two_touch top raw due ns s e x y t h h' ys k = absurd (false≢true t)
two_touch top inner due ns s e x y t h h' ys k = absurd (false≢true t)
two_touch raw top due ns s e x y t h h' ys k = absurd (false≢true t)
two_touch raw raw due ns s e x y t h h' ys k = (h, rw (h.3, h.1, h.2) (run_zero false y.start y.end x.start x.end ys (rw (h'.3, h.3, h.1, h'.2) at k)))
two_touch raw inner due ns s e x y t h h' ys k = absurd (false≢true t)
two_touch inner r due ns s e x y t h h' ys k = absurd (false≢true t)

run_glue : (due : Bool) (ns : List ℕ) (s e : ℕ) (x : Item) (ys : List Item) → Run due ns s e (x ∷ ys) → Run due ns s e (glue item_role both_items x ys)
unfolding glue both_items
run_glue due ns s e x [] h = h
run_glue due ns s e x (y ∷ ys) h = go (touching x.role y.role) refl
  where
    go : (t : Bool) → touching x.role y.role ≡ t → Run due ns s e (glue item_role both_items x (y ∷ ys))
    go true t = rw (glue_true item_role both_items x y ys t) (two_touch x.role y.role due ns s e x y t h.0 h.1.0 ys h.1.1)
    go false t = rw (glue_false item_role both_items x y ys t) h

pub run_merged : (due : Bool) (ns : List ℕ) (s e : ℕ) (xs : List Item) → Run due ns s e xs → Run due ns s e (merged xs)
unfolding merged merge both_items
run_merged due ns s e [] h = h
run_merged due ns s e (x ∷ xs) h = run_glue due ns s e x (merge item_role both_items xs) (h.0, run_merged (has_spec x.kind x.parts) (within (x.parts ∷ ns)) x.start x.end xs h.1)
