-- The join is associative, for all answers. Assumes nothing.
use Rattle.std.specs.Prelude.{if◌then◌else◌}
use mathlib.Core.Path.{◌≡◌, refl, sym, ◌∙◌, ap, ap₂}
use mathlib.Core.Bool.{Bool, true, false}
use mathlib.Core.List.{List, [], ◌∷◌, ◌++◌, map, append_assoc}
use Prim.Native.Nat.{ℕ, ◌+◌}
use native.Mathlib.Nat.{add_assoc}
use lib.ListN.{length, length-append}
use Rattle.definition.specs.Records.{Role, covers, Record, cover, Sort, plain, joined, bytes_only, Answer}
use Rattle.definition.specs.Join.{both_records, raise, seamed, join_sort, join}
use Rattle.definition_laws.proofs.Join.Seam.{seam_assoc, map_seam}

join_sort_assoc : (a b c : Sort) → join_sort (join_sort a b) c ≡ join_sort a (join_sort b c)
unfolding join_sort
join_sort_assoc joined b c = refl
join_sort_assoc plain plain plain = refl
join_sort_assoc plain plain joined = refl
join_sort_assoc plain plain bytes_only = refl
join_sort_assoc plain joined c = refl
join_sort_assoc plain bytes_only plain = refl
join_sort_assoc plain bytes_only joined = refl
join_sort_assoc plain bytes_only bytes_only = refl
join_sort_assoc bytes_only plain plain = refl
join_sort_assoc bytes_only plain joined = refl
join_sort_assoc bytes_only plain bytes_only = refl
join_sort_assoc bytes_only joined c = refl
join_sort_assoc bytes_only bytes_only plain = refl
join_sort_assoc bytes_only bytes_only joined = refl
join_sort_assoc bytes_only bytes_only bytes_only = refl

-- a record's role, as a function
abbrev pub role_of : Record → Role
role_of r = r.role

-- a record with its text elsewhere
abbrev pub text_at : (offset size : ℕ) → Record → Record
text_at offset size r =
    record { role = r.role; kind = r.kind; offset = offset; size = size; start = r.start; end = r.end; mode = r.mode; parts = r.parts; place = r.place }

both_assoc : (a b c : Record) → both_records (both_records a b) c ≡ both_records a (both_records b c)
unfolding both_records
both_assoc a b c = ap (λ n. text_at a.offset n a) (add_assoc a.size b.size c.size)

seamed_assoc : (xs ys zs : List Record) → seamed (seamed xs ys) zs ≡ seamed xs (seamed ys zs)
unfolding seamed both_records
seamed_assoc = seam_assoc role_of both_records (λ a b. refl) both_assoc

-- covering and raising keep roles and go through what becomes one
pub cover_seamed : (s e u : ℕ) (xs ys : List Record) → map (cover s e u) (seamed xs ys) ≡ seamed (map (cover s e u) xs) (map (cover s e u) ys)
unfolding seamed both_records cover
cover_seamed s e u = map_seam role_of both_records role_of both_records (cover s e u) (λ a. refl) (λ a b. refl)

raise_seamed : (n : ℕ) (xs ys : List Record) → map (raise n) (seamed xs ys) ≡ seamed (map (raise n) xs) (map (raise n) ys)
unfolding seamed both_records raise
raise_seamed n = map_seam role_of both_records role_of both_records (raise n) (λ a. refl) (λ a b. refl)

map_twice : {A B C : Type 0} (f : B → C) (g : A → B) (h : A → C) → ((a : A) → f (g a) ≡ h a) → (xs : List A) → map f (map g xs) ≡ map h xs
map_twice f g h p [] = refl
map_twice f g h p (x ∷ xs) = ap₂ ◌∷◌ (p x) (map_twice f g h p xs)

-- the last covering counts, also through a raising
again : {A : Type 0} (t : Bool) (x y z : A) → (if t then x else if t then y else z) ≡ (if t then x else z)
again true x y z = refl
again false x y z = refl

pub cover_cover : (s e u s' e' u' : ℕ) (xs : List Record) → map (cover s e u) (map (cover s' e' u') xs) ≡ map (cover s e u) xs
unfolding cover
cover_cover s e u s' e' u' = map_twice (cover s e u) (cover s' e' u') (cover s e u) twice
  where
    twice : (r : Record) → cover s e u (cover s' e' u' r) ≡ cover s e u r
    twice r = λ i. record {
      role = r.role;
      kind = r.kind;
      offset = r.offset;
      size = r.size;
      start = again (covers r.role) s s' r.start i;
      end = again (covers r.role) e e' r.end i;
      mode = again (covers r.role) u u' r.mode i;
      parts = r.parts;
      place = r.place;
    }

raise_cover : (n s e u : ℕ) (xs : List Record) → map (raise n) (map (cover s e u) xs) ≡ map (cover s e u) (map (raise n) xs)
unfolding cover raise
raise_cover n s e u xs =
    map_twice (raise n) (cover s e u) (λ r. raise n (cover s e u r)) (λ r. refl) xs
    ∙ sym (map_twice (cover s e u) (raise n) (λ r. raise n (cover s e u r)) (λ r. refl) xs)

pub cover_raise : (s e u n s' e' u' : ℕ) (xs : List Record) → map (cover s e u) (map (raise n) (map (cover s' e' u') xs)) ≡ map (cover s e u) (map (raise n) xs)
cover_raise s e u n s' e' u' xs = ap (map (cover s e u)) (raise_cover n s' e' u' xs) ∙ cover_cover s e u s' e' u' (map (raise n) xs)

raise_raise : (n m : ℕ) (xs : List Record) → map (raise (n + m)) xs ≡ map (raise n) (map (raise m) xs)
unfolding raise
raise_raise n m xs =
    sym (map_twice (raise n) (raise m) (raise (n + m)) (λ r. ap (λ k. text_at k r.size r) (sym (add_assoc n m r.offset))) xs)

-- DEMAND 3: the join is associative
pub join_assoc : (a b c : Answer) → join (join a b) c ≡ join a (join b c)
unfolding join
join_assoc a b c = λ i. record {
  sort = join_sort_assoc a.sort b.sort c.sort i;
  u_mark = a.u_mark;
  start = a.start;
  end = c.end;
  records = records i;
  text = append_assoc a.text b.text c.text i;
  chars = add_assoc a.chars b.chars c.chars i;
}
  where
    n : ℕ
    n = length a.text

    n' : ℕ
    n' = length b.text

    M : List Record → List Record
    M = map (cover a.start c.end a.u_mark)

    -- b's and c's records, where a's text ends
    B : List Record
    B = map (raise n) b.records

    C : List Record
    C = map (raise n) (map (raise n') c.records)

    left : M (map (cover a.start b.end a.u_mark) (seamed a.records B)) ≡ seamed (M a.records) (M B)
    left = cover_cover a.start c.end a.u_mark a.start b.end a.u_mark (seamed a.records B) ∙ cover_seamed a.start c.end a.u_mark a.records B

    far : M (map (raise (length (a.text ++ b.text))) c.records) ≡ M C
    far = ap (λ k. M (map (raise k) c.records)) (length-append a.text b.text) ∙ ap M (raise_raise n n' c.records)

    inner : List Record
    inner = map (cover b.start c.end b.u_mark) (seamed b.records (map (raise n') c.records))

    right : M (map (raise n) inner) ≡ seamed (M B) (M C)
    right =
        cover_raise a.start c.end a.u_mark n b.start c.end b.u_mark (seamed b.records (map (raise n') c.records))
        ∙ ap M (raise_seamed n b.records (map (raise n') c.records))
        ∙ cover_seamed a.start c.end a.u_mark B C

    records : M (seamed (map (cover a.start b.end a.u_mark) (seamed a.records B)) (map (raise (length (a.text ++ b.text))) c.records))
        ≡ M (seamed a.records (map (raise n) inner))
    records =
        cover_seamed a.start c.end a.u_mark (map (cover a.start b.end a.u_mark) (seamed a.records B)) (map (raise (length (a.text ++ b.text))) c.records)
        ∙ ap₂ seamed left far
        ∙ seamed_assoc (M a.records) (M B) (M C)
        ∙ sym (ap (seamed (M a.records)) right)
        ∙ sym (cover_seamed a.start c.end a.u_mark a.records (map (raise n) inner))
