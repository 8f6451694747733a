-- WHAT A READING LEAVES is well formed exactly if its texts are UTF-8: all else that is asked every reading has. Assumes nothing.
use mathlib.Core.Path.{◌≡◌, refl, ap}
use mathlib.Core.Bool.{Bool, true, false, ◌&&◌, ◌||◌, not, beq}
use mathlib.Core.List.{List, [], ◌∷◌, map}
use Prim.Native.Nat.{ℕ, ◌+◌}
use lib.Dec.{eqb, leb}
use lib.ListN.{length}
use Rattle.definition.specs.Chars.{part}
use Rattle.definition.specs.Escapes.{Naming}
use Rattle.definition.specs.Records.{Record, Sort, plain, joined, bytes_only, Answer}
use Rattle.definition.specs.Entry.{Literal}
use Rattle.definition.specs.Reading.{accepts, sort_number, numbers, Call, read_into}
use Rattle.definition.specs.Words.{owing, held_from, fits, all_fit, has_spec, ordered, gapless, no_bytes, one_of, sorted, records_formed, together, whole, apart, records_well_formed}
use Rattle.definition_formed.specs.Formed.{Lent, unplaced, lent_answer, is_utf8, texts_utf8, is_formed}
use Rattle.definition.proofs.Moves.CharLaws.{cases}
use Rattle.definition_laws.proofs.Formed.Held.{Held, into_held}
use Rattle.definition_formed.proofs.Formed.FormedLaws.{both}

-- what a call leaves, lent again
abbrev pub lent_of : Call → Lent
lent_of c = record { numbers = numbers c.outcome; words = c.words; text = c.text }

fits_unplaced : (kind size mode parts place : ℕ) → fits kind size mode parts place ≡ true → fits kind size mode parts 0 ≡ true
unfolding fits
fits_unplaced kind size mode parts place h =
    cases (eqb kind 1)
    (λ e. rw (e, (both (eqb parts 0) (eqb place 0) (rw e at h)).0) refl)
    (λ e. cases (eqb kind 2)
    (λ f. rw (e, f) (rw (e, f) at h))
    (λ f. cases (eqb kind 3)
    (λ g. rw (e, f, g, (both (eqb size 0 && eqb mode 0) (eqb place 0) (rw (e, f, g) at h)).0) refl)
    (λ g. rw (e, f, g, (both (eqb kind 4 && eqb parts 0) (eqb place 0) (rw (e, f, g) at h)).0) refl)))

unplaced_fit : (rs : List Record) → all_fit rs ≡ true → all_fit (map unplaced rs) ≡ true
unfolding all_fit unplaced
unplaced_fit [] h = refl
unplaced_fit (r ∷ rs) h =
    let p = both (fits r.kind r.size r.mode r.parts r.place) (all_fit rs) h in
    rw (fits_unplaced r.kind r.size r.mode r.parts r.place p.0) (unplaced_fit rs p.1)

unplaced_ordered : (due : Bool) (owed : ℕ) (rs : List Record) → ordered due owed (map unplaced rs) ≡ ordered due owed rs
unfolding ordered unplaced
unplaced_ordered due owed [] = refl
unplaced_ordered due owed (r ∷ rs) =
    ap (λ t. (beq (eqb r.kind 3) due && (not (eqb r.kind 4) || eqb owed 0)) && t) (unplaced_ordered (has_spec r.kind r.parts) (owing owed r.parts) rs)

unplaced_gapless : (n : ℕ) (rs : List Record) (size : ℕ) → gapless n (map unplaced rs) size ≡ gapless n rs size
unfolding gapless unplaced
unplaced_gapless n [] size = refl
unplaced_gapless n (r ∷ rs) size = ap (λ t. eqb r.offset n && t) (unplaced_gapless (n + r.size) rs size)

unplaced_bytes : (rs : List Record) → no_bytes (map unplaced rs) ≡ no_bytes rs
unfolding no_bytes unplaced
unplaced_bytes [] = refl
unplaced_bytes (r ∷ rs) = ap (λ t. not (eqb r.kind 4) && t) (unplaced_bytes rs)

unplaced_one : (k : ℕ) (rs : List Record) → one_of k (map unplaced rs) ≡ one_of k rs
unfolding one_of unplaced
unplaced_one k [] = refl
unplaced_one k (r ∷ []) = refl
unplaced_one k (r ∷ r' ∷ rs) = refl

unplaced_sorted : (sort : Sort) (rs : List Record) → sorted sort (map unplaced rs) ≡ sorted sort rs
unfolding sorted
unplaced_sorted plain rs = unplaced_one 1 rs
unplaced_sorted joined rs = unplaced_bytes rs
unplaced_sorted bytes_only rs = unplaced_one 4 rs

unplaced_utf8 : (text : List ℕ) (rs : List Record) → texts_utf8 text (map unplaced rs) ≡ texts_utf8 text rs
unfolding texts_utf8 unplaced
unplaced_utf8 text [] = refl
unplaced_utf8 text (r ∷ rs) = ap (λ t. (eqb r.kind 4 || is_utf8 (part text r.offset (r.offset + r.size))) && t) (unplaced_utf8 text rs)

-- the record rules but for places
rules_kept : (x : Answer) → records_well_formed x ≡ true
    → (all_fit (map unplaced x.records) && ordered false 0 (map unplaced x.records) && gapless 0 (map unplaced x.records) (length x.text) && sorted x.sort (map unplaced x.records)) ≡ true
unfolding records_well_formed records_formed
rules_kept x h =
    let rs = x.records in
    let f = records_formed x in
    let a = f && together 0 0 0 rs in
    let b = a && whole x.start x.end x.u_mark rs in
    let c = b && apart rs in
    let p = (both f (together 0 0 0 rs) (both a (whole x.start x.end x.u_mark rs) (both b (apart rs) (both c (leb x.u_mark 1) h).0).0).0).0 in
    let k = both (all_fit rs && ordered false 0 rs && gapless 0 rs (length x.text)) (sorted x.sort rs) p in
    let m = both (all_fit rs && ordered false 0 rs) (gapless 0 rs (length x.text)) k.0 in
    let n = both (all_fit rs) (ordered false 0 rs) m.0 in
    rw (unplaced_fit rs n.0, unplaced_ordered false 0 rs, n.1, unplaced_gapless 0 rs (length x.text), m.1, unplaced_sorted x.sort rs, k.1) refl

sort_known : (s : Sort) → leb (sort_number s) 2 ≡ true
unfolding sort_number
sort_known plain = refl
sort_known joined = refl
sort_known bytes_only = refl

-- AFTER A CALL THAT ACCEPTS
abbrev pub LentAgain : Call → Type 0
LentAgain c = (x : Answer) → c.outcome ≡ accepts x → is_formed (lent_of c) ≡ texts_utf8 x.text x.records

held_again : (c : Call) → Held c → LentAgain c
unfolding is_formed lent_answer records_formed numbers
held_again c h x e =
    let k = h x e in
    let w : held_from (numbers (accepts x)) c.words c.text ≡ x = rw e at k.0 in
    rw (e, w, sort_known x.sort, k.2, rules_kept x k.1) (unplaced_utf8 x.text x.records)

pub into_again : (look : Naming) (script : List ℕ) (ls : List Literal) (words text : List ℕ) → LentAgain (read_into look script ls words text)
into_again look script ls words text = held_again (read_into look script ls words text) (into_held look script ls words text)
