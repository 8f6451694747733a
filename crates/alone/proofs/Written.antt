-- Rows that are written behind one another. Assumes nothing.
use Rattle.std.specs.Prelude.{Result, Ok, Err}
use mathlib.Core.Path.{◌≡◌, refl, sym, ◌∙◌, ap}
use mathlib.Core.Bool.{false}
use mathlib.Core.List.{List, [], ◌∷◌, ◌++◌, append-nil}
use Prim.Native.Nat.{ℕ, suc, ◌+◌, ◌-◌, ◌*◌, ◌/◌, ◌≤◌, ◌<◌}
use native.Mathlib.Omega.{arith}
use lib.ListN.{length, take, drop, length-append, length-take, length-drop}
use lib.Seq.{take_all, take-length, take-append_seam}
use borrow.Rule.Slice.PartMut.{put_mid, mid_of}
use Rattle.definition.specs.Numbers.{is_fstring}
use Rattle.definition.specs.Escapes.{Naming}
use Rattle.definition.specs.Entry.{Literal}
use Rattle.definition.specs.Reading.{in_front}
use Rattle.definition_scripts.specs.Listing.{ListRow, ten_of, tens, read_rows, unknown_row, own_rows, refusals_in}
use Rattle.definition_scripts_laws.proofs.Listing.ListingSteps.{tens_length, tens_append}
use Rattle.buffers.specs.Over.{over}
use Rattle.buffers.proofs.Over.{over_nil, length_over, over_append, over_front, over_lent}
use Rattle.told.specs.Rows.{Wrote}
use Rattle.told.specs.declared.Told.{Told}
use Rattle.alone.specs.Puts.{Puts, Front, Reads, AloneIs}

-- NOTHING, one row, and one run behind another
pub puts_none : (rows : List ℕ) (count : ℕ) → Puts [] rows rows count count
unfolding tens
puts_none rows count = record { counted = omega arith; wrote = λ h. sym (over_nil rows (count * 10)); kept = refl }

pub puts_one : (r : ListRow) (rows rows' : List ℕ) (count : ℕ) → rows' ≡ over rows (count * 10) (ten_of r) → Puts (r ∷ []) rows rows' count (count + 1)
unfolding tens
puts_one r rows rows' count e =
    record {
      counted = refl;
      wrote = λ h. e ∙ ap (over rows (count * 10)) (sym (append-nil (ten_of r)));
      kept = ap length e ∙ length_over rows (count * 10) (ten_of r);
    }

pub puts_wrote : (xs : List ListRow) (rows rows' : List ℕ) (count n : ℕ) → Wrote xs rows rows' count n → Puts xs rows rows' count (count + n)
puts_wrote xs rows rows' count n p = let e = p.counted in record { counted = omega arith; wrote = λ h. p.wrote; kept = ap length p.wrote ∙ length_over rows (count * 10) (tens xs) }

pub puts_append : (xs ys : List ListRow) (rows rows₁ rows₂ : List ℕ) (count m n : ℕ) → Puts xs rows rows₁ count m → Puts ys rows₁ rows₂ m n → Puts (xs ++ ys) rows rows₂ count n
puts_append xs ys rows rows₁ rows₂ count m n a b =
    let e = a.counted in
    let f = b.counted in
    let k = a.kept in
    let at : m * 10 ≡ count * 10 + length (tens xs) = omega (arith, tens_length xs) in
    record {
      counted = omega (arith, length-append xs ys);
      wrote = λ h. b.wrote (omega arith) ∙ ap (λ r. over r (m * 10) (tens ys)) (a.wrote (omega arith)) ∙ rw (at, tens_append xs ys) (over_append rows (count * 10) (tens xs) (tens ys));
      kept = b.kept ∙ k;
    }

-- A FRONT of them: none, and all
pub front_none : (xs : List ListRow) (rows : List ℕ) (count : ℕ) → Front xs rows rows count
unfolding tens
front_none xs rows count = record { many = 0; stored = sym (over_nil rows (count * 10)) }

pub front_all : (xs : List ListRow) (rows rows' : List ℕ) (count : ℕ) → rows' ≡ over rows (count * 10) (tens xs) → Front xs rows rows' count
front_all xs rows rows' count e = record { many = length xs; stored = e ∙ ap (λ ys. over rows (count * 10) (tens ys)) (sym (take-length xs)) }

pub front_one : (r : ListRow) (rows rows' : List ℕ) (count : ℕ) → rows' ≡ over rows (count * 10) (ten_of r) → Front (r ∷ []) rows rows' count
unfolding tens
front_one r rows rows' count e = front_all (r ∷ []) rows rows' count (e ∙ ap (over rows (count * 10)) (sym (append-nil (ten_of r))))

-- THE ROWS OF A LITERAL: of one that is not read; of fields without room, in a block of eight rows, and in a part that is lent for them
pub not_read : (look : Naming) → (s : List ℕ) (within : ℕ) (l : Literal) → is_fstring l.kind ≡ false → read_rows look s within l ≡ []
unfolding read_rows
not_read look s within l e = rw (e, read_rows)

-- with its 76 before them
pub puts_own : (s : List ℕ) (w : ℕ) (l : Literal) (rows rows₁ : List ℕ) (count k : ℕ) → Wrote (unknown_row s w l) rows rows₁ count k → (look : Naming) → (rows₂ : List ℕ) (n : ℕ) → Puts (read_rows look s w l) rows₁ rows₂ (count + k) n → Puts (own_rows look s w l) rows rows₂ count n
unfolding own_rows
puts_own s w l rows rows₁ count k a look rows₂ n b = puts_append (unknown_row s w l) (read_rows look s w l) rows rows₁ rows₂ count (count + k) n (puts_wrote (unknown_row s w l) rows rows₁ count k a) b

pub puts_short : (xs : List ListRow) (rows : List ℕ) (count n : ℕ) → n ≡ count + length xs → length rows / 10 < n → Puts xs rows rows count n
puts_short xs rows count n e h = record { counted = e; wrote = λ k. absurd (omega arith); kept = refl }

pub puts_block : (xs : List ListRow) (rows rows' block block' : List ℕ) (count n : ℕ) → length block ≡ 80 → Reads xs 0 block block' n → n ≤ 8 → rows' ≡ over rows (count * 10) (take (n * 10) block') → Puts xs rows rows' count (count + n) × Front xs rows rows' count
puts_block xs rows rows' block block' count n len p few e =
    let t = tens_length xs in
    let c = p.counted in
    let all : take (length block) (tens xs) ≡ tens xs = take_all (length block) (tens xs) (omega arith) in
    let holds : block' ≡ tens xs ++ drop (length (tens xs)) block = p.wrote ∙ ap (λ ns. in_front ns block) all in
    let size : n * 10 ≡ length (tens xs) = omega arith in
    let first : take (n * 10) block' ≡ tens xs = rw (holds, size) (take-append_seam (tens xs) (drop (length (tens xs)) block)) in
    let put : rows' ≡ over rows (count * 10) (tens xs) = e ∙ ap (over rows (count * 10)) first in
    (record { counted = omega arith; wrote = λ h. put; kept = ap length put ∙ length_over rows (count * 10) (tens xs) }, front_all xs rows rows' count put)

pub puts_lent : (look : Naming) → (s : List ℕ) (w : ℕ) (l : Literal) (rows none none' : List ℕ) (count n : ℕ) (mid' : List ℕ) (r : Result ℕ Told) → Reads (read_rows look s w l) 0 none none' n → count + n ≤ length rows / 10
    → AloneIs look s l w 0 (mid_of (count * 10) ((count + n) * 10 - count * 10) rows) mid' r → Puts (read_rows look s w l) rows (put_mid (count * 10) ((count + n) * 10 - count * 10) rows mid') count (count + n) × Front (read_rows look s w l) rows (put_mid (count * 10) ((count + n) * 10 - count * 10) rows mid') count
unfolding refusals_in
puts_lent look s w l rows none none' count n mid' (Err t) a h q = let z : ◌≡◌ {A = ℕ} 1 0 = rw q.0 at a.fields in absurd (omega arith)
puts_lent look s w l rows none none' count n mid' (Ok m) a h q =
    let xs = read_rows look s w l in
    let k = (count + n) * 10 - count * 10 in
    let mid = mid_of (count * 10) k rows in
    let e = a.counted in
    let t = tens_length xs in
    let size : length mid ≡ length (tens xs) = rw (length-take, length-drop) (omega arith) in
    let all : take (length mid) (tens xs) ≡ tens xs = rw size (take-length (tens xs)) in
    let wrote : mid' ≡ over mid 0 (tens xs) = q.wrote ∙ rw all (sym (over_front mid (tens xs) (omega arith))) in
    let some : take k (tens xs) ≡ tens xs = (let f : k ≡ length (tens xs) = omega arith in rw f (take-length (tens xs))) in
    let put : put_mid (count * 10) k rows mid' ≡ over rows (count * 10) (tens xs) = ap (put_mid (count * 10) k rows) wrote ∙ over_lent rows (count * 10) k (tens xs) ∙ ap (over rows (count * 10)) some in
    (record { counted = omega arith; wrote = λ z. put; kept = ap length put ∙ length_over rows (count * 10) (tens xs) }, front_all xs rows (put_mid (count * 10) k rows mid') count put)

-- a front of them behind its 76
pub front_own : (s : List ℕ) (w : ℕ) (l : Literal) (rows rows₁ : List ℕ) (count k : ℕ) → Wrote (unknown_row s w l) rows rows₁ count k → (look : Naming) → (rows₂ : List ℕ) → Front (read_rows look s w l) rows₁ rows₂ (count + k) → Front (own_rows look s w l) rows rows₂ count
unfolding own_rows
front_own s w l rows rows₁ count k a look rows₂ f =
    let xs = unknown_row s w l in
    let ys = take f.many (read_rows look s w l) in
    let c = a.counted in
    let m = front-append xs (read_rows look s w l) f.many in
    let at : (count + k) * 10 ≡ count * 10 + length (tens xs) = omega (arith, tens_length xs) in
    record {
      many = m.0;
      stored =
          f.stored
          ∙ ap (λ r. over r ((count + k) * 10) (tens ys)) a.wrote
          ∙ rw (at, m.1, tens_append xs ys) (over_append rows (count * 10) (tens xs) (tens ys));
    }
  where
    front-append : (xs ys : List ListRow) (n : ℕ) → (m : ℕ) × (take m (xs ++ ys) ≡ xs ++ take n ys)
    front-append [] ys n = (n, refl)
    front-append (x ∷ xs) ys n = let r = front-append xs ys n in (suc r.0, ap (λ zs. x ∷ zs) r.1)
