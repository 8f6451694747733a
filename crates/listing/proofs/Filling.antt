-- The rows of sources, written row by row until none is left or there is no room. Assumes nothing.
use mathlib.Core.Path.{◌≡◌, refl, sym, subst, ◌∙◌, ap}
use mathlib.Core.List.{List, [], ◌∷◌, ◌++◌, append_assoc, append-nil}
use Prim.Native.Nat.{ℕ, suc, ◌+◌, ◌*◌, ◌/◌, ◌≤◌, ◌<◌}
use native.Mathlib.Numerals.{add-one}
use native.Mathlib.Omega.{arith}
use borrow.Author.Tests.{eq-eqb, ne_eqb}
use lib.ListN.{length, take, drop, get_or, length-append}
use lib.Seq.{take-append_seam}
use Rattle.definition.specs.Escapes.{Naming}
use Rattle.definition_scripts.specs.Cut.{Cut, cut, cut_part}
use Rattle.definition.specs.Reading.{zeros}
use Rattle.definition_scripts.specs.Listing.{ListRow, ten_of, tens, cut_rows, source_end, otherwise, otherwise_row, source_rows, rows_of, refusals_in, fields_after, fields_call, fields_into, fields_numbers}
use Rattle.definition_scripts_laws.proofs.Cut.PartLaws.{cut_is_part}
use Rattle.definition_scripts_laws.proofs.Listing.SourceLaws.{Fits, AllFit}
use Rattle.definition_scripts_laws.proofs.Listing.ListingLaws.{rows_fit}
use Rattle.definition_scripts_laws.proofs.Listing.ListingSteps.{Listing, listing_start, listing_step, listing_end, fields_long, fields_short, fields_given, tens_length, tens_append}
use Rattle.definition_scripts_laws.proofs.Listing.FewRows.{rows_few}
use Rattle.buffers.specs.Over.{over}
use Rattle.buffers.proofs.Over.{over_front}
use Rattle.sources.specs.declared.Field.{Field}
use Rattle.listing.specs.declared.rows.Part.{Part}
use Rattle.std.specs.Prelude.{Ok, Err}
use Rattle.answers.specs.declared.Unlisted.TheVariants.{TooLong, Short}
use Rattle.sources.specs.Source.{signs_of, row_of, Source}
use Rattle.told.specs.Rows.{Wrote, told_otherwise, row_at, rows_in, field_of}
use Rattle.told.proofs.Rows.{otherwise_told, otherwise_most, row_back, rows_back, refusals_most}
use Rattle.alone.specs.Puts.{Puts}
use Rattle.listing.specs.Put.{PartIs, Lies, Bounded}
use Rattle.listing.specs.Answers.{Filled, CallIs}
use Rattle.alone.proofs.Written.{puts_none, puts_wrote, puts_append}

-- THE SOURCE OF A ROW that stands in a buffer
module _ (look : Naming) (s rows : List ℕ) (i : ℕ) where
  pub source_told : (count : ℕ) → get_or rows (i * 10) 0 ≡ 5 → Puts (source_rows look s (i + 1) (row_at rows i)) rows rows count count
  unfolding row_at source_rows
  source_told count e = rw (eq-eqb _ 5 e) (puts_none rows count)

  module _ (e : get_or rows (i * 10) 0 ≡ 5 → ⊥) where
    abbrev f : Field
    f = field_of rows i

    abbrev c : Cut
    c = cut_part s f.place (source_end (signs_of f))

    pub source_lies : Fits s (suc (length s)) (row_at rows i) → length s ≤ 1048576 → Source s f
    unfolding row_at
    source_lies p long =
        let r = rw (ne_eqb (get_or rows (i * 10) 0) 5 e) at p in
        record { ahead = r.ahead; within = r.within; not_long_lem = long }

    pub source_field : (n : ℕ) → source_rows look s n (row_at rows i) ≡ otherwise_row s n (row_of f) c ++ cut_rows look s n c
    unfolding row_at source_rows otherwise_row otherwise
    source_field n = rw (ne_eqb (get_or rows (i * 10) 0) 5 e)

    module _ (count : ℕ) (p : Lies s rows i count) (rows₁ : List ℕ) (w n : ℕ) (a : Wrote (told_otherwise s w f) rows rows₁ count n) where
      pub source_bounded : Bounded s f.place (source_end (signs_of f)) (count + n)
      source_bounded =
          let z = source_lies p.fits p.not_long_lem in
          let k = p.few.1 in
          record { ahead = z.ahead; within = z.within; not_long_lem = p.not_long_lem; few = omega (arith, otherwise_most s w f rows rows₁ count n a) }

      otherwise_puts : Puts (otherwise_row s w (row_of f) c) rows rows₁ count (count + n)
      otherwise_puts = rw (← otherwise_told s w f (source_lies p.fits p.not_long_lem)) (puts_wrote (told_otherwise s w f) rows rows₁ count n a)

      pub source_puts : (rows₂ : List ℕ) (r : Part) → PartIs look s f.place (source_end (signs_of f)) w rows₁ rows₂ (count + n) r → w ≡ i + 1 → Puts (source_rows look s (i + 1) (row_at rows i)) rows rows₂ count r.count
      source_puts rows₂ r b g = rw (← g, source_field w) (puts_append _ _ rows rows₁ rows₂ count (count + n) r.count otherwise_puts b.puts)

-- buffers of one length have the same room
pub same_room : (look : Naming) → (s rows b rows₁ : List ℕ) (count : ℕ) (r : Part) → PartIs look s 0 (length s) 0 b rows₁ 0 r → PartIs look s 0 (length s) 0 rows rows₁ 0 r → count ≤ length rows / 10 → count ≤ length b / 10
same_room look s rows b rows₁ count r p q h = rw (← p.puts.kept, q.puts.kept) h

-- ROWS WRITTEN SO FAR: those whose sources are written, i of them, and those whose sources are not yet
pub record Filling (look : Naming) (s rows rows' : List ℕ) (i count : ℕ) : Type 0 where
  pub done : List ListRow
  pub todo : List ListRow
  pub listing : Listing look s done todo
  pub at : i ≡ length done
  pub puts : Puts (done ++ todo) rows rows' 0 count

module _ (look : Naming) (s rows : List ℕ) (long : length s ≤ 1048576) where
  pub filling_start : (rows' : List ℕ) (r : Part) → PartIs look s 0 (length s) 0 rows rows' 0 r → Filling look s rows rows' 0 r.count
  filling_start rows' r p = record { done = []; todo = cut_rows look s 0 (cut s); listing = listing_start look s; at = refl; puts = rw (cut_is_part s) p.puts }

  module _ (rows' : List ℕ) (i count : ℕ) (p : Filling look s rows rows' i count) where
    pub filling_among : count ≤ length (rows_of look s)
    filling_among =
        let e = p.puts.counted in
        let w = p.listing.whole in
        omega (arith, ap length w, length-append p.done (p.todo ++ p.listing.rest), length-append p.todo p.listing.rest, length-append p.done p.todo)

    pub filling_few : count ≤ 1048576
    filling_few = omega (arith, filling_among, rows_few look s)

    fit_at : (n : ℕ) (xs : List ListRow) (r : ListRow) (ys : List ListRow) → AllFit s n (xs ++ r ∷ ys) → Fits s n r
    fit_at n [] r ys q = q.0
    fit_at n (x ∷ xs) r ys q = fit_at n xs r ys q.1

    -- the next row stands in the buffer
    module _ (h : i < count) (k : count * 10 ≤ length rows) (r : ListRow) (todo : List ListRow) (e : p.todo ≡ r ∷ todo) where
      here : row_at rows' i ≡ r
      unfolding tens
      here =
          let all = p.done ++ r ∷ todo in
          let n = p.puts.counted in
          let w : rows' ≡ over rows 0 (tens all) = rw e at (p.puts.wrote k) in
          let m : length (tens all) ≤ length rows = omega (arith, tens_length all, ap (λ x. length (p.done ++ x)) e) in
          let split : rows' ≡ tens p.done ++ (ten_of r ++ (tens todo ++ drop (length (tens all)) rows)) = w ∙ over_front rows (tens all) m ∙ ap (λ x. x ++ drop (length (tens all)) rows) (tens_append p.done (r ∷ todo)) ∙ append_assoc (tens p.done) (ten_of r ++ tens todo) (drop (length (tens all)) rows) ∙ ap (λ x. tens p.done ++ x) (append_assoc (ten_of r) (tens todo) (drop (length (tens all)) rows)) in
          rw split (row_back (tens p.done) i r (tens todo ++ drop (length (tens all)) rows) (omega (arith, tens_length p.done, p.at)))

      lies_so : Lies s rows' i count
      lies_so =
          let q : AllFit s (suc (length s)) (p.done ++ r ∷ (todo ++ p.listing.rest)) = subst (λ (x : List ListRow). AllFit s (suc (length s)) x) (p.listing.whole ∙ ap (λ x. p.done ++ (x ++ p.listing.rest)) e) (rows_fit look s) in
          let l = p.puts.kept in
          record {
            placed = omega arith;
            fits = rw here (fit_at (suc (length s)) p.done r (todo ++ p.listing.rest) q);
            not_long_lem = long;
            few = (h, filling_few);
          }

      next_so : (rows'' : List ℕ) (n : ℕ) → Puts (source_rows look s (i + 1) (row_at rows' i)) rows' rows'' count n → Filling look s rows rows'' (i + 1) n
      next_so rows'' n q =
          let sr = source_rows look s (suc (length p.done)) r in
          let f : i + 1 ≡ suc (length p.done) = add-one i ∙ ap suc p.at in
          let q' : Puts sr rows' rows'' count n = rw (here, f) at q in
          let g : (p.done ++ p.todo) ++ sr ≡ (p.done ++ r ∷ []) ++ (todo ++ sr) = ap (λ x. (p.done ++ x) ++ sr) e ∙ append_assoc p.done (r ∷ todo) sr ∙ sym (append_assoc p.done (r ∷ []) (todo ++ sr)) in
          record {
            done = p.done ++ r ∷ [];
            todo = todo ++ sr;
            listing = listing_step look s p.done r todo (rw e at p.listing);
            at = f ∙ sym (length-append p.done (r ∷ []) ∙ add-one (length p.done));
            puts = rw (← g) (puts_append (p.done ++ p.todo) sr rows rows' rows'' 0 count n p.puts q');
          }

    module _ (h : i < count) (room : count ≤ length rows / 10) where
      k : count * 10 ≤ length rows
      k = omega arith

      none_not : p.todo ≡ [] → ⊥
      none_not e = let n = p.puts.counted in omega (arith, p.at, ap (λ x. length (p.done ++ x)) e, length-append p.done [])

      pub filling_lies : Lies s rows' i count
      filling_lies = go p.todo refl
        where
          go : (todo : List ListRow) → p.todo ≡ todo → Lies s rows' i count
          go [] e = absurd (none_not e)
          go (r ∷ todo) e = lies_so h k r todo e

      pub filling_next : (rows'' : List ℕ) (n : ℕ) → Puts (source_rows look s (i + 1) (row_at rows' i)) rows' rows'' count n → Filling look s rows rows'' (i + 1) n
      filling_next rows'' n q = go p.todo refl
        where
          go : (todo : List ListRow) → p.todo ≡ todo → Filling look s rows rows'' (i + 1) n
          go [] e = absurd (none_not e)
          go (r ∷ todo) e = next_so h k r todo e rows'' n q

    -- none is left, or there is no room
    module _ (first : Part) (rows₁ : List ℕ) (q : PartIs look s 0 (length s) 0 rows rows₁ 0 first) where
      part : Part
      part = record { count = count; literals = first.literals; to = first.to }

      filled_so : (count * 10 ≤ length rows → (count ≡ length (rows_of look s)) × (rows' ≡ over rows 0 (tens (rows_of look s)))) → Filled look s rows rows' part
      unfolding part
      filled_so w =
          record {
            among = filling_among;
            whole = w;
            kept = p.puts.kept;
            literals = rw (cut_is_part s) q.literals;
            to = rw (cut_is_part s) q.to;
          }

      pub filled_short : length rows / 10 < count → Filled look s rows rows' (record { count = count; literals = first.literals; to = first.to })
      unfolding part
      filled_short h = filled_so (λ k. absurd (omega arith))

      pub filled_whole : count ≤ i → Filled look s rows rows' (record { count = count; literals = first.literals; to = first.to })
      unfolding part
      filled_whole h = filled_so (λ k. go p.todo refl k)
        where
          go : (todo : List ListRow) → p.todo ≡ todo → count * 10 ≤ length rows → (count ≡ length (rows_of look s)) × (rows' ≡ over rows 0 (tens (rows_of look s)))
          go [] e k =
              let f : rows_of look s ≡ p.done = listing_end look s p.done (rw e at p.listing) in
              let g : p.done ++ p.todo ≡ rows_of look s = ap (λ x. p.done ++ x) e ∙ append-nil p.done ∙ sym f in
              (p.puts.counted ∙ omega (arith, ap length g), rw g at (p.puts.wrote k))
          go (r ∷ todo) e k = let n = p.puts.counted in absurd (omega (arith, p.at, ap (λ x. length (p.done ++ x)) e, length-append p.done (r ∷ todo)))

-- THE CALL
module _ (look : Naming) (s rows : List ℕ) where
  pub call_long : (rows' : List ℕ) → 1048576 < length s → rows' ≡ zeros rows → CallIs (fields_into look s rows) rows' (Err TooLong)
  unfolding fields_into fields_call fields_after fields_numbers
  call_long rows' h e = rw (fields_long look s (length rows) h) (record { answer = refl; rows = e })

  module _ (long : length s ≤ 1048576) (rows₁ : List ℕ) (r : Part) (p : Filled look s rows rows₁ r) where
    pub filled_few : r.count ≤ 1048576
    filled_few = let a = p.among in omega (arith, rows_few look s)

    pub call_short : (rows' : List ℕ) (n : ℕ) → length rows₁ / 10 < r.count → n ≡ length (rows_of look s) → rows' ≡ zeros rows₁ → CallIs (fields_into look s rows) rows' (Err (Short n))
    unfolding fields_into fields_call fields_after fields_numbers
    call_short rows' n h e z =
        let a = p.among in
        let k = p.kept in
        rw (fields_short look s (length rows) long (omega arith), ← e) (record { answer = refl; rows = z ∙ ap (λ m. lib.ListN.replicate m 0) k })

    module _ (h : r.count ≤ length rows₁ / 10) where
      whole : (r.count ≡ length (rows_of look s)) × (rows₁ ≡ over rows 0 (tens (rows_of look s)))
      whole = let k = p.kept in p.whole (omega arith)

      listed : rows₁ ≡ tens (rows_of look s) ++ drop (length (tens (rows_of look s))) rows
      listed = let k = p.kept in whole.1 ∙ over_front rows (tens (rows_of look s)) (omega (arith, tens_length (rows_of look s), whole.0))

      pub filled_in_lem : r.count * 10 ≤ length rows₁
      filled_in_lem = omega arith

      first : take (r.count * 10) rows₁ ≡ tens (rows_of look s)
      first =
          let k = p.kept in
          let size : r.count * 10 ≡ length (tens (rows_of look s)) = omega (arith, tens_length (rows_of look s), whole.0) in
          rw (listed, size) (take-append_seam (tens (rows_of look s)) (drop (length (tens (rows_of look s))) rows))

      module _ (n : ℕ) (e : n ≡ refusals_in (rows_in (take (r.count * 10) rows₁) 0 (length (take (r.count * 10) rows₁) / 10))) where
        refusals_all : n ≡ refusals_in (rows_of look s)
        refusals_all =
            let rs = rows_of look s in
            let m : length (tens rs) / 10 ≡ length rs = omega (arith, tens_length rs) in
            e ∙ rw (first, m) (ap (λ x. refusals_in (rows_in x 0 (length rs))) (sym (append-nil (tens rs))) ∙ ap refusals_in (rows_back [] 0 rs [] refl))

        pub refusals_few : n ≤ 1048576
        refusals_few = omega (arith, refusals_all, refusals_most (rows_of look s), rows_few look s)

        pub call_listed : CallIs (fields_into look s rows) rows₁ (Ok (record { rows = r.count; refusals = n; literals = r.literals; to = r.to }))
        unfolding fields_into fields_call fields_after fields_numbers
        call_listed =
            let k = p.kept in
            let w = whole in
            let g = refusals_all in
            rw (fields_given look s (length rows) long (omega (arith, w.0)))
            (record { answer = (λ j. 0 ∷ w.0 j ∷ g j ∷ p.literals j ∷ p.to j ∷ []); rows = listed })
