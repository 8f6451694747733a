-- An accepted answer is well formed, and it is what its numbers, words and text say. Assumes nothing.
use Rattle.std.specs.Prelude.{if◌then◌else◌}
use mathlib.Core.Path.{◌≡◌, refl, sym, ◌∙◌, ap, ap₂}
use mathlib.Core.Bool.{Bool, true, false, ◌&&◌, ◌||◌, not, beq}
use mathlib.Core.List.{List, [], ◌∷◌, ◌++◌, map, append_assoc}
use Prim.Native.Nat.{ℕ, zero, suc, ◌+◌}
use native.Mathlib.Nat.{add-sub_cancel_left}
use native.Mathlib.Omega.{arith}
use lib.Dec.{leb, eqb}
use lib.ListN.{length, length-append}
use lib.Seq.{take-append_seam, drop-append_seam}
use borrow.Author.Tests.{eqb-true, eq-eqb, le-leb}
use Rattle.definition.specs.Numbers.{is_fstring, is_bytes, is_unicode}
use Rattle.definition.specs.Chars.{part}
use Rattle.definition.specs.Escapes.{Naming}
use Rattle.definition.specs.Body.{Piece, literal, field, spec}
use Rattle.definition.specs.Records.{Role, top, raw, inner, touching, covers, Item, item, item_of, Record, words_of, glue, merge, both_items, merged, texts, record_at, laid, cover, Sort, plain, joined, bytes_only, Answer, answer_of}
use Rattle.definition.specs.Matched.{matched, blank}
use Rattle.definition.specs.Entry.{Literal, place_of, any_of, first_start}
use Rattle.definition.specs.Reading.{accepts, read_from, sort_of, u_mark, last_end, all_chars, read, all_words, sort_number}
use Rattle.definition.specs.Words.{word, role_at, records_from, sort_from, answer_from, fits, all_fit, has_spec, ordered, gapless, no_bytes, one_of, sorted, records_formed, together, at_top, whole, alike, apart, records_well_formed, expressed, within, two_deep, assured}
use Rattle.definition.proofs.Moves.CharLaws.{cases}
use Rattle.definition_laws.proofs.Join.Seam.{touch_eq, glue_true, glue_false}
use Rattle.definition_laws.proofs.Join.Laid.{item_role, laid_length}
use Rattle.definition_laws.proofs.Outcomes.Outcomes.{Gapless, Sane, read_sane}
use Rattle.definition_laws.proofs.Join.EntrySplit.{not_bytes, passes}
use Rattle.definition_laws.proofs.Formed.Runs.{owe, owing_owe, Ranged, Fit, Run, run_zero, run_merged}
use Rattle.definition_laws.proofs.Formed.Accepted.{From, accepted, items_run, literal_holds, all_hold, f_no_bytes}
use Rattle.definition_laws.proofs.Formed.One.{one_record_lem, not_mixed_lem}

both_true : (a b : Bool) → a ≡ true → b ≡ true → (a && b) ≡ true
both_true a b e f = rw (e, f) refl

-- the whole call's start, end and u mark
module _ (S E u : ℕ) where
  abbrev L : ℕ → List Item → List Record
  L n xs = map (cover S E u) (laid n xs)

  -- WHAT AN ITEM'S RECORD IS, by the item's role
  module _ (due : Bool) (ns : List ℕ) (s e : ℕ) (x : Item) where
    fit_role : (r : Role) → Fit r due ns s e x → role_at (owe ns) x.kind ≡ r
    unfolding role_at
    fit_role top h = rw (h.1, h.2) refl
    fit_role raw h = rw h.2 refl
    fit_role inner h = h.placed

    fit_fits : (r : Role) → Fit r due ns s e x → fits x.kind (length x.text) (if covers r then u else x.mode) x.parts x.place ≡ true
    unfolding fits covers
    fit_fits top h = rw (h.2, h.3, h.4) refl
    fit_fits raw h = rw (h.2, h.3, h.4) refl
    fit_fits inner h = h.formed

    fit_ordered : (r : Role) → Fit r due ns s e x → (beq (eqb x.kind 3) due && (not (eqb x.kind 4) || eqb (owe ns) 0)) ≡ true
    fit_ordered top h = rw (h.0, h.1, h.2) refl
    fit_ordered raw h = rw (h.0, h.1, h.2) refl
    fit_ordered inner h = rw (h.is_due_lem, h.no_bytes_lem) (same due)
      where
        same : (b : Bool) → (beq b b && true) ≡ true
        same true = refl
        same false = refl

    fit_whole : (r : Role) → Fit r due ns s e x
        → (if at_top r then eqb (if covers r then S else x.start) S && eqb (if covers r then E else x.end) E && eqb (if covers r then u else x.mode) u else (not (eqb x.kind 1) || eqb (if covers r then u else x.mode) 0)) ≡ true
    unfolding at_top covers
    fit_whole top h = rw (eq-eqb S S refl, eq-eqb E E refl, eq-eqb u u refl) refl
    fit_whole raw h = rw (eq-eqb S S refl, eq-eqb E E refl, eq-eqb u u refl) refl
    fit_whole inner h = h.unmarked

    fit_ranged : (r : Role) → Fit r due ns s e x → Ranged (owe ns) s e (if covers r then S else x.start) (if covers r then E else x.end)
    unfolding covers
    fit_ranged top h = rw h.1 refl
    fit_ranged raw h = rw h.1 refl
    fit_ranged inner h = h.ranged

    -- a field is at most two deep, and its expression is matched and not blank
    fit_field : (r : Role) → Fit r due ns s e x → ((not (eqb x.kind 2) || leb (length ns) 2) ≡ true) × ((not (eqb x.kind 2) || matched x.text && not (blank x.text)) ≡ true)
    fit_field top h = rw h.2 (refl, refl)
    fit_field raw h = rw h.2 (refl, refl)
    fit_field inner h =
        cases (eqb x.kind 2) (λ t. let k = h.had (eqb-true x.kind 2 t) in rw (t, le-leb (length ns) 2 k.0, k.1.matches, k.1.says) (refl, refl))
        (λ t. rw t (refl, refl))

    -- what follows, after the record's range
    fit_follows : (r : Role) (xs : List Item) → Fit r due ns s e x → Run (has_spec x.kind x.parts) (within (x.parts ∷ ns)) x.start x.end xs
        → Run (has_spec x.kind x.parts) (within (x.parts ∷ ns)) (if covers r then S else x.start) (if covers r then E else x.end) xs
    unfolding covers within
    fit_follows top xs h k = rw (h.3, h.1) (run_zero (has_spec x.kind 0) x.start x.end S E xs (rw (h.3, h.1) at k))
    fit_follows raw xs h k = rw (h.3, h.1) (run_zero (has_spec x.kind 0) x.start x.end S E xs (rw (h.3, h.1) at k))
    fit_follows inner xs h k = k

  -- THE RECORDS OF ITEMS IN ORDER: they are what their words say, they meet the rules, and each field has what it must
  record Good (n : ℕ) (due : Bool) (ns : List ℕ) (s e : ℕ) (xs : List Item) : Type 0 where
    back : (rest : List ℕ) → records_from (length xs) (owe ns) (all_words (L n xs) ++ rest) ≡ L n xs
    fit : all_fit (L n xs) ≡ true
    order : ordered due (owe ns) (L n xs) ≡ true
    covered : whole S E u (L n xs) ≡ true
    ranges : together (owe ns) s e (L n xs) ≡ true
    depth : two_deep ns (L n xs) ≡ true
    had : (before : List ℕ) → length before ≡ n → expressed (before ++ texts xs) (L n xs) ≡ true

  part_at : (n : ℕ) (before t rest : List ℕ) → length before ≡ n → part (before ++ (t ++ rest)) n (n + length t) ≡ t
  part_at n before t rest l = rw (← l, add-sub_cancel_left, drop-append_seam before (t ++ rest)) (take-append_seam t rest)

  laid_good : (n : ℕ) (due : Bool) (ns : List ℕ) (s e : ℕ) (xs : List Item) → Run due ns s e xs → Good n due ns s e xs
  unfolding records_from all_words words_of all_fit ordered whole together two_deep expressed texts laid cover record_at
  laid_good n due ns s e [] h = record { back = λ rest. refl; fit = refl; order = rw h.1 refl; covered = refl; ranges = refl; depth = refl; had = λ before l. refl }
  laid_good n due ns s e (x ∷ xs) h =
      let r = x.role in
      let m = n + length x.text in
      let g = laid_good m (has_spec x.kind x.parts) (within (x.parts ∷ ns)) (if covers r then S else x.start) (if covers r then E else x.end) xs (fit_follows due ns s e x r xs h.0 h.1) in
      let f = fit_field due ns s e x r h.0 in
      record {
        back = λ rest. ap₂ (λ r l. record {
          role = r;
          kind = x.kind;
          offset = n;
          size = length x.text;
          start = if covers x.role then S else x.start;
          end = if covers x.role then E else x.end;
          mode = if covers x.role then u else x.mode;
          parts = x.parts;
          place = x.place;
        } ∷ l) (fit_role due ns s e x r h.0) (rw (owing_owe ns x.parts) (g.back rest));
        fit = both_true _ _ (fit_fits due ns s e x r h.0) g.fit;
        order = rw (owing_owe ns x.parts) (both_true _ _ (fit_ordered due ns s e x r h.0) g.order);
        covered = both_true _ _ (fit_whole due ns s e x r h.0) g.covered;
        ranges = rw (owing_owe ns x.parts) (both_true _ _ (fit_ranged due ns s e x r h.0) g.ranges);
        depth = both_true _ _ f.0 g.depth;
        had = λ before l. rw (part_at n before x.text (texts xs) l) (both_true _ _ f.1 (rw (append_assoc before x.text (texts xs)) at (g.had (before ++ x.text) (length-append before x.text ∙ ap (λ k. k + length x.text) l))));
      }

-- NO TWO THAT TOUCH ARE LEFT
abbrev Apart : List Item → Type 0
Apart [] = Unit {0}
Apart (x ∷ []) = Unit {0}
Apart (x ∷ y ∷ ys) = (touching x.role y.role ≡ false) × Apart (y ∷ ys)

apart_glue : (x : Item) (ys : List Item) → Apart ys → Apart (glue item_role both_items x ys)
unfolding glue both_items
apart_glue x [] h = tt
apart_glue x (y ∷ []) h = go (touching x.role y.role) refl
  where
    go : (t : Bool) → touching x.role y.role ≡ t → Apart (glue item_role both_items x (y ∷ []))
    go true e = rw (glue_true item_role both_items x y [] e) tt
    go false e = rw (glue_false item_role both_items x y [] e) (e, tt)
apart_glue x (y ∷ z ∷ zs) h = go (touching x.role y.role) refl
  where
    go : (t : Bool) → touching x.role y.role ≡ t → Apart (glue item_role both_items x (y ∷ z ∷ zs))
    go true e = rw (glue_true item_role both_items x y (z ∷ zs) e) (ap (λ r. touching r z.role) (touch_eq x.role y.role e) ∙ h.0, h.1)
    go false e = rw (glue_false item_role both_items x y (z ∷ zs) e) (e, h)

apart_merged : (xs : List Item) → Apart (merged xs)
unfolding merged merge both_items
apart_merged [] = tt
apart_merged (x ∷ xs) = apart_glue x (merge item_role both_items xs) (apart_merged xs)

not_alike : (r r' : Role) → touching r r' ≡ false → not (alike r r') ≡ true
unfolding touching alike
not_alike top top e = sym e
not_alike top raw e = refl
not_alike top inner e = refl
not_alike raw top e = refl
not_alike raw raw e = sym e
not_alike raw inner e = refl
not_alike inner r e = refl

all_apart : (s e u n : ℕ) (xs : List Item) → Apart xs → apart (map (cover s e u) (laid n xs)) ≡ true
unfolding apart laid cover record_at
all_apart s e u n [] h = refl
all_apart s e u n (x ∷ []) h = refl
all_apart s e u n (x ∷ y ∷ ys) h = both_true _ _ (not_alike x.role y.role h.0) (all_apart s e u (n + length x.text) (y ∷ ys) h.1)

-- offsets
all_gapless : (n : ℕ) (rs : List Record) (m : ℕ) → Gapless n rs m → gapless n rs m ≡ true
unfolding gapless
all_gapless n [] m h = eq-eqb n m h
all_gapless n (r ∷ rs) m h = both_true _ _ (eq-eqb r.offset n h.0) (all_gapless (n + r.size) rs m h.1)

-- the sort: without an f-string one record of its kind, else no bytes
abbrev NoFour : List Item → Type 0
NoFour [] = Unit {0}
NoFour (x ∷ xs) = (eqb x.kind 4 ≡ false) × NoFour xs

four_append : (xs ys : List Item) → NoFour xs → NoFour ys → NoFour (xs ++ ys)
four_append [] ys h k = k
four_append (x ∷ xs) ys h k = (h.0, four_append xs ys h.1 k)

four_pieces : (kind start end base : ℕ) (ps : List Piece) → is_bytes kind ≡ false → NoFour (map (item_of kind start end base) ps)
unfolding item_of item
four_pieces kind start end base [] h = tt
four_pieces kind start end base (literal zero t ∷ ps) h = (rw h refl, four_pieces kind start end base ps h)
four_pieces kind start end base (literal (suc d) t ∷ ps) h = (refl, four_pieces kind start end base ps h)
four_pieces kind start end base (field d t c n i g ∷ ps) h = (refl, four_pieces kind start end base ps h)
four_pieces kind start end base (spec n ∷ ps) h = (refl, four_pieces kind start end base ps h)

four_glue : (x : Item) (ys : List Item) → eqb x.kind 4 ≡ false → NoFour ys → NoFour (glue item_role both_items x ys)
unfolding glue both_items
four_glue x [] h k = (h, tt)
four_glue x (y ∷ ys) h k = go (touching x.role y.role) refl
  where
    go : (t : Bool) → touching x.role y.role ≡ t → NoFour (glue item_role both_items x (y ∷ ys))
    go true e = rw (glue_true item_role both_items x y ys e) (h, k.1)
    go false e = rw (glue_false item_role both_items x y ys e) (h, k)

four_merged : (xs : List Item) → NoFour xs → NoFour (merged xs)
unfolding merged merge both_items
four_merged [] h = tt
four_merged (x ∷ xs) h = four_glue x (merge item_role both_items xs) h.0 (four_merged xs h.1)

no_bytes_lem : (s e u n : ℕ) (xs : List Item) → NoFour xs → no_bytes (map (cover s e u) (laid n xs)) ≡ true
unfolding no_bytes laid cover record_at
no_bytes_lem s e u n [] h = refl
no_bytes_lem s e u n (x ∷ xs) h = both_true _ _ (ap not h.0) (no_bytes_lem s e u (n + length x.text) xs h.1)

-- one record's words are those of one record
one_of_lem : (kind b c d e f g h : ℕ) (rs : List Record) → all_words rs ≡ kind ∷ b ∷ c ∷ d ∷ e ∷ f ∷ g ∷ h ∷ [] → one_of kind rs ≡ true
unfolding all_words words_of one_of
one_of_lem kind b c d e f g h [] q = let l = ap length q in absurd (omega arith)
one_of_lem kind b c d e f g h (r ∷ []) q = eq-eqb r.kind kind (ap (λ l. word l 0) q)
one_of_lem kind b c d e f g h (r ∷ r' ∷ rs) q = let l = ap length q in absurd (omega arith)

some_f : (ls : List Literal) → any_of is_fstring ls ≡ true → any_of not_bytes ls ≡ true
unfolding any_of
some_f [] h = h
some_f (l ∷ ls) h = go (is_fstring l.kind) refl h (some_f ls)
  where
    either : (a b : Bool) → b ≡ true → a || b ≡ true
    either true b k = refl
    either false b k = k

    go : (a : Bool) → is_fstring l.kind ≡ a → a || any_of is_fstring ls ≡ true → (any_of is_fstring ls ≡ true → any_of not_bytes ls ≡ true) → (not (is_bytes l.kind) || any_of not_bytes ls) ≡ true
    go true e h k = rw (f_no_bytes l.kind e) refl
    go false e h k = either (not (is_bytes l.kind)) (any_of not_bytes ls) (k h)

pub no_bytes_with_f : (ls : List Literal) → any_of is_fstring ls ≡ true → any_of is_bytes ls && any_of not_bytes ls ≡ false → any_of is_bytes ls ≡ false
no_bytes_with_f ls h k = go (any_of is_bytes ls) (any_of not_bytes ls) (some_f ls h) k
  where
    go : (a b : Bool) → b ≡ true → a && b ≡ false → a ≡ false
    go true b e k = sym e ∙ k
    go false b e k = refl

joined_items : (look : Naming) → (script : List ℕ) (ls : List Literal) (xs : List Item) → any_of is_bytes ls ≡ false → read_from look script 0 ls ≡ accepts xs → NoFour xs
joined_items look script ls xs h e =
    all_hold look NoFour tt four_append is_bytes script (λ i l b. literal_holds look NoFour tt four_append script i l (λ ps j r. four_pieces l.kind l.start l.end (place_of l 0) ps b)) ls xs h e

mark_bit : (ls : List Literal) → leb (u_mark ls) 1 ≡ true
unfolding u_mark
mark_bit [] = refl
mark_bit (l ∷ ls) = go (is_unicode l.kind)
  where
    go : (t : Bool) → leb (if t then 1 else 0) 1 ≡ true
    go true = refl
    go false = refl

sort_back : (q : Sort) → sort_from (sort_number q) ≡ q
unfolding sort_from sort_number
sort_back plain = refl
sort_back joined = refl
sort_back bytes_only = refl

sort_table : (ls : List Literal) (f b : Bool) → any_of is_fstring ls ≡ f → any_of is_bytes ls ≡ b → sort_of ls ≡ (if f then joined else if b then bytes_only else plain)
unfolding sort_of
sort_table ls f b p q = rw (p, q) refl

laid_back : (q : Sort) (u s e c : ℕ) (xs : List Item) → Good s e u 0 false [] 0 0 (merged xs) → (words text : List ℕ)
    → answer_from (sort_number q) u s e (length (map (cover s e u) (laid 0 (merged xs)))) (length (texts (merged xs))) c (all_words (map (cover s e u) (laid 0 (merged xs))) ++ words) (texts (merged xs) ++ text)
    ≡ answer_of q u s e c xs
unfolding answer_from answer_of
laid_back q u s e c xs g words text =
    λ i. record { sort = sort_back q i; u_mark = u; start = s; end = e; records = records i; text = take-append_seam (texts (merged xs)) text i; chars = c }
  where
    rs : List Record
    rs = map (cover s e u) (laid 0 (merged xs))

    records : records_from (length rs) 0 (all_words rs ++ words) ≡ rs
    records = ap (λ n. records_from n 0 (all_words rs ++ words)) (laid_length (cover s e u) 0 (merged xs)) ∙ g.back words

-- AN ACCEPTANCE
module _ (look : Naming) (script : List ℕ) (ls : List Literal) (x : Answer) (e : read look script ls ≡ accepts x) where
  abbrev from : From look script ls x
  from = accepted look script ls x e

  abbrev rs : List Record
  rs = map (cover (first_start ls) (last_end 0 ls) (u_mark ls)) (laid 0 (merged from.items))

  good : Good (first_start ls) (last_end 0 ls) (u_mark ls) 0 false [] 0 0 (merged from.items)
  good =
      laid_good (first_start ls) (last_end 0 ls) (u_mark ls) 0 false [] 0 0 (merged from.items)
      (run_merged false [] 0 0 from.items (items_run look script ls from.items (passes script ls from.passed).well from.reads))

  is_sort : x.sort ≡ sort_of ls
  unfolding answer_of
  is_sort = ap (λ y. y.sort) from.is

  is_records : x.records ≡ rs
  unfolding answer_of
  is_records = ap (λ y. y.records) from.is

  is_rest : (x.start ≡ first_start ls) × (x.end ≡ last_end 0 ls) × (x.u_mark ≡ u_mark ls)
  unfolding answer_of
  is_rest = (ap (λ y. y.start) from.is, ap (λ y. y.end) from.is, ap (λ y. y.u_mark) from.is)

  sort_fits : sorted x.sort x.records ≡ true
  unfolding sorted
  sort_fits = go (any_of is_fstring ls) refl (any_of is_bytes ls) refl
    where
      go : (f : Bool) → any_of is_fstring ls ≡ f → (b : Bool) → any_of is_bytes ls ≡ b → sorted x.sort x.records ≡ true
      go true p b q =
          let none_is = no_bytes_with_f ls p (not_mixed_lem ls (passes script ls from.passed).unmixed) in
          ap₂ sorted (is_sort ∙ sort_table ls true b p q) is_records
          ∙ no_bytes_lem (first_start ls) (last_end 0 ls) (u_mark ls) 0 (merged from.items) (four_merged from.items (joined_items look script ls from.items none_is from.reads))
      go false p true q = ap (λ k. sorted k x.records) (is_sort ∙ sort_table ls false true p q) ∙ one_of_lem 4 0 (length x.text) x.start x.end x.u_mark 0 0 x.records (rw q at (one_record_lem look script ls x p e))
      go false p false q = ap (λ k. sorted k x.records) (is_sort ∙ sort_table ls false false p q) ∙ one_of_lem 1 0 (length x.text) x.start x.end x.u_mark 0 0 x.records (rw q at (one_record_lem look script ls x p e))

  -- every top-level literal and bytes record has the whole range and u mark
  pub all_cover : whole x.start x.end x.u_mark x.records ≡ true
  all_cover = (λ i. whole (is_rest.0 i) (is_rest.1 i) (is_rest.2 i) (is_records i)) ∙ good.covered

  -- and no two of them touch
  pub none_touch : apart x.records ≡ true
  none_touch = ap apart is_records ∙ all_apart (first_start ls) (last_end 0 ls) (u_mark ls) 0 (merged from.items) (apart_merged from.items)

  formed : records_formed x ≡ true
  unfolding records_formed
  formed =
      both_true _ _
      (both_true _ _ (both_true _ _ (ap all_fit is_records ∙ good.fit) (ap (ordered false 0) is_records ∙ good.order)) (all_gapless 0 x.records (length x.text) sane.0))
      sort_fits
    where
      sane : Sane (accepts x)
      sane = rw e at (read_sane look script ls)

  -- it is well formed
  pub well_formed_lem : records_well_formed x ≡ true
  unfolding records_well_formed
  well_formed_lem =
      both_true _ _
      (both_true _ _ (both_true _ _ (both_true _ _ formed (ap (together 0 0 0) is_records ∙ good.ranges)) all_cover) none_touch)
      (ap (λ u. leb u 1) is_rest.2 ∙ mark_bit ls)

  -- and what its numbers, words and text say, whatever stands after them
  pub answer_back : (words text : List ℕ)
      → answer_from (sort_number x.sort) x.u_mark x.start x.end (length x.records) (length x.text) x.chars (all_words x.records ++ words) (x.text ++ text) ≡ x
  unfolding answer_of
  answer_back words text = rw from.is (laid_back (sort_of ls) (u_mark ls) (first_start ls) (last_end 0 ls) (all_chars script ls) from.items good words text)

  -- every field's expression is matched and not blank
  pub all_expressed : expressed x.text x.records ≡ true
  unfolding answer_of
  all_expressed = rw from.is (good.had [] refl)

  -- and fields lie at most two deep
  pub two_deep_lem : two_deep [] x.records ≡ true
  two_deep_lem = ap (two_deep []) is_records ∙ good.depth

  pub all_assured : assured x ≡ true
  unfolding assured
  all_assured = both_true _ _ (both_true _ _ all_expressed two_deep_lem) none_touch
