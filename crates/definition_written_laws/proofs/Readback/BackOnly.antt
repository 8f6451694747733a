-- ONLY WHAT MAY BE READ BACK IS: the second half of 55's theorem. Assumes nothing.
use mathlib.Core.Path.{◌≡◌, refl, sym, ◌∙◌, ap, ap₂, subst}
use mathlib.Core.Bool.{Bool, true, false, ◌&&◌}
use mathlib.Core.List.{List, [], ◌∷◌, ◌++◌, append_assoc, append-nil}
use mathlib.Core.Option.{none, some}
use Prim.Native.Nat.{ℕ, zero, suc, ◌+◌, ◌≤◌, ◌<◌}
use native.Mathlib.Omega.{arith}
use lib.Dec.{leb, eqb}
use lib.ListN.{length, drop, replicate, length-append}
use lib.Seq.{drop-append_seam}
use borrow.Author.Tests.{leb-false, le-leb, lt-ltb, eqb-true}
use Rattle.definition.specs.Chars.{◌is◌, byte, part, at_end, code, next}
use Rattle.definition.specs.Escapes.{Naming, Fault, fault, detail, Read, got, refused}
use Rattle.definition.specs.Numbers.{unclosed_lbrace, expression_nested_too_deeply, in_field}
use Rattle.definition.specs.Body.{Signs, with_close, with_colon, Piece, too_deep, filled, state, fresh, formatted, field_pieces, self_documenting, conversion_of, finished, specified, first_end, text_n, enough, read_body}
use Rattle.definition.specs.Matched.{Seen, clear, quoted, broken, pairs, closed, see, see_all, braceless}
use Rattle.definition.specs.Words.{is_conversion}
use Rattle.definition_written.specs.Written.{Content, empty, says, puts, forms, Where, top, early, late, past_field, spelled_byte, spelled_text, spelled_conversion, spelled, filled_with, alike_after, alike}
use Rattle.definition_written.specs.ReadsBack.{text_reads, begins_well, field_reads, parts_read}
use Rattle.definition.proofs.Moves.CharLaws.{cases, no, next_past, next_in, Utf8}
use Rattle.definition_laws.proofs.Moves.Adds.{part_split}
use Rattle.definition_laws.proofs.Formed.Grammar.{Parts, done, run, bare, full, flat, All, Tree, TreeRead, deep_stops}
use Rattle.definition_laws.proofs.Moves.Fuel.{field_reading, spec_reading}
use Rattle.definition_laws.proofs.Moves.Steps.{text_stops}
use Rattle.definition_laws.proofs.Moves.Moves.{Sound}
use Rattle.definition_written_laws.proofs.Readback.BackSteps.{text_at, field_at, spec_at, text_field, text_field_refused, field_spec, field_spec_refused, spec_text_lem, spec_over}
use Rattle.definition_written_laws.proofs.Readback.BackText.{At, at_in, at_next, at_skip, at_part, at_code, Reads, text_bytes}
use Rattle.definition_written_laws.proofs.Readback.BackTree.{Stop, Opens, past_reads, past_stops, reads_opens, opens_move, field_reading as reading, Reading, head, close_ends, colon_calls, back, first_end_lem, first_part, first_brace, strip, Shows, filled_shows, shows_filled, shows_puts, shows_forms, Converts, nested, early_is, both_braceless}
use Rattle.definition_written_laws.proofs.Readback.BackAnswer.{chained}
use Rattle.definition_written_laws.proofs.Readback.BackClean.{Clean, Keeps, keeps_fresh}
use Rattle.definition_written_laws.proofs.Readback.BackShape.{shows_one, shows_both, same_after, alike_filled, lead_text, first_text, lead_alike, rest_of, spec_of, rest_puts, rest_forms, Grown, text_grows, documenting, Shape, field_shape, all_trees}

-- WHAT IS OPEN BELOW: a bracket under all others stays, unless it is closed
abbrev under : ℕ → Seen → Seen
under a (clear o) = clear (o ++ a ∷ [])
under a (quoted q o) = quoted q (o ++ a ∷ [])
under a broken = broken

abbrev Whole : Seen → Type 0
Whole (clear o) = Unit {0}
Whole (quoted q o) = Unit {0}
Whole broken = ⊥

see_broken : (w : List ℕ) → see_all broken w ≡ broken
unfolding see_all see
see_broken [] = refl
see_broken (b ∷ w) = see_broken w

see_whole : (x : Seen) (w : List ℕ) → Whole (see_all x w) → Whole x
see_whole (clear o) w h = tt
see_whole (quoted q o) w h = tt
see_whole broken w h = subst Whole (see_broken w) h

under_closed : (a : ℕ) (o : List ℕ) (b : ℕ) → Whole (closed o b) → closed (o ++ a ∷ []) b ≡ under a (closed o b)
unfolding closed
under_closed a [] b h = absurd h
under_closed a (c ∷ o) b h = cases (pairs c b) (λ t. rw t refl) (λ t. absurd (rw t at h))

under_see : (a : ℕ) (x : Seen) (b : ℕ) → Whole (see x b) → see (under a x) b ≡ under a (see x b)
unfolding see
under_see a broken b h = absurd h
under_see a (quoted q o) b h = cases (eqb b q) (λ t. rw t refl) (λ t. rw t refl)
under_see a (clear o) b h =
    cases (b is "\"'") (λ t. rw t refl)
    (λ t.
    cases (b is "([{") (λ u. rw (t, u) refl)
    (λ u.
    cases (b is ")]}") (λ v. rw (t, u, v) (under_closed a o b (rw (t, u, v) at h)))
    (λ v. cases (eqb b 92) (λ z. absurd (rw (t, u, v, z) at h)) (λ z. rw (t, u, v, z) refl))))

under_all : (a : ℕ) (x : Seen) (w : List ℕ) → Whole (see_all x w) → see_all (under a x) w ≡ under a (see_all x w)
unfolding see_all
under_all a x [] h = refl
under_all a x (b ∷ w) h = ap (λ y. see_all y w) (under_see a x b (see_whole (see x b) w h)) ∙ under_all a (see x b) w h

see_append : (x : Seen) (s t : List ℕ) → see_all x (s ++ t) ≡ see_all (see_all x s) t
unfolding see_all
see_append x [] t = refl
see_append x (b ∷ s) t = see_append (see x b) s t

-- so bytes that leave nothing wrong can't close a brace that stands before them
never_closed_lem : (w r : List ℕ) → see_all (clear []) (w ++ r) ≡ clear [] → see_all (clear []) (123 ∷ w) ≡ clear [] → ⊥
unfolding see_all see
never_closed_lem w r h k =
    let x : Whole (see_all (clear []) w) = see_whole (see_all (clear []) w) r (subst Whole (sym (sym (see_append (clear []) w r) ∙ h)) tt) in
    not_empty_lem (see_all (clear []) w) (sym (under_all 123 (clear []) w x) ∙ k)
  where
    not_empty_lem : (x : Seen) → under 123 x ≡ clear [] → ⊥
    not_empty_lem (clear []) e = let z : ◌≡◌ {A = List ℕ} (123 ∷ []) [] = cc in let y = ap length z in omega arith
    not_empty_lem (clear (b ∷ o)) e = let z : ◌≡◌ {A = List ℕ} (b ∷ (o ++ 123 ∷ [])) [] = cc in let y = ap length z in omega arith
    not_empty_lem (quoted q o) e = let z : ◌≡◌ {A = ℕ} 0 1 = cc in omega arith
    not_empty_lem broken e = let z : ◌≡◌ {A = ℕ} 0 1 = cc in omega arith

-- FIELDS THAT ARE CLEAN, at most two deep
abbrev pub FieldsOk : ℕ → Content → Type 0
FieldsOk d empty = Unit {0}
FieldsOk d (says t p) = FieldsOk d p
FieldsOk d (puts e c p) = (d ≤ 1) × Clean e c × FieldsOk d p
FieldsOk d (forms e c q p) = (d ≤ 1) × Clean e c × FieldsOk (suc d) q × FieldsOk d p

pub all_fields : (d : ℕ) (p : Parts) → All Clean d p → FieldsOk d (strip p)
all_fields d done h = tt
all_fields d (run t p) h = all_fields d p h
all_fields d (bare e c i g p) h = (h.0, h.1, all_fields d p h.2)
all_fields d (full e c i g q p) h = (h.0, h.1, all_fields (suc d) q h.2, all_fields d p h.3)

ok_filled : (d : ℕ) (t : List ℕ) (p : Content) → FieldsOk d p → FieldsOk d (filled_with t p)
unfolding filled_with
ok_filled d [] p h = h
ok_filled d (b ∷ t) p h = h

filled_ok : (d : ℕ) (t : List ℕ) (p : Content) → FieldsOk d (filled_with t p) → FieldsOk d p
unfolding filled_with
filled_ok d [] p h = h
filled_ok d (b ∷ t) p h = h

pub ok_alike : (d : ℕ) (t : List ℕ) (p : Content) → FieldsOk d p → FieldsOk d (alike_after t p)
unfolding alike_after
ok_alike d t empty h = ok_filled d t empty tt
ok_alike d t (says u p) h = ok_alike d (t ++ u) p h
ok_alike d t (puts e c p) h = ok_filled d t (puts e c (alike_after [] p)) (h.0, h.1, ok_alike d [] p h.2)
ok_alike d t (forms e c q p) h = ok_filled d t (forms e c (alike_after [] q) (alike_after [] p)) (h.0, h.1, ok_alike (suc d) [] q h.2, ok_alike d [] p h.3)

pub alike_ok : (d : ℕ) (t : List ℕ) (p : Content) → FieldsOk d (alike_after t p) → FieldsOk d p
unfolding alike_after
alike_ok d t empty h = tt
alike_ok d t (says u p) h = alike_ok d (t ++ u) p h
alike_ok d t (puts e c p) h = let k = filled_ok d t (puts e c (alike_after [] p)) h in (k.0, k.1, alike_ok d [] p k.2)
alike_ok d t (forms e c q p) h = let k = filled_ok d t (forms e c (alike_after [] q) (alike_after [] p)) h in (k.0, k.1, alike_ok (suc d) [] q k.2, alike_ok d [] p k.3)

no_got : {P : Type 0} {A : Type 0} {x : Fault} {v : A} {j : ℕ} → ◌≡◌ {A = Read A} (refused x) (got v j) → P
no_got e = let z : ◌≡◌ {A = ℕ} 0 1 = cc in absurd (omega arith)

got_is : {A : Type 0} {u v : A} {i j : ℕ} → ◌≡◌ {A = Read A} (got u i) (got v j) → (u ≡ v) × (i ≡ j)
got_is e = (cc, cc)

ok_field : (w : Where) (d : ℕ) (e : List ℕ) (c : ℕ) → d ≤ 1 → Clean e c → begins_well w e ≡ true → field_reads d w e ≡ true
unfolding field_reads
ok_field w d e c l h b = rw (lt-ltb d 2 (omega arith), b, h.0, h.1) refl

module _ (look : Naming) (s : List ℕ) (utf8 : Utf8 s) where
  abbrev moves : ℕ
  moves = suc (length s + length s + 1)

  -- AFTER A FIELD that is read from i up to j as fp
  record After (d : ℕ) (t : List ℕ) (ps qs fp : List Piece) (j k : ℕ) : Type 0 where
    new : List Piece
    holds : Content
    reads : text_at look s d j [] (ps ++ filled d t ++ fp) ≡ got ((ps ++ filled d t ++ fp) ++ new) k
    shows : Shows d new holds
    split : qs ≡ filled d t ++ (fp ++ new)

  after_field : (d i j k y : ℕ) (t l : List ℕ) (ps qs fp : List Piece) → d ≤ 1 → leb too_deep d ≡ false → (eqb d 0 && eqb y 123) ≡ false → At s i (123 ∷ y ∷ l)
      → field_at look s d (i + 1) (i + 1) fresh ≡ got fp j → i < j → j ≤ length s → text_at look s d i t ps ≡ got (ps ++ qs) k → After d t ps qs fp j k
  after_field d i j k y t l ps qs fp deep a b h f m n r =
      let ps' = ps ++ filled d t ++ fp in
      let e = text_field look s d i t ps fp j (at_in s i 123 (y ∷ l) h) (opens_move look s utf8 d i y t l a b h) (ap (λ z. field_at look s d z z fresh) (at_code s i 123 (y ∷ l) h (omega arith)).1 ∙ f) m n in
      let r' = sym e ∙ r in
      let g = text_grows look s utf8 moves d j [] ps' (ps ++ qs) k deep r' in
      record {
        new = g.new;
        holds = g.holds;
        reads = r' ∙ ap (λ z. got z k) g.follows;
        shows = g.shows;
        split = same_after ps qs (filled d t ++ (fp ++ g.new)) (g.follows ∙ append_assoc (ps ++ filled d t) fp g.new ∙ append_assoc ps (filled d t) (fp ++ g.new));
      }

  -- A FIELD THAT IS REFUSED refuses the text
  no_field : (d i k y : ℕ) (t l : List ℕ) (ps rs : List Piece) (x : Fault) → leb too_deep d ≡ false → (eqb d 0 && eqb y 123) ≡ false → At s i (123 ∷ y ∷ l)
      → field_at look s d (i + 1) (i + 1) fresh ≡ refused x → text_at look s d i t ps ≡ got rs k → ⊥
  no_field d i k y t l ps rs x a b h f r =
      no_got (sym (text_field_refused look s d i t ps x (at_in s i 123 (y ∷ l) h) (opens_move look s utf8 d i y t l a b h) (ap (λ z. field_at look s d z z fresh) (at_code s i 123 (y ∷ l) h (omega arith)).1 ∙ f)) ∙ r)

  -- A: at the top `{{` is a brace, and the text then goes on
  no_brace : (i k : ℕ) (t l : List ℕ) (ps qs : List Piece) (p : Content) → At s i (123 ∷ 123 ∷ l) → text_at look s 0 i t ps ≡ got (ps ++ qs) k → Shows 0 qs p → lead_text (alike p) ≡ t → ⊥
  unfolding spelled_text spelled_byte
  no_brace i k t l ps qs p h r sh le =
      let g = text_grows look s utf8 moves 0 (i + 2) (t ++ 123 ∷ []) ps (ps ++ qs) k (omega arith) (sym (text_bytes look s top 0 refl i t (123 ∷ []) ps l h) ∙ r) in
      let same = same_after ps qs g.new g.follows in
      let one : p ≡ g.holds = shows_one 0 g.new p g.holds (subst (λ (z : List Piece). Shows 0 z p) same sh) g.shows in
      let e : t ≡ (t ++ 123 ∷ []) ++ first_text g.onward = sym le ∙ ap (λ z. lead_text (alike z)) one ∙ ap lead_text g.grows ∙ lead_alike (t ++ 123 ∷ []) g.onward in
      let n = ap length e in
      omega (arith, n, length-append (t ++ 123 ∷ []) (first_text g.onward), length-append t (123 ∷ []))

  -- THE CLAIMS
  abbrev TextOnly : Content → Type 0
  TextOnly p = (w : Where) (d : ℕ) → Reads look s w d → (i : ℕ) (t l : List ℕ) (ps qs : List Piece) (k : ℕ) (h : Content) → At s i (spelled w p ++ l) → Stop look s utf8 w l → FieldsOk d p → Converts p
      → text_at look s d i t ps ≡ got (ps ++ qs) k → Shows d qs h → alike h ≡ alike_after t p → parts_read d w p ≡ true

  abbrev SpecOnly : Content → Type 0
  SpecOnly p = (d i : ℕ) (v l : List ℕ) (qs : List Piece) (k : ℕ) (h : Content) → 0 < i → At s i (v ++ (spelled early p ++ 125 ∷ l)) → braceless v ≡ true → FieldsOk (suc d) p → Converts p
      → spec_at look s d i ≡ got qs k → Shows (suc d) qs h → alike h ≡ alike_after v p → parts_read (suc d) early p ≡ true

  -- a field's expression at the top begins with no brace
  begins : (w : Where) (d i k : ℕ) (t l e : List ℕ) (ps qs : List Piece) (p : Content) → Opens look s utf8 w d → At s i (123 ∷ (e ++ l)) → text_at look s d i t ps ≡ got (ps ++ qs) k → Shows d qs p → (w ≡ top → lead_text (alike p) ≡ t) → begins_well w e ≡ true
  unfolding begins_well
  begins top d i k t l [] ps qs p o h r sh le = refl
  begins top d i k t l (x ∷ e) ps qs p o h r sh le =
      cases (eqb x 123)
      (λ z. absurd (no_brace i k t (e ++ l) ps qs p (rw (eqb-true x 123 z) at h) (rw o at r) (subst (λ (d : ℕ). Shows d qs p) o sh) (le refl)))
      (λ z. rw z refl)
  begins early d i k t l e ps qs p o h r sh le = refl
  begins late d i k t l e ps qs p o h r sh le = refl

  module _ (w : Where) (d : ℕ) (Opens-at : Opens look s utf8 w d) (e : List ℕ) (c : ℕ) (p : Content) (rest : TextOnly p) (i : ℕ) (t l : List ℕ) (ps qs : List Piece) (k : ℕ) (held : Content) (stop : Stop look s utf8 w l)
      (deep : d ≤ 1) (ok : Clean e c) (oks : FieldsOk d p) (conversion : is_conversion c ≡ true) (conversions : Converts p)
      (r : text_at look s d i t ps ≡ got (ps ++ qs) k) (sh : Shows d qs held) (leads : w ≡ top → lead_text (alike held) ≡ t) where
    abbrev after : List ℕ
    after = spelled (past_field w) p

    -- what is left, from j on, holds the rest alike
    rest_only : (j : ℕ) (fp : List Piece) → At s j (after ++ l) → (x : After d t ps qs fp j k) → alike x.holds ≡ alike p → parts_read d (past_field w) p ≡ true
    rest_only j fp h x a = rest (past_field w) d (past_reads look s utf8 w d Opens-at) j [] l (ps ++ filled d t ++ fp) x.new k x.holds h (past_stops look s utf8 w l stop) oks conversions x.reads x.shows a

    puts_only : At s i (spelled w (puts e c p) ++ l) → ((x : Content) → held ≡ filled_with t (puts e c x) → alike x ≡ alike p) → parts_read d w (puts e c p) ≡ true
    unfolding spelled parts_read
    puts_only h given =
        let h₀ : At s i (123 ∷ (e ++ (spelled_conversion c ++ 125 ∷ (after ++ l)))) = rw (nested e (spelled_conversion c) 125 after l) at h in
        let b = begins w d i k t (spelled_conversion c ++ 125 ∷ (after ++ l)) e ps qs held Opens-at h₀ r sh leads in
        let f = ok_field w d e c deep ok b in
        let x = reading look s utf8 w d e Opens-at f in
        let h₁ = at_next s i 123 (e ++ (spelled_conversion c ++ 125 ∷ (after ++ l))) h₀ in
        let h₂ = at_skip s (i + 1 + length e) (spelled_conversion c) (125 ∷ (after ++ l)) (at_skip s (i + 1) e (spelled_conversion c ++ 125 ∷ (after ++ l)) h₁) in
        let m = i + 1 + length e + length (spelled_conversion c) in
        let y = head look s utf8 d (i + 1) e 125 (after ++ l) refl x.ok x.said c conversion h₁ in
        let g = with_close (m + 1) y.sign in
        let fp = field_pieces d e c (i + 1) g none in
        let h₃ = at_next s m 125 (after ++ l) h₂ in
        let z = after_field d i (m + 1) k x.first t (x.others ++ (spelled_conversion c ++ 125 ∷ (after ++ l))) ps qs fp deep x.shallow x.begins (rw x.split at h₀)
        (y.reads ∙ close_ends look s utf8 d (i + 1) e 125 (after ++ l) refl x.ok x.said m c y.sign (after ++ l) h₂) (omega arith) h₃.0 r in
        let one = shows_one d qs held (filled_with t (puts e c z.holds)) sh (subst (λ (u : List Piece). Shows d u (filled_with t (puts e c z.holds))) (sym z.split) (shows_filled d t (fp ++ z.new) (puts e c z.holds) (shows_puts d e c (i + 1) g z.new z.holds z.shows))) in
        rw (f, rest_only (m + 1) fp h₃ z (given z.holds one)) refl

    module _ (q : Content) (inner : SpecOnly q) (inner-oks : FieldsOk (suc d) q) (inner-conversions : Converts q) where
      abbrev inside : List ℕ
      inside = spelled early q ++ 125 ∷ (after ++ l)

      abbrev Given : Type 0
      Given = (x y : Content) → held ≡ filled_with t (forms e c x y) → (alike x ≡ alike q) × (alike y ≡ alike p)

      module _ (m : ℕ) (g : Signs) (f : field_reads d w e ≡ true) (h : At s m (58 ∷ inside)) (later : i < m) (h₀ : At s i (123 ∷ (e ++ (spelled_conversion c ++ 58 ∷ inside))))
          (fr : field_at look s d (i + 1) (i + 1) fresh ≡ field_at look s d (i + 1) m (state e false [] c false 0 g)) where
        abbrev z : Reading look s utf8 w d e
        z = reading look s utf8 w d e Opens-at f

        n : next s m ≡ m + 1
        n = (at_code s m 58 inside h (omega arith)).1

        -- a field that is refused
        refused_not : (x : Fault) → field_at look s d (i + 1) (i + 1) fresh ≡ refused x → ⊥
        refused_not x y = no_field d i k z.first t (z.others ++ (spelled_conversion c ++ 58 ∷ inside)) ps (ps ++ qs) x z.shallow z.begins (rw z.split at h₀) y r

        from_spec : (sq : List Piece) (j : ℕ) → spec_at look s d (m + 1) ≡ got sq j → field_at look s d (i + 1) (i + 1) fresh ≡ specified s d (i + 1) j (formatted (next s m) (state e false [] c false 0 g)) sq
        from_spec sq j o = fr ∙ field_spec look s d (i + 1) m (state e false [] c false 0 g) sq j (at_in s m 58 inside h) (colon_calls look s utf8 d (i + 1) e 58 inside refl z.ok z.said m c g inside h) (ap (spec_at look s d) n ∙ o)

        -- a spec that was read up to j, inside the body
        module _ (given : Given) (sq : List Piece) (j : ℕ) (o : spec_at look s d (m + 1) ≡ got sq j) (in_order_lem : m + 1 ≤ j) (in-s : j < length s)
            (fields : field_at look s d (i + 1) (i + 1) fresh ≡ got (field_pieces d e c (i + 1) (with_close (next s j) (with_colon (next s m) g)) (some sq)) (next s j)) where
          abbrev fp : List Piece
          fp = field_pieces d e c (i + 1) (with_close (next s j) (with_colon (next s m) g)) (some sq)

          left : After d t ps qs fp (next s j) k
          left = after_field d i (next s j) k z.first t (z.others ++ (spelled_conversion c ++ 58 ∷ inside)) ps qs fp deep z.shallow z.begins (rw z.split at h₀) fields (omega (arith, next_past s j in-s)) (next_in s j (omega arith)) r

          spec_tree : Tree Clean (suc d) sq
          spec_tree = subst (TreeRead Clean (suc d)) o ((all_trees look s utf8 moves).spec d (m + 1))

          spec_shows : Shows (suc d) sq (strip spec_tree.0)
          spec_shows = (spec_tree.0, spec_tree.1, refl)

          held_is : held ≡ filled_with t (forms e c (strip spec_tree.0) left.holds)
          held_is =
              shows_one d qs held (filled_with t (forms e c (strip spec_tree.0) left.holds)) sh
              (subst (λ (u : List Piece). Shows d u (filled_with t (forms e c (strip spec_tree.0) left.holds))) (sym left.split)
              (shows_filled d t (fp ++ left.new) (forms e c (strip spec_tree.0) left.holds) (shows_forms d e c (i + 1) (with_close (next s j) (with_colon (next s m) g)) sq left.new (strip spec_tree.0) left.holds spec_shows left.shows)))

          alikes : (alike (strip spec_tree.0) ≡ alike q) × (alike left.holds ≡ alike p)
          alikes = given (strip spec_tree.0) left.holds held_is

          h₁ : At s (m + 1) inside
          h₁ = at_next s m 58 inside h

          inner_reads : parts_read (suc d) early q ≡ true
          unfolding braceless
          inner_reads = inner d (m + 1) [] (after ++ l) sq j (strip spec_tree.0) (omega arith) h₁ refl inner-oks inner-conversions o spec_shows alikes.0

          there : j ≡ m + 1 + (0 + length (spelled early q))
          unfolding braceless
          there = let b = (back look s utf8 q).in_spec d (m + 1) [] (after ++ l) (omega arith) h₁ refl inner_reads inner-conversions in (got_is (sym o ∙ b.is_got)).1

          h₂ : At s (next s j) (after ++ l)
          h₂ =
              let y : j ≡ m + 1 + length (spelled early q) = omega (arith, there) in
              let a : At s j (125 ∷ (after ++ l)) = subst (λ (j : ℕ). At s j (125 ∷ (after ++ l))) (sym y) (at_skip s (m + 1) (spelled early q) (125 ∷ (after ++ l)) h₁) in
              subst (λ (j : ℕ). At s j (after ++ l)) (sym (at_code s j 125 (after ++ l) a (omega arith)).1) (at_next s j 125 (after ++ l) a)

          both_read : (parts_read (suc d) early q ≡ true) × (parts_read d (past_field w) p ≡ true)
          both_read = (inner_reads, rest_only (next s j) fp h₂ left alikes.1)

        spec_only : Given → (o : Read (List Piece)) → spec_at look s d (m + 1) ≡ o → (parts_read (suc d) early q ≡ true) × (parts_read d (past_field w) p ≡ true)
        unfolding specified formatted finished self_documenting conversion_of
        spec_only given (refused x) o =
            absurd (refused_not x (fr ∙ field_spec_refused look s d (i + 1) m (state e false [] c false 0 g) x (at_in s m 58 inside h) (colon_calls look s utf8 d (i + 1) e 58 inside refl z.ok z.said m c g inside h) (ap (spec_at look s d) n ∙ o)))
        spec_only given (got sq j) o =
            let y = from_spec sq j o in
            let sound = subst (Sound s (m + 1)) o (spec_reading look moves 1 s d (m + 1) (at_next s m 58 inside h).0 (omega arith)).0 in
            cases (at_end s j) (λ u. absurd (refused_not (detail unclosed_lbrace j in_field) (y ∙ rw u refl)))
            (λ u. both_read given sq j o sound.0 (leb-false (length s) j u) (y ∙ rw u refl))

      forms_only : At s i (spelled w (forms e c q p) ++ l) → Given → parts_read d w (forms e c q p) ≡ true
      unfolding spelled parts_read
      forms_only h given =
          let h₀ : At s i (123 ∷ (e ++ (spelled_conversion c ++ 58 ∷ inside))) = rw (nested e (spelled_conversion c) 58 (spelled early q ++ 125 ∷ after) l, append_assoc (spelled early q) (125 ∷ after) l) at h in
          let b = begins w d i k t (spelled_conversion c ++ 58 ∷ inside) e ps qs held Opens-at h₀ r sh leads in
          let f = ok_field w d e c deep ok b in
          let x = reading look s utf8 w d e Opens-at f in
          let h₁ = at_next s i 123 (e ++ (spelled_conversion c ++ 58 ∷ inside)) h₀ in
          let h₂ = at_skip s (i + 1 + length e) (spelled_conversion c) (58 ∷ inside) (at_skip s (i + 1) e (spelled_conversion c ++ 58 ∷ inside) h₁) in
          let m = i + 1 + length e + length (spelled_conversion c) in
          let y = head look s utf8 d (i + 1) e 58 inside refl x.ok x.said c conversion h₁ in
          let z = spec_only m y.sign f h₂ (omega arith) h₀ y.reads given (spec_at look s d (m + 1)) refl in
          rw (f, z.0, z.1) refl

  some_byte : (t : List ℕ) → 0 < length t → (y : ℕ) × (r : List ℕ) × (t ≡ y ∷ r)
  some_byte [] h = absurd (omega arith)
  some_byte (y ∷ r) h = (y, r, refl)

  -- B: A BRACE EARLY IN A SPEC
  record Split (u : List ℕ) : Type 0 where
    front : List ℕ
    brace : ℕ
    behind : List ℕ
    joins : u ≡ front ++ brace ∷ behind
    plain : braceless front ≡ true
    is_brace : (brace is "{}") ≡ true

  split : (u : List ℕ) → braceless u ≡ false → Split u
  unfolding braceless
  split [] h = no (sym h)
  split (b ∷ u) h = go (b is "{}") refl (split u)
    where
      go : (t : Bool) → (b is "{}") ≡ t → (braceless u ≡ false → Split u) → Split (b ∷ u)
      go true t ih = record { front = []; brace = b; behind = u; joins = refl; plain = refl; is_brace = t }
      go false t ih =
          let x = ih (rw t at h) in
          record { front = b ∷ x.front; brace = x.brace; behind = x.behind; joins = ap (λ z. b ∷ z) x.joins; plain = rw (t, x.plain) refl; is_brace = x.is_brace }

  early_first : (p : Content) → (r : List ℕ) × (spelled early p ≡ first_text p ++ r)
  unfolding spelled
  early_first empty = ([], refl)
  early_first (says t p) = let (r, e) = early_first p in (r, ap₂ ◌++◌ (early_is t) e ∙ sym (append_assoc t (first_text p) r))
  early_first (puts e c p) = (_, refl)
  early_first (forms e c q p) = (_, refl)

  -- text that is followed by more is not that text
  not_more : (v : List ℕ) (x : ℕ) (u : List ℕ) → v ++ [] ≡ v ++ x ∷ u → ⊥
  not_more v x u e = let n = ap length e in omega (arith, n, length-append v [], length-append v (x ∷ u))

  cancel : (v a b : List ℕ) → v ++ a ≡ v ++ b → a ≡ b
  cancel v a b e = sym (drop-append_seam v a) ∙ ap (drop (length v)) e ∙ drop-append_seam v b

  -- a field that documents what stands there: its expression would begin with the brace that opened it
  no_document : (m : ℕ) (e r u z : List ℕ) (k : ℕ) (b : Bool) → At s (m + 1) (u ++ z) → (e ++ (61 ∷ [])) ++ r ≡ 123 ∷ u → Keeps s utf8 (m + 1) k e b [] true → ⊥
  no_document m [] r u z k b h e kept = let n : ◌≡◌ {A = ℕ} 61 123 = ap (λ t. byte t 0) e in omega arith
  no_document m (x ∷ e) r u z k b h q kept =
      let n : x ≡ 123 = ap (λ t. byte t 0) q in
      let q' : (e ++ (61 ∷ [])) ++ r ≡ u = ap (drop 1) q in
      let h' : At s (m + 1) (e ++ ((61 ∷ []) ++ (r ++ z))) = subst (λ (t : List ℕ). At s (m + 1) t) (ap (λ t. t ++ z) (sym q') ∙ append_assoc (e ++ (61 ∷ [])) r z ∙ append_assoc e (61 ∷ []) (r ++ z)) h in
      let p = at_part s (m + 1) e ((61 ∷ []) ++ (r ++ z)) h' in
      let l : m + 1 + length e ≤ k = omega (arith, kept.size) in
      let y : part s (m + 1) k ≡ e ++ part s (m + 1 + length e) k = part_split s (m + 1) (m + 1 + length e) k (omega arith) l ∙ ap (λ t. t ++ part s (m + 1 + length e) k) p in
      never_closed_lem e (part s (m + 1 + length e) k) (sym (ap (see_all (clear [])) y) ∙ kept.sees) (subst (λ (x : ℕ). see_all (clear []) (x ∷ e) ≡ clear []) n kept.adds.sees)

  module _ (i : ℕ) (v u : List ℕ) (q : Content) (l : List ℕ) (qs : List Piece) (k : ℕ) (held : Content) (positive : 0 < i) (v-plain : braceless v ≡ true) (x : Split u) where
    abbrev front : List ℕ
    front = v ++ x.front

    abbrev behind : List ℕ
    behind = x.behind ++ (spelled early q ++ 125 ∷ l)

    front_plain : braceless front ≡ true
    front_plain = both_braceless v x.front v-plain x.plain

    -- where the brace stands
    m : ℕ
    m = i + length front

    at_brace : At s i (v ++ (spelled early (says u q) ++ 125 ∷ l)) → At s i (front ++ x.brace ∷ behind)
    unfolding spelled
    at_brace h = subst (λ (t : List ℕ). At s i t) (ap (λ t. v ++ (t ++ 125 ∷ l)) (ap (λ t. t ++ spelled early q) (early_is u ∙ x.joins)) ∙ there) h
      where
        there : v ++ (((x.front ++ x.brace ∷ x.behind) ++ spelled early q) ++ 125 ∷ l) ≡ front ++ x.brace ∷ behind
        there =
            ap (λ t. v ++ t) (append_assoc (x.front ++ x.brace ∷ x.behind) (spelled early q) (125 ∷ l) ∙ append_assoc x.front (x.brace ∷ x.behind) (spelled early q ++ 125 ∷ l))
            ∙ sym (append_assoc v x.front (x.brace ∷ behind))

    -- the text that is wanted in front goes on with the brace
    wanted : alike held ≡ alike_after v (says u q) → lead_text (alike held) ≡ front ++ x.brace ∷ (x.behind ++ first_text q)
    unfolding alike_after
    wanted a =
        ap lead_text a ∙ lead_alike (v ++ u) q ∙ ap (λ t. (v ++ t) ++ first_text q) x.joins
        ∙ append_assoc v (x.front ++ x.brace ∷ x.behind) (first_text q) ∙ ap (λ t. v ++ t) (append_assoc x.front (x.brace ∷ x.behind) (first_text q)) ∙ sym (append_assoc v x.front (x.brace ∷ (x.behind ++ first_text q)))

    -- a spec that ends there
    no_end : (d : ℕ) → x.brace ≡ 125 → At s i (front ++ x.brace ∷ behind) → spec_at look s d i ≡ got qs k → Shows (suc d) qs held → lead_text (alike held) ≡ front ++ x.brace ∷ (x.behind ++ first_text q) → ⊥
    no_end d b h r sh le =
        let code-not : (code s (first_end s i) is "{") ≡ false = first_brace look s utf8 d i front x.brace behind h front_plain x.is_brace 0 (omega arith) ∙ rw b refl in
        let e = (got_is (sym (spec_over look s d i code-not) ∙ r)).0 in
        let e' : qs ≡ filled (suc d) front = sym e ∙ ap (filled (suc d)) (first_part look s utf8 d i front x.brace behind h front_plain x.is_brace) in
        let one = shows_one (suc d) (filled (suc d) front) held (filled_with front empty) (subst (λ (t : List Piece). Shows (suc d) t held) e' sh) (filled_shows (suc d) front) in
        not_more front x.brace (x.behind ++ first_text q) (sym (lead_alike front empty) ∙ ap lead_text (sym (alike_filled front empty)) ∙ ap (λ t. lead_text (alike t)) (sym one) ∙ le)

    -- a field that opens there: its text, whatever follows
    from_text : (d : ℕ) → x.brace ≡ 123 → At s i (front ++ x.brace ∷ behind) → spec_at look s d i ≡ got qs k → text_at look s (suc d) (i + length front) [] (filled (suc d) front) ≡ got qs k
    from_text d b h r =
        sym (spec_text_lem look s d i positive h.0 (first_brace look s utf8 d i front x.brace behind h front_plain x.is_brace 0 (omega arith) ∙ rw b refl)
        ∙ ap₂ (λ j t. text_at look s (suc d) j [] (filled (suc d) t)) (first_end_lem look s utf8 d i front x.brace behind h front_plain x.is_brace) (first_part look s utf8 d i front x.brace behind h front_plain x.is_brace))
        ∙ r

    -- that field, read up to j, and what follows it
    module _ (b : x.brace ≡ 123) (h : At s (i + length front) (123 ∷ behind)) (fp : List Piece) (j : ℕ) (f : field_at look s 1 (i + length front + 1) (i + length front + 1) fresh ≡ got fp j)
        (in_order_lem : i + length front + 1 ≤ j) (in-s : j ≤ length s) (r : text_at look s 1 (i + length front) [] (filled 1 front) ≡ got qs k) (sh : Shows 1 qs held)
        (le : lead_text (alike held) ≡ front ++ 123 ∷ (x.behind ++ first_text q)) where
      grown : Grown look s utf8 1 [] (filled 1 front) qs
      grown = text_grows look s utf8 moves 1 (i + length front) [] (filled 1 front) qs k (omega arith) r

      shape : Shape look s utf8 1 (i + length front + 1) fp
      shape = field_shape look s utf8 moves 1 (i + length front + 1) (i + length front + 1) fresh fp j (omega arith) (keeps_fresh s utf8 (i + length front + 1)) f

      abbrev documented : Content
      documented = documenting look s utf8 shape.documents shape.expression shape.spaces shape.itself

      lead_is : (rest : Content) → held ≡ filled_with front (chained documented rest) → first_text (chained documented rest) ≡ 123 ∷ (x.behind ++ first_text q)
      lead_is rest e = cancel front (first_text (chained documented rest)) (123 ∷ (x.behind ++ first_text q)) (sym (lead_alike front (chained documented rest)) ∙ ap lead_text (sym (alike_filled front (chained documented rest))) ∙ ap (λ t. lead_text (alike t)) (sym e) ∙ le)

      impossible : (documents : Bool) (e : List ℕ) (w : ℕ) (itself : Content) → ((p : Content) → first_text (chained itself p) ≡ []) → (b : Bool) (c : ℕ) → Keeps s utf8 (i + length front + 1) c e b [] documents
          → (rest : Content) → first_text (chained (documenting look s utf8 documents e w itself) rest) ≡ 123 ∷ (x.behind ++ first_text q) → ⊥
      impossible false e w itself un b c kept rest z = let n = ap length (sym (un rest) ∙ z) in omega arith
      impossible true e w itself un b c kept rest z =
          let (y, g) = early_first q in
          let h' : At s (i + length front + 1) ((x.behind ++ first_text q) ++ (y ++ 125 ∷ l)) = subst (λ (t : List ℕ). At s (i + length front + 1) t) (ap (λ t. x.behind ++ (t ++ 125 ∷ l)) g ∙ ap (λ t. x.behind ++ t) (append_assoc (first_text q) y (125 ∷ l)) ∙ sym (append_assoc x.behind (first_text q) (y ++ 125 ∷ l))) (at_next s (i + length front) 123 behind h) in
          no_document (i + length front) e (replicate w 32 ++ first_text (chained itself rest)) (x.behind ++ first_text q) (y ++ 125 ∷ l) c b h' (z' (chained itself rest) z) kept
        where
          z' : (p : Content) → (e ++ (61 ∷ [])) ++ (replicate w 32 ++ first_text p) ≡ 123 ∷ (x.behind ++ first_text q) → (e ++ (61 ∷ [])) ++ (replicate w 32 ++ first_text p) ≡ 123 ∷ (x.behind ++ first_text q)
          z' p e = e

      no_field_there : (y : ℕ) (r' : List ℕ) → behind ≡ y ∷ r' → ⊥
      unfolding filled
      no_field_there y r' e =
          let a = after_field 1 (i + length front) j k y [] r' (filled 1 front) grown.new fp (omega arith) refl refl (rw e at h) f (omega arith) in-s (r ∙ ap (λ z. got z k) grown.follows) in
          let s₁ : Shows 1 grown.new (chained documented a.holds) = subst (λ (t : List Piece). Shows 1 t (chained documented a.holds)) (sym a.split) (shows_both 1 fp a.new documented a.holds shape.shows a.shows) in
          let one : held ≡ filled_with front (chained documented a.holds) = shows_one 1 qs held (filled_with front (chained documented a.holds)) sh (subst (λ (t : List Piece). Shows 1 t (filled_with front (chained documented a.holds))) (sym grown.follows) (shows_filled 1 front grown.new (chained documented a.holds) s₁)) in
          impossible shape.documents shape.expression shape.spaces shape.itself shape.unled shape.blanks shape.closes_at shape.kept a.holds (lead_is a.holds one)

    no_open : (d : ℕ) → x.brace ≡ 123 → At s i (front ++ x.brace ∷ behind) → spec_at look s d i ≡ got qs k → Shows (suc d) qs held → lead_text (alike held) ≡ front ++ x.brace ∷ (x.behind ++ first_text q) → ⊥
    no_open (suc d) b h r sh le =
        no_got (sym (text_stops look (length s + length s + 1) 1 s (suc (suc d)) (i + length front) [] (filled (suc (suc d)) front) (fault expression_nested_too_deeply (i + length front)) (deep_stops look 1 s (suc (suc d)) (i + length front) [] (le-leb 2 (suc (suc d)) (omega arith)))) ∙ from_text (suc d) b h r)
    no_open zero b h r sh le = go (field_at look s 1 (i + length front + 1) (i + length front + 1) fresh) refl
      where
        h' : At s (i + length front) (123 ∷ behind)
        h' = subst (λ (c : ℕ). At s (i + length front) (c ∷ behind)) b (at_skip s i front (x.brace ∷ behind) h)

        more : (y : ℕ) × (r : List ℕ) × (behind ≡ y ∷ r)
        more = some_byte behind (omega (arith, length-append x.behind (spelled early q ++ 125 ∷ l), length-append (spelled early q) (125 ∷ l)))

        go : (f : Read (List Piece)) → field_at look s 1 (i + length front + 1) (i + length front + 1) fresh ≡ f → ⊥
        go (refused z) f = no_field 1 (i + length front) k more.0 [] more.1 (filled 1 front) qs z refl refl (rw more.2 at h') f (from_text 0 b h r)
        go (got fp j) f =
            let sound = subst (Sound s (i + length front + 1)) f (field_reading look moves 1 s 1 (i + length front + 1) (i + length front + 1) (at_next s (i + length front) 123 behind h').0 (omega arith)).0 in
            no_field_there b h' fp j f sound.0 sound.1 (from_text 0 b h r) sh (rw b at le) more.0 more.1 more.2

    no_brace_early : (d : ℕ) → At s i (v ++ (spelled early (says u q) ++ 125 ∷ l)) → spec_at look s d i ≡ got qs k → Shows (suc d) qs held → alike held ≡ alike_after v (says u q) → ⊥
    no_brace_early d h r sh a =
        let h' = at_brace h in
        let le = wanted a in
        cases (eqb x.brace 123) (λ t. no_open d (eqb-true x.brace 123 t) h' r sh le)
        (λ t. no_end d (eqb-true x.brace 125 (rw t at x.is_brace)) h' r sh le)

  -- THE INDUCTION
  record Only (p : Content) : Type 0 where
    text : TextOnly p
    in_spec : SpecOnly p

  only_empty : Only empty
  unfolding parts_read
  only_empty = record { text = λ w d r i t l ps qs k h a st ok c g sh e. refl; in_spec = λ d i v l qs k h z a b ok c g sh e. refl }

  text_reads_lem : (w : Where) (u : List ℕ) → (d : ℕ) → Reads look s w d → text_reads w u ≡ true
  unfolding text_reads
  text_reads_lem top u d r = refl
  text_reads_lem early u d r = absurd r
  text_reads_lem late u d r = refl

  only_says : (u : List ℕ) (p : Content) → Only p → Only (says u p)
  unfolding spelled alike_after parts_read text_reads
  only_says u p ih = record {
    text = λ w d r i t l ps qs k h a st ok c g sh e.
        let a' = rw (append_assoc (spelled_text w u) (spelled w p) l) at a in
        rw (text_reads_lem w u d r, ih.text w d r (i + length (spelled_text w u)) (t ++ u) l ps qs k h (at_skip s i (spelled_text w u) (spelled w p ++ l) a') st ok c (sym (text_bytes look s w d r i t u ps (spelled w p ++ l) a') ∙ g) sh e) refl;
    in_spec = λ d i v l qs k h z a b ok c g sh e.
        cases (braceless u)
        (λ y.
        let a' : At s i ((v ++ u) ++ (spelled early p ++ 125 ∷ l)) = rw (early_is u, append_assoc u (spelled early p) (125 ∷ l), ← append_assoc v u (spelled early p ++ 125 ∷ l)) at a in
        rw (y, ih.in_spec d i (v ++ u) l qs k h z a' (both_braceless v u b y) ok c g sh e) refl)
        (λ y. absurd (no_brace_early i v u p l qs k h z b (split u y) d a g sh e));
  }

  -- what a text with a field in front tells of what follows it
  lead_is_text : (t : List ℕ) (h p : Content) → first_text p ≡ [] → alike h ≡ alike_after t p → lead_text (alike h) ≡ t
  lead_is_text t h p f e = ap lead_text e ∙ lead_alike t p ∙ ap (λ u. t ++ u) f ∙ append-nil t

  given_puts : (t e : List ℕ) (c : ℕ) (h p x : Content) → alike h ≡ alike_after t (puts e c p) → h ≡ filled_with t (puts e c x) → alike x ≡ alike p
  unfolding alike_after
  given_puts t e c h p x a b = sym (rest_puts t e c (alike x)) ∙ ap rest_of (sym (alike_filled t (puts e c x)) ∙ ap alike (sym b) ∙ a) ∙ rest_puts t e c (alike p)

  given_forms : (t e : List ℕ) (c : ℕ) (h q p y x : Content) → alike h ≡ alike_after t (forms e c q p) → h ≡ filled_with t (forms e c y x) → (alike y ≡ alike q) × (alike x ≡ alike p)
  unfolding alike_after
  given_forms t e c h q p y x a b =
      let z = sym (alike_filled t (forms e c y x)) ∙ ap alike (sym b) ∙ a in
      let u = rest_forms t e c (alike y) (alike x) in
      let v = rest_forms t e c (alike q) (alike p) in
      (sym u.1 ∙ ap spec_of z ∙ v.1, sym u.0 ∙ ap rest_of z ∙ v.0)

  not_top : {P : Type 0} → early ≡ top → P
  not_top e = let z : ◌≡◌ {A = ℕ} 0 1 = cc in absurd (omega arith)

  -- a spec that has a field after its first text
  module _ (d i : ℕ) (v r : List ℕ) (qs : List Piece) (k : ℕ) (h : Content) (z : 0 < i) (a : At s i (v ++ 123 ∷ r)) (b : braceless v ≡ true) (deep : suc d ≤ 1) (g : spec_at look s d i ≡ got qs k) (sh : Shows (suc d) qs h) where
    as_text : text_at look s (suc d) (i + length v) [] (filled (suc d) v) ≡ got qs k
    as_text =
        sym (spec_text_lem look s d i z a.0 (first_brace look s utf8 d i v 123 r a b refl 0 (omega arith))
        ∙ ap₂ (λ j t. text_at look s (suc d) j [] (filled (suc d) t)) (first_end_lem look s utf8 d i v 123 r a b refl) (first_part look s utf8 d i v 123 r a b refl))
        ∙ g

    grown_spec : Grown look s utf8 (suc d) [] (filled (suc d) v) qs
    grown_spec = text_grows look s utf8 moves (suc d) (i + length v) [] (filled (suc d) v) qs k deep as_text

    as_grown : text_at look s (suc d) (i + length v) [] (filled (suc d) v) ≡ got (filled (suc d) v ++ grown_spec.new) k
    as_grown = as_text ∙ ap (λ u. got u k) grown_spec.follows

    held_grown : h ≡ filled_with v grown_spec.holds
    held_grown = shows_one (suc d) qs h (filled_with v grown_spec.holds) sh (subst (λ (u : List Piece). Shows (suc d) u (filled_with v grown_spec.holds)) (sym grown_spec.follows) (shows_filled (suc d) v grown_spec.new grown_spec.holds grown_spec.shows))

  only_puts : (e : List ℕ) (c : ℕ) (p : Content) → Only p → Only (puts e c p)
  unfolding spelled filled_with past_field
  only_puts e c p ih = record {
    text = λ w d r i t l ps qs k h a st ok cs g sh x.
        puts_only w d (reads_opens look s utf8 w d r) e c p ih.text i t l ps qs k h st ok.0 ok.1 ok.2 cs.0 cs.1 g sh (λ z. lead_is_text t h (puts e c p) refl x) a (λ y. given_puts t e c h p y x);
    in_spec = λ d i v l qs k h z a b ok cs g sh x.
        let u = e ++ (spelled_conversion c ++ 125 ∷ spelled late p) in
        let y = grown_spec d i v (u ++ 125 ∷ l) qs k h z a b ok.0 g sh in
        let one = held_grown d i v (u ++ 125 ∷ l) qs k h z a b ok.0 g sh in
        let deep = ok.0 in
        puts_only early (suc d) (omega arith) e c p ih.text (i + length v) [] (125 ∷ l) (filled (suc d) v) y.new k y.holds (l, refl) deep ok.1 ok.2 cs.0 cs.1
        (as_grown d i v (u ++ 125 ∷ l) qs k h z a b ok.0 g sh) y.shows (λ q. not_top q) (at_skip s i v ((123 ∷ u) ++ 125 ∷ l) a)
        (λ q f. given_puts v e c h p q x (one ∙ ap (filled_with v) f));
  }

  only_forms : (e : List ℕ) (c : ℕ) (q p : Content) → Only q → Only p → Only (forms e c q p)
  unfolding spelled filled_with past_field
  only_forms e c q p iq ip = record {
    text = λ w d r i t l ps qs k h a st ok cs g sh x.
        forms_only w d (reads_opens look s utf8 w d r) e c p ip.text i t l ps qs k h st ok.0 ok.1 ok.3 cs.0 cs.2 g sh (λ z. lead_is_text t h (forms e c q p) refl x) q iq.in_spec ok.2 cs.1 a (λ y y'. given_forms t e c h q p y y' x);
    in_spec = λ d i v l qs k h z a b ok cs g sh x.
        let u = e ++ (spelled_conversion c ++ 58 ∷ (spelled early q ++ 125 ∷ spelled late p)) in
        let y = grown_spec d i v (u ++ 125 ∷ l) qs k h z a b ok.0 g sh in
        let one = held_grown d i v (u ++ 125 ∷ l) qs k h z a b ok.0 g sh in
        let deep = ok.0 in
        forms_only early (suc d) (omega arith) e c p ip.text (i + length v) [] (125 ∷ l) (filled (suc d) v) y.new k y.holds (l, refl) deep ok.1 ok.3 cs.0 cs.2
        (as_grown d i v (u ++ 125 ∷ l) qs k h z a b ok.0 g sh) y.shows (λ q. not_top q) q iq.in_spec ok.2 cs.1 (at_skip s i v ((123 ∷ u) ++ 125 ∷ l) a)
        (λ y y' f. given_forms v e c h q p y y' x (one ∙ ap (filled_with v) f));
  }

  only : (p : Content) → Only p
  only empty = only_empty
  only (says u p) = only_says u p (only p)
  only (puts e c p) = only_puts e c p (only p)
  only (forms e c q p) = only_forms e c q p (only q) (only p)

-- A BODY that is a spelling and holds what was spelled, alike: that may be read back
pub only_back : (look : Naming) (p : Content) (ps : List Piece) (j : ℕ) (q : Parts) → Utf8 (spelled top p) → Converts p → read_body look 1 (spelled top p) ≡ got ps j → ps ≡ flat 0 q [] → alike (strip q) ≡ alike p
    → parts_read 0 top p ≡ true
unfolding read_body
only_back look p ps j q utf8 cs r e a =
    let s = spelled top p in
    let n : enough s ≡ suc (length s + length s + 1) = omega arith in
    let r' : text_at look s 0 0 [] [] ≡ got ([] ++ ps) j = ap (λ n. text_n look n 1 s 0 0 [] []) (sym n) ∙ r in
    let (x, y, all) = subst (TreeRead Clean 0) r' ((all_trees look s utf8 (suc (length s + length s + 1))).text 0 0 [] [] (done, refl, tt)) in
    let one : strip q ≡ strip x = shows_one 0 ps (strip q) (strip x) (q, e, refl) (x, y, refl) in
    let ok : FieldsOk 0 p = alike_ok 0 [] p (subst (FieldsOk 0) (ap alike (sym one) ∙ a) (ok_alike 0 [] (strip x) (all_fields 0 x all))) in
    (only look s utf8 p).text top 0 refl 0 [] [] [] ps j (strip q) (omega arith, sym (append-nil s)) refl ok cs r' (q, e, refl) a
