-- What is held and may be read back is read from its spelling: texts, fields and specs. Assumes nothing.
use mathlib.Core.Path.{◌≡◌, refl, sym, ◌∙◌, ap, ap₂}
use mathlib.Core.Bool.{Bool, true, false, ◌&&◌, not}
use mathlib.Core.List.{List, [], ◌∷◌, ◌++◌, append_assoc, append-nil}
use mathlib.Core.Option.{none, some}
use Prim.Native.Nat.{ℕ, zero, suc, ◌+◌, ◌≤◌, ◌<◌}
use native.Mathlib.Omega.{arith}
use lib.Dec.{ltb, leb, eqb}
use lib.ListN.{length, length-append}
use borrow.Author.Tests.{ltb-true, le-leb, lt-leb, ne_eqb, not-true}
use Rattle.definition.specs.Chars.{◌is◌, part, code, next, before}
use Rattle.definition.specs.Escapes.{Naming, Read, got}
use Rattle.definition.specs.Body.{Signs, signs, with_bang, with_colon, with_close, Piece, literal, field, spec, goes, calls, ends, TextCase, opens, too_deep, text_case, text_move, filled, Field, state, fresh, formatted, converts, formats, closes, field_case, outside, case_of, conversion_move, field_move, direct, conversion_of, field_pieces, self_documenting, finished, specified, plain_run, first_end, text_n, enough, read_body}
use Rattle.definition.specs.Matched.{clear, blank, blank_after, braceless}
use Rattle.definition.specs.Words.{is_conversion}
use Rattle.definition_written.specs.Written.{Content, empty, says, puts, forms, Where, top, early, late, past_field, spelled_byte, spelled_text, spelled_conversion, spelled, filled_with, alike_after, alike}
use Rattle.definition_written.specs.ReadsBack.{clean, text_reads, begins_well, field_reads, parts_read}
use Rattle.definition.proofs.Moves.CharLaws.{no, code_is, Utf8}
use Rattle.definition_laws.proofs.Moves.Adds.{one_of_lem}
use Rattle.definition_laws.proofs.Moves.Cases.{and_both}
use Rattle.definition_laws.proofs.Formed.Grammar.{Parts, done, run, bare, full, count, flat, flat_append, direct_flat}
use Rattle.definition_written_laws.proofs.Readback.BackSteps.{text_at, field_at, spec_at, text_over, text_field, field_on, field_over, field_spec, spec_text_lem, spec_over}
use Rattle.definition_written_laws.proofs.Readback.BackText.{At, at_in, at_byte, at_next, at_skip, at_part, at_end_lem, at_code, Reads, text_bytes}
use Rattle.definition_written_laws.proofs.Readback.BackField.{expression_reads}

-- A TREE OF PIECES without places and signs
abbrev pub strip : Parts → Content
strip done = empty
strip (run t p) = says t (strip p)
strip (bare e c i g p) = puts e c (strip p)
strip (full e c i g q p) = forms e c (strip q) (strip p)

-- pieces at a depth that hold that
abbrev pub Shows : ℕ → List Piece → Content → Type 0
Shows d ps p = (q : Parts) × (ps ≡ flat d q []) × (strip q ≡ p)

pub shows_filled : (d : ℕ) (t : List ℕ) (ps : List Piece) (p : Content) → Shows d ps p → Shows d (filled d t ++ ps) (filled_with t p)
unfolding filled filled_with
shows_filled d [] ps p h = h
shows_filled d (b ∷ t) ps p (q, e, f) = (run (b ∷ t) q, ap (λ l. literal d (b ∷ t) ∷ l) e, ap (says (b ∷ t)) f)

pub filled_shows : (d : ℕ) (t : List ℕ) → Shows d (filled d t) (filled_with t empty)
filled_shows d t = rw (append-nil (filled d t)) at (shows_filled d t [] empty (done, refl, refl))

pub shows_puts : (d : ℕ) (e : List ℕ) (c i : ℕ) (g : Signs) (ps : List Piece) (p : Content) → Shows d ps p → Shows d (field_pieces d e c i g none ++ ps) (puts e c p)
unfolding field_pieces
shows_puts d e c i g ps p (q, y, z) = (bare e c i g q, ap (λ l. field d e c 0 i g ∷ l) y, ap (puts e c) z)

pub shows_forms : (d : ℕ) (e : List ℕ) (c i : ℕ) (g : Signs) (qs ps : List Piece) (q p : Content) → Shows (suc d) qs q → Shows d ps p → Shows d (field_pieces d e c i g (some qs) ++ ps) (forms e c q p)
unfolding field_pieces direct
shows_forms d e c i g qs ps q p (q', y, z) (p', y', z') =
    (full e c i g q' p', ap₂ (λ n l. field d e c 1 i g ∷ spec n ∷ l) (ap (direct (suc d)) y ∙ direct_flat (suc d) q' [] ∙ none_left (count q')) (ap₂ ◌++◌ y y' ∙ flat_append (suc d) q' [] (flat d p' [])), ap₂ (forms e c) z z')
  where
    none_left : (n : ℕ) → n + direct (suc d) [] ≡ n
    none_left n = omega arith

-- what a conversion may be, in all that is held
abbrev pub Converts : Content → Type 0
Converts empty = Unit {0}
Converts (says t p) = Converts p
Converts (puts e c p) = (is_conversion c ≡ true) × Converts p
Converts (forms e c q p) = (is_conversion c ≡ true) × Converts q × Converts p

pub nested : (u v : List ℕ) (x : ℕ) (r l : List ℕ) → (u ++ (v ++ x ∷ r)) ++ l ≡ u ++ (v ++ x ∷ (r ++ l))
nested u v x r l = append_assoc u (v ++ x ∷ r) l ∙ ap (λ t. u ++ t) (append_assoc v (x ∷ r) l)

-- where a text ends: with the body, or in a spec at a `}`
at_top_end : (s : List ℕ) (i : ℕ) → At s i [] → text_case 1 s 0 i ≡ TextCase.over
unfolding text_case
at_top_end s i h = rw (le-leb (length s) i (omega (arith, at_end_lem s i h))) refl

at_spec_end : (s : List ℕ) (i : ℕ) (r : List ℕ) → At s i (125 ∷ r) → text_case 1 s 1 i ≡ TextCase.over
unfolding text_case
at_spec_end s i r h = rw (lt-leb (length s) i (at_in s i 125 r h), (at_code s i 125 r h (omega arith)).0) refl

-- a spec's first text
pub both_braceless : (v u : List ℕ) → braceless v ≡ true → braceless u ≡ true → braceless (v ++ u) ≡ true
unfolding braceless
both_braceless [] u h k = k
both_braceless (b ∷ v) u h k = let x = and_both (not (b is "{}")) (braceless v) h in rw (x.0, both_braceless v u x.1 k) refl

pub run_ends : (v : List ℕ) (x : ℕ) (l : List ℕ) → braceless v ≡ true → (x is "{}") ≡ true → plain_run (v ++ x ∷ l) ≡ length v
unfolding plain_run before braceless
run_ends [] x l h e = rw (e, before) refl
run_ends (b ∷ v) x l h e = let k = and_both (not (b is "{}")) (braceless v) h in rw (not-true (b is "{}") k.0, before) (ap suc (run_ends v x l k.1 e))

pub early_is : (u : List ℕ) → spelled_text early u ≡ u
unfolding spelled_text spelled_byte
early_is [] = refl
early_is (b ∷ u) = ap (λ t. b ∷ t) (early_is u)

opened_by : (s : List ℕ) (d i y : ℕ) (l : List ℕ) → leb too_deep d ≡ false → (eqb d 0 && eqb y 123) ≡ false → At s i (123 ∷ y ∷ l) → text_case 1 s d i ≡ opens
unfolding text_case
opened_by s d i y l a b h = go (eqb d 0) refl
  where
    h' : At s (i + 1) (y ∷ l)
    h' = at_next s i 123 (y ∷ l) h

    n : next s i ≡ i + 1
    n = (at_code s i 123 (y ∷ l) h (omega arith)).1

    c : code s i ≡ 123
    c = (at_code s i 123 (y ∷ l) h (omega arith)).0

    c' : eqb (code s (i + 1)) 123 ≡ eqb y 123
    c' = code_is s (i + 1) 123 (omega arith) ∙ ap (λ z. eqb z 123) (at_byte s (i + 1) y l h')

    go : (t : Bool) → eqb d 0 ≡ t → text_case 1 s d i ≡ opens
    go true t = rw (a, lt-leb (length s) i (at_in s i 123 (y ∷ l) h), c, n, t, c', rw t at b, lt-leb (length s) (i + 1) (at_in s (i + 1) y l h')) refl
    go false t = rw (a, lt-leb (length s) i (at_in s i 123 (y ∷ l) h), c, t) refl

module _ (look : Naming) (s : List ℕ) (utf8 : Utf8 s) where
  -- FROM `{` TO AFTER THE CONVERSION, before `}` or `:`
  module _ (d from : ℕ) (e : List ℕ) (x : ℕ) (l : List ℕ) (ends_it : (x is "}:") ≡ true) (ok : clean false (clear []) e ≡ true) (said : blank e ≡ false) where
    abbrev pub st : ℕ → Signs → Field
    st c g = state e false [] c false 0 g

    x_ascii : (x < 0x80) × (eqb x 61 ≡ false)
    x_ascii = one_of_lem (λ x. (x < 0x80) × (eqb x 61 ≡ false)) "}:" x ((omega arith, refl), ((omega arith, refl), tt)) ends_it

    pub record Head (c : ℕ) : Type 0 where
      pub sign : Signs
      pub reads : field_at look s d from from fresh ≡ field_at look s d from (from + length e + length (spelled_conversion c)) (st c sign)

    -- the `!` and what follows
    bang_case : (k c : ℕ) (r : List ℕ) → c < 0x80 → eqb c 61 ≡ false → At s k (33 ∷ c ∷ r) → field_case s k true false ≡ converts
    unfolding field_case
    bang_case k c r a u h =
        let p = at_code s k 33 (c ∷ r) h (omega arith) in
        let q = at_code s (k + 1) c r (at_next s k 33 (c ∷ r) h) a in
        rw (lt-leb (length s) k (at_in s k 33 (c ∷ r) h), p.0, p.1, q.0, u) refl

    conversion_goes : (k c : ℕ) (g : Signs) → c < 0x80 → (c is "sar") ≡ true → At s k (33 ∷ c ∷ x ∷ l) → conversion_move s k (st 0 g) ≡ goes (k + 2) (st c (with_bang (k + 1) g))
    unfolding conversion_move
    conversion_goes k c g a u h =
        let h' = at_next s k 33 (c ∷ x ∷ l) h in
        let p = at_code s k 33 (c ∷ x ∷ l) h (omega arith) in
        let q = at_code s (k + 1) c (x ∷ l) h' a in
        let r = at_code s (k + 1 + 1) x l (at_next s (k + 1) c (x ∷ l) h') x_ascii.0 in
        let z : k + 1 + 1 ≡ k + 2 = omega arith in
        rw (p.1, q.0, q.1, r.0, lt-leb (length s) (k + 1) (at_in s (k + 1) c (x ∷ l) h'), u, ends_it) (ap (λ j. goes j (st c (with_bang (k + 1) g))) z)

    bang_move : (k c : ℕ) (g : Signs) → (c is "sar") ≡ true → At s k (33 ∷ c ∷ x ∷ l) → field_move s k (st 0 g) ≡ goes (k + 2) (st c (with_bang (k + 1) g))
    unfolding field_move case_of outside
    bang_move k c g u h =
        let a = one_of_lem (λ x. (x < 0x80) × (eqb x 61 ≡ false)) "sar" c ((omega arith, refl), ((omega arith, refl), ((omega arith, refl), tt))) u in
        rw (bang_case k c (x ∷ l) a.0 a.1 h, field_move) (conversion_goes k c g a.0 u h)

    pub head : (c : ℕ) → is_conversion c ≡ true → At s from (e ++ (spelled_conversion c ++ x ∷ l)) → Head c
    unfolding spelled_conversion fresh
    head zero v h =
        let plus : from + length e ≡ from + length e + 0 = omega arith in
        record {
          sign = signs 0 0 0 0;
          reads =
              expression_reads look s utf8 d from x l x_ascii.0 x_ascii.1 (signs 0 0 0 0) e h ok
              ∙ ap₂ (λ b j. field_at look s d from j (state e b [] 0 false 0 (signs 0 0 0 0))) said plus;
        }
    head (suc c) v h =
        let k = from + length e in
        let h' = at_skip s from e (33 ∷ suc c ∷ x ∷ l) h in
        let u : (suc c is "sar") ≡ true = rw (ne_eqb (suc c) 0 (λ z. omega arith)) at v in
        record {
          sign = with_bang (k + 1) (signs 0 0 0 0);
          reads =
              expression_reads look s utf8 d from 33 (suc c ∷ x ∷ l) (omega arith) refl (signs 0 0 0 0) e h ok
              ∙ ap (λ b. field_at look s d from k (state e b [] 0 false 0 (signs 0 0 0 0))) said
              ∙ field_on look s d from k (st 0 (signs 0 0 0 0)) (k + 2) (st (suc c) (with_bang (k + 1) (signs 0 0 0 0))) (bang_move k (suc c) (signs 0 0 0 0) u h') (omega arith) (at_skip s k (33 ∷ suc c ∷ []) (x ∷ l) h').0;
        }

    -- AT ITS `}`
    close_case : (k : ℕ) (r : List ℕ) → At s k (125 ∷ r) → field_case s k true false ≡ closes
    unfolding field_case
    close_case k r h = rw (lt-leb (length s) k (at_in s k 125 r h), (at_code s k 125 r h (omega arith)).0) refl

    pub close_ends : (k c : ℕ) (g : Signs) (r : List ℕ) → At s k (125 ∷ r) → field_at look s d from k (st c g) ≡ got (field_pieces d e c from (with_close (k + 1) g) none) (k + 1)
    unfolding field_move case_of outside finished self_documenting conversion_of
    close_ends k c g r h =
        field_over look s d from k (st c g) (rw (close_case k r h, field_move) refl)
        ∙ ap (λ j. got (field_pieces d e c from (with_close j g) none) j) (at_code s k 125 r h (omega arith)).1

    -- AT ITS `:`, with what its spec gives
    colon_case : (k : ℕ) (r : List ℕ) → At s k (58 ∷ r) → field_case s k true false ≡ formats
    unfolding field_case
    colon_case k r h = rw (lt-leb (length s) k (at_in s k 58 r h), (at_code s k 58 r h (omega arith)).0) refl

    pub colon_calls : (k c : ℕ) (g : Signs) (r : List ℕ) → At s k (58 ∷ r) → field_move s k (st c g) ≡ calls
    unfolding field_move case_of outside
    colon_calls k c g r h = rw (colon_case k r h, field_move) refl

    pub colon_ends : (k j c : ℕ) (g : Signs) (r r' : List ℕ) (qs : List Piece) → At s k (58 ∷ r) → At s j (125 ∷ r') → spec_at look s d (k + 1) ≡ got qs j
        → field_at look s d from k (st c g) ≡ got (field_pieces d e c from (with_close (j + 1) (with_colon (k + 1) g)) (some qs)) (j + 1)
    unfolding field_move case_of outside finished self_documenting conversion_of specified formatted
    colon_ends k j c g r r' qs h h' q =
        let n = (at_code s k 58 r h (omega arith)).1 in
        field_spec look s d from k (st c g) qs j (at_in s k 58 r h) (rw (colon_case k r h, field_move) refl) (ap (spec_at look s d) n ∙ q)
        ∙ rw (lt-leb (length s) j (at_in s j 125 r' h'), n, (at_code s j 125 r' h' (omega arith)).1) refl

  -- WHAT A TEXT GIVES, from i on, after pieces ps
  pub record Gives (d : ℕ) (ps : List Piece) (r : Read (List Piece)) (j : ℕ) (p : Content) : Type 0 where
    pub pieces : List Piece
    pub is_got : r ≡ got (ps ++ pieces) j
    pub shows : Shows d pieces p

  -- a `{` that opens a field
  pub opens_move : (d i y : ℕ) (t l : List ℕ) → leb too_deep d ≡ false → (eqb d 0 && eqb y 123) ≡ false → At s i (123 ∷ y ∷ l) → text_move look 1 s d i t ≡ calls
  unfolding text_move
  opens_move d i y t l a b h = rw (opened_by s d i y l a b h, text_move) refl

  -- a field and what follows it: pieces qs of the field, which ends at j
  then_field : (d i j y : ℕ) (t l : List ℕ) (ps qs : List Piece) (k : ℕ) (q p : Content) → leb too_deep d ≡ false → (eqb d 0 && eqb y 123) ≡ false → At s i (123 ∷ y ∷ l)
      → field_at look s d (i + 1) (i + 1) fresh ≡ got qs j → i < j → j ≤ length s
      → ((ps' : List Piece) → Gives d ps' (text_at look s d j [] ps') k p)
      → ((rs : List Piece) → Shows d rs p → Shows d (qs ++ rs) q)
      → Gives d ps (text_at look s d i t ps) k (filled_with t q)
  then_field d i j y t l ps qs k q p a b h f m n rest adds =
      let x = rest (ps ++ filled d t ++ qs) in
      record {
        pieces = filled d t ++ (qs ++ x.pieces);
        is_got =
            text_field look s d i t ps qs j (at_in s i 123 (y ∷ l) h) (opens_move d i y t l a b h) (ap (λ z. field_at look s d z z fresh) (at_code s i 123 (y ∷ l) h (omega arith)).1 ∙ f) m n
            ∙ x.is_got
            ∙ ap (λ z. got z k) (append_assoc (ps ++ filled d t) qs x.pieces ∙ append_assoc ps (filled d t) (qs ++ x.pieces));
        shows = shows_filled d t (qs ++ x.pieces) q (adds x.pieces x.shows);
      }

  -- WHERE A TEXT STOPS: at the top with the body, in a spec at its `}`
  abbrev pub Stop : Where → List ℕ → Type 0
  Stop top l = l ≡ []
  Stop early l = (r : List ℕ) × (l ≡ 125 ∷ r)
  Stop late l = (r : List ℕ) × (l ≡ 125 ∷ r)

  -- the depth of a text that stands there, and that of a field's
  abbrev pub Opens : Where → ℕ → Type 0
  Opens top d = d ≡ 0
  Opens early d = d ≡ 1
  Opens late d = d ≡ 1

  pub past_reads : (w : Where) (d : ℕ) → Opens w d → Reads look s (past_field w) d
  unfolding past_field
  past_reads top d h = h
  past_reads early d h = h
  past_reads late d h = h

  pub past_stops : (w : Where) (l : List ℕ) → Stop w l → Stop (past_field w) l
  unfolding past_field
  past_stops top l h = h
  past_stops early l h = h
  past_stops late l h = h

  abbrev pub TextReads : Content → Type 0
  TextReads p = (w : Where) (d : ℕ) → Reads look s w d → (i : ℕ) (t l : List ℕ) (ps : List Piece) → At s i (spelled w p ++ l) → Stop w l → parts_read d w p ≡ true → Converts p
      → Gives d ps (text_at look s d i t ps) (i + length (spelled w p)) (alike_after t p)

  abbrev pub SpecReads : Content → Type 0
  SpecReads p = (d i : ℕ) (v l : List ℕ) → 0 < i → At s i (v ++ (spelled early p ++ 125 ∷ l)) → braceless v ≡ true → parts_read (suc d) early p ≡ true → Converts p
      → Gives (suc d) [] (spec_at look s d i) (i + (length v + length (spelled early p))) (alike_after v p)

  -- WHAT A FIELD'S EXPRESSION HAS
  pub record Reading (w : Where) (d : ℕ) (e : List ℕ) : Type 0 where
    pub shallow : leb too_deep d ≡ false
    pub first : ℕ
    pub others : List ℕ
    pub split : e ≡ first ∷ others
    pub begins : (eqb d 0 && eqb first 123) ≡ false
    pub ok : clean false (clear []) e ≡ true
    pub said : blank e ≡ false

  pub field_reading : (w : Where) (d : ℕ) (e : List ℕ) → Opens w d → field_reads d w e ≡ true → Reading w d e
  unfolding field_reads begins_well blank_after
  field_reading w d e h k = go e refl
    where
      k₁ : ((ltb d 2 && begins_well w e && clean false (clear []) e) ≡ true) × (not (blank e) ≡ true)
      k₁ = and_both (ltb d 2 && begins_well w e && clean false (clear []) e) (not (blank e)) k

      k₂ : ((ltb d 2 && begins_well w e) ≡ true) × (clean false (clear []) e ≡ true)
      k₂ = and_both (ltb d 2 && begins_well w e) (clean false (clear []) e) k₁.0

      k₃ : (ltb d 2 ≡ true) × (begins_well w e ≡ true)
      k₃ = and_both (ltb d 2) (begins_well w e) k₂.0

      begin : (w : Where) (d x : ℕ) (r : List ℕ) → Opens w d → begins_well w (x ∷ r) ≡ true → (eqb d 0 && eqb x 123) ≡ false
      begin top d x r h k = rw h (not-true (eqb x 123) k)
      begin early d x r h k = rw h refl
      begin late d x r h k = rw h refl

      go : (e' : List ℕ) → e ≡ e' → Reading w d e
      go [] z = no (rw z at k₁.1)
      go (x ∷ r) z = record {
        shallow = lt-leb 2 d (ltb-true d 2 k₃.0);
        first = x;
        others = r;
        split = z;
        begins = begin w d x r h (rw z at k₃.1);
        ok = k₂.1;
        said = not-true (blank e) k₁.1;
      }

  module _ (w : Where) (d : ℕ) (Opens-at : Opens w d) (e : List ℕ) (c : ℕ) (p : Content) (rest : TextReads p) (i : ℕ) (t l : List ℕ) (ps : List Piece) (stop : Stop w l)
      (readable : field_reads d w e ≡ true) (rest-readable : parts_read d (past_field w) p ≡ true) (conversion : is_conversion c ≡ true) (conversions : Converts p) where
    abbrev after : List ℕ
    after = spelled (past_field w) p

    -- the rest, from j on
    rest_gives : (j : ℕ) → At s j (after ++ l) → (ps : List Piece) → Gives d ps (text_at look s d j [] ps) (j + length after) (alike_after [] p)
    rest_gives j h ps = rest (past_field w) d (past_reads w d Opens-at) j [] l ps h (past_stops w l stop) rest-readable conversions

    -- a field whose pieces are had, from i to j
    put : (r : List ℕ) (j : ℕ) (qs : List Piece) (q : Content) → At s i (123 ∷ (e ++ r)) → field_at look s d (i + 1) (i + 1) fresh ≡ got qs j → i < j → At s j (after ++ l)
        → ((rs : List Piece) → Shows d rs (alike_after [] p) → Shows d (qs ++ rs) q)
        → Gives d ps (text_at look s d i t ps) (j + length after) (filled_with t q)
    put r j qs q h f m h' adds =
        let x = field_reading w d e Opens-at readable in
        then_field d i j x.first t (x.others ++ r) ps qs (j + length after) q (alike_after [] p) x.shallow x.begins (rw x.split at h) f m h'.0 (rest_gives j h') adds

    puts_gives : At s i (spelled w (puts e c p) ++ l) → Gives d ps (text_at look s d i t ps) (i + length (spelled w (puts e c p))) (filled_with t (puts e c (alike_after [] p)))
    unfolding spelled
    puts_gives h =
        let x = field_reading w d e Opens-at readable in
        let h₀ : At s i (123 ∷ (e ++ (spelled_conversion c ++ 125 ∷ (after ++ l)))) = rw (nested e (spelled_conversion c) 125 after l) at h in
        let h₁ = at_next s i 123 (e ++ (spelled_conversion c ++ 125 ∷ (after ++ l))) h₀ in
        let h₂ = at_skip s (i + 1 + length e) (spelled_conversion c) (125 ∷ (after ++ l)) (at_skip s (i + 1) e (spelled_conversion c ++ 125 ∷ (after ++ l)) h₁) in
        let k = i + 1 + length e + length (spelled_conversion c) in
        let y = head d (i + 1) e 125 (after ++ l) refl x.ok x.said c conversion h₁ in
        let g = with_close (k + 1) y.sign in
        let z : k + 1 + length after ≡ i + length (spelled w (puts e c p)) = omega (arith, length-append e (spelled_conversion c ++ 125 ∷ after), length-append (spelled_conversion c) (125 ∷ after)) in
        rw z at (put (spelled_conversion c ++ 125 ∷ (after ++ l)) (k + 1) (field_pieces d e c (i + 1) g none) (puts e c (alike_after [] p)) h₀
        (y.reads ∙ close_ends d (i + 1) e 125 (after ++ l) refl x.ok x.said k c y.sign (after ++ l) h₂)
        (omega arith) (at_next s k 125 (after ++ l) h₂)
        (λ rs q. shows_puts d e c (i + 1) g rs (alike_after [] p) q))

    module _ (q : Content) (inner : SpecReads q) (inner-readable : parts_read (suc d) early q ≡ true) (inner-conversions : Converts q) where
      forms_gives : At s i (spelled w (forms e c q p) ++ l) → Gives d ps (text_at look s d i t ps) (i + length (spelled w (forms e c q p))) (filled_with t (forms e c (alike q) (alike_after [] p)))
      unfolding spelled braceless
      forms_gives h =
          let x = field_reading w d e Opens-at readable in
          let u = spelled early q in
          let v = u ++ 125 ∷ (after ++ l) in
          let h₀ : At s i (123 ∷ (e ++ (spelled_conversion c ++ 58 ∷ v))) = rw (nested e (spelled_conversion c) 58 (u ++ 125 ∷ after) l, append_assoc u (125 ∷ after) l) at h in
          let h₁ = at_next s i 123 (e ++ (spelled_conversion c ++ 58 ∷ v)) h₀ in
          let h₂ = at_skip s (i + 1 + length e) (spelled_conversion c) (58 ∷ v) (at_skip s (i + 1) e (spelled_conversion c ++ 58 ∷ v) h₁) in
          let k = i + 1 + length e + length (spelled_conversion c) in
          let y = head d (i + 1) e 58 v refl x.ok x.said c conversion h₁ in
          let h₃ = at_next s k 58 v h₂ in
          let b = inner d (k + 1) [] (after ++ l) (omega arith) h₃ refl inner-readable inner-conversions in
          let j = k + 1 + (0 + length u) in
          let same : k + 1 + length u ≡ j = omega arith in
          let h₄ : At s j (125 ∷ (after ++ l)) = rw same at (at_skip s (k + 1) u (125 ∷ (after ++ l)) h₃) in
          let g = with_close (j + 1) (with_colon (k + 1) y.sign) in
          let z : j + 1 + length after ≡ i + length (spelled w (forms e c q p)) = omega (arith, length-append e (spelled_conversion c ++ 58 ∷ (u ++ 125 ∷ after)), length-append (spelled_conversion c) (58 ∷ (u ++ 125 ∷ after)), length-append u (125 ∷ after)) in
          rw z at (put (spelled_conversion c ++ 58 ∷ v) (j + 1) (field_pieces d e c (i + 1) g (some b.pieces)) (forms e c (alike q) (alike_after [] p)) h₀
          (y.reads ∙ colon_ends d (i + 1) e 58 v refl x.ok x.said k j c y.sign v (after ++ l) b.pieces h₂ h₄ b.is_got)
          (omega arith) (at_next s j 125 (after ++ l) h₄)
          (λ rs r. shows_forms d e c (i + 1) g b.pieces rs (alike q) (alike_after [] p) b.shows r))

  -- THE END OF A TEXT
  over_top : (i : ℕ) (t : List ℕ) → At s i [] → text_move look 1 s 0 i t ≡ ends
  unfolding text_move
  over_top i t h = rw (at_top_end s i h, text_move) refl

  over_late : (i : ℕ) (t r : List ℕ) → At s i (125 ∷ r) → text_move look 1 s 1 i t ≡ ends
  unfolding text_move
  over_late i t r h = rw (at_spec_end s i r h, text_move) refl

  pub stops : (w : Where) (d : ℕ) → Reads look s w d → (i : ℕ) (t l : List ℕ) → At s i l → Stop w l → text_move look 1 s d i t ≡ ends
  stops top d r i t l h k = rw r (over_top i t (rw k at h))
  stops early d r i t l h k = absurd r
  stops late d r i t l h (u, k) = rw r (over_late i t u (rw k at h))

  pub reads_opens : (w : Where) (d : ℕ) → Reads look s w d → Opens w d
  reads_opens top d r = r
  reads_opens early d r = absurd r
  reads_opens late d r = r

  -- A SPEC: its first text v, up to a brace x
  module _ (d i : ℕ) (v : List ℕ) (x : ℕ) (l : List ℕ) (h : At s i (v ++ x ∷ l)) (plain : braceless v ≡ true) (brace : (x is "{}") ≡ true) where
    pub first_end_lem : first_end s i ≡ i + length v
    first_end_lem = ap (λ z. i + plain_run z) h.1 ∙ ap (λ n. i + n) (run_ends v x l plain brace)

    pub first_part : part s i (first_end s i) ≡ v
    first_part = ap (part s i) first_end_lem ∙ at_part s i v (x ∷ l) h

    pub first_brace : (c : ℕ) → c < 0x80 → (code s (first_end s i) is "{") ≡ eqb x 123
    first_brace c a = ap (λ j. eqb (code s j) 123) first_end_lem ∙ code_is s (i + length v) 123 (omega arith) ∙ ap (λ z. eqb z 123) (at_byte s (i + length v) x l (at_skip s i v (x ∷ l) h))

  spec_ends : (d i : ℕ) (v l : List ℕ) → At s i (v ++ 125 ∷ l) → braceless v ≡ true → Gives (suc d) [] (spec_at look s d i) (i + (length v + 0)) (filled_with v empty)
  spec_ends d i v l h b =
      let plus : i + length v ≡ i + (length v + 0) = omega arith in
      record {
        pieces = filled (suc d) v;
        is_got =
            spec_over look s d i (first_brace d i v 125 l h b refl 0 (omega arith))
            ∙ ap₂ (λ t j. got (filled (suc d) t) j) (first_part d i v 125 l h b refl) (first_end_lem d i v 125 l h b refl ∙ plus);
        shows = filled_shows (suc d) v;
      }

  -- a spec whose first text is followed by a field, with what that and the rest give
  spec_then : (d i : ℕ) (v r : List ℕ) (k : ℕ) (q : Content) → 0 < i → At s i (v ++ 123 ∷ r) → braceless v ≡ true
      → Gives (suc d) (filled (suc d) v) (text_at look s (suc d) (i + length v) [] (filled (suc d) v)) k q → Gives (suc d) [] (spec_at look s d i) k (filled_with v q)
  spec_then d i v r k q z h b g =
      record {
        pieces = filled (suc d) v ++ g.pieces;
        is_got =
            spec_text_lem look s d i z h.0 (first_brace d i v 123 r h b refl 0 (omega arith))
            ∙ ap₂ (λ j t. text_at look s (suc d) j [] (filled (suc d) t)) (first_end_lem d i v 123 r h b refl) (first_part d i v 123 r h b refl)
            ∙ g.is_got;
        shows = shows_filled (suc d) v g.pieces q g.shows;
      }

  -- a field in a spec stands one deep
  pub one_deep : (d : ℕ) (w : Where) (e : List ℕ) → field_reads (suc d) w e ≡ true → suc d ≡ 1
  unfolding field_reads
  one_deep d w e k =
      let k₁ = and_both (ltb (suc d) 2 && begins_well w e && clean false (clear []) e) (not (blank e)) k in
      let k₂ = and_both (ltb (suc d) 2 && begins_well w e) (clean false (clear []) e) k₁.0 in
      let k₃ = and_both (ltb (suc d) 2) (begins_well w e) k₂.0 in
      let k₄ = ltb-true (suc d) 2 k₃.0 in
      omega arith

  -- a spec whose first thing is a field
  spec_field : (d i : ℕ) (v l : List ℕ) (p q : Content) → (r : List ℕ) × (spelled early p ≡ 123 ∷ r) → 0 < i → At s i (v ++ (spelled early p ++ 125 ∷ l)) → braceless v ≡ true
      → (At s (i + length v) (spelled early p ++ 125 ∷ l) → Gives (suc d) (filled (suc d) v) (text_at look s (suc d) (i + length v) [] (filled (suc d) v)) (i + length v + length (spelled early p)) q)
      → Gives (suc d) [] (spec_at look s d i) (i + (length v + length (spelled early p))) (filled_with v q)
  spec_field d i v l p q (r, e) z h b f =
      let y : i + length v + length (spelled early p) ≡ i + (length v + length (spelled early p)) = omega arith in
      spec_then d i v (r ++ 125 ∷ l) (i + (length v + length (spelled early p))) q z (rw e at h) b (rw y at (f (at_skip s i v (spelled early p ++ 125 ∷ l) h)))

  pub record Back (p : Content) : Type 0 where
    pub text : TextReads p
    pub in_spec : SpecReads p

  back_empty : Back empty
  unfolding spelled alike_after
  back_empty = record {
    text = λ w d r i t l ps h k a b.
        let plus : i ≡ i + 0 = omega arith in
        record { pieces = filled d t; is_got = text_over look s d i t ps (stops w d r i t l h k) ∙ ap (got (ps ++ filled d t)) plus; shows = filled_shows d t };
    in_spec = λ d i v l z h b a c. spec_ends d i v l h b;
  }

  back_says : (u : List ℕ) (p : Content) → Back p → Back (says u p)
  unfolding spelled alike_after parts_read text_reads spelled_text
  back_says u p ih = record {
    text = λ w d r i t l ps h k a b.
        let h' = rw (append_assoc (spelled_text w u) (spelled w p) l) at h in
        let a' = (and_both (text_reads w u) (parts_read d w p) a).1 in
        let x = ih.text w d r (i + length (spelled_text w u)) (t ++ u) l ps (at_skip s i (spelled_text w u) (spelled w p ++ l) h') k a' b in
        let z : i + length (spelled_text w u) + length (spelled w p) ≡ i + length (spelled_text w u ++ spelled w p) = omega (arith, length-append (spelled_text w u) (spelled w p)) in
        record { pieces = x.pieces; is_got = text_bytes look s w d r i t u ps (spelled w p ++ l) h' ∙ x.is_got ∙ ap (got (ps ++ x.pieces)) z; shows = x.shows };
    in_spec = λ d i v l z h b a c.
        let e = early_is u in
        let k = and_both (braceless u) (parts_read (suc d) early p) a in
        let h' : At s i ((v ++ u) ++ (spelled early p ++ 125 ∷ l)) = rw (e, append_assoc u (spelled early p) (125 ∷ l), ← append_assoc v u (spelled early p ++ 125 ∷ l)) at h in
        let y : i + (length (v ++ u) + length (spelled early p)) ≡ i + (length v + length (spelled_text early u ++ spelled early p)) = omega (arith, length-append v u, length-append (spelled_text early u) (spelled early p), ap length e) in
        rw y at (ih.in_spec d i (v ++ u) l z h' (both_braceless v u b k.0) k.1 c);
  }

  back_puts : (e : List ℕ) (c : ℕ) (p : Content) → Back p → Back (puts e c p)
  unfolding alike_after parts_read spelled filled_with past_field
  back_puts e c p ih = record {
    text = λ w d r i t l ps h k a b.
        let a' = and_both (field_reads d w e) (parts_read d (past_field w) p) a in
        puts_gives w d (reads_opens w d r) e c p ih.text i t l ps k a'.0 a'.1 b.0 b.1 h;
    in_spec = λ d i v l z h b a x.
        let a' = and_both (field_reads (suc d) early e) (parts_read (suc d) late p) a in
        spec_field d i v l (puts e c p) (puts e c (alike_after [] p)) (_, refl) z h b
        (λ h'. puts_gives early (suc d) (one_deep d early e a'.0) e c p ih.text (i + length v) [] (125 ∷ l) (filled (suc d) v) (l, refl) a'.0 a'.1 x.0 x.1 h');
  }

  back_forms : (e : List ℕ) (c : ℕ) (q p : Content) → Back q → Back p → Back (forms e c q p)
  unfolding alike_after parts_read spelled filled_with past_field
  back_forms e c q p iq ip = record {
    text = λ w d r i t l ps h k a b.
        let a₁ = and_both (field_reads d w e && parts_read (suc d) early q) (parts_read d (past_field w) p) a in
        let a₂ = and_both (field_reads d w e) (parts_read (suc d) early q) a₁.0 in
        forms_gives w d (reads_opens w d r) e c p ip.text i t l ps k a₂.0 a₁.1 b.0 b.2 q iq.in_spec a₂.1 b.1 h;
    in_spec = λ d i v l z h b a x.
        let a₁ = and_both (field_reads (suc d) early e && parts_read (suc (suc d)) early q) (parts_read (suc d) late p) a in
        let a₂ = and_both (field_reads (suc d) early e) (parts_read (suc (suc d)) early q) a₁.0 in
        spec_field d i v l (forms e c q p) (forms e c (alike q) (alike_after [] p)) (_, refl) z h b
        (λ h'. forms_gives early (suc d) (one_deep d early e a₂.0) e c p ip.text (i + length v) [] (125 ∷ l) (filled (suc d) v) (l, refl) a₂.0 a₁.1 x.0 x.2 q iq.in_spec a₂.1 x.1 h');
  }

  pub back : (p : Content) → Back p
  back empty = back_empty
  back (says u p) = back_says u p (back p)
  back (puts e c p) = back_puts e c p (back p)
  back (forms e c q p) = back_forms e c q p (back q) (back p)

-- A BODY that is the spelling of what may be read back holds that again, alike
pub body_back : (look : Naming) (p : Content) → Utf8 (spelled top p) → parts_read 0 top p ≡ true → Converts p
    → (ps : List Piece) × (read_body look 1 (spelled top p) ≡ got ps (length (spelled top p))) × Shows 0 ps (alike p)
unfolding read_body
body_back look p utf8 r c =
    let s = spelled top p in
    let moves : enough s ≡ suc (length s + length s + 1) = omega arith in
    let x = (back look s utf8 p).text top 0 refl 0 [] [] [] (omega arith, sym (append-nil s)) refl r c in
    (x.pieces, ap (λ n. text_n look n 1 s 0 0 [] []) moves ∙ x.is_got ∙ ap (got x.pieces) (omega arith), x.shows)
