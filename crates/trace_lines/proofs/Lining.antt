-- A row's line, item by item and column by column. Assumes nothing.
use Rattle.std.specs.Prelude.{Some, None, Result, Ok, Err}
use mathlib.Core.Path.{◌≡◌, refl, sym, ◌∙◌, ap, ap₂, subst}
use mathlib.Core.Bool.{Bool, true, false}
use mathlib.Core.List.{List, [], ◌∷◌, ◌++◌, append-nil, append_assoc}
use Prim.Native.Nat.{ℕ, zero, suc, ◌+◌, ◌-◌, ◌*◌, ◌≤◌, ◌<◌}
use native.Mathlib.Omega.{arith}
use lib.Dec.{eqb}
use lib.ListN.{length, drop, length-append, length-take, length-drop}
use borrow.Author.Tests.{eqb-true, eqb-false, eq-eqb}
use Rattle.definition.specs.Chars.{part}
use Rattle.definition.specs.Records.{Record}
use Rattle.definition_replay.specs.Integers.{Integer, Form, written}
use Rattle.definition_replay.specs.Trace.{taken, more_of, row_of}
use Rattle.definition_replay.specs.Replay.{Made, made, stopped, followed, Part, stands, column, items_from, form_made, fields_past, parts_from, field_count, row_line, in_range, all_in_range}
use Rattle.definition.proofs.Moves.CharLaws.{cases, no}
use Rattle.definition_replay_laws.proofs.Trace.TraceByNumber.{numbers_n, row_by_number}
use Rattle.definition_replay_laws.proofs.Replay.ReplayFirst.{items_none}
use Rattle.buffers.specs.Over.{over}
use Rattle.buffers.proofs.Over.{over_nil, over_append}
use Rattle.traces.specs.declared.Ends.{Ends}
use Rattle.traces.specs.declared.Ends.TheVariants.{Nothing, Comma, Row}
use Rattle.traces.specs.Cells.{says_behind, more, ended_with, cell_of, fit_cell, integer, says_cell, check_of}
use Rattle.formats.specs.declared.Form as formats
use Rattle.formats.specs.Parts.{FormIs, written_with, written_as, written_part, written_by}
use Rattle.formats.specs.declared.FormError.{FormError}
use Rattle.formats.proofs.Telling.{written_by_lem, written_none}
use Rattle.templates.specs.declared.Place.{Place}
use Rattle.trace_lines.specs.declared.Step.{Step}
use Rattle.templates.specs.Walk.{Stand, PlaceIs}
use Rattle.trace_lines.specs.Steps.{StepIs}
use Rattle.trace_lines.specs.Lines.{Writes, FieldIs, RowIs, LineIs}
use Rattle.templates.proofs.Items.{is_text_lem, is_field_lem, is_refused, part_at, View, view_at, parts_step}
use Rattle.trace_lines.proofs.Scanned.{onto, onto_none, onto_more, onto_last, numbers_more, numbers_last, fit_more, fit_last, all_more, zero_taken, refused_cell, too_many}

-- BY WHAT ENDS a column
by_comma : {P : Type 0} (e : Ends) → (e ≡ Comma → P) → ((e ≡ Comma → ⊥) → P) → P
by_comma Nothing f g = g (λ z. cc)
by_comma Comma f g = f refl
by_comma Row f g = g (λ z. cc)

row_left : (e : Ends) → (e ≡ Nothing → ⊥) → (e ≡ Comma → ⊥) → e ≡ Row
row_left Nothing n m = absurd (n refl)
row_left Comma n m = absurd (m refl)
row_left Row n m = refl

-- A FIELD
pub field_read : (spec trace : List ℕ) (ends : Ends) (at : ℕ) (out : List ℕ) (used : ℕ) (e : Ends) (negative : Bool) (size next : ℕ)
    → (says_cell trace e negative size next ≡ fit_cell (cell_of (drop at trace))) × ((e ≡ Nothing → ⊥) → at < next) × (next ≤ length trace)
    → {out' : List ℕ} {used' : ℕ} → Writes (written_by spec (integer negative size)) out used out' used' → ends ≡ Comma
    → FieldIs spec trace ends at out used out' used' e next
field_read spec trace ends at out used e negative size next c w o =
    record {
      value = integer negative size;
      cell = λ n. c.0;
      writes = λ n. w;
      shut = λ n. absurd (n o);
      goes = c.1;
    }

pub field_shut : (spec trace : List ℕ) (ends : Ends) (at : ℕ) (out : List ℕ) (used : ℕ) (out' : List ℕ) (used' next : ℕ) → (ends ≡ Comma → ⊥) → FieldIs spec trace ends at out used out' used' Nothing next
field_shut spec trace ends at out used out' used' next n =
    record { value = integer false 0; cell = λ o. absurd (n o); writes = λ o. absurd (n o); shut = λ o. refl; goes = λ z. absurd (z refl) }

-- an integer written by a spec's form, or by none
pub written_formed : {spec : List ℕ} {r : Result formats.Form FormError} {form : formats.Form} → FormIs spec r → r ≡ Ok form → (negative : Bool) (size : ℕ) (out : List ℕ) {out' : List ℕ} {used : ℕ}
    → (used ≡ length (written_with spec form (integer negative size))) × (out' ≡ over out 0 (written_with spec form (integer negative size))) × (used ≤ 325)
    → Writes (written_by spec (integer negative size)) out 0 out' used × (used ≤ 325)
written_formed {spec} {r} {form} f e negative size out w =
    let g = subst (FormIs spec) e f in
    let b = written_by_lem spec form negative size g in
    let k = w.0 in
    let l = ap length b in
    ((omega arith, w.1 ∙ ap (over out 0) b), w.2)

pub written_result : (spec : List ℕ) (r : Result formats.Form FormError) → FormIs spec r → (negative : Bool) (size : ℕ) (out : List ℕ) {out' : List ℕ} {used : ℕ}
    → (used ≡ length (written_as spec r (integer negative size))) × (out' ≡ over out 0 (written_as spec r (integer negative size))) × (used ≤ 325)
    → Writes (written_by spec (integer negative size)) out 0 out' used × (used ≤ 325)
written_result spec (Ok form) f negative size out w = written_formed f refl negative size out w
written_result spec (Err e) f negative size out w =
    let b = written_none spec (integer negative size) f in
    let k = w.0 in
    let l = ap length b in
    ((omega arith, w.1 ∙ ap (over out 0) b), w.2)

form_written : (spec : List ℕ) (f : Form) (v : Integer) → form_made 0 0 spec ≡ made (column f) → written_by spec v ≡ written f v
unfolding written_by written_part
form_written spec f v e = ap (λ o. written_part o v) e

-- what is made of two is made of both
pub record Both {A : Type 0} (x : Made A) (o : Made (List A)) (ls : List A) : Type 0 where
  pub one : A
  pub others : List A
  pub is_one : x ≡ made one
  pub are_others : o ≡ made others
  pub all : ls ≡ one ∷ others

pub both_made : {A : Type 0} (x : Made A) (o : Made (List A)) (ls : List A) → followed x o ≡ made ls → Both x o ls
unfolding followed
both_made (stopped n k) o ls e = let z : ◌≡◌ {A = ℕ} 0 1 = cc in absurd (omega arith)
both_made (made y) (stopped n k) ls e = let z : ◌≡◌ {A = ℕ} 0 1 = cc in absurd (omega arith)
both_made (made y) (made ys) ls e = record { one = y; others = ys; is_one = refl; are_others = refl; all = cc }

-- bytes, and then the rest of what is written
pub writes_more : (bytes rest out : List ℕ) (used : ℕ) {out' : List ℕ} {used' : ℕ} → Writes bytes out used out' used'
    → (over out' used' rest ≡ over out used (bytes ++ rest)) × (used' + length rest ≡ used + length (bytes ++ rest))
writes_more bytes rest out used w =
    let l = length-append bytes rest in
    let e = w.0 in
    (ap₂ (λ b p. over b p rest) w.1 e ∙ over_append out used bytes rest, omega arith)

pub length_part : (s : List ℕ) (i j : ℕ) → length (part s i j) ≤ j - i
length_part s i j = let l = length-take (j - i) (drop i s) in omega arith

all_none : all_in_range [] ≡ true
unfolding all_in_range
all_none = refl

-- THE LINE
module _ (words : List ℕ) (count : ℕ) (text trace : List ℕ) (out₀ : List ℕ) (from row : ℕ) where
  -- columns to come, after some
  pub record Open-at (done : List Integer) (next : ℕ) : Type 0 where
    pub fuel : ℕ
    pub enough : length trace < next + suc fuel
    pub same : row_of (drop row trace) ≡ onto done (numbers_n (suc fuel) (drop next trace))

  -- of the template's parts those to come, and the row's columns so far
  pub record Line-to (ps₀ : List Part) (out : List ℕ) (used i at : ℕ) (ends : Ends) (next : ℕ) : Type 0 where
    pub rest : List Record
    pub parts : List Part
    pub k : ℕ
    pub stand : Stand words count (length text) i at rest
    pub are : parts_from text k (items_from 0 rest) ≡ made parts
    pub done : List Integer
    pub open_so : ends ≡ Comma → Open-at done next
    pub shut_so : (ends ≡ Comma → ⊥) → row_of (drop row trace) ≡ taken done (drop next trace)
    pub fits : all_in_range done ≡ true
    pub counts : length done + field_count parts ≡ field_count ps₀
    pub wrote : (vs : List Integer) → over out used (row_line parts vs) ≡ over out₀ from (row_line ps₀ (done ++ vs))
    pub size : (vs : List Integer) → used + length (row_line parts vs) ≡ from + length (row_line ps₀ (done ++ vs))

  abbrev Premised : (out : List ℕ) (used i at : ℕ) (ends : Ends) (next : ℕ) → Type 0
  Premised out used i at ends next =
      (rs : List Record) (ps : List Part) → Stand words count (length text) 0 0 rs → parts_from text 0 (items_from 0 rs) ≡ made ps → Line-to ps out used i at ends next

  pub record Line-at (out : List ℕ) (used i at : ℕ) (ends : Ends) (next : ℕ) : Type 0 where
    pub goes : Premised out used i at ends next
    pub before_end : i ≤ count
    pub within : at ≤ length text
    pub inside : next ≤ length trace
    pub moved : (ends ≡ Comma → ⊥) → row < next
    pub begun : row ≤ next
    pub some : ends ≡ Nothing → ⊥
    pub few : used ≤ from + at + 325 * i

  abbrev Refused : Type 0
  Refused = (rs : List Record) (ps : List Part) → Stand words count (length text) 0 0 rs → parts_from text 0 (items_from 0 rs) ≡ made ps → check_of (field_count ps) (row_of (drop row trace)) ≡ 0 → ⊥

  pub line_start : row ≤ length trace → Line-at out₀ from 0 0 Comma row
  line_start h =
      let l = length-drop row trace in
      record {
        goes = λ rs ps s p.
            record {
              rest = rs;
              parts = ps;
              k = 0;
              stand = s;
              are = p;
              done = [];
              open_so = λ e. record { fuel = length (drop row trace); enough = omega arith; same = row_by_number (drop row trace) ∙ sym (onto_none (numbers_n (suc (length (drop row trace))) (drop row trace))) };
              shut_so = λ n. absurd (n refl);
              fits = all_none;
              counts = omega arith;
              wrote = λ vs. refl;
              size = λ vs. refl;
            };
        before_end = omega arith;
        within = omega arith;
        inside = h;
        moved = λ n. absurd (n refl);
        begun = omega arith;
        some = λ e. cc;
        few = omega arith;
      }

  module _ (out : List ℕ) (used i at : ℕ) (ends : Ends) (next : ℕ) (w : Line-at out used i at ends next) where
    -- one item more
    module _ (l : i < count) (r : Step) (q : StepIs words count text i at r)
        {out' : List ℕ} {used' : ℕ} {ends' : Ends} {next' : ℕ}
        (y : ((r.item.kind ≡ 2 → ⊥) → Writes (part text at r.item.own) out used out' used' × (ends' ≡ ends) × (next' ≡ next))
        × (r.item.kind ≡ 2 → FieldIs (part text r.item.own r.item.to) trace ends next out used out' used' ends' next')
        × (used' ≤ used + length (part text at r.item.own) + 325)
        × (next' ≤ length trace))
      where
        abbrev p : Place
        p = r.item

        module _ (ps₀ : List Part) (x : Line-to ps₀ out used i at ends next) where
          abbrev found : PlaceIs words count text at x.rest p
          found = q.place.0 x.rest x.stand

          both : Both (part_at text at p x.k) (parts_from text (fields_past x.k found.item) (items_from 0 found.rest)) x.parts
          both =
              both_made (part_at text at p x.k) (parts_from text (fields_past x.k found.item) (items_from 0 found.rest)) x.parts
              (sym (parts_step words count text at p x.k x.rest found) ∙ x.are)

          part_is : {o : Part} → part_at text at p x.k ≡ made o → x.parts ≡ o ∷ both.others
          part_is {o} f = both.all ∙ ap (λ c. c ∷ both.others) (let z : made both.one ≡ made o = sym both.is_one ∙ f in cc)

          -- text
          by_text : eqb p.kind 2 ≡ false → x.parts ≡ stands (part text at p.own) ∷ both.others → Line-to ps₀ out' used' p.next p.to ends' next'
          unfolding row_line field_count
          by_text b e =
              let z = y.0 (λ f. no (sym b ∙ eq-eqb p.kind 2 f)) in
              record {
                rest = found.rest;
                parts = both.others;
                k = fields_past x.k found.item;
                stand = found.stand;
                are = both.are_others;
                done = x.done;
                open_so = λ f. rw z.2 (x.open_so (sym z.1 ∙ f));
                shut_so = λ f. rw z.2 (x.shut_so (λ g. f (z.1 ∙ g)));
                fits = x.fits;
                counts = sym (ap (λ o. length x.done + field_count o) e) ∙ x.counts;
                wrote = λ vs. (writes_more (part text at p.own) (row_line both.others vs) out used z.0).0 ∙ sym (ap (λ o. over out used (row_line o vs)) e) ∙ x.wrote vs;
                size = λ vs. (writes_more (part text at p.own) (row_line both.others vs) out used z.0).1 ∙ sym (ap (λ o. used + length (row_line o vs)) e) ∙ x.size vs;
              }

          -- a field
          module _ (f : Form) (b : eqb p.kind 2 ≡ true) (g : form_made 0 0 (part text p.own p.to) ≡ made (column f)) (e : x.parts ≡ column f ∷ both.others) where
            abbrev put : FieldIs (part text p.own p.to) trace ends next out used out' used' ends' next'
            put = y.1 (eqb-true p.kind 2 b)

            abbrev v : Integer
            v = put.value

            fields_are : length x.done + suc (field_count both.others) ≡ field_count ps₀
            unfolding field_count
            fields_are = sym (ap (λ o. length x.done + field_count o) e) ∙ x.counts

            -- the column refuses the row
            column_refuses : ends' ≡ Nothing → check_of (field_count ps₀) (row_of (drop row trace)) ≡ 0 → ⊥
            unfolding ended_with
            column_refuses z h =
                by_comma ends
                (λ d.
                let o = x.open_so d in
                refused_cell (field_count ps₀) x.done o.fuel (drop next trace)
                (sym (ap (λ c. ended_with v (says_behind trace c next')) z) ∙ put.cell d)
                (ap (check_of (field_count ps₀)) (sym o.same) ∙ h))
                (λ d.
                let k = (zero_taken (field_count ps₀) x.done (drop next trace) (ap (check_of (field_count ps₀)) (sym (x.shut_so d)) ∙ h)).0 in
                let c = fields_are in
                absurd (omega arith))

            -- or it is one more
            module _ (n : ends' ≡ Nothing → ⊥) where
              opened : ends ≡ Comma
              opened = by_comma ends (λ d. d) (λ d. absurd (n (put.shut d)))

              abbrev o : Open-at x.done next
              o = x.open_so opened

              cell_is : (e : Ends) → ends' ≡ e → ended_with v (says_behind trace e next') ≡ fit_cell (cell_of (drop next trace))
              cell_is e a = sym (ap (λ c. ended_with v (says_behind trace c next')) a) ∙ put.cell opened

              abbrev Columns : Type 0
              Columns = (in_range v ≡ true) × (ends' ≡ Comma → Open-at (x.done ++ (v ∷ [])) next') × ((ends' ≡ Comma → ⊥) → row_of (drop row trace) ≡ taken (x.done ++ (v ∷ [])) (drop next' trace))

              more_fuel : (n' : ℕ) → o.fuel ≡ n' → cell_of (drop next trace) ≡ more v (drop next' trace) → Open-at (x.done ++ (v ∷ [])) next'
              more_fuel zero a c = let u = o.enough in let t = put.goes n in let s = y.3 in absurd (omega arith)
              more_fuel (suc n') a c =
                  let u = o.enough in
                  let t = put.goes n in
                  record {
                    fuel = n';
                    enough = omega arith;
                    same = o.same
                        ∙ ap (onto x.done) (numbers_more o.fuel (drop next trace) v (drop next' trace) c ∙ ap (λ m. more_of v (numbers_n m (drop next' trace))) a)
                        ∙ onto_more x.done v (numbers_n (suc n') (drop next' trace));
                  }

              columns : Columns
              unfolding ended_with
              columns =
                  by_comma ends'
                  (λ a.
                  let c = fit_more (cell_of (drop next trace)) v (drop next' trace) (cell_is Comma a) in
                  (c.1, (λ d. more_fuel o.fuel refl c.0), (λ d. absurd (d a))))
                  (λ a.
                  let c = fit_last (cell_of (drop next trace)) v (drop next' trace) (cell_is Row (row_left ends' n a)) in (
                    c.1,
                    (λ d. absurd (a d)),
                    (λ d. o.same ∙ ap (onto x.done) (numbers_last o.fuel (drop next trace) v (drop next' trace) c.0) ∙ onto_last x.done v (drop next' trace)),
                  ))

              by_field : Line-to ps₀ out' used' p.next p.to ends' next'
              unfolding row_line
              by_field =
                  let c = columns in
                  let z : Writes (written f v) out used out' used' = rw (form_written (part text p.own p.to) f v g) at (put.writes opened) in
                  let a = fields_are in
                  let d = length-append x.done (v ∷ []) in
                  record {
                    rest = found.rest;
                    parts = both.others;
                    k = fields_past x.k found.item;
                    stand = found.stand;
                    are = both.are_others;
                    done = x.done ++ (v ∷ []);
                    open_so = c.1;
                    shut_so = c.2;
                    fits = all_more x.done v x.fits c.0;
                    counts = omega arith;
                    wrote = λ vs. (writes_more (written f v) (row_line both.others vs) out used z).0 ∙ sym (ap (λ o. over out used (row_line o (v ∷ vs))) e) ∙ x.wrote (v ∷ vs) ∙ sym (ap (λ t. over out₀ from (row_line ps₀ t)) (append_assoc x.done (v ∷ []) vs));
                    size = λ vs. (writes_more (written f v) (row_line both.others vs) out used z).1 ∙ sym (ap (λ o. used + length (row_line o (v ∷ vs))) e) ∙ x.size (v ∷ vs) ∙ sym (ap (λ t. from + length (row_line ps₀ t)) (append_assoc x.done (v ∷ []) vs));
                  }

          not_made : {P : Type 0} (m : ℕ) → part_at text at p x.k ≡ stopped m x.k → P
          not_made m f = let z : ◌≡◌ {A = Made Part} (made both.one) (stopped m x.k) = sym both.is_one ∙ f in let c : ◌≡◌ {A = ℕ} 0 1 = cc in absurd (omega arith)

          one_more_lem : (ends' ≡ Nothing → ⊥) → Line-to ps₀ out' used' p.next p.to ends' next'
          one_more_lem n = go (view_at text at p)
            where
              go : View text at p → Line-to ps₀ out' used' p.next p.to ends' next'
              go (is_text_lem b f) = by_text b (part_is (f x.k))
              go (is_field_lem b g d f) = by_field g b d (part_is (f x.k)) n
              go (is_refused b m h f) = not_made m (f x.k)

          no_more : ends' ≡ Nothing → check_of (field_count ps₀) (row_of (drop row trace)) ≡ 0 → ⊥
          no_more z h = go (view_at text at p)
            where
              go : View text at p → ⊥
              go (is_text_lem b f) = w.some (sym (y.0 (λ f. no (sym b ∙ eq-eqb p.kind 2 f))).1 ∙ z)
              go (is_field_lem b g d f) = column_refuses g b d (part_is (f x.k)) z h
              go (is_refused b m k f) = not_made m (f x.k)

        pub line_refused : ends' ≡ Nothing → Refused
        line_refused z rs ps s e = no_more ps (w.goes rs ps s e) z

        pub line_next : (ends' ≡ Nothing → ⊥) → Line-at out' used' p.next p.to ends' next'
        line_next n =
            let f = w.few in
            let g = y.2 in
            let s = length_part text at p.own in
            let a = q.place.1 in
            let b = q.place.3 in
            let c = q.place.4 in
            record {
              goes = λ rs ps s e. one_more_lem ps (w.goes rs ps s e) n;
              before_end = q.place.2;
              within = q.place.5;
              inside = y.3;
              moved = λ d. moves.0 d;
              begun = moves.1;
              some = n;
              few = omega arith;
            }
          where
            moves : ((ends' ≡ Comma → ⊥) → row < next') × (row ≤ next')
            moves =
                cases (eqb p.kind 2) (λ b. let d = (y.1 (eqb-true p.kind 2 b)).goes n in let m = w.begun in ((λ f. omega arith), omega arith))
                (λ b.
                let d = y.0 (eqb-false p.kind 2 b) in
                let t = d.2 in
                let m = w.begun in
                ((λ f. let u = w.moved (λ g. f (d.1 ∙ g)) in omega arith), omega arith))

    -- no item is left
    module _ (h : count ≤ i) where
      none_left : (ps : List Part) (x : Line-to ps out used i at ends next) → x.parts ≡ []
      unfolding parts_from
      none_left ps x = by-rest x.rest refl
        where
          by-rest : (rest : List Record) → x.rest ≡ rest → x.parts ≡ []
          by-rest [] d =
              let z : made [] ≡ made x.parts = sym (ap (λ l. parts_from text x.k l) (items_none 0)) ∙ sym (ap (λ l. parts_from text x.k (items_from 0 l)) d) ∙ x.are in
              cc
          by-rest (q ∷ l) d = let m = x.stand.whole in let n = ap length d in absurd (omega arith)

      line_open : ends ≡ Comma → Refused
      unfolding field_count
      line_open z rs ps s e c =
          let x = w.goes rs ps s e in
          let o = x.open_so z in
          let n : length x.done ≡ field_count ps = (let k : length x.done + 0 ≡ field_count ps = sym (ap (λ q. length x.done + field_count q) (none_left ps x)) ∙ x.counts in omega arith) in
          too_many x.done o.fuel (drop next trace) (ap₂ check_of n (sym o.same) ∙ c)

      line_fine : {out' : List ℕ} → out' ≡ over out used (10 ∷ []) → (ends ≡ Comma → ⊥) → (rs : List Record) (ps : List Part) → Stand words count (length text) 0 0 rs
          → parts_from text 0 (items_from 0 rs) ≡ made ps → RowIs ps trace row out₀ from out' (used + 1) next
      unfolding row_line field_count
      line_fine f z rs ps s e =
          let x = w.goes rs ps s e in
          let n = none_left ps x in
          let d = append-nil x.done in
          let a : used + 1 ≡ from + length (row_line ps x.done) = (λ j. used + length (row_line (sym n j) [])) ∙ x.size [] ∙ ap (λ t. from + length (row_line ps t)) d in
          let b : over out used (10 ∷ []) ≡ over out₀ from (row_line ps x.done) = (λ j. over out used (row_line (sym n j) [])) ∙ x.wrote [] ∙ ap (λ t. over out₀ from (row_line ps t)) d in
          record {
            values = x.done;
            reads = x.shut_so z;
            counts = (let k : length x.done + 0 ≡ field_count ps = sym (ap (λ q. length x.done + field_count q) n) ∙ x.counts in omega arith);
            fits = x.fits;
            writes = (a, f ∙ b);
          }

      pub line_none : ends ≡ Comma → (out' : List ℕ) → LineIs words count text trace row out₀ from out' None
      line_none z out' = line_open z

      pub line_some : {out' : List ℕ} → out' ≡ over out used (10 ∷ []) → (ends ≡ Comma → ⊥) → LineIs words count text trace row out₀ from out' (Some (record { used = used + 1; next = next }))
      line_some f z = (line_fine f z, w.moved z, w.inside)
