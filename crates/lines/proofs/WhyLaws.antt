-- Lines of fields that lie in words and rows are the definition's, and their lengths; what a call over one body leaves are the body's. Assumes nothing.
use mathlib.Core.Path.{◌≡◌, refl, sym, ◌∙◌, ap, subst}
use mathlib.Core.Bool.{Bool, true, false}
use mathlib.Core.List.{List, [], ◌∷◌, ◌++◌, map, append_assoc, append-nil}
use mathlib.Core.Option.{none}
use Prim.Native.Nat.{ℕ, zero, suc, ◌+◌, ◌-◌, ◌*◌, ◌/◌, ◌≤◌, ◌<◌, min}
use native.Mathlib.Nat.{add-zero}
use native.Mathlib.Numerals.{add-one}
use native.Mathlib.Omega.{arith}
use borrow.Rule.Slice.PartMut.{put_mid, mid_of}
use borrow.Author.Tests.{eq-eqb, ne_eqb, lt-ltb, le-ltb}
use lib.Dec.{eqb}
use lib.ListN.{length, take, drop, get_or, length-append}
use lib.Seq.{get_or-drop, drop-drop, drop-append_seam, take_at}
use Rattle.definition.specs.Numbers.{bodies_too_long}
use Rattle.definition.specs.Chars.{part}
use Rattle.definition.specs.Escapes.{held_names}
use Rattle.definition.specs.Records.{Record, Answer, words_of}
use Rattle.definition.specs.Entry.{Literal, sixes, one_more, total}
use Rattle.definition.specs.Reading.{Outcome, accepts, refuses, outcome_of, room_for, all_words, read, numbers, words_after, text_after, called}
use Rattle.definition.specs.Rows.{reason, Row, row_numbers, all_rows, all_numbers, rowed, roomed_rows, rows_after, called_rows, signs_into, signs_numbers, row_field, record_fields}
use Rattle.definition_lines.specs.Lines.{refusal_line, one_literal}
use Rattle.definition_lines.specs.Why.{why_line, why_here, rows_left, why_lines, outcome_why, body_why}
use Rattle.definition.proofs.Moves.CharLaws.{cases}
use Rattle.definition_laws.proofs.Rows.FieldRows.{list_fields}
use Rattle.definition_laws.proofs.Moves.Moves.{part_short}
use Rattle.definition_laws.proofs.Outcomes.Outcomes.{Sane, read_sane, sizes}
use Rattle.definition_laws.proofs.Outcomes.Lent.{read_needs}
use Rattle.entry.specs.declared.Refusal.{Refusal as Why}
use Rattle.entry.proofs.Checks.{clash}
use Rattle.answers.specs.declared.Answer.{Answer as Given}
use Rattle.answers.specs.declared.Outcome.{Outcome as Said}
use Rattle.answers.specs.declared.Outcome.TheVariants.{Accepted, Refused}
use Rattle.strings.specs.Strings.{CallIs, SignsIs}
use Rattle.objects.specs.Written.{Adds, Fits, Puts, of_text}
use Rattle.objects.proofs.Short.{Small, why_short, short_text}
use Rattle.lines.specs.Written.{longest, Room}
use Rattle.lines.specs.Whys.{is_field, fields_after, fields_in, why_place, why_places, Lies, Explains}
use Rattle.lines.proofs.Places.{tail_adds, gapless_inside, places_inside}
use Rattle.lines.proofs.Answers.{Called, there}

-- a list of blocks of a size, from a place on: what stands there, and behind it
module _ (xs block rest : List ℕ) (at : ℕ) (e : drop at xs ≡ block ++ rest) where
  block_at : (j : ℕ) → get_or xs (at + j) 0 ≡ get_or (block ++ rest) j 0
  block_at j = sym (get_or-drop at xs j 0) ∙ ap (λ l. get_or l j 0) e

  block_behind : (to : ℕ) → to ≡ at + length block → drop to xs ≡ rest
  block_behind to q = ap (λ n. drop n xs) q ∙ sym (drop-drop (length block) at xs) ∙ ap (drop (length block)) e ∙ drop-append_seam block rest

length_numbers : (ws : List Row) → length (all_numbers 0 ws) ≡ length ws * 10
unfolding all_numbers row_numbers
length_numbers [] = refl
length_numbers (w ∷ ws) = omega (arith, length_numbers ws)

-- RECORDS FROM A RECORD PLACE ON, and rows from a row's place on
module _ (words text rows rest_w rest_r : List ℕ) where
  abbrev Records : ℕ → List Record → Type 0
  Records i rs = drop (i * 8) words ≡ all_words rs ++ rest_w

  abbrev Rows : ℕ → List Row → Type 0
  Rows k ws = drop (k * 10) rows ≡ all_numbers 0 ws ++ rest_r

  module _ (r : Record) (rs : List Record) (i : ℕ) (W : Records i (r ∷ rs)) where
    parted : drop (i * 8) words ≡ words_of r ++ (all_words rs ++ rest_w)
    unfolding all_words
    parted = W ∙ append_assoc (words_of r) (all_words rs) rest_w

    word : (j : ℕ) → get_or words (i * 8 + j) 0 ≡ get_or (words_of r ++ (all_words rs ++ rest_w)) j 0
    word = block_at words (words_of r) (all_words rs ++ rest_w) (i * 8) parted

    kind_is : is_field words i ≡ eqb r.kind 2
    unfolding words_of
    kind_is = ap (λ n. eqb n 2) (ap (λ n. get_or words n 0) (sym (add-zero (i * 8))) ∙ word 0)

    next_records : Records (suc i) rs
    unfolding words_of
    next_records = block_behind words (words_of r) (all_words rs ++ rest_w) (i * 8) parted (suc i * 8) (omega arith)

  module _ (w : Row) (ws : List Row) (k : ℕ) (R : Rows k (w ∷ ws)) where
    row_parted : drop (k * 10) rows ≡ row_numbers 0 w ++ (all_numbers 0 ws ++ rest_r)
    unfolding all_numbers
    row_parted = R ∙ append_assoc (row_numbers 0 w) (all_numbers 0 ws) rest_r

    number : (j : ℕ) → get_or rows (k * 10 + j) 0 ≡ get_or (row_numbers 0 w ++ (all_numbers 0 ws ++ rest_r)) j 0
    number = block_at rows (row_numbers 0 w) (all_numbers 0 ws ++ rest_r) (k * 10) row_parted

    next_rows : Rows (k + 1) ws
    unfolding row_numbers
    next_rows = block_behind rows (row_numbers 0 w) (all_numbers 0 ws ++ rest_r) (k * 10) row_parted ((k + 1) * 10) (omega arith)

  -- a record with the rows from its own on
  record Here (r : Record) (ws : List Row) (i k : ℕ) : Type 0 where
    line : why_place words text rows i k ≡ why_here text r ws
    after : Rows (fields_after words i k) (rows_left r ws)
    counted : fields_after words i k + length (rows_left r ws) ≡ k + length ws

  here : (r : Record) (rs : List Record) (ws : List Row) (i k : ℕ) → Records i (r ∷ rs) → Rows k ws → length (record_fields (r ∷ rs)) ≤ length ws → Here r ws i k × (length (record_fields rs) ≤ length (rows_left r ws))
  unfolding why_place why_here rows_left record_fields words_of row_numbers
  here r rs ws i k W R l = go (eqb r.kind 2) refl ws R l
    where
      go : (t : Bool) → eqb r.kind 2 ≡ t → (ws : List Row) → Rows k ws → length (record_fields (r ∷ rs)) ≤ length ws → Here r ws i k × (length (record_fields rs) ≤ length (rows_left r ws))
      go true t [] R l = absurd (let m = rw t at l in omega arith)
      go true t (w ∷ ws) R l =
          let m = rw t at l in
          let z : get_or rows (k * 10) 0 ≡ reason w.signs = ap (λ n. get_or rows n 0) (sym (add-zero (k * 10))) ∙ number w ws k R 0 in
          rw t (
            record {
              line = rw (kind_is r rs i W, t, word r rs i W 1, word r rs i W 2, number w ws k R 2, z, number w ws k R 6);
              after = rw (kind_is r rs i W, t) (next_rows w ws k R);
              counted = rw (kind_is r rs i W, t) (omega arith);
            },
            omega arith,
          )
      go false t [] R l =
          let m = rw t at l in
          (record { line = rw (kind_is r rs i W, t); after = rw (kind_is r rs i W, t) R; counted = rw (kind_is r rs i W, t) }, m)
      go false t (w ∷ ws) R l =
          let m = rw t at l in
          rw t (record { line = rw (kind_is r rs i W, t); after = rw (kind_is r rs i W, t) R; counted = rw (kind_is r rs i W, t) }, m)

  -- ALL OF THEM: their lines, and how many fields they have
  pub all_whys : (rs : List Record) (ws : List Row) (i : ℕ) → Records i rs → Rows (fields_in words i) ws → length (record_fields rs) ≤ length ws
      → why_places words text rows (i + length rs) ≡ why_places words text rows i ++ why_lines text rs ws
  unfolding why_places why_lines fields_in
  all_whys [] ws i W R l = rw add-zero (sym (append-nil (why_places words text rows i)))
  all_whys (r ∷ rs) ws i W R l =
      let h = here r rs ws i (fields_in words i) W R l in
      let e : i + suc (length rs) ≡ suc i + length rs = omega arith in
      rw e
      (all_whys rs (rows_left r ws) (suc i) (next_records r rs i W) h.0.after h.1
      ∙ ap (λ l. (why_places words text rows i ++ l) ++ why_lines text rs (rows_left r ws)) h.0.line
      ∙ append_assoc (why_places words text rows i) (why_here text r ws) (why_lines text rs (rows_left r ws)))

  all_fields : (rs : List Record) (ws : List Row) (i : ℕ) → Records i rs → Rows (fields_in words i) ws → length (record_fields rs) ≤ length ws → fields_in words (i + length rs) ≤ fields_in words i + length ws
  unfolding fields_in
  all_fields [] ws i W R l = rw add-zero (omega arith)
  all_fields (r ∷ rs) ws i W R l =
      let h = here r rs ws i (fields_in words i) W R l in
      let e : i + suc (length rs) ≡ suc i + length rs = omega arith in
      rw e (omega (arith, all_fields rs (rows_left r ws) (suc i) (next_records r rs i W) h.0.after h.1, h.0.counted))

-- fewer records have no more fields
fields_on : (words : List ℕ) (i n : ℕ) → fields_in words i ≤ fields_in words (i + n)
unfolding fields_in
fields_on words i zero = rw add-zero (omega arith)
fields_on words i (suc n) =
    let e : i + suc n ≡ suc (i + n) = omega arith in
    rw e (cases (is_field words (i + n)) (λ t. rw t (omega (arith, fields_on words i n))) (λ t. rw t (fields_on words i n)))

-- HOW LONG THE LINES ARE: at most 70 bytes for a record, and six for each byte of text
whys_short : (text : List ℕ) (rs : List Record) (ws : List Row) (rest : List ℕ) → ((i : ℕ) → Small (get_or (all_numbers 0 ws ++ rest) i 0)) → length (why_lines text rs ws) ≤ 70 * length rs + 6 * sizes rs
unfolding why_lines why_here rows_left all_numbers row_numbers
whys_short text [] ws rest h = omega arith
whys_short text (r ∷ rs) [] rest h = omega (arith, whys_short text rs [] rest h)
whys_short text (r ∷ rs) (w ∷ ws) rest h =
    let p = part text r.offset (r.offset + r.size) in
    cases (eqb r.kind 2)
    (λ t.
    rw t
    (omega (
      arith,
      length-append (why_line p w.place (reason w.signs) w.signs.bang) (why_lines text rs ws),
      why_short p w.place (reason w.signs) w.signs.bang (h 2) (h 6),
      part_short text r.offset (r.offset + r.size),
      whys_short text rs ws rest (λ i. h (suc (suc (suc (suc (suc (suc (suc (suc (suc (suc i))))))))))),
    )))
    (λ t. rw t (omega (arith, whys_short text rs (w ∷ ws) rest h)))

-- no more fields than records
fields_few : (rs : List Record) → length (record_fields rs) ≤ length rs
unfolding record_fields
fields_few [] = omega arith
fields_few (r ∷ rs) = cases (eqb r.kind 2) (λ t. rw t (omega (arith, fields_few rs))) (λ t. rw t (omega (arith, fields_few rs)))

length_map : (ws : List Row) → length (map row_field ws) ≡ length ws
length_map [] = refl
length_map (w ∷ ws) = ap suc (length_map ws)

-- a line that is still to come fits where all lines do
module _ (words text rows : List ℕ) where
  fewer : (i n : ℕ) → length (why_places words text rows i) ≤ length (why_places words text rows (i + n))
  unfolding why_places
  fewer i zero = rw add-zero (omega arith)
  fewer i (suc n) =
      let e : i + suc n ≡ suc (i + n) = omega arith in
      rw e (omega (arith, fewer i n, length-append (why_places words text rows (i + n)) (why_place words text rows (i + n) (fields_in words (i + n)))))

  pub why_fits : (n i : ℕ) {b b' : List ℕ} {u : ℕ} → Fits 0 (why_places words text rows n) → i < n → Adds (why_places words text rows i) b 0 b' u → Fits u (why_place words text rows i (fields_in words i))
  unfolding why_places
  why_fits n i f h p =
      let e : n ≡ suc i + (n - suc i) = omega arith in
      omega (arith, p.up, subst (λ (m : ℕ). length (why_places words text rows (suc i)) ≤ length (why_places words text rows m)) (sym e) (fewer (suc i) (n - suc i)), length-append (why_places words text rows i) (why_place words text rows i (fields_in words i)))

  pub why_more : (i : ℕ) → why_places words text rows (i + 1) ≡ why_places words text rows i ++ why_place words text rows i (fields_in words i)
  unfolding why_places
  why_more i = rw (add-one i)

pub fields_more : (words : List ℕ) (i : ℕ) → fields_in words (i + 1) ≡ fields_after words i (fields_in words i)
unfolding fields_in
fields_more words i = rw (add-one i)

pub fields_none : (words : List ℕ) → fields_in words 0 ≡ 0
unfolding fields_in
fields_none words = refl

pub whys_none : (words text rows : List ℕ) → why_places words text rows 0 ≡ []
unfolding why_places
whys_none words text rows = refl

-- what stands at a place that is a field, and at one that is none
pub why_line_lem : (words text rows : List ℕ) (i k : ℕ) → get_or words (i * 8) 0 ≡ 2
    → let offset = get_or words (i * 8 + 1) 0 in why_place words text rows i k ≡ why_line (part text offset (offset + get_or words (i * 8 + 2) 0)) (get_or rows (k * 10 + 2) 0) (get_or rows (k * 10) 0) (get_or rows (k * 10 + 6) 0)
unfolding why_place
why_line_lem words text rows i k e = rw (eq-eqb _ _ e)

pub why_not_lem : (words text rows : List ℕ) (i k : ℕ) → (get_or words (i * 8) 0 ≡ 2 → ⊥) → why_place words text rows i k ≡ []
unfolding why_place
why_not_lem words text rows i k n = rw (ne_eqb _ _ n)

-- a field's line, put behind the used length
pub why_put : (words text rows : List ℕ) (i k : ℕ) (b : List ℕ) (u q : ℕ) {last : List ℕ} {n : ℕ} → get_or words (i * 8) 0 ≡ 2 → get_or words (i * 8 + 2) 0 ≤ 0xFFFFFFFF → q ≡ min u (length b)
    → let t = part text (get_or words (i * 8 + 1) 0) (get_or words (i * 8 + 1) 0 + get_or words (i * 8 + 2) 0) in
    Puts (of_text t (why_line t (get_or rows (k * 10 + 2) 0) (get_or rows (k * 10) 0) (get_or rows (k * 10 + 6) 0))) (mid_of q (length b - q) b) last n
    → Adds (why_place words text rows i k) b u (put_mid q (length b - q) b last) (u + n)
why_put words text rows i k b u q f h e p =
    let l = part_short text (get_or words (i * 8 + 1) 0) (get_or words (i * 8 + 1) 0 + get_or words (i * 8 + 2) 0) in
    rw (why_line_lem words text rows i k f) (tail_adds b u q _ e (rw (short_text (part text (get_or words (i * 8 + 1) 0) (get_or words (i * 8 + 1) 0 + get_or words (i * 8 + 2) 0)) _ (omega arith)) at p))

-- a body that is too long
pub long_whys : (s : List ℕ) → 1024 < length s → body_why s ≡ refusal_line bodies_too_long 0 0 0
unfolding body_why
long_whys s h = rw (lt-ltb 1024 (length s) h)

-- what words, text and rows hold is the body's, and its lines are not long
pub record Told (s W T R : List ℕ) (x : Given) : Type 0 where
  pub within : x.text ≤ length T
  pub lie : (i : ℕ) → i < x.records → Lies W (take x.text T) R i (fields_in W i)
  pub few : x.records ≤ 1025
  pub lines : why_places W (take x.text T) R x.records ≡ body_why s
  pub short : length (body_why s) ≤ longest

module _ (s words text rows W T R : List ℕ) (room : Room s words text) (more : (length s + 1) * 10 ≤ length rows) where
  abbrev one : List Literal
  one = one_literal (length s) ∷ []

  abbrev Signs : Said → Type 0
  Signs o = SignsIs (signs_numbers held_names s (1 ∷ 0 ∷ 0 ∷ length s ∷ 0 ∷ (length s + 3) ∷ []) rows) R o

  short_whys : body_why s ≡ outcome_why (rowed (all_rows held_names s one) (read held_names s one))
  unfolding body_why
  short_whys = rw (le-ltb 1024 (length s) room.few)

  pub refused_whys : (x : Why) → Called s words text W T room (Refused x) → refusal_line x.number x.place x.a x.b ≡ body_why s
  unfolding outcome_why rowed called numbers
  refused_whys x p = go (read held_names s one) refl (there s words text W T room (Refused x) p)
    where
      go : (o : Outcome Answer) → read held_names s one ≡ o → CallIs (called o words text) W T (Refused x) → refusal_line x.number x.place x.a x.b ≡ body_why s
      go (accepts y) e q = clash (let z = q.answer in cc)
      go (refuses r) e q = let z = q.answer in let y = short_whys ∙ ap (λ o. outcome_why (rowed (all_rows held_names s one) o)) e in cc

  -- rows of an accepted body stand in front
  rows_front : (y : Answer) (o : Said) → read held_names s one ≡ accepts y → Signs o → R ≡ all_numbers 0 (all_rows held_names s one) ++ drop (length (all_numbers 0 (all_rows held_names s one))) rows
  unfolding signs_numbers signs_into called_rows rows_after rowed roomed_rows room_for outcome_of sixes one_more total
  rows_front y o e p =
      let ws = all_rows held_names s one in
      let f : length ws ≡ length (record_fields y.records) = sym (length_map ws) ∙ ap length (sym (list_fields held_names s one y e)) in
      let n = read_needs held_names s one y e in
      let k = fields_few y.records in
      let room : room_for (length rows / 10) 0 (length ws) 0 y.chars ≡ none = rw (le-ltb (length rows / 10) (length ws) (omega arith)) refl in
      p.rows
      ∙ ap (λ o. rows_after (roomed_rows (length rows) (rowed ws o)) rows) e
      ∙ ap (λ r. rows_after (outcome_of (record { answer = y; rows = ws }) r) rows) room

  pub accepted_whys : (x : Given) (o : Said) → length W ≡ length words → length T ≡ length text → length R ≡ length rows → ((i : ℕ) → Small (get_or R i 0)) → Called s words text W T room (Accepted x) → Signs o → Told s W T R x
  unfolding outcome_why rowed called numbers words_after text_after total fields_in why_places
  accepted_whys x o w t l small p sg = go (read held_names s one) refl (read_sane held_names s one) (there s words text W T room (Accepted x) p)
    where
      go : (o : Outcome Answer) → read held_names s one ≡ o → Sane o → CallIs (called o words text) W T (Accepted x) → Told s W T R x
      go (refuses r) e g q = clash (let z = q.answer in cc)
      go (accepts y) e g q =
          let n = read_needs held_names s one y e in
          let z = q.answer in
          let count : x.records ≡ length y.records = cc in
          let used : x.text ≡ length y.text = cc in
          let text_is : take x.text T ≡ y.text = rw q.text (take_at y.text _ x.text (sym used)) in
          let ws = all_rows held_names s one in
          let front = rows_front y _ e sg in
          let f : length (record_fields y.records) ≡ length ws = ap length (list_fields held_names s one y e) ∙ length_map ws in
          let lines_are : body_why s ≡ why_lines y.text y.records ws = short_whys ∙ ap (λ o. outcome_why (rowed ws o)) e in
          let none : 0 + length y.records ≡ length y.records = omega arith in
          let all = rw none at (all_whys W y.text R _ _ y.records ws 0 q.words front (omega arith)) in
          let fields = rw none at (all_fields W y.text R _ _ y.records ws 0 q.words front (omega arith)) in
          let long : length ws * 10 ≤ length R = omega (arith, ap length front, length-append (all_numbers 0 ws) (drop (length (all_numbers 0 ws)) rows), length_numbers ws) in
          record {
            within = omega arith;
            lie = λ i h.
                let j : suc i + (length y.records - suc i) ≡ length y.records = omega arith in
                record {
                  place = omega arith;
                  inside = rw (text_is, q.words) (places_inside (length y.text) y.records _ (gapless_inside 0 y.records _ g.0) i (omega arith));
                  row = omega (arith, subst (λ (m : ℕ). fields_in W (suc i) ≤ fields_in W m) j (fields_on W (suc i) (length y.records - suc i)));
                };
            few = omega (arith, room.few);
            lines = rw (text_is, count, lines_are) all;
            short = rw lines_are (omega (arith, whys_short y.text y.records ws _ (λ i. rw front at (small i)), room.few));
          }

-- bytes that are the body's lines, written from the front on
pub explains : {s xs b b' : List ℕ} {r : ℕ} → xs ≡ body_why s → length xs ≤ longest → Adds xs b 0 b' r → Explains s b b' r
explains {s} {xs} {b} {b'} {r} e l p = record { wrote = rw (← e) p.wrote; size = omega (arith, p.up, ap length e); short = rw (← e) l }

-- no more fields than records
pub fields_small : (words : List ℕ) (i : ℕ) → fields_in words i ≤ i
unfolding fields_in
fields_small words zero = omega arith
fields_small words (suc i) = cases (is_field words i) (λ t. rw t (omega (arith, fields_small words i))) (λ t. rw t (omega (arith, fields_small words i)))
