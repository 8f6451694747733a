-- The rows of a list, literal by literal. Assumes nothing.
use mathlib.Core.Path.{◌≡◌, refl, sym, ◌∙◌, ap}
use mathlib.Core.Bool.{true, false}
use mathlib.Core.List.{List, [], ◌++◌, append-nil, append_assoc}
use Prim.Native.Nat.{ℕ, ◌+◌, ◌-◌, ◌*◌, ◌≤◌, ◌<◌}
use native.Mathlib.Nat.{add-zero, zero-sub, sub-zero}
use native.Mathlib.Omega.{arith}
use lib.ListN.{length, take, drop, length-append, length-take, length-replicate, replicate}
use lib.Seq.{drop-append_seam}
use Rattle.definition.specs.Numbers.{is_fstring}
use Rattle.definition.specs.Escapes.{Naming, got}
use Rattle.definition.specs.Body.{Piece, text_n, string_n, enough, alone, read_body}
use Rattle.definition.specs.Entry.{place_of, body}
use Rattle.definition.specs.Reading.{in_front}
use Rattle.definition.specs.Rows.{Row, pieces_of, literal_rows, all_rows, all_numbers}
use Rattle.buffers.specs.Over.{over}
use Rattle.buffers.proofs.Over.{over_nil, over_front, over_take, drop_over}
use Rattle.entry.specs.Answers.{described}
use Rattle.entry.specs.Literals.{literal_at, literals}
use Rattle.entry.specs.declared.Descriptor.{Descriptor}
use Rattle.entry.proofs.Literals.{none_left, one_left}
use Rattle.records.specs.declared.Whole.{Whole}
use Rattle.records.specs.declared.Window.{Window}
use Rattle.records.specs.declared.Frame.{Frame}
use Rattle.records.specs.declared.Sink.{Sink}
use Rattle.bodies.specs.declared.fstring.Read.{Read}
use Rattle.bodies.specs.Fstring.{SignedBy, SignedIs}
use Rattle.bodies.specs.Rows.{Through, rows_of, Signed}
use Rattle.bodies.specs.Lists.{frame_of, Rowed}
use Rattle.bodies.proofs.ListLaws.{Content}
use Rattle.bodies.proofs.RowLaws.{over_rows, literal_signed}

-- A BODY of an f-string, and any other
pub fstring_rows : (look : Naming) → (fr : Frame) (s rows rows' : List ℕ) (fields : ℕ) (r : Read) → is_fstring fr.kind ≡ true
    → SignedIs r (text_n look (enough s) fr.kind s 0 0 [] []) fr rows rows' fields → SignedIs r (read_body look fr.kind s) fr rows rows' fields
unfolding read_body
fstring_rows look fr s rows rows' fields r e h = rw (e, read_body) h

pub string_rows : (look : Naming) → (fr : Frame) (s rows : List ℕ) (fields used : ℕ) (text text' : List ℕ) (to : ℕ) → is_fstring fr.kind ≡ false
    → Content s (string_n look (enough s) fr.kind s 0 []) used text text' to → SignedBy (read_body look fr.kind s) fr rows rows fields fields
unfolding read_body alone
string_rows look fr s rows fields used text text' to e c = rw (e, read_body, c.reads) (literal_signed fr 0 c.content rows fields)

-- THE LIST: the rows of the literals before literal i are written
pub record Rowing (look : Naming) (v : Window) (script ns : List ℕ) (n : ℕ) (rows rows' : List ℕ) (i fields : ℕ) (k : Sink) : Type 0 where
  pub done : List Row
  pub all : all_rows look script (literals ns 0 n) ≡ done ++ all_rows look script (literals ns i (n - i))
  pub wrote : Through v rows rows' 0 (all_numbers v.within done)
  pub counted : fields ≡ length done
  pub few : fields ≤ k.count

module _ (look : Naming) (v : Window) (script ns : List ℕ) (n : ℕ) (rows : List ℕ) where
  pub none_rowed : Rowing look v script ns n rows rows 0 0 (record { count = 0; used = 0; held = 0; from = 0; parts = 0 })
  unfolding all_numbers
  none_rowed = record { done = []; all = rw sub-zero; wrote = λ whole e. rw (over_nil whole 0) e; counted = refl; few = omega arith }

  module _ (rows' : List ℕ) (i fields : ℕ) (k : Sink) (L : Rowing look v script ns n rows rows' i fields k) where
    pub all_rowed : n ≤ i → Rowed look v script (literals ns 0 n) rows rows' k fields
    unfolding all_rows
    all_rowed h =
        let e : all_rows look script (literals ns 0 n) ≡ L.done = L.all ∙ rw (none_left ns n i h) (append-nil L.done) in
        record { wrote = rw e L.wrote; counted = rw e L.counted; few = L.few }

    module _ (h : i < n) (l : Descriptor) (q : described l ≡ literal_at ns i) (w : Whole) (ps : List Piece) (j : ℕ) (e : read_body look l.kind (body script (described l)) ≡ got ps j) where
      here : literal_rows look script (literal_at ns i) ≡ rows_of (frame_of l w v) ps
      unfolding literal_rows pieces_of described place_of
      here = rw (← q, e, add-zero)

      pub next_rowed : (rows'' : List ℕ) (m : ℕ) (r : Sink) → Signed (frame_of l w v) ps rows' rows'' fields m → m ≤ r.count → Rowing look v script ns n rows rows'' (i + 1) m r
      unfolding all_rows
      next_rowed rows'' m r a f =
          let these = rows_of (frame_of l w v) ps in
          record {
            done = L.done ++ these;
            all = L.all ∙ rw (one_left ns n i h, here) (sym (append_assoc L.done these (all_rows look script (literals ns (i + 1) (n - (i + 1))))));
            wrote = λ whole e.
                a.wrote (over whole 0 (all_numbers v.within L.done)) (L.wrote whole e)
                ∙ ap (drop (v.skip * 10)) (over_rows v.within whole 0 fields L.done these (omega (arith, L.counted)));
            counted = omega (arith, a.counted, L.counted, length-append L.done these);
            few = f;
          }

-- what is written through a window, from the first row on
pub front_shown : (v : Window) (rows rows' ns : List ℕ) → Through v rows rows' 0 ns → rows' ≡ in_front (take (length rows) (drop (v.skip * 10) ns)) rows
front_shown v rows rows' ns t =
    let s = v.skip * 10 in
    let whole = replicate s 0 ++ rows in
    let e : drop s whole ≡ rows = ap (λ n. drop n whole) (sym (length-replicate {A = ℕ} s 0)) ∙ drop-append_seam (replicate s 0) rows in
    t whole (sym e)
    ∙ rw (drop_over whole 0 s ns, e, zero-sub, sub-zero)
    (sym (over_take rows 0 (length rows) (drop s ns) (omega arith)) ∙ over_front rows (take (length rows) (drop s ns)) (rw length-take (omega arith)))
