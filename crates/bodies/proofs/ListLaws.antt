-- A list of literals is read one body after the other. Assumes nothing.
use Rattle.std.specs.Prelude.{if◌then◌else◌}
use mathlib.Core.Path.{◌≡◌, refl, sym, ◌∙◌, ap, ap₂}
use mathlib.Core.Bool.{Bool, true, false}
use mathlib.Core.List.{List, [], ◌∷◌, ◌++◌, map, append-nil, append_assoc}
use Prim.Native.Nat.{ℕ, ◌+◌, ◌-◌, ◌*◌, ◌≤◌, ◌<◌}
use native.Mathlib.Nat.{add-zero, sub-zero}
use native.Mathlib.Omega.{arith}
use lib.Dec.{eqb}
use lib.ListN.{length, drop, length-take}
use Rattle.definition.specs.Numbers.{is_fstring, mismatched_delimiter}
use Rattle.definition.specs.Counts.{counted}
use Rattle.definition.specs.Counts as dc
use Rattle.definition.specs.Entry as en
use Rattle.definition.specs.Escapes.{Naming, Fault, got, refused}
use Rattle.definition.specs.Escapes as d
use Rattle.definition.specs.Body.{literal, text_n, string_n, enough, alone, read_body}
use Rattle.definition.specs.Records.{Item, item_of}
use Rattle.definition.specs.Entry.{opening, place_of, body, moved, total}
use Rattle.definition.specs.Reading.{accepts, refuses, and_then, all_chars, opened_at, refusal_in, read_literal, read_from, answered}
use Rattle.definition.specs.Reading as o
use Rattle.definition_laws.proofs.Moves.Counted.{counted_small}
use Rattle.definition_laws.proofs.Moves.Moves.{weight, Names}
use Rattle.definition_laws.proofs.Moves.Fuel.{Reading, string_reading, string_last, body_reading}
use Rattle.counts.specs.declared.Count.{Count}
use Rattle.counts.specs.Counts.{count_of}
use Rattle.buffers.specs.Over.{over}
use Rattle.entry.specs.Answers.{described}
use Rattle.entry.specs.Literals.{literal_at, literals}
use Rattle.entry.specs.declared.Descriptor.{Descriptor}
use Rattle.entry.proofs.Literals.{total_turn, take_literals, total_first, chars_most}
use Rattle.entry.proofs.Checks.{clash}
use Rattle.entry.proofs.Passed.{Passed, Good, length_body, read_turn, read_end}
use Rattle.marks.specs.declared.Refusal.{Refusal}
use Rattle.utf8.specs.declared.Cursor.{Cursor}
use Rattle.records.specs.declared.Whole.{Whole}
use Rattle.records.specs.declared.Window.{Window}
use Rattle.records.specs.declared.Frame.{Frame}
use Rattle.records.specs.declared.Sink.{Sink}
use Rattle.bodies.specs.declared.fstring.Read.{Read}
use Rattle.bodies.specs.declared.fstring.Read.TheVariants.{Done, Refused}
use Rattle.texts.specs.declared.Text.TheVariants as string
use Rattle.bodies.specs.Emit as e
use Rattle.bodies.specs.Emit.{emits}
use Rattle.bodies.specs.Sinks.{load_of, out_of, whole_of, Emits}
use Rattle.marks.specs.Marks.{refusal, fault_of}
use Rattle.texts.specs.Text.{StringBy}
use Rattle.bodies.specs.Fstring.{ReadIs}
use Rattle.bodies.specs.Lists.{Room, Stands, First, refused_at, frame_of, empty, All}
use Rattle.wholes.specs.Wholes.{refused_in}
use Rattle.wholes.proofs.RefusalLaws.{refused_small}
use Rattle.bodies.proofs.Emitted.{emits_append}
use Rattle.bodies.proofs.SinkLaws.{grown}
use Rattle.bodies.proofs.FstringLaws.{Gave, gave, refuses as written-refuses}

-- AN F-STRING'S BODY
pub fstring_body : (look : Naming) → (fr : Frame) (s words text words' text' : List ℕ) (k : Sink) (r : Read) → is_fstring fr.kind ≡ true
    → ReadIs (text_n look (enough s) fr.kind s 0 0 [] []) fr 0 words text words' text' k r → ReadIs (read_body look fr.kind s) fr 0 words text words' text' k r
unfolding read_body
fstring_body look fr s words text words' text' k r e h = rw (e, read_body) h

-- ANY OTHER BODY: its text is read and written up to `to`
pub record Content (s : List ℕ) (read : d.Read (List ℕ)) (used : ℕ) (text text' : List ℕ) (to : ℕ) : Type 0 where
  pub content : List ℕ
  pub reads : read ≡ got content (length s)
  pub up : to ≡ used + length content
  pub wrote : text' ≡ over text used content
  pub short : length content ≤ 2 * length s

pub content_of : (look : Naming) → (kind : ℕ) (s : List ℕ) (used : ℕ) (text text' : List ℕ) (to : ℕ) → StringBy look kind s (string_n look (enough s) kind s 0 []) used text text' (string.Done to)
    → Content s (string_n look (enough s) kind s 0 []) used text text' to
content_of look kind s used text text' to h =
    go (string_n look (enough s) kind s 0 []) h (string_last look (enough s) kind s 0 []) (string_reading look (enough s) kind s 0 [] (omega arith) (omega arith))
  where
    go : (r : d.Read (List ℕ)) → StringBy look kind s r used text text' (string.Done to) → ((t : List ℕ) (j : ℕ) → r ≡ got t j → length s ≤ j) → Reading (λ t. length t + length t) 0 s 0 r → Content s r used text text' to
    go (got t j) h l p =
        let e : j ≡ length s = omega (arith, l t j refl, p.0.1) in
        record { content = t; reads = ap (got t) e; up = (let y = h.0 in cc); wrote = h.1; short = omega (arith, p.0.1, p.1) }
    go (refused x) h l p = clash (let y = h.0 in cc)

pub not_read : (look : Naming) → (kind : ℕ) (s : List ℕ) (r : d.Read (List ℕ)) (used : ℕ) (text text' : List ℕ) (x : Refusal) → StringBy look kind s r used text text' (string.Refused x) → r ≡ refused (fault_of x)
not_read look kind s (got t j) used text text' x h = clash (let y = h.0 in cc)
not_read look kind s (refused y) used text text' x h = let e : x ≡ refusal y = (let z = h.0 in cc) in rw e refl

pub string_refuses : (look : Naming) → (fr : Frame) (s words text words' text' : List ℕ) (k : Sink) (x : Refusal) → is_fstring fr.kind ≡ false
    → string_n look (enough s) fr.kind s 0 [] ≡ refused (fault_of x) → ReadIs (read_body look fr.kind s) fr 0 words text words' text' k (Refused x)
unfolding read_body alone
string_refuses look fr s words text words' text' k x e h = rw (e, read_body, h) refl

pub string_body : (look : Naming) → (fr : Frame) (s words text words' text' : List ℕ) (k r : Sink) (to n : ℕ) → is_fstring fr.kind ≡ false
    → (c : Content s (string_n look (enough s) fr.kind s 0 []) k.used text text' to)
    → Emits fr 0 (literal 0 c.content ∷ []) words text words' (over text k.used c.content) k r
    → ReadIs (read_body look fr.kind s) fr 0 words text words' text' k (Done (record { at = length s }) r n)
unfolding read_body alone
string_body look fr s words text words' text' k r to n e c h = rw (e, read_body, c.reads) (refl, rw c.wrote h)

-- a body's refusal stands in the body, and so does its bracket
pub taken_in : (look : Naming) → (kind : ℕ) (s : List ℕ) (x : Fault) → read_body look kind s ≡ refused x → (x.taken ≤ length s) × (x.opened ≤ length s)
taken_in look kind s x h =
    let p = rw h at (body_reading look kind s) in
    (p.0.1, named (eqb x.number mismatched_delimiter) (p.0.0 tt).1 p.0.1)
  where
    named : (t : Bool) → Names s x t → x.taken ≤ length s → x.opened ≤ length s
    named true w l = omega (arith, w.before)
    named false e l = omega arith

-- characters, line and column in a literal's body are no more than its bytes
pub count_fits : (script : List ℕ) (l : Descriptor) (taken : ℕ) (k : Count) → count_of k ≡ counted (body script (described l)) taken → (k.chars ≤ l.size) × (k.line ≤ l.size) × (k.column ≤ l.size)
unfolding body described
count_fits script l taken k e =
    let s = body script (described l) in
    let n = length-take (l.offset + l.size - l.offset) (drop l.offset script) in
    let h = rw (← e) at (counted_small s taken) in
    (omega arith, omega arith, omega arith)

-- a fault's refusal by what was counted up to it, and the characters before
abbrev refused_by : ℕ → en.Literal → d.Fault → dc.Count → ℕ → en.Refusal
refused_by i l x c b = record { number = x.number; literal = i; place = place_of l x.taken; a = x.a; b = x.b; opened = opened_at l x; line = c.line; column = c.column; chars = b + c.chars }

-- a refusal that stands in a literal, after good ones, is told as it is
pub refused_told : (script ns : List ℕ) (i : ℕ) (l : Descriptor) (x : Refusal) (k : Count) (before : ℕ) → Stands script l x.taken x.opened → First script ns i
    → count_of k ≡ counted (body script (described l)) x.taken → before ≡ all_chars script (literals ns 0 i)
    → refused_in (described l) i (fault_of x) (count_of k) before ≡ refused_at script ns i (described l) (fault_of x)
unfolding refusal_in moved opened_at
refused_told script ns i l x k before S F e q =
    let f = count_fits script l x.taken k e in
    refused_small (described l) i (fault_of x) (count_of k) before (
    record {
      taken = omega (arith, S.within, S.small);
      place = S.place;
      bracket = named (eqb x.number mismatched_delimiter);
      line = omega (arith, f.1, S.small);
      column = omega (arith, f.2, S.small);
      chars = omega (arith, f.0, S.small, q, chars_most script (literals ns 0 i), F.short);
    }
    )
    ∙ ap₂ (refused_by i (described l) (fault_of x)) e q
  where
    named : (t : Bool) → (if t then place_of (described l) x.opened else 0) < 4294967296
    named true = S.bracket
    named false = omega arith

-- THE LIST: what is read and written before literal i
pub record Listing (look : Naming) (script ns : List ℕ) (n : ℕ) (w : e.Whole) (words text words' text' : List ℕ) (i : ℕ) (k : Sink) : Type 0 where
  pub items : List Item
  pub within : i ≤ n
  pub same : read_from look script 0 (literals ns 0 n) ≡ and_then (accepts items) (read_from look script i (literals ns i (n - i)))
  pub out : out_of k words' text' ≡ emits w items (empty words text)
  pub short : total (literals ns i (n - i)) ≤ 1048576
  pub load : load_of k + 8 * total (literals ns i (n - i)) + 2 * (n - i) ≤ 8390656
  pub ordered : k.from ≤ k.used

and_none : (x : o.Outcome (List Item)) → and_then (accepts []) x ≡ x
unfolding and_then
and_none (accepts xs) = refl
and_none (refuses r) = refl

and_both : (xs ys : List Item) (x : o.Outcome (List Item)) → and_then (accepts xs) (and_then (accepts ys) x) ≡ and_then (accepts (xs ++ ys)) x
unfolding and_then
and_both xs ys (accepts zs) = ap accepts (sym (append_assoc xs ys zs))
and_both xs ys (refuses r) = refl

module _ (look : Naming) (script ns : List ℕ) (n : ℕ) (w : Whole) (words text : List ℕ) (P : Passed script ns n) where
  pub before_all : Listing look script ns n (whole_of w) words text words text 0 (record { count = 0; used = 0; held = 0; from = 0; parts = 0 })
  unfolding emits
  before_all =
      record {
        items = [];
        within = omega arith;
        same = rw sub-zero (sym (and_none (read_from look script 0 (literals ns 0 n))));
        out = refl;
        short = rw sub-zero P.short;
        load = rw sub-zero (omega (arith, P.short, P.few));
        ordered = omega arith;
      }

  module _ (words' text' : List ℕ) (i : ℕ) (k : Sink) (L : Listing look script ns n (whole_of w) words text words' text' i k) where
    pub after_all : n ≤ i → All (read_from look script 0 (literals ns 0 n)) (whole_of w) words text words' text' k
    unfolding and_then
    after_all h =
        record {
          items = L.items;
          reads = L.same ∙ rw (read_end look script ns n i h) (ap accepts (append-nil L.items));
          wrote = record { out = L.out; fits = record { small = omega (arith, L.load); ordered = L.ordered } };
        }

    module _ (h : i < n) (l : Descriptor) (q : described l ≡ literal_at ns i) (b : l.end < 4294967296) where
      good : Good script (described l)
      good = rw q (P.good i h)

      size : length (body script (described l)) ≡ l.size
      unfolding described
      size = length_body script (described l) good

      rest : total (literals ns i (n - i)) ≡ l.size + total (literals ns (i + 1) (n - (i + 1)))
      unfolding described
      rest = total_turn ns n i h ∙ ap (λ x. x.size + total (literals ns (i + 1) (n - (i + 1)))) (sym q)

      pub first : First script ns i
      first =
          record {
            good = λ j g. P.good j (omega arith);
            formed = λ j g. P.formed j (omega arith);
            short = omega (arith, P.short, total_first ns 0 i n (omega arith));
          }

      pub room : Room script l k
      unfolding described
      room =
          record {
            inside = good.inside;
            small = omega (arith, L.short, rest);
            places = omega (arith, good.fits);
            load = omega (arith, L.load, rest);
            ordered = L.ordered;
          }

      -- the refusal of this literal
      module _ (v : Window) (words'' text'' : List ℕ) (x : Refusal) (H : ReadIs (read_body look l.kind (body script (described l))) (frame_of l w v) 0 words' text' words'' text'' k (Refused x)) where
        R : read_body look l.kind (body script (described l)) ≡ refused (fault_of x)
        R = written-refuses (λ ps. ps) (frame_of l w v) 0 words' text' words'' text'' k (read_body look l.kind (body script (described l))) x H

        pub stands : Stands script l x.taken x.opened
        unfolding described place_of
        stands =
            let t = taken_in look l.kind (body script (described l)) (fault_of x) R in
            record { inside = good.inside; small = omega (arith, L.short, rest); within = omega (arith, size); place = omega (arith, size, good.fits); bracket = omega (arith, size, good.fits) }

        refuses_here : read_literal look script i (described l) ≡ refuses (refusal_in script i (described l) (fault_of x))
        unfolding read_literal described
        refuses_here = rw (R, read_literal)

        refuses_first : read_from look script 0 (literals ns 0 n) ≡ refuses (refusal_in script i (described l) (fault_of x))
        unfolding and_then
        refuses_first = L.same ∙ rw (read_turn look script ns n i h, ← q, refuses_here)

        pub refuses_all : answered script (literals ns 0 n) (read_from look script 0 (literals ns 0 n)) ≡ refuses (refused_at script ns i (described l) (fault_of x))
        unfolding answered refusal_in
        refuses_all = rw (refuses_first, take_literals ns 0 i n (omega arith)) refl

      -- its pieces
      module _ (v : Window) (words'' text'' : List ℕ) (at : Cursor) (r : Sink) (n' : ℕ) (H : ReadIs (read_body look l.kind (body script (described l))) (frame_of l w v) 0 words' text' words'' text'' k (Done at r n')) where
        pub G : Gave (λ ps. ps) (read_body look l.kind (body script (described l))) (frame_of l w v) 0 words' text' words'' text'' k at.at r
        G = gave (λ ps. ps) (frame_of l w v) 0 words' text' words'' text'' k (read_body look l.kind (body script (described l))) at r n' H

        abbrev these : List Item
        these = map (item_of l.kind l.start l.end (l.start + opening (described l))) G.pieces

        accepts_here : read_literal look script i (described l) ≡ accepts these
        unfolding read_literal described place_of
        accepts_here = rw (G.reads, read_literal, add-zero)

        light : weight G.pieces ≤ 1 + 4 * l.size
        light = let p = rw G.reads at (body_reading look l.kind (body script (described l))) in omega (arith, p.0.1, p.1, size)

        pub next_literal : Listing look script ns n (whole_of w) words text words'' text'' (i + 1) r
        next_literal =
            let g = grown (frame_of l w v) 0 G.pieces words' text' words'' text'' k r G.emits in
            record {
              items = L.items ++ these;
              within = omega arith;
              same = L.same ∙ rw (read_turn look script ns n i h, ← q, accepts_here) (and_both L.items these (read_from look script (i + 1) (literals ns (i + 1) (n - (i + 1)))));
              out = G.emits.out ∙ ap (emits (whole_of w) these) L.out ∙ sym (emits_append (whole_of w) L.items these (empty words text));
              short = omega (arith, L.short, rest);
              load = omega (arith, g.load, light, L.load, rest);
              ordered = g.ordered L.ordered;
            }
