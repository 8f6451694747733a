-- A literal that is read alone, as a list of one. Assumes nothing.
use mathlib.Core.Path.{◌≡◌, refl, sym, ◌∙◌, ap}
use mathlib.Core.List.{List, [], ◌∷◌}
use Prim.Native.Nat.{ℕ, ◌<◌}
use native.Mathlib.Omega.{arith}
use lib.ListN.{length}
use Rattle.definition.specs.Escapes.{Naming}
use Rattle.definition.specs.Body.{read_body}
use Rattle.definition.specs.Entry.{body, total}
use Rattle.definition.specs.Entry as d
use Rattle.definition.specs.Reading.{refuses, read_from}
use Rattle.entry.specs.declared.Descriptor.{Descriptor}
use Rattle.entry.specs.Answers.{described, six}
use Rattle.entry.specs.Literals.{literal_at, literals}
use Rattle.entry.proofs.Passed.{Passed}
use Rattle.utf8.specs.declared.Cursor.{Cursor}
use Rattle.marks.specs.declared.Refusal.{Refusal}
use Rattle.marks.specs.Marks.{fault_of}
use Rattle.records.specs.Written.{written, literal, held}
use Rattle.records.specs.declared.Whole.{Whole}
use Rattle.records.specs.declared.Frame.{Frame}
use Rattle.records.specs.declared.Sink.{Sink}
use Rattle.bodies.specs.declared.fstring.Read.TheVariants.{Done, Refused}
use Rattle.bodies.specs.Sinks.{whole_of}
use Rattle.bodies.specs.Fstring.{ReadIs, SignedIs}
use Rattle.bodies.specs.Lists.{whole_for, no_rows, Room, Stands, First, refused_at, frame_of, All, Rowed, read_flat}
use Rattle.wholes.specs.Wholes.{nothing, whole_between}
use Rattle.bodies.proofs.ListLaws.{Listing, before_all, after_all, room, stands, refuses_all, next_literal, G}
use Rattle.bodies.proofs.RowLaws.{read_signed, few_on}
use Rattle.bodies.proofs.RowCalls.{none_rowed, all_rowed, next_rowed}
use Rattle.bodies.proofs.CallLaws.{refused_list}
use Rattle.bodies.proofs.TopLaws.{whole_made}

-- a buffer for no rows holds none
pub no_rows_lem : (rows : List ℕ) → length rows ≡ 0 → rows ≡ []
no_rows_lem [] h = refl
no_rows_lem (n ∷ rows) h = absurd (omega arith)

-- the text of a string is held
pub held_alone : (fr : Frame) (to : ℕ) (words : List ℕ) → written words (held to nothing) ≡ literal fr to 0 (written words nothing)
unfolding literal
held_alone fr to words = refl

-- no literal stands before it
pub none_before : (script : List ℕ) → First script [] 0
unfolding literals total
none_before script = record { good = λ i h. absurd (omega arith); formed = λ i h. absurd (omega arith); short = omega arith }

-- it is the one literal of its numbers
is_first : (l : Descriptor) → described l ≡ literal_at (six l) 0
unfolding described six literal_at
is_first l = refl

module _ (look : Naming) (script : List ℕ) (l : Descriptor) (w : Whole) (words text : List ℕ) (P : Passed script (six l) 1) (b : l.end < 4294967296) where
  abbrev L : Listing look script (six l) 1 (whole_of w) words text words text 0 nothing
  L = before_all look script (six l) 1 w words text P

  some : 0 < 1
  some = omega arith

  pub alone_room : Room script l nothing
  alone_room = room look script (six l) 1 w words text P words text 0 nothing L some l (is_first l) b

  -- it is refused
  module _ (words' text' : List ℕ) (x : Refusal) (H : ReadIs (read_body look l.kind (body script (described l))) (frame_of l w no_rows) 0 words text words' text' nothing (Refused x)) where
    pub alone_stands : Stands script l x.taken x.opened
    alone_stands = stands look script (six l) 1 w words text P words text 0 nothing L some l (is_first l) b no_rows words' text' x H

    pub alone_refused : (r : d.Refusal) → r ≡ refused_at script [] 0 (described l) (fault_of x) → read_flat look script (six l) ≡ refuses r
    unfolding literals
    alone_refused r q =
        refused_list look script (six l) 1 P _ (refuses_all look script (six l) 1 w words text P words text 0 nothing L some l (is_first l) b no_rows words' text' x H ∙ ap refuses (sym q))

  -- its pieces
  module _ (words' text' : List ℕ) (at : Cursor) (r : Sink) (n : ℕ) (H : ReadIs (read_body look l.kind (body script (described l))) (frame_of l w no_rows) 0 words text words' text' nothing (Done at r n)) where
    pub alone_all : All (read_from look script 0 (literals (six l) 0 1)) (whole_of w) words text words' text' r
    alone_all =
        after_all look script (six l) 1 w words text P words' text' 1 r
        (next_literal look script (six l) 1 w words text P words text 0 nothing L some l (is_first l) b no_rows words' text' at r n H) (omega arith)

    pub alone_rowed : SignedIs (Done at r n) (read_body look l.kind (body script (described l))) (frame_of l w no_rows) [] [] 0 → Rowed look no_rows script (literals (six l) 0 1) [] [] r n
    alone_rowed s =
        let g = G look script (six l) 1 w words text P words text 0 nothing L some l (is_first l) b no_rows words' text' at r n H in
        let z = read_signed _ _ _ _ _ _ _ _ g.reads s in
        all_rowed look no_rows script (six l) 1 [] [] 1 n r
        (next_rowed look no_rows script (six l) 1 [] [] 0 0 nothing (none_rowed look no_rows script (six l) 1 []) some l (is_first l) w _ _ g.reads [] n r z
        (few_on _ _ _ _ _ _ _ _ _ _ _ _ _ g.emits z (omega arith)))
        (omega arith)

-- what its top-level records carry
pub alone_whole : (script : List ℕ) (l : Descriptor) → Passed script (six l) 1 → whole_of (whole_between (described l) (described l)) ≡ whole_for (literals (six l) 0 1)
alone_whole script l P = whole_made (six l) 1 (described l) (described l) (omega arith) (is_first l) (is_first l) P.unmixed
