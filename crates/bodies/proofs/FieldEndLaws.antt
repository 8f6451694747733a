-- A field that is read alone: where it ends. Assumes nothing.
use mathlib.Core.Path.{◌≡◌, refl, sym, ◌∙◌, ap, subst}
use mathlib.Core.List.{List, []}
use Prim.Native.Nat.{ℕ}
use native.Mathlib.Omega.{arith}
use Rattle.definition.specs.Chars.{next}
use Rattle.definition.specs.Escapes.{Naming, Fault, got, refused}
use Rattle.definition.specs.Escapes as d
use Rattle.definition.specs.Body.{Piece, Move, goes, stops, calls, ends, text_move, field_n, fresh, enough}
use Rattle.texts.specs.Text.{Leads, here, more, Halts, StopsBy, OpensBefore}
use Rattle.records.specs.declared.Frame.{Frame}
use Rattle.records.specs.declared.Sink.{Sink}
use Rattle.bodies.specs.declared.fstring.Read.{Read}
use Rattle.bodies.specs.declared.fstring.Read.TheVariants as read
use Rattle.bodies.specs.Fstring.{ReadIs, EndsAs}

-- TEXT THAT BEGINS WITH A FIELD stops there at once
module _ (mover : ℕ → List ℕ → Move (List ℕ)) (i : ℕ) (c : mover i [] ≡ calls) where
  stays : {k : ℕ} {v : List ℕ} → Leads mover i [] k v → (k ≡ i) × (v ≡ [])
  stays here = (refl, refl)
  stays (more {j = j} {u = u} L e) =
      let h = stays L in
      let q : mover i [] ≡ goes _ _ = rw (h.0, h.1) at e in
      let z : ◌≡◌ {A = ℕ} 0 1 = cc in
      absurd (omega arith)

  stops_so : {k : ℕ} {v : List ℕ} → Leads mover i [] k v → (m : Move (List ℕ)) → mover k v ≡ m → calls ≡ m
  stops_so L m e = let h = stays L in sym c ∙ (rw (h.0, h.1) at e)

module _ (look : Naming) (kind : ℕ) (s : List ℕ) (depth i used : ℕ) (text text' : List ℕ) (c : text_move look kind s depth i [] ≡ calls) where
  field_at : (k end : ℕ) → OpensBefore look kind s depth i used text text' k end → k ≡ next s i
  field_at k end O = O.after ∙ ap (next s) (stays (text_move look kind s depth) i c O.stops.upto.leads).0

  pub not_over : {P : Type 0} (k end : ℕ) → StopsBy look ends kind s depth i used text text' k end → P
  not_over k end S =
      let e = stops_so (text_move look kind s depth) i c S.upto.leads ends S.move in
      let z : ◌≡◌ {A = ℕ} 0 1 = cc in
      absurd (omega arith)

  pub not_halted : {P : Type 0} (x : Fault) → Halts (text_move look kind s depth) x i used text text' → P
  not_halted x H =
      let e = stops_so (text_move look kind s depth) i c H.stops.upto.leads (stops x) H.stops.move in
      let z : ◌≡◌ {A = ℕ} 0 1 = cc in
      absurd (omega arith)

-- WHERE IT ENDS
module _ (fr : Frame) (depth : ℕ) (words text words' text' : List ℕ) (k : Sink) where
  field_ends : (r : d.Read (List Piece)) (o : Read) → ReadIs r fr depth words text words' text' k o → EndsAs r o
  field_ends (got ps j) (read.Done at b n) h = (ps, ap (got ps) (sym h.0))
  field_ends (refused x) (read.Done at b n) h = absurd h
  field_ends (got ps j) (read.Refused x) h = absurd h
  field_ends (refused y) (read.Refused x) h = (y, refl)

  module _ (look : Naming) (kind : ℕ) (s : List ℕ) (i from used : ℕ) (a a' : List ℕ) (q : i ≡ from) (m : text_move look kind s depth from [] ≡ calls) (at end : ℕ) (O : OpensBefore look kind s depth i used a a' at end) where
    pub alone : (o : Read) → ReadIs (field_n look (enough s) kind s depth at at fresh) fr depth words text words' text' k o
        → EndsAs (field_n look (enough s) kind s depth (next s from) (next s from) fresh) o
    alone o h =
        let e : at ≡ next s from = field_at look kind s depth i used a a' (rw q m) at end O ∙ ap (next s) q in
        subst (λ n. EndsAs (field_n look (enough s) kind s depth n n fresh) o) e (field_ends (field_n look (enough s) kind s depth at at fresh) o h)
