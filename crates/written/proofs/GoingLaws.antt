-- What the record rules leave of records to come, and the loop that writes them. Assumes nothing.
use mathlib.Core.Path.{◌≡◌, refl, sym, ◌∙◌, ap}
use mathlib.Core.Bool.{Bool, true, false, ◌&&◌, ◌||◌, not, beq}
use mathlib.Core.List.{List, [], ◌∷◌, ◌++◌, append_assoc}
use Prim.Native.Nat.{ℕ, zero, suc, ◌+◌, ◌^◌, ◌≤◌, ◌<◌}
use native.Mathlib.Omega.{arith}
use lib.Dec.{leb, eqb}
use lib.ListN.{length, replicate, length-append}
use borrow.Author.Tests.{eq-eqb, eqb-true, ne_eqb, lt-leb, not-true}
use Rattle.definition.specs.Chars.{◌is◌}
use Rattle.definition.specs.Records.{Record}
use Rattle.definition.specs.Words.{owing, has_spec, fits, is_conversion, all_fit, ordered, gapless, no_bytes}
use Rattle.definition_written.specs.Passes.{shut, passed, found}
use Rattle.definition.proofs.Moves.CharLaws.{no, either}
use Rattle.definition_laws.proofs.Moves.Cases.{and_both}
use Rattle.definition_laws.proofs.Moves.Adds.{one_of_lem}
use Rattle.buffers.proofs.Over.{length_over}
use Rattle.formed.specs.declared.Head.{Head}
use Rattle.formed.specs.Heads.{head_at}
use Rattle.formed.specs.Good.{records_at}
use Rattle.formed.proofs.Goods.{rec, records_turn, records_none}
use Rattle.opens.specs.declared.Opens.{Opens}
use Rattle.opens.specs.Opens.{list_of, os_of}
use Rattle.std.specs.Prelude.{Some, None}
use Rattle.written.specs.Turns.{piece_of, Holds, Turns, TurnsTo}
use Rattle.written.specs.Puts.{Puts}
use Rattle.written.specs.Going.{Rules, Spells}
use Rattle.written.proofs.PutLaws.{puts_none, puts_then, puts_same}

-- THE FIRST RECORD, and those after it
module _ (size : ℕ) (due : Bool) (owed at : ℕ) (r : Record) (rs : List Record) (R : Rules size due owed at (r ∷ rs)) where
  abbrev good : Bool
  good = fits r.kind r.size r.mode r.parts r.place

  abbrev follows : Bool
  follows = beq (eqb r.kind 3) due && (not (eqb r.kind 4) || eqb owed 0)

  fit_parts : (good ≡ true) × (all_fit rs ≡ true)
  unfolding all_fit
  fit_parts = and_both good (all_fit rs) R.fit

  order_parts : (follows ≡ true) × (ordered (has_spec r.kind r.parts) (owing owed r.parts) rs ≡ true)
  unfolding ordered
  order_parts = and_both follows (ordered (has_spec r.kind r.parts) (owing owed r.parts) rs) R.order

  gaps_parts : (eqb r.offset at ≡ true) × (gapless (at + r.size) rs size ≡ true)
  unfolding gapless
  gaps_parts = and_both (eqb r.offset at) (gapless (at + r.size) rs size) R.gaps

  bytes_parts : (not (eqb r.kind 4) ≡ true) × (no_bytes rs ≡ true)
  unfolding no_bytes
  bytes_parts = and_both (not (eqb r.kind 4)) (no_bytes rs) R.no_bytes_lem

  pub rules_rest : Rules size (has_spec r.kind r.parts) (owing owed r.parts) (at + r.size) rs
  rules_rest = record { fit = fit_parts.1; order = order_parts.1; gaps = gaps_parts.1; no_bytes_lem = bytes_parts.1 }

  pub is_due_lem : r.kind ≡ 3 → due ≡ true
  is_due_lem k = same due (rw (eq-eqb r.kind 3 k) at (and_both (beq (eqb r.kind 3) due) (not (eqb r.kind 4) || eqb owed 0) order_parts.0).0)
    where
      same : (x : Bool) → beq true x ≡ true → x ≡ true
      same true z = refl
      same false z = z

  pub is_at : r.offset ≡ at
  is_at = eqb-true r.offset at gaps_parts.0

  -- a field's conversion is a byte
  pub small : (r.kind ≡ 1 → ⊥) → (r.kind ≡ 3 → ⊥) → r.mode ≤ 255
  unfolding fits
  small a b = go (eqb r.kind 2) refl
    where
      byte : is_conversion r.mode ≡ true → r.mode ≤ 255
      byte t =
          either (eqb r.mode 0) (r.mode is "sar") t (λ e. let z = eqb-true r.mode 0 e in omega arith)
          (λ e. one_of_lem (λ c. c ≤ 255) "sar" r.mode (omega arith, (omega arith, (omega arith, tt))) e)

      go : (t : Bool) → eqb r.kind 2 ≡ t → r.mode ≤ 255
      go true t = byte (and_both (is_conversion r.mode) (leb r.parts 1) (rw (ne_eqb r.kind 1 a, t) at fit_parts.0)).0
      go false t = no (rw (ne_eqb r.kind 1 a, t, ne_eqb r.kind 3 b, not-true (eqb r.kind 4) bytes_parts.0) at fit_parts.0)

-- texts lie within
rules_within : (size : ℕ) (due : Bool) (owed at : ℕ) (rs : List Record) → Rules size due owed at rs → at ≤ size
unfolding gapless
rules_within size due owed at [] R = let e = eqb-true at size R.gaps in omega arith
rules_within size due owed at (r ∷ rs) R = let e = rules_within size (has_spec r.kind r.parts) (owing owed r.parts) (at + r.size) rs (rules_rest size due owed at r rs R) in omega arith

-- SO FAR IN THE LOOP: what was written and what is to come is what is written from the start, and what is found from here is what is found
pub record Spelling (text words : List ℕ) (count : ℕ) (body body' : List ℕ) (o : Opens) (used i : ℕ) : Type 0 where
  pub due : Bool
  pub owed : ℕ
  pub at : ℕ
  pub rules : Rules (length text) due owed at (records_at words count i owed)
  pub few : due ≡ true → o.depth ≤ 1
  pub most : o.depth ≤ 2
  pub same : found text [] (records_at words count 0 0) ≡ found text (os_of o) (records_at words count i owed)
  pub done : List ℕ
  pub put : Puts body 0 done body' used
  pub rest : done ++ passed text (os_of o) (records_at words count i owed) ≡ passed text [] (records_at words count 0 0)
  pub short : used ≤ 1048576

module _ (text words : List ℕ) (count : ℕ) (body : List ℕ) where
  abbrev all : List Record
  all = records_at words count 0 0

  pub spelling_starts : (o : Opens) → o.depth ≡ 0 → Rules (length text) false 0 0 all → Spelling text words count body body o 0 0
  unfolding list_of
  spelling_starts o z R =
      record {
        due = false;
        owed = 0;
        at = 0;
        rules = R;
        few = λ e. no e;
        most = omega arith;
        same = rw z refl;
        done = [];
        put = puts_none body 0;
        rest = rw z refl;
        short = omega arith;
      }

  module _ (body' : List ℕ) (o : Opens) (used i : ℕ) (S : Spelling text words count body body' o used i) where
    pub spelling_kept : length body' ≡ length body
    spelling_kept = ap length S.put.wrote ∙ length_over body 0 S.done

    -- all was written
    pub spelling_ends : count ≤ i → (body'' : List ℕ) (n : ℕ) → Puts body' used (replicate o.depth 125) body'' n → (n ≤ 1048576 → Spells text all body body'' (Some n)) × (1048576 < n → Spells text all body body'' None)
    unfolding passed found shut list_of
    spelling_ends h body'' n p =
        let z = records_none words count i S.owed h in
        let f : found text [] all ≡ true = S.same ∙ ap (found text (os_of o)) z in
        let w : S.done ++ replicate o.depth 125 ≡ passed text [] all = ap (λ t. S.done ++ t) (shut-run o.left o.late o.outer o.behind o.depth S.most) ∙ ap (λ rs. S.done ++ passed text (os_of o) rs) (sym z) ∙ S.rest in
        let q = puts_same w (puts_then S.put p) in
        let k = ap length q.wrote ∙ length_over body 0 (passed text [] all) in
        (λ l. record { is = (l, f, q); kept = k }, λ l. record { is = rw (f, lt-leb (length (passed text [] all)) 1048576 (let u = q.up in omega arith)) refl; kept = k })
      where
        shut-run : (l : ℕ) (b : Bool) (m : ℕ) (c : Bool) (d : ℕ) → d ≤ 2 → replicate d 125 ≡ shut (list_of d l b m c)
        shut-run l b m c zero h = refl
        shut-run l b m c (suc zero) h = refl
        shut-run l b m c (suc (suc zero)) h = refl
        shut-run l b m c (suc (suc (suc d))) h = absurd (omega arith)

    module _ (l : i < count) (h : Head) (e : h ≡ head_at words i) where
      abbrev r : Record
      r = rec words i S.owed

      abbrev later : List Record
      later = records_at words count (i + 1) (owing S.owed (head_at words i).parts)

      turn : records_at words count i S.owed ≡ r ∷ later
      turn = records_turn words count i S.owed l

      first : Rules (length text) S.due S.owed S.at (r ∷ later)
      first = rw (← turn) S.rules

      pub holds : Holds r h
      unfolding head_at rec
      holds = record { kind = ap (λ z. z.kind) e; offset = ap (λ z. z.offset) e; size = ap (λ z. z.size) e; mode = ap (λ z. z.mode) e; parts = ap (λ z. z.parts) e }

      within : r.offset + r.size ≤ length text
      within =
          let a = rules_within (length text) (has_spec r.kind r.parts) (owing S.owed r.parts) (S.at + r.size) later (rules_rest (length text) S.due S.owed S.at r later first) in
          let b = is_at (length text) S.due S.owed S.at r later first in
          omega arith

      pub lies : h.offset + h.size ≤ length text
      lies = let a = holds.offset in let b = holds.size in let c = within in omega arith

      pub turn_needs : (o.depth ≤ 2) × (h.kind ≡ 3 → o.depth ≤ 1) × (h.offset + h.size ≤ length text)
      turn_needs = (S.most, (λ k. S.few (is_due_lem (length text) S.due S.owed S.at r later first (sym holds.kind ∙ k))), lies)

      pub put_needs : (o.depth ≤ 2) × (h.offset + h.size ≤ length text) × ((h.kind ≡ 1 → ⊥) → (h.kind ≡ 3 → ⊥) → h.mode ≤ 255) × (used ≤ 2 ^ 20)
      put_needs = (
        S.most,
        lies,
        (λ a b.
            let z = small (length text) S.due S.owed S.at r later first (λ k. a (holds.kind ∙ k)) (λ k. b (holds.kind ∙ k)) in
            let y = holds.mode in
            omega arith),
        S.short,
      )

      -- it reads back otherwise
      pub spelling_off : TurnsTo text o r None → Spells text all body body' None
      spelling_off T =
          let f : found text [] all ≡ false = S.same ∙ ap (found text (os_of o)) turn ∙ T later in
          record { is = rw f refl; kept = spelling_kept }

      module _ (p : Opens) (T : Turns text o r p) where
        module _ (body'' : List ℕ) (n : ℕ) (q : Puts body' used (piece_of text r o.depth p.depth p.late) body'' n) where
          abbrev piece : List ℕ
          piece = piece_of text r o.depth p.depth p.late

          wrote : Puts body 0 (S.done ++ piece) body'' n
          wrote = puts_then S.put q

          on : (S.done ++ piece) ++ passed text (os_of p) later ≡ passed text [] all
          on = append_assoc S.done piece (passed text (os_of p) later) ∙ ap (λ t. S.done ++ t) (sym (T.wrote later) ∙ ap (passed text (os_of o)) (sym turn)) ∙ S.rest

          -- it is too long
          pub spelling_long : 1048576 < n → Spells text all body body'' None
          spelling_long k =
              let u = wrote.up in
              let z = lt-leb (length (passed text [] all)) 1048576 (omega (arith, ap length on, length-append (S.done ++ piece) (passed text (os_of p) later))) in
              record { is = rw z (none (found text [] all)); kept = ap length wrote.wrote ∙ length_over body 0 (S.done ++ piece) }
            where
              none : (x : Bool) → (x && false) ≡ false
              none true = refl
              none false = refl

          pub spelling_on : n ≤ 1048576 → Spelling text words count body body'' p n (i + 1)
          unfolding head_at rec
          spelling_on k =
              record {
                due = has_spec r.kind r.parts;
                owed = owing S.owed r.parts;
                at = S.at + r.size;
                rules = rules_rest (length text) S.due S.owed S.at r later first;
                few = λ z. T.due (eqb-true r.kind 2 (and_both (eqb r.kind 2) (eqb r.parts 1) z).0);
                most = T.deep;
                same = S.same ∙ ap (found text (os_of o)) turn ∙ T.on later;
                done = S.done ++ piece;
                put = wrote;
                rest = on;
                short = k;
              }
