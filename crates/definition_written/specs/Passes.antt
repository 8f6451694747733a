-- THE BODY BY ONE PASS over the records, with the specs that are open: what is written at each, and whether that reads back. Nothing of what is written uses it; that it
-- is the spelling, and exactly what reads back but for the length, is shown. The code goes by it.
use Rattle.std.specs.Prelude.{ℕ, ◌-◌, Bool, true, false, ◌&&◌, List, [], ◌∷◌, ◌++◌, eqb, length, if◌then◌else◌}
use Rattle.definition.specs.Records.{Record}
use Rattle.definition_written.specs.Written.{Where, top, early, past_field, own_text, spelled_text, spelled_conversion}
use Rattle.definition_written.specs.ReadsBack.{text_reads, field_reads}

-- AN OPEN SPEC: how many of its parts are to come, and where its text stands
pub record Open : Type 0 where
  pub left : ℕ
  pub stands : Where

abbrev pub opened : ℕ → Where → Open
opened n w = record { left = n; stands = w }

-- where text stands, innermost spec first
unfoldable pub standing : List Open → Where
standing [] = top
standing (o ∷ os) = o.stands

-- specs that have all their parts are over: a `}` for each
unfoldable pub drained : List Open → List Open
drained [] = []
drained (o ∷ os) = elim (eqb o.left 0) [ true ↦ drained os | false ↦ o ∷ os ]

unfoldable pub closers : List Open → List ℕ
closers [] = []
closers (o ∷ os) = elim (eqb o.left 0) [ true ↦ 125 ∷ closers os | false ↦ [] ]

-- one part fewer, after a text and after a field
unfoldable pub took_text : List Open → List Open
took_text [] = []
took_text (o ∷ os) = opened (o.left - 1) o.stands ∷ os

unfoldable pub took_field : List Open → List Open
took_field [] = []
took_field (o ∷ os) = opened (o.left - 1) (past_field o.stands) ∷ os

-- in the end, a `}` for each
unfoldable pub shut : List Open → List ℕ
shut [] = []
shut (o ∷ os) = 125 ∷ shut os

-- WHAT THE PASS WRITES, from some records on
unfoldable pub passed : (text : List ℕ) (os : List Open) → List Record → List ℕ
passed text os [] = shut os
passed text os (r ∷ rs) =
    elim (eqb r.kind 3) [
      | true ↦ passed text (opened r.parts early ∷ os) rs
      | false ↦ closers os
          ++ elim (eqb r.kind 1) [
            | true ↦ spelled_text (standing (drained os)) (own_text text r) ++ passed text (took_text (drained os)) rs
            | false ↦ 123 ∷ (own_text text r ++ (spelled_conversion r.mode ++ (if eqb r.parts 0 then 125 else 58) ∷ passed text (took_field (drained os)) rs))
          ]
    ]

-- WHAT THE PASS FINDS
unfoldable pub found : (text : List ℕ) (os : List Open) → List Record → Bool
found text os [] = true
found text os (r ∷ rs) =
    elim (eqb r.kind 3) [
      | true ↦ found text (opened r.parts early ∷ os) rs
      | false ↦ elim (eqb r.kind 1) [
        | true ↦ text_reads (standing (drained os)) (own_text text r) && found text (took_text (drained os)) rs
        | false ↦ field_reads (length (drained os)) (standing (drained os)) (own_text text r) && found text (took_field (drained os)) rs
      ]
    ]
