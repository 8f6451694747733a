-- The steps of a line: an item and the form of its spec, in sixteen numbers and back.
use Rattle.std.specs.Prelude.{ℕ, ◌+◌, ◌*◌, ◌%◌, ◌≤◌, ◌<◌, ◌≡◌, not, List, [], ◌∷◌, eqb, length, if◌then◌else◌, Ok}
use Rattle.definition.specs.Chars.{part}
use Rattle.definition.specs.Records.{Record}
use Rattle.definition.specs.Words.{word}
use Rattle.formats.specs.declared.Form.{Form}
use Rattle.formats.specs.Parts.{FormIs}
use Rattle.templates.specs.Walk.{Stand, PlaceIs}
use Rattle.trace_lines.specs.declared.Step.{Step}

-- the step at a record's number: the item there, and the form of its spec
pub record StepIs (words : List ℕ) (count : ℕ) (text : List ℕ) (i at : ℕ) (r : Step) : Type 0 where
  pub record_is : r.first ≡ i
  pub begins : r.at ≡ at
  pub place : ((rs : List Record) → Stand words count (length text) i at rs → PlaceIs words count text at rs r.item)
      × (i < r.item.next)
      × (r.item.next ≤ count)
      × (at ≤ r.item.own)
      × (r.item.own ≤ r.item.to)
      × (r.item.to ≤ length text)
  pub form : FormIs (part text r.item.own r.item.to) r.form

-- A STEP IN SIXTEEN NUMBERS, and back
abbrev pub step_numbers : Step → Form → List ℕ
step_numbers r f =
    r.first ∷ r.at
    ∷ r.item.kind ∷ r.item.mode ∷ r.item.own ∷ (if r.item.nested then 1 else 0) ∷ r.item.to ∷ r.item.next
    ∷ f.fill ∷ f.pad
    ∷ f.shape.align ∷ f.shape.sign ∷ (if f.shape.alternate then 1 else 0) ∷ f.shape.width ∷ f.shape.grouping ∷ f.shape.kind ∷ []

abbrev pub held_step : List ℕ → Step
held_step w =
    record {
      first = word w 0;
      at = word w 1;
      item = record { kind = word w 2; mode = word w 3; own = word w 4; nested = not (eqb (word w 5) 0); to = word w 6; next = word w 7 };
      form = Ok (record {
        fill = word w 8;
        pad = word w 9 % 256;
        shape = record {
          align = word w 10 % 256;
          sign = word w 11 % 256;
          alternate = not (eqb (word w 12) 0);
          width = word w 13;
          grouping = word w 14 % 256;
          kind = word w 15 % 256;
        };
      });
    }

-- so many steps are held, each by itself a step at its record's number
pub record Held (held words : List ℕ) (count : ℕ) (text : List ℕ) (steps : ℕ) : Type 0 where
  pub room : 512 ≤ length held
  pub few : steps ≤ 32
  pub each : (k : ℕ) → k < steps → StepIs words count text (held_step (part held (k * 16) (k * 16 + 16))).first (held_step (part held (k * 16) (k * 16 + 16))).at (held_step (part held (k * 16) (k * 16 + 16)))
