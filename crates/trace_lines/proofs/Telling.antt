-- What is told of a trace, whichever way it ends. Assumes nothing.
use mathlib.Core.Path.{◌≡◌, refl, sym, ◌∙◌, ap, ap₂}
use mathlib.Core.Bool.{Bool, true, false}
use mathlib.Core.List.{List, [], ◌∷◌}
use mathlib.Core.Option.{Option, none, some}
use Prim.Native.Nat.{ℕ, suc, ◌+◌, ◌≤◌, ◌<◌, min}
use native.Mathlib.Nat.{zero-add}
use native.Mathlib.Omega.{arith}
use lib.Dec.{leb}
use lib.ListN.{length, take, replicate, length-append}
use lib.Seq.{take_all}
use borrow.Author.Tests.{lt-ltb, le-ltb, leb-true, leb-false}
use Rattle.definition_replay.specs.Integers.{Integer, written}
use Rattle.definition_replay.specs.Trace.{rows_of}
use Rattle.definition_replay.specs.Replay.{Made, made, stopped, Part, stands, column, items_from, parts_from, field_count, row_line, row_made, lines_from, concat, lines_of}
use Rattle.buffers.proofs.Over.{over_front}
use Rattle.templates.specs.Walk.{records_in, laid_from, parts_laid, Sized, fields_made, says_count}
use Rattle.templates.proofs.Walking.{laid_stands}
use Rattle.std.specs.Prelude.{Result, Ok, Err}
use Rattle.formats.specs.Parts.{number_of}
use Rattle.templates.specs.declared.Refused.{Refused}
use Rattle.trace_lines.specs.declared.Written.{Written}
use Rattle.trace_lines.specs.declared.Stopped.{Stopped}
use Rattle.trace_lines.specs.Lines.{AllAre, LinesAre, lines_in, ToldIs}
use Rattle.trace_lines.proofs.Lining.{both_made}
use Rattle.trace_lines.proofs.AllLines.{row_fine}

-- A REFUSAL
abbrev pub Refuses : (number told : ℕ) (out out' : List ℕ) (r : Stopped) → Type 0
Refuses number told out out' r = (r ≡ record { number = number; told = min told 0xFFFFFFFF }) × (out' ≡ replicate (length out) 0)

told_stopped : (room n k : ℕ) (o : Made (List (List ℕ))) → o ≡ stopped n k → lines_in room o ≡ stopped n (min k 0xFFFFFFFF)
unfolding lines_in
told_stopped room n k o e = rw e

told_short : (room : ℕ) (o : Made (List (List ℕ))) (ls : List (List ℕ)) → o ≡ made ls → min room 0xFFFFFFFF < length (concat ls) → lines_in room o ≡ stopped 73 (min (length (concat ls)) 0xFFFFFFFF)
unfolding lines_in
told_short room o ls e h = rw (e, lt-ltb (min room 0xFFFFFFFF) (length (concat ls)) h)

told_made : (room : ℕ) (o : Made (List (List ℕ))) (ls : List (List ℕ)) → o ≡ made ls → length (concat ls) ≤ min room 0xFFFFFFFF → lines_in room o ≡ made ls
unfolding lines_in
told_made room o ls e h = rw (e, le-ltb (min room 0xFFFFFFFF) (length (concat ls)) h)

refused_is : (o : Made (List (List ℕ))) (out : List ℕ) (n k : ℕ) → lines_in (length out) o ≡ stopped n (min k 0xFFFFFFFF)
    → (out₁ : List ℕ) → length out₁ ≡ length out → {out' : List ℕ} {r : Stopped} → Refuses n k out₁ out' r → ToldIs o out out' (Err r)
refused_is o out n k e out₁ d (q, c) = rw q (record { are = e; output = c ∙ ap (λ m. replicate m 0) d })

-- THE TEMPLATE, from what the code says of it
record Parted (o : Made (List Part)) (fields : ℕ) : Type 0 where
  parts : List Part
  is_made : o ≡ made parts
  counts : field_count parts ≡ fields

module _ (o : Made (List Part)) where
  template_refused : (n k : ℕ) → stopped n k ≡ fields_made 0 o → o ≡ stopped n k
  unfolding fields_made
  template_refused n k e = go o refl
    where
      go : (o' : Made (List Part)) → o ≡ o' → o ≡ stopped n k
      go (made ps) f =
          let y : ◌≡◌ {A = Made ℕ} (stopped n k) (made (0 + field_count ps)) = rw f at e in
          let x : ◌≡◌ {A = ℕ} 0 1 = cc in
          absurd (omega arith)
      go (stopped m j) f = let y : ◌≡◌ {A = Made ℕ} (stopped n k) (stopped m j) = rw f at e in f ∙ ap₂ stopped (cc) (cc)

  template_made : (told : ℕ) → made told ≡ fields_made 0 o → Parted o told
  unfolding fields_made
  template_made told e = go o refl
    where
      go : (o' : Made (List Part)) → o ≡ o' → Parted o told
      go (made ps) f =
          let y : ◌≡◌ {A = Made ℕ} (made told) (made (0 + field_count ps)) = rw f at e in
          let x : told ≡ 0 + field_count ps = cc in
          record { parts = ps; is_made = f; counts = sym (x ∙ zero-add (field_count ps)) }
      go (stopped n k) f =
          let y : ◌≡◌ {A = Made ℕ} (made told) (stopped n k) = rw f at e in
          let x : ◌≡◌ {A = ℕ} 0 1 = cc in
          absurd (omega arith)

lines_stopped : (o : Made (List Part)) (trace : List ℕ) (n k : ℕ) → o ≡ stopped n k → lines_of o trace ≡ stopped n k
unfolding lines_of
lines_stopped o trace n k e = rw e

lines_from_lem : (o : Made (List Part)) (trace : List ℕ) (ps : List Part) → o ≡ made ps → lines_of o trace ≡ lines_from ps 0 (rows_of trace)
unfolding lines_of
lines_from_lem o trace ps e = rw e

-- each line has a byte
line_some : (ps : List Part) (vs : List Integer) → 0 < length (row_line ps vs)
unfolding row_line
line_some [] vs = omega arith
line_some (stands b ∷ ps) vs = let l = line_some ps vs in omega (arith, length-append b (row_line ps vs))
line_some (column f ∷ ps) [] = line_some ps []
line_some (column f ∷ ps) (v ∷ vs) = let l = line_some ps vs in omega (arith, length-append (written f v) (row_line ps vs))

each_line : (ps : List Part) (i : ℕ) (rs : List (Option (List Integer))) (ls : List (List ℕ)) → lines_from ps i rs ≡ made ls → length ls ≤ length (concat ls)
unfolding lines_from concat row_made
each_line ps i [] ls e = let z : ls ≡ [] = cc in rw z (omega arith)
each_line ps i (none ∷ rs) ls e = let z = both_made (stopped 70 i) (lines_from ps (suc i) rs) ls e in let d = z.is_one in let y : ◌≡◌ {A = ℕ} 0 1 = cc in absurd (omega arith)
each_line ps i (some vs ∷ rs) ls e =
    let z = both_made (row_made ps i (some vs)) (lines_from ps (suc i) rs) ls e in
    let f = row_fine ps i vs z.one z.is_one in
    let l = line_some ps vs in
    let m = each_line ps (suc i) rs z.others z.are_others in
    rw (z.all, f.line) (omega (arith, length-append (row_line ps vs) (concat z.others)))

-- A TEMPLATE that lies in words and text
module _ (words : List ℕ) (count : ℕ) (text trace out : List ℕ) (sized : Sized words count) where
  abbrev parts : Made (List Part)
  parts = parts_laid words count text

  abbrev lines : Made (List (List ℕ))
  lines = lines_of parts trace

  -- 68 and 69
  pub at_template : (r : Refused) → says_count (Err r) ≡ fields_made 0 parts → {number : ℕ} → number ≡ number_of r.why → {out' : List ℕ} {q : Stopped} → Refuses number r.field out out' q → ToldIs lines out out' (Err q)
  at_template r t {number} e q =
      let s : stopped number r.field ≡ fields_made 0 parts = ap (λ n. stopped n r.field) e ∙ t in
      refused_is lines out number r.field (told_stopped (length out) number r.field lines (lines_stopped parts trace number r.field (template_refused parts number r.field s))) out refl q

  module _ (told : ℕ) (t : says_count (Ok told) ≡ fields_made 0 parts) (stop row used : ℕ) (out₁ : List ℕ) (w : LinesAre words count text trace told out out₁ stop row used) (e : length out₁ ≡ length out) where
    template : Parted parts told
    template = template_made parts told t

    lines_are : lines ≡ lines_from template.parts 0 (rows_of trace)
    lines_are = lines_from_lem parts trace template.parts template.is_made

    same_parts : parts_from text 0 (items_from 0 (laid_from count 0 0 (length text) words)) ≡ parts
    unfolding parts_laid
    same_parts =
        let s = sized.0 in
        let n : count ≡ records_in words count = omega arith in
        ap (λ m. parts_from text 0 (items_from 0 (laid_from m 0 0 (length text) words))) n

    all : (stop ≡ 0 → AllAre template.parts trace out out₁ row used) × ((stop ≡ 0 → ⊥) → lines_from template.parts 0 (rows_of trace) ≡ stopped stop row)
    all = w (laid_from count 0 0 (length text) words) template.parts (laid_stands words count (length text)) (same_parts ∙ template.is_made) template.counts

    -- 70 to 72
    pub at_row : (stop ≡ 0 → ⊥) → {out' : List ℕ} {r : Stopped} → Refuses stop row out₁ out' r → ToldIs lines out out' (Err r)
    at_row y q = refused_is lines out stop row (told_stopped (length out) stop row lines (lines_are ∙ all.1 y)) out₁ e q

    module _ (y : stop ≡ 0) where
      found : AllAre template.parts trace out out₁ row used
      found = all.0 y

      made_so : lines ≡ made found.lines
      made_so = lines_are ∙ found.are

      -- 73
      pub at_short : min (length out₁) 0xFFFFFFFF < used → {out' : List ℕ} {r : Stopped} → Refuses 73 used out₁ out' r → ToldIs lines out out' (Err r)
      at_short f {out'} {r} q = refused_is lines out 73 used (go (leb used 0xFFFFFFFF) refl) out₁ e q
        where
          go : (b : Bool) → leb used 0xFFFFFFFF ≡ b → lines_in (length out) lines ≡ stopped 73 (min used 0xFFFFFFFF)
          go true l =
              let m = (found.wrote.0 (leb-true used 0xFFFFFFFF l)).0 in
              let n : min (length (concat found.lines)) 0xFFFFFFFF ≡ min used 0xFFFFFFFF = omega arith in
              told_short (length out) lines found.lines made_so (omega arith) ∙ ap (stopped 73) n
          go false l =
              let k = leb-false used 0xFFFFFFFF l in
              let m = found.wrote.1 k in
              let n : min (length (concat found.lines)) 0xFFFFFFFF ≡ min used 0xFFFFFFFF = omega arith in
              told_short (length out) lines found.lines made_so (omega arith) ∙ ap (stopped 73) n

      pub at_end_lem : used ≤ min (length out₁) 0xFFFFFFFF → {m n : ℕ} → m ≡ min row 0xFFFFFFFF → n ≡ min used 0xFFFFFFFF → ToldIs lines out out₁ (Ok (record { rows = m; bytes = n }))
      at_end_lem f i j =
          let m = found.wrote.0 (omega arith) in
          let b = m.0 in
          let c = found.many in
          let d = each_line template.parts 0 (rows_of trace) found.lines found.are in
          record {
            lines = found.lines;
            are = told_made (length out) lines found.lines made_so (omega arith);
            rows = omega arith;
            bytes = omega arith;
            output = m.1 ∙ over_front out (concat found.lines) (omega arith);
          }

-- by so many records as lie in words
pub told_clipped : (words : List ℕ) (count : ℕ) (text trace out out' : List ℕ) (r : Result Written Stopped) {n : ℕ} → n ≡ records_in words count
    → ToldIs (lines_of (parts_laid words n text) trace) out out' r → ToldIs (lines_of (parts_laid words count text) trace) out out' r
unfolding parts_laid
told_clipped words count text trace out out' r {n} e q =
    let m : records_in words n ≡ records_in words count = omega arith in
    rw m at q

-- and so many text bytes as there are
pub front_same : (n : ℕ) (l : List ℕ) {k : ℕ} → k ≡ min n (length l) → take k l ≡ take n l
front_same n l {k} e = go (leb n (length l)) refl
  where
    go : (b : Bool) → leb n (length l) ≡ b → take k l ≡ take n l
    go true f = let h = leb-true n (length l) f in let m : k ≡ n = omega arith in ap (λ j. take j l) m
    go false f = let h = leb-false n (length l) f in take_all k l (omega arith) ∙ sym (take_all n l (omega arith))
