-- The lines of a file walked: where lines with a name begin, and what their entries say. Assumes nothing.
use mathlib.Core.Path.{◌≡◌, refl, sym, ap, ◌∙◌}
use mathlib.Core.Bool.{true, false}
use mathlib.Core.List.{List, [], ◌∷◌, map}
use mathlib.Core.Option.{Option, none, some}
use Prim.Native.Nat.{ℕ, zero, suc, ◌+◌, ◌-◌, ◌≤◌, ◌<◌}
use native.Mathlib.Omega.{arith}
use lib.Dec.{eqb, ltb}
use lib.ListN.{length, get_or, drop, length-drop}
use lib.Seq.{get_or-drop}
use borrow.Author.Tests.{eq-eqb, ne_eqb, lt-ltb, le-ltb, ltb-true, ltb-false}
use Rattle.definition.specs.Chars.{byte}
use Rattle.definition_names.specs.Names.{up_to, first_field, name_at, name_of, Entry, at, no_value, is_scalar, names, with_line, named_from, named, code_at}
use Rattle.definition_names.specs.IsIndex.{bit, count, starts_at, is_start}
use Rattle.definition.proofs.Moves.CharLaws.{cases, byte_is}
use Rattle.definition_names.proofs.NameLists.{same?, count_here, count_later, count_none}
use Rattle.definition_names.proofs.NameFields.{up_to_not, up_to_stops}
use Rattle.definition_names.proofs.NameIndex.{All, all_none, all_cons}
use Rattle.definition_names.proofs.NameLines.{from_end}
use Rattle.definition_names.proofs.NameScan.{EndsOf, DigitsOf, name_place, scan_unended, scan_few, scan_novalue, scan_short, scan_long, scan_empty, scan_nameless, scan_named, scan_none, mark_inside}

-- a line from p up to the next one
pub record Gap (file : List ℕ) (p next : ℕ) : Type 0 where
  pub on : p < next
  pub inside : next ≤ length file
  pub no_line : (q : ℕ) → p < q → q < next → starts_at file q ≡ false
  pub a_line : starts_at file next ≡ true

pub data StepAt (file : List ℕ) (p : ℕ) : Type 0 where
  bad : named_from file p ≡ none → StepAt file p
  skip : (next : ℕ) → Gap file p next → eqb (byte file (name_at file p)) 60 ≡ true → named_from file p ≡ named_from file next → StepAt file p
  add : (next : ℕ) → Gap file p next → eqb (byte file (name_at file p)) 60 ≡ false → is_scalar (code_at file p) ≡ true → named_from file p ≡ with_line p (names (name_of file p) (code_at file p)) (named_from file next) → StepAt file p

module _ (file : List ℕ) (p : ℕ) (inl : p < length file) where
  abbrev line_end : ℕ
  line_end = p + length (up_to 10 (drop p file))

  gap : line_end < length file → Gap file p (line_end + 1)
  gap h = record {
    on = omega arith;
    inside = omega arith;
    no_line = between;
    a_line = rw after (eq-eqb _ 10 (sym (get_or-drop p file _ 0) ∙ up_to_stops 10 (drop p file) 0 (let l = length-drop p file in omega arith)));
  }
    where
      after : line_end + 1 ≡ suc line_end
      after = omega arith

      between : (q : ℕ) → p < q → q < line_end + 1 → starts_at file q ≡ false
      between zero a b = absurd (omega arith)
      between (suc q) a b =
          let e : p + (q - p) ≡ q = omega arith in
          ne_eqb (get_or file q 0) 10 (λ z. up_to_not 10 (drop p file) (q - p) 0 (omega arith) (get_or-drop p file (q - p) 0 ∙ rw e z))

  pub step : StepAt file p
  step =
      let e : EndsOf file p line_end (count 59 (up_to 10 (drop p file))) = record { ends = refl; has = refl } in
      let d : DigitsOf file p (code_at file p) (p + length (first_field (drop p file))) = record { is = refl; ends = λ n. refl } in
      let end = line_end in
      let marks = count 59 (up_to 10 (drop p file)) in
      let mark = p + length (first_field (drop p file)) in
      let v = code_at file p in
      cases (ltb end (length file))
      (λ t.
      let k = ltb-true end (length file) t in
      same? marks 14
      (λ f.
      same? v no_value (λ w. bad (scan_novalue file p end marks inl e k v mark f d w))
      (λ w.
      cases (ltb mark (p + 4)) (λ a. bad (scan_short file p end marks inl e k v mark f d w (ltb-true mark (p + 4) a)))
      (λ a.
      let low = ltb-false mark (p + 4) a in
      cases (ltb (p + 6) mark) (λ b. bad (scan_long file p end marks inl e k v mark f d w (ltb-true (p + 6) mark b)))
      (λ b.
      let high = ltb-false (p + 6) mark b in
      let place = name_place file p end marks inl e k v mark f d w low high in
      let m = mark_inside file p end marks inl e k v mark f d w in
      let there = byte_is file (mark + 1) (omega arith) in
      same? (get_or file (mark + 1) 0) 59 (λ g. bad (scan_empty file p end marks inl e k v mark f d w low high g))
      (λ g.
      same? (get_or file (mark + 1) 0) 60
      (λ z. skip (end + 1) (gap k) (rw (place, ← there) (eq-eqb _ 60 z)) (scan_nameless file p end marks inl e k v mark f d w low high g z))
      (λ z.
      cases (is_scalar v) (λ s. add (end + 1) (gap k) (rw (place, ← there) (ne_eqb _ 60 z)) s (scan_named file p end marks inl e k v mark f d w low high g z s))
      (λ s. bad (scan_none file p end marks inl e k v mark f d w low high g z s))))))))
      (λ f. bad (scan_few file p end marks inl e k f)))
      (λ t. bad (scan_unended file p end marks inl e (ltb-false end (length file) t)))

-- where a line with a name begins
module _ (file : List ℕ) (q : ℕ) where
  start_out : length file ≤ q → bit (is_start file q) ≡ 0
  unfolding is_start bit
  start_out h = rw (le-ltb q (length file) h)

  start_none : starts_at file q ≡ false → bit (is_start file q) ≡ 0
  unfolding is_start bit
  start_none h = cases (ltb q (length file)) (λ t. rw (t, h)) (λ t. rw t)

  start_nameless : eqb (byte file (name_at file q)) 60 ≡ true → bit (is_start file q) ≡ 0
  unfolding is_start bit
  start_nameless h =
      cases (ltb q (length file)) (λ t. cases (starts_at file q) (λ u. rw (t, u, h)) (λ u. rw (t, u))) (λ t. rw t)

  start_named : q < length file → starts_at file q ≡ true → eqb (byte file (name_at file q)) 60 ≡ false → bit (is_start file q) ≡ 1
  unfolding is_start bit
  start_named k t h = rw (lt-ltb q (length file) k, t, h)

-- what an entry says stands in the file
abbrev pub Says : List ℕ → Entry → Type 0
Says file e = (name_of file e.at ≡ e.name) × (code_at file e.at ≡ e.code) × (is_scalar e.code ≡ true)

pub record Sound (file : List ℕ) (p : ℕ) (es : List Entry) : Type 0 where
  pub below : (q : ℕ) → q < p → count q (map at es) ≡ 0
  pub here : (q : ℕ) → p ≤ q → count q (map at es) ≡ bit (is_start file q)
  pub says : All (Says file) es

record Added (p : ℕ) (n : List ℕ) (v : ℕ) (o : Option (List Entry)) (es : List Entry) : Type 0 where
  rest : List Entry
  some_rest : o ≡ some rest
  is : es ≡ record { at = p; name = n; code = v } ∷ rest

added : (p : ℕ) (n : List ℕ) (v : ℕ) (o : Option (List Entry)) (es : List Entry) → with_line p (names n v) o ≡ some es → Added p n v o es
added p n v none es h = let z : ◌≡◌ {A = ℕ} 0 1 = cc in absurd (omega arith)
added p n v (some rest) es h = record { rest = rest; some_rest = refl; is = cc }

module _ (file : List ℕ) where
  sound_end : (p : ℕ) (es : List Entry) → length file ≤ p → named_from file p ≡ some es → Sound file p es
  sound_end p es k h =
      let f = from_end file p k in
      let e : es ≡ [] = cc in
      rw e
      (record {
        below = λ q l. count_none q;
        here = λ q l. count_none q ∙ sym (start_out file q (omega arith));
        says = all_none (Says file);
      })

  sound_skip : (p next : ℕ) (es : List Entry) → Gap file p next → eqb (byte file (name_at file p)) 60 ≡ true → Sound file next es → Sound file p es
  sound_skip p next es g b s =
      let o = g.on in
      record {
        below = λ q l. s.below q (omega arith);
        here = λ q l.
            cases (ltb q next)
            (λ t.
            let m = ltb-true q next t in
            s.below q m ∙ sym (same? q p (λ e. rw e (start_nameless file p b)) (λ e. start_none file q (g.no_line q (omega arith) m))))
            (λ t. s.here q (ltb-false q next t));
        says = s.says;
      }

  sound_add : (p next : ℕ) (es : List Entry) → starts_at file p ≡ true → Gap file p next → eqb (byte file (name_at file p)) 60 ≡ false → is_scalar (code_at file p) ≡ true → Sound file next es → Sound file p (record { at = p; name = name_of file p; code = code_at file p } ∷ es)
  sound_add p next es a g b sc s =
      let o = g.on in
      let i = g.inside in
      record {
        below = λ q l. count_later q p (map at es) (λ e. omega arith) ∙ s.below q (omega arith);
        here = λ q l.
            same? q p (λ e. rw e (count_here p p (map at es) refl ∙ ap suc (s.below p o) ∙ sym (start_named file p (omega arith) a b)))
            (λ e.
            count_later q p (map at es) e ∙ cases (ltb q next) (λ t. let m = ltb-true q next t in s.below q m ∙ sym (start_none file q (g.no_line q (omega arith) m)))
            (λ t. s.here q (ltb-false q next t)));
        says = all_cons (Says file) _ es (refl, refl, sc) s.says;
      }

  sound : (f p : ℕ) (es : List Entry) → length file ≤ p + f → starts_at file p ≡ true → named_from file p ≡ some es → Sound file p es
  sound zero p es l a h = sound_end p es (omega arith) h
  sound (suc f) p es l a h =
      cases (ltb p (length file)) (λ t. by-step p es l a h (step file p (ltb-true p (length file) t)) (λ next k. sound f next))
      (λ t. sound_end p es (ltb-false p (length file) t) h)
    where
      by-step : (p : ℕ) (es : List Entry) → length file ≤ p + suc f → starts_at file p ≡ true → named_from file p ≡ some es → StepAt file p → ((next : ℕ) → p < next → (es : List Entry) → length file ≤ next + f → starts_at file next ≡ true → named_from file next ≡ some es → Sound file next es) → Sound file p es
      by-step p es l a h (bad b) go = let z : ◌≡◌ {A = ℕ} 0 1 = cc in absurd (omega arith)
      by-step p es l a h (skip next g b eq) go =
          sound_skip p next es g b (go next g.on es (let o = g.on in omega arith) g.a_line (sym eq ∙ h))
      by-step p es l a h (add next g b sc eq) go =
          let d = added p (name_of file p) (code_at file p) (named_from file next) es (sym eq ∙ h) in
          rw d.is (sound_add p next d.rest a g b sc (go next g.on d.rest (let o = g.on in omega arith) g.a_line d.some_rest))

  pub all_sound : (es : List Entry) → named file ≡ some es → Sound file 0 es
  all_sound es h = sound (length file) 0 es (omega arith) refl h
