-- A line judged by where it ends, how many `;` it has, and the digits in front. Assumes nothing.
use mathlib.Core.Path.{◌≡◌, sym, ◌∙◌}
use mathlib.Core.Bool.{true, false, ◌&&◌, not}
use mathlib.Core.List.{List, ◌∷◌}
use mathlib.Core.Option.{none}
use Prim.Native.Nat.{ℕ, suc, ◌+◌, ◌≤◌, ◌<◌}
use native.Mathlib.Omega.{arith}
use lib.Dec.{eqb}
use lib.ListN.{length, get_or, drop}
use lib.Seq.{drop-drop}
use borrow.Author.Tests.{eq-eqb, ne_eqb, le-leb, lt-leb}
use Rattle.definition.specs.Chars.{◌to◌, inside}
use Rattle.definition_names.specs.Names.{up_to, first_field, name_at, name_of, hex_value, no_value, is_scalar, Line, malformed, nameless, names, name_line, line_of, with_line, named_from, code_at}
use Rattle.definition_names.specs.IsIndex.{count}
use Rattle.definition.proofs.Moves.CharLaws.{cases}
use Rattle.definition_names.proofs.NameFields.{up_to_mark, up_to_more, up_to_within, count_up_to}
use Rattle.definition_names.proofs.NameLines.{judged, line_few, line_is, from_line, from_unended, name_after}

-- where the line at p ends, and how many `;` it has
pub record EndsOf (file : List ℕ) (p end marks : ℕ) : Type 0 where
  pub ends : end ≡ p + length (up_to 10 (drop p file))
  pub has : marks ≡ count 59 (up_to 10 (drop p file))

-- the value of the digits at p, and where they end
pub record DigitsOf (file : List ℕ) (p value mark : ℕ) : Type 0 where
  pub is : value ≡ code_at file p
  pub ends : (value ≡ no_value → ⊥) → mark ≡ p + length (first_field (drop p file))

-- its first two fields
abbrev digits_of : List ℕ → ℕ → List ℕ
digits_of file p = first_field (drop p file)

second_of : List ℕ → ℕ → List ℕ
second_of file p = first_field (drop (suc (length (digits_of file p))) (drop p file))

-- a line judged
module _ (file : List ℕ) (p end marks : ℕ) (inl : p < length file) (e : EndsOf file p end marks) where
  pub scan_unended : length file ≤ end → named_from file p ≡ none
  scan_unended h = let f = e.ends in from_unended file p inl (omega arith)

  module _ (ended : end < length file) where
    scan : (l : Line) → line_of (up_to 10 (drop p file)) ≡ l → named_from file p ≡ with_line p l (named_from file (end + 1))
    scan l h =
        let f = e.ends in
        from_line file p (omega arith) ∙ rw (h, ← f)

    pub scan_few : (marks ≡ 14 → ⊥) → named_from file p ≡ none
    scan_few h = let f = e.has in scan malformed (line_few (up_to 10 (drop p file)) (λ z. h (omega arith)))

    module _ (v mark : ℕ) (fields : marks ≡ 14) (d : DigitsOf file p v mark) where
      line : line_of (up_to 10 (drop p file)) ≡ judged (digits_of file p) (second_of file p)
      unfolding second_of
      line = let f = e.has in line_is (drop p file) (omega arith)

      pub mark_inside : (v ≡ no_value → ⊥) → mark < end
      mark_inside h =
          let f = e.has in
          let g = e.ends in
          let k = d.ends h in
          let one : 1 ≤ count 59 (up_to 10 (drop p file)) = omega arith in
          let u = rw (up_to_within 59 10 (drop p file) one) at (count_up_to 59 (up_to 10 (drop p file)) one) in
          omega arith

      bad : inside (4 to 6) (length (digits_of file p)) && not (eqb (hex_value 0 (digits_of file p)) no_value) ≡ false → named_from file p ≡ none
      bad h = scan malformed (line ∙ rw h)

      pub scan_novalue : v ≡ no_value → named_from file p ≡ none
      scan_novalue h =
          bad (rw (eq-eqb (hex_value 0 (digits_of file p)) no_value (sym d.is ∙ h)) (cases (inside (4 to 6) (length (digits_of file p))) (λ t. rw t) (λ t. rw t)))

      module _ (val : v ≡ no_value → ⊥) where
        pub scan_short : mark < p + 4 → named_from file p ≡ none
        scan_short h = let k = d.ends val in bad (rw (lt-leb 4 (length (digits_of file p)) (omega arith)))

        pub scan_long : p + 6 < mark → named_from file p ≡ none
        scan_long h =
            let k = d.ends val in
            bad (rw (le-leb 4 (length (digits_of file p)) (omega arith), lt-leb (length (digits_of file p)) 6 (omega arith)))

        module _ (low : p + 4 ≤ mark) (high : mark ≤ p + 6) where
          good : line_of (up_to 10 (drop p file)) ≡ name_line (second_of file p) v
          good =
              let k = d.ends val in
              line ∙ rw (le-leb 4 (length (digits_of file p)) (omega arith), le-leb (length (digits_of file p)) 6 (omega arith), ne_eqb (hex_value 0 (digits_of file p)) no_value (λ z. val (d.is ∙ z)), d.is)

          N-is : (second_of file p) ≡ first_field (drop (mark + 1) file)
          unfolding second_of
          N-is =
              let k = d.ends val in
              let q : p + suc (length (digits_of file p)) ≡ mark + 1 = omega arith in
              rw (drop-drop, q)

          pub name_place : name_at file p ≡ mark + 1
          name_place =
              let k = d.ends val in
              let m = mark_inside val in
              name_after file p (omega arith) (omega arith) (omega arith) ∙ omega arith

          N-name : name_of file p ≡ second_of file p
          unfolding name_of
          N-name = rw name_place (sym N-is)

          in_name : mark + 1 < length file
          in_name = let m = mark_inside val in omega arith

          pub scan_empty : get_or file (mark + 1) 0 ≡ 59 → named_from file p ≡ none
          scan_empty h = scan malformed (good ∙ rw (N-is, up_to_mark 59 file (mark + 1) in_name h))

          module _ (ne : get_or file (mark + 1) 0 ≡ 59 → ⊥) where
            more : (second_of file p) ≡ get_or file (mark + 1) 0 ∷ first_field (drop (mark + 1 + 1) file)
            more = N-is ∙ up_to_more 59 file (mark + 1) in_name ne

            pub scan_nameless : get_or file (mark + 1) 0 ≡ 60 → named_from file p ≡ named_from file (end + 1)
            scan_nameless h = scan nameless (good ∙ rw (more, eq-eqb (get_or file (mark + 1) 0) 60 h))

            module _ (nl : get_or file (mark + 1) 0 ≡ 60 → ⊥) where
              pub scan_named : is_scalar v ≡ true → named_from file p ≡ with_line p (names (name_of file p) (code_at file p)) (named_from file (end + 1))
              scan_named h =
                  rw (N-name, ← d.is)
                  (scan (names (second_of file p) v) (good ∙ rw (more, ne_eqb (get_or file (mark + 1) 0) 60 nl, h)))

              pub scan_none : is_scalar v ≡ false → named_from file p ≡ none
              scan_none h = scan malformed (good ∙ rw (more, ne_eqb (get_or file (mark + 1) 0) 60 nl, h))
