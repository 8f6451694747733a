-- The digits and the end of a line, byte by byte. Assumes nothing.
use mathlib.Core.Path.{◌≡◌, refl, sym, ◌∙◌}
use mathlib.Core.List.{List}
use Prim.Native.Nat.{ℕ, ◌+◌, ◌*◌, ◌≤◌, ◌<◌}
use native.Mathlib.Omega.{arith}
use lib.Dec.{eqb}
use lib.ListN.{length, get_or, drop}
use borrow.Author.Tests.{ne_eqb, le-leb, lt-leb}
use Rattle.definition.specs.Escapes.{hex_digit}
use Rattle.definition_names.specs.Names.{no_value, hex_value, up_to, first_field, code_at}
use Rattle.definition_names.specs.IsIndex.{bit, count}
use Rattle.definition_names.proofs.NameFields.{up_to_end, up_to_mark, up_to_more}
use Rattle.definition_names.proofs.NameScan.{EndsOf, DigitsOf}

-- digits read so far
pub record Digiting (file : List ℕ) (p v i : ℕ) : Type 0 where
  pub value : code_at file p ≡ hex_value v (first_field (drop i file))
  pub ends : p + length (first_field (drop p file)) ≡ i + length (first_field (drop i file))

module _ (file : List ℕ) (p v i : ℕ) (g : Digiting file p v i) where
  pub digits_end : length file ≤ i → DigitsOf file p v i
  unfolding hex_value
  digits_end h = record {
    is = sym (g.value ∙ rw (up_to_end 59 file i h));
    ends = λ n. let e = rw (up_to_end 59 file i h) at g.ends in omega arith;
  }

  module _ (inl : i < length file) where
    pub digits_mark : get_or file i 0 ≡ 59 → DigitsOf file p v i
    unfolding hex_value
    digits_mark h = record {
      is = sym (g.value ∙ rw (up_to_mark 59 file i inl h));
      ends = λ n. let e = rw (up_to_mark 59 file i inl h) at g.ends in omega arith;
    }

    module _ (ne : get_or file i 0 ≡ 59 → ⊥) where
      module _ (d : ℕ) (q : d ≡ hex_digit (get_or file i 0)) where
        pub digits_none : 16 ≤ d → DigitsOf file p no_value i
        unfolding hex_value
        digits_none h = record {
          is = sym (g.value ∙ rw (up_to_more 59 file i inl ne, ← q, le-leb 16 d h));
          ends = λ n. absurd (n refl);
        }

        pub digits_great : d < 16 → 0x100000 ≤ v → DigitsOf file p no_value i
        unfolding hex_value
        digits_great h k = record {
          is = sym (g.value ∙ rw (up_to_more 59 file i inl ne, ← q, lt-leb 16 d h, le-leb 0x100000 v k));
          ends = λ n. absurd (n refl);
        }

        pub digits_more : d < 16 → v < 0x100000 → Digiting file p (v * 16 + d) (i + 1)
        unfolding hex_value
        digits_more h k = record {
          value = g.value ∙ rw (up_to_more 59 file i inl ne, ← q, lt-leb 16 d h, lt-leb 0x100000 v k);
          ends = let e = rw (up_to_more 59 file i inl ne) at g.ends in omega arith;
        }

-- a line read so far
pub record Ending (file : List ℕ) (p i marks : ℕ) : Type 0 where
  pub few : marks ≤ i
  pub ends : p + length (up_to 10 (drop p file)) ≡ i + length (up_to 10 (drop i file))
  pub has : count 59 (up_to 10 (drop p file)) ≡ marks + count 59 (up_to 10 (drop i file))

module _ (file : List ℕ) (p i marks : ℕ) (g : Ending file p i marks) where
  pub ends_end : length file ≤ i → EndsOf file p i marks
  unfolding count
  ends_end h = record {
    ends = let e = rw (up_to_end 10 file i h) at g.ends in omega arith;
    has = let e = rw (up_to_end 10 file i h) at g.has in omega arith;
  }

  module _ (inl : i < length file) where
    pub ends_here : get_or file i 0 ≡ 10 → EndsOf file p i marks
    unfolding count
    ends_here h = record {
      ends = let e = rw (up_to_mark 10 file i inl h) at g.ends in omega arith;
      has = let e = rw (up_to_mark 10 file i inl h) at g.has in omega arith;
    }

    pub ends_later : (get_or file i 0 ≡ 10 → ⊥) → (n : ℕ) → n ≡ bit (eqb 59 (get_or file i 0)) → n ≤ 1 → Ending file p (i + 1) (marks + n)
    unfolding count
    ends_later h n z o = record {
      few = let f = g.few in omega arith;
      ends = let e = rw (up_to_more 10 file i inl h) at g.ends in omega arith;
      has = let e = rw (up_to_more 10 file i inl h) at g.has in omega arith;
    }

    pub ends_mark : get_or file i 0 ≡ 59 → Ending file p (i + 1) (marks + 1)
    unfolding bit
    ends_mark h = ends_later (λ z. omega arith) 1 (rw h) (omega arith)

    pub ends_other : (get_or file i 0 ≡ 10 → ⊥) → (get_or file i 0 ≡ 59 → ⊥) → Ending file p (i + 1) marks
    unfolding bit
    ends_other h n = let e : marks + 0 ≡ marks = omega arith in rw e at (ends_later h 0 (rw (ne_eqb 59 (get_or file i 0) (λ z. n (sym z)))) (omega arith))
