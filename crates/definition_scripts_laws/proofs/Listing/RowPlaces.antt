-- A FIELD'S ROW STANDS WHERE ITS NUMBERS SAY, in the script: its signs, its conversion, and its source. Assumes nothing.
use Rattle.std.specs.Prelude.{if◌then◌else◌}
use mathlib.Core.Path.{◌≡◌, refl, sym, ◌∙◌, ap}
use mathlib.Core.Bool.{true, not}
use mathlib.Core.List.{List}
use Prim.Native.Nat.{ℕ, zero, suc, ◌+◌, ◌-◌, ◌≤◌, ◌<◌}
use native.Mathlib.Omega.{arith}
use borrow.Author.Tests.{eqb-true, eq-eqb, ne_eqb}
use lib.Dec.{eqb}
use lib.ListN.{length, drop}
use lib.Seq.{get_or-take, get_or-drop}
use Rattle.definition.specs.Chars.{◌is◌, byte, code}
use Rattle.definition.specs.Body.{Signs}
use Rattle.definition.specs.Entry.{Literal, place_of, body}
use Rattle.definition.specs.Rows.{reason, sign_at, signs_at}
use Rattle.definition_scripts.specs.Listing.{source_end}
use Rattle.definition_scripts_laws.specs.Complete.{Placed}
use Rattle.definition.proofs.Moves.CharLaws.{either, byte_in, code_is}
use Rattle.definition_laws.proofs.Moves.Moves.{part_short}
use Rattle.definition_laws.proofs.Rows.SignLaws.{Fits, written, reason_fits, After, Met, Says}

-- signs in a body that begins at `base`
pub sign_some : (base j : ℕ) → 1 ≤ j → sign_at base j ≡ base + j
unfolding sign_at
sign_some base zero h = absurd (omega arith)
sign_some base (suc j) h = refl

same_zero : (base j : ℕ) → eqb (sign_at base j) 0 ≡ eqb j 0
unfolding sign_at
same_zero base zero = refl
same_zero base (suc j) = rw (ne_eqb (base + suc j) 0 (λ e. omega arith), ne_eqb (suc j) 0 (λ e. omega arith))

same_reason : (base : ℕ) (g : Signs) → reason (signs_at base g) ≡ reason g
unfolding reason signs_at
same_reason base g = rw (same_zero base g.bang, same_zero base g.equals, same_zero base g.colon)

-- where a field's source ends: in its body, and not before it begins
pub source_within : (b : List ℕ) (i base : ℕ) (g : Signs) → Met b i g → After b i 125 g.close → (base + i ≤ source_end (signs_at base g)) × (source_end (signs_at base g) < base + length b)
unfolding source_end signs_at sign_at
source_within b i base g m a = go g.bang g.colon g.close m.bang_after m.colon_after a
  where
    go : (x y z : ℕ) → (1 ≤ x → After b i 33 x) → (1 ≤ y → After b i 58 y) → After b i 125 z
        → let e = if not (eqb (sign_at base x) 0) then sign_at base x - 1 else if not (eqb (sign_at base y) 0) then sign_at base y - 1 else sign_at base z - 1 in (base + i ≤ e) × (e < base + length b)
    go (suc x) y z p q r = let h = p (omega arith) in let k = h.0 in let l = h.1 in rw (ne_eqb (base + suc x) 0 (λ e. omega arith)) (omega arith, omega arith)
    go zero (suc y) z p q r = let h = q (omega arith) in let k = h.0 in let l = h.1 in rw (ne_eqb (base + suc y) 0 (λ e. omega arith)) (omega arith, omega arith)
    go zero zero (suc z) p q r = let k = r.0 in let l = r.1 in (omega arith, omega arith)
    go zero zero zero p q r = let k = r.0 in absurd (omega arith)

-- what may be written for a conversion is ASCII
sar_ascii : (c : ℕ) → (c is "sar") ≡ true → c < 0x80
sar_ascii c e =
    either (eqb c 115) (c is "ar") e (λ t. let z = eqb-true c 115 t in omega arith)
    (λ f. either (eqb c 97) (eqb c 114) f (λ t. let z = eqb-true c 97 t in omega arith) (λ t. let z = eqb-true c 114 t in omega arith))

bang_there : (g : Signs) (n : ℕ) → Fits g n → n ≡ 1 → 1 ≤ g.bang
bang_there g n (written b) e = b
bang_there g n (Fits.neither b z) e = absurd (omega arith)
bang_there g n (Fits.by_repr b q z) e = absurd (omega arith)
bang_there g n (Fits.by_spec b q z) e = absurd (omega arith)

-- OF A LITERAL whose body begins after its opening
module _ (s : List ℕ) (l : Literal) (begins : l.offset ≡ place_of l 0) where
  body_byte : (k : ℕ) → k < length (body s l) → byte s (place_of l 0 + k) ≡ byte (body s l) k
  unfolding body
  body_byte k h =
      let z = part_short s l.offset (l.offset + l.size) in
      sym (get_or-take (l.offset + l.size - l.offset) (drop l.offset s) k 256 (omega arith) ∙ get_or-drop l.offset s k 256 ∙ ap (λ n. byte s (n + k)) begins)

  sign_placed : (c i j : ℕ) → (1 ≤ j → After (body s l) i c j) → 1 ≤ sign_at (place_of l 0) j → (place_of l 0 + i < sign_at (place_of l 0) j) × (byte s (sign_at (place_of l 0) j - 1) ≡ c)
  unfolding sign_at
  sign_placed c i zero a h = absurd (omega arith)
  sign_placed c i (suc j) a h =
      let x = a (omega arith) in
      let u = x.0 in
      let v = x.1 in
      let e : place_of l 0 + suc j - 1 ≡ place_of l 0 + j = omega arith in
      let f : suc j - 1 ≡ j = omega arith in
      (omega arith, rw e (body_byte j (omega arith) ∙ rw f at x.2))

  flag_there : (c j : ℕ) → 1 ≤ j → (c ≡ code (body s l) j) × ((c is "sar") ≡ true) → byte s (sign_at (place_of l 0) j) ≡ c
  flag_there c j h w =
      let a = sar_ascii c w.1 in
      let e : eqb (code (body s l) j) c ≡ true = eq-eqb (code (body s l) j) c (sym w.0) in
      let b : byte (body s l) j ≡ c = eqb-true (byte (body s l) j) c (sym (code_is (body s l) j c a) ∙ e) in
      rw (sign_some (place_of l 0) j h) (body_byte j (byte_in (body s l) j (omega arith)) ∙ b)

  pub piece_placed : (e c i : ℕ) (g : Signs) → Met (body s l) i g × After (body s l) i 125 g.close × Says (body s l) g c (reason g)
      → Placed s (record { start = l.start; place = place_of l 0 + i; expression = e; conversion = c; signs = signs_at (place_of l 0) g })
  unfolding signs_at
  piece_placed e c i g p =
      let m = p.0 in
      let o = m.opened in
      let w = p.2 in
      let x = o.0 in
      let y = o.1 in
      let z = p.1.0 in
      let f : place_of l 0 + i - 1 ≡ place_of l 0 + (i - 1) = omega arith in
      let same = sym (same_reason (place_of l 0) g) in
      record {
        brace_at = rw f (body_byte (i - 1) (omega arith) ∙ o.2);
        equals_at = sign_placed 61 i g.equals m.equals_after;
        bang_at = sign_placed 33 i g.bang m.bang_after;
        colon_at = sign_placed 58 i g.colon m.colon_after;
        close_at = sign_placed 125 i g.close (λ h. p.1) (let k = sign_some (place_of l 0) g.close (omega arith) in omega arith);
        written = λ h. let k = same ∙ h in flag_there c g.bang (bang_there g (reason g) (reason_fits g) k) (w.as_written k);
        none_written = λ h. w.as_neither (same ∙ h);
        by_repr = λ h. w.as_repr (same ∙ h);
        by_spec = λ h. w.as_spec (same ∙ h);
      }
