-- The open brackets of a field, each with the place just after it, and what stands between them. Assumes nothing.
use mathlib.Core.Path.{◌≡◌, refl, sym}
use mathlib.Core.Bool.{true, false}
use mathlib.Core.List.{List, [], ◌∷◌, ◌++◌}
use Prim.Native.Nat.{ℕ, ◌+◌, ◌-◌, ◌≤◌, ◌<◌}
use native.Mathlib.Omega.{arith}
use lib.ListN.{length}
use lib.Seq.{drop-cons}
use Rattle.definition.specs.Chars.{◌is◌, byte, part, code, next, char}
use Rattle.definition.specs.Body.{Bracket, matching}
use Rattle.definition.specs.Matched.{settled, matched, pairs}
use Rattle.definition.proofs.Moves.CharLaws.{byte_in, next_from, next_ascii, code_ascii}
use Rattle.definition_laws.proofs.Moves.Adds.{Sees, sees_none, sees_both, mark_opener, mark_closer, closer_ascii, ascii_in, adds_mark, part_split}

-- a text that leaves what is open as it is
abbrev pub Level : List ℕ → Type 0
Level t = (o : List ℕ) → Sees o t o

-- an open bracket: it stands just before its place, and what follows it up to i is level
pub record Stands (s : List ℕ) (i : ℕ) (b : Bracket) : Type 0 where
  pub opens : (b.bracket is "([{") ≡ true
  pub here : byte s (b.taken - 1) ≡ b.bracket
  pub some : 0 < b.taken
  pub on : b.taken ≤ i
  pub level : Level (part s b.taken i)

-- THE OPEN BRACKETS at i, innermost first: each stands so up to the next inner one
abbrev pub Open : List ℕ → ℕ → List Bracket → Type 0
Open s i [] = Unit {0}
Open s i (b ∷ o) = Stands s i b × Open s (b.taken - 1) o

-- WHAT 23 SAYS of a body: just before its place stands a closing bracket, just before the other place an opening one of another kind, and
-- between the two all is matched
pub record Wrong (s : List ℕ) (taken opened a b : ℕ) : Type 0 where
  pub opener : byte s (opened - 1) ≡ a
  pub opens : (a is "([{") ≡ true
  pub some : 0 < opened
  pub closer : byte s (taken - 1) ≡ b
  pub closes : (b is ")]}") ≡ true
  pub between : matched (part s opened (taken - 1)) ≡ true
  pub before : opened < taken
  pub unlike : pairs a b ≡ false

level_both : (t u : List ℕ) → Level t → Level u → Level (t ++ u)
level_both t u h k o = sees_both o t u (h o) (k o)

-- what is level keeps all open
pub open_on : (s : List ℕ) (i j : ℕ) (o : List Bracket) → i ≤ j → Level (part s i j) → Open s i o → Open s j o
open_on s i j [] h l p = tt
open_on s i j (b ∷ o) h l (p, q) = (
  record {
    opens = p.opens;
    here = p.here;
    some = p.some;
    on = omega (arith, p.on);
    level = rw (part_split s b.taken i j p.on h) (level_both (part s b.taken i) (part s i j) p.level l);
  },
  q,
)

-- a byte, alone
part_byte : (s : List ℕ) (i j : ℕ) → j ≡ i + 1 → i < length s → part s i j ≡ byte s i ∷ []
part_byte s i j f h = let e : j - i ≡ 1 = omega arith in rw (e, drop-cons s i 256 h)

module _ (s : List ℕ) (i : ℕ) where
  -- a bracket is one byte
  opener_byte : (code s i is "([{") ≡ true → byte s i < 0x80
  opener_byte p = ascii_in s i (mark_opener {o = []} (code s i) p).0

  -- one more
  pub open_more : (o : List Bracket) → (code s i is "([{") ≡ true → Open s i o → Open s (next s i) (record { bracket = code s i; taken = next s i } ∷ o)
  open_more o p h =
      let b = opener_byte p in
      let n = next_ascii s i b in
      let e : next s i - 1 ≡ i = omega arith in
      let f : next s i - next s i ≡ 0 = omega arith in
      (record { opens = p; here = rw e (sym (code_ascii s i b)); some = omega arith; on = omega arith; level = λ o. rw f (sees_none o) }, rw e h)

  module _ (b : Bracket) (p : Stands s i b) (q : (code s i is ")]}") ≡ true) where
    -- of the other kind, or of its kind
    pub closes_wrong : matching b.bracket (code s i) ≡ false → Wrong s (next s i) b.taken b.bracket (code s i)
    unfolding matched settled
    closes_wrong m =
        let c = ascii_in s i (closer_ascii (code s i) q) in
        let n = next_ascii s i c in
        let e : next s i - 1 ≡ i = omega arith in
        record {
          opener = p.here;
          opens = p.opens;
          some = p.some;
          closer = rw e (sym (code_ascii s i c));
          closes = q;
          between = rw (e, p.level []) refl;
          before = omega (arith, p.on);
          unlike = m;
        }

    -- with both brackets it is level
    enclosed : matching b.bracket (code s i) ≡ true → Level (part s (b.taken - 1) (next s i))
    unfolding char
    enclosed m o =
        let k = b.taken - 1 in
        let j = b.taken in
        let a = b.bracket in
        let n = next_from s i in
        let one : Sees o (part s k j) (a ∷ o) = rw (part_byte s k j (omega (arith, p.some)) (byte_in s k (omega (arith, p.here, (mark_opener {o = []} a p.opens).0))), p.here) (mark_opener a p.opens).1.sees in
        rw (part_split s k j (next s i) (omega arith) (omega (arith, p.on)), part_split s j i (next s i) p.on n)
        (sees_both o (part s k j) _ one (sees_both (a ∷ o) (part s j i) _ (p.level (a ∷ o)) (adds_mark s i (mark_closer (code s i) q m)).sees))

  -- one less
  pub open_less : (b : Bracket) (o : List Bracket) → (code s i is ")]}") ≡ true → matching b.bracket (code s i) ≡ true → Open s i (b ∷ o) → Open s (next s i) o
  open_less b o q m (p, r) = open_on s (b.taken - 1) (next s i) o (omega (arith, p.on, next_from s i)) (enclosed b p q m) r
