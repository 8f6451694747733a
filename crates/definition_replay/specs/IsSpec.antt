-- WHAT A TEXT OF THE FORMAT SPECIFICATION MINI-LANGUAGE IS, without a word of how it is read: its parts, one after another.
use Rattle.std.specs.Prelude.{ℕ, ◌≡◌, Bool, true, ◌&&◌, ◌||◌, not, List, [], ◌∷◌, ◌++◌, eqb, length, if◌then◌else◌}
use Prim.Native.String.{String}
use Rattle.definition.specs.Chars.{◌is◌, byte, next}
use Rattle.definition_replay.specs.Spec.{Spec, aligns, signs, groupings, types, is_digit, all, nothing}

-- a part of one character, if there is one
unfoldable pub one : ℕ → List ℕ
one c = if eqb c 0 then [] else c ∷ []

-- a point and the digits behind it, if there are any
unfoldable pub point : List ℕ → List ℕ
point [] = []
point (d ∷ ds) = 46 ∷ d ∷ ds

-- none, or one of some characters
abbrev pub optional : String → ℕ → Bool
optional set c = eqb c 0 || c is set

-- THE TEXT of parts
unfoldable pub spelled : Spec → List ℕ
spelled p =
    p.fill
    ++ (one p.align
    ++ (one p.sign
    ++ (one p.z
    ++ (one p.alternate
    ++ (one p.nought
    ++ (p.width
    ++ (one p.grouping
    ++ (point p.precision
    ++ one p.type))))))))

-- PARTS OF THE GRAMMAR. A fill is one character and has an align; the first `0` is the flag, so a width begins with one only behind it
pub record Legal (p : Spec) : Type 0 where
  pub fill : (nothing p.fill || eqb (next p.fill 0) (length p.fill) && not (eqb p.align 0)) ≡ true
  pub align : optional aligns p.align ≡ true
  pub sign : optional signs p.sign ≡ true
  pub z : optional "z" p.z ≡ true
  pub alternate : optional "#" p.alternate ≡ true
  pub nought : optional "0" p.nought ≡ true
  pub width : all is_digit p.width ≡ true
  pub flag : (not (eqb p.nought 0) || not (byte p.width 0 is "0")) ≡ true
  pub grouping : optional groupings p.grouping ≡ true
  pub precision : all is_digit p.precision ≡ true
  pub type : optional types p.type ≡ true
