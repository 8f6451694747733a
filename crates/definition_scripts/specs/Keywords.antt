-- THE WORD THAT ENDS WHERE A LITERAL STARTS, and whether Python 3.11 lets it stand there.
use Rattle.std.specs.Prelude.{ℕ, zero, suc, Bool, true, false, ◌&&◌, ◌||◌, List, [], ◌∷◌}
use Prim.Native.String.{String}
use Rattle.definition.specs.Chars.{ascii, byte, part, ◌to◌, inside, same}
use Rattle.definition_scripts.specs.Opening.{is_word}

-- a byte of a word: an ASCII letter, digit or underscore, or any from 80 (hex) on
abbrev pub in_word : ℕ → Bool
in_word c = is_word c || inside (0x80 to 0xFF) c

-- where the word begins that ends before i: the longest run of such bytes
unfoldable pub word_start : List ℕ → ℕ → ℕ
word_start s zero = zero
word_start s (suc i) = elim (in_word (byte s i)) [ true ↦ word_start s i | false ↦ suc i ]

-- THE KEYWORDS that may stand directly before a string literal, the soft ones among them
unfoldable pub keywords : List String
keywords =
    "and" ∷ "as" ∷ "assert" ∷ "await" ∷ "case" ∷ "del" ∷ "elif" ∷ "else" ∷ "except" ∷ "for" ∷ "from"
    ∷ "if" ∷ "in" ∷ "is" ∷ "match" ∷ "not" ∷ "or" ∷ "raise" ∷ "return" ∷ "while" ∷ "with" ∷ "yield" ∷ []

-- a word is one of some texts
unfoldable pub is_one_of : List ℕ → List String → Bool
is_one_of w [] = false
is_one_of w (k ∷ ks) = same w (ascii k) || is_one_of w ks

-- it ends with a keyword
unfoldable pub ends_in_keyword : List ℕ → Bool
ends_in_keyword [] = false
ends_in_keyword (c ∷ w) = is_one_of (c ∷ w) keywords || ends_in_keyword w

-- IT MAY STAND THERE: none does, or a keyword, or a number with a keyword directly behind it
unfoldable pub known : List ℕ → Bool
known [] = true
known (c ∷ w) = is_one_of (c ∷ w) keywords || inside (48 to 57) c && ends_in_keyword w

unfoldable pub may_stand : List ℕ → ℕ → Bool
may_stand s i = known (part s (word_start s i) i)
