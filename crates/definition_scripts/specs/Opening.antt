-- What opens a literal in a script, and what closes it.
use Rattle.std.specs.Prelude.{ℕ, ◌+◌, ◌-◌, Bool, ◌&&◌, not, ◌||◌, List, eqb, drop, if◌then◌else◌}
use Rattle.definition.specs.Numbers.{prefix}
use Rattle.definition.specs.Chars.{◌is◌, byte, ◌to◌, inside, before}

abbrev pub is_quote : ℕ → Bool
is_quote c = c is "'\""

-- past every kind: what there is where no literal opens
abbrev pub no_kind : ℕ
no_kind = 7

-- the kind that a prefix of one letter says, and one of two
unfoldable pub one_letter : ℕ → ℕ
one_letter a =
    if a is "fF" then 1 else
    if a is "bB" then 2 else
    if a is "rR" then 3 else
    if a is "uU" then 6 else no_kind

unfoldable pub two_letters : ℕ → ℕ → ℕ
two_letters a b =
    if a is "fF" && b is "rR" || a is "rR" && b is "fF" then 4 else
    if a is "bB" && b is "rR" || a is "rR" && b is "bB" then 5 else no_kind

-- the kind of the literal that opens at i: a quote, or a prefix with a quote directly after it
unfoldable pub opens : List ℕ → ℕ → ℕ
opens s i =
    if is_quote (byte s i) then 0 else
    if is_quote (byte s (i + 1)) then one_letter (byte s i) else
    if is_quote (byte s (i + 2)) then two_letters (byte s i) (byte s (i + 1)) else no_kind

-- where its quotes begin
unfoldable pub quotes_of : List ℕ → ℕ → ℕ
quotes_of s i = i + prefix (opens s i)

-- the flag of the quotes that begin at q: 1 if three equal ones stand there
unfoldable pub tripled : List ℕ → ℕ → ℕ
tripled s q = if eqb (byte s (q + 1)) (byte s q) && eqb (byte s (q + 2)) (byte s q) then 1 else 0

-- how many quotes a flag stands for
abbrev pub quotes : ℕ → ℕ
quotes flag = if eqb flag 1 then 3 else 1

-- the quote and the flag of the literal that opens at i, and where its body begins
abbrev pub quote_of : List ℕ → ℕ → ℕ
quote_of s i = byte s (quotes_of s i)

abbrev pub flag_of : List ℕ → ℕ → ℕ
flag_of s i = tripled s (quotes_of s i)

abbrev pub body_of : List ℕ → ℕ → ℕ
body_of s i = quotes_of s i + quotes (flag_of s i)

-- a literal's quotes stand at i
unfoldable pub quotes_at : List ℕ → (quote flag i : ℕ) → Bool
quotes_at s quote flag i =
    eqb (byte s i) quote && (not (eqb flag 1) || eqb (byte s (i + 1)) quote && eqb (byte s (i + 2)) quote)

-- a newline in a literal of one quote
abbrev pub breaks_at : List ℕ → (flag i : ℕ) → Bool
breaks_at s flag i = byte s i is "\n" && not (eqb flag 1)

-- what is passed over between literals, one by one; and what begins a comment
abbrev pub is_space : ℕ → Bool
is_space c = c is " \t\n"

abbrev pub is_sign : ℕ → Bool
is_sign c = c is "#"

-- the first place from i on whose byte passes a test, or the end of the script
abbrev pub first_at : (ℕ → Bool) → List ℕ → ℕ → ℕ
first_at test s i = i + before test (drop i s)

-- where the line ends that i stands in: at its newline, or with the script
abbrev pub line_end : List ℕ → ℕ → ℕ
line_end s i = first_at (λ c. c is "\n") s i

-- in the cut of a whole script a line ends at byte 10 or 13
abbrev pub is_line_end : ℕ → Bool
is_line_end c = c is "\n\r"

-- an ASCII letter, digit or underscore
abbrev pub is_word : ℕ → Bool
is_word c = inside (48 to 57) c || inside (65 to 90) c || inside (97 to 122) c || c is "_"

-- none of these stands before i
unfoldable pub apart : List ℕ → ℕ → Bool
apart s i = eqb i 0 || not (is_word (byte s (i - 1)))
