-- What Python reads for an escape, and what is refused. Made by crates/definition/rows.py. Assumes nothing.
use Prim.Native.Nat.{ℕ}
use mathlib.Core.List.{List, [], ◌∷◌}
use Rattle.definition.specs.Chars.{ascii}

-- a kind, a body, its text
unfoldable pub texts : List (ℕ × List ℕ × List ℕ)
texts =
    -- the simple ones, and a newline, which vanishes with its backslash
    (0, ascii "\\\\", ascii "\\")
    ∷ (0, ascii "\\'", ascii "'")
    ∷ (0, ascii "\\\"", ascii "\"")
    ∷ (0, ascii "\\a", 0x07 ∷ [])
    ∷ (0, ascii "\\b", 0x08 ∷ [])
    ∷ (0, ascii "\\f", 0x0C ∷ [])
    ∷ (0, ascii "\\n", ascii "\n")
    ∷ (0, ascii "\\r", ascii "\r")
    ∷ (0, ascii "\\t", ascii "\t")
    ∷ (0, ascii "\\v", 0x0B ∷ [])
    ∷ (0, ascii "\\\n", [])
    -- every other printed character keeps its backslash; so do the others of ASCII, in bytes u, U and N, and in text a character that is not ASCII
    ∷ (0, ascii "\\ \\!\\#\\$\\%\\&\\(\\)\\*\\+\\,\\-\\.\\/\\8\\9\\:\\;\\<\\=\\>\\?\\@\\A\\B\\C\\D\\E\\F\\G\\H\\I\\J\\K\\L\\M\\O\\P\\Q\\R\\S\\T\\V\\W\\X\\Y\\Z\\[\\]\\^\\_\\`\\c\\d\\e\\g\\h\\i\\j\\k\\l\\m\\o\\p\\q\\s\\w\\y\\z\\{\\|\\}\\~", ascii "\\ \\!\\#\\$\\%\\&\\(\\)\\*\\+\\,\\-\\.\\/\\8\\9\\:\\;\\<\\=\\>\\?\\@\\A\\B\\C\\D\\E\\F\\G\\H\\I\\J\\K\\L\\M\\O\\P\\Q\\R\\S\\T\\V\\W\\X\\Y\\Z\\[\\]\\^\\_\\`\\c\\d\\e\\g\\h\\i\\j\\k\\l\\m\\o\\p\\q\\s\\w\\y\\z\\{\\|\\}\\~")
    ∷ (0, 0x5C ∷ 0x01 ∷ 0x5C ∷ 0x02 ∷ 0x5C ∷ 0x03 ∷ 0x5C ∷ 0x04 ∷ 0x5C ∷ 0x05 ∷ 0x5C ∷ 0x06 ∷ 0x5C ∷ 0x07 ∷ 0x5C ∷ 0x08 ∷ 0x5C ∷ 0x09 ∷ 0x5C ∷ 0x0B ∷ 0x5C ∷ 0x0C ∷ 0x5C ∷ 0x0E ∷ 0x5C ∷ 0x0F ∷ 0x5C ∷ 0x10 ∷ 0x5C ∷ 0x11 ∷ 0x5C ∷ 0x12 ∷ 0x5C ∷ 0x13 ∷ 0x5C ∷ 0x14 ∷ 0x5C ∷ 0x15 ∷ 0x5C ∷ 0x16 ∷ 0x5C ∷ 0x17 ∷ 0x5C ∷ 0x18 ∷ 0x5C ∷ 0x19 ∷ 0x5C ∷ 0x1A ∷ 0x5C ∷ 0x1B ∷ 0x5C ∷ 0x1C ∷ 0x5C ∷ 0x1D ∷ 0x5C ∷ 0x1E ∷ 0x5C ∷ 0x1F ∷ 0x5C ∷ 0x7F ∷ [], 0x5C ∷ 0x01 ∷ 0x5C ∷ 0x02 ∷ 0x5C ∷ 0x03 ∷ 0x5C ∷ 0x04 ∷ 0x5C ∷ 0x05 ∷ 0x5C ∷ 0x06 ∷ 0x5C ∷ 0x07 ∷ 0x5C ∷ 0x08 ∷ 0x5C ∷ 0x09 ∷ 0x5C ∷ 0x0B ∷ 0x5C ∷ 0x0C ∷ 0x5C ∷ 0x0E ∷ 0x5C ∷ 0x0F ∷ 0x5C ∷ 0x10 ∷ 0x5C ∷ 0x11 ∷ 0x5C ∷ 0x12 ∷ 0x5C ∷ 0x13 ∷ 0x5C ∷ 0x14 ∷ 0x5C ∷ 0x15 ∷ 0x5C ∷ 0x16 ∷ 0x5C ∷ 0x17 ∷ 0x5C ∷ 0x18 ∷ 0x5C ∷ 0x19 ∷ 0x5C ∷ 0x1A ∷ 0x5C ∷ 0x1B ∷ 0x5C ∷ 0x1C ∷ 0x5C ∷ 0x1D ∷ 0x5C ∷ 0x1E ∷ 0x5C ∷ 0x1F ∷ 0x5C ∷ 0x7F ∷ [])
    ∷ (2, ascii "\\ \\!\\#\\$\\%\\&\\(\\)\\*\\+\\,\\-\\.\\/\\8\\9\\:\\;\\<\\=\\>\\?\\@\\A\\B\\C\\D\\E\\F\\G\\H\\I\\J\\K\\L\\M\\O\\P\\Q\\R\\S\\T\\V\\W\\X\\Y\\Z\\[\\]\\^\\_\\`\\c\\d\\e\\g\\h\\i\\j\\k\\l\\m\\o\\p\\q\\s\\w\\y\\z\\{\\|\\}\\~\\u\\U\\N", ascii "\\ \\!\\#\\$\\%\\&\\(\\)\\*\\+\\,\\-\\.\\/\\8\\9\\:\\;\\<\\=\\>\\?\\@\\A\\B\\C\\D\\E\\F\\G\\H\\I\\J\\K\\L\\M\\O\\P\\Q\\R\\S\\T\\V\\W\\X\\Y\\Z\\[\\]\\^\\_\\`\\c\\d\\e\\g\\h\\i\\j\\k\\l\\m\\o\\p\\q\\s\\w\\y\\z\\{\\|\\}\\~\\u\\U\\N")
    ∷ (0, 0x5C ∷ 0xC3 ∷ 0xA9 ∷ [], 0x5C ∷ 0xC3 ∷ 0xA9 ∷ [])
    -- RULES 3.2: byte 13 is no line end, so it keeps its backslash, and so does byte 0, which Python does not read
    ∷ (0, 0x5C ∷ 0x0D ∷ 0x5C ∷ 0x00 ∷ [], 0x5C ∷ 0x0D ∷ 0x5C ∷ 0x00 ∷ [])
    -- one to three octal digits; in bytes the low eight bits
    ∷ (0, ascii "\\0", 0x00 ∷ [])
    ∷ (0, ascii "\\18", 0x01 ∷ 0x38 ∷ [])
    ∷ (0, ascii "\\1018", ascii "A8")
    ∷ (2, ascii "\\67\\45\\23\\01", 0x37 ∷ 0x25 ∷ 0x13 ∷ 0x01 ∷ [])
    ∷ (0, ascii "\\777", 0xC7 ∷ 0xBF ∷ [])
    ∷ (2, ascii "\\777\\400", 0xFF ∷ 0x00 ∷ [])
    -- every hex digit of either case; two, four and eight of them
    ∷ (2, ascii "\\x01\\x23\\x45\\x67\\x89\\xab\\xcd\\xef\\xAB\\xCD\\xEF", 0x01 ∷ 0x23 ∷ 0x45 ∷ 0x67 ∷ 0x89 ∷ 0xAB ∷ 0xCD ∷ 0xEF ∷ 0xAB ∷ 0xCD ∷ 0xEF ∷ [])
    ∷ (0, ascii "\\x419", ascii "A9")
    ∷ (0, ascii "\\u00410", ascii "A0")
    ∷ (0, ascii "\\U0001f6000", 0xF0 ∷ 0x9F ∷ 0x98 ∷ 0x80 ∷ 0x30 ∷ [])
    -- the codes beside the surrogates, and the last one
    ∷ (0, ascii "\\ud7ff", 0xED ∷ 0x9F ∷ 0xBF ∷ [])
    ∷ (0, ascii "\\ue000", 0xEE ∷ 0x80 ∷ 0x80 ∷ [])
    ∷ (0, ascii "\\U0010ffff", 0xF4 ∷ 0x8F ∷ 0xBF ∷ 0xBF ∷ [])
    -- RULES 3.3: a surrogate is U+FFFD
    ∷ (0, ascii "\\ud800", 0xEF ∷ 0xBF ∷ 0xBD ∷ [])
    ∷ (0, ascii "\\udbff", 0xEF ∷ 0xBF ∷ 0xBD ∷ [])
    ∷ (0, ascii "\\udc00", 0xEF ∷ 0xBF ∷ 0xBD ∷ [])
    ∷ (0, ascii "\\udfff", 0xEF ∷ 0xBF ∷ 0xBD ∷ [])
    ∷ (0, ascii "\\U0000d800", 0xEF ∷ 0xBF ∷ 0xBD ∷ [])
    -- the seven kinds: raw ones have no escapes, f-strings double braces, bytes know no u
    ∷ (0, ascii "\\t{{\\u0041", ascii "\t{{A")
    ∷ (1, ascii "\\t{{\\u0041", ascii "\t{A")
    ∷ (2, ascii "\\t{{\\u0041", ascii "\t{{\\u0041")
    ∷ (3, ascii "\\t{{\\u0041", ascii "\\t{{\\u0041")
    ∷ (4, ascii "\\t{{\\u0041", ascii "\\t{\\u0041")
    ∷ (5, ascii "\\t{{\\u0041", ascii "\\t{{\\u0041")
    ∷ (6, ascii "\\t{{\\u0041", ascii "\t{{A")
    -- a name, and what follows it
    ∷ (0, ascii "\\N{OHM SIGN}a", 0xE2 ∷ 0x84 ∷ 0xA6 ∷ 0x61 ∷ [])
    ∷ (1, ascii "\\N{DIVISION SIGN}", 0xC3 ∷ 0xB7 ∷ [])
    ∷ (6, ascii "\\N{GREATER-THAN OR EQUAL TO}", 0xE2 ∷ 0x89 ∷ 0xA5 ∷ [])
    -- the last character of ASCII in bytes
    ∷ (2, 0x7F ∷ [], 0x7F ∷ [])
    ∷ (5, 0x7F ∷ [], 0x7F ∷ [])
    ∷ []

-- the held names and their codes
unfoldable pub held_rows : List (List ℕ × ℕ)
held_rows =
    (ascii "DEGREE SIGN", 0x00B0)
    ∷ (ascii "PLUS-MINUS SIGN", 0x00B1)
    ∷ (ascii "SUPERSCRIPT TWO", 0x00B2)
    ∷ (ascii "MICRO SIGN", 0x00B5)
    ∷ (ascii "MULTIPLICATION SIGN", 0x00D7)
    ∷ (ascii "DIVISION SIGN", 0x00F7)
    ∷ (ascii "GREEK CAPITAL LETTER DELTA", 0x0394)
    ∷ (ascii "GREEK CAPITAL LETTER OMEGA", 0x03A9)
    ∷ (ascii "GREEK SMALL LETTER MU", 0x03BC)
    ∷ (ascii "OHM SIGN", 0x2126)
    ∷ (ascii "INFINITY", 0x221E)
    ∷ (ascii "ALMOST EQUAL TO", 0x2248)
    ∷ (ascii "LESS-THAN OR EQUAL TO", 0x2264)
    ∷ (ascii "GREATER-THAN OR EQUAL TO", 0x2265)
    ∷ []

-- a kind, a body, its refusal's number and the bytes taken at its place
unfoldable pub refusals : List (ℕ × List ℕ × ℕ × ℕ)
refusals =
    -- 10: the body ends after a backslash; no `{` after N, placed there; no `}`, placed at the end
    (0, ascii "a\\", 10, 2)
    ∷ (0, ascii "\\N", 10, 2)
    ∷ (0, ascii "\\Nx", 10, 2)
    ∷ (0, ascii "\\N{OHM SIGN", 10, 11)
    -- 11, after the letter: a digit is missing, or is none; a code above 10FFFF
    ∷ (0, ascii "\\x", 11, 2)
    ∷ (0, ascii "\\x4", 11, 2)
    ∷ (0, ascii "\\u004", 11, 2)
    ∷ (0, ascii "\\U0010fff", 11, 2)
    ∷ (0, ascii "\\U00110000", 11, 2)
    ∷ (0, ascii "\\x4/", 11, 2)
    ∷ (0, ascii "\\x4:", 11, 2)
    ∷ (0, ascii "\\x4@", 11, 2)
    ∷ (0, ascii "\\x4G", 11, 2)
    ∷ (0, ascii "\\x4`", 11, 2)
    ∷ (0, ascii "\\x4g", 11, 2)
    -- 11, after its `}`: a name over 88 bytes; one of 88 is looked for
    ∷ (0, ascii "\\N{AAAAAAAAAAAAAAAAAAAAAAAAAAAAAAAAAAAAAAAAAAAAAAAAAAAAAAAAAAAAAAAAAAAAAAAAAAAAAAAAAAAAAAAAA}", 11, 93)
    ∷ (0, ascii "\\N{AAAAAAAAAAAAAAAAAAAAAAAAAAAAAAAAAAAAAAAAAAAAAAAAAAAAAAAAAAAAAAAAAAAAAAAAAAAAAAAAAAAAAAAA}", 13, 3)
    -- 13, after its `{`: compared byte for byte
    ∷ (0, ascii "\\N{ohm sign}", 13, 3)
    ∷ (6, ascii "\\N{}", 13, 3)
    -- 12, after it: in bytes a character that is not ASCII, and after a backslash
    ∷ (2, 0xC2 ∷ 0x80 ∷ [], 12, 2)
    ∷ (5, 0x61 ∷ 0xC3 ∷ 0xA9 ∷ [], 12, 3)
    ∷ (2, 0x61 ∷ 0x5C ∷ 0xC3 ∷ 0xA9 ∷ [], 12, 4)
    ∷ (2, 0x5C ∷ 0xC2 ∷ 0x80 ∷ [], 12, 3)
    -- 27, after the last character taken: a backslash in a field, and a body that ends in a quoted run
    ∷ (1, ascii "{a\\}", 27, 3)
    ∷ (1, ascii "{a['b]}", 27, 7)
    -- 28, after it: the 65th bracket
    ∷ (1, ascii "{((((((((((((((((((((((((((((((((((((((((((((((((((((((((((((((((()))))))))))))))))))))))))))))))))))))))))))))))))))))))))))))))))}", 28, 66)
    ∷ []
