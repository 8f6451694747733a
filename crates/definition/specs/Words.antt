-- What records are by their numbers alone: the answer that a caller holds, the record rules (RULES 5), and what every expression has. Nothing of the reading uses it.
use Rattle.std.specs.Prelude.{ℕ, zero, suc, ◌+◌, ◌-◌, ◌*◌, Bool, true, false, ◌&&◌, ◌||◌, not, List, [], ◌∷◌, leb, eqb, length, get_or, take, drop, if◌then◌else◌}
use Rattle.std.specs.Bool.{beq}
use Rattle.definition.specs.Chars.{◌is◌, part}
use Rattle.definition.specs.Matched.{matched, blank}
use Rattle.definition.specs.Records.{Role, top, raw, inner, Record, Sort, plain, joined, bytes_only, Answer}

-- word k of some words; 0 where they end before it
abbrev pub word : List ℕ → ℕ → ℕ
word words k = get_or words k 0

-- the text of a record's words
unfoldable pub text_of : (text words : List ℕ) → List ℕ
text_of text words = part text (word words 1) (word words 1 + word words 2)

-- ROLES. A field with a spec owes that, a spec owes its parts. What is owed after a record of so many parts, where `owed` were owed
abbrev pub owing : (owed parts : ℕ) → ℕ
owing owed parts = owed - 1 + parts

-- a literal is top-level where nothing is owed
unfoldable pub role_at : (owed kind : ℕ) → Role
role_at owed kind = if eqb kind 4 then raw else if eqb kind 1 && eqb owed 0 then top else inner

-- so many records, from a word buffer on
unfoldable pub records_from : (count owed : ℕ) (words : List ℕ) → List Record
records_from zero owed w = []
records_from (suc n) owed w =
    record {
      role = role_at owed (word w 0);
      kind = word w 0;
      offset = word w 1;
      size = word w 2;
      start = word w 3;
      end = word w 4;
      mode = word w 5;
      parts = word w 6;
      place = word w 7;
    }
    ∷ records_from n (owing owed (word w 6)) (drop 8 w)

-- the sort of a number
unfoldable pub sort_from : ℕ → Sort
sort_from n = if eqb n 0 then plain else if eqb n 1 then joined else bytes_only

-- AN ANSWER from its numbers, its words and its text, whatever follows them in their buffers
unfoldable pub answer_from : (sort u_mark start end count size chars : ℕ) (words text : List ℕ) → Answer
answer_from sort u start end count size chars words text =
    record { sort = sort_from sort; u_mark = u; start = start; end = end; records = records_from count 0 words; text = take size text; chars = chars }

-- THE ANSWER THAT A CALLER HOLDS: from the numbers that were returned, 0 first, and both buffers
unfoldable pub held_from : (numbers words text : List ℕ) → Answer
held_from ns words text = answer_from (word ns 1) (word ns 2) (word ns 3) (word ns 4) (word ns 5) (word ns 6) (word ns 8) words text

-- THE RECORD RULES. So many records and text bytes lie in the buffers
unfoldable pub lie : (count size : ℕ) (words text : List ℕ) → Bool
lie count size words text = leb (count * 8) (length words) && leb size (length text)

-- none, s, a or r
abbrev pub is_conversion : ℕ → Bool
is_conversion c = eqb c 0 || c is "sar"

-- a known kind, a conversion that there is, parts that the kind may have, and 0 in each word that it has no use for
unfoldable pub fits : (kind size mode parts place : ℕ) → Bool
fits kind size mode parts place =
    if eqb kind 1 then eqb parts 0 && eqb place 0 else
    if eqb kind 2 then is_conversion mode && leb parts 1 else
    if eqb kind 3 then eqb size 0 && eqb mode 0 && eqb place 0 else
    eqb kind 4 && eqb parts 0 && eqb place 0

unfoldable pub all_fit : List Record → Bool
all_fit [] = true
all_fit (r ∷ rs) = fits r.kind r.size r.mode r.parts r.place && all_fit rs

-- a field with a spec
abbrev pub has_spec : (kind parts : ℕ) → Bool
has_spec kind parts = eqb kind 2 && eqb parts 1

-- a spec comes right after a field that has one and nowhere else, no bytes record is owed, and in the end nothing is
unfoldable pub ordered : (due : Bool) (owed : ℕ) → List Record → Bool
ordered due owed [] = eqb owed 0
ordered due owed (r ∷ rs) =
    beq (eqb r.kind 3) due
    && (not (eqb r.kind 4) || eqb owed 0)
    && ordered (has_spec r.kind r.parts) (owing owed r.parts) rs

-- the texts lie in record order without gaps, from n to the text's end
unfoldable pub gapless : ℕ → List Record → ℕ → Bool
gapless n [] size = eqb n size
gapless n (r ∷ rs) size = eqb r.offset n && gapless (n + r.size) rs size

-- no bytes record is among them
unfoldable pub no_bytes : List Record → Bool
no_bytes [] = true
no_bytes (r ∷ rs) = not (eqb r.kind 4) && no_bytes rs

-- there is one, of a kind
unfoldable pub one_of : ℕ → List Record → Bool
one_of kind [] = false
one_of kind (r ∷ []) = eqb r.kind kind
one_of kind (r ∷ r' ∷ rs) = false

-- without an f-string there is one record; with one there is none of bytes
unfoldable pub sorted : Sort → List Record → Bool
sorted plain rs = one_of 1 rs
sorted joined rs = no_bytes rs
sorted bytes_only rs = one_of 4 rs

-- FORMED: kinds, parts, order, offsets and sort are right
unfoldable pub records_formed : Answer → Bool
records_formed x =
    all_fit x.records && ordered false 0 x.records && gapless 0 x.records (length x.text) && sorted x.sort x.records

-- a spec has its field's range, and so have the spec's parts; start and end are those of the record before
unfoldable pub together : (owed start end : ℕ) → List Record → Bool
together owed start end [] = true
together owed start end (r ∷ rs) =
    (eqb owed 0 || eqb r.start start && eqb r.end end) && together (owing owed r.parts) r.start r.end rs

-- a top-level literal or a bytes record
unfoldable pub at_top : Role → Bool
at_top top = true
at_top raw = true
at_top inner = false

-- these have the whole range and u mark; other literals have the u mark 0
unfoldable pub whole : (start end u : ℕ) → List Record → Bool
whole start end u [] = true
whole start end u (r ∷ rs) =
    (if at_top r.role then eqb r.start start && eqb r.end end && eqb r.mode u else (not (eqb r.kind 1) || eqb r.mode 0))
    && whole start end u rs

-- two top-level literals, or two bytes records
unfoldable pub alike : Role → Role → Bool
alike top top = true
alike top raw = false
alike top inner = false
alike raw top = false
alike raw raw = true
alike raw inner = false
alike inner m = false

-- no two of these touch
unfoldable pub apart : List Record → Bool
apart [] = true
apart (r ∷ []) = true
apart (r ∷ r' ∷ rs) = not (alike r.role r'.role) && apart (r' ∷ rs)

-- WELL FORMED: all of the record rules
unfoldable pub records_well_formed : Answer → Bool
records_well_formed x =
    records_formed x
    && together 0 0 0 x.records
    && whole x.start x.end x.u_mark x.records
    && apart x.records
    && leb x.u_mark 1

-- WHAT YOU MAY ASSUME OF EVERY EXPRESSION (RULES 5.10). The text of each field is matched and not blank
unfoldable pub expressed : (text : List ℕ) → List Record → Bool
expressed text [] = true
expressed text (r ∷ rs) =
    let e = part text r.offset (r.offset + r.size) in
    (not (eqb r.kind 2) || matched e && not (blank e)) && expressed text rs

-- Of the records before, the last one first: how many parts are to come. The next record is a part of the first that has any. What it stands
-- in, without it
unfoldable pub within : List ℕ → List ℕ
within [] = []
within (zero ∷ ns) = within ns
within (suc n ∷ ns) = n ∷ ns

-- fields lie at most two deep: a field stands in no record, or in a field and its spec; the first of these records stands in ns
unfoldable pub two_deep : (ns : List ℕ) → List Record → Bool
two_deep ns [] = true
two_deep ns (r ∷ rs) = (not (eqb r.kind 2) || leb (length ns) 2) && two_deep (within (r.parts ∷ ns)) rs

-- ASSURED: both, and no two top-level literals touch
unfoldable pub assured : Answer → Bool
assured x = expressed x.text x.records && two_deep [] x.records && apart x.records
