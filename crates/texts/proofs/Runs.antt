-- Runs of plain bytes: their characters go into the text one after the other. Assumes nothing.
use mathlib.Core.Path.{◌≡◌, ◌∙◌}
use mathlib.Core.Bool.{false, ◌&&◌}
use mathlib.Core.List.{List, [], ◌++◌, append-nil, append_assoc}
use Prim.Native.Nat.{ℕ, zero, suc, ◌+◌, ◌-◌, ◌≤◌, ◌<◌}
use native.Mathlib.Omega.{arith}
use borrow.Author.Tests.{lt-leb, leb-true, leb-false}
use lib.Dec.{leb}
use lib.ListN.{length, length-append}
use lib.Seq.{take-add, drop-drop}
use Rattle.definition.specs.Numbers.{is_bytes}
use Rattle.definition.specs.Chars.{byte, part, at_end, code, next, char}
use Rattle.definition.specs.Escapes.{Naming}
use Rattle.definition.specs.Body.{Move, goes, string_case, string_move, text_case, text_move}
use Rattle.definition.proofs.Moves.CharLaws.{cases, next_from, next_past, next_in, code_ascii, code_is}
use Rattle.marks.specs.Marks.{special}
use Rattle.plain.specs.Plain.{plain_end}
use Rattle.plain.proofs.Runs.{plain, end_past, end_special, end_char}
use Rattle.buffers.proofs.Over.{over_append}
use Rattle.texts.specs.declared.Reached.{Reached}
use Rattle.texts.specs.Text.{PlainIs, Leads, more, Upto}
use Rattle.texts.proofs.Laws.{start}

-- a part, cut in two
part_split : (s : List ℕ) (i k e : ℕ) → i ≤ k → k ≤ e → part s i e ≡ part s i k ++ part s k e
part_split s i k e h l =
    let a : e - i ≡ (k - i) + (e - k) = omega arith in
    let b : i + (k - i) ≡ k = omega arith in
    rw (a, take-add, drop-drop, b)

module _ (kind : ℕ) (s : List ℕ) where
  -- what goes on over each plain character goes on over a run of them
  module _ (move : ℕ → List ℕ → Move (List ℕ)) (from : ℕ) (step : (i : ℕ) (c : List ℕ) → i < length s → special kind (byte s i) ≡ false → move i c ≡ goes (next s i) (c ++ char s i)) where
    abbrev Same : ℕ → List ℕ → Type 0
    Same i c = Leads move from [] i c

    abbrev After : ℕ → List ℕ → Type 0
    After i c = Same (plain_end kind s i) (c ++ part s i (plain_end kind s i))

    none : (i : ℕ) (c : List ℕ) → plain_end kind s i ≡ i → Same i c → After i c
    none i c e m = let z : i - i ≡ 0 = omega arith in rw (e, z, append-nil) m

    longer : (i : ℕ) (c : List ℕ) → i < length s → special kind (byte s i) ≡ false → After (next s i) (c ++ char s i) → After i c
    unfolding char
    longer i c h e m =
        rw (end_char kind s i h e, part_split s i (next s i) (plain_end kind s (next s i)) (next_from s i) (omega arith), ← append_assoc) m

    run : (n i : ℕ) (c : List ℕ) → length s ≤ i + n → i ≤ length s → Same i c → After i c
    run zero i c h l m = none i c (end_past kind s i (omega arith)) m
    run (suc n) i c h l m =
        cases (at_end s i) (λ t. none i c (end_past kind s i (leb-true _ _ t)) m)
        (λ t.
        let k : i < length s = leb-false _ _ t in
        cases (special kind (byte s i)) (λ e. none i c (end_special kind s i k e) m)
        (λ e. longer i c k e (run n (next s i) (c ++ char s i) (omega (arith, next_past s i k)) (next_in s i l) (more m (step i c k e)))))

    -- and so what holds between two moves
    after_run : (used : ℕ) (text₀ text : List ℕ) (i end : ℕ) → Upto move from used text₀ text i end → i ≤ length s → (text' : List ℕ) (r : Reached) → PlainIs kind s i end text text' r
        → Upto move from used text₀ text' r.cursor.at r.used
    after_run used text₀ text i end u h text' r p =
        let t = part s i r.cursor.at in
        let l = length-append u.content t in
        record {
          content = u.content ++ t;
          leads = rw p.0 (run (length s) i u.content (omega arith) h u.leads);
          wrote = p.2 ∙ rw (u.wrote, u.ended) (over_append text₀ used u.content t);
          ended = omega (arith, u.ended);
        }

  -- a plain character of a string, and of f-string text
  module _ (look : Naming) (i : ℕ) (c : List ℕ) (h : i < length s) (e : special kind (byte s i) ≡ false) where
    foreign_not : (is_bytes kind && leb 0x80 (code s i)) ≡ false
    foreign_not =
        cases (is_bytes kind)
        (λ t. let a = rw t at (plain kind (byte s i) e).ascii in rw (code_ascii s i (leb-false _ _ a), t) a)
        (λ t. rw t)

    string_plain : string_move look kind s i c ≡ goes (next s i) (c ++ char s i)
    unfolding string_move string_case
    string_plain =
        rw (lt-leb _ _ h, code_is s i 92 (omega arith), (plain kind (byte s i) e).backslash, foreign_not, string_move, string_case)

    text_plain : (depth : ℕ) → depth < 2 → text_move look kind s depth i c ≡ goes (next s i) (c ++ char s i)
    unfolding text_move text_case
    text_plain depth d =
        let p = plain kind (byte s i) e in
        rw (lt-leb _ _ d, lt-leb _ _ h, code_is s i 123 (omega arith), p.left, code_is s i 125 (omega arith), p.right, code_is s i 92 (omega arith), p.backslash, text_move, text_case)

-- AFTER A RUN
module _ (look : Naming) (kind : ℕ) (s : List ℕ) (used : ℕ) (text₀ text : List ℕ) (i end : ℕ) where
  pub string_run : Upto (string_move look kind s) 0 used text₀ text i end → i ≤ length s → (text' : List ℕ) (r : Reached) → PlainIs kind s i end text text' r
      → Upto (string_move look kind s) 0 used text₀ text' r.cursor.at r.used
  string_run u h = after_run kind s (string_move look kind s) 0 (string_plain kind s look) used text₀ text i end u h

  pub text_run : (depth from : ℕ) → depth < 2 → Upto (text_move look kind s depth) from used text₀ text i end → i < length s → (text' : List ℕ) (r : Reached) → PlainIs kind s i end text text' r
      → Upto (text_move look kind s depth) from used text₀ text' r.cursor.at r.used
  text_run depth from d u h =
      after_run kind s (text_move look kind s depth) from (λ j c h e. text_plain kind s look j c h e depth d) used text₀ text i end u (omega arith)

-- a string's plain bytes from its front on
pub string_first : (look : Naming) (kind : ℕ) (s : List ℕ) (used : ℕ) (text text' : List ℕ) (r : Reached) → PlainIs kind s 0 used text text' r
    → Upto (string_move look kind s) 0 used text text' r.cursor.at r.used
string_first look kind s used text text' r h =
    string_run look kind s used text text 0 used (start (string_move look kind s) 0 used text) (omega arith) text' r h
