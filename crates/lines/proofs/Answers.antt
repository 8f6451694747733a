-- What a call over one body answers, and what it leaves in both buffers, are the body's lines. Assumes nothing.
use mathlib.Core.Path.{◌≡◌, refl, sym, ◌∙◌, ap}
use mathlib.Core.List.{List, [], ◌∷◌}
use Prim.Native.Nat.{ℕ, ◌+◌, ◌≤◌, ◌<◌}
use native.Mathlib.Omega.{arith}
use borrow.Author.Tests.{lt-ltb, le-ltb}
use lib.ListN.{length, take, get_or}
use lib.Seq.{take_at}
use Rattle.definition.specs.Numbers.{bodies_too_long}
use Rattle.definition.specs.Escapes.{held_names}
use Rattle.definition.specs.Records.{Answer}
use Rattle.definition.specs.Entry.{Literal, sixes, one_more, total}
use Rattle.definition.specs.Reading.{Outcome, accepts, refuses, read, numbers, words_after, text_after, called, read_numbers}
use Rattle.definition_laws.proofs.Outcomes.Outcomes.{Sane, read_sane}
use Rattle.definition_laws.proofs.Outcomes.Lent.{read_needs, numbers_lent}
use Rattle.entry.specs.declared.Refusal.{Refusal as Why}
use Rattle.entry.proofs.Checks.{clash}
use Rattle.answers.specs.declared.Answer.{Answer as Given}
use Rattle.answers.specs.declared.Outcome.{Outcome as Said}
use Rattle.answers.specs.declared.Outcome.TheVariants.{Accepted, Refused}
use Rattle.strings.specs.Strings.{CallIs}
use Rattle.definition_lines.specs.Lines.{refusal_line, record_lines, outcome_lines, one_literal, body_lines}
use Rattle.objects.specs.Written.{Adds}
use Rattle.objects.proofs.Short.{Small}
use Rattle.lines.specs.Written.{place_lines, Lie, longest, Lists, Room}
use Rattle.lines.proofs.Places.{all_places, gapless_inside, places_inside, lines_short}

-- a body that is too long
pub long_lines : (s : List ℕ) → 1024 < length s → body_lines s ≡ refusal_line bodies_too_long 0 0 0
unfolding body_lines
long_lines s h = rw (lt-ltb 1024 (length s) h)

-- the records that lie in words are the body's, with their text; their lines are not long
pub record Shows (s W T : List ℕ) (x : Given) : Type 0 where
  pub within : x.text ≤ length T
  pub lie : Lie W (take x.text T) x.records
  pub lines : place_lines W (take x.text T) x.records ≡ body_lines s
  pub short : length (body_lines s) ≤ longest

module _ (s words text W T : List ℕ) (room : Room s words text) where
  abbrev one : List Literal
  one = one_literal (length s) ∷ []

  abbrev pub Called : Said → Type 0
  Called r = CallIs (read_numbers held_names s (1 ∷ 0 ∷ 0 ∷ length s ∷ 0 ∷ (length s + 3) ∷ []) words text) W T r

  -- there is room
  pub there : (r : Said) → Called r → CallIs (called (read held_names s one) words text) W T r
  unfolding sixes one_more total
  there r p = rw (numbers_lent held_names s words text (1 ∷ 0 ∷ 0 ∷ length s ∷ 0 ∷ (length s + 3) ∷ []) one refl (omega (arith, room.words_room), omega (arith, room.text_room))) at p

  short_lines : body_lines s ≡ outcome_lines (read held_names s one)
  unfolding body_lines
  short_lines = rw (le-ltb 1024 (length s) room.few)

  pub refused_lines : (x : Why) → Called (Refused x) → refusal_line x.number x.place x.a x.b ≡ body_lines s
  unfolding outcome_lines called numbers
  refused_lines x p = go (read held_names s one) refl (there (Refused x) p)
    where
      go : (o : Outcome Answer) → read held_names s one ≡ o → CallIs (called o words text) W T (Refused x) → refusal_line x.number x.place x.a x.b ≡ body_lines s
      go (accepts y) e q = clash (let z = q.answer in cc)
      go (refuses r) e q = let z = q.answer in let y = short_lines ∙ ap outcome_lines e in cc

  pub accepted_shows : (x : Given) → length W ≡ length words → length T ≡ length text → ((i : ℕ) → Small (get_or W i 0)) → Called (Accepted x) → Shows s W T x
  unfolding outcome_lines called numbers words_after text_after total
  accepted_shows x w t small p = go (read held_names s one) refl (read_sane held_names s one) (there (Accepted x) p)
    where
      go : (o : Outcome Answer) → read held_names s one ≡ o → Sane o → CallIs (called o words text) W T (Accepted x) → Shows s W T x
      go (refuses r) e g q = clash (let z = q.answer in cc)
      go (accepts y) e g q =
          let n = read_needs held_names s one y e in
          let z = q.answer in
          let count : x.records ≡ length y.records = cc in
          let used : x.text ≡ length y.text = cc in
          let text_is : take x.text T ≡ y.text = rw q.text (take_at y.text _ x.text (sym used)) in
          let lines_are : body_lines s ≡ record_lines y.text y.records = short_lines ∙ ap outcome_lines e in
          record {
            within = omega arith;
            lie = record {
              places = omega arith;
              inside = λ i h. rw (text_is, q.words) (places_inside (length y.text) y.records _ (gapless_inside 0 y.records _ g.0) i (omega arith));
            };
            lines = rw (text_is, count, q.words, lines_are) (all_places y.records _ y.text);
            short = rw lines_are (omega (arith, lines_short y.text y.records _ (λ i. rw q.words at (small i))));
          }

-- bytes that are the body's lines, written from the front on
pub lists : {s xs b b' : List ℕ} {r : ℕ} → xs ≡ body_lines s → length xs ≤ longest → Adds xs b 0 b' r → Lists s b b' r
lists {s} {xs} {b} {b'} {r} e l p = record { wrote = rw (← e) p.wrote; size = omega (arith, p.up, ap length e); short = rw (← e) l }
