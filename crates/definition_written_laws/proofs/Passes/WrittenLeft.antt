-- WHAT EVERY CALL TELLS AND LEAVES: a body, or one of 54, 55 and 56; zeros after a refusal, what was there behind the body; one result. Assumes nothing.
use mathlib.Core.Path.{◌≡◌, refl, sym, ◌∙◌, ap, ap₂}
use mathlib.Core.Bool.{Bool, true, false}
use mathlib.Core.List.{List}
use Prim.Native.Nat.{ℕ, ◌≤◌, ◌<◌}
use native.Mathlib.Omega.{arith}
use lib.Dec.{leb}
use lib.ListN.{length, take, drop}
use lib.Seq.{take-append_seam}
use borrow.Author.Tests.{leb-true, leb-false}
use Rattle.definition.specs.Numbers.{not_writable, not_read_back, too_little_body_room}
use Rattle.definition.specs.Escapes.{Naming}
use Rattle.definition.specs.Words.{word}
use Rattle.definition.specs.Left.{Left}
use Rattle.definition_laws.proofs.Outcomes.Leaving.{left_zeros, left_front}
use Rattle.definition_formed.specs.Formed.{Lent, lent_answer}
use Rattle.definition_written.specs.Written.{content, top, spelled, reads_alike, writable, Writing, writes, stops, written, body_after, written_into, written_numbers}

-- what is told in a buffer of so many bytes: 56 only for more
pub data Told (room : ℕ) : Writing → Type 0 where
  body : (s : List ℕ) → length s ≤ room → Told room (writes s)
  unwritable : Told room (stops not_writable 0)
  otherwise : Told room (stops not_read_back 0)
  short : (n : ℕ) → room < n → Told room (stops too_little_body_room n)

pub written_told : (look : Naming) (x : Lent) (room : ℕ) → Told room (written look x room)
unfolding written
written_told look x room = go (writable x) refl (reads_alike look (content (lent_answer x))) refl (leb (length s) room) refl
  where
    s : List ℕ
    s = spelled top (content (lent_answer x))

    go : (a : Bool) → writable x ≡ a → (b : Bool) → reads_alike look (content (lent_answer x)) ≡ b → (c : Bool) → leb (length s) room ≡ c → Told room (written look x room)
    go false e b f c g = rw (e, written) unwritable
    go true e false f c g = rw (e, written) (rw f otherwise)
    go true e true f false g = rw (e, written) (rw f (rw g (short (length s) (leb-false (length s) room g))))
    go true e true f true g = rw (e, written) (rw f (rw g (body s (leb-true (length s) room g))))

-- THE BUFFER
abbrev number : Writing → ℕ
number o = word (written_numbers o) 0

pub written_left : (look : Naming) (x : Lent) (buffer : List ℕ)
    → Left (number (written_into look x buffer).result) (word (written_numbers (written_into look x buffer).result) 1) buffer (written_into look x buffer).body
unfolding written_into body_after written_numbers
written_left look x buffer = go (written look x (length buffer)) (written_told look x (length buffer))
  where
    go : (o : Writing) → Told (length buffer) o → Left (number o) (word (written_numbers o) 1) buffer (body_after o buffer)
    go (writes s) (body t h) = left_front (length s) s buffer refl h
    go (stops n k) unwritable = left_zeros not_writable 0 buffer (omega arith)
    go (stops n k) otherwise = left_zeros not_read_back 0 buffer (omega arith)
    go (stops n k) (short m h) = left_zeros too_little_body_room 0 buffer (omega arith)

-- ONE RESULT: calls that return the same numbers and leave the same in the buffer
stop_number : (room n k : ℕ) → Told room (stops n k) → 1 ≤ n
stop_number room n k unwritable = omega arith
stop_number room n k otherwise = omega arith
stop_number room n k (short m h) = omega arith

pub written_one : (look look' : Naming) (x x' : Lent) (buffer buffer' : List ℕ)
    → ((k : ℕ) → word (written_numbers (written_into look x buffer).result) k ≡ word (written_numbers (written_into look' x' buffer').result) k)
    → (written_into look x buffer).body ≡ (written_into look' x' buffer').body → (written_into look x buffer).result ≡ (written_into look' x' buffer').result
unfolding written_into body_after written_numbers
written_one look look' x x' buffer buffer' = go (written look x (length buffer)) (written look' x' (length buffer')) (written_told look x (length buffer)) (written_told look' x' (length buffer'))
  where
    go : (o o' : Writing) → Told (length buffer) o → Told (length buffer') o' → ((k : ℕ) → word (written_numbers o) k ≡ word (written_numbers o') k) → body_after o buffer ≡ body_after o' buffer' → o ≡ o'
    go (writes s) (writes t) a b n e =
        let l : length s ≡ length t = n 1 in
        ap writes (sym (take-append_seam s (drop (length s) buffer)) ∙ ap₂ take l e ∙ take-append_seam t (drop (length t) buffer'))
    go (writes s) (stops m k) a b n e = let z : 0 ≡ m = n 0 in let p = stop_number (length buffer') m k b in absurd (omega arith)
    go (stops m k) (writes t) a b n e = let z : m ≡ 0 = n 0 in let p = stop_number (length buffer) m k a in absurd (omega arith)
    go (stops m k) (stops m' k') a b n e = ap₂ stops (n 0) (n 9)
