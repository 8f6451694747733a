-- What was written, read alone and written again, is the same body. Assumes nothing.
use mathlib.Core.Path.{◌≡◌, refl, sym, ◌∙◌, ap}
use mathlib.Core.Bool.{Bool, true, false}
use mathlib.Core.List.{List, [], ◌∷◌}
use Prim.Native.Nat.{ℕ}
use native.Mathlib.Omega.{arith}
use lib.Dec.{leb}
use lib.ListN.{length}
use Rattle.definition.specs.Numbers.{not_writable, not_read_back, too_little_body_room}
use Rattle.definition.specs.Escapes.{Naming}
use Rattle.definition.specs.Records.{joined, Answer, answer_of}
use Rattle.definition.specs.Reading.{accepts, read, read_into, called, alone_as, read_alone}
use Rattle.definition_formed.specs.Formed.{Lent, lent_answer}
use Rattle.definition_written.specs.Written.{content, alike, top, spelled, held_alike, reads_alike, writable, writes, stops, written}
use Rattle.definition_laws.proofs.Formed.Held.{into_held}
use Rattle.definition_laws.proofs.Outcomes.Room.{roomed_accepts}
use Rattle.definition_formed.proofs.Characters.TextsRead.{Scalars}
use Rattle.definition_formed.proofs.Formed.LentAgain.{lent_of}
use Rattle.definition_formed.proofs.Formed.ReadFormed.{into_formed}
use Rattle.definition_written_laws.proofs.Readback.BackAnswer.{same_self}
use Rattle.definition_written_laws.proofs.Readback.BackLaw.{alone_is}
use Rattle.definition_written_laws.proofs.Readback.BackReading.{lent_content, leaves_writable}
use Rattle.definition_written_laws.proofs.Passes.WrittenLaw.{same_again}

-- A BODY THAT WAS WRITTEN
pub record Wrote (look : Naming) (x : Lent) (room : ℕ) (s : List ℕ) : Type 0 where
  pub may : writable x ≡ true
  pub back : reads_alike look (content (lent_answer x)) ≡ true
  pub body : spelled top (content (lent_answer x)) ≡ s
  pub fits : leb (length s) room ≡ true

not_written : {P : Type 0} (n k : ℕ) (s : List ℕ) → stops n k ≡ writes s → P
not_written n k s e = let z : ◌≡◌ {A = ℕ} 0 1 = cc in absurd (omega arith)

same_body : (s t : List ℕ) → writes s ≡ writes t → s ≡ t
same_body s t e = cc

module _ (look : Naming) (x : Lent) (room : ℕ) (s : List ℕ) where
  abbrev spelling : List ℕ
  spelling = spelled top (content (lent_answer x))

  pub wrote : written look x room ≡ writes s → Wrote look x room s
  unfolding written
  wrote h = go (writable x) refl (reads_alike look (content (lent_answer x))) refl (leb (length spelling) room) refl
    where
      go : (a : Bool) → writable x ≡ a → (b : Bool) → reads_alike look (content (lent_answer x)) ≡ b → (c : Bool) → leb (length spelling) room ≡ c → Wrote look x room s
      go false e b f c g = not_written not_writable 0 s (rw (e, written) at h)
      go true e false f c g = not_written not_read_back 0 s (rw (e, f, written) at h)
      go true e true f false g = not_written too_little_body_room (length spelling) s (rw (e, f, g, written) at h)
      go true e true f true g = let z = same_body spelling s (rw (e, f, g, written) at h) in record { may = e; back = f; body = z; fits = ap (λ t. leb (length t) room) (sym z) ∙ g }

  pub wrote_back : Wrote look x room s → written look x room ≡ writes s
  unfolding written
  wrote_back w = rw (w.may, w.back, written) (rw (ap (λ t. leb (length t) room) w.body ∙ w.fits) (ap writes w.body))

-- AGAIN: what a call leaves that reads it alone
pub written_again : (look : Naming) → Scalars look → (x : Lent) (room : ℕ) (s : List ℕ) → written look x room ≡ writes s
    → (words text : List ℕ) (y : Answer) → (read_into look s (alone_as s ∷ []) words text).outcome ≡ accepts y → written look (lent_of (read_into look s (alone_as s ∷ []) words text)) room ≡ writes s
unfolding read_into called read_alone reads_alike held_alike answer_of
written_again look scalars x room s h words text y e =
    let w = wrote look x room s h in
    let p = content (lent_answer x) in
    let c = read_into look s (alone_as s ∷ []) words text in
    let r : read_alone look s ≡ accepts y = roomed_accepts (length words) (length text) (read look s (alone_as s ∷ [])) y e in
    let r' : read_alone look (spelled top p) ≡ accepts y = ap (read_alone look) w.body ∙ r in
    let same : spelled top (content y) ≡ s = same_again look p y w.back r' ∙ w.body in
    let sort : y.sort ≡ joined = ap (λ z. z.sort) (alone_is look s y r).made in
    let holds = lent_content c (into_held look s (alone_as s ∷ []) words text) y e in
    wrote_back look (lent_of c) room s (record {
      may = leaves_writable c (into_formed look scalars s (alone_as s ∷ []) words text) y e sort;
      back = ap (reads_alike look) holds ∙ (ap (λ t. held_alike (content y) (read_alone look t)) same ∙ rw r (same_self (alike (content y))));
      body = ap (spelled top) holds ∙ same;
      fits = w.fits;
    })
