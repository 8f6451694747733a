-- A list of cuts passes exactly if the body is accepted, every cut stands between two tokens, and every piece keeps to the limit. Assumes nothing.
use Rattle.std.specs.Prelude.{if◌then◌else◌}
use mathlib.Core.Path.{◌≡◌, refl, sym, ◌∙◌, ap, subst}
use mathlib.Core.Bool.{Bool, true, false, ◌&&◌, not}
use mathlib.Core.List.{List, [], ◌∷◌, ◌++◌, append_assoc}
use mathlib.Core.Logic.{◌⊎◌, inl, inr}
use Prim.Native.Nat.{ℕ, suc, ◌+◌, ◌-◌, ◌≤◌, ◌<◌}
use native.Mathlib.Omega.{arith}
use borrow.Author.Tests.{ltb-true, leb-true, le-leb}
use lib.Dec.{ltb, leb}
use lib.ListN.{length, drop, length-drop, length-append}
use lib.Seq.{take_all}
use Rattle.definition.specs.Chars.{part, code, utf8}
use Rattle.definition.specs.Escapes.{held_names, octal_digit}
use Rattle.definition.specs.Body.{Piece, filled}
use Rattle.definition.specs.Records.{Answer}
use Rattle.definition.specs.Reading.{Outcome, accepts, refuses, read_alone}
use Rattle.definition.specs.Join.{join, join_outcomes}
use Rattle.definition_cuts.specs.Cuts.{is_read, rise, pieces, all_short, all_read, join_all, same_records, equal, checked, Passes}
use Rattle.definition.proofs.Moves.CharLaws.{no, code_end, formed_utf8}
use Rattle.definition_laws.proofs.Moves.Cases.{and_both}
use Rattle.definition_cuts_laws.proofs.Windows.WindowFields.{Same}
use Rattle.definition_cuts_laws.proofs.Tokens.TokenSteps.{Eq, eq_append, eq_same, Steps, more, step_ahead, steps_append}
use Rattle.definition_cuts_laws.proofs.Tokens.TokenPaths.{Tokens, tokens_steps, steps_later, steps_tokens, steps_front}
use Rattle.definition_cuts_laws.proofs.Tokens.PieceLaws.{piece_length, outward, inward, piece_steps, body_tokens, Longer}
use Rattle.definition_cuts_laws.proofs.Tokens.FormedPaths.{Formed, formed_append, formed_front, all_formed, formed_all, steps_formed, formed_like}
use Rattle.definition_cuts_laws.proofs.Cuts.ShapeLaws.{Has, has_join, has_equal, text_of, equal_texts}
use Rattle.definition_cuts_laws.proofs.Cuts.AloneLaws.{Fit, fit_accepted, accepted_fit}
use Rattle.definition_cuts_laws.proofs.Cuts.OctalLaws.{text_append, text_filled, text_eq, digits_more, cancel, not_shorter, differ}

-- TOKENS FROM CUT TO CUT, and on to the end
abbrev pub Chain : List ℕ → (from : ℕ) → List ℕ → Type 0
Chain s from [] = (ps : List Piece) × Tokens held_names s from (length s) ps
Chain s from (c ∷ cs) = ((ps : List Piece) × Tokens held_names s from c ps) × Chain s c cs

-- the last piece
pub last_piece : (s : List ℕ) (from : ℕ) → part s from (length s) ≡ drop from s
last_piece s from = take_all (length s - from) (drop from s) (omega (arith, length-drop from s))

-- the pieces are joined one by one
join_cons : (s : List ℕ) (p : List ℕ) (c : ℕ) (cs : List ℕ) → join_all (p ∷ pieces s c cs) ≡ join_outcomes 1 (read_alone held_names p) (join_all (pieces s c cs))
unfolding join_all pieces
join_cons s p c [] = refl
join_cons s p c (d ∷ cs) = refl

join_accepts : (o o' : Outcome Answer) (x y : Answer) → o ≡ accepts x → o' ≡ accepts y → join_outcomes 1 o o' ≡ accepts (join x y)
unfolding join_outcomes
join_accepts o o' x y e f = rw (e, f) refl

pub accepts_read : (o : Outcome Answer) (x : Answer) → o ≡ accepts x → is_read o ≡ true
unfolding is_read
accepts_read o x e = rw e refl

-- A PIECE READ ALONE
module _ (s : List ℕ) (from c : ℕ) (h : from ≤ c) (l : c ≤ length s) where
  -- accepted: its characters and what its steps are in the body
  pub piece_read : is_read (read_alone held_names (part s from c)) ≡ true → (x : Answer) × (ps : List Piece) × (read_alone held_names (part s from c) ≡ accepts x) × Has x ps × Formed s from c
      × (((ps' : List Piece) × Tokens held_names s from c ps' × Same ps ps') ⊎ Longer held_names s c from ps)
  piece_read e =
      let u = part s from c in
      let pl = piece_length s from c h l in
      let A = accepted_fit u e in
      let ps = A.1.0 in
      let S = A.1.1 in
      let U = formed_utf8 u A.0.1 in
      let W = outward s from c h l U in
      let F = formed_like u s from 0 0 (c - from) W 0 (length u) from (all_formed u A.0.1) (omega arith) (omega arith, omega arith) in
      let B = fit_accepted u A.0 ps S in
      let T = steps_tokens held_names u 0 (length u) ps S refl (omega arith) in
      let z : F.0 ≡ c = omega (arith, F.2) in
      (B.0, ps, B.1, B.2, subst (λ (k : ℕ). Formed s from k) z F.1, body_tokens held_names s from c h l U 0 (length u) from ps T pl (omega arith) (omega arith))

  -- tokens of the body: it is accepted
  pub piece_accepted : Formed s 0 (length s) → Formed s from c → c - from ≤ 1048576 → (ps : List Piece) → Tokens held_names s from c ps
      → (x : Answer) × (ps' : List Piece) × (read_alone held_names (part s from c) ≡ accepts x) × Has x ps' × Same ps ps'
  piece_accepted F G k ps T =
      let u = part s from c in
      let pl = piece_length s from c h l in
      let W = inward s from c h l (formed_utf8 s (formed_all s F)) in
      let H = formed_like s u 0 from from c W from c 0 G (omega arith) (omega arith, omega arith) in
      let z : H.0 ≡ length u = omega (arith, H.2) in
      let P = piece_steps held_names s from c h l (formed_utf8 s (formed_all s F)) from c 0 ps T (omega arith) (omega arith) (omega arith) (omega arith) in
      let y : P.1 ≡ length u = omega (arith, P.3) in
      let f : Fit u = (omega arith, formed_all u (subst (λ (k : ℕ). Formed u 0 k) z H.1)) in
      let B = fit_accepted u f P.0 (subst (λ (k : ℕ). Steps held_names u 0 k P.0) y P.2) in
      (B.0, P.0, B.1, B.2, P.4)

-- ALL PIECES READ: the body's steps go on to the end; and the readings are equal exactly if all cuts stand between tokens
pub record Joined (s : List ℕ) (from : ℕ) (cs : List ℕ) : Type 0 where
  pub answer : Answer
  pub pieces_of : List Piece
  pub whole : List Piece
  pub joins : join_all (pieces s from cs) ≡ accepts answer
  pub has : Has answer pieces_of
  pub steps : Steps held_names s from (length s) whole
  pub formed : Formed s from (length s)
  pub longer : length (text_of whole) ≤ length (text_of pieces_of)
  pub verdict : (Eq whole pieces_of × Chain s from cs) ⊎ (text_of whole ≡ text_of pieces_of → ⊥)

-- an octal digit stands in the body
digit_in : (s : List ℕ) → ltb (octal_digit (code s (length s))) 8 ≡ true → ⊥
unfolding octal_digit
digit_in s e = let z : code s (length s) ≡ 0x110000 = code_end s (length s) (omega arith) in no (rw z at e)

joined_last : (s : List ℕ) (from : ℕ) → from ≤ length s → is_read (read_alone held_names (drop from s)) ≡ true → Joined s from []
unfolding join_all pieces
joined_last s from h e =
    let P = piece_read s from (length s) h (omega arith) (ap (λ u. is_read (read_alone held_names u)) (last_piece s from) ∙ e) in
    go P.0 P.1 (ap (read_alone held_names) (sym (last_piece s from)) ∙ P.2) P.3 P.4 P.5
  where
    go : (x : Answer) (ps : List Piece) → read_alone held_names (drop from s) ≡ accepts x → Has x ps → Formed s from (length s)
        → ((ps' : List Piece) × Tokens held_names s from (length s) ps' × Same ps ps') ⊎ Longer held_names s (length s) from ps → Joined s from []
    go x ps r H F (inl (ps', T, m)) = record {
      answer = x;
      pieces_of = ps;
      whole = ps';
      joins = r;
      has = H;
      steps = tokens_steps held_names s from (length s) ps' T;
      formed = F;
      longer = omega (arith, ap length (text_eq ps ps' (eq_same ps ps' m)));
      verdict = inl (sym (eq_same ps ps' m), (ps', T));
    }
    go x ps r H F (inr L) = absurd (digit_in s L.digit)

joined_tokens : (s : List ℕ) (from c : ℕ) (cs : List ℕ) (x : Answer) (ps ps' : List Piece) → read_alone held_names (part s from c) ≡ accepts x → Has x ps → Formed s from c
    → Tokens held_names s from c ps' → Same ps ps' → Joined s c cs → Joined s from (c ∷ cs)
unfolding pieces
joined_tokens s from c cs x ps ps' r H F T m J = record {
  answer = join x J.answer;
  pieces_of = ps ++ J.pieces_of;
  whole = ps' ++ J.whole;
  joins = join_cons s (part s from c) c cs ∙ join_accepts (read_alone held_names (part s from c)) (join_all (pieces s c cs)) x J.answer r J.joins;
  has = has_join x J.answer ps J.pieces_of H J.has;
  steps = steps_append held_names s from c (length s) ps' J.whole (tokens_steps held_names s from c ps' T) J.steps;
  formed = formed_append s from c (length s) F J.formed;
  longer = omega (arith, J.longer, lengths ps' J.whole, lengths ps J.pieces_of, ap length same_text);
  verdict = judge J.verdict;
}
  where
    same_text : text_of ps ≡ text_of ps'
    same_text = text_eq ps ps' (eq_same ps ps' m)

    lengths : (a b : List Piece) → length (text_of (a ++ b)) ≡ length (text_of a) + length (text_of b)
    lengths a b = ap length (text_append a b) ∙ length-append (text_of a) (text_of b)

    judge : (Eq J.whole J.pieces_of × Chain s c cs) ⊎ (text_of J.whole ≡ text_of J.pieces_of → ⊥)
        → (Eq (ps' ++ J.whole) (ps ++ J.pieces_of) × Chain s from (c ∷ cs)) ⊎ (text_of (ps' ++ J.whole) ≡ text_of (ps ++ J.pieces_of) → ⊥)
    judge (inl (e, C)) = inl (eq_append ps' ps J.whole J.pieces_of (sym (eq_same ps ps' m)) e, ((ps', T), C))
    judge (inr f) =
        inr (λ e.
        f (cancel (text_of ps) (text_of J.whole) (text_of J.pieces_of)
        (ap (λ t. t ++ text_of J.whole) same_text ∙ sym (text_append ps' J.whole) ∙ e ∙ text_append ps J.pieces_of)))

joined_octal : (s : List ℕ) (from c : ℕ) (cs : List ℕ) (x : Answer) (ps : List Piece) → from ≤ length s → c ≤ length s → read_alone held_names (part s from c) ≡ accepts x → Has x ps → Formed s from c
    → Longer held_names s c from ps → Joined s c cs → Joined s from (c ∷ cs)
unfolding pieces
joined_octal s from c cs x ps fl cl r H F L J = record {
  answer = join x J.answer;
  pieces_of = ps ++ J.pieces_of;
  whole = W;
  joins = join_cons s (part s from c) c cs ∙ join_accepts (read_alone held_names (part s from c)) (join_all (pieces s c cs)) x J.answer r J.joins;
  has = has_join x J.answer ps J.pieces_of H J.has;
  steps = steps_append held_names s from L.at (length s) L.front (filled 0 (utf8 L.all) ++ R.0) S (more at_in L.whole R.1);
  formed = formed_append s from c (length s) F J.formed;
  longer = omega (arith, not_shorter L.more_digits L.value s c L.all L.end L.small L.rest (text_of L.front) (text_of R.0) (text_of J.pieces_of) long, ap length whole_text, ap length pieces_text);
  verdict = inr (λ e. differ L.more_digits L.value s c L.all L.end L.small L.rest (text_of L.front) (text_of R.0) (text_of J.pieces_of) long (sym whole_text ∙ e ∙ pieces_text));
}
  where
    S : Steps held_names s from L.at L.front
    S = tokens_steps held_names s from L.at L.front L.path

    at_in : L.at < length s
    at_in = (step_ahead held_names s L.at L.end (filled 0 (utf8 L.all)) (steps_later held_names s from L.at L.front S fl).1 L.whole).3

    D : (ds : List Piece) × Steps held_names s c L.end ds × (1 ≤ length (text_of ds)) × (c < L.end)
    D = digits_more held_names L.more_digits L.value s c L.all L.end L.rest L.digit

    -- what follows the escape
    R : (rs : List Piece) × Steps held_names s L.end (length s) rs × (J.whole ≡ D.0 ++ rs)
    R = steps_front held_names s c L.end (length s) D.0 J.whole D.1 J.steps refl cl

    W : List Piece
    W = L.front ++ (filled 0 (utf8 L.all) ++ R.0)

    whole_text : text_of W ≡ text_of L.front ++ (utf8 L.all ++ text_of R.0)
    whole_text = text_append L.front (filled 0 (utf8 L.all) ++ R.0) ∙ ap (λ t. text_of L.front ++ t) (text_append (filled 0 (utf8 L.all)) R.0 ∙ ap (λ t. t ++ text_of R.0) (text_filled (utf8 L.all)))

    front_text : text_of ps ≡ text_of L.front ++ utf8 L.value
    front_text = text_eq ps (L.front ++ filled 0 (utf8 L.value)) (eq_same ps (L.front ++ filled 0 (utf8 L.value)) L.front_same) ∙ text_append L.front (filled 0 (utf8 L.value)) ∙ ap (λ t. text_of L.front ++ t) (text_filled (utf8 L.value))

    pieces_text : text_of (ps ++ J.pieces_of) ≡ text_of L.front ++ (utf8 L.value ++ text_of J.pieces_of)
    pieces_text = text_append ps J.pieces_of ∙ ap (λ t. t ++ text_of J.pieces_of) front_text ∙ append_assoc (text_of L.front) (utf8 L.value) (text_of J.pieces_of)

    long : 1 + length (text_of R.0) ≤ length (text_of J.pieces_of)
    long = omega (arith, J.longer, D.2, ap (λ l. length (text_of l)) R.2, ap length (text_append D.0 R.0), length-append (text_of D.0) (text_of R.0))

pub all_joined : (s : List ℕ) (from : ℕ) (cs : List ℕ) → from ≤ length s → rise (length s) from cs ≡ true → all_read (pieces s from cs) ≡ true → Joined s from cs
unfolding rise all_read pieces
all_joined s from [] h r e = joined_last s from h (and_both (is_read (read_alone held_names (drop from s))) true e).0
all_joined s from (c ∷ cs) h r e = go (all_joined s c cs)
  where
    a : (ltb from c && ltb c (length s) ≡ true) × (rise (length s) c cs ≡ true)
    a = and_both (ltb from c && ltb c (length s)) (rise (length s) c cs) r

    b : (ltb from c ≡ true) × (ltb c (length s) ≡ true)
    b = and_both (ltb from c) (ltb c (length s)) a.0

    d : (is_read (read_alone held_names (part s from c)) ≡ true) × (all_read (pieces s c cs) ≡ true)
    d = and_both (is_read (read_alone held_names (part s from c))) (all_read (pieces s c cs)) e

    fc : from < c
    fc = ltb-true from c b.0

    cl : c < length s
    cl = ltb-true c (length s) b.1

    met : (x : Answer) (ps : List Piece) → read_alone held_names (part s from c) ≡ accepts x → Has x ps → Formed s from c
        → ((ps' : List Piece) × Tokens held_names s from c ps' × Same ps ps') ⊎ Longer held_names s c from ps → Joined s c cs → Joined s from (c ∷ cs)
    met x ps q H F (inl (ps', T, m)) J = joined_tokens s from c cs x ps ps' q H F T m J
    met x ps q H F (inr L) J = joined_octal s from c cs x ps h (omega (arith, cl)) q H F L J

    go : (c ≤ length s → rise (length s) c cs ≡ true → all_read (pieces s c cs) ≡ true → Joined s c cs) → Joined s from (c ∷ cs)
    go ih =
        let P = piece_read s from c (omega (arith, fc)) (omega (arith, cl)) d.0 in
        met P.0 P.1 P.2 P.3 P.4 P.5 (ih (omega (arith, cl)) a.1 d.1)

-- A CHAIN OF TOKENS: all pieces are read, and joined they are the whole reading
pub record Whole (s : List ℕ) (from : ℕ) (cs : List ℕ) : Type 0 where
  pub answer : Answer
  pub pieces_of : List Piece
  pub whole : List Piece
  pub all_read_lem : all_read (pieces s from cs) ≡ true
  pub joins : join_all (pieces s from cs) ≡ accepts answer
  pub has : Has answer pieces_of
  pub steps : Steps held_names s from (length s) whole
  pub equals : Eq whole pieces_of

-- all pieces of a short body are short
pub all_short_lem : (s : List ℕ) (from n : ℕ) (cs : List ℕ) → from ≤ length s → rise (length s) from cs ≡ true → length s ≤ n → all_short n (pieces s from cs) ≡ true
unfolding rise all_short pieces
all_short_lem s from n [] h r l = rw (le-leb (length (drop from s)) n (omega (arith, length-drop from s))) refl
all_short_lem s from n (c ∷ cs) h r l =
    let a = and_both (ltb from c && ltb c (length s)) (rise (length s) c cs) r in
    let b = and_both (ltb from c) (ltb c (length s)) a.0 in
    let x = ltb-true from c b.0 in
    let y = ltb-true c (length s) b.1 in
    rw (le-leb (length (part s from c)) n (omega (arith, piece_length s from c (omega arith) (omega arith)))) (all_short_lem s c n cs (omega arith) a.1 l)

pub chain_whole : (s : List ℕ) (from : ℕ) (cs : List ℕ) → from ≤ length s → rise (length s) from cs ≡ true → Formed s 0 (length s) → Formed s from (length s)
    → all_short 1048576 (pieces s from cs) ≡ true → Chain s from cs → Whole s from cs
unfolding rise all_read all_short pieces join_all
chain_whole s from [] h r F G k (ps, T) =
    let sh = leb-true (length (drop from s)) 1048576 (and_both (leb (length (drop from s)) 1048576) true k).0 in
    let P = piece_accepted s from (length s) h (omega arith) F G (omega (arith, length-drop from s)) ps T in
    let e : read_alone held_names (drop from s) ≡ accepts P.0 = ap (read_alone held_names) (sym (last_piece s from)) ∙ P.2 in
    record {
      answer = P.0;
      pieces_of = P.1;
      whole = ps;
      all_read_lem = rw (accepts_read (read_alone held_names (drop from s)) P.0 e) refl;
      joins = e;
      has = P.3;
      steps = tokens_steps held_names s from (length s) ps T;
      equals = eq_same ps P.1 P.4;
    }
chain_whole s from (c ∷ cs) h r F G k ((ps, T), C) =
    let a = and_both (ltb from c && ltb c (length s)) (rise (length s) c cs) r in
    let b = and_both (ltb from c) (ltb c (length s)) a.0 in
    let x = ltb-true from c b.0 in
    let y = ltb-true c (length s) b.1 in
    let d = and_both (leb (length (part s from c)) 1048576) (all_short 1048576 (pieces s c cs)) k in
    let sh = leb-true (length (part s from c)) 1048576 d.0 in
    let H = steps_formed s held_names from c ps (tokens_steps held_names s from c ps T) G h in
    let P = piece_accepted s from c (omega arith) (omega arith) F H (omega (arith, piece_length s from c (omega arith) (omega arith))) ps T in
    let W = chain_whole s c cs (omega arith) a.1 F (formed_front s from c (length s) H G refl) d.1 C in
    record {
      answer = join P.0 W.answer;
      pieces_of = P.1 ++ W.pieces_of;
      whole = ps ++ W.whole;
      all_read_lem = rw (accepts_read (read_alone held_names (part s from c)) P.0 P.2) W.all_read_lem;
      joins = join_cons s (part s from c) c cs ∙ join_accepts (read_alone held_names (part s from c)) (join_all (pieces s c cs)) P.0 W.answer P.2 W.joins;
      has = has_join P.0 W.answer P.1 W.pieces_of P.3 W.has;
      steps = steps_append held_names s from c (length s) ps W.whole (tokens_steps held_names s from c ps T) W.steps;
      equals = eq_append ps P.1 W.whole W.pieces_of (eq_same ps P.1 P.4) W.equals;
    }

equal_is : (o o' : Outcome Answer) (x y : Answer) → o ≡ accepts x → o' ≡ accepts y → equal o o' ≡ same_records x.text y.text x.records y.records
unfolding equal
equal_is o o' x y e f = rw (e, f) refl

pub equal_read : (o o' : Outcome Answer) → equal o o' ≡ true → is_read o' ≡ true
unfolding equal is_read
equal_read (accepts x) (accepts y) e = refl
equal_read (accepts x) (refuses r) e = e
equal_read (refuses r) (accepts y) e = refl
equal_read (refuses r) (refuses r') e = e

-- A LIST THAT PASSES
pub record Stands (s : List ℕ) (limit : ℕ) (cs : List ℕ) : Type 0 where
  pub rises : rise (length s) 0 cs ≡ true
  pub short : all_short limit (pieces s 0 cs) ≡ true
  pub fit : Fit s
  pub chain : Chain s 0 cs

pub checked_is : (a b c d : Bool) (w x y z : ℕ) → (if not a then suc w else if not b then suc x else if not c then suc y else if not d then suc z else 0) ≡ 0 → (a ≡ true) × (b ≡ true) × (c ≡ true) × (d ≡ true)
checked_is true true true true w x y z e = (refl, refl, refl, refl)
checked_is true true true false w x y z e = absurd (omega arith)
checked_is true true false d w x y z e = absurd (omega arith)
checked_is true false c d w x y z e = absurd (omega arith)
checked_is false b c d w x y z e = absurd (omega arith)

pub passes_stands : (s : List ℕ) (limit : ℕ) (cs : List ℕ) → Passes s limit cs → Stands s limit cs
unfolding checked
passes_stands s limit cs e =
    let t = checked_is (rise (length s) 0 cs) (all_short limit (pieces s 0 cs)) (all_read (pieces s 0 cs)) (equal (join_all (pieces s 0 cs)) (read_alone held_names s)) 63 64 65 66 e in
    let J = all_joined s 0 cs (omega arith) t.0 t.2 in
    let A = accepted_fit s (equal_read (join_all (pieces s 0 cs)) (read_alone held_names s) t.3) in
    record { rises = t.0; short = t.1; fit = A.0; chain = judge J t.3 A.0 J.verdict }
  where
    judge : (J : Joined s 0 cs) → equal (join_all (pieces s 0 cs)) (read_alone held_names s) ≡ true → Fit s → (Eq J.whole J.pieces_of × Chain s 0 cs) ⊎ (text_of J.whole ≡ text_of J.pieces_of → ⊥) → Chain s 0 cs
    judge J q f (inl (x, C)) = C
    judge J q f (inr n) =
        let B = fit_accepted s f J.whole J.steps in
        absurd (n (sym (equal_texts J.answer B.0 J.pieces_of J.whole J.has B.2 (sym (equal_is (join_all (pieces s 0 cs)) (read_alone held_names s) J.answer B.0 J.joins B.1) ∙ q))))

pub stands_passes : (s : List ℕ) (limit : ℕ) (cs : List ℕ) → Stands s limit cs → Passes s limit cs
unfolding checked
stands_passes s limit cs S =
    let F = all_formed s S.fit.1 in
    let W = chain_whole s 0 cs (omega arith) S.rises F F (all_short_lem s 0 1048576 cs (omega arith) S.rises S.fit.0) S.chain in
    let B = fit_accepted s S.fit W.whole W.steps in
    let q = equal_is (join_all (pieces s 0 cs)) (read_alone held_names s) W.answer B.0 W.joins B.1 ∙ has_equal W.answer B.0 W.pieces_of W.whole W.has B.2 (sym W.equals) in
    rw (S.rises, S.short, W.all_read_lem, q) refl
