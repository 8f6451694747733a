-- Cuts among the digits of an octal escape: the pieces on both sides are read. Assumes nothing.
use mathlib.Core.Path.{◌≡◌, refl, sym, ◌∙◌, ap, subst}
use mathlib.Core.Bool.{true, false}
use mathlib.Core.List.{List, [], ◌++◌}
use mathlib.Core.Option.{some}
use mathlib.Core.Logic.{◌⊎◌, inl, inr}
use Prim.Native.Nat.{ℕ, zero, suc, ◌+◌, ◌-◌, ◌*◌, ◌≤◌, ◌<◌}
use native.Mathlib.Omega.{arith}
use borrow.Author.Tests.{ltb-true, ltb-false, eqb-true, eqb-false, ne_eqb}
use lib.Dec.{ltb, eqb}
use lib.ListN.{length}
use Rattle.definition.specs.Chars.{part, code, next, char, utf8}
use Rattle.definition.specs.Escapes.{held_names, got, stands, octal, escape_case, octal_digit, octal_from}
use Rattle.definition.specs.Body.{Piece, TextCase, text_case, filled}
use Rattle.definition.specs.Records.{Answer}
use Rattle.definition.specs.Reading.{accepts, read_alone}
use Rattle.definition_cuts.specs.Tokens.{staying, token_end}
use Rattle.definition.proofs.Moves.CharLaws.{cases, next_past, next_in, next_from, code_end, formed_utf8}
use Rattle.definition_cuts_laws.proofs.Windows.Window.{Window, At, in_right, next_like, code_like}
use Rattle.definition_cuts_laws.proofs.Windows.WindowEscapes.{digit_like, octal_high, octal_digit_in, escape_case_like}
use Rattle.definition_cuts_laws.proofs.Windows.WindowTexts.{text_case_like}
use Rattle.definition_cuts_laws.proofs.Tokens.TokenSteps.{top_told, step, here, more, step_ahead, steps_append}
use Rattle.definition_cuts_laws.proofs.Tokens.TokenPaths.{Tokens, tokens_steps}
use Rattle.definition_cuts_laws.proofs.Tokens.PieceLaws.{piece_length, inward, piece_steps, octal_got, octal_on, digits_at, octal_step, octal_told, Longer}
use Rattle.definition_cuts_laws.proofs.Tokens.FormedPaths.{Formed, formed_append, formed_front, formed_next, formed_all, steps_formed, formed_like}
use Rattle.definition_cuts_laws.proofs.Cuts.AloneLaws.{Fit, fit_accepted}
use Rattle.definition_cuts_laws.proofs.Cuts.OctalLaws.{digit_code, digit_step, digits_more}
use Rattle.definition_cuts_laws.proofs.Tokens.TokenMarks.{move_step, got_end, tokens_later, tokens_between}
use Rattle.definition_cuts_laws.proofs.Plan.PlanLaw.{tokens_append, next_mark}

-- AMONG OCTAL DIGITS: tokens from i lead to an octal escape at `at`, and c stands after its first digit and before its end
pub record OctalCut (s : List ℕ) (i c : ℕ) : Type 0 where
  pub at : ℕ
  pub front : List Piece
  pub path : Tokens held_names s i at front
  pub there : at < length s
  pub case : text_case 1 s 0 at ≡ TextCase.escapes
  pub kind : escape_case 1 s (next s at) ≡ octal
  pub all : ℕ
  pub end : ℕ
  pub digits : digits_at s at ≡ got (stands all) end
  pub early : next s (next s at) ≤ c
  pub late : c < end

-- a digit is no backslash
digit_stays : (s : List ℕ) (x : ℕ) → ltb (octal_digit (code s x)) 8 ≡ true → staying s x ≡ false
unfolding staying
digit_stays s x h = let d = digit_code (code s x) h in rw (ne_eqb (code s x) 92 (λ e. omega arith)) refl

pub octal_stays : (s : List ℕ) (t : ℕ) → text_case 1 s 0 t ≡ TextCase.escapes → staying s t ≡ false
unfolding staying
octal_stays s t q = let T = top_told s t TextCase.escapes q in rw (T.1, T.2) refl

octal_off : (n w : ℕ) (s : List ℕ) (i v e : ℕ) → octal_from (suc n) w s i ≡ got (stands v) e → ltb (octal_digit (code s i)) 8 ≡ false → i ≡ e
unfolding octal_from
octal_off n w s i v e f x = let f' : got (stands w) i ≡ got (stands v) e = rw (x, octal_from) at f in cc

octal_none : (w : ℕ) (s : List ℕ) (i v e : ℕ) → octal_from 0 w s i ≡ got (stands v) e → i ≡ e
unfolding octal_from
octal_none w s i v e f = cc

-- digits are tokens, each alone
pub digit_tokens : (s : List ℕ) (n w x v e c : ℕ) → octal_from n w s x ≡ got (stands v) e → x ≤ c → c ≤ e → (ps : List Piece) × Tokens held_names s x c ps
digit_tokens s zero w x v e c f h k = let z = octal_none w s x v e f in ([], subst (λ (y : ℕ). Tokens held_names s x y []) (omega arith) Tokens.none)
digit_tokens s (suc n) w x v e c f h k =
    cases (eqb x c) (λ t. ([], subst (λ (y : ℕ). Tokens held_names s x y []) (eqb-true x c t) Tokens.none)) (λ t.
    let m = eqb-false x c t in
    let xc : x < c = lt x c h m in
    cases (ltb (octal_digit (code s x)) 8)
    (λ d.
    let D = digit_step held_names s x d in
    let R = digit_tokens s n (w * 8 + octal_digit (code s x)) (next s x) v e c (sym (octal_on n w s x d) ∙ f) (omega (arith, D.1)) k in
    (filled 0 (char s x) ++ R.0, Tokens.one (digit_stays s x d) D.0 D.3 R.1))
    (λ d. let z = octal_off n w s x v e f d in absurd (omega arith)))
  where
    lt : (x c : ℕ) → x ≤ c → (x ≡ c → ⊥) → x < c
    lt x c h m = cases (ltb x c) (λ t. ltb-true x c t) (λ t. absurd (m (omega (arith, ltb-false x c t))))

-- before the end there is a digit
pub digit_here : (s : List ℕ) (n w x v e c : ℕ) → octal_from n w s x ≡ got (stands v) e → x ≤ c → c < e → ltb (octal_digit (code s c)) 8 ≡ true
digit_here s zero w x v e c f h k = let z = octal_none w s x v e f in absurd (omega arith)
digit_here s (suc n) w x v e c f h k =
    cases (ltb (octal_digit (code s x)) 8)
    (λ d.
    cases (eqb x c) (λ t. subst (λ (y : ℕ). ltb (octal_digit (code s y)) 8 ≡ true) (eqb-true x c t) d)
    (λ t.
    let D = digit_step held_names s x d in
    let m = eqb-false x c t in
    digit_here s n (w * 8 + octal_digit (code s x)) (next s x) v e c (sym (octal_on n w s x d) ∙ f) (next_le x c h m D.1) k))
    (λ d. let z = octal_off n w s x v e f d in absurd (omega arith))
  where
    next_le : (x c : ℕ) → x ≤ c → (x ≡ c → ⊥) → next s x ≡ x + 1 → next s x ≤ c
    next_le x c h m e = cases (ltb x c) (λ t. omega (arith, ltb-true x c t)) (λ t. absurd (m (omega (arith, ltb-false x c t))))

-- from the digits on: tokens to any place up to the escape's end
module _ (s : List ℕ) (i from : ℕ) (O : OctalCut s i from) where
  pub among_tokens : (c : ℕ) → from ≤ c → c ≤ O.end → (ps : List Piece) × Tokens held_names s from c ps
  among_tokens c h k =
      let A = digit_tokens s 2 (octal_digit (code s (next s O.at))) (next s (next s O.at)) O.all O.end from O.digits O.early (omega (arith, O.late)) in
      let B = digit_tokens s 2 (octal_digit (code s (next s O.at))) (next s (next s O.at)) O.all O.end c O.digits (omega (arith, O.early)) k in
      tokens_between s (next s (next s O.at)) from c A.0 B.0 A.1 B.1 (next_in s (next s O.at) (next_in s O.at (omega (arith, O.there)))) h

  pub octal_token : step held_names s O.at ≡ got (filled 0 (utf8 O.all)) O.end
  octal_token = octal_step held_names s O.at O.all O.end O.case O.kind O.digits

  -- the escape itself, and what follows it
  pub past_octal : (ps : List Piece) × Tokens held_names s i O.end ps
  past_octal =
      let T = Tokens.one {qs = []} (octal_stays s O.at O.case) O.there octal_token Tokens.none in
      (O.front ++ (filled 0 (utf8 O.all) ++ []), tokens_append s i O.at O.end O.front (filled 0 (utf8 O.all) ++ []) O.path T)

  pub octal_end : token_end s O.at ≡ some O.end
  unfolding token_end
  octal_end = rw (octal_stays s O.at O.case) (move_step s O.at ∙ got_end (step held_names s O.at) (filled 0 (utf8 O.all)) O.end octal_token)

-- FINE: between two tokens, or among octal digits, by the tokens from i on
abbrev pub Fine : List ℕ → (i c : ℕ) → Type 0
Fine s i c = ((ps : List Piece) × Tokens held_names s i c ps) ⊎ OctalCut s i c

-- with a path in front
pub octal_after : (s : List ℕ) (i j c : ℕ) (ps : List Piece) → Tokens held_names s i j ps → OctalCut s j c → OctalCut s i c
octal_after s i j c ps T O = record {
  at = O.at;
  front = ps ++ O.front;
  path = tokens_append s i j O.at ps O.front T O.path;
  there = O.there;
  case = O.case;
  kind = O.kind;
  all = O.all;
  end = O.end;
  digits = O.digits;
  early = O.early;
  late = O.late;
}

-- another cut in the same escape
octal_moved : (s : List ℕ) (i c d : ℕ) (O : OctalCut s i c) → c ≤ d → d < O.end → OctalCut s i d
octal_moved s i c d O h k = record {
  at = O.at;
  front = O.front;
  path = O.path;
  there = O.there;
  case = O.case;
  kind = O.kind;
  all = O.all;
  end = O.end;
  digits = O.digits;
  early = omega (arith, O.early);
  late = k;
}

-- the same escape from another boundary on
pub octal_from_lem : (s : List ℕ) (i j c : ℕ) (O : OctalCut s i c) (ps : List Piece) → Tokens held_names s j O.at ps → OctalCut s j c
octal_from_lem s i j c O ps T = record {
  at = O.at;
  front = ps;
  path = T;
  there = O.there;
  case = O.case;
  kind = O.kind;
  all = O.all;
  end = O.end;
  digits = O.digits;
  early = O.early;
  late = O.late;
}

module _ (s : List ℕ) where
  pub at_before : (i c : ℕ) (O : OctalCut s i c) → O.at < c
  at_before i c O = omega (arith, O.early, next_past s O.at O.there, next_from s (next s O.at))

  pub end_in : (i c : ℕ) (O : OctalCut s i c) → O.end ≤ length s
  end_in i c O = (step_ahead held_names s O.at O.end (filled 0 (utf8 O.all)) (omega (arith, O.there)) (octal_token s i c O)).1

  -- a cut that is fine after a fine cut is fine
  pub fine_on : (from c : ℕ) → from < c → Fine s 0 from → Fine s from c → Fine s 0 c
  fine_on from c h (inl (ps, T)) (inl (qs, R)) = inl (ps ++ qs, tokens_append s 0 from c ps qs T R)
  fine_on from c h (inl (ps, T)) (inr O) = inr (octal_after s 0 from c ps T O)
  fine_on from c h (inr P) (inl (qs, R)) =
      cases (ltb c P.end)
      (λ t. inr (octal_moved s 0 from c P (omega arith) (ltb-true c P.end t)))
      (λ t.
      let k = ltb-false c P.end t in
      let A = among_tokens s 0 from P P.end (omega (arith, P.late)) (omega arith) in
      let B = tokens_between s from P.end c A.0 qs A.1 R (omega (arith, P.late, end_in 0 from P)) k in
      let E = past_octal s 0 from P in
      inl (E.0 ++ B.0, tokens_append s 0 P.end c E.0 B.0 E.1 B.1))
  fine_on from c h (inr P) (inr O) =
      cases (ltb O.at P.end)
      (λ t.
      let pe = tokens_later s from O.at O.front O.path (omega (arith, P.late, end_in 0 from P)) in
      let d = digit_code (code s O.at) (digit_here s 2 (octal_digit (code s (next s P.at))) (next s (next s P.at)) P.all P.end O.at P.digits (omega (arith, P.early, pe.0)) (ltb-true O.at P.end t)) in
      let b = (top_told s O.at TextCase.escapes O.case).1 in
      absurd (omega (arith, d.1)))
      (λ t.
      let k = ltb-false O.at P.end t in
      let A = among_tokens s 0 from P P.end (omega (arith, P.late)) (omega arith) in
      let B = tokens_between s from P.end O.at A.0 O.front A.1 O.path (omega (arith, P.late, end_in 0 from P)) k in
      let E = past_octal s 0 from P in
      inr (octal_from_lem s from 0 c O (E.0 ++ B.0) (tokens_append s 0 P.end O.at E.0 B.0 E.1 B.1)))

  -- two fine cuts: the second is fine after the first
  pub fine_link : (from c : ℕ) → from < c → Fine s 0 from → Fine s 0 c → Fine s from c
  fine_link from c h (inl (ps, T)) (inl (qs, R)) = inl (tokens_between s 0 from c ps qs T R (omega arith) (omega arith))
  fine_link from c h (inl (ps, T)) (inr O) =
      cases (ltb O.at from)
      (λ t.
      let n = next_mark s 0 0 O.at O.end from O.front ps (omega arith) O.path (octal_end s 0 c O) T (ltb-true O.at from t) in
      absurd (omega (arith, O.late)))
      (λ t.
      let B = tokens_between s 0 from O.at ps O.front T O.path (omega arith) (ltb-false O.at from t) in
      inr (octal_from_lem s 0 from c O B.0 B.1))
  fine_link from c h (inr P) (inl (qs, R)) =
      let n = next_mark s 0 0 P.at P.end c P.front qs (omega arith) P.path (octal_end s 0 from P) R (omega (arith, at_before 0 from P)) in
      let A = among_tokens s 0 from P P.end (omega (arith, P.late)) (omega arith) in
      let E = past_octal s 0 from P in
      let B = tokens_between s 0 P.end c E.0 qs E.1 R (omega arith) n in
      inl (A.0 ++ B.0, tokens_append s from P.end c A.0 B.0 A.1 B.1)
  fine_link from c h (inr P) (inr O) =
      cases (ltb O.at P.at)
      (λ t.
      let n = next_mark s 0 0 O.at O.end P.at O.front P.front (omega arith) O.path (octal_end s 0 c O) P.path (ltb-true O.at P.at t) in
      absurd (omega (arith, O.late, at_before 0 from P)))
      (λ t.
      cases (ltb P.at O.at)
      (λ u.
      let n = next_mark s 0 0 P.at P.end O.at P.front O.front (omega arith) P.path (octal_end s 0 from P) O.path (ltb-true P.at O.at u) in
      let A = among_tokens s 0 from P P.end (omega (arith, P.late)) (omega arith) in
      let E = past_octal s 0 from P in
      let B = tokens_between s 0 P.end O.at E.0 O.front E.1 O.path (omega arith) n in
      inr (octal_from_lem s 0 from c O (A.0 ++ B.0) (tokens_append s from P.end O.at A.0 B.0 A.1 B.1)))
      (λ u.
      let z : P.at ≡ O.at = omega (arith, ltb-false O.at P.at t, ltb-false P.at O.at u) in
      let q = sym (octal_end s 0 from P) ∙ ap (token_end s) z ∙ octal_end s 0 c O in
      let y : P.end ≡ O.end = cc in
      inl (among_tokens s 0 from P c (omega arith) (omega (arith, O.late)))))

-- what a piece that ends among digits was, as an octal cut
pub longer_cut : (s : List ℕ) (c from : ℕ) (ps : List Piece) → from ≤ length s → Longer held_names s c from ps → OctalCut s from c
longer_cut s c from ps fl L =
    let D = octal_got 2 (octal_digit (code s (next s L.at))) s (next s (next s L.at)) in
    let f = sym (octal_step held_names s L.at D.0 D.1 L.case L.kind D.2) ∙ L.whole in
    let z : D.1 ≡ L.end = cc in
    let t = top_told s L.at TextCase.escapes L.case in
    record {
      at = L.at;
      front = L.front;
      path = L.path;
      there = t.0;
      case = L.case;
      kind = L.kind;
      all = D.0;
      end = D.1;
      digits = D.2;
      early = L.early;
      late = omega (arith, (digits_more held_names L.more_digits L.value s c L.all L.end L.rest L.digit).3);
    }

-- THE PIECE BEFORE such a cut is read
module _ (s : List ℕ) (from c : ℕ) (h : from ≤ c) (l : c ≤ length s) (F : Formed s 0 (length s)) where
  W : Window s (part s from c) 0 from from c
  W = inward s from c h l (formed_utf8 s (formed_all s F))

  cut_digits : (n w x x' v e : ℕ) → At s (part s from c) 0 from from c W x x' → x ≤ c → c < e → octal_from n w s x ≡ got (stands v) e
      → (v' : ℕ) × (octal_from n w (part s from c) x' ≡ got (stands v') (length (part s from c)))
  unfolding octal_from
  cut_digits zero w x x' v e m a b f = let z : x ≡ e = cc in absurd (omega arith)
  cut_digits (suc n) w x x' v e m a b f =
      cases (ltb (octal_digit (code s x)) 8)
      (λ d.
      cases (ltb x c)
      (λ t.
      let D = digit_step held_names s x d in
      let xc = ltb-true x c t in
      let q = digit_like s (part s from c) 0 from from c W octal_digit 8 x x' (octal_high s (part s from c) 0 from from c W) m xc in
      let mn = next_like s (part s from c) 0 from from c W x x' m xc (omega (arith, D.1)) in
      let R = cut_digits n (w * 8 + octal_digit (code s x)) (next s x) (next (part s from c) x') v e mn (omega (arith, D.1)) b (sym (octal_on n w s x d) ∙ f) in
      (R.0, octal_on n w (part s from c) x' (ap (λ k. ltb k 8) (sym q) ∙ d) ∙ ap (λ k. octal_from n (w * 8 + k) (part s from c) (next (part s from c) x')) (sym q) ∙ R.1))
      (λ t.
      let z : x' ≡ length (part s from c) = omega (arith, ltb-false x c t, m.0, piece_length s from c h l) in
      let o = ended x' (code_end (part s from c) x' (omega arith)) in
      (w, rw (o, octal_from) (ap (λ k. got (stands w) k) z))))
      (λ d. let z = octal_off n w s x v e f d in absurd (omega arith))
    where
      ended : (y : ℕ) → code (part s from c) y ≡ 0x110000 → ltb (octal_digit (code (part s from c) y)) 8 ≡ false
      ended y e = rw (octal_high s (part s from c) 0 from from c W (code (part s from c) y) (omega arith)) refl

  pub octal_piece : Formed s from (length s) → c - from ≤ 1048576 → OctalCut s from c → (x : Answer) × (read_alone held_names (part s from c) ≡ accepts x) × Formed s from c
  octal_piece G k O =
      let u = part s from c in
      let pl = piece_length s from c h l in
      let ab = at_before s from c O in
      let t = O.at in
      let np = next_past s t O.there in
      let nn = next_past s (next s t) (digit-next t O.kind (omega (arith, O.there))) in
      let ea = O.early in
      let al = tokens_later s from t O.front O.path (omega arith) in
      let P = piece_steps held_names s from c h l (formed_utf8 s (formed_all s F)) from t 0 O.front O.path (omega arith) (omega arith) (omega arith) (omega arith) in
      let t' = P.1 in
      let mt : At s u 0 from from c W t t' = (P.3, al.0) in
      let tc : t < c = ab in
      let nc : next s t < c = omega arith in
      let mq = next_like s u 0 from from c W t t' mt tc (omega arith) in
      let mr = next_like s u 0 from from c W (next s t) (next u t') mq nc ea in
      let q = sym (text_case_like s u 0 from from c W 1 0 t t' mt tc nc) ∙ O.case in
      let o = sym (escape_case_like s u 0 from from c W 1 (next s t) (next u t') mq nc ea) ∙ O.kind in
      let cd = code_like s u 0 from from c W (next s t) (next u t') mq nc ea in
      let D = cut_digits 2 (octal_digit (code s (next s t))) (next s (next s t)) (next u (next u t')) O.all O.end mr ea O.late O.digits in
      let st = octal_step held_names u t' D.0 (length u) q o (ap (λ c. octal_from 2 (octal_digit c) u (next u (next u t'))) (sym cd) ∙ D.1) in
      let S = steps_append held_names u 0 t' (length u) P.0 (filled 0 (utf8 D.0) ++ []) P.2 (more (in_right s u 0 from from c W t t' mt tc) st here) in
      let G1 = steps_formed s held_names from t O.front (tokens_steps held_names s from t O.front O.path) G (omega arith) in
      let H1 = formed_front s from t (length s) G1 G refl in
      let G2 = formed_next s t (length s) H1 refl (omega (arith, O.there)) in
      let H2 = formed_front s t (next s t) (length s) G2 H1 refl in
      let G3 = formed_next s (next s t) (length s) H2 refl (next_in s t (omega (arith, O.there))) in
      let H3 = formed_front s (next s t) (next s (next s t)) (length s) G3 H2 refl in
      let T4 = digit_tokens s 2 (octal_digit (code s (next s t))) (next s (next s t)) O.all O.end c O.digits ea (omega (arith, O.late)) in
      let G4 = steps_formed s held_names (next s (next s t)) c T4.0 (tokens_steps held_names s (next s (next s t)) c T4.0 T4.1) H3 (omega arith) in
      let FC = formed_append s from t c G1 (formed_append s t (next s t) c G2 (formed_append s (next s t) (next s (next s t)) c G3 G4)) in
      let H = formed_like s u 0 from from c W from c 0 FC (omega arith) (omega arith, omega arith) in
      let z : H.0 ≡ length u = omega (arith, H.2) in
      let f : Fit u = (omega arith, formed_all u (subst (λ (k : ℕ). Formed u 0 k) z H.1)) in
      let B = fit_accepted u f (P.0 ++ (filled 0 (utf8 D.0) ++ [])) S in
      (B.0, B.1, FC)
    where
      digit-next : (t : ℕ) → escape_case 1 s (next s t) ≡ octal → t ≤ length s → next s t < length s
      digit-next t o k = octal_digit_in s (part s from c) 0 from from c W (next s t) (next_in s t k) (octal_told s (next s t) o)
