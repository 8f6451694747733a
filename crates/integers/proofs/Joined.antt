-- The text of an integer from its pieces. Assumes nothing.
use mathlib.Core.Path.{◌≡◌, refl, sym, ◌∙◌, ap, ap₂, subst}
use mathlib.Core.Bool.{Bool, true, false, ◌&&◌, ◌||◌, not}
use mathlib.Core.List.{List, [], ◌∷◌, ◌++◌, reverse}
use Prim.Native.Nat.{ℕ, zero, suc, ◌+◌, ◌-◌, ◌*◌, ◌/◌, ◌≤◌, ◌<◌}
use native.Mathlib.Omega.{arith}
use lib.Dec.{eqb, leb}
use lib.ListN.{length, get_or, take, drop, length-append, length-reverse}
use borrow.Author.Tests.{ne_eqb, eq-eqb, eqb-true, eqb-false, leb-true, leb-false}
use Rattle.definition.specs.Chars.{same, ◌is◌}
use Rattle.definition_replay.specs.Integers.{Form, digits, base_of, group_size, figures, zeroed, sign_of, prefix_of, head_of, zero_pads, least_of, numeral_of, copies, pad_of, left_of, inner_of, written}
use Rattle.definition.proofs.Moves.CharLaws.{cases}
use Rattle.definition_replay_laws.proofs.Integers.IntegerSteps.{zeroed_done, zeroed_more}
use Rattle.definition_replay_laws.proofs.Integers.WrittenLaws.{fills_in}
use Rattle.buffers.specs.Over.{over}
use Rattle.buffers.proofs.Over.{over_nil, over_append, over_front, length_over}
use Rattle.forms.specs.declared.Shape.{Shape}
use Rattle.integers.specs.Written.{bare, numeral_units, prefix_from, head_from, pads_from, least_from, formed, integer}
use Rattle.integers.proofs.Bounds.{numeral_short}

-- SIGN
pub sign_minus : (sign : ℕ) {negative : Bool} → negative ≡ true → 45 ∷ [] ≡ sign_of sign negative
unfolding sign_of
sign_minus sign e = rw e

pub sign_plus : (sign : ℕ) {negative : Bool} → negative ≡ false → sign ≡ 43 → sign ∷ [] ≡ sign_of sign negative
unfolding sign_of
sign_plus sign e h = rw (e, eq-eqb sign 43 h)

pub sign_blank : (sign : ℕ) {negative : Bool} → negative ≡ false → (sign ≡ 43 → ⊥) → sign ≡ 32 → sign ∷ [] ≡ sign_of sign negative
unfolding sign_of
sign_blank sign e n h = rw (e, ne_eqb sign 43 n, eq-eqb sign 32 h)

pub sign_none : (sign : ℕ) {negative : Bool} → negative ≡ false → (sign ≡ 43 → ⊥) → (sign ≡ 32 → ⊥) → [] ≡ sign_of sign negative
unfolding sign_of
sign_none sign e n m = rw (e, ne_eqb sign 43 n, ne_eqb sign 32 m)

-- a piece of no byte, one, two
module _ (out : List ℕ) (at : ℕ) {t : List ℕ} where
  pub piece_none : [] ≡ t → (at ≡ at + length t) × (out ≡ over out at t)
  piece_none e = let l = ap length e in (omega arith, sym (over_nil out at) ∙ ap (over out at) e)

  pub piece_one : {x : ℕ} {now : List ℕ} → x ∷ [] ≡ t → now ≡ over out at (x ∷ []) → (at + 1 ≡ at + length t) × (now ≡ over out at t)
  piece_one e w = let l = ap length e in (omega arith, w ∙ ap (over out at) e)

  pub piece_two : {x y : ℕ} {mid now : List ℕ} → x ∷ y ∷ [] ≡ t → mid ≡ over out at (x ∷ []) → now ≡ over mid (at + 1) (y ∷ [])
      → (at + 2 ≡ at + length t) × (now ≡ over out at t)
  piece_two {x} {y} e w v =
      let l = ap length e in
      (omega arith, v ∙ ap (λ b. over b (at + 1) (y ∷ [])) w ∙ over_append out at (x ∷ []) (y ∷ []) ∙ ap (over out at) e)

-- two pieces
pub piece_both : (out : List ℕ) (at : ℕ) (s t : List ℕ) {mid now : List ℕ} {next result : ℕ} → next ≡ at + length s → mid ≡ over out at s
    → result ≡ next + length t → now ≡ over mid next t → (result ≡ at + length (s ++ t)) × (now ≡ over out at (s ++ t))
piece_both out at s t n m r w = let l = length-append s t in (omega arith, rw (w, n, m) (over_append out at s t))

-- and five
pub five_pieces : (out : List ℕ) (at : ℕ) (a b c d e : List ℕ) {one two three four five : ℕ} {out1 out2 out3 out4 out5 : List ℕ}
    → one ≡ at + length a → out1 ≡ over out at a
    → two ≡ one + length b → out2 ≡ over out1 one b
    → three ≡ two + length c → out3 ≡ over out2 two c
    → four ≡ three + length d → out4 ≡ over out3 three d
    → five ≡ four + length e → out5 ≡ over out4 four e
    → (five ≡ at + length (a ++ b ++ c ++ d ++ e)) × (out5 ≡ over out at (a ++ b ++ c ++ d ++ e))
five_pieces out at a b c d e r1 o1 r2 o2 r3 o3 r4 o4 r5 o5 =
    let s2 = piece_both out at a b r1 o1 r2 o2 in
    let s3 = piece_both out at (a ++ b) c s2.0 s2.1 r3 o3 in
    let s4 = piece_both out at (a ++ b ++ c) d s3.0 s3.1 r4 o4 in
    piece_both out at (a ++ b ++ c ++ d) e s4.0 s4.1 r5 o5

-- a fill of one byte
one_byte : (l : List ℕ) → length l ≡ 1 → l ≡ get_or l 0 0 ∷ []
one_byte [] e = absurd (omega arith)
one_byte (b ∷ []) e = refl
one_byte (b ∷ c ∷ l) e = absurd (omega arith)

module _ (fill : List ℕ) (h : length fill ≡ 1) (used count : ℕ) where
  pub one_room : used + length (copies count fill) ≤ 0x4000000000000000 → used + length (copies count (get_or fill 0 0 ∷ [])) ≤ 0x4000000000000000
  one_room l = subst (λ t. used + length (copies count t) ≤ 0x4000000000000000) (one_byte fill h) l

  pub one_added : (out : List ℕ) {r : ℕ} {out' : List ℕ} → (r ≡ used + length (copies count (get_or fill 0 0 ∷ []))) × (out' ≡ over out used (copies count (get_or fill 0 0 ∷ [])))
      → (r ≡ used + length (copies count fill)) × (out' ≡ over out used (copies count fill))
  one_added out w = let e = sym (one_byte fill h) in (w.0 ∙ ap (λ t. used + length (copies count t)) e, w.1 ∙ ap (λ t. over out used (copies count t)) e)

pub not_true : (b : Bool) → not b ≡ true → b ≡ false
not_true true e = cc
not_true false e = refl

pub not_false : (b : Bool) → not b ≡ false → b ≡ true
not_false true e = refl
not_false false e = cc

-- PREFIX
pub prefix_unasked : (kind : ℕ) {alternate : Bool} → alternate ≡ false → [] ≡ prefix_from alternate kind
unfolding prefix_from
prefix_unasked kind e = rw e

pub prefix_ten : (kind : ℕ) (alternate : Bool) {base : ℕ} → base ≡ base_of kind → base ≡ 10 → [] ≡ prefix_from alternate kind
unfolding prefix_from
prefix_ten kind true b e = rw (eq-eqb (base_of kind) 10 (sym b ∙ e))
prefix_ten kind false b e = refl

pub prefix_asked : (kind : ℕ) {alternate : Bool} {base : ℕ} → alternate ≡ true → base ≡ base_of kind → (base ≡ 10 → ⊥) → 48 ∷ kind ∷ [] ≡ prefix_from alternate kind
unfolding prefix_from
prefix_asked kind a b e = rw (a, ne_eqb (base_of kind) 10 (λ z. e (b ∙ z)))

pub sign_short : (sign : ℕ) (negative : Bool) → length (sign_of sign negative) ≤ 1
unfolding sign_of
sign_short sign true = omega arith
sign_short sign false = cases (sign is "+ ") (λ e. rw e (omega arith)) (λ e. rw e (omega arith))

prefix_short : (alternate : Bool) (kind : ℕ) → length (prefix_from alternate kind) ≤ 2
unfolding prefix_from
prefix_short true kind = cases (not (eqb (base_of kind) 10)) (λ e. rw e (omega arith)) (λ e. rw e (omega arith))
prefix_short false kind = omega arith

pub head_short : (sign : ℕ) (alternate : Bool) (kind : ℕ) (negative : Bool) → length (head_from sign alternate kind negative) ≤ 3
unfolding head_from
head_short sign alternate kind negative =
    let l = length-append (sign_of sign negative) (prefix_from alternate kind) in
    let s = sign_short sign negative in
    let p = prefix_short alternate kind in
    omega arith

-- ZEROS THAT BELONG TO THE NUMBER
and_false : (x : Bool) → (x && false) ≡ false
and_false true = refl
and_false false = refl

pub pads_align : (fill : List ℕ) (align : ℕ) → (align ≡ 61 → ⊥) → false ≡ pads_from fill align
unfolding pads_from
pads_align fill align n = rw (ne_eqb align 61 n) (sym (and_false (same fill (48 ∷ []))))

pub pads_size : (fill : List ℕ) (align : ℕ) → (length fill ≡ 1 → ⊥) → false ≡ pads_from fill align
unfolding pads_from same
pads_size [] align n = refl
pads_size (b ∷ []) align n = absurd (n refl)
pads_size (b ∷ c ∷ fill) align n = cases (eqb b 48) (λ e. rw e) (λ e. rw e)

pub pads_byte : (fill : List ℕ) (align : ℕ) → align ≡ 61 → length fill ≡ 1 → eqb (get_or fill 0 0) 48 ≡ pads_from fill align
unfolding pads_from same
pads_byte [] align a n = absurd (omega arith)
pads_byte (b ∷ []) align a n = rw (eq-eqb align 61 a) (cases (eqb b 48) (λ e. rw e) (λ e. rw e))
pads_byte (b ∷ c ∷ fill) align a n = absurd (omega arith)

pub least_none : (fill : List ℕ) (align width head : ℕ) {pads : Bool} → pads ≡ pads_from fill align → pads ≡ false → 0 ≡ least_from fill align width head
unfolding least_from
least_none fill align width head p e = rw (sym p ∙ e)

pub least_some : (fill : List ℕ) (align width head : ℕ) {pads : Bool} → pads ≡ pads_from fill align → pads ≡ true → width - head ≡ least_from fill align width head
unfolding least_from
least_some fill align width head p e = rw (sym p ∙ e)

pub least_short : (fill : List ℕ) (align width head : ℕ) → least_from fill align width head ≤ width
unfolding least_from
least_short fill align width head = cases (pads_from fill align) (λ e. rw e (omega arith)) (λ e. rw e (omega arith))

-- FILLS by the align
module _ (align pad : ℕ) where
  pub left_less : align ≡ 60 → 0 ≡ left_of align pad
  unfolding left_of
  left_less e = rw (eq-eqb align 60 e)

  pub left_inner : (align ≡ 60 → ⊥) → align ≡ 61 → 0 ≡ left_of align pad
  unfolding left_of
  left_inner n e = rw (ne_eqb align 60 n, eq-eqb align 61 e)

  pub left_low : 60 ≤ align → align ≤ 61 → 0 ≡ left_of align pad
  left_low h k = cases (eqb align 60) (λ e. left_less (eqb-true align 60 e)) (λ e. let n = eqb-false align 60 e in left_inner n (omega arith))

  pub left_all : (align ≡ 60 → ⊥) → (align ≡ 61 → ⊥) → align ≡ 62 → pad ≡ left_of align pad
  unfolding left_of
  left_all n m e = rw (ne_eqb align 60 n, ne_eqb align 61 m, eq-eqb align 62 e)

  pub left_half : (align ≡ 60 → ⊥) → (align ≡ 61 → ⊥) → (align ≡ 62 → ⊥) → pad / 2 ≡ left_of align pad
  unfolding left_of
  left_half n m e = rw (ne_eqb align 60 n, ne_eqb align 61 m, ne_eqb align 62 e)

  pub inner_all : align ≡ 61 → pad ≡ inner_of align pad
  unfolding inner_of
  inner_all e = rw (eq-eqb align 61 e)

  pub inner_none : (align ≡ 61 → ⊥) → 0 ≡ inner_of align pad
  unfolding inner_of
  inner_none n = rw (ne_eqb align 61 n)

take_front : (xs ys : List ℕ) → take (length xs) (xs ++ ys) ≡ xs
take_front [] ys = refl
take_front (x ∷ xs) ys = ap (λ l. x ∷ l) (take_front xs ys)

pub copies_short : (n : ℕ) (t : List ℕ) → length t ≤ 4 → length (copies n t) ≤ n * 4
unfolding copies
copies_short zero t h = omega arith
copies_short (suc n) t h = let l = length-append t (copies n t) in let ih = copies_short n t h in omega arith

pub base_most : (t : ℕ) → base_of t ≤ 16
unfolding base_of
base_most t =
    cases (eqb t 0 || t is "d") (λ e. rw e (omega arith)) (λ e.
    cases (t is "b") (λ b. rw (e, b) (omega arith)) (λ b.
    cases (t is "o") (λ o. rw (e, b, o) (omega arith)) (λ o.
    cases (t is "xX") (λ x. rw (e, b, o, x) (omega arith)) (λ x. rw (e, b, o, x) (omega arith)))))

zeroed_none : (least : ℕ) (f : Form) (ds : List ℕ) → zeroed zero least f ds ≡ ds
unfolding zeroed
zeroed_none least f ds = refl

-- FIGURES go by grouping and type alone
module _ (fill : List ℕ) (f : Shape) where
  figures_is : (ds : List ℕ) → figures (formed fill f) ds ≡ figures (bare f.kind f.grouping) ds
  unfolding figures group_size
  figures_is ds = refl

  zeroed_bare : (n least : ℕ) (ds : List ℕ) → zeroed n least (formed fill f) ds ≡ zeroed n least (bare f.kind f.grouping) ds
  zeroed_bare zero least ds = zeroed_none least (formed fill f) ds ∙ sym (zeroed_none least (bare f.kind f.grouping) ds)
  zeroed_bare (suc n) least ds =
      let ih = zeroed_bare n least (ds ++ (0 ∷ [])) in
      let e = ap length (figures_is ds) in
      cases (leb least (length (figures (bare f.kind f.grouping) ds)))
      (λ t.
      let l = leb-true least (length (figures (bare f.kind f.grouping) ds)) t in
      zeroed_done (suc n) least (formed fill f) ds (omega arith) ∙ sym (zeroed_done (suc n) least (bare f.kind f.grouping) ds l))
      (λ t.
      let l = leb-false least (length (figures (bare f.kind f.grouping) ds)) t in
      zeroed_more n least (formed fill f) ds (omega arith) ∙ ih ∙ sym (zeroed_more n least (bare f.kind f.grouping) ds l))

  module _ (negative : Bool) (size : ℕ) where
    abbrev pub head : List ℕ
    head = head_from f.sign f.alternate f.kind negative

    head_is : head_of (formed fill f) (integer negative size) ≡ head
    unfolding head_of prefix_of head_from prefix_from
    head_is = refl

    least_is : least_of (formed fill f) (integer negative size) ≡ least_from fill f.align f.width (length head)
    unfolding least_of least_from zero_pads pads_from head_of prefix_of head_from prefix_from
    least_is = refl

    abbrev pub units : ℕ → List ℕ
    units least = numeral_units f.kind f.grouping least size

    numeral_is : numeral_of (formed fill f) (integer negative size) ≡ reverse (units (least_from fill f.align f.width (length head)))
    unfolding numeral_of numeral_units
    numeral_is =
        rw least_is
        (ap reverse (figures_is _
        ∙ ap (figures (bare f.kind f.grouping)) (zeroed_bare (least_from fill f.align f.width (length head)) (least_from fill f.align f.width (length head)) (digits (base_of f.kind) size))))

    -- the five pieces
    abbrev pub pieces : (least pad : ℕ) → List ℕ
    pieces least pad =
        copies (left_of f.align pad) fill
        ++ head
        ++ copies (inner_of f.align pad) fill
        ++ reverse (units least)
        ++ copies (pad - (left_of f.align pad + inner_of f.align pad)) fill

    pieces_at : written (formed fill f) (integer negative size)
        ≡ pieces (least_from fill f.align f.width (length head)) (f.width - (length head + length (units (least_from fill f.align f.width (length head)))))
    unfolding written pad_of
    pieces_at = rw (head_is, numeral_is, length-reverse (units (least_from fill f.align f.width (length head))))

    pub written_short : 1 < base_of f.kind → f.width ≤ 64 → length fill ≤ 4 → size < 0x100000000 → length (written (formed fill f) (integer negative size)) ≤ 325
    written_short big wide few small =
        let least = least_from fill f.align f.width (length head) in
        let pad = f.width - (length head + length (units least)) in
        let left = left_of f.align pad in
        let inner = inner_of f.align pad in
        let w = ap length pieces_at in
        let m = least_short fill f.align f.width (length head) in
        let u = numeral_short f.kind f.grouping least size big (omega arith) small in
        let h = head_short f.sign f.alternate f.kind negative in
        let s = fills_in f.align pad in
        let r = length-reverse (units least) in
        let a = copies_short left fill few in
        let b = copies_short inner fill few in
        let c = copies_short (pad - (left + inner)) fill few in
        let l1 = length-append (copies left fill) head in
        let l2 = length-append (copies left fill ++ head) (copies inner fill) in
        let l3 = length-append (copies left fill ++ head ++ copies inner fill) (reverse (units least)) in
        let l4 = length-append (copies left fill ++ head ++ copies inner fill ++ reverse (units least)) (copies (pad - (left + inner)) fill) in
        omega arith

    pub pieces_are : (least pad : ℕ) → least ≡ least_from fill f.align f.width (length head) → pad ≡ f.width - (length head + length (units least))
        → written (formed fill f) (integer negative size) ≡ pieces least pad
    pieces_are least pad l p = pieces_at ∙ ap₂ pieces (sym l) (ap (λ x. f.width - (length head + length (units x))) (sym l) ∙ sym p)

    module _ (space : List ℕ) {top least count : ℕ} {held : List ℕ}
        (t : top ≡ 0 + length head) (l : least ≡ least_from fill f.align f.width top) (c : count ≡ length (units least)) (h : held ≡ over space 0 (units least))
        (e : length space ≡ 80) (big : 1 < base_of f.kind) (wide : f.width ≤ 64) (small : size < 0x100000000)
      where
        pub least_most : least ≤ 64
        least_most = let m = least_short fill f.align f.width top in omega arith

        pub count_most : count ≤ 66
        count_most = let m = numeral_short f.kind f.grouping least size big least_most small in omega arith

        held_front : take count held ≡ units least
        held_front =
            let m = count_most in
            rw (h, c, over_front space (units least) (omega arith)) (take_front (units least) (drop (length (units least)) space))

        pub written_five : (out : List ℕ) (at : ℕ) {pad left inner one two three four five : ℕ} {out1 out2 out3 out4 out5 : List ℕ}
            → pad ≡ f.width - (top + count) → left ≡ left_of f.align pad → inner ≡ inner_of f.align pad
            → one ≡ at + length (copies left fill) → out1 ≡ over out at (copies left fill)
            → two ≡ one + length head → out2 ≡ over out1 one head
            → three ≡ two + length (copies inner fill) → out3 ≡ over out2 two (copies inner fill)
            → four ≡ three + count → out4 ≡ over out3 three (reverse (take count held))
            → five ≡ four + length (copies (pad - (left + inner)) fill) → out5 ≡ over out4 four (copies (pad - (left + inner)) fill)
            → (five ≡ at + length (written (formed fill f) (integer negative size))) × (out5 ≡ over out at (written (formed fill f) (integer negative size)))
        written_five out at {pad} {left} {inner} {one} {two} {three} {four} {five} {out1} {out2} {out3} {out4} {out5} p q i r1 o1 r2 o2 r3 o3 r4 o4 r5 o5 =
            let th : top ≡ length head = omega arith in
            let lh = rw th at l in
            let ph = rw (th, c) at p in
            let u = held_front in
            let w = pieces_are least pad lh ph in
            let n : four ≡ three + length (reverse (units least)) = r4 ∙ ap (λ x. three + x) (c ∙ sym (length-reverse (units least))) in
            let m = o4 ∙ ap (λ x. over out3 three (reverse x)) u in
            let s5 = five_pieces out at (copies left fill) head (copies inner fill) (reverse (units least)) (copies (pad - (left + inner)) fill) r1 o1 r2 o2 r3 o3 n m r5 o5 in
            rw w (rw (q, i) at s5)

pub count_bound : (kind grouping least size : ℕ) {count : ℕ} → count ≡ length (numeral_units kind grouping least size) → 1 < base_of kind → least ≤ 64 → size < 0x100000000 → count ≤ 66
count_bound kind grouping least size c big l s = let m = numeral_short kind grouping least size big l s in omega arith

pub held_long : (space xs : List ℕ) {held : List ℕ} {count : ℕ} → held ≡ over space 0 xs → length space ≡ 80 → count ≤ 66 → count ≤ length held
held_long space xs h e c = let l = ap length h ∙ length_over space 0 xs in omega arith

-- sign and prefix written
pub head_of_lem : (out : List ℕ) (at sign : ℕ) (alternate : Bool) (kind : ℕ) (negative : Bool) {mid now : List ℕ} {next result : ℕ}
    → next ≡ at + length (sign_of sign negative) → mid ≡ over out at (sign_of sign negative)
    → result ≡ next + length (prefix_from alternate kind) → now ≡ over mid next (prefix_from alternate kind)
    → (result ≡ at + length (head_from sign alternate kind negative)) × (now ≡ over out at (head_from sign alternate kind negative))
unfolding head_from
head_of_lem out at sign alternate kind negative = piece_both out at (sign_of sign negative) (prefix_from alternate kind)
