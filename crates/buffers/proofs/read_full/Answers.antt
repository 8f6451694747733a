use Rattle.std.proofs.Common.{◌≡◌, ℕ, ◌+◌, ◌≤◌, List, ◌++◌, rules, length, take, drop, sym, ap, ◌∙◌, subst, le_refl, drop_at, length-take-le}
use Rattle.std.proofs.lemmas.Slice.{take-put_mid_below}
use Rattle.std.specs.Io.KnownBytes.{Consumes}
use Rattle.std.proofs.KnownBytes.{Consumes-trans}
use borrow.Rule.Slice.PartMut.{put_mid, post_of}
use lib.Seq.{take-add, take-append-le}
use Rattle.buffers.proofs.read_full.Goals as goal

-- what is in front of the end of a read: what was there, and what it gave
read_front : (a k n : ℕ) (xs ys : List ℕ) → a ≤ length xs → n ≤ length ys → take a xs ++ take n ys ≡ take (a + n) (put_mid a k xs ys)
read_front a k n xs ys within fits =
    let all = put_mid a k xs ys in
    let front : take a xs ≡ take a all = sym (take-put_mid_below _ _ _ _ _ (le_refl _) within) in
    let given : take n ys ≡ take n (drop a all) = sym (ap (take n) (drop_at (take a xs) (ys ++ post_of a k xs) a (length-take-le a xs within)) ∙ take-append-le n ys _ fits) in
    ap (λ l. l ++ take n ys) front ∙ ap (λ l. take a all ++ l) given ∙ sym (take-add a n all)

pub loop-done-preserved : goal.loop-done-preserved
loop-done-preserved g c =
    let joined = Consumes-trans _ _ _ _ _ c.loop-done.invariant.2 c.in_ok-n.ensures.bytes.0 in
    (search rules, search rules, subst (Consumes _ _) (read_front c.loop-done.done _ c.in_ok-n.n c.loop-done.buffer c.read.new.buf c.loop-done.invariant.1 c.in_ok-n.ensures.bound.0) joined)
