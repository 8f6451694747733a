use native.Mathlib.Omega.{arith}
use Prim.Native.Nat.{◌-◌, ◌≤◌}
use mathlib.Core.Path.{◌≡◌, sym, ◌∙◌}
use lib.ListN.{length}
use Rattle.counts.specs.Heads.{heads_from}
use Rattle.counts.proofs.HeadLaws.{heads_most, heads_part}
use Rattle.prefixes.proofs.Formed.{begun, ended, formed_within}
use Rattle.prefixes.proofs.FirstBytes.{ascii_chars, formed_chars}
use Rattle.prefixes.proofs.well_formed.Goals as goal
use Rattle.prefixes.proofs.well_formed.Goals.{After-formed_end-len, After-heads}

-- the prefix reaches at least as far as the ASCII, and no further than the text
reaches : (c : After-formed_end-len) → let s = c.args.s.now in (c.ascii_end-ascii.result ≤ c.formed_end-len.result) × (c.formed_end-len.result ≤ length s)
reaches c = let f = formed_within _ _ (begun _ _ c.ascii_end-ascii.ensures.upto) in let e = c.formed_end-len.ensures in (omega arith, omega arith)

-- its characters behind the ASCII
behind : (c : After-heads) → (c.ascii_end-ascii.result ≤ c.formed_end-len.result) × (c.formed_end-len.result ≤ length c.args.s.now) → c.heads.result ≡ heads_from (c.formed_end-len.result - c.ascii_end-ascii.result) c.args.s.now c.ascii_end-ascii.result
behind c r = c.heads.ensures ∙ heads_part _ _ _ r.1

pub returns-then-s-ascii : goal.returns-then-s-ascii
returns-then-s-ascii c =
    let h = c.ascii_end-ascii.ensures.upto in
    let e = sym (ended _ _ (begun _ _ h) (λ k. absurd (omega (arith, c.if-s-ascii.true)))) in
    (e, ascii_chars _ _ h e)

pub formed_end-len-requires : goal.formed_end-len-requires
formed_end-len-requires c = c.ascii_end-ascii.ensures.upto

pub slice_bounds-heads-count : goal.slice_bounds-heads-count
slice_bounds-heads-count c = omega (arith, reaches (goal.at.slice_bounds-heads-count c).After-formed_end-len)

pub slice_bounds-heads-start : goal.slice_bounds-heads-start
slice_bounds-heads-start c = omega (arith, reaches (goal.at.slice_bounds-heads-start c).After-formed_end-len)

pub slice_bounds-heads-end : goal.slice_bounds-heads-end
slice_bounds-heads-end c = omega (arith, reaches (goal.at.slice_bounds-heads-end c).After-formed_end-len)

pub overflow_add-result : goal.overflow_add-result
overflow_add-result c =
    let at = c.ascii_end-ascii.result in
    omega (arith, behind (goal.at.overflow_add-result c).After-heads (reaches (goal.at.overflow_add-result c).After-formed_end-len), reaches (goal.at.overflow_add-result c).After-formed_end-len, heads_most c.args.s.now (c.formed_end-len.result - at) at)

pub returns : goal.returns
returns c =
    let e = c.formed_end-len.ensures in
    (e, rw (behind (goal.at.returns c).After-heads (reaches (goal.at.returns c).After-formed_end-len)) (formed_chars _ _ _ c.ascii_end-ascii.ensures.upto (reaches (goal.at.returns c).After-formed_end-len).0 e))
