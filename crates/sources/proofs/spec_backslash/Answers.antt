use Rattle.std.proofs.Common.{◌∙◌, sym, arith}
use Rattle.sources.proofs.Odds.{spec_none, spec_kind, spec_past, spec_brace, spec_there}
use Rattle.sources.proofs.spec_backslash.Goals as goal

pub returns-then-f-eq0 : goal.returns-then-f-eq0
returns-then-f-eq0 c = spec_none _ c.args.f c.if-f-eq0.true

pub returns-in_default : goal.returns-in_default
returns-in_default c = spec_kind _ c.args.f c.if-f-eq0.false _ c.in_default.ensures.kind c.in_default.field-0-test.1

pub returns-in_default-2 : goal.returns-in_default-2
returns-in_default-2 c = let k = rw c.in_default.is at c.opens.ensures.kind in spec_kind _ c.args.f c.if-f-eq0.false _ k (λ e. omega arith)

pub returns-in-Some-eq92 : goal.returns-in-Some-eq92
returns-in-Some-eq92 c =
    let o = c.in-Some-eq1 in
    let h = c.in-Some-eq92.ensures.lookup in
    spec_there _ c.args.f c.if-f-eq0.false _ o.ensures.kind o.field-0-test _ c.first_of-i.ensures h.3.0 (sym (h.3.1 0) ∙ c.in-Some-eq92.field-0-test)

pub returns-in_default-get : goal.returns-in_default-get
returns-in_default-get c =
    let o = c.in-Some-eq1 in
    let h = rw c.in_default-get.is at c.get.ensures.lookup in
    spec_brace _ c.args.f c.if-f-eq0.false _ o.ensures.kind o.field-0-test _ c.first_of-i.ensures h.3.0 (λ e. c.in_default-get.field-0-test.1 (let z = h.3.1 0 in let y = c.in_default-get.field-0-is in cc))

pub returns-in_default-get-2 : goal.returns-in_default-get-2
returns-in_default-get-2 c =
    let o = c.in-Some-eq1 in
    let h = rw c.in_default-get.is at c.get.ensures.lookup in
    spec_past _ c.args.f c.if-f-eq0.false _ o.ensures.kind o.field-0-test _ c.first_of-i.ensures h.3
