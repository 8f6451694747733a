use Rattle.integers.proofs.Joined.{prefix_unasked, prefix_ten, prefix_asked, piece_two, piece_none}
use Rattle.integers.proofs.put_prefix.Goals as goal
use Rattle.integers.proofs.put_prefix.Goals.{then-not-alternate-via-then-not-alternate, then-not-alternate-via-else-not-alternate+then-base_of-eq10}

pub returns-then-not-alternate : goal.returns-then-not-alternate
returns-then-not-alternate c =
    piece_none _ c.args.at
    (elim c.then-not-alternate.branch [
      | then-not-alternate-via-then-not-alternate w ↦ prefix_unasked c.args.kind w.if-not-alternate.true
      | then-not-alternate-via-else-not-alternate+then-base_of-eq10 w ↦ prefix_ten c.args.kind c.args.alternate w.base_of.ensures w.if-base_of-eq10.true
    ])

pub returns : goal.returns
returns c = piece_two _ c.args.at (prefix_asked c.args.kind c.if-not-alternate.false c.base_of.ensures c.if-base_of-eq10.false) c.put.ensures c.put-2.ensures
