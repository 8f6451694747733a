use Rattle.std.proofs.Common.{ℕ, sym, ◌∙◌, le-ltb, lt-ltb, le-leb}
use lib.ListN.{get_or-eq_default}
use Rattle.definition.proofs.Moves.CharLaws.{byte_is}
use Rattle.definition_names.specs.IsIndex.{is_start}
use Rattle.names.proofs.is_start.Goals as goal
use Rattle.names.proofs.is_start.Goals.{then-file-at-via-then-file-at, then-file-at-via-else-file-at+then-not-begins}

pub returns-then-file-at : goal.returns-then-file-at
unfolding is_start
returns-then-file-at c =
    elim c.then-file-at.branch [
      | then-file-at-via-then-file-at w ↦ rw (le-ltb _ _ w.if-file-at.true)
      | then-file-at-via-else-file-at+then-not-begins w ↦ rw (lt-ltb _ _ w.if-file-at.false, sym w.begins.ensures ∙ w.if-not-begins.true)
    ]

pub returns-then-file-name : goal.returns-then-file-name
unfolding is_start
returns-then-file-name c =
    rw (lt-ltb _ _ c.if-file-at.false, sym c.begins.ensures ∙ c.if-not-begins.false, ← c.name_at-name.ensures, le-leb _ _ c.if-file-name.true, get_or-eq_default {A = ℕ} _ 256 c.if-file-name.true)

pub returns-else-file-name : goal.returns-else-file-name
unfolding is_start
returns-else-file-name c =
    rw (lt-ltb _ _ c.if-file-at.false, sym c.begins.ensures ∙ c.if-not-begins.false, ← c.name_at-name.ensures, byte_is _ _ c.if-file-name.false)
