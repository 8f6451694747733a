use Rattle.entry.proofs.Checks.{passes, refused}
use Rattle.strings.proofs.CallLaws.{finish_short, finish_accepted}
use Rattle.strings.proofs.finish.Goals as goal

pub returns-in-Err : goal.returns-in-Err
returns-in-Err c = λ look within skip script words₀ text₀ rows rows' D. finish_short D c.in-Err.r _ _ _ (refused _ _ _ (rw c.in-Err.is at c.room.ensures)) c.refuse.ensures

pub returns-in-Ok : goal.returns-in-Ok
returns-in-Ok c = λ look within skip script words₀ text₀ rows rows' D. rw c.answer_of.ensures (finish_accepted D (passes _ _ _ (rw c.in-Ok.is at c.room.ensures)))
