-- `call_tasks::rot_rdq` meets its contract. It is its rule. Assumes nothing.
use mathlib.Core.Path.{◌∙◌}
use Rattle.call_tasks.proofs.TaskCalls.{rot_empty, rot_turns}
use Rattle.call_tasks.proofs.rot_rdq.Goals as goal
use Rattle.call_tasks.proofs.rot_rdq.Goals.{then-x-ne0, else-x-ne0}

pub returns : goal.returns
returns c =
    elim c.if-x-ne0.branch [
      | then-x-ne0 w ↦ rot_turns _ c.ready_head-x.ensures w.if-x-ne0.true (w.words-is ∙ w.rotate.ensures) c.done.ensures
      | else-x-ne0 w ↦ rot_empty _ c.ready_head-x.ensures w.if-x-ne0.false w.words-is c.done.ensures
    ]
