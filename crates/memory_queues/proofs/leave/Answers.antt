-- `memory_queues::leave` meets its contract. The links, then the mark of the node that was behind. Assumes nothing.
use Rattle.memory_queues.proofs.Notes.{leave_steps}
use Rattle.memory_queues.proofs.leave.Goals as goal

pub returns : goal.returns
returns c =
    leave_steps _ _ c.follow-behind.ensures c.unlink.ensures c.first-more.ensures c.note.ensures
