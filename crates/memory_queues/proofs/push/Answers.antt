-- `memory_queues::push` meets its contract. The links, then the mark. Assumes nothing.
use Rattle.memory_queues.proofs.Notes.{push_steps}
use Rattle.memory_queues.proofs.push.Goals as goal

pub returns : goal.returns
returns c = push_steps _ _ _ c.link.ensures c.note.ensures
