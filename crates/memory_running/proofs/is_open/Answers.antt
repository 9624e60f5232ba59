-- `memory_running::is_open` meets its contract. By the depth. Assumes nothing.
use Rattle.memory_running.proofs.Marks.{open_read}
use Rattle.memory_running.proofs.is_open.Goals as goal

pub returns : goal.returns
returns c = open_read _ c.get.ensures
