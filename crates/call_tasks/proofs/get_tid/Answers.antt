-- `call_tasks::get_tid` meets its contract. It is its rule. Assumes nothing.
use Rattle.call_tasks.proofs.TaskCalls.{tid_done}
use Rattle.call_tasks.proofs.get_tid.Goals as goal

pub returns : goal.returns
returns c =
    tid_done c.running_task.ensures c.gives.ensures
