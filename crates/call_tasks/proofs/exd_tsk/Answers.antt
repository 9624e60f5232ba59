-- `call_tasks::exd_tsk` meets its contract. It is its rule. Assumes nothing.
use Rattle.call_tasks.proofs.TaskCalls.{exd_done}
use Rattle.call_tasks.proofs.exd_tsk.Goals as goal

pub returns : goal.returns
returns c =
    exd_done _ c.delete.ensures c.done.ensures
