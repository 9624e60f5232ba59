-- `call_tasks::ter_tsk` meets its contract. It is its rule. Assumes nothing.
use Rattle.call_tasks.proofs.TaskCalls.{ter_done}
use Rattle.call_tasks.proofs.ter_tsk.Goals as goal

pub returns : goal.returns
returns c =
    ter_done _ c.retire.ensures c.done.ensures
