-- `call_tasks::tsk_sts` meets its contract. It is its rule. Assumes nothing.
use Rattle.call_tasks.proofs.TaskCalls.{sts_done}
use Rattle.call_tasks.proofs.tsk_sts.Goals as goal

pub returns : goal.returns
returns c =
    sts_done _ c.state_number-s.ensures c.get-p.ensures c.gives.ensures
