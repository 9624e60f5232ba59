-- `call_tasks::chg_pri` meets its contract. It is its rule. Assumes nothing.
use Rattle.call_tasks.proofs.TaskCalls.{chg_done}
use Rattle.call_tasks.proofs.chg_pri.Goals as goal

pub returns : goal.returns
returns c =
    chg_done _ _ c.regrade.ensures c.done.ensures
