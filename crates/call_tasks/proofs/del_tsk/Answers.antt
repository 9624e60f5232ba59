-- `call_tasks::del_tsk` meets its contract. It is its rule. Assumes nothing.
use Rattle.rules.specs.Codes.{number}
use Rattle.call_tasks.proofs.TaskCalls.{del_alive, del_done}
use Rattle.call_tasks.proofs.del_tsk.Goals as goal

pub returns-then-get-ne-DORMANT : goal.returns-then-get-ne-DORMANT
unfolding number
returns-then-get-ne-DORMANT c =
    del_alive _ c.get.ensures c.if-get-ne-DORMANT.true c.refuse.ensures

pub returns : goal.returns
returns c =
    del_done _ c.get.ensures c.if-get-ne-DORMANT.false c.delete.ensures c.done.ensures
