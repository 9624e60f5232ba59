-- `call_tasks::sta_tsk` meets its contract. It is its rule. Assumes nothing.
use Rattle.rules.specs.Codes.{number}
use Rattle.call_tasks.proofs.TaskCalls.{sta_alive, sta_done}
use Rattle.call_tasks.proofs.sta_tsk.Goals as goal

pub returns-then-get-ne-DORMANT : goal.returns-then-get-ne-DORMANT
unfolding number
returns-then-get-ne-DORMANT c =
    sta_alive _ c.get.ensures c.if-get-ne-DORMANT.true c.refuse.ensures

pub returns : goal.returns
returns c =
    sta_done _ c.get.ensures c.if-get-ne-DORMANT.false c.begin.ensures c.done.ensures
