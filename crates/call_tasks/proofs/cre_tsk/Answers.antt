-- `call_tasks::cre_tsk` meets its contract. It is its rule. Assumes nothing.
use Rattle.rules.specs.Codes.{number}
use Rattle.call_tasks.proofs.TaskCalls.{cre_there, cre_done}
use Rattle.call_tasks.proofs.cre_tsk.Goals as goal

pub returns-then-get-ne-ABSENT : goal.returns-then-get-ne-ABSENT
unfolding number
returns-then-get-ne-ABSENT c =
    cre_there _ _ c.get.ensures c.if-get-ne-ABSENT.true c.refuse.ensures

pub returns : goal.returns
returns c =
    cre_done _ _ c.get.ensures c.if-get-ne-ABSENT.false c.create.ensures c.done.ensures
