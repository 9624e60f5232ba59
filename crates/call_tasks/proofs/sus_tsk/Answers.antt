-- `call_tasks::sus_tsk` meets its contract. It is its rule. Assumes nothing.
use Rattle.rules.specs.Codes.{number}
use Rattle.call_tasks.proofs.TaskCalls.{sus_held, sus_done}
use Rattle.call_tasks.proofs.sus_tsk.Goals as goal

pub returns-then-is_suspended : goal.returns-then-is_suspended
unfolding number
returns-then-is_suspended c =
    sus_held _ c.is_suspended.ensures c.if-is_suspended.true c.refuse.ensures

pub returns : goal.returns
returns c =
    sus_done _ c.is_suspended.ensures c.if-is_suspended.false c.suspend.ensures c.done.ensures
