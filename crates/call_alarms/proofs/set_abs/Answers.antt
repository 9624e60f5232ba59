-- `call_alarms::set_abs` meets its contract. It is its rule. Assumes nothing.
use Rattle.call_alarms.proofs.AlarmCalls.{abs_done}
use Rattle.call_alarms.proofs.set_abs.Goals as goal

pub returns : goal.returns
returns c =
    abs_done _ _ _ c.get-size.ensures c.set_alm.ensures c.due_after-due.ensures
