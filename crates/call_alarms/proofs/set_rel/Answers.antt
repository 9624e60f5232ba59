-- `call_alarms::set_rel` meets its contract. It is its rule. Assumes nothing.
use Rattle.call_alarms.proofs.AlarmCalls.{rel_done}
use Rattle.call_alarms.proofs.set_rel.Goals as goal

pub returns : goal.returns
returns c =
    rel_done _ _ _ c.get-size.ensures c.set_alm.ensures c.get-present.ensures c.due_after-due.ensures
