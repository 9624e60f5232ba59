-- `call_alarms::can_alm` meets its contract. It is its rule. Assumes nothing.
use Rattle.rules.specs.Codes.{number}
use Rattle.call_alarms.proofs.AlarmCalls.{can_idle, can_done}
use Rattle.call_alarms.proofs.can_alm.Goals as goal

pub returns-then-get-eq0 : goal.returns-then-get-eq0
unfolding number
returns-then-get-eq0 c = can_idle _ c.get.ensures c.if-get-eq0.true c.refuse.ensures

pub returns : goal.returns
returns c =
    can_done _ c.get.ensures c.if-get-eq0.false c.get-code.ensures c.set_alarm.ensures c.done.ensures
