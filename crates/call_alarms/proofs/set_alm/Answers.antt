-- `call_alarms::set_alm` meets its contract. It is its rule. Assumes nothing.
use Rattle.rules.specs.Codes.{number}
use Rattle.call_alarms.proofs.AlarmCalls.{set_used, set_done}
use Rattle.call_alarms.proofs.set_alm.Goals as goal

pub returns-then-get-ne0 : goal.returns-then-get-ne0
unfolding number
returns-then-get-ne0 c = set_used _ c.get.ensures _ _ c.if-get-ne0.true c.refuse.ensures

pub returns : goal.returns
returns c =
    set_done _ c.get.ensures _ _ c.if-get-ne0.false c.get-code.ensures c.set_alarm.ensures c.done.ensures
