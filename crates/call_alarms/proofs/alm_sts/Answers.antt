-- `call_alarms::alm_sts` meets its contract. It is its rule. Assumes nothing.
use Rattle.call_alarms.proofs.AlarmCalls.{sts_told}
use Rattle.call_alarms.proofs.alm_sts.Goals as goal

pub returns : goal.returns
returns c = sts_told _ c.get-in_use.ensures c.get.ensures c.from.ensures c.gives.ensures
