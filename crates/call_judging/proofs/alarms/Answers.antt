-- `call_judging::alarms` meets its contract. By its test. Assumes nothing.
use Rattle.call_judging.proofs.Tests.{no_alarms, all_alarms}
use Rattle.call_judging.proofs.alarms.Goals as goal

pub returns-then-get-eq0 : goal.returns-then-get-eq0
returns-then-get-eq0 c = no_alarms c.get.ensures c.if-get-eq0.true

pub returns-else-get-eq0 : goal.returns-else-get-eq0
returns-else-get-eq0 c = all_alarms _ c.get.ensures c.if-get-eq0.false
