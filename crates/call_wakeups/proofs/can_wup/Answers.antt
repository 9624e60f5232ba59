-- `call_wakeups::can_wup` meets its contract. It is its rule. Assumes nothing.
use Rattle.call_wakeups.proofs.WakeCalls.{can_done}
use Rattle.call_wakeups.proofs.can_wup.Goals as goal

pub returns : goal.returns
returns c =
    can_done _ c.get-n.ensures c.set.ensures c.gives.ensures
