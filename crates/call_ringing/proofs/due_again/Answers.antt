-- `call_ringing::due_again` meets its contract. By its test. Assumes nothing.
use Rattle.call_ringing.proofs.Firing.{again_once, again_more}
use Rattle.call_ringing.proofs.due_again.Goals as goal

pub returns-then-period-eq0 : goal.returns-then-period-eq0
returns-then-period-eq0 c = again_once _ c.if-period-eq0.true

pub returns : goal.returns
returns c =
    again_more _ c.if-period-eq0.false c.get-count.ensures c.get-size.ensures c.due_after.ensures
