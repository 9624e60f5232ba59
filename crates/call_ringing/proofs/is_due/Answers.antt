-- `call_ringing::is_due` meets its contract. By its test. Assumes nothing.
use Rattle.call_ringing.proofs.Firing.{due_idle, due_now}
use Rattle.call_ringing.proofs.is_due.Goals as goal

pub returns-then-due-ne0 : goal.returns-then-due-ne0
returns-then-due-ne0 c = due_now _ _ c.get-due.ensures c.if-due-ne0.true c.get.ensures

pub returns-else-due-ne0 : goal.returns-else-due-ne0
returns-else-due-ne0 c = rw c.if-due-ne0.false (due_idle _ _ c.get-due.ensures c.if-due-ne0.false)
