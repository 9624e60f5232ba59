-- `call_handlers::leave` meets its contract. By the depth. Assumes nothing.
use Rattle.rules.specs.Codes.{number}
use Rattle.call_handlers.proofs.Handlers.{leave_refused, leave_last, leave_inner}
use Rattle.call_handlers.proofs.leave.Goals as goal

pub returns-then-depth-eq0 : goal.returns-then-depth-eq0
unfolding number
returns-then-depth-eq0 c = leave_refused _ c.get-depth.ensures c.if-depth-eq0.true c.refuse.ensures

pub returns-then-depth-eq1 : goal.returns-then-depth-eq1
returns-then-depth-eq1 c =
    leave_last _ c.get-depth.ensures c.if-depth-eq1.true c.nest.ensures c.done.ensures

pub returns : goal.returns
returns c =
    leave_inner _ c.get-depth.ensures c.if-depth-eq0.false c.if-depth-eq1.false c.get-interrupted.ensures c.nest-2.ensures c.done-2.ensures
