-- `call_judging::on_task` meets its contract. The id, then what is common. Assumes nothing.
use Rattle.call_judging.proofs.Refused.{word_stops}
use Rattle.call_judging.specs.Judging.{context_of}
use Rattle.call_judging.proofs.Judged.{task_is, task_passed}
use Rattle.call_judging.proofs.on_task.Goals as goal

pub returns-then-is_outside : goal.returns-then-is_outside
returns-then-is_outside g c =
    λ m A. word_stops _ _ (task_is c.args.i _ m c.get.ensures c.is_outside.ensures) c.if-is_outside.true

pub returns : goal.returns
returns g c =
    λ m A. task_passed (context_of c.args.context) c.args.caller.handler c.args.caller.me (g.T.IntoTarget.target c.args.target) c.args.i _ m c.get.ensures c.is_outside.ensures c.if-is_outside.false (rw (← c.into_target-target.ensures) c.common.ensures)
