-- `call_judging::on_priority` meets its contract. The id, the priority, then what is common. Assumes nothing.
use Rattle.call_judging.proofs.Refused.{word_stops, word_passes}
use Rattle.call_judging.specs.Judging.{context_of}
use Rattle.call_judging.proofs.Judged.{task_is, priority_is, named_passed}
use Rattle.call_judging.proofs.on_priority.Goals as goal

pub returns-then-is_outside : goal.returns-then-is_outside
returns-then-is_outside g c =
    λ m A. word_stops _ _ (task_is c.args.i _ m c.get.ensures c.is_outside.ensures) c.if-is_outside.true

pub returns-then-is_outside-2 : goal.returns-then-is_outside-2
returns-then-is_outside-2 g c =
    λ m A. word_passes _ _ (task_is c.args.i _ m c.get.ensures c.is_outside.ensures) c.if-is_outside.false (word_stops _ _ (priority_is c.args.p _ m c.get-2.ensures c.is_outside-2.ensures) c.if-is_outside-2.true)

pub returns : goal.returns
returns g c =
    λ m A. word_passes _ _ (task_is c.args.i _ m c.get.ensures c.is_outside.ensures) c.if-is_outside.false (word_passes _ _ (priority_is c.args.p _ m c.get-2.ensures c.is_outside-2.ensures) c.if-is_outside-2.false (named_passed (context_of c.args.context) c.args.caller.handler c.args.caller.me (g.T.IntoTarget.target c.args.target) c.args.i _ m c.get.ensures c.is_outside.ensures c.if-is_outside.false (rw (← c.into_target-target.ensures) c.common.ensures)))
