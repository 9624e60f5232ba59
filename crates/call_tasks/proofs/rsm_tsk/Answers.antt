-- `call_tasks::rsm_tsk` meets its contract. It is its rule. Assumes nothing.
use Rattle.rules.specs.Codes.{number}
use Rattle.call_tasks.proofs.TaskCalls.{rsm_free, rsm_done}
use Rattle.std.proofs.lemmas.Bool.{not_from_false, not_from_true}
use Rattle.call_tasks.proofs.rsm_tsk.Goals as goal

pub returns-then-not-is_suspended : goal.returns-then-not-is_suspended
unfolding number
returns-then-not-is_suspended c =
    rsm_free _ c.is_suspended.ensures (not_from_false _ c.if-not-is_suspended.true) c.refuse.ensures

pub returns : goal.returns
returns c =
    rsm_done _ c.is_suspended.ensures (not_from_true _ c.if-not-is_suspended.false) c.resume.ensures c.done.ensures
