-- `call_tasks::rel_wai` meets its contract. It is its rule. Assumes nothing.
use Rattle.rules.specs.Codes.{number}
use Rattle.call_tasks.proofs.TaskCalls.{rel_free, rel_done}
use Rattle.std.proofs.lemmas.Bool.{not_from_false, not_from_true}
use Rattle.call_tasks.proofs.rel_wai.Goals as goal

pub returns-then-not-is_waiting : goal.returns-then-not-is_waiting
unfolding number
returns-then-not-is_waiting c =
    rel_free _ c.is_waiting.ensures (not_from_false _ c.if-not-is_waiting.true) c.refuse.ensures

pub returns : goal.returns
returns c =
    rel_done _ c.is_waiting.ensures (not_from_true _ c.if-not-is_waiting.false) c.release.ensures c.releases.ensures
