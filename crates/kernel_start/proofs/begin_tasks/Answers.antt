-- Invariant: what is left, from here, is the whole from the start.
use mathlib.Core.Path.{◌∙◌}
use Rattle.kernel_fresh.proofs.Steps.{turn_none, turn_step}
use Rattle.kernel_start.proofs.begin_tasks.Goals as goal

pub loop-i-preserved : goal.loop-i-preserved
loop-i-preserved c = turn_step _ _ _ _ c.loop-i-test.true c.begin_task.ensures ∙ c.loop-i.invariant

pub returns : goal.returns
returns c = turn_none _ _ _ _ c.loop-i-test.false ∙ c.loop-i.invariant
