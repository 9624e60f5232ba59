-- Invariant: what is left, from here, is the whole from the start.
use mathlib.Core.Path.{◌∙◌}
use Rattle.kernel_fresh.proofs.Steps.{turn_none, turn_step}
use Rattle.kernel_start.proofs.free_pools.Goals as goal

pub loop-p-preserved : goal.loop-p-preserved
loop-p-preserved c = turn_step _ _ _ _ c.loop-p-test.true c.free_pool.ensures ∙ c.loop-p.invariant

pub returns : goal.returns
returns c = turn_none _ _ _ _ c.loop-p-test.false ∙ c.loop-p.invariant
