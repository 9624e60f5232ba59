-- Invariant: what is left, from here, is the whole from the start.
use mathlib.Core.Path.{◌∙◌}
use Rattle.kernel_fresh.proofs.Steps.{turn_none, turn_step}
use Rattle.kernel_fresh.proofs.empty_queues.Goals as goal

pub loop-anchor-preserved : goal.loop-anchor-preserved
loop-anchor-preserved c = turn_step _ _ _ _ c.loop-anchor-test.true c.clear.ensures ∙ c.loop-anchor.invariant

pub returns : goal.returns
returns c = turn_none _ _ _ _ c.loop-anchor-test.false ∙ c.loop-anchor.invariant
