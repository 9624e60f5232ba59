use mathlib.Core.Path.{◌∙◌}
use Rattle.memory_waits.specs.Waits.{slept}
use Rattle.memory_waits.proofs.sleep.Goals as goal

pub returns : goal.returns
unfolding slept
returns c = c.leave.ensures ∙ rw c.write_wait.ensures
