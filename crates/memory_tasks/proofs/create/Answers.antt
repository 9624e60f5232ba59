use mathlib.Core.Path.{◌∙◌}
use Rattle.memory_tasks.specs.Moves.{created}
use Rattle.memory_tasks.proofs.create.Goals as goal

pub returns : goal.returns
unfolding created
returns c = c.leave.ensures ∙ rw c.write_task.ensures
