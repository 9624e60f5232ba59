use mathlib.Core.Path.{◌∙◌}
use Rattle.memory_tasks.proofs.write_cell.Goals as goal

pub returns : goal.returns
returns c = c.set-2.ensures ∙ rw c.set.ensures
