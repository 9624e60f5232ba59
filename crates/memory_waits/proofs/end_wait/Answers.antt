use mathlib.Core.Path.{◌∙◌}
use Rattle.memory_waits.proofs.end_wait.Goals as goal

pub returns : goal.returns
returns c = c.set.ensures ∙ rw c.write_cell.ensures
