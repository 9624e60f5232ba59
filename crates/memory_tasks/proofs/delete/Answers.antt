use mathlib.Core.Path.{◌∙◌}
use Rattle.memory_tasks.specs.Moves.{deleted}
use Rattle.memory_tasks.proofs.delete.Goals as goal

pub returns : goal.returns
unfolding deleted
returns c =
    c.leave.ensures ∙ rw (c.write_cell.ensures, c.write_task.ensures)
