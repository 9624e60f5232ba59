use mathlib.Core.Path.{◌∙◌}
use Rattle.memory_tasks.specs.Moves.{ranked}
use Rattle.memory_tasks.proofs.write_task.Goals as goal

pub returns : goal.returns
unfolding ranked
returns c =
    c.set-4.ensures ∙ rw (c.set-3.ensures, c.set-2.ensures, c.set.ensures)
