use mathlib.Core.Path.{◌∙◌}
use Rattle.memory_tasks.specs.Moves.{retired}
use Rattle.memory_tasks.proofs.retire.Goals as goal

pub returns : goal.returns
unfolding retired
returns c =
    c.leave.ensures ∙ rw (c.set-4.ensures, c.set-3.ensures, c.set-2.ensures, c.set.ensures, c.get-p.ensures)
