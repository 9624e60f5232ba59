use mathlib.Core.Path.{◌∙◌}
use Rattle.memory_tasks.specs.Moves.{started}
use Rattle.memory_tasks.proofs.begin.Goals as goal

pub returns : goal.returns
unfolding started
returns c =
    c.make_ready.ensures ∙ rw (c.write_cell.ensures, c.set.ensures, c.get-p.ensures)
