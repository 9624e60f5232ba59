use mathlib.Core.Path.{◌∙◌}
use Rattle.memory_tasks.specs.Moves.{rotated}
use Rattle.memory_tasks.proofs.rotate.Goals as goal

pub returns : goal.returns
unfolding rotated
returns c =
    c.push.ensures ∙ rw (c.leave.ensures, c.ready_anchor-anchor.ensures, c.get.ensures)
