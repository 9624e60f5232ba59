use mathlib.Core.Path.{◌∙◌}
use Rattle.memory_tasks.specs.Moves.{readied}
use Rattle.memory_tasks.proofs.make_ready.Goals as goal

pub returns : goal.returns
unfolding readied
returns c = c.rotate.ensures ∙ rw c.set.ensures
