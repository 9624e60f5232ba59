use mathlib.Core.Path.{◌∙◌}
use Rattle.memory_objects.specs.Moves.{nested}
use Rattle.memory_objects.proofs.handlers.nest.Goals as goal

pub returns : goal.returns
unfolding nested
returns c = c.set-2.ensures ∙ rw c.set.ensures
