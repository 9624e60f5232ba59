use mathlib.Core.Path.{◌∙◌}
use Rattle.memory_waits.specs.Waits.{awaiting}
use Rattle.memory_waits.proofs.write_wait.Goals as goal

pub returns : goal.returns
unfolding awaiting
returns c =
    c.set-6.ensures ∙ rw (c.set-5.ensures, c.set-4.ensures, c.set-3.ensures, c.set-2.ensures, c.set.ensures)
