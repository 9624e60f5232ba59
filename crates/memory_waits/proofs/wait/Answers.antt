use mathlib.Core.Path.{◌∙◌}
use Rattle.memory_waits.specs.Waits.{waited}
use Rattle.memory_waits.proofs.wait.Goals as goal

pub returns : goal.returns
unfolding waited
returns c =
    c.push.ensures ∙ rw (c.wait_anchor.ensures, c.leave.ensures, c.write_wait.ensures)
