use mathlib.Core.Path.{◌∙◌}
use Rattle.memory_objects.specs.Moves.{alarmed}
use Rattle.memory_objects.proofs.alarms.set_alarm.Goals as goal

pub returns : goal.returns
unfolding alarmed
returns c =
    c.set-3.ensures ∙ rw (c.set-2.ensures, c.set.ensures)
