-- The same for counters and alarms, by computation. Assumes nothing.
use mathlib.Core.Path.{refl}
use Rattle.rules_examples_damage.specs.Damages.{touched, damage_told, unchanged}
use Rattle.rules_examples_damage.specs.Counters.{alarm_damages, alarm_repairs}
use Rattle.rules_examples_damage.proofs.Damages.{Told, Served}

pub alarm_damage_told : Told alarm_damages
unfolding touched damage_told
alarm_damage_told e a = refl

pub alarm_repair_served : Served alarm_repairs
unfolding touched unchanged
alarm_repair_served = refl
