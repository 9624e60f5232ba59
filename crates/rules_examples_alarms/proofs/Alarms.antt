-- The worked examples of alarms hold on both kernels, by computation. Assumes nothing.
use mathlib.Core.Path.{refl}
use Rattle.rules_examples.specs.BenchSheet.{expected, ran, plain_ran, Holds}
use Rattle.rules_examples_alarms.specs.Alarms.{alarm_examples, eight_examples, no_counter_examples}

pub alarm_examples_hold : Holds alarm_examples
unfolding ran plain_ran expected
alarm_examples_hold = (refl, refl)

pub eight_examples_hold : Holds eight_examples
unfolding ran plain_ran expected
eight_examples_hold = (refl, refl)

pub no_counter_examples_hold : Holds no_counter_examples
unfolding ran plain_ran expected
no_counter_examples_hold = (refl, refl)
