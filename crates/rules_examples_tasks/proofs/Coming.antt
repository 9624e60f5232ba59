-- The worked examples of tasks that come and go hold on both kernels, by computation. Assumes nothing.
use mathlib.Core.Path.{refl}
use Rattle.rules_examples.specs.BenchSheet.{expected, ran, plain_ran, Holds}
use Rattle.rules_examples_tasks.specs.Coming.{coming_examples}

pub coming_examples_hold : Holds coming_examples
unfolding ran plain_ran expected
coming_examples_hold = (refl, refl)
