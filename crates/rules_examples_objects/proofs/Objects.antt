-- The worked examples of calls 13 to 32 hold on both kernels, by computation. Assumes nothing.
use mathlib.Core.Path.{refl}
use Rattle.rules_examples.specs.BenchSheet.{expected, ran, plain_ran, Holds}
use Rattle.rules_examples_objects.specs.Objects.{object_examples}

pub object_examples_hold : Holds object_examples
unfolding ran plain_ran expected
object_examples_hold = (refl, refl)
