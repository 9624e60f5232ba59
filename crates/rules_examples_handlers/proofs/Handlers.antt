-- The worked examples of handlers hold on both kernels, by computation. Assumes nothing.
use mathlib.Core.Path.{refl}
use Rattle.rules_examples.specs.BenchSheet.{expected, ran, plain_ran, Holds}
use Rattle.rules_examples_handlers.specs.Handlers.{handler_examples}

pub handler_examples_hold : Holds handler_examples
unfolding ran plain_ran expected
handler_examples_hold = (refl, refl)
