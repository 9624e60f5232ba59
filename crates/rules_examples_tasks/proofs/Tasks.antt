-- The worked examples of calls 1 to 12 hold on both kernels, by computation. Assumes nothing.
use mathlib.Core.Path.{◌≡◌, refl}
use lib.IntN.{pos}
use Rattle.rules.specs.Codes.{minus}
use Rattle.rules_examples.specs.BenchSheet.{task_call, expected, ran, plain_ran, Holds, slp_tsk, wai_tsk}
use Rattle.rules_examples_tasks.specs.Tasks.{task_examples, leaves}

pub task_examples_hold : Holds task_examples
unfolding ran plain_ran expected
task_examples_hold = (refl, refl)

-- wai_tsk(-1) waits for ever, as slp_tsk does: no number of ticks would show it, the state does
pub waits_for_ever : leaves (task_call wai_tsk (minus 1) (pos 0) (pos 0)) ≡ leaves (task_call slp_tsk (pos 0) (pos 0) (pos 0))
unfolding leaves
waits_for_ever = refl
