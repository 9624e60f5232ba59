-- What set_flg looks at with every task waiting, by computation. Assumes nothing.
use mathlib.Core.List.{[], ◌∷◌, ◌++◌}
use mathlib.Core.Path.{◌≡◌, refl}
use lib.IntN.{pos}
use Rattle.rules.specs.Setup.{got}
use Rattle.rules.specs.Events.{enter}
use Rattle.rules_examples.specs.BenchSheet.{task_call, handler_call, set_flg}
use Rattle.rules_examples_objects.specs.Looks.{wait_in_turn, full_says}

-- In task context set_flg looks at 31 waiters, while the 32nd task runs: it releases nobody, or the last in the queue with clearing.
pub looks_at_31 :
    (full_says (wait_in_turn 30) (task_call set_flg (pos 1) (pos 0) (pos 0)) ≡ got (pos 0 ∷ pos 31 ∷ pos 0 ∷ pos 32 ∷ pos 0 ∷ []) 288)
    × (full_says (wait_in_turn 30) (task_call set_flg (pos 1) (pos 1) (pos 0)) ≡ got (pos 0 ∷ pos 31 ∷ pos 0 ∷ pos 32 ∷ pos 1 ∷ []) 288)
unfolding full_says
looks_at_31 = (refl, refl)

-- From a handler it looks at 32, while nobody runs.
pub looks_at_32 :
    (full_says (wait_in_turn 31 ++ (enter ∷ [])) (handler_call set_flg (pos 1) (pos 0) (pos 0)) ≡ got (pos 0 ∷ pos 32 ∷ pos 0 ∷ pos 0 ∷ pos 0 ∷ []) 288)
    × (full_says (wait_in_turn 31 ++ (enter ∷ [])) (handler_call set_flg (pos 1) (pos 1) (pos 0)) ≡ got (pos 0 ∷ pos 32 ∷ pos 0 ∷ pos 0 ∷ pos 1 ∷ []) 288)
unfolding full_says
looks_at_32 = (refl, refl)
