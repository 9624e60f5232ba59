-- The worked examples of turns hold on both kernels, by computation. Assumes nothing.
use mathlib.Core.List.{[], ◌∷◌}
use mathlib.Core.Path.{◌≡◌, refl}
use lib.IntN.{pos}
use Rattle.rules.specs.Setup.{got}
use Rattle.rules_examples.specs.BenchSheet.{handler_call, expected, ran, plain_ran, Holds, sig_sem}
use Rattle.rules_examples_turns.specs.Turns.{turn_examples, signal, waits, turns, counted}

pub turn_examples_hold : Holds turn_examples
unfolding ran plain_ran expected
turn_examples_hold = (refl, refl)

-- The bound is tight: with one ahead one accepted call is not enough, and two are.
pub one_is_too_few : counted (signal ∷ []) ≡ got (1 ∷ 1 ∷ 1 ∷ []) 96
unfolding counted
one_is_too_few = refl

pub two_are_enough : counted (signal ∷ signal ∷ []) ≡ got (1 ∷ 2 ∷ 0 ∷ []) 96
unfolding counted
two_are_enough = refl

-- a refused call is not counted
pub refused_not_counted : counted (handler_call sig_sem (pos 1) (pos 0) (pos 0) ∷ signal ∷ []) ≡ got (1 ∷ 1 ∷ 1 ∷ []) 96
unfolding counted
refused_not_counted = refl

-- it waits when the run ends, but not in the wait that it was in at first
pub waits_anew : counted (signal ∷ signal ∷ turns ∷ turns ∷ waits ∷ []) ≡ got (1 ∷ 2 ∷ 1 ∷ []) 96
unfolding counted
waits_anew = refl
