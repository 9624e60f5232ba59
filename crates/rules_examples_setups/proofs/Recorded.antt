-- The recorded run gives its answers on both kernels, by computation. Assumes nothing.
use mathlib.Core.Path.{◌≡◌, refl}
use Rattle.rules.specs.Runs.{play, plain_play}
use Rattle.rules_examples_setups.specs.Recorded.{run_bytes, run_words, run_answers}

pub recorded_run_holds : (play run_bytes run_words ≡ run_answers) × (plain_play run_bytes run_words ≡ run_answers)
unfolding play plain_play
recorded_run_holds = (refl, refl)
