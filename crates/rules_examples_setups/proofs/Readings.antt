-- Setups are read as the table says, by computation. Assumes nothing.
use mathlib.Core.List.{map}
use mathlib.Core.Path.{◌≡◌, refl}
use Rattle.rules_examples_setups.specs.Readings.{readings, read}

pub readings_hold : read readings ≡ map (λ r. r.gives) readings
unfolding read
readings_hold = refl
