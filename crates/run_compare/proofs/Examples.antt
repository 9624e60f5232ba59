-- The examples hold, by computation. Assumes nothing.
use mathlib.Core.List.{map}
use mathlib.Core.Path.{◌≡◌, refl}
use Rattle.run_compare.specs.Difference.{difference_of}
use Rattle.run_compare.specs.Examples.{examples}

pub examples_hold : map (λ e. difference_of e.input) examples ≡ map (λ e. e.text) examples
unfolding difference_of
examples_hold = refl
