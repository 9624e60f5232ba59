-- What the exported functions of a light promise, in numbers.
use Rattle.brightness_light.specs.declared.Shown.{Shown}
use Rattle.export_numbers.specs.declared.Display.{Display}
use Rattle.export_numbers.specs.Brightness.{DisplayTold}

-- the numbers are those of an answer of which P holds
pub record Displayed (P : Shown → Type 0) (d : Display) : Type 0 where
  pub answer : Shown
  pub promised : P answer
  pub told : DisplayTold answer d
