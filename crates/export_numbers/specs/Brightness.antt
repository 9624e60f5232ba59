-- The answers of the brightness functions in numbers, as the exported functions give them.
use Rattle.std.specs.Prelude.{◌≡◌, ℕ, Result, Ok, Err}
use Rattle.brightness_curve.specs.declared.BadPoint.{BadPoint}
use Rattle.brightness_curve.specs.Curves.{Judged}
use Rattle.brightness_light.specs.declared.Shown.{Shown}
use Rattle.brightness_light.specs.Lights.{news_number, news_point}
use Rattle.export_numbers.specs.declared.Display.{Display}

-- 0 good, 1 bad; and the first bad point
abbrev pub judged_number : Judged → ℕ
judged_number (Ok u) = 0
judged_number (Err k) = 1

abbrev pub judged_point : Judged → ℕ
judged_point (Ok u) = 0
judged_point (Err k) = k.0

-- 0 and the level; or 1 and the first bad point
abbrev pub leveled_number : Result ℕ BadPoint → ℕ
leveled_number (Ok y) = 0
leveled_number (Err k) = 1

abbrev pub leveled_value : Result ℕ BadPoint → ℕ
leveled_value (Ok y) = y
leveled_value (Err k) = k.0

-- the light as it is, and what became of the arrival by its number (`news_number`)
pub record DisplayTold (s : Shown) (d : Display) : Type 0 where
  pub light : d.light ≡ s.light
  pub news : d.news ≡ news_number s.news
  pub point : d.point ≡ news_point s.news
