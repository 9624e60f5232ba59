-- The answer of `compare` in numbers, as the exported function gives it.
use Rattle.std.specs.Prelude.{List, ◌≡◌, ℕ, Result}
use Rattle.run_compare_text.specs.declared.Short.{Short}
use Rattle.run_compare_text.specs.Output.{Shown}
use Rattle.run_compare.specs.Difference.{difference_of}
use Rattle.export_numbers.specs.Numbers.{told_number, told_length}

pub record ComparedTold (input : List ℕ) (number len : ℕ) (old new : List ℕ) : Type 0 where
  pub answer : Result ℕ Short
  pub promised : Shown (difference_of input) answer old new
  pub number_is : number ≡ told_number answer
  pub length_is : len ≡ told_length answer
