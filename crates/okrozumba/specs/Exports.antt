-- The answers of `start`, `events` and `run` in numbers, as the exported functions give them.
use Rattle.std.specs.Prelude.{List, ◌≡◌, ℕ, ◌+◌, ℤ, Result, Ok, Err}
use Rattle.memory_picture.specs.Picture.{Memory}
use Rattle.kernel_start.specs.Starting.{Starts}
use Rattle.setup_sections.specs.Judging.{digit_of}
use Rattle.kernel_batches.specs.declared.RunError.{RunError}
use Rattle.kernel_batches.specs.Batches.{batch_number, Lent, Batched, RunsFrom}
use Rattle.export_numbers.specs.Numbers.{start_number, start_place}

-- ---- numbers and places

-- 0; 1 to 3 as a batch; 11 to 14 for S1 to S4
abbrev pub ran_number : Result (Unit {0}) RunError → ℕ
ran_number (Ok t) = 0
ran_number (Err (RunError.Unfit u)) = batch_number (Err u)
ran_number (Err (RunError.Refused r)) = 10 + digit_of r.fault

abbrev pub ran_place : Result (Unit {0}) RunError → ℕ
ran_place (Ok t) = 0
ran_place (Err (RunError.Unfit u)) = 0
ran_place (Err (RunError.Refused r)) = r.place

-- ---- the contracts

-- the number is that of an answer of which P holds
pub record Numbered {A : Type 0} (number_of : A → ℕ) (P : A → Type 0) (n : ℕ) : Type 0 where
  pub answer : A
  pub promised : P answer
  pub number : n ≡ number_of answer

abbrev pub StartsTold : List ℕ → ℕ → ℕ → Memory → Memory → Type 0
StartsTold s n place old new = Numbered start_number (λ r. Starts s r old new × (place ≡ start_place r)) n

abbrev pub BatchedTold : List ℤ → ℕ → Lent → Lent → Type 0
BatchedTold events n old new = Numbered batch_number (λ r. Batched events r old new) n

abbrev pub RunsTold : List ℕ → List ℤ → ℕ → ℕ → Lent → Lent → Type 0
RunsTold s events n place old new = Numbered ran_number (λ r. RunsFrom s events r old new × (place ≡ ran_place r)) n
