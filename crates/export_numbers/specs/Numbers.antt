-- The answers of `start` and `compare` in numbers, as the exported functions give them.
use Rattle.std.specs.Prelude.{ℕ, Result, Ok, Err}
use Rattle.setup_sections.specs.declared.Refusal.{Refusal as RefusalBy}
use Rattle.setup_sections.specs.Judging.{Refusal, digit_of}
use Rattle.run_compare_text.specs.declared.Short.{Short}

-- 0, or the fault's digit; d: the digit of each
abbrev pub number_by : {F : Type 0} → (F → ℕ) → Result (Unit {0}) (RefusalBy F) → ℕ
number_by d (Ok t) = 0
number_by d (Err r) = d r.fault

abbrev pub start_place : {F : Type 0} → Result (Unit {0}) (RefusalBy F) → ℕ
start_place (Ok t) = 0
start_place (Err r) = r.place

-- 0, or 1 to 4 for S1 to S4
abbrev pub start_number : Result (Unit {0}) Refusal → ℕ
start_number = number_by digit_of

-- 0 written, 1 no room; and the length of the text
abbrev pub told_number : Result ℕ Short → ℕ
told_number (Ok n) = 0
told_number (Err s) = 1

abbrev pub told_length : Result ℕ Short → ℕ
told_length (Ok n) = n
told_length (Err s) = s.needed
