-- What the contracts of a whole setup say beyond the rules.
use Rattle.std.specs.Prelude.{cond, List, [], ℕ, leb, Result, Ok, Err}
use Rattle.rules.specs.Setup.{Read, got, Section}
use Rattle.setup_sections.specs.declared.Refusal.{Refusal as RefusalBy}

-- a section that is not read
abbrev pub left_out : List ℕ → Section → ℕ → Read (List (List ℕ))
left_out s t i = got [] i

-- nothing may follow, of n bytes; f: what names that fault
abbrev pub ended_at : {F : Type 0} → F → ℕ → ℕ → Result ℕ (RefusalBy F)
ended_at f n i = cond (leb n i) (Ok i) (Err (record { fault = f; place = i }))
