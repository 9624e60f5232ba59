-- What a call does that is named by its number, whoever makes it, on an accepted memory.
use Rattle.std.specs.Prelude.{Bool, List, ℕ, ℤ, Result, Ok, Err}
use Rattle.rules.specs.Codes.{number}
use Rattle.rules.specs.Table.{numbered}
use Rattle.memory_picture.specs.Picture.{view_shown, Accepted}
use Rattle.call_words.specs.declared.Outcome.{Outcome}
use Rattle.call_words.specs.Outcomes.{outcome}
use Rattle.call_words.specs.Doing.{Does}
use Rattle.call_judging.specs.declared.Reason.{Reason}
use Rattle.call_judging.specs.Judging.{code_of}

-- a refusal is its code, with words 0 and nobody released
abbrev pub answered : Result Outcome Reason → Outcome
answered (Ok s) = s
answered (Err e) = outcome (number (code_of e)) 0 0 0

-- the call is done as the table says
abbrev pub Dispatches : Bool → ℕ → ℕ → ℤ → ℤ → ℤ → Outcome → List ℕ → List ℕ → List ℕ → List ℕ → Type 0
Dispatches handler me n a b c s ws m ws' m' = Accepted ws m → Does (numbered (view_shown ws m) handler me n a b c) s ws m ws' m'
