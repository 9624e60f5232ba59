-- The four numbers that a call answers.
use Rattle.std.specs.Prelude.{ℕ, ℤ}
use Rattle.rules.specs.Codes.{number}
use Rattle.rules.specs.Releases.{releases}
use Rattle.rules.specs.Verdicts.{Verdict}
use Rattle.call_words.specs.declared.Outcome.{Outcome}

abbrev pub outcome : ℤ → ℕ → ℕ → ℕ → Outcome
outcome c x y n = record { code = c; w1 = x; w2 = y; released = n }

-- what a verdict has to answer
abbrev pub told : Verdict → Outcome
told r = outcome (number r.code) r.w1 r.w2 (releases r.acts)
