-- What setting an alarm does to the memory. An expiry is kept as one more, 0 of an idle alarm.
use Rattle.std.specs.Prelude.{cond, List, ◌≡◌, ℕ, suc, ◌+◌, ◌%◌, eqb, pos}
use Rattle.rules.specs.Alarms.{set_alm}
use Rattle.call_words.specs.declared.Outcome.{Outcome}
use Rattle.call_words.specs.Doing.{DoesOnWords}
use Rattle.call_words.specs.Naming.{NamesAlarm}

-- An idle alarm is set to an expiry, which is kept as d, and a period.
abbrev pub SetsAlarm : ℕ → ℕ → ℕ → Outcome → List ℕ → List ℕ → Type 0
SetsAlarm k d p s b b' = (e : ℕ) → d ≡ suc e → DoesOnWords (NamesAlarm k) (λ v. set_alm v (pos k) e (pos p)) s b b'

-- so many ticks after a count
unfoldable pub due_after : ℕ → ℕ → ℕ → ℕ
due_after now n size = cond (eqb size 0) 0 (suc ((now + n) % size))
