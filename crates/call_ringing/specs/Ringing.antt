-- What an alarm does to the memory at a count of the counter, and all of them one after the other.
use Rattle.std.specs.Prelude.{Bool, cond, List, ◌≡◌, ℕ, suc, eqb, length}
use Rattle.rules.specs.Acts.{Act}
use Rattle.rules.specs.View.{View}
use Rattle.rules.specs.Releases.{releases}
use Rattle.memory_columns.specs.Layout as Layout
use Rattle.memory_columns.specs.Layout.{max_alarms, counter, alarm_due, entry}
use Rattle.memory_picture.specs.Picture.{view_shown, Accepted}
use Rattle.call_words.specs.Doing.{performs}
use Rattle.call_alarms.specs.Setting.{due_after}

-- The acts are performed, and they release n tasks.
pub record Performs (l : List Act) (n : ℕ) (b b' : List ℕ) : Type 0 where
  pub words : b' ≡ performs l b
  pub released : n ≡ releases l

-- The acts that an accepted memory asks for, if P holds of what it shows.
abbrev pub PerformsOnWords : (View → Type 0) → (View → List Act) → ℕ → List ℕ → List ℕ → Type 0
PerformsOnWords P acts n b b' = (m : List ℕ) → Accepted b m → P (view_shown b m) → Performs (acts (view_shown b m)) n b b'

-- there is a counter, and so all its alarms
abbrev pub HasCounter : View → Type 0
HasCounter v = length v.body.counter.alarms ≡ max_alarms

-- ---- of the words

-- with a period, after a firing
unfoldable pub due_again : List ℕ → ℕ → ℕ
due_again b p = cond (eqb p 0) 0 (due_after (entry counter b Layout.counter_now) p (entry counter b Layout.counter_size))

-- due at the present count
unfoldable pub due_at : List ℕ → ℕ → Bool
due_at b k = eqb (entry alarm_due b k) (suc (entry counter b Layout.counter_now))
