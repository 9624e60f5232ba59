-- What the first pass of a tick writes, for any words: the tasks whose wait it ends are released, in id order. And how many they are. Whether
-- there is anything to do is seen in the column of ticks alone: a task whose wait ends has one tick left, and one that is in a timed wait some.
use Rattle.std.specs.Prelude.{Bool, false, not, cond, ◌&&◌, ◌||◌, List, ℕ, zero, suc, ◌+◌, eqb}
use Rattle.rules.specs.Ids.{once}
use Rattle.memory_columns.specs.Layout as Layout
use Rattle.memory_columns.specs.Layout.{max_tasks, entry, at_most}
use Rattle.memory_waits.specs.Waits.{released}

-- a timed wait, suspended or not
abbrev pub is_timed : ℕ → ℕ → Bool
is_timed s k = (eqb s 3 || eqb s 5) && eqb k 1

-- with one tick left: by status, kind and ticks
abbrev pub last_tick : ℕ → ℕ → ℕ → Bool
last_tick s k t = is_timed s k && eqb t 1

unfoldable pub ends_at : List ℕ → ℕ → Bool
ends_at b i = last_tick (entry Layout.status b i) (entry Layout.kind b i) (entry Layout.ticks b i)

-- 1 is the number kept for E_TMOUT
unfoldable pub expired_at : ℕ → List ℕ → List ℕ
expired_at i b = cond (ends_at b i) (released i 1 0 b) b

-- n tasks from i on
unfoldable pub expired : ℕ → ℕ → List ℕ → List ℕ
expired zero i b = b
expired (suc n) i b = expired n (suc i) (expired_at i b)

-- how many of them are released
unfoldable pub expiries : ℕ → ℕ → List ℕ → ℕ
expiries zero i b = 0
expiries (suc n) i b = once (ends_at b i) + expiries n (suc i) (expired_at i b)

-- the tasks that there are
abbrev pub tasks_at : List ℕ → ℕ
tasks_at b = at_most (entry Layout.system b Layout.tasks) max_tasks

-- the test holds of one of n numbers from i on
unfoldable pub any_from : (ℕ → Bool) → ℕ → ℕ → Bool
any_from p zero i = false
any_from p (suc n) i = p i || any_from p n (suc i)

-- a tick is left of task i; and just one
abbrev pub has_left : List ℕ → ℕ → Bool
has_left b i = not (eqb (entry Layout.ticks b i) 0)

abbrev pub has_one : List ℕ → ℕ → Bool
has_one b i = eqb (entry Layout.ticks b i) 1
