-- What is read of a task, as tests and numbers of the words.
use Rattle.std.specs.Prelude.{Bool, cond, ◌&&◌, ◌||◌, List, ℕ, eqb, leb}
use Rattle.memory_columns.specs.Layout as Layout
use Rattle.memory_columns.specs.Layout.{entry}
use Rattle.memory_running.specs.Running.{head_at, best_of, running_of}

-- WAIT or WAIT-SUSPEND
abbrev pub waits_at : List ℕ → ℕ → Bool
waits_at b i = eqb (entry Layout.status b i) 3 || eqb (entry Layout.status b i) 5

-- SUSPEND or WAIT-SUSPEND
abbrev pub halted_at : List ℕ → ℕ → Bool
halted_at b i = eqb (entry Layout.status b i) 4 || eqb (entry Layout.status b i) 5

-- waits for a wake-up: kind 0 or 1
abbrev pub sleeps_at : List ℕ → ℕ → Bool
sleeps_at b i = waits_at b i && leb (entry Layout.kind b i) 1

-- the wake-ups, 0 for a number above the tasks'
unfoldable pub wakeups_at : List ℕ → ℕ → ℕ
wakeups_at b i = cond (leb i (entry Layout.system b 1)) (entry Layout.wakeups b i) 0

-- the state's number, with 2 for the running task
unfoldable pub number_at : List ℕ → ℕ → ℕ
number_at b i = cond (eqb (entry Layout.status b i) 1) (cond (eqb i (running_of b)) 2 1) (entry Layout.status b i)

-- the head of the ready queue of a priority; 0 names the best queue
unfoldable pub turn_at : List ℕ → ℕ → ℕ
turn_at b p = cond (eqb p 0) (best_of b) (head_at b p)
