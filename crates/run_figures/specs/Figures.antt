-- The figures of a recorded run, from its bytes alone: after how many events each task was in each state, and how often each code came back.
use Rattle.std.specs.Prelude.{List, [], ◌∷◌, ◌++◌, ℕ, suc, min, eqb, ℤ, length, replicate}
use Rattle.rules.specs.Codes.{number}
use Rattle.rules.specs.State.{task}
use Rattle.rules.specs.View.{View, running}
use Rattle.rules.specs.Tasks.{state_number}
use Rattle.rules.specs.Kernel.{event}
use Rattle.run_reading.specs.Recorded.{Item, begins, occurs, refuses, items_of}
use Rattle.run_tally.specs.Tables.{states, table_counted, codes_counted}
use Rattle.run_text.specs.Text.{Stage, unstarted, at, onward, queues}

-- ---- counts

pub record Figures : Type 0 where
  -- by task and state
  pub table : List (List ℕ)
  -- by code
  pub codes : List ℕ

abbrev pub figures : List (List ℕ) → List ℕ → Figures
figures t c = record { table = t; codes = c }

abbrev pub most_tasks : ℕ
most_tasks = 32

abbrev pub none : Figures
none = figures (replicate most_tasks (replicate states 0)) (replicate 29 0)

-- what is seen of an event: its code, how many tasks there are, and the state of each after it, from task 1 on
pub record Seen : Type 0 where
  pub code : ℤ
  pub tasks : ℕ
  pub state : ℕ → ℕ

-- of each task the cell of its state, and the count of the code
abbrev pub counted : Figures → Seen → Figures
counted f x = figures (table_counted (min x.tasks most_tasks) x.state f.table) (codes_counted f.codes x.code)

unfoldable pub counted_all : Figures → List Seen → Figures
counted_all f [] = f
counted_all f (x ∷ l) = counted_all (counted f x) l

-- ---- by the rules

-- the state of a task, as tsk_sts shows it
abbrev pub state_in : View → ℕ → ℕ
state_in v i = state_number (task v.body i).state (eqb i (running v))

abbrev pub seen_behind : ℤ → View → Seen
seen_behind c v = record { code = c; tasks = length v.body.tasks; state = λ i. state_in v (suc i) }

-- of an event: its answer's code, and the state behind it
abbrev pub seen_of : Stage View → Item → List Seen
seen_of x (begins h) = []
seen_of (at v) (occurs i e) = seen_behind (number (event v e).answer.code) (event v e).next ∷ []
seen_of unstarted (occurs i e) = []
seen_of x (refuses f place) = []

unfoldable pub seen_from : Stage View → List Item → List Seen
seen_from x [] = []
seen_from x (i ∷ l) = seen_of x i ++ seen_from (onward queues x i) l

-- the figures of a run
unfoldable pub figures_of : List ℕ → Figures
figures_of s = counted_all none (seen_from unstarted (items_of s))
