-- What comes back of an event, and the reading of a cell.
use Rattle.std.specs.Prelude.{Bool, cond, ◌&&◌, ◌||◌, List, [], ◌∷◌, ℕ, ◌+◌, ℤ, pos, length}
use Rattle.rules.specs.Ids.{once}
use Rattle.rules.specs.Codes.{Code, E-NOEXS, number}
use Rattle.rules.specs.State.{State, Cell, Task, Body, task, is_absent, is_waiting, is_freed}
use Rattle.rules.specs.Events.{nat, outside}
use Rattle.rules.specs.View.{View, running}
use Rattle.rules.specs.Verdicts.{Verdict}

-- code, words w1 and w2, the running task after the event (0 if none), and the number released
pub record Answer : Type 0 where
  pub code : Code
  pub w1 : ℕ
  pub w2 : ℕ
  pub runs : ℕ
  pub released : ℕ

-- in WAIT or WAIT-SUSPEND before and in READY, RUN or SUSPEND after
abbrev pub is_released : State → State → Bool
is_released before after = is_waiting before && is_freed after

-- the number of such tasks, by comparing the states before and after
unfoldable pub released_count : List Task → List Task → ℕ
released_count [] l = 0
released_count (t ∷ ts) [] = 0
released_count (t ∷ ts) (u ∷ us) = once (is_released t.state u.state) + released_count ts us

-- from the verdict and the views before and after
unfoldable pub answer : Verdict → View → View → Answer
answer r v w = record { code = r.code; w1 = r.w1; w2 = r.w2; runs = running w; released = released_count v.body.tasks w.body.tasks }

-- the answer's five numbers, as a recorded run lists them
abbrev pub numbers : Answer → List ℤ
numbers a = number a.code ∷ pos a.w1 ∷ pos a.w2 ∷ pos a.runs ∷ pos a.released ∷ []

-- A cell is read by task id: E_NOEXS for a bad id and for a task that is not there, with word 0.
unfoldable pub read_cell : Body → ℤ → Cell
read_cell b a = cond (outside a (length b.tasks) || is_absent (task b (nat a)).state) (record { code = E-NOEXS; word = 0 }) (task b (nat a)).cell
