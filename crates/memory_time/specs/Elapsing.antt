-- What a tick does to the words, for any words: to the waits, the clock and the counter.
use Rattle.std.specs.Prelude.{cond, List, ℕ, zero, suc, pred, ◌%◌, ◌^◌, eqb}
use Rattle.rules.specs.Acts.{count_after}
use Rattle.memory_columns.specs.Layout as Layout
use Rattle.memory_columns.specs.Layout.{max_tasks, ticks, system, counter, entry, put, at_most}

-- a tick less is left of task t, if any is. Of a task that is in no timed wait the word is no part of the state
unfoldable pub aged : ℕ → List ℕ → List ℕ
aged t b = put ticks t (pred (entry ticks b t)) b

-- n tasks from t on
unfoldable pub aged_from : ℕ → ℕ → List ℕ → List ℕ
aged_from zero t b = b
aged_from (suc n) t b = aged_from n (suc t) (aged t b)

-- all tasks
unfoldable pub aged_all : List ℕ → List ℕ
aged_all b = aged_from (at_most (entry system b Layout.tasks) max_tasks) 1 b

-- the clock's low half, and the high half when the low one comes to 0
unfoldable pub clocked : List ℕ → List ℕ
clocked b =
    let low : ℕ = suc (entry system b Layout.clock_low) % 2 ^ 32 in
    cond (eqb low 0) (put system Layout.clock_high (suc (entry system b Layout.clock_high) % 2 ^ 16) (put system Layout.clock_low 0 b)) (put system Layout.clock_low low b)

-- the counter's step; where there is none nothing changes
unfoldable pub counted : List ℕ → List ℕ
counted b = cond (eqb (entry counter b Layout.counter_size) 0) b (put counter Layout.counter_now (count_after (entry counter b Layout.counter_size) (entry counter b Layout.counter_now)) b)

unfoldable pub elapsed : List ℕ → List ℕ
elapsed b = counted (clocked (aged_all b))
