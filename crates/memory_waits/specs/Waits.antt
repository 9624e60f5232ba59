-- What the acts on waits do to the words, for any words. The numbers of states are those of tsk_sts (`memory_tasks` `Moves`). The kinds of a
-- wait: 0 asleep, 1 timed, 2 semaphore, 3 flag, 4 mailbox, 5 pool.
use Rattle.std.specs.Prelude.{cond, List, ℕ, eqb}
use Rattle.memory_columns.specs.Layout.{status, kind, object, wish, mode, ticks, entry, put}
use Rattle.memory_queues.specs.Moves.{wait_anchor, queued, unqueued}
use Rattle.memory_tasks.specs.Moves.{celled, readied}

-- its wait is over: the cell, and no tick is left of it
abbrev pub ended : ℕ → ℕ → ℕ → List ℕ → List ℕ
ended t c w b = put ticks t 0 (celled t c w b)

unfoldable pub halted : ℕ → List ℕ → List ℕ
halted t b = cond (eqb (entry status b t) 1) (unqueued t (put status t 4 b)) (cond (eqb (entry status b t) 3) (put status t 5 b) b)

unfoldable pub resumed : ℕ → List ℕ → List ℕ
resumed t b = cond (eqb (entry status b t) 4) (readied t b) (cond (eqb (entry status b t) 5) (put status t 3 b) b)

unfoldable pub released : ℕ → ℕ → ℕ → List ℕ → List ℕ
released t c w b =
    cond (eqb (entry status b t) 3) (readied t (ended t c w b))
    (cond (eqb (entry status b t) 5) (unqueued t (put status t 4 (ended t c w b))) b)

-- kind, object, pattern, mode and ticks of the wait
unfoldable pub awaiting : ℕ → ℕ → ℕ → ℕ → ℕ → ℕ → List ℕ → List ℕ
awaiting t k o p m n b = put ticks t n (put mode t m (put wish t p (put object t o (put kind t k (put status t 3 b)))))

-- a sleeper stands in no queue, a waiter on an object in that object's
unfoldable pub slept : ℕ → ℕ → ℕ → List ℕ → List ℕ
slept t k n b = unqueued t (awaiting t k 0 0 0 n b)

unfoldable pub waited : ℕ → ℕ → ℕ → ℕ → ℕ → List ℕ → List ℕ
waited t k o p m b = queued (wait_anchor k o) t (unqueued t (awaiting t k o p m 0 b))
