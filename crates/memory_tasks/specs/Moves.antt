-- What each act on a task does to the words, for any words. The numbers of states are those of tsk_sts (0 DORMANT, 1 READY, 3 WAIT,
-- 4 SUSPEND, 5 WAIT-SUSPEND; 2, RUN, is not kept), and 6 of one that is not there.
use Rattle.std.specs.Prelude.{cond, List, ℕ, eqb}
use Rattle.memory_columns.specs.Layout.{status, priority, start, wakeups, code, word, ticks, entry, put}
use Rattle.memory_queues.specs.Moves.{ready_anchor, queued, unqueued}

abbrev pub celled : ℕ → ℕ → ℕ → List ℕ → List ℕ
celled t c w b = put word t w (put code t c b)

unfoldable pub rotated : ℕ → List ℕ → List ℕ
rotated t b = queued (ready_anchor (entry priority b t)) t (unqueued t b)

unfoldable pub readied : ℕ → List ℕ → List ℕ
readied t b = rotated t (put status t 1 b)

unfoldable pub started : ℕ → List ℕ → List ℕ
started t b = readied t (celled t 0 0 (put priority t (entry start b t) b))

unfoldable pub retired : ℕ → List ℕ → List ℕ
retired t b = unqueued t (put ticks t 0 (put wakeups t 0 (put priority t (entry start b t) (put status t 0 b))))

-- status and priority, also as the starting priority; no wake-ups
unfoldable pub ranked : ℕ → ℕ → ℕ → List ℕ → List ℕ
ranked t s p b = put wakeups t 0 (put start t p (put priority t p (put status t s b)))

unfoldable pub created : ℕ → ℕ → List ℕ → List ℕ
created t p b = unqueued t (ranked t 0 p b)

unfoldable pub deleted : ℕ → List ℕ → List ℕ
deleted t b = unqueued t (celled t 0 0 (ranked t 6 0 b))

unfoldable pub regraded : ℕ → ℕ → List ℕ → List ℕ
regraded t p b = cond (eqb (entry status b t) 1) (rotated t (put priority t p b)) (put priority t p b)
