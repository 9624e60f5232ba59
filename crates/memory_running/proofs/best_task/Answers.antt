-- `memory_running::best_task` meets its contract. By the word of nonempty queues. Assumes nothing.
use native.Mathlib.Omega.{arith}
use Rattle.memory_running.proofs.Marks.{best_none, best_first}
use Rattle.memory_running.proofs.best_task.Goals as goal

pub returns-then-marks-eq0 : goal.returns-then-marks-eq0
returns-then-marks-eq0 c = best_none _ c.get-marks.ensures c.if-marks-eq0.true

pub returns : goal.returns
returns c = best_first _ c.get-marks.ensures c.if-marks-eq0.false (omega arith) c.ready_anchor.ensures c.first.ensures
