-- `memory_running::running_task` meets its contract. By whether a handler is open. Assumes nothing.
use Rattle.memory_running.proofs.Marks.{running_best, running_interrupted}
use Rattle.memory_running.proofs.running_task.Goals as goal

pub returns-then-is_open : goal.returns-then-is_open
returns-then-is_open c = running_interrupted _ c.is_open.ensures c.if-is_open.true c.get.ensures

pub returns-else-is_open : goal.returns-else-is_open
returns-else-is_open c = running_best _ c.is_open.ensures c.if-is_open.false c.best_task.ensures
