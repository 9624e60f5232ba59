-- `kernel_cells::running` meets its contract. By the verdict. Assumes nothing.
use Rattle.kernel_cells.proofs.Promised.{runs, idle}
use Rattle.kernel_cells.proofs.running.Goals as goal

pub returns-then-accepts : goal.returns-then-accepts
returns-then-accepts c = runs c.accepts.ensures c.if-accepts.true c.running_task.ensures

pub returns-else-accepts : goal.returns-else-accepts
returns-else-accepts c = idle c.accepts.ensures c.if-accepts.false
