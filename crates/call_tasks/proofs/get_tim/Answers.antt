-- `call_tasks::get_tim` meets its contract. It is its rule. Assumes nothing.
use Rattle.call_tasks.proofs.TaskCalls.{tim_done}
use Rattle.call_tasks.proofs.get_tim.Goals as goal

pub returns : goal.returns
returns c =
    tim_done c.get-high.ensures c.get-low.ensures c.gives.ensures
