use mathlib.Core.Path.{refl}
use Rattle.kernel_start.proofs.Steps.{tasks_small, pools_small, fresh_steps}
use Rattle.kernel_start.proofs.lay_fresh.Goals as goal

pub free_pools-requires : goal.free_pools-requires
free_pools-requires c = pools_small _ c.lay_plan-p.ensures.0

pub begin_tasks-requires : goal.begin_tasks-requires
begin_tasks-requires c = tasks_small _ c.lay_plan-p.ensures.0

pub returns : goal.returns
returns c =
    (fresh_steps _ c.lay_plan-p.ensures.0 c.lay_plan-p.ensures.1 c.free_pools.ensures c.begin_tasks.ensures, refl)
