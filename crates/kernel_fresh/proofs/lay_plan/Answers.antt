use Rattle.kernel_fresh.proofs.Steps.{plan_small, laid_steps}
use Rattle.kernel_fresh.proofs.lay_plan.Goals as goal

pub lay_entries-requires : goal.lay_entries-requires
lay_entries-requires c = plan_small _ c.plan_of-p.ensures

pub empty_all-requires : goal.empty_all-requires
empty_all-requires c =
    let f = plan_small _ c.plan_of-p.ensures in
    (f.priorities, f.semaphores, f.flags, f.mailboxes, f.pools)

pub returns : goal.returns
returns c =
    (c.plan_of-p.ensures, laid_steps _ c.plan_of-p.ensures c.lay_counts.ensures c.lay_entries.ensures c.empty_all.ensures)
